-- What is read does at the next item, by whether something is half read.
use Rattle.std.proofs.Common.{◌≡◌, true, List, [], ◌∷◌, length, refl, ap, not, ◌==◌}
use Rattle.input_model.specs.declared.place.Place.{Place}
use Rattle.input_escapes.specs.OpenEscape.{OpenEscape}
use Rattle.input_escapes.specs.Waiting.{waiting_of}
use Rattle.run_model.specs.Reading.Waiting.{copies_in, line_waits, waiting_above}
use Rattle.run_model.specs.declared.line_state.LineState.{LineState}

-- where something is, that does
pub with_half : (reading : LineState) (place : Place) (half : List OpenEscape) → not (length half == 0) ≡ true
    → waiting_of (copies_in reading) half ≡ waiting_above reading place half
with_half reading place [] some = cc
with_half reading place (first ∷ others) some = refl

-- where nothing is, the line does
pub without_half : (reading : LineState) (place : Place) (half : List OpenEscape) → half ≡ [] → waiting_above reading place half ≡ line_waits reading place
without_half reading place half none = ap (λ (h : List OpenEscape). waiting_above reading place h) none
