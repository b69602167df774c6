-- What is half read ended at once, and meant nothing.
use Rattle.std.proofs.Common.{◌≡◌, ℕ, Bool, true, false, List, [], ◌∷◌, Option, Some, None, refl, sym, ap, ◌∙◌}
use Rattle.input_model.specs.declared.place.Place.{Place}
use Rattle.input_escapes.specs.OpenEscape.{OpenEscape}
use Rattle.input_escapes.specs.OpenEscapes.{reading_ended}
use Rattle.input_escapes.specs.Waiting.{decides, waiting_of}
use Rattle.input_escapes.specs.declared.open_escape.Found.{Found}
use Rattle.input_escapes.specs.declared.open_escape.Found.TheVariants.{GoesOn}
use Rattle.input_escapes.specs.declared.open_escape.Surroundings.{Surroundings}
use Rattle.input_escapes.specs.declared.open_escape.Surroundings.TheVariants.{Arguments as AboveArguments, Copy as AboveCopy}
use Rattle.input_escapes.specs.declared.open_escape.Waiting.{Waiting}
use Rattle.input_escapes.specs.declared.open_escape.Waiting.TheVariants.{Decides, Takes, Waits}
use Rattle.input_model.specs.Shown.{Sighted, SeesByte, SeesEnding, SeesNote, SeesNothing, byte_seen}
use Rattle.input_model.specs.Unread.{EndsDecided, reading}
use Rattle.run_model.specs.Reading.{escape_ended}
use Rattle.run_model.specs.Reading.Branches.{branch_of}
use Rattle.run_model.specs.Reading.Found.{found_in}
use Rattle.run_model.specs.Reading.Items.{PageInput, PageUnread, Taking, going_on}
use Rattle.run_model.specs.Reading.Waiting.{waiting_above}
use Rattle.run_model.specs.Registers.{Known}
use Rattle.run_model.specs.declared.line_state.LineState.{LineState}
use Rattle.run_model.specs.declared.line_state.LineState.TheVariants.{Deciding}
use Rattle.run_items.specs.Room.{FewFor}

-- there is room for what is left of what ends so
abbrev pub FewBehind : LineState → PageInput → Type 0
FewBehind reading i =
    (k : Known) → FewFor [] reading i.escapes i.ahead → let t : Taking = escape_ended k reading i in FewFor t.effect.events t.reading t.input.escapes i.ahead

-- what is half read of a condition ends as the definition ends it
pub decided-at_once : (so : Bool) (before after : PageUnread) → EndsDecided (Some so) before after
    → (k : Known) → escape_ended k (Deciding false) before.input ≡ going_on after.input (branch_of so)
decided-at_once so before after ends k = sym (ap (λ (p : Found × PageUnread). found_in k p.1.input (Deciding false) p.0) (ends AboveArguments))

pub expression-at_once : (keeps : Bool) (before after : PageUnread) → ((base : Surroundings) → (GoesOn, after) ≡ reading (reading_ended base before.input.escapes) before)
    → (k : Known) → escape_ended k (Deciding keeps) before.input ≡ going_on after.input (Deciding keeps)
expression-at_once keeps before after ends k = sym (ap (λ (p : Found × PageUnread). found_in k p.1.input (Deciding keeps) p.0) (ends AboveArguments))

-- nothing else changes
pub unread-read : (found : Found) (r : Found × List OpenEscape) (before after : PageUnread) → (found, after) ≡ reading r before → after ≡ record before { input = after.input }
unread-read found r before after is =
    let same : after ≡ (reading r before).1 = ap (λ (p : Found × PageUnread). p.1) is in
    same ∙ ap (λ (i : PageInput). record before { input = i }) (sym (ap (λ (u : PageUnread). u.input) same))

pub ahead-read : (found : Found) (r : Found × List OpenEscape) (before after : PageUnread) → (found, after) ≡ reading r before → after.input.ahead ≡ before.input.ahead
ahead-read found r before after is = ap (λ (p : Found × PageUnread). p.1.input.ahead) is

-- a condition that waits, or decides, does so where it is read
pub waits-deciding : (keeps : Bool) (place : Place) (half : List OpenEscape) → waiting_of AboveCopy half ≡ Waits → waiting_above (Deciding keeps) place half ≡ Waits
waits-deciding keeps place [] waits = cc
waits-deciding keeps place (first ∷ rest) waits = waits

pub is-decides : (w : Waiting) → decides w ≡ true → w ≡ Decides
is-decides Takes is = cc
is-decides Decides is = refl
is-decides Waits is = cc

pub decides-deciding : (keeps : Bool) (place : Place) (half : List OpenEscape) → decides (waiting_of AboveCopy half) ≡ true → waiting_above (Deciding keeps) place half ≡ Decides
decides-deciding keeps place [] is = cc
decides-deciding keeps place (first ∷ rest) is = is-decides (waiting_of AboveCopy (first ∷ rest)) is

-- a byte that is seen is what stands there
pub byte-seen : (seen : Option Sighted) (b : ℕ) → byte_seen seen ≡ Some b → seen ≡ Some (SeesByte b)
byte-seen None b is = cc
byte-seen (Some (SeesByte c)) b is = cc
byte-seen (Some SeesNothing) b is = cc
byte-seen (Some (SeesNote message)) b is = cc
byte-seen (Some (SeesEnding ending)) b is = cc
