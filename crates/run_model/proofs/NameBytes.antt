-- The bytes of a name behind a control character.
use Rattle.std.proofs.Common.{◌≡◌, ℕ, Bool, true, false, List, [], refl, ap, ◌∙◌, ◌||◌, if◌then◌else◌, ◌==◌}
use Rattle.input_model.specs.Arguments.{Arguments}
use Rattle.input_source.specs.Bytes.{backslash, blank, is_dropped, newline}
use Rattle.roff_store.specs.Named.{Named}
use Rattle.roff_store.specs.Texts.{Entry}
use Rattle.run_model.proofs.ItemsTaken.{not-first, not-second}
use Rattle.run_model.specs.Reading.ControlLines.{BelongsToName, ends_name}
use Rattle.run_model.specs.Reading.{undropped_taking}
use Rattle.run_model.specs.Reading.Items.{PageInput, going_on}
use Rattle.run_model.specs.Stages.{Stage, Turns, input_at}
use Rattle.run_model.specs.declared.line_state.LineState.{LineState}
use Rattle.run_model.specs.declared.line_state.LineState.TheVariants.{Control, Dropped, LineStart, Name}

-- a stage
abbrev pub stage : LineState → Arguments → List (List ℕ) → Stage
stage reading a texts = record { reading = reading; escapes = []; arguments = a; texts = texts }

-- a byte of a name
first-of-two : (x y z : Bool) → (x || (y || z)) ≡ false → (x || y) ≡ false
first-of-two true y z neither = neither
first-of-two false true z neither = neither
first-of-two false false z neither = refl

pub turns-first : (names : Named Entry) (a : Arguments) (texts : List (List ℕ)) (breaks : Bool) (b : ℕ) → BelongsToName b
    → Turns names (stage (Control breaks) a texts) b (stage (Name breaks b) a texts)
turns-first names a texts breaks b belongs k i =
    let here : PageInput = input_at names (stage (Control breaks) a texts) i in
    let no_end : ends_name b ≡ false = not-second (is_dropped b) (ends_name b) belongs in
    ap (λ (c : Bool). if c then going_on here (Control breaks) else undropped_taking k (Control breaks) here b) (not-first (is_dropped b) (ends_name b) belongs)
    ∙ ap (λ (c : Bool). if c then going_on here (Control breaks) else if ends_name b then going_on here (if b == newline then LineStart else Dropped) else going_on here (Name breaks b))
    (first-of-two (b == blank) (b == 9) (b == newline || b == backslash) no_end)
    ∙ ap (λ (c : Bool). if c then going_on here (if b == newline then LineStart else Dropped) else going_on here (Name breaks b)) no_end
