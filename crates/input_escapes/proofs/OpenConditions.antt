-- A byte that delimits no texts of a condition.
use Rattle.std.proofs.Common.{◌≡◌, ℕ, Bool, false, List, Option, refl, ap, ◌==◌, if◌then◌else◌}
use Rattle.input_escapes.specs.Conditions.{byte_of_condition, byte_or_backslash, delimiter_met}
use Rattle.input_escapes.specs.OpenEscape.{OpenEscape}
use Rattle.input_escapes.specs.declared.open_escape.ConditionPart.{ConditionPart}
use Rattle.input_escapes.specs.declared.open_escape.ConditionPart.TheVariants.{Choice, Expression, Decided, Compared}

-- a byte that delimits no texts of a condition
pub undelimited :
    (rest : List OpenEscape) (part : ConditionPart) (text : List ℕ) (b : ℕ)
    → ((negated : Bool) (d : ℕ) (first : Option ℕ) → part ≡ Compared negated d first → (b == d) ≡ false)
    → byte_of_condition rest part text b ≡ byte_or_backslash rest part text b
undelimited rest (Choice negated) text b none = refl
undelimited rest (Expression negated) text b none = refl
undelimited rest (Compared negated d first) text b none =
    ap (λ (c : Bool). if c then delimiter_met rest negated d first text else byte_or_backslash rest (Compared negated d first) text b) (none negated d first refl)
undelimited rest (Decided decision freed) text b none = refl
