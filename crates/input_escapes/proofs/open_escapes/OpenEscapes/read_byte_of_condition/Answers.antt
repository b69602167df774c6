use Rattle.std.proofs.Common.{◌≡◌, ◌∙◌, ◌∷◌, ℕ, Bool, false, Option, sym, ap, ◌==◌, ne_eqb}
use Rattle.input_escapes.specs.Conditions.{byte_or_backslash}
use Rattle.input_escapes.specs.OpenEscape.{Condition}
use Rattle.input_escapes.specs.EscapeTexts.{leaving}
use Rattle.input_escapes.specs.OpenEscapes.{Reads}
use Rattle.input_escapes.specs.declared.open_escape.ConditionPart.{ConditionPart}
use Rattle.input_escapes.specs.declared.open_escape.ConditionPart.TheVariants.{Compared}
use Rattle.input_escapes.proofs.OpenConditions.{undelimited}
use Rattle.input_escapes.proofs.open_escapes.OpenEscapes.read_byte_of_condition.Goals as goal
use Rattle.input_escapes.proofs.open_escapes.OpenEscapes.read_byte_of_condition.Goals.{in-Compared+else-byte-delimiter, in_default}

pub returns : goal.returns
returns c = λ text rest same.
    let part : c.match-part.part ≡ c.args.part =
    elim c.match-part.branch [ in-Compared+else-byte-delimiter w ↦ w.part-is ∙ sym w.in-Compared.is | in_default w ↦ w.part-is ] in
    let none : (negated : Bool) (d : ℕ) (first : Option ℕ) → c.args.part ≡ Compared negated d first → (c.args.byte == d) ≡ false =
    λ negated d first is. elim c.match-part.branch [
      | in-Compared+else-byte-delimiter w ↦
          let other = ne_eqb c.args.byte w.in-Compared.delimiter w.if-byte-delimiter.false in
          let compared = w.in-Compared.is in
          cc
      | in_default w ↦ absurd (w.in_default.not-Compared negated d first is)
    ] in
    c.read_undelimited.ensures text rest (same ∙ ap (λ (p : ConditionPart). Condition p text ∷ rest) (sym part))
    ∙ ap (λ (p : ConditionPart). leaving (byte_or_backslash rest p text c.args.byte) c.args.self.now) part
    ∙ ap (λ (r : Reads). leaving r c.args.self.now) (sym (undelimited rest c.args.part text c.args.byte none))
