use Rattle.std.proofs.Common.{ap, sym, ◌∙◌}
use Rattle.input_escapes.specs.EscapeTexts.{KeptEscapes}
use Rattle.input_escapes.specs.declared.open_escape.ConditionPart.TheVariants.{Choice}
use Rattle.input_escapes.specs.declared.open_escape.Found.{Found}
use Rattle.input_escapes.proofs.ConditionFronts.{takes-digit}
use Rattle.input_escapes.proofs.open_escapes.OpenEscapes.take_first.Goals as goal

pub returns : goal.returns
returns c =
    let a = c.args in
    let top = c.requires.on_top in
    let turned = ap (λ (p : Found × KeptEscapes). p.1) (c.turn.ensures (Choice a.negated) top.text top.rest top.same) in
    takes-digit a.negated a.begin a.byte a.self.now _ _ top (sym c.is_ascii_digit.ensures.value ∙ c.if-not-is_ascii_digit.false) turned c.hold.ensures
