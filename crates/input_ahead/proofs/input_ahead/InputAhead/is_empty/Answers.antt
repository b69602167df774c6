use Rattle.std.proofs.Common.{sym, ap, ◌∙◌}
use Rattle.input_model.specs.Input.{is_none_ahead}
use Rattle.input_ahead.specs.InputAhead.Kept.{AheadAndTexts}
use Rattle.input_ahead.proofs.Bodies.{none-with_bodies}
use Rattle.input_ahead.proofs.input_ahead.InputAhead.is_empty.Goals as goal

pub returns : goal.returns
returns g c =
    let inside = c.self.inside in
    let none = none-with_bodies inside.texts inside.pushed_texts.ahead c.self.invariant.give in
    c.is_empty.ensures ∙ sym none ∙ ap (λ (f : AheadAndTexts _). is_none_ahead f.ahead) c.self.view_is
