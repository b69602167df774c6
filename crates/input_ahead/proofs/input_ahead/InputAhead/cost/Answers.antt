use Rattle.std.proofs.Common.{sym, ap, ◌∙◌}
use Rattle.input_model.specs.Input.{DoAhead, front_cost}
use Rattle.input_ahead.specs.InputAhead.Kept.{AheadAndTexts}
use Rattle.input_ahead.proofs.Framing.{cost-with_bodies, cost_of_first}
use Rattle.input_ahead.proofs.input_ahead.InputAhead.cost.Goals as goal

pub returns-in-Some-Do : goal.returns-in-Some-Do
returns-in-Some-Do g c =
    let inside = c.self.inside in
    let front = rw c.in-Some-Do.field-0-is at c.in-Some-Do.ensures in
    let counted = cost_of_first inside.pushed_texts.ahead (DoAhead c.in-Some-Do.field-0-0) front in
    let given = cost-with_bodies inside.texts inside.pushed_texts.ahead c.self.invariant.give in
    sym counted ∙ sym given ∙ ap (λ (f : AheadAndTexts _). front_cost f.ahead) c.self.view_is
