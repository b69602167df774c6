use Rattle.std.proofs.Common.{sym, ap, ◌∙◌}
use Rattle.input_model.specs.Input.{ends_ahead}
use Rattle.input_ahead.specs.InputAhead.Kept.{AheadAndTexts}
use Rattle.input_ahead.proofs.Bodies.{ends-with_bodies}
use Rattle.input_ahead.proofs.input_ahead.InputAhead.depth.Goals as goal

pub returns-clause-count : goal.returns-clause-count
returns-clause-count g c =
    let inside = c.self.inside in
    let counted = ends-with_bodies inside.texts inside.pushed_texts.ahead in
    c.depth.ensures.count ∙ sym counted ∙ ap (λ (f : AheadAndTexts _). ends_ahead f.ahead) c.self.view_is
