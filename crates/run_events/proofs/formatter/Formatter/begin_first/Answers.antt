use Rattle.std.proofs.Common.{◌∙◌, rules, sym}
use Rattle.run_model.specs.Output.{layout_of}
use Rattle.run_events.proofs.FirstPages.{begins_always, ready_needing, ready_taking}
use Rattle.run_events.proofs.formatter.Formatter.begin_first.Goals as goal

pub returns-then-takes_text : goal.returns-then-takes_text
returns-then-takes_text c = λ e needs. ready_taking e _ (λ l h stood. sym (c.takes_text.ensures (layout_of h) stood.pages) ∙ search rules)

pub returns : goal.returns
returns c = λ e needs. ready_needing e _ _ _ (λ l h stood. sym (c.takes_text.ensures (layout_of h) stood.pages) ∙ search rules)
    (begins_always e _ _ _ needs c.begin_page.ensures)
