use Rattle.std.proofs.Common.{◌∙◌, rules, sym}
use Rattle.run_model.specs.Output.{layout_of}
use Rattle.run_model.specs.declared.event.PageEvent.TheVariants.{Text}
use Rattle.run_events.proofs.FirstPages.{ready_needing, ready_taking}
use Rattle.run_events.proofs.formatter.Formatter.begin_first_for.Goals as goal

pub returns-then-takes_text : goal.returns-then-takes_text
returns-then-takes_text c = ready_taking (Text c.args.event) _ (λ l h stood. sym (c.takes_text.ensures (layout_of h) stood.pages) ∙ search rules)

pub returns : goal.returns
returns c = ready_needing (Text c.args.event) _ _ _ (λ l h stood. sym (c.takes_text.ensures (layout_of h) stood.pages) ∙ search rules) c.begin_page_for.ensures
