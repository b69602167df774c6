use Rattle.std.proofs.Common.{◌∙◌, rules, sym}
use Rattle.run_model.specs.Output.{layout_of}
use Rattle.run_model.specs.declared.event.PageEvent.TheVariants.{Page}
use Rattle.run_events.proofs.FirstPages.{begins_always, ready_always, ready_needing, ready_taking}
use Rattle.run_events.proofs.formatter.Formatter.begin_first_on.Goals as goal

pub returns-then-takes_text : goal.returns-then-takes_text
returns-then-takes_text c = ready_taking (Page c.args.event) _ (λ l h stood. sym (c.takes_text.ensures (layout_of h) stood.pages) ∙ search rules)

pub returns-then-needs_page : goal.returns-then-needs_page
returns-then-needs_page c = ready_needing (Page c.args.event) _ _ _ (λ l h stood. sym (c.takes_text.ensures (layout_of h) stood.pages) ∙ search rules)
    (begins_always (Page c.args.event) _ _ _ (λ h. sym c.needs_page.ensures ∙ search rules) c.begin_page.ensures)

pub returns : goal.returns
returns c = ready_always (Page c.args.event) _ (λ h. sym c.needs_page.ensures ∙ search rules)
