use Rattle.std.proofs.Common.{◌∙◌, ◌≡◌, ap, rules, sym, is_some}
use Rattle.page_model.specs.Behind.{finished}
use Rattle.page_model.specs.declared.event.Event.TheVariants.{Break}
use Rattle.run_model.specs.Output.{layout_of, text_of}
use Rattle.run_events.proofs.FirstPages.{closes, needs-finishing}
use Rattle.run_events.proofs.formatter.Formatter.needs_page_for.Goals as goal

pub returns-else-not-is_closing : goal.returns-else-not-is_closing
returns-else-not-is_closing c = λ l h stood.
    let is : c.args.event ≡ Break = c.in-Break.is in
    let closing : (layout_of h).is_closing ≡ c.is_closing.result = sym (c.is_closing.ensures (layout_of h) stood.pages) in
    rw is (c.finishes-finishes.ensures l.line (text_of h) stood.environments.in_force.lines ∙ ap (λ e. is_some (finished (text_of h) e)) is
    ∙ closes (layout_of h).is_closing (is_some (finished (text_of h) Break)) (closing ∙ search rules))

pub returns-in_default : goal.returns-in_default
returns-in_default c = λ l h stood.
    c.finishes-finishes.ensures l.line (text_of h) stood.environments.in_force.lines
    ∙ needs-finishing c.args.event h c.in_default.not-Print c.in_default.not-Tab c.in_default.not-Break
