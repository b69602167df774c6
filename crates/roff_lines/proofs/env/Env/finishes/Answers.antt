use Rattle.std.proofs.Common.{Option, sym, ap, ◌∙◌, is_some}
use Rattle.page_model.specs.declared.event.Event.{Event}
use Rattle.page_model.specs.Behind.{finished}
use Rattle.page_model.specs.Lines.{Finished}
use Rattle.roff_lines.proofs.TabEnds.{finished_at_tab-stands}
use Rattle.roff_lines.proofs.env.Env.finishes.Goals as goal

pub returns-then-is_in_field : goal.returns-then-is_in_field
returns-then-is_in_field c line_cap h s =
    c.tab_finishes.ensures ∙ ap (λ (o : Option Finished). is_some o) (finished_at_tab-stands line_cap h c.args.self.now s)
    ∙ ap (λ (e : Event). is_some (finished h e)) (sym c.in-Tab.is)
