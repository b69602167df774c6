use Rattle.std.proofs.Common.{refl}
use Rattle.page_model.specs.declared.event.Event.TheVariants.{Break}
use Rattle.run_model.specs.Output.{text_of}
use Rattle.run_model.specs.declared.event.PageEvent.TheVariants.{Text}
use Rattle.run_events.proofs.DoneEvents.{lines_behind, reached_behind, text_put_here}
use Rattle.run_events.proofs.DoneFirst.{ready_then, unfielded_first, unfielded_page}
use Rattle.run_events.proofs.formatter.Formatter.brk.Goals as goal

pub returns-in-Some : goal.returns-in-Some
returns-in-Some g c = unfielded_page (Text Break) _ _ _ _ c.in-Some.name _ (λ h begun. refl) c.in-Some.ensures c.stopped_by.ensures.due c.stopped_by.ensures.is

pub returns-in-None : goal.returns-in-None
returns-in-None g c = unfielded_first (Text Break) (Text Break) _ _ _ _ _ (λ rs. refl) (λ g. refl) (λ sprung is. refl) (ready_then _ _ _ c.begin_first_for.new.self _ _ _ _ c.in-None.ensures
    (text_put_here Break _ _ _ _ _ _ (λ h. refl) (λ l h stood. c.brk-line.ensures.line l.line (text_of h) stood.environments.in_force.lines)
    (reached_behind Break c.begin_first_for.new.self.composer _ (λ h. refl) c.brk-line.follows.holds-at-none)
    (lines_behind Break c.begin_first_for.new.self.composer _ (λ trap. refl) c.brk-line.follows.holds-at-none)
    c.put_finished.ensures))
