use Rattle.std.proofs.Common.{refl, rules}
use Rattle.run_model.specs.declared.event.PageEvent.TheVariants.{Page}
use Rattle.run_events.proofs.DoneEvents.{page_only}
use Rattle.run_events.proofs.DoneFirst.{only_stopped}
use Rattle.run_events.proofs.EventsLeft.{paged-left}
use Rattle.run_events.proofs.formatter.Formatter.perform_on_page.Goals as goal

pub returns-in-Some : goal.returns-in-Some
returns-in-Some g c = only_stopped (Page c.args.event) _ _ _ _ c.in-Some.name _ (paged-left c.args.event) (λ g. refl) c.in-Some.ensures c.stopped_by.ensures.due c.stopped_by.ensures.is

pub returns-in-None : goal.returns-in-None
returns-in-None g c = page_only c.args.event _ c.begin_first_on.new.self _ _ _ _ c.in-None.ensures (search rules) c.do_on_page.ensures
