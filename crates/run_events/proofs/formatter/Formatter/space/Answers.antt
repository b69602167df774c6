use Rattle.std.proofs.Common.{refl, rules, sym, false}
use Rattle.page_model.specs.declared.layout_event.LayoutEvent.TheVariants.{Space}
use Rattle.run_model.specs.declared.event.PageEvent.TheVariants.{Page}
use Rattle.run_events.proofs.DoneEvents.{page_only}
use Rattle.run_events.proofs.DoneFirst.{only_page}
use Rattle.run_events.proofs.Ejects.{going-not}
use Rattle.run_events.proofs.formatter.Formatter.space.Goals as goal

pub returns-in-Some : goal.returns-in-Some
returns-in-Some g c = only_page (Page (Space c.args.lines)) _ _ _ _ c.in-Some.name _ refl (λ g. refl) (c.in-Some.ensures (Page (Space c.args.lines)) (λ h. refl)) c.stopped_by.ensures.due c.stopped_by.ensures.is

pub returns-in-None : goal.returns-in-None
returns-in-None g c = page_only (Space c.args.lines) _ c.begin_first.new.self _ _ _ _ (c.in-None.ensures (Page (Space c.args.lines)) (λ h. refl)) (search rules)
    (record {
      done = c.space_on.result;
      puts = c.space_on.ensures;
      goes_on = false;
      is = λ L stands. refl;
      only = λ is. refl;
      left = sym (going-not c.space_on.result);
    })
