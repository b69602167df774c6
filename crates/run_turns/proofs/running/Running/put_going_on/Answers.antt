use Rattle.std.proofs.Common.{◌∙◌, ap, sym}
use Rattle.run_events.specs.Formatter.Sprung.{is_going_on}
use Rattle.run_events.specs.declared.sprung.Left.{Left}
use Rattle.run_turns.proofs.PuttingBack.{puts_going_on, puts_gone}
use Rattle.run_turns.proofs.running.Running.put_going_on.Goals as goal

pub returns-in-Some : goal.returns-in-Some
returns-in-Some c = puts_going_on c.args.sprung c.args.self.now c.put_back.new.self c.keep_title_of-event.new.self c.put_back-in-Some.new.self c.in-Some.event
    (ap (λ (why : Left). is_going_on why) c.requires)
    c.put_back.ensures (sym c.event.ensures.at ∙ c.in-Some.is)
    (rw c.going_on.ensures at c.keep_title_of-event.ensures.kept) (rw (c.keep_title_of-event.ensures.event, c.going_on.ensures) at c.put_back-in-Some.ensures.change)

pub returns-in_default : goal.returns-in_default
returns-in_default c = puts_gone c.args.sprung c.args.self.now _ c.put_back.ensures (sym c.event.ensures.at ∙ c.in_default.is)
