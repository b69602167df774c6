use Rattle.std.proofs.Common.{ap}
use Rattle.run_events.specs.Formatter.Sprung.{is_going_on}
use Rattle.run_events.specs.declared.sprung.Left.{Left}
use Rattle.run_turns.proofs.PuttingBack.{puts_left}
use Rattle.run_turns.proofs.running.Running.put_left_back.Goals as goal

pub returns-in-Springs : goal.returns-in-Springs
returns-in-Springs c = puts_left c.args.sprung c.args.self.now _ (ap (λ (why : Left). is_going_on why) c.in-Springs.is) c.put_back.ensures

pub returns-in-Diverts : goal.returns-in-Diverts
returns-in-Diverts c = puts_left c.args.sprung c.args.self.now _ (ap (λ (why : Left). is_going_on why) c.in-Diverts.is) c.put_back-in-Diverts.ensures
