use Rattle.std.proofs.Common.{ap, refl}
use Rattle.run_events.specs.Formatter.Sprung.{text_first}
use Rattle.run_events.specs.declared.sprung.Left.{Left}
use Rattle.run_turns.proofs.Settling.{settles-done, settles-none, settles-stopped}
use Rattle.run_turns.proofs.running.Running.settle.Goals as goal

pub returns-in-Springs : goal.returns-in-Springs
returns-in-Springs g c = λ failures out. settles-none c.args.sprung c.args.self.now _ (λ text. ap (λ (why : Left). text_first why text) c.in-Springs.is)

pub returns-in-GoesOn : goal.returns-in-GoesOn
returns-in-GoesOn g c = λ failures out. settles-none c.args.sprung c.args.self.now _ (λ text. ap (λ (why : Left). text_first why text) c.in-GoesOn.is)

pub returns-in-Ok : goal.returns-in-Ok
returns-in-Ok g c = λ failures out. settles-done c.args.sprung c.args.self.now c.change_text.new.unread _ c.in-Diverts.is _ refl c.in-Ok.ensures

pub returns-in-Err : goal.returns-in-Err
returns-in-Err g c = λ failures out.
    settles-stopped c.args.sprung c.args.self.now c.change_text.new.unread _ c.in-Diverts.is _ c.in-Err.limit c.line-line.result _ _ refl c.line-line.ensures c.in-Err.ensures
    (λ t tape start halts. c.halted.ensures t tape start failures out halts)
