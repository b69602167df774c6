use Rattle.std.proofs.Common.{refl, sym}
use Rattle.run_turns.proofs.BytesActed.{byte_acts, byte_halts}
use Rattle.run_turns.proofs.running.Running.take.Goals as goal

pub returns-in-Ok : goal.returns-in-Ok
returns-in-Ok g c = λ failures.
    byte_acts c.args.byte _ c.args.self.now _ c.go_on.new.self failures c.in-Ok.sprung _ _ refl refl c.in-Ok.ensures (c.go_on.ensures failures)

pub returns-in-Err : goal.returns-in-Err
returns-in-Err g c = λ failures.
    byte_halts c.args.byte _ c.args.self.now _ failures c.in-Err.halt _ _ c.line-line.result refl (sym c.line-line.ensures) c.in-Err.ensures
    (λ t left start. c.halted.ensures t left start failures _)
