use Rattle.run_items.proofs.LastLeft.{line_told-same}
use Rattle.run_turns.proofs.LeftPerformed.{stops_halted, stops_next}
use Rattle.run_turns.proofs.running.Running.perform_left.Goals as goal

pub returns-in-Ok : goal.returns-in-Ok
returns-in-Ok g c = λ failures. stops_next c.args.sprung c.args.self.now _ _ _ failures _ c.requires c.in-Ok.next c.in-Ok.ensures

pub returns-in-Err : goal.returns-in-Err
returns-in-Err g c = λ failures. stops_halted c.args.sprung c.args.self.now _ _ _ failures _ c.requires c.in-Err.halt _ _ c.in-Err.ensures
    (λ t tape start halts. c.halted.ensures t tape start failures _ (rw (line_told-same c.in-Err.halt c.line-line.result, c.line-line.ensures) halts))
