use Rattle.run_turns.proofs.Turns.{TurnsBy-same}
use Rattle.run_turns.proofs.WaitedBytes.{byte_alone}
use Rattle.run_turns.proofs.running.Running.turn_other.Goals as goal

pub returns-in-Some : goal.returns-in-Some
returns-in-Some g c =
    let shown = c.in-Some.ensures in
    byte_alone c.args.self.now _ _ _ _ _ _ shown.failures shown.notes c.in-Some.byte c.line-line.result c.take.new.self _ _ shown.takes c.requires.none_half c.line-line.ensures (c.take.ensures _)

pub returns-in-None : goal.returns-in-None
returns-in-None g c =
    let kept = c.take_ready.ensures.unchanged c.in-None.is in
    let turned = rw kept.1 at c.turn_line.ensures in
    TurnsBy-same _ _ _ _ _ c.args.self.now c.turn_line.new.self c.take_ready.new.self _ _ _ kept.0 turned
