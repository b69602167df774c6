use Rattle.std.proofs.Common.{refl}
use Rattle.input_escapes.specs.declared.open_escape.Waiting.TheVariants.{Waits}
use Rattle.run_turns.proofs.Turns.{TurnsBy-same}
use Rattle.run_turns.proofs.WaitedBytes.{byte_by}
use Rattle.run_turns.proofs.running.Running.turn_waiting.Goals as goal

pub returns-in-Some : goal.returns-in-Some
returns-in-Some g c =
    let shown = c.in-Some.ensures in
    byte_by c.args.self.now _ _ _ _ _ _ shown.failures shown.notes Waits refl c.in-Some.byte c.line-line.result c.take_half.new.self _ _ shown.takes shown.waits c.line-line.ensures
    (c.take_half.ensures _)

pub returns-in-None : goal.returns-in-None
returns-in-None g c =
    let old = c.args.self.now in
    let kept = c.take_waiting.ensures.unchanged c.in-None.is in
    let turned = rw kept.1 at c.turn_looking.ensures in
    TurnsBy-same _ _ _ _ _ old c.turn_looking.new.self c.take_waiting.new.self _ _ _ kept.0 turned
