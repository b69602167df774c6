use Rattle.std.proofs.Common.{true, ◌∙◌}
use Rattle.run_items.proofs.TakenBytes.{escapes-taken}
use Rattle.run_turns.proofs.Turns.{TurnsBy-same}
use Rattle.run_turns.proofs.WaitedBytes.{byte_alone}
use Rattle.run_turns.proofs.ComingFurther.{comes_both}
use Rattle.roff_engine.proofs.stepping.turn_text.Goals as goal

pub returns-in-Ok : goal.returns-in-Ok
returns-in-Ok g c =
    let shown = c.in-Some.ensures in
    comes_both true
    (byte_alone c.args.run.now _ _ _ _ _ _ shown.failures shown.notes c.in-Some.byte c.line-line_before.result c.take_text.new.self _ _ shown.takes c.requires.none_half c.line-line_before.ensures (c.in-Ok.ensures _))
    c.tell_behind.ensures

pub returns-in-Err : goal.returns-in-Err
returns-in-Err g c =
    let shown = c.in-Some.ensures in
    byte_alone c.args.run.now _ _ _ _ _ _ shown.failures shown.notes c.in-Some.byte c.line-line_before.result c.take_text.new.self _ _ shown.takes c.requires.none_half c.line-line_before.ensures (c.in-Err.ensures _)

pub returns-in-None : goal.returns-in-None
returns-in-None g c =
    let kept = c.take_ready.ensures.unchanged c.in-None.is in
    let turned = rw kept.1 at c.turn_line.ensures in
    rw c.untold.ensures (TurnsBy-same _ _ _ _ _ c.args.run.now c.turn_line.new.self c.take_ready.new.self _ _ _ kept.0 turned)

pub take_text-requires-clause-none_half : goal.take_text-requires-clause-none_half
take_text-requires-clause-none_half g c = escapes-taken _ _ _ _ _ c.in-Some.ensures.takes ∙ c.requires.none_half
