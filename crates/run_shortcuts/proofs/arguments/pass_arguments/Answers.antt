use Rattle.std.proofs.Common.{false, ap}
use Rattle.page_bytes.specs.Told.{told_by}
use Rattle.read_shortcuts.specs.Runs.{run_holding}
use Rattle.run_items.specs.declared.interpreter.Interpreter.{Interpreter}
use Rattle.run_shortcuts.proofs.PutRegisters.{run-kept}
use Rattle.run_turns.proofs.ComingFurther.{comes_both}
use Rattle.run_shortcuts.proofs.arguments.pass_arguments.Goals as goal

pub pass_behind-requires : goal.pass_behind-requires
pass_behind-requires g c =
    let took = c.take_arguments-behind in
    run-kept (run_holding c.args.most) c.args.run.now took.new.run (ap (λ (i : Interpreter). i.reader.reading) took.ensures.reads) took.ensures.half c.requires

pub returns : goal.returns
returns g c =
    comes_both false (c.take_arguments-behind.ensures.past (g.O.ByteSink.sunk c.args.out.now) (told_by g.E.MessageSink c.args.err.now)) c.pass_behind.ensures
