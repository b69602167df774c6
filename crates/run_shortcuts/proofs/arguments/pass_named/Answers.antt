use Rattle.std.proofs.Common.{false, ap}
use Rattle.page_bytes.specs.Told.{told_by}
use Rattle.read_shortcuts.specs.Runs.{run_holding}
use Rattle.run_items.specs.declared.interpreter.Interpreter.{Interpreter}
use Rattle.run_shortcuts.proofs.PutRegisters.{run-kept}
use Rattle.run_turns.proofs.ComingFurther.{comes_both, comes_further, comes_on}
use Rattle.run_shortcuts.proofs.arguments.pass_named.Goals as goal

pub take_arguments-requires : goal.take_arguments-requires
take_arguments-requires g c =
    let held = c.hold_named in
    run-kept (run_holding c.args.most) c.args.run.now held.new.run (ap (λ (i : Interpreter). i.reader.reading) held.ensures.reads) held.ensures.half c.requires

pub returns-then-not-hold_named : goal.returns-then-not-hold_named
returns-then-not-hold_named g c =
    comes_further (c.hold_named.ensures.further (g.O.ByteSink.sunk c.args.out.now) (told_by g.E.MessageSink c.args.err.now))

pub returns-in-Named : goal.returns-in-Named
returns-in-Named g c =
    let out = g.O.ByteSink.sunk c.args.out.now in
    let err = told_by g.E.MessageSink c.args.err.now in
    comes_on _ _ c.if-not-hold_named.false (c.hold_named.ensures.further out err) (c.take_arguments.ensures.past out err)

pub returns-in_default : goal.returns-in_default
returns-in_default g c =
    let out = g.O.ByteSink.sunk c.args.out.now in
    let err = told_by g.E.MessageSink c.args.err.now in
    comes_both false (comes_further (c.hold_named.ensures.further out err)) (comes_both false (c.take_arguments.ensures.past out err) c.pass_last.ensures)
