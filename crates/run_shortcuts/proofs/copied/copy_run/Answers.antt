use Rattle.std.proofs.Common.{false, subst, sym}
use Rattle.read_shortcuts.specs.Runs.{IsRun}
use Rattle.run_turns.proofs.ComingFurther.{comes_both, comes_further}
use Rattle.run_turns.specs.declared.running.Running.{Running as Coded}
use Rattle.run_shortcuts.proofs.copied.copy_run.Goals as goal

pub take_run-requires : goal.take_run-requires
take_run-requires g c =
    subst (λ (run : Coded). IsRun c.args.kind run.interpreter.reader.reading run.unread.input.escapes)
    (sym (c.take_lines.ensures.unchanged c.if-take_lines.false)) c.requires

pub returns : goal.returns
returns g c = λ out err.
    comes_both false (comes_further (c.take_lines.ensures.past out err)) (c.take_run.ensures out err)
