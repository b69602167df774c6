use Rattle.std.specs.Prelude.{false}
use Rattle.read_shortcuts.specs.Runs.{IsRun}
use Rattle.roff_scan.specs.declared.run_kind.RunKind.TheVariants.{Text}
use Rattle.run_turns.specs.Running.Turning.{GoesPastOver}
use Rattle.run_shortcuts.proofs.glyphs.tell_glyphs.Given as goal

-- the run went past what was told, and text is told on
abbrev pub invariant-loop-left : goal.invariant-loop-left
invariant-loop-left g l =
    GoesPastOver g.S.ByteSource false l.fn.source l.source l.fn.run l.run × IsRun Text l.run.interpreter.reader.reading l.run.unread.input.escapes

abbrev pub decreases-loop-left : goal.decreases-loop-left
decreases-loop-left g l = l.left
