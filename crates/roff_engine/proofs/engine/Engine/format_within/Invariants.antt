use Rattle.std.proofs.Common.{◌≡◌}
use Rattle.run_items.specs.Outcome.{seen}
use Rattle.run_turns.specs.Running.Turning.{HasCome, turns_with}
use Rattle.roff_engine.proofs.WholeRuns.{turns_told}
use Rattle.page_bytes.specs.Told.{told_by}
use Rattle.roff_engine.proofs.engine.Engine.format_within.Given as goal

abbrev pub invariant-loop-told : goal.invariant-loop-told
invariant-loop-told g l = record {
  come : HasCome l.fn.self.start (g.S.ByteSource.gives l.fn.source) (g.S.ByteSource.gives l.source)
      (seen (g.S.ByteSource.failures l.fn.source) (g.O.ByteSink.sunk l.fn.out) (told_by g.E.MessageSink l.fn.err))
      (seen (g.S.ByteSource.failures l.source) (g.O.ByteSink.sunk l.out) (told_by g.E.MessageSink l.err)) l.running;
  limits : l.running.limits ≡ l.fn.self.limits;
}

abbrev pub decreases-loop-told : goal.decreases-loop-told
decreases-loop-told g l = turns_told (turns_with l.running (g.S.ByteSource.notes l.source)) l.is_told
