use Rattle.std.proofs.Common.{◌≡◌, ◌+◌, ◌-◌}
use Rattle.page_bytes.specs.Devices.{seen}
use Rattle.tbl_core.specs.NotesLeft.{notes_left}
use Rattle.tbl_run.specs.Coming.{HasCome}
use Rattle.tbl_run.proofs.run.put_tables.Given as goal

abbrev pub invariant-loop-front : goal.invariant-loop-front
invariant-loop-front g l = record {
  limits : l.limits ≡ l.initial.source.tables.limits;
  same : l.source.tables.limits ≡ l.initial.source.tables.limits;
  line_length : l.source.tables.line_length ≡ l.initial.source.tables.line_length;
  come : HasCome l.initial.source.tables.limits l.initial.source.tables.line_length (g.S.ByteSource.gives l.initial.source.inner)
      (g.S.ByteSource.gives l.source.inner) l.source.tables.at l.counts
      (seen (g.S.ByteSource.failures l.initial.source.inner) (g.O.ByteSink.sunk l.initial.out) (g.E.MessageSink.sunk l.initial.err))
      (seen (g.S.ByteSource.failures l.source.inner) (g.O.ByteSink.sunk l.out) (g.E.MessageSink.sunk l.err));
}

-- how many bytes and messages may still be written
abbrev pub decreases-loop-front : goal.decreases-loop-front
decreases-loop-front g l = (l.limits.output - l.counts.written) + notes_left l.source.tables
