use Rattle.std.proofs.Common.{◌≡◌, ◌+◌, ◌≤◌, [], None}
use Rattle.tbl_core.specs.NotesLeft.{bytes_left, notes_left}
use Rattle.tbl_core.specs.Source.{source_gives}
use Rattle.tbl_core.specs.Stages.{TakesOn}
use Rattle.tbl_core.specs.Tables.{stopped_by}
use Rattle.tbl_core.specs.Yields.{Continues}
use Rattle.tbl_core.proofs.source.TblSource.turns.Given as goal

abbrev pub invariant-loop-self : goal.invariant-loop-self
invariant-loop-self g l = record {
  pending : l.self.tables.at.pending ≡ [];
  reads : stopped_by l.self.tables.at.standing ≡ None;
  goes_on : Continues (source_gives g.S.ByteSource.gives l.initial.self) (source_gives g.S.ByteSource.gives l.self);
  notes : notes_left l.self.tables ≤ notes_left l.initial.self.tables;
  takes_on : TakesOn (g.S.ByteSource.gives l.initial.self.inner) (g.S.ByteSource.gives l.self.inner) l.initial.self.tables.limits l.initial.self.tables.line_length l.initial.self.tables.at l.self.tables.at;
  limits : l.self.tables.limits ≡ l.initial.self.tables.limits;
  line_length : l.self.tables.line_length ≡ l.initial.self.tables.line_length;
  failures : g.S.ByteSource.failures l.initial.self.inner ≤ g.S.ByteSource.failures l.self.inner;
}

abbrev pub decreases-loop-self : goal.decreases-loop-self
decreases-loop-self g l = bytes_left l.self.tables.limits l.self.tables.at.standing + g.S.ByteSource.notes l.self.inner
