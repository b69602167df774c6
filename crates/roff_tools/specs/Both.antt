-- A run of the formatter over a source with the pictures of its tables.
use Rattle.std.specs.Prelude.{ℕ}
use Rattle.roff_num.specs.declared.limits.Limits.{Limits}
use Rattle.run_model.specs.declared.start.Start.{Start}
use Rattle.input_source.specs.Tape.{Tape}
use Rattle.run_model.specs.declared.status.Status.{Status}
use Rattle.run_items.specs.Outcome.{Outcome, Seen}
use Rattle.tbl_format.specs.declared.limits.TblLimits.{TblLimits}
use Rattle.tbl_core.specs.Yields.{at_start, yields}

-- the formatter ran over what is given, with pictures for its tables, for an input that might have come
pub record RunsOverTables (l : Limits) (start : Start) (tables : TblLimits) (line_length : ℕ) (status : Status) (old : Tape → Type 0) (before now : Seen) : Type 0 where
  pub input : Tape
  pub given : old input
  pub rest : Tape
  pub outcome : Outcome l start (yields tables line_length at_start input) rest status before now

-- A run over a source that might give the tapes `old` and may now give the tapes `new`, of which there is one. Whatever may
-- still come, the source might have given an input over which the run is the definition's.
pub record RunsBoth (l : Limits) (start : Start) (tables : TblLimits) (line_length : ℕ) (status : Status) (old new : Tape → Type 0) (before now : Seen) : Type 0 where
  pub over : (left : Tape) → new left → RunsOverTables l start tables line_length status old before now
  pub some : Tape
  pub some_given : new some
