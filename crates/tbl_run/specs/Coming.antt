-- How far the loop has come, as a run of the definition.
use Rattle.std.specs.Prelude.{◌≡◌, ℕ, List, None}
use Rattle.std.specs.Io.KnownBytes.{Appends}
use Rattle.page_bytes.specs.Devices.{NoSinkFault, Seen}
use Rattle.input_source.specs.Tape.{Item, Tape, items_then}
use Rattle.tbl_format.specs.declared.limits.TblLimits.{TblLimits}
use Rattle.tbl_core.specs.Yields.{At}
use Rattle.tbl_run.specs.Run.{Written, initial, steps}
use Rattle.tbl_run.specs.Turns.{Counted, IsWithin}
use Rattle.tbl_run.specs.declared.run.Counts.{Counts}

-- The source took items; whatever may still come, the run over these and then that comes to a state that reads on, in which
-- so many bytes are written and told.
pub record HasCome (l : TblLimits) (line_length : ℕ) (old new : Tape → Type 0) (at : At) (counts : Counts) (before now : Seen) : Type 0 where
  pub taken : List Item
  pub gave : (left : Tape) → new left → old (items_then taken left)
  pub turns : ℕ
  pub written : Written
  pub goes_on : written.ended ≡ None
  pub comes : (left : Tape) → new left → steps l line_length turns (initial (items_then taken left))
      ≡ record { stage = record { tape = left; at = at }; written = written }
  pub text : Appends before.out.contents now.out.contents written.output
  pub told : Appends before.err.contents now.err.contents written.messages
  pub faults : NoSinkFault before now
  pub counted : Counted counts written
  pub within : IsWithin l counts
