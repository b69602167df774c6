-- What taking items of the inner source comes to, whether or not something is given for them.
use Rattle.std.specs.Prelude.{◌≡◌, ℕ, ◌+◌, ◌<◌, ◌≤◌, [], None}
use Rattle.input_source.specs.Tape.{Tape}
use Rattle.tbl_core.specs.NotesLeft.{bytes_left, notes_left}
use Rattle.tbl_core.specs.Source.{Sourced, source_gives}
use Rattle.tbl_core.specs.Stages.{TakesOn}
use Rattle.tbl_core.specs.Tables.{stopped_by}
use Rattle.tbl_core.specs.Yields.{Continues}

-- The limits and the line length stay, no more messages are to come, and no failure of the inner source is undone.
pub record IsLater {S : Type 0} (failed : S → ℕ) (old new : Sourced S) : Type 0 where
  pub limits : new.tables.limits ≡ old.tables.limits
  pub line_length : new.tables.line_length ≡ old.tables.line_length
  pub notes : notes_left new.tables ≤ notes_left old.tables
  pub failures : failed old.inner ≤ failed new.inner

-- Items were taken, and nothing is given for them yet: what is given next might have been given before, it is answered as before, nothing
-- is pending, and less is left to take.
pub record TakesSilently {S : Type 0} (gives : S → Tape → Type 0) (notes : S → ℕ) (old new : Sourced S) : Type 0 where
  pub goes_on : Continues (source_gives gives old) (source_gives gives new)
  pub takes_on : TakesOn (gives old.inner) (gives new.inner) old.tables.limits old.tables.line_length old.tables.at new.tables.at
  pub pending : new.tables.at.pending ≡ []
  pub reads : stopped_by new.tables.at.standing ≡ None
  pub falls : bytes_left new.tables.limits new.tables.at.standing + notes new.inner
      < bytes_left old.tables.limits old.tables.at.standing + notes old.inner
