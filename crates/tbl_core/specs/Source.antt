-- A source over a source, and what it may give.
use Rattle.std.specs.Prelude.{◌≡◌, ℕ, Bool, true, List, [], if◌then◌else◌, refl}
use Rattle.input_source.specs.BlockRead.{SomeTape}
use Rattle.input_source.specs.Tape.{Tape}
use Rattle.tbl_core.specs.NotesLeft.{noted}
use Rattle.tbl_core.specs.Passing.{passing}
use Rattle.tbl_core.specs.Tables.{TablesState}
use Rattle.tbl_core.specs.Yields.{At, MayGive, at_start, yields}

-- the inner source, how far tables have come over it, whether it is known that nothing is pending, and whether it is known that no
-- message is
pub record Sourced (S : Type 0) : Type 0 where
  pub inner : S
  pub tables : TablesState
  pub idle : Bool
  pub giving : Bool

-- what may be given, by what the inner source may give
abbrev pub source_gives : {S : Type 0} → (S → Tape → Type 0) → Sourced S → Tape → Type 0
source_gives gives s = MayGive s.tables.limits s.tables.line_length s.tables.at (gives s.inner)

-- there is such a tape, as there is one of the inner source
pub some_given : {S : Type 0} (gives : S → Tape → Type 0) → ((s : S) → SomeTape (gives s)) → (s : Sourced S) → SomeTape (source_gives gives s)
some_given gives some_of s =
    let inner = some_of s.inner in record {
      tape = yields s.tables.limits s.tables.line_length s.tables.at inner.tape;
      given = record { under = inner.tape; given = inner.given; is = refl };
    }

-- the bytes that stand ready: of those of the inner source those known to pass, where nothing is pending
abbrev pub source_ready : {S : Type 0} → (S → List ℕ) → Sourced S → List ℕ
source_ready ready s = if s.idle then passing s.tables.limits s.tables.at.standing (ready s.inner) else []

-- there is a tape that a source may give
pub record MayGiveSome (gives : Tape → Type 0) : Type 0 where
  pub some : Tape
  pub some_given : gives some

-- either nothing was asked of the inner source yet, or there is a tape that it may give
pub data IsAlive (gives : Tape → Type 0) (at : At) : Type 0 where
  NotAsked : (is : at ≡ at_start) → IsAlive gives at
  WasAsked : (some : Tape) (some_given : gives some) → IsAlive gives at

-- there is a tape to give; where it is known that nothing is pending nothing is, and where it is known that no message is
-- none is
pub record IsSourced (gives : Tape → Type 0) (at : At) (idle giving : Bool) : Type 0 where
  pub alive : IsAlive gives at
  pub idles : idle ≡ true → at.pending ≡ []
  pub quiet : giving ≡ true → noted at.pending ≡ 0
