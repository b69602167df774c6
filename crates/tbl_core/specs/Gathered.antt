-- A source of which bytes are gathered, and what it may give.
use Rattle.std.specs.Prelude.{◌≡◌, ℕ, ◌<◌, ◌≤◌, true, List, [], ◌∷◌, ◌++◌, length, map, drop, refl}
use Rattle.input_source.specs.declared.source.ByteSource as byte_source
use Rattle.input_source.specs.BlockRead.{SomeTape}
use Rattle.input_source.specs.Tape.{Tape, OneByte}
use Rattle.tbl_core.specs.declared.gathered.GatheredSource.{GatheredSource}
use Rattle.tbl_core.specs.NotesLeft.{notes_left}
use Rattle.tbl_core.specs.Source.{source_ready}
use Rattle.tbl_core.specs.Tables.{TablesState}
use Rattle.tbl_core.specs.Yields.{At, MayGive, yields}

-- the bytes that were gathered and not given
abbrev pub left_of : {S : Type 0} {g : byte_source.Ghosts S} → GatheredSource S g → List ℕ
left_of s = drop s.next s.gathered.items

-- the inner source
abbrev pub inner_of : {S : Type 0} {g : byte_source.Ghosts S} → GatheredSource S g → S
inner_of s = s.source.inner

-- these bytes are to give before what is pending
abbrev pub bytes_first : List ℕ → At → At
bytes_first bytes at = record { pending = map OneByte bytes ++ at.pending; standing = at.standing }

abbrev pub with_bytes : List ℕ → TablesState → TablesState
with_bytes bytes t = record { limits = t.limits; line_length = t.line_length; at = bytes_first bytes t.at }

-- how far the run has come, with what was gathered
abbrev pub tables_of : {S : Type 0} {g : byte_source.Ghosts S} → GatheredSource S g → TablesState
tables_of s = with_bytes (left_of s) s.source.tables

-- what may be given, by what the inner source may give
abbrev pub gathered_gives : {S : Type 0} {g : byte_source.Ghosts S} → (S → Tape → Type 0) → GatheredSource S g → Tape → Type 0
gathered_gives gives s = MayGive (tables_of s).limits (tables_of s).line_length (tables_of s).at (gives (inner_of s))

-- there is such a tape, as there is one of the inner source
pub some_gathered : {S : Type 0} {g : byte_source.Ghosts S} (gives : S → Tape → Type 0) → ((s : S) → SomeTape (gives s)) → (s : GatheredSource S g) → SomeTape (gathered_gives gives s)
some_gathered gives some_of s =
    let inner = some_of (inner_of s) in record {
      tape = yields (tables_of s).limits (tables_of s).line_length (tables_of s).at inner.tape;
      given = record { under = inner.tape; given = inner.given; is = refl };
    }

-- these bytes, or others where there are none
abbrev pub bytes_or : List ℕ → List ℕ → List ℕ
bytes_or [] others = others
bytes_or (b ∷ bytes) others = b ∷ bytes

-- the bytes that stand ready: those that were gathered, or else those of the source
abbrev pub gathered_ready : {S : Type 0} {g : byte_source.Ghosts S} → (S → List ℕ) → GatheredSource S g → List ℕ
gathered_ready ready s = bytes_or (left_of s) (source_ready ready s.source)

-- what may be given stays, and what is known of messages, of which no more are to come
pub record KeepsGiven {S : Type 0} {g : byte_source.Ghosts S} (old new : GatheredSource S g) : Type 0 where
  pub inner : inner_of new ≡ inner_of old
  pub tables : tables_of new ≡ tables_of old
  pub giving : new.source.giving ≡ old.source.giving
  pub notes : notes_left new.source.tables ≤ notes_left old.source.tables

-- bytes were gathered behind those that were, and none of them was given
pub record GathersOn {S : Type 0} {g : byte_source.Ghosts S} (old new : GatheredSource S g) : Type 0 where
  pub kept : KeepsGiven old new
  pub next : new.next ≡ old.next
  pub more : length old.gathered.items ≤ length new.gathered.items

-- where it is known that no message is pending at least 128 bytes were gathered, or all that were pending
abbrev pub AreGathered : {S : Type 0} {g : byte_source.Ghosts S} → GatheredSource S g → Type 0
AreGathered s = s.source.giving ≡ true → length s.gathered.items < 128 → s.source.tables.at.pending ≡ []

-- where it is known that no message is to come in front of them, some bytes stand ready if any are to come
abbrev pub StandReady : {S : Type 0} {g : byte_source.Ghosts S} → GatheredSource S g → Type 0
StandReady s = s.source.giving ≡ true → 1 ≤ length (tables_of s).at.pending → 1 ≤ length (left_of s)
