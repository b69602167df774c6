-- How far a source over a reader has come.
use Rattle.std.specs.Prelude.{◌≡◌, ℕ, nat_lt, List, map, take, drop, Option, Some, None, refl}
use Rattle.input_source.specs.declared.source.ReadSource.{ReadSource}
use Rattle.input_source.specs.BlockRead.{SomeTape}
pub use Rattle.input_source.specs.ReadSource.Endings.{is_fault, reach_ending, ready_at}
use Rattle.input_source.specs.Tape.{Tape, OneByte, Ending, items_then, only}

-- its final answer, once it was given
abbrev pub ending_given : {R : Type 0} → ReadSource R → Option Ending
ending_given s = reach_ending s.reach

-- the bytes of the block that weren't taken
abbrev pub left_of_block : {R : Type 0} → ReadSource R → List ℕ
left_of_block s = drop s.next (take s.len s.block.items)

-- they stand ready until the reader's end or a fault was answered: none are left then
abbrev pub ready_of : {R : Type 0} → ReadSource R → List ℕ
ready_of s = ready_at s.reach (left_of_block s)

-- its reader
abbrev pub reader_of : {R : Type 0} → ReadSource R → R
reader_of s = s.reader

-- these bytes, and then a tape that a reader may give
pub record GivesBehind (bytes : List ℕ) (reads : Tape → Type 0) (t : Tape) : Type 0 where
  pub rest : Tape
  pub given : reads rest
  pub is : t ≡ items_then (map OneByte bytes) rest

-- what the source may give: the bytes that were read and not taken yet, all of them, and behind them what its reader
-- may give; an ending alone once it was given
abbrev pub MayGive : List ℕ → (Tape → Type 0) → Option Ending → Tape → Type 0
MayGive left reads None t = GivesBehind left reads t
MayGive left reads (Some ending) t = t ≡ only ending

-- the same of the source
abbrev pub may_give : {R : Type 0} → (R → Tape → Type 0) → ReadSource R → Tape → Type 0
may_give reads s = MayGive (left_of_block s) (reads s.reader) (ending_given s)

-- there is such a tape, as there is one of its reader
some_then : (left : List ℕ) (reads : Tape → Type 0) (ending : Option Ending) → SomeTape reads → SomeTape (MayGive left reads ending)
some_then left reads None rest = record {
  tape = items_then (map OneByte left) rest.tape;
  given = record { rest = rest.tape; given = rest.given; is = refl };
}
some_then left reads (Some ending) rest = record { tape = only ending; given = refl }

pub some_read : {R : Type 0} (reads : R → Tape → Type 0) → ((r : R) → SomeTape (reads r)) → (s : ReadSource R) → SomeTape (may_give reads s)
some_read reads some_of s = some_then (left_of_block s) (reads s.reader) (ending_given s) (some_of s.reader)

-- how many faults the source answered
abbrev pub faults_of : {R : Type 0} → ReadSource R → ℕ
faults_of s = s.failures

-- it has answered one, or more, where that is how it ended, and else none
abbrev pub CountsFaults : Option Ending → ℕ → Type 0
CountsFaults ending failures = nat_lt 0 failures ≡ is_fault ending
