-- Lines of the data that go on in the next: how they are joined, and how they were read.
use Rattle.std.specs.Prelude.{ℕ, ◌≤◌, Bool, false, List, [], ◌∷◌, ◌++◌, drop, nat_lt, Option, None, Some, if◌then◌else◌, ◌==◌}
use Rattle.std.specs.List.{slice_range}
use Rattle.input_source.specs.Bytes.{newline, backslash}
use Rattle.tbl_kept.specs.declared.table_text.Joint.{Joint}

-- a line of the data that goes on: its bytes, and where each line of the input ended of which it was joined, with its number
pub record Joined : Type 0 where
  pub bytes : List ℕ
  pub ends : List (ℕ × ℕ)

-- a line of which others were joined, behind them
abbrev pub behind_joined : Option Joined → List ℕ → List ℕ
behind_joined None line = line
behind_joined (Some j) line = j.bytes ++ line

abbrev pub ends_joined : Option Joined → List (ℕ × ℕ)
ends_joined None = []
ends_joined (Some j) = j.ends

-- the line of the input on which a byte of a joined line stands, by its place; the last has this number
abbrev pub line_at : List (ℕ × ℕ) → ℕ → ℕ → ℕ
line_at [] place n = n
line_at (end ∷ ends) place n = if nat_lt place end.0 then end.1 else line_at ends place n

-- whether a line goes on: it ends in a backslash
abbrev pub goes_on : List ℕ → Bool
goes_on [] = false
goes_on (b ∷ []) = b == backslash
goes_on (b ∷ c ∷ line) = goes_on (c ∷ line)

-- the bytes of a block from a place on as they were read: with the backslash and the newline that stood at each joint
abbrev pub unjoined : ℕ → List ℕ → List Joint → List ℕ
unjoined from block [] = drop from block
unjoined from block (j ∷ joints) = slice_range block from j.place ++ (backslash ∷ newline ∷ unjoined j.place block joints)

-- from that place on no joint is before the one in front of it, and they are within so many bytes
abbrev pub RiseWithin : ℕ → ℕ → List Joint → Type 0
RiseWithin len from [] = from ≤ len
RiseWithin len from (j ∷ joints) = (from ≤ j.place) × RiseWithin len j.place joints
