-- Bytes outside tables that pass as they are, many at once.
use Rattle.std.specs.Prelude.{◌≡◌, ℕ, ◌+◌, ◌-◌, ◌≤◌, min, nat_lt, Bool, true, false, not, ◌==◌, ◌&&◌, List, [], ◌∷◌, take, length, if◌then◌else◌}
use Rattle.std.specs.List.{AllByRecursion, take_while}
use Rattle.input_source.specs.Bytes.{newline}
use Rattle.tbl_format.specs.declared.limits.TblLimits.{TblLimits}
use Rattle.tbl_core.specs.declared.place.Count.{Count}
use Rattle.tbl_core.specs.declared.place.Front.{Front}
use Rattle.tbl_core.specs.Lines.{ends_name, front_behind, is_name, line_counted, start_letter}
use Rattle.tbl_core.specs.Machine.{Now, Place, Outside, RestOfStart, Inside, Standing, Reads, Over}

-- a byte within a line
abbrev pub is_of_line : ℕ → Bool
is_of_line b = not (b == newline)

-- no byte ends its line
abbrev pub IsWithinLine : List ℕ → Type 0
IsWithinLine bytes = AllByRecursion (λ b. is_of_line b ≡ true) bytes

-- how much of the name stands behind these bytes of a line
abbrev pub front_over : Front → List ℕ → Front
front_over front [] = front
front_over front (b ∷ bytes) = front_over (front_behind start_letter front b) bytes

-- the bytes of a line in front of the one that makes it a `.TS` line
abbrev pub before_table : Front → List ℕ → List ℕ
before_table front [] = []
before_table front (b ∷ bytes) =
    if is_name front && ends_name b then [] else b ∷ before_table (front_behind start_letter front b) bytes

-- as many bytes are looked at, so that long lines aren't searched again and again
abbrev pub most_looked_at : ℕ
most_looked_at = 256

-- those of the next bytes that are known to pass: up to the end of their line, and within the limit on bytes
abbrev pub passing_in : TblLimits → Count → Place → List ℕ → List ℕ
passing_in l count (Outside front) bytes =
    before_table front (take_while is_of_line (take (min most_looked_at (l.bytes - count.taken)) bytes))
passing_in l count RestOfStart bytes = []
passing_in l count (Inside front r) bytes = []

abbrev pub passing : TblLimits → Standing → List ℕ → List ℕ
passing l (Reads now) bytes = passing_in l now.count now.place bytes
passing l (Over limit line) bytes = []

-- the next byte passes, whatever it is
abbrev pub is_outside : Place → Bool
is_outside (Outside front) = true
is_outside RestOfStart = true
is_outside (Inside front r) = false

abbrev pub reads_outside : Standing → Bool
reads_outside (Reads now) = is_outside now.place
reads_outside (Over limit line) = false

abbrev pub passes_next : TblLimits → Standing → Bool
passes_next l (Reads now) = nat_lt now.count.taken l.bytes && is_outside now.place
passes_next l (Over limit line) = false

-- how the run stands behind bytes that pass
abbrev pub passed_in : List ℕ → Count → Place → Now
passed_in bytes count (Outside front) =
    record { count = line_counted (length bytes) count; place = Outside (front_over front bytes) }
passed_in bytes count RestOfStart = record { count = count; place = RestOfStart }
passed_in bytes count (Inside front r) = record { count = count; place = Inside front r }

abbrev pub passed : List ℕ → Standing → Standing
passed bytes (Reads now) = Reads (passed_in bytes now.count now.place)
passed bytes (Over limit line) = Over limit line

-- none of these bytes ends its line, or makes it a `.TS` line
abbrev pub StaysOutside : Front → List ℕ → Type 0
StaysOutside front [] = Unit {0}
StaysOutside front (b ∷ bytes) =
    ((b == newline) ≡ false) × ((is_name front && ends_name b) ≡ false) × StaysOutside (front_behind start_letter front b) bytes

-- these bytes pass, one at least, and meet no limit
pub record DoPass (l : TblLimits) (s : Standing) (bytes : List ℕ) : Type 0 where
  pub count : Count
  pub front : Front
  pub is : s ≡ Reads (record { count = count; place = Outside front })
  pub stays : StaysOutside front bytes
  pub some : 1 ≤ length bytes
  pub within : count.taken + length bytes ≤ l.bytes
