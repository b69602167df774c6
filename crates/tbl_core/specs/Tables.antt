-- The machine, as its calls make its steps.
use Rattle.std.specs.Prelude.{◌≡◌, ℕ, ◌+◌, ◌<◌, ◌≤◌, ◌==◌, false, List, [], ◌∷◌, ◌++◌, map, length, drop, Option, Some, None, option_to_list, if◌then◌else◌}
use Rattle.roff_num.specs.declared.limit.Limit.{Limit}
use Rattle.input_source.specs.Bytes.{newline}
use Rattle.input_source.specs.Tape.{Item, OneByte, Ending, Gives, answer_of}
use Rattle.input_source.specs.declared.source.Taken.{Taken}
use Rattle.tbl_format.specs.declared.limits.TblLimits.{TblLimits}
use Rattle.tbl_options.specs.declared.message.Told.{Told}
use Rattle.tbl_core.specs.declared.place.Count.{Count}
use Rattle.tbl_core.specs.declared.place.Front.{Front}
use Rattle.tbl_core.specs.declared.place.Front.TheVariants.{Nothing, Dot, Letter, Name, Other}
use Rattle.tbl_core.specs.declared.place.Position.{Position}
use Rattle.tbl_core.specs.declared.place.Position.TheVariants.{Outside as AtOutside, RestOfStart as AtRestOfStart, Inside as AtInside, Over as AtOver}
use Rattle.tbl_core.specs.Lines.{is_name, next_line}
use Rattle.tbl_core.specs.Machine.{Outside, RestOfStart, Inside, Standing, Reads, Over, Step, take, take_at}
use Rattle.tbl_options.specs.Messages.{told_items}
use Rattle.tbl_table.specs.Reading.{Reading, KeptTable, bytes_read, kept_nothing}
use Rattle.tbl_table.specs.Table.{columns_at, rows_behind, told_at_cut}
use Rattle.tbl_core.specs.Yields.{At, at_ending}

-- the limits, the line length, and how far the run has come
pub record TablesState : Type 0 where
  pub limits : TblLimits
  pub line_length : ℕ
  pub at : At

-- a run that a limit has stopped stays where it is
abbrev pub stays : Limit → ℕ → Step
stays limit line = record { out = []; behind = Over limit line }

-- the step of a byte
abbrev pub byte_step : TblLimits → ℕ → ℕ → Standing → Step
byte_step l line_length b (Reads now) = take l line_length b now
byte_step l line_length b (Over limit line) = stays limit line

-- the same of one that was counted
abbrev pub counted_step : TblLimits → ℕ → ℕ → Standing → Step
counted_step l line_length b (Reads now) = take_at l line_length b now.count now.place
counted_step l line_length b (Over limit line) = stays limit line

-- the step of an ending
abbrev pub ending_step : TblLimits → ℕ → Ending → Standing → Step
ending_step l line_length e (Reads now) = at_ending l line_length e now
ending_step l line_length e (Over limit line) = stays limit line

-- the item of a byte that is handed out, if there is one
abbrev pub handed : Option ℕ → List Item
handed None = []
handed (Some b) = OneByte b ∷ []

-- the limit that has stopped the run
abbrev pub stopped_by : Standing → Option Limit
stopped_by (Reads now) = None
stopped_by (Over limit line) = Some limit

-- the line of the last byte that was taken, 1 if there is none
abbrev pub line_of : Standing → ℕ
line_of (Reads now) = now.count.line
line_of (Over limit line) = line

-- an item that was pending was given
pub record IsGiven (old new : TablesState) (taken : Taken) : Type 0 where
  pub item : Item
  pub answer : answer_of taken ≡ Gives item
  pub is : old ≡ record new { at = record { pending = item ∷ new.at.pending; standing = new.at.standing } }

-- a byte that was pending was given
abbrev pub IsByteGiven : TablesState → TablesState → ℕ → Type 0
IsByteGiven old new b = old ≡ record new { at = record { pending = OneByte b ∷ new.at.pending; standing = new.at.standing } }

-- so many bytes that were pending were given
abbrev pub behind_given : ℕ → TablesState → TablesState
behind_given n t = record t { at = record { pending = drop n t.at.pending; standing = t.at.standing } }

-- how the run stands, by where the next byte stands
abbrev pub standing_of : Count → Position → Reading → Standing
standing_of count (AtOutside front) r = Reads (record { count = count; place = Outside front })
standing_of count AtRestOfStart r = Reads (record { count = count; place = RestOfStart })
standing_of count (AtInside front) r = Reads (record { count = count; place = Inside front r })
standing_of count (AtOver limit) r = Over limit count.line

-- what is pending: messages of the table, one of the run's own, and bytes
abbrev pub pending_of : KeptTable → Option Told → List Item
pending_of k own = told_items k.told ++ told_items (option_to_list own) ++ map OneByte k.to_come

-- the bytes of a line that are those of a name
abbrev pub front_bytes : Front → List ℕ
front_bytes Nothing = []
front_bytes Dot = 46 ∷ []
front_bytes Letter = 46 ∷ 84 ∷ []
front_bytes Name = 46 ∷ 84 ∷ 69 ∷ []
front_bytes Other = []

-- the bytes of a table are within the limit, but for those of its last line that may be its end
abbrev pub IsWithin : ℕ → Front → Reading → Type 0
IsWithin text Nothing r = (r.line ≡ []) × (length r.read ≤ text)
IsWithin text Dot r = (r.line ≡ front_bytes Dot) × (length r.read ≤ text)
IsWithin text Letter r = (r.line ≡ front_bytes Letter) × (length r.read ≤ text)
IsWithin text Name r = (r.line ≡ front_bytes Name) × (length r.read ≤ text)
IsWithin text Other r = length (bytes_read r) ≤ text

-- the same wherever the next byte stands
abbrev pub Fits : ℕ → Position → Reading → Type 0
Fits text (AtOutside front) r = Unit {0}
Fits text AtRestOfStart r = Unit {0}
Fits text (AtInside front) r = IsWithin text front r
Fits text (AtOver limit) r = Unit {0}

-- there is room for a byte of a table, which meets no limit
pub record IsRoomFor (l : TblLimits) (b : ℕ) (r : Reading) : Type 0 where
  pub bytes : length (bytes_read r) < l.text + 4
  pub line : b ≡ newline → length (bytes_read r) < l.text
  pub rows : b ≡ newline → rows_behind r.table r.line ≤ l.rows
  pub columns : b ≡ newline → columns_at r.table (r.line ++ newline ∷ []) ≤ l.columns

-- the next byte is one of a table that goes on behind it, whatever it is
pub record ReadsAny (l : TblLimits) (s : Standing) : Type 0 where
  pub count : Count
  pub front : Front
  pub reading : Reading
  pub is : s ≡ Reads (record { count = count; place = Inside front reading })
  pub no_name : is_name front ≡ false
  pub bytes : count.taken < l.bytes
  pub rows : rows_behind reading.table reading.line ≤ l.rows
  pub columns : (b : ℕ) → columns_at reading.table (reading.line ++ b ∷ []) ≤ l.columns
  pub text : length (bytes_read reading) < l.text

-- where the next byte stands behind a table, unless a limit has stopped there
abbrev pub position_behind : Option Limit → Front → Position
position_behind None front = AtOutside front
position_behind (Some limit) front = AtOver limit

-- the same behind a byte of a `.TS` line that stands behind its name, and what is kept of the table then
abbrev pub position_on_start_line : ℕ → Position
position_on_start_line b = if b == newline then AtInside Nothing else AtRestOfStart

abbrev pub begun_behind : ℕ → KeptTable → KeptTable
begun_behind b k = if b == newline then kept_nothing k.limits else k

-- the messages to tell where a table may be cut
abbrev pub told_at : Position → Reading → List Told
told_at (AtOutside front) r = []
told_at AtRestOfStart r = []
told_at (AtInside front) r = told_at_cut r.table
told_at (AtOver limit) r = []

-- the counts are within their limits
pub record IsCounted (l : TblLimits) (c : Count) : Type 0 where
  pub bytes : c.taken ≤ l.bytes
  pub lines : next_line c ≤ c.taken + 1
