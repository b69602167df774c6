-- From bytes to what is given for them, a byte a step (Lesk, "Input commands" and "Usage").
use Rattle.std.specs.Prelude.{ℕ, ◌+◌, Bool, true, false, ◌&&◌, not, ◌==◌, nat_lt, nat_le, if◌then◌else◌, List, [], ◌∷◌, ◌++◌, map, length, Option, Some, None}
use Rattle.roff_num.specs.declared.limit.Limit.{Limit}
use Rattle.roff_num.specs.declared.limit.Limit.TheVariants.{Rows, Columns, Text, TblBytes}
use Rattle.input_source.specs.Bytes.{newline}
use Rattle.input_source.specs.Tape.{Item, OneByte}
use Rattle.tbl_format.specs.declared.limits.TblLimits.{TblLimits}
use Rattle.tbl_options.specs.declared.message.Message.TheVariants.{LimitReached, TableNotEnded}
use Rattle.tbl_options.specs.declared.message.Told.{Told}
use Rattle.tbl_core.specs.declared.place.Front.{Front}
use Rattle.tbl_core.specs.declared.place.Front.TheVariants.{Nothing}
use Rattle.tbl_core.specs.declared.place.Count.{Count}
use Rattle.tbl_core.specs.Lines.{start_letter, end_letter, ends_name, front_behind, is_name, is_of_name, counted}
use Rattle.tbl_options.specs.Messages.{told_item, told_items}
use Rattle.tbl_table.specs.Reading.{Reading, begun, byte_read, line_ended, bytes_read, last_read, limit_at_end, told_at_end, given_at_end}
use Rattle.tbl_table.specs.Table.{told_at_cut, notes, is_bad, columns_at, rows_behind}
use Rattle.tbl_format.specs.TblLimits.{tbl_value_of}

-- where the next byte stands: outside tables, on a `.TS` line behind its name, or in a table
pub data Place : Type 0 where
  Outside : (front : Front) → Place
  RestOfStart : Place
  Inside : (front : Front) (r : Reading) → Place

-- what was counted, and where the next byte stands
pub record Now : Type 0 where
  pub count : Count
  pub place : Place

-- the run reads on, or a limit has stopped it, with the last byte taken on this line
pub data Standing : Type 0 where
  Reads : (now : Now) → Standing
  Over : (limit : Limit) (line : ℕ) → Standing

-- what a step gives, and how the run stands behind it
pub record Step : Type 0 where
  pub out : List Item
  pub behind : Standing

-- the messages of the complete lines, where a table is cut
abbrev pub told_so_far : Place → List Told
told_so_far (Outside front) = []
told_so_far RestOfStart = []
told_so_far (Inside front r) = told_at_cut r.table

-- the message of a limit
abbrev pub limit_told : TblLimits → Limit → ℕ → Told
limit_told l limit line = record { line = line; message = LimitReached limit (tbl_value_of l limit) }

-- the same of one that may have been met
abbrev pub own_told : TblLimits → ℕ → Option Limit → List Told
own_told l line None = []
own_told l line (Some limit) = limit_told l limit line ∷ []

-- a limit stops the run: these messages, and its own
abbrev pub stops : TblLimits → Limit → ℕ → List Told → Step
stops l limit line told = record { out = told_items told ++ told_item (limit_told l limit line) ∷ []; behind = Over limit line }

-- how the run stands where a limit may have been met
abbrev pub standing_behind : Option Limit → Now → Standing
standing_behind None now = Reads now
standing_behind (Some limit) now = Over limit now.count.line

-- a byte that passes
abbrev pub passes : ℕ → Now → Step
passes b now = record { out = OneByte b ∷ []; behind = Reads now }

-- a table begins behind the newline of its `.TS` line
abbrev pub on_start_line : ℕ → Place
on_start_line b = if b == newline then Inside Nothing begun else RestOfStart

-- behind a byte outside tables: the byte behind the name tells whether the line begins one
abbrev pub place_outside : Front → ℕ → Place
place_outside front b = if is_name front && ends_name b then on_start_line b else Outside (front_behind start_letter front b)

-- a table ends with its `.TE` line: its messages and its output, unless a limit stops there
abbrev pub table_ended : TblLimits → ℕ → Count → Reading → Front → Step
table_ended l line_length count r front =
    let limit = limit_at_end l line_length r.table in
    record {
      out = told_items (told_at_end l count.line line_length r.table) ++ told_items (own_told l count.line limit)
          ++ map OneByte (given_at_end l count.line line_length r);
      behind = standing_behind limit (record { count = count; place = Outside front });
    }

-- the limit that a byte of a table meets: the rows at the newline that ends one, the columns at a key, the bytes of the table
-- at one that can't be of its `.TE` line
abbrev pub limit_inside : TblLimits → ℕ → Front → Reading → Option Limit
limit_inside l b front r =
    if b == newline && nat_lt l.rows (rows_behind r.table r.line) then Some Rows
    else if nat_lt l.columns (columns_at r.table (r.line ++ b ∷ [])) then Some Columns
    else if not (is_of_name (front_behind end_letter front b)) && nat_lt l.text (length (bytes_read r) + 1) then Some Text
    else None

-- behind a byte of a table that ends neither it nor the run
abbrev pub reading_on : ℕ → ℕ → Reading → Reading
reading_on line b r = if b == newline then line_ended line r else byte_read b r

-- the same, or the limit that it meets
abbrev pub goes_on_inside : Option Limit → TblLimits → ℕ → Count → Front → Reading → Step
goes_on_inside (Some limit) l b count front r = stops l limit count.line (told_at_cut r.table)
goes_on_inside None l b count front r =
    record { out = []; behind = Reads (record { count = count; place = Inside (front_behind end_letter front b) (reading_on count.line b r) }) }

-- a byte of a table: behind `.TE` the line's end, a blank or a tab ends it
abbrev pub take_inside : TblLimits → ℕ → ℕ → Count → Front → Reading → Step
take_inside l line_length b count front r =
    if is_name front && ends_name b then table_ended l line_length count (byte_read b r) (front_behind start_letter front b)
    else goes_on_inside (limit_inside l b front r) l b count front r

-- a byte, counted
abbrev pub take_at : TblLimits → ℕ → ℕ → Count → Place → Step
take_at l line_length b count (Outside front) = passes b (record { count = count; place = place_outside front b })
take_at l line_length b count RestOfStart = passes b (record { count = count; place = on_start_line b })
take_at l line_length b count (Inside front r) = take_inside l line_length b count front r

-- a byte of the input, unless it would pass the limit on them
abbrev pub take : TblLimits → ℕ → ℕ → Now → Step
take l line_length b now =
    if nat_le l.bytes now.count.taken then stops l TblBytes now.count.line (told_so_far now.place)
    else take_at l line_length b (counted b now.count) now.place

-- nothing is left to read
abbrev pub at_rest : Count → Now
at_rest count = record { count = count; place = Outside Nothing }

-- the message of a table that isn't ended, unless it was reported otherwise
abbrev pub not_ended : ℕ → Bool → List Told
not_ended line true = []
not_ended line false = record { line = line; message = TableNotEnded } ∷ []

-- the input ends in a table: its lines pass as they were read, unless the last one passes the limit on its bytes
abbrev pub passes_table : Bool → TblLimits → Count → Reading → Step
passes_table true l count r = stops l Text count.line (told_at_cut r.table)
passes_table false l count r =
    let t = last_read count.line r in
    record {
      out = told_items (notes t) ++ told_items (not_ended count.line (is_bad t)) ++ map OneByte (bytes_read r);
      behind = Reads (at_rest count);
    }

-- the same where the last line may be `.TE`, which ends it
abbrev pub inside_ended : Bool → TblLimits → ℕ → Count → Reading → Step
inside_ended true l line_length count r = table_ended l line_length count r Nothing
inside_ended false l line_length count r = passes_table (nat_lt l.text (length (bytes_read r))) l count r

-- the input's end
abbrev pub end_at : TblLimits → ℕ → Count → Place → Step
end_at l line_length count (Outside front) =
    record { out = told_items (not_ended count.line (not (is_name front))); behind = Reads (at_rest count) }
end_at l line_length count RestOfStart = record { out = told_items (not_ended count.line false); behind = Reads (at_rest count) }
end_at l line_length count (Inside front r) = inside_ended (is_name front) l line_length count r

abbrev pub at_end : TblLimits → ℕ → Now → Step
at_end l line_length now = end_at l line_length now.count now.place

-- the input fails, or a limit of its own stops it: nothing more of a table is given
abbrev pub at_fault : Now → Step
at_fault now = record { out = told_items (told_so_far now.place); behind = Reads (at_rest now.count) }
