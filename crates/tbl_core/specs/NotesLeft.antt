-- How many messages may still come.
use Rattle.std.specs.Prelude.{ℕ, Bool, true, false, ◌+◌, ◌-◌, ◌*◌, List, [], ◌∷◌, length, if◌then◌else◌}
use Rattle.input_source.specs.Tape.{Item, OneByte, OneNote, Answer, Gives, Ends}
use Rattle.tbl_format.specs.declared.limits.TblLimits.{TblLimits}
use Rattle.tbl_core.specs.Lines.{is_name}
use Rattle.tbl_core.specs.Machine.{Place, Outside, RestOfStart, Inside, Standing, Reads, Over}
use Rattle.tbl_table.specs.MayTell.{may_cut, may_tell}
use Rattle.tbl_core.specs.Tables.{TablesState}

-- how many messages are among these items
abbrev pub noted : List Item → ℕ
noted [] = 0
noted (OneByte b ∷ items) = noted items
noted (OneNote message ∷ items) = 1 + noted items

-- a byte is answered
abbrev pub gives_byte : Answer → Bool
gives_byte (Gives (OneByte b)) = true
gives_byte (Gives (OneNote message)) = false
gives_byte (Ends ending) = false

-- as many as may come without a further byte
abbrev pub most_here : Place → ℕ
most_here (Outside front) = if is_name front then 1 else 0
most_here RestOfStart = 1
most_here (Inside front r) = may_tell r.table + may_cut r.table + 2 * length r.line + 4

-- as many as may come: those here, those of the tables that fewer bytes than the limit have, and that of a limit
abbrev pub most_behind : TblLimits → Standing → ℕ
most_behind l (Reads now) = 5 * (l.bytes - now.count.taken) + most_here now.place + 1
most_behind l (Over limit line) = 0

abbrev pub notes_left : TablesState → ℕ
notes_left t = noted t.at.pending + most_behind t.limits t.at.standing

-- how many bytes may still be taken
abbrev pub bytes_left : TblLimits → Standing → ℕ
bytes_left l (Reads now) = l.bytes - now.count.taken
bytes_left l (Over limit line) = 0
