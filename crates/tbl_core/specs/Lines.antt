-- How a table's beginning and end are known (Lesk, "Input commands"), and how lines are counted.
use Rattle.std.specs.Prelude.{ℕ, ◌+◌, Bool, true, false, ◌||◌, ◌==◌, if◌then◌else◌}
use Rattle.input_source.specs.Bytes.{newline, blank, tab, dot}
use Rattle.tbl_core.specs.declared.place.Front.{Front}
use Rattle.tbl_core.specs.declared.place.Front.TheVariants.{Nothing, Dot, Letter, Name, Other}
use Rattle.tbl_core.specs.declared.place.Count.{Count}

-- the letters of the names `.TS` and `.TE`
abbrev pub letter_t : ℕ
letter_t = 84

abbrev pub start_letter : ℕ
start_letter = 83

abbrev pub end_letter : ℕ
end_letter = 69

-- a name at a line's beginning ends with the line, or before a blank or a tab
abbrev pub ends_name : ℕ → Bool
ends_name b = b == newline || (b == blank || b == tab)

-- a line that doesn't begin with a name, or the next one
abbrev pub front_without : ℕ → Front
front_without b = if b == newline then Nothing else Other

-- how much of a name stands at the line's beginning behind one byte more, by the name's last letter
abbrev pub front_behind : ℕ → Front → ℕ → Front
front_behind last Nothing b = if b == dot then Dot else front_without b
front_behind last Dot b = if b == letter_t then Letter else front_without b
front_behind last Letter b = if b == last then Name else front_without b
front_behind last Name b = front_without b
front_behind last Other b = front_without b

-- it is the whole name
abbrev pub is_name : Front → Bool
is_name Nothing = false
is_name Dot = false
is_name Letter = false
is_name Name = true
is_name Other = false

-- it is a part of it, or the whole
abbrev pub is_of_name : Front → Bool
is_of_name Nothing = false
is_of_name Dot = true
is_of_name Letter = true
is_of_name Name = true
is_of_name Other = false

-- the line begins otherwise
abbrev pub is_other : Front → Bool
is_other Nothing = false
is_other Dot = false
is_other Letter = false
is_other Name = false
is_other Other = true

-- before the first byte
abbrev pub nothing_counted : Count
nothing_counted = record { taken = 0; line = 1; ended = false }

-- a byte is taken: it stands on the next line where the one before ended its line
abbrev pub counted : ℕ → Count → Count
counted b c = record { taken = c.taken + 1; line = if c.ended then c.line + 1 else c.line; ended = b == newline }

-- the next byte's line
abbrev pub next_line : Count → ℕ
next_line c = if c.ended then c.line + 1 else c.line

-- so many bytes of a line are taken, at least one, and none of them its newline
abbrev pub line_counted : ℕ → Count → Count
line_counted n c = record { taken = c.taken + n; line = next_line c; ended = false }
