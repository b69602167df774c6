-- What is left of a row of a table's picture, as it is walked: of each field its lines that were not given.
use Rattle.std.specs.Prelude.{ℕ, zero, suc, nat_lt, ◌+◌, ◌-◌, max, min, Bool, true, false, List, [], ◌∷◌, ◌++◌, drop, get_or, length, map, Option, None, Some, if◌then◌else◌, ◌==◌}
use Rattle.std.specs.List.{slice_range, flat_map}
use Rattle.tbl_format.specs.Format.{FormatRow}
use Rattle.tbl_format.specs.declared.format.FormatKey.{FormatKey}
use Rattle.tbl_format.specs.declared.format.Key.{Key}
use Rattle.tbl_format.specs.declared.format.Key.TheVariants.{Left}
use Rattle.tbl_options.specs.declared.options.Boxing.{Boxing}
use Rattle.tbl_layout.specs.Columns.{place_in, place_of_rule, widest_entry}
use Rattle.tbl_layout.specs.DataLines.{is_same_sign, sign_byte}
use Rattle.tbl_layout.specs.Entries.{Run, block_line, further_words, run_of_word, up_to_last_glyph}
use Rattle.tbl_layout.specs.KeptEntries.{measure_by, stands_of}
use Rattle.tbl_layout.specs.declared.bars.Bars.{Bars}
use Rattle.tbl_layout.specs.declared.columns.Column.{Column}
use Rattle.tbl_layout.specs.declared.data_lines.RuleSign.{RuleSign}
use Rattle.tbl_layout.specs.declared.data_lines.RuleSign.TheVariants.{Single}
use Rattle.tbl_layout.specs.declared.entry.Entry.{Entry}
use Rattle.tbl_layout.specs.declared.entry.EntryKind.{EntryKind}
use Rattle.tbl_layout.specs.declared.entry.EntryKind.TheVariants.{Above, Block, Repeated, Ruled, Short, Split, Text}
use Rattle.tbl_layout.specs.declared.entry.SplitEntry.{SplitEntry}
use Rattle.tbl_lines.specs.PictureLines.{Cell, at_column, bars_at, bars_at_edge, bars_between, bars_by, crossed_at, crossing, end_of, joint, nothing_there, repeated, right_bars, with_fronts}
use Rattle.tbl_lines.specs.declared.fronts.Front.{Front}
use Rattle.tbl_lines.specs.declared.fronts.Front.TheVariants.{Bars as SomeBars, Crossed, Nothing as NoFront, Ruled as RuledFront}
use Rattle.tbl_lines.specs.declared.row_columns.RowColumn.{RowColumn}
use Rattle.tbl_text.specs.BlockLines.{lines_of, rest_of_line, width_behind}
use Rattle.tbl_text.specs.BlockPlaces.{parts_at, word_at}
use Rattle.tbl_text.specs.declared.block_parts.BlockPlace.{BlockPlace}
use Rattle.tbl_text.specs.declared.block_words.BlockWord.{BlockWord}

-- the lines of a block lie behind the line that opens it, and its newline
abbrev pub block_text : List ℕ → Entry → List ℕ
block_text bytes e = slice_range bytes (e.from + 1) e.to

-- a text that ends at this place up to its last glyph, and has so many columns
abbrev pub text_run : List ℕ → Entry → ℕ → ℕ → Run
text_run bytes e glyphs width = record {
  bytes = slice_range bytes e.from e.to;
  to_glyph = slice_range bytes e.from (min glyphs e.to);
  columns = width;
}

-- the parts of a number that is split, up to a place
abbrev pub parts_to : List ℕ → Entry → SplitEntry → ℕ → List ℕ
parts_to bytes e s to = slice_range bytes e.from (min s.end to) ++ slice_range bytes s.behind to

abbrev pub split_run : List ℕ → Entry → SplitEntry → Run
split_run bytes e s = record {
  bytes = parts_to bytes e s e.to;
  to_glyph = parts_to bytes e s (min s.glyphs e.to);
  columns = s.width;
}

-- the lines of a text: none, where it has no byte
abbrev pub text_lines : Bool → Run → List (List Run)
text_lines is_empty run = if is_empty then [] else (run ∷ []) ∷ []

-- the lines of a byte that is repeated so often, from one of its row on: it stands on the first
abbrev pub repeated_lines : ℕ → ℕ → ℕ → List (List Run)
repeated_lines line b count = drop line ((repeated b count ∷ []) ∷ [])

-- the lines of a field in its column from one of its row on; the rule that it is ends there, and the block that it is goes on at a
-- place
abbrev pub lines_left_by : EntryKind → List ℕ → ℕ → Column → ℕ → Entry → BlockPlace → List (List Run)
lines_left_by (Text glyphs width) bytes line c end e place = drop line (text_lines (e.from == e.to) (text_run bytes e glyphs width))
lines_left_by (Split s) bytes line c end e place = drop line ((split_run bytes e s ∷ []) ∷ [])
lines_left_by (Block b) bytes line c end e place = map block_line (lines_of b.measure (parts_at (block_text bytes e) place))
lines_left_by (Ruled sign) bytes line c end e place = repeated_lines line (sign_byte sign) (end - c.start)
lines_left_by Short bytes line c end e place = repeated_lines line (sign_byte Single) (widest_entry c.needs)
lines_left_by (Repeated b) bytes line c end e place = repeated_lines line b c.width
lines_left_by Above bytes line c end e place = []

-- the column of the page at which the field of a column stands
abbrev pub begins_by : EntryKind → Column → Key → Entry → ℕ
begins_by (Ruled sign) c key e = c.start
begins_by Short c key e = c.start + place_of_rule c key
begins_by (Repeated b) c key e = c.start
begins_by kind c key e = c.start + place_in c key (stands_of key e)

abbrev pub begins_at : RowColumn → ℕ
begins_at r = begins_by r.entry.kind r.column r.key r.entry

-- what is left of it from a line of the row on
abbrev pub cell_left : List ℕ → ℕ → RowColumn → Cell
cell_left bytes line r =
    record { at = begins_at r; lines = lines_left_by r.entry.kind bytes line r.column r.end r.entry r.place; below = [] }

-- the key of a column: behind those of a row come such as `l`
abbrev pub key_of : List FormatKey → ℕ → Key
key_of keys column = get_or (map (λ k. k.key) keys) column Left

-- whether a field is a rule over its column that is drawn with this sign
abbrev pub is_ruled_by : RuleSign → EntryKind → Bool
is_ruled_by sign (Ruled other) = is_same_sign sign other
is_ruled_by sign kind = false

-- where a rule over a column ends, behind which so many bars stand, and these columns and these fields come
abbrev pub rule_end_by : ℕ → RuleSign → Column → List Column → List Entry → ℕ
rule_end_by bars sign c [] entries = c.start + c.width
rule_end_by bars sign c (d ∷ columns) [] = c.start + c.width
rule_end_by bars sign c (d ∷ columns) (e ∷ entries) = if is_ruled_by sign e.kind then joint bars c d else c.start + c.width

-- where the field of a column ends, if it is a rule over it, else 0
abbrev pub end_by : ℕ → EntryKind → Column → List Column → List Entry → ℕ
end_by bars (Ruled sign) c columns entries = rule_end_by bars sign c columns entries
end_by bars kind c columns entries = 0

-- the columns of a row from one on, as many as it has fields, with their keys, where their blocks go on, and where their rules end
abbrev pub row_columns : Boxing → FormatRow → ℕ → List Column → List Entry → List BlockPlace → List RowColumn
row_columns boxing format column [] entries places = []
row_columns boxing format column (c ∷ columns) [] places = []
row_columns boxing format column (c ∷ columns) (e ∷ entries) [] = []
row_columns boxing format column (c ∷ columns) (e ∷ entries) (p ∷ places) =
    record {
      column = c;
      key = key_of format.keys column;
      entry = e;
      place = p;
      end = end_by (bars_between boxing format (suc column)) e.kind c columns entries;
    }
    ∷ row_columns boxing format (suc column) columns entries places

-- the sign of the first two fields, if they are the same rule
abbrev pub joined_kinds : EntryKind → EntryKind → Option RuleSign
joined_kinds (Ruled sign) next = if is_ruled_by sign next then Some sign else None
joined_kinds kind next = None

abbrev pub joined_first : List Entry → Option RuleSign
joined_first [] = None
joined_first (e ∷ []) = None
joined_first (e ∷ f ∷ entries) = joined_kinds e.kind f.kind

-- what stands between columns from one on, each but the first, which have these fields
abbrev pub all_between_by : Boxing → FormatRow → ℕ → List Column → List Entry → List Cell
all_between_by boxing format column [] entries = []
all_between_by boxing format column (c ∷ []) entries = []
all_between_by boxing format column (c ∷ d ∷ columns) entries =
    bars_by (joined_first entries) (bars_between boxing format (suc column)) c d
    ∷ all_between_by boxing format (suc column) (d ∷ columns) (drop 1 entries)

-- what stands in front of each column of a row that is kept, and behind the last, in a picture that is so wide
abbrev pub fronts_by : Bars → ℕ → FormatRow → List Column → List Entry → List Cell
fronts_by bars width format columns entries =
    if bars.has_any then
    bars_at 0 (bars_at_edge bars.boxing format 0)
    ∷ all_between_by bars.boxing format 0 columns entries ++ right_bars width (bars_at_edge bars.boxing format (length columns)) ∷ []
    else []

-- a rule from a place up to another one, which so many bars cross at a third
abbrev pub ruled_runs : RuleSign → ℕ → ℕ → ℕ → ℕ → List Run
ruled_runs sign from at count end =
    repeated (sign_byte sign) (at - from) ∷ repeated crossing count ∷ repeated (sign_byte sign) (end - (at + count)) ∷ []

-- one of them: such a rule stands on each line
abbrev pub cell_of_front : Front → Cell
cell_of_front NoFront = nothing_there
cell_of_front (SomeBars at n) = bars_at at n
cell_of_front (Crossed at n sign end) = crossed_at at n sign end
cell_of_front (RuledFront from sign at count end) = record { at = from; lines = []; below = ruled_runs sign from at count end }

-- whether something stands there
abbrev pub is_there : Front → Bool
is_there NoFront = false
is_there (RuledFront from sign at count end) = nat_lt from end
is_there front = true

-- what is left of a cell from a line of its row on
abbrev pub from_line : ℕ → Cell → Cell
from_line line c = record { at = c.at; lines = drop line c.lines; below = c.below }

-- cells, each but the first behind what stands in front of it
abbrev pub then_fronts : List Cell → List Cell → List Cell
then_fronts fronts [] = []
then_fronts fronts (c ∷ cells) = c ∷ with_fronts fronts cells

-- the first line of a cell, and a cell without it
abbrev pub first_of : Cell → List Run
first_of c = get_or c.lines 0 c.below

-- the first of some cells
abbrev pub first_cell : List Cell → Cell
first_cell [] = nothing_there
first_cell (c ∷ cells) = c

abbrev pub behind_first : Cell → Cell
behind_first c = record { at = c.at; lines = drop 1 c.lines; below = c.below }

-- what is given of a column's runs where so many columns are left up to the line's last glyph: the last one up to its own
abbrev pub given_of : ℕ → List Run → List ℕ
given_of zero runs = []
given_of (suc zero) runs = up_to_last_glyph runs
given_of (suc (suc n)) runs = flat_map (λ run. run.bytes) runs

-- one less, if there is one
abbrev pub one_less : ℕ → ℕ
one_less zero = zero
one_less (suc n) = n

-- what is given of the first lines of cells from a place on
abbrev pub given : ℕ → ℕ → List Cell → List ℕ
given count place [] = []
given count place (c ∷ cells) =
    given_of count (at_column c.at place (first_of c)) ++ given (one_less count) (end_of c.at place (first_of c)) cells

-- a word of a block whose line is so wide with it and begins behind what ends at a place, what stands behind it on the line, and what is
-- given behind that: the other columns, with what stands in front of them
abbrev pub word_given : List ℕ → ℕ → List Cell → ℕ → ℕ → BlockWord → ℕ → BlockPlace → List RowColumn → List ℕ
word_given bytes line fronts count place w width behind [] = []
word_given bytes line fronts count place w width behind (r ∷ columns) =
    let block = block_text bytes r.entry in
    let words = rest_of_line (measure_by r.entry.kind) width (parts_at block behind) in
    given_of count (run_of_word (word_at block w) ∷ further_words words)
    ++ given (one_less count) (max (begins_at r) place + width_behind width words) (with_fronts fronts (map (cell_left bytes line) columns))

-- bytes that are given where columns are left up to the line's last glyph
abbrev pub if_given : ℕ → List ℕ → List ℕ
if_given zero bytes = []
if_given (suc n) bytes = bytes

-- where a text ends that is given: the last one of a line up to its last glyph
abbrev pub end_given : ℕ → ℕ → ℕ → ℕ
end_given zero glyphs to = to
end_given (suc zero) glyphs to = min glyphs to
end_given (suc (suc n)) glyphs to = to
