-- A walk over the lines of a table's picture: how far it has come, and what is to come.
use Rattle.std.specs.Prelude.{◌≡◌, ℕ, zero, suc, ◌+◌, ◌-◌, ◌*◌, ◌≤◌, ◌<◌, max, Bool, true, false, List, [], ◌∷◌, ◌++◌, drop, length, map, take, nat_lt, vec_capacity}
use Rattle.std.specs.List.{AllByRecursion}
use Rattle.input_source.specs.Bytes.{newline}
use Rattle.tbl_layout.specs.declared.bars.Bars.{Bars}
use Rattle.tbl_layout.specs.declared.entry.Entry.{Entry}
use Rattle.tbl_layout.specs.KeptEntries.{Lies}
use Rattle.tbl_lines.specs.PictureLines.{Cell, lines_from, with_fronts}
use Rattle.tbl_pieces.specs.PieceQueue.{AddsFitting, KeptPieces}
use Rattle.tbl_lines.specs.RowsLeft.{behind_first, block_text, cell_left, from_line, given, one_less, row_columns, then_fronts, word_given}
pub use Rattle.tbl_lines.specs.RowsLent.{CellsLie, HasFronts, LiesInColumns, WalkedRow, first_place, fronts_of, lent_entries, lent_format, lent_row, line_cells, row_fronts_of, walked}
use Rattle.tbl_lines.specs.RowsWalked.{AreNarrow, IsNarrow, LastHasGlyph, PlacesLie, StandsInFirst, front_count, most_steps, steps_of_cells, steps_of_columns, steps_of_lines, steps_of_word}
use Rattle.tbl_lines.specs.declared.row_columns.RowColumn.{RowColumn}
use Rattle.tbl_picture.specs.Nexts.{AtCell, AtElement, AtEnd, AtFront, AtLine, AtRule, AtRuleRow, AtTop, AtWord, Next, next_by}
use Rattle.tbl_picture.specs.declared.walk.Walk.TheInside.{Inside}
use Rattle.tbl_picture.specs.declared.walk.beside.Beside.{Beside}
use Rattle.tbl_text.specs.BlockPlaces.{IsWithin}
use Rattle.tbl_text.specs.declared.block_parts.BlockPlace.{BlockPlace}
use Rattle.tbl_text.specs.declared.block_words.BlockWord.{BlockWord}

-- the element and the line of it, how many columns are left up to the line's last glyph, the column of the page that is reached,
-- what comes next, for each column of the row where its block goes on: on this line, and behind it, of the columns that are
-- behind the walk; what stands above; and the picture's bars, and how wide it is
pub record KeptWalk : Type 0 where
  pub element : ℕ
  pub line : ℕ
  pub count : ℕ
  pub place : ℕ
  pub next : Next
  pub places : List BlockPlace
  pub behind : List BlockPlace
  pub above : Beside
  pub bars : Bars
  pub picture_width : ℕ
  pub room : ℕ

abbrev pub kept_by : Inside → KeptWalk
kept_by a = record {
  element = a.element;
  line = a.line;
  count = a.count;
  place = a.place;
  next = next_by a.next a.rule;
  places = a.places.items;
  behind = a.behind.items;
  above = a.above;
  bars = a.bars;
  picture_width = a.picture_width;
  room = a.room;
}

-- the room is reserved
pub record IsSound (a : Inside) : Type 0 where
  pub places_reserved : a.room ≤ vec_capacity a.places
  pub behind_reserved : a.room ≤ vec_capacity a.behind

-- its columns, and what is left of them
abbrev pub columns_walked : WalkedRow → KeptWalk → List RowColumn
columns_walked row w = row_columns row.bars.boxing row.format 0 row.columns row.entries w.places

abbrev pub columns_left : WalkedRow → KeptWalk → List RowColumn
columns_left row w = drop (length w.behind) (columns_walked row w)

-- what is left of its fields, all and those that are behind the walk
abbrev pub fields_now : WalkedRow → KeptWalk → List Cell
fields_now row w = map (cell_left row.bytes w.line) (columns_walked row w)

abbrev pub fields_left : WalkedRow → KeptWalk → List Cell
fields_left row w = map (cell_left row.bytes w.line) (columns_left row w)

-- with what stands in front of them: of all; where a column comes next; and where what stands in front of one does
abbrev pub cells_now : WalkedRow → KeptWalk → List Cell
cells_now row w = with_fronts (fronts_of row w.line) (fields_now row w)

abbrev pub cells_left : WalkedRow → KeptWalk → List Cell
cells_left row w = then_fronts (drop (suc (length w.behind)) (fronts_of row w.line)) (fields_left row w)

abbrev pub cells_in_front : ℕ → WalkedRow → KeptWalk → List Cell
cells_in_front at row w = with_fronts (drop at (fronts_of row w.line)) (fields_left row w)

-- what is to come of its next lines, where this one is under way
abbrev pub further_lines : WalkedRow → KeptWalk → List ℕ
further_lines row w = newline ∷ lines_from 0 (row.height - suc w.line) (map behind_first (cells_now row w))

-- what is to come of a row, by what comes next
abbrev pub row_left : Next → WalkedRow → KeptWalk → List ℕ
row_left AtTop row w = []
row_left AtElement row w = []
row_left (AtRuleRow rule) row w = []
row_left (AtRule rule) row w = []
row_left AtEnd row w = []
row_left AtLine row w = lines_from 0 (row.height - w.line) (cells_now row w)
row_left (AtFront at) row w = given w.count w.place (cells_in_front at row w) ++ further_lines row w
row_left AtCell row w = given w.count w.place (cells_left row w) ++ further_lines row w
row_left (AtWord word width place) row w =
    word_given row.bytes w.line (drop (suc (length w.behind)) (fronts_of row w.line)) w.count w.place word width place (columns_left row w)
    ++ further_lines row w

-- a row is before one of its lines
pub record BeforeLine (row : WalkedRow) (w : KeptWalk) : Type 0 where
  pub line : w.line < row.height
  pub short : length row.entries ≤ length row.columns
  pub room : length row.entries ≤ w.room
  pub narrow : AreNarrow row.columns
  pub lie : AllByRecursion (Lies row.bytes) row.entries
  pub fronts : HasFronts row
  pub places : PlacesLie row.bytes row.entries w.places

-- where a text is given that begins at a column of the page, or where the line is reached, and has so many columns, the place behind it;
-- where nothing is given any more, the place stays
abbrev pub reached_by : ℕ → ℕ → ℕ → ℕ → ℕ
reached_by zero place at width = place
reached_by (suc count) place at width = max at place + width

-- the line is reached up to a place where no sum overflows, however far the texts begin and end that are given still, of which there are
-- so many: each is counted with 2 ^ 65 columns, all of them with 2 ^ 127
abbrev pub IsNear : ℕ → ℕ → Type 0
IsNear count place = place + count * 36893488147419103232 ≤ 170141183460469231731687303715884105728

-- a row is within one of its lines: the blocks of the columns that are behind the walk go on behind this line
pub record OnLine (row : WalkedRow) (w : KeptWalk) : Type 0 where
  pub before : BeforeLine row w
  pub near : IsNear w.count w.place
  pub column : length w.behind ≤ length row.entries
  pub places : PlacesLie row.bytes (take (length w.behind) row.entries) w.behind
  pub moved : map (cell_left row.bytes (suc w.line)) (row_columns row.bars.boxing row.format 0 row.columns row.entries w.behind)
      ≡ take (length w.behind) (map behind_first (fields_now row w))

-- what stands in front of a column comes next: of the next one of the row, if it has one
pub record InFront (row : WalkedRow) (at : ℕ) (w : KeptWalk) : Type 0 where
  pub on : OnLine row w
  pub within : at < length (row_fronts_of row)
  pub first : length w.behind < length row.entries → at ≡ length w.behind
  pub last : LastHasGlyph w.count (cells_in_front at row w)

-- a column comes next, or the line's end
pub record InLine (row : WalkedRow) (w : KeptWalk) : Type 0 where
  pub on : OnLine row w
  pub last : LastHasGlyph w.count (cells_left row w)

pub record InWord (row : WalkedRow) (word : BlockWord) (width : ℕ) (place : BlockPlace) (w : KeptWalk) : Type 0 where
  pub line : InLine row w
  pub next : StandsInFirst row.bytes word width place (columns_left row w)

-- what the walk of a row needs, by what comes next
abbrev pub IsUnderWay : Next → WalkedRow → KeptWalk → Type 0
IsUnderWay AtTop row w = ⊥
IsUnderWay AtElement row w = ⊥
IsUnderWay (AtRuleRow rule) row w = ⊥
IsUnderWay (AtRule rule) row w = ⊥
IsUnderWay AtEnd row w = ⊥
IsUnderWay AtLine row w = BeforeLine row w
IsUnderWay (AtFront at) row w = InFront row at w
IsUnderWay AtCell row w = InLine row w
IsUnderWay (AtWord word width place) row w = InWord row word width place w

-- the most steps of so many lines of a row, and of those of a row that are left
abbrev pub steps_of_rest : WalkedRow → ℕ → ℕ
steps_of_rest row lines = steps_of_lines (front_count row.columns + steps_of_columns (most_steps row.bytes) row.entries) lines

abbrev pub row_steps : Next → WalkedRow → KeptWalk → ℕ
row_steps AtTop row w = 0
row_steps AtElement row w = 0
row_steps (AtRuleRow rule) row w = 0
row_steps (AtRule rule) row w = 0
row_steps AtEnd row w = 0
row_steps AtLine row w = steps_of_rest row (row.height - w.line)
row_steps (AtFront at) row w =
    front_count row.columns - at + steps_of_columns (most_steps row.bytes) (drop (length w.behind) row.entries)
    + steps_of_rest row (row.height - suc w.line)
row_steps AtCell row w =
    steps_of_cells (most_steps row.bytes) (front_count row.columns - suc (length w.behind)) (drop (length w.behind) row.entries)
    + steps_of_rest row (row.height - suc w.line)
row_steps (AtWord word width place) row w =
    steps_of_word row.bytes place (drop (length w.behind) row.entries)
    + (front_count row.columns - suc (length w.behind)
    + (steps_of_columns (most_steps row.bytes) (drop (suc (length w.behind)) row.entries) + steps_of_rest row (row.height - suc w.line)))

-- within a row
abbrev pub IsOn : Next → Type 0
IsOn AtTop = ⊥
IsOn AtElement = ⊥
IsOn (AtRuleRow rule) = ⊥
IsOn (AtRule rule) = ⊥
IsOn AtEnd = ⊥
IsOn AtLine = Unit {0}
IsOn (AtFront at) = Unit {0}
IsOn AtCell = Unit {0}
IsOn (AtWord word width place) = Unit {0}

-- what stays in steps within a row
pub record Stays (old new : KeptWalk) : Type 0 where
  pub element : new.element ≡ old.element
  pub above : new.above ≡ old.above
  pub bars : new.bars ≡ old.bars
  pub width : new.picture_width ≡ old.picture_width
  pub room : new.room ≡ old.room

-- steps within a row that goes on: these bytes are given, and the rest of the row is left
pub record RowSteps (frame : List ℕ) (row : WalkedRow) (old new : KeptWalk) (before after : KeptPieces) : Type 0 where
  pub added : List ℕ
  pub adds : AddsFitting row.bytes frame before after added
  pub joins : row_left old.next row old ≡ added ++ row_left new.next row new
  pub on : IsOn new.next
  pub can : IsUnderWay new.next row new
  pub less : row_steps new.next row new < row_steps old.next row old
  pub stays : Stays old new

-- steps within a row that end it: these bytes are given, and nothing of the row is left
pub record RowEnds (frame : List ℕ) (row : WalkedRow) (old new : KeptWalk) (before after : KeptPieces) : Type 0 where
  pub added : List ℕ
  pub adds : AddsFitting row.bytes frame before after added
  pub all : row_left old.next row old ≡ added
  pub stays : Stays old new

abbrev pub RowEndsOrGoesOn : Bool → List ℕ → WalkedRow → KeptWalk → KeptWalk → KeptPieces → KeptPieces → Type 0
RowEndsOrGoesOn true frame row old new before after = RowEnds frame row old new before after
RowEndsOrGoesOn false frame row old new before after = RowSteps frame row old new before after

-- a row goes on: none of its steps was made yet, or some were
pub data RowGoesOn (frame : List ℕ) (row : WalkedRow) (old new : KeptWalk) (before after : KeptPieces) : Type 0 where
  NotYet : new ≡ old → after ≡ before → RowGoesOn frame row old new before after
  Gone : RowSteps frame row old new before after → RowGoesOn frame row old new before after

-- its steps so far, the last of all among them or not
abbrev pub RowSoFar : Bool → List ℕ → WalkedRow → KeptWalk → KeptWalk → KeptPieces → KeptPieces → Type 0
RowSoFar true frame row old new before after = RowEnds frame row old new before after
RowSoFar false frame row old new before after = RowGoesOn frame row old new before after

-- a row begins
abbrev pub row_begun : List Entry → KeptWalk → KeptWalk
row_begun entries w = record w { line = 0; next = AtLine; places = map first_place entries }

-- the walk is at a column of a line, which lies in the table's bytes
pub record AtColumn (row : WalkedRow) (w : KeptWalk) (r : RowColumn) : Type 0 where
  pub line : InLine row w
  pub first : columns_left row w ≡ r ∷ drop (suc (length w.behind)) (columns_walked row w)
  pub entries : drop (length w.behind) row.entries ≡ r.entry ∷ drop (suc (length w.behind)) row.entries
  pub lies : Lies row.bytes r.entry
  pub within : IsWithin (block_text row.bytes r.entry) r.place
  pub narrow : IsNarrow r.column
  pub free : length w.behind < w.room

-- what comes next in front of a column: what stands in front of it, where the picture may have bars
abbrev pub next_column : Bool → ℕ → Next
next_column false column = AtCell
next_column true column = AtFront column

-- the walk is at what stands in front of a column
pub record FrontStands (row : WalkedRow) (at : ℕ) (f : Cell) (w : KeptWalk) : Type 0 where
  pub front : InFront row at w
  pub first : drop at (fronts_of row w.line) ≡ from_line w.line f ∷ drop (suc at) (fronts_of row w.line)

-- behind a column, whose block goes on at a place, and at a column of the page
abbrev pub passed : Bool → BlockPlace → ℕ → KeptWalk → KeptWalk
passed has_bars place reached w = record w {
  behind = w.behind ++ place ∷ [];
  count = one_less w.count;
  place = reached;
  next = next_column has_bars (length (w.behind ++ place ∷ []));
}

-- behind what stands in front of a column: the field of the column, if the row has one, else what stands in front of the next column,
-- if there is one
abbrev pub next_behind : Bool → Bool → ℕ → Next
next_behind true is_inner at = AtCell
next_behind false true at = AtFront (at + 1)
next_behind false false at = AtCell

abbrev pub front_passed : WalkedRow → ℕ → ℕ → KeptWalk → KeptWalk
front_passed row at reached w = record w {
  count = one_less w.count;
  place = reached;
  next = next_behind (nat_lt (length w.behind) (length w.places)) (nat_lt at (max 1 (length row.columns))) at;
}

-- before a word
abbrev pub at_word : BlockWord → ℕ → BlockPlace → KeptWalk → KeptWalk
at_word word width place w = record w { next = AtWord word width place }
