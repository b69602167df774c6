-- Entries without width run on over what is free to their right, and are cut to whole glyphs (Lesk, "Tbl": Format, the key letter `z`).
use Rattle.std.specs.Prelude.{◌≡◌, ℕ, ◌+◌, ◌-◌, ◌<◌, ◌≤◌, max, min, nat_lt, is_some, unwrap_or, false, true, List, [], ◌∷◌, ◌++◌, drop, length, map, None, Some, ◌⊎◌, if◌then◌else◌, ⊤}
use Rattle.std.specs.List.{AllByRecursion}
use Rattle.input_source.specs.Bytes.{blank}
use Rattle.tbl_format.specs.Cells.{AreCells, end_of}
use Rattle.tbl_format.specs.declared.format.FormatKey.{FormatKey}
use Rattle.tbl_layout.specs.Entries.{Command, Content, Element, Repeated, Row, Rule, Run, columns_of, field_at, is_entry}
use Rattle.tbl_layout.specs.Heights.{cell_below}
use Rattle.tbl_layout.specs.declared.columns.Column.{Column}
use Rattle.tbl_laws.specs.PiecesApart.{BeginsBehind, columns_of_cells, fronts_of_row, shown_in_row}
use Rattle.tbl_lines.specs.CellsLeft.{Left, all_keys, goes_on}
use Rattle.tbl_lines.specs.LinesLeft.{Shown, all_cut, end_of_columns, next_drawn, runs_on, shown}
use Rattle.tbl_lines.specs.PictureLines.{Cell, Sheet}
use Rattle.tbl_lines.specs.RowsLeft.{first_of}
use Rattle.tbl_text.specs.BlockLines.{leading, line_width}
use Rattle.tbl_text.specs.BlockWords.{EmptyLine, OneWord, Part, Word, has_glyph, word_of}
use Rattle.tbl_text.specs.Fitted.{fitting}
use Rattle.tbl_text.specs.FittedWords.{word_fitted}
use Rattle.tbl_text.specs.Items.{Item, columns, is_blank, items}
use Rattle.tbl_text.specs.Measuring.{width_of}

-- of some items these are the first, as many as fit in so many columns: with the next one they wouldn't
pub record IsLongestFront (room : ℕ) (all front : List Item) : Type 0 where
  pub rest : List Item
  pub whole : all ≡ front ++ rest
  pub fits : width_of front ≤ room
  pub most : (next : Item) (behind : List Item) → rest ≡ next ∷ behind → room < width_of front + columns next.what

-- behind how many columns of a line of a block a word stands, as the first of it or behind others
abbrev pub begins_at : List Part → Word → ℕ
begins_at [] w = leading w
begins_at (p ∷ front) w = line_width (p ∷ front) + w.gap

-- a line of words, and no empty one
abbrev pub IsWord : Part → Type 0
IsWord EmptyLine = ⊥
IsWord (OneWord w) = ⊤

abbrev pub AreWords : List Part → Type 0
AreWords line = AllByRecursion IsWord line

-- as much as fits of a word that stands behind so many columns, up to the end of the room
abbrev pub word_cut : ℕ → ℕ → Word → List Word
word_cut room at w = if nat_lt room at then [] else word_fitted (room - at) w

-- a line of words is left as it is, or the words in front stand whole, and of the next one, with which they wouldn't fit, as much as fits
pub data CutsLine (room : ℕ) (line cut : List Part) : Type 0 where
  Whole : (is : cut ≡ line) → CutsLine room line cut
  Front : (front : List Part) (w : Word) (behind : List Part) (whole : line ≡ front ++ OneWord w ∷ behind)
      (most : room < line_width (front ++ OneWord w ∷ []))
      (is : cut ≡ front ++ map OneWord (word_cut room (begins_at front w) w)) → CutsLine room line cut

pub record IsLongestLine (room : ℕ) (line cut : List Part) : Type 0 where
  pub cuts : CutsLine room line cut
  pub fits : line_width cut ≤ room

-- as much as fits of a word in which no blank stands: the first of its items, if one of them is a glyph
abbrev pub HasNoBlank : Word → Type 0
HasNoBlank w = AllByRecursion (λ i. is_blank i.what ≡ false) (items w.text)

abbrev pub front_of_word : ℕ → Word → List Word
front_of_word room w =
    let front = fitting room (items w.text) in if has_glyph front then record (word_of w.gap front) { breaks = w.breaks } ∷ [] else []

-- what is shown ends in front of a column of the page, or has no column
abbrev pub EndsBefore : ℕ → Shown → Type 0
EndsBefore end c = c.at + columns_of c.runs ≤ max c.at end

-- what runs on among these ends, as it is cut, in front of the next bar or rule, and of the column behind which its cell says
abbrev pub EndInTime : Sheet → List Cell → List Shown → List Shown → Type 0
EndInTime s fronts [] others = ⊤
EndInTime s fronts (c ∷ cells) [] = ⊥
EndInTime s fronts (c ∷ cells) (cut ∷ others) =
    ((own : Left) → c.runs_on ≡ Some own → EndsBefore (min (next_drawn s.width (drop 1 fronts) cells) (end_of_columns s own.stop)) cut)
    × EndInTime s (drop 1 fronts) cells others

-- the cells of a row as they would be if what runs on filled their columns
abbrev pub filled : Left → Column → Left
filled own c = if runs_on own c then record own { field = Repeated blank } else own

abbrev pub all_filled : List Left → List Column → List Left
all_filled [] columns = []
all_filled (own ∷ cells) [] = own ∷ cells
all_filled (own ∷ cells) (c ∷ columns) = filled own c ∷ all_filled cells columns

abbrev pub row_filled : Sheet → List Left → List Left
row_filled s cells = all_filled cells (columns_of_cells s cells)

-- a rule, or a byte that is repeated, in some columns
pub record IsDrawn (c : Shown) : Type 0 where
  pub drawn : c.is_text ≡ false
  pub some : 0 < columns_of c.runs

-- what stands behind what runs on begins at the column where that stops, or behind it; or it is drawn, and that ends in front of it
abbrev pub IsClear : ℕ → Shown → Type 0
IsClear stop other = BeginsBehind stop other.at other.runs ⊎ IsDrawn other

abbrev pub FreeToStop : Sheet → List Shown → Type 0
FreeToStop s [] = ⊤
FreeToStop s (c ∷ cells) =
    ((own : Left) → c.runs_on ≡ Some own → AllByRecursion (λ other. IsClear (end_of_columns s own.stop) other) cells) × FreeToStop s cells

-- what a line shows beside what it would show if what runs on filled its columns: nothing else is changed
pub data Alike (filled own : Shown) : Type 0 where
  Same : (none : own.runs_on ≡ None) (is : filled ≡ own) → Alike filled own
  Runs : (cell : Left) (on : own.runs_on ≡ Some cell) (text : own.is_text ≡ true) (same : filled.at ≡ own.at) (some : 0 < length filled.runs)
      → Alike filled own

abbrev pub AreAlike : List Shown → List Shown → Type 0
AreAlike [] [] = ⊤
AreAlike [] (q ∷ others) = ⊥
AreAlike (p ∷ filled) [] = ⊥
AreAlike (p ∷ filled) (q ∷ others) = Alike p q × AreAlike filled others

-- bars and rules that stand between cells have columns, where something is drawn
abbrev pub HasColumns : List Run → Type 0
HasColumns [] = ⊤
HasColumns (run ∷ runs) = 0 < columns_of (run ∷ runs)

abbrev pub HaveColumns : List Cell → Type 0
HaveColumns fronts = AllByRecursion (λ f. HasColumns (first_of f)) fronts

-- what the cells of a row show, cut where it runs on
abbrev pub cut_in_row : Sheet → ℕ → List Left → List Shown
cut_in_row s last cells = all_cut s (fronts_of_row s last cells) (shown_in_row s cells)

-- of some cells, the first of which begins behind so many columns, those in which something stands begin behind no fewer than these
abbrev pub AreFree : ℕ → ℕ → List Left → Type 0
AreFree stop from [] = ⊤
AreFree stop from (c ∷ cells) = (c.is_used ≡ true → stop ≤ from) × AreFree stop c.key.end cells

-- what has no width in a cell stops in front of the others behind it in which something stands
abbrev pub StopInFront : List Left → Type 0
StopInFront [] = ⊤
StopInFront (c ∷ cells) = (c.key.has_no_width ≡ true → AreFree c.stop c.key.end cells) × StopInFront cells

-- so it does in cells that go on from the row above
abbrev pub GoOnInFront : List Left → Type 0
GoOnInFront [] = ⊤
GoOnInFront (c ∷ cells) = (goes_on c ≡ true → c.key.has_no_width ≡ true → AreFree c.stop c.key.end cells) × GoOnInFront cells

-- a cell shows nothing, wherever it stands
abbrev pub ShowsNothing : Left → Type 0
ShowsNothing own = (c : Column) (end : ℕ) → (shown own c end).runs ≡ []

-- cells in which nothing stands show nothing
abbrev pub ShowIfUsed : List Left → Type 0
ShowIfUsed cells = AllByRecursion (λ own. own.is_used ≡ false → ShowsNothing own) cells

-- of the fields under these keys, of which the first begins behind so many columns, entries that don't begin in front of a column begin
-- behind no fewer than these
abbrev pub FieldsFree : ℕ → ℕ → ℕ → List FormatKey → List Content → Type 0
FieldsFree stop column from [] fields = ⊤
FieldsFree stop column from (k ∷ keys) fields =
    (column ≤ from → is_entry (field_at fields 0) ≡ true → stop ≤ from) × FieldsFree stop column k.end keys (drop 1 fields)

-- so it is to the right of a cell of a row of these keys in each row below that it covers
abbrev pub FreeBelow : ℕ → ℕ → List FormatKey → ℕ → List Element → Type 0
FreeBelow stop columns keys cell [] = ⊤
FreeBelow stop columns keys cell (Row rules format fields ∷ elements) =
    let below = cell_below keys format.keys fields cell in
    is_some below ≡ true
    → FieldsFree stop (end_of keys cell) 0 (all_keys columns format) fields × FreeBelow stop columns format.keys (unwrap_or below 0) elements
FreeBelow stop columns keys cell (Rule sign ∷ elements) = FreeBelow stop columns keys cell elements
FreeBelow stop columns keys cell (Command bytes ∷ elements) = FreeBelow stop columns keys cell elements

-- each cell of a row has a column at least
abbrev pub HaveCells : ℕ → List Element → Type 0
HaveCells columns [] = ⊤
HaveCells columns (Row rules format fields ∷ elements) = AreCells 0 (all_keys columns format) × HaveCells columns elements
HaveCells columns (Rule sign ∷ elements) = HaveCells columns elements
HaveCells columns (Command bytes ∷ elements) = HaveCells columns elements
