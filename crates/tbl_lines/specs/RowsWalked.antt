-- What the walk of a row's lines needs, and how many steps it may take.
use Rattle.std.specs.Prelude.{◌≡◌, ℕ, zero, suc, ◌+◌, ◌<◌, ◌≤◌, max, List, [], ◌∷◌, drop, length, map}
use Rattle.std.specs.List.{AllByRecursion}
use Rattle.tbl_layout.specs.Entries.{Run, block_line, up_to_last_glyph}
use Rattle.tbl_layout.specs.KeptEntries.{IsBlock, measure_by}
use Rattle.tbl_layout.specs.declared.columns.Column.{Column}
use Rattle.tbl_layout.specs.declared.entry.Entry.{Entry}
use Rattle.tbl_lines.specs.PictureLines.{Cell}
use Rattle.tbl_lines.specs.RowsLeft.{behind_first, block_text, cell_left, first_of, lines_left_by, repeated_lines}
use Rattle.tbl_lines.specs.declared.fronts.Front.{Front}
use Rattle.tbl_lines.specs.declared.fronts.Front.TheVariants.{Bars as SomeBars, Crossed, Nothing as NoFront, Ruled as RuledFront}
use Rattle.tbl_lines.specs.declared.row_columns.RowColumn.{RowColumn}
use Rattle.tbl_text.specs.BlockLines.{behind_rest, lines_of}
use Rattle.tbl_text.specs.BlockPlaces.{IsWithin, LiesBehind, left_at, parts_at}
use Rattle.tbl_text.specs.declared.block_parts.BlockPlace.{BlockPlace}
use Rattle.tbl_text.specs.declared.block_words.BlockWord.{BlockWord}

-- a column ends where no sum of places overflows
pub record IsNarrow (c : Column) : Type 0 where
  pub end : c.start + c.width < 4294967296

abbrev pub AreNarrow : List Column → Type 0
AreNarrow columns = AllByRecursion IsNarrow columns

-- the places of fields lie in their blocks
abbrev pub PlacesLie : List ℕ → List Entry → List BlockPlace → Type 0
PlacesLie bytes [] [] = Unit {0}
PlacesLie bytes [] (p ∷ places) = ⊥
PlacesLie bytes (e ∷ entries) [] = ⊥
PlacesLie bytes (e ∷ entries) (p ∷ places) = IsWithin (block_text bytes e) p × PlacesLie bytes entries places

-- something of these runs is given up to their last glyph
abbrev pub HasGlyph : List Run → Type 0
HasGlyph runs = 0 < length (up_to_last_glyph runs)

-- where so many cells are left up to a line's last glyph, the last of them has one
abbrev pub LastHasGlyph : ℕ → List Cell → Type 0
LastHasGlyph count [] = Unit {0}
LastHasGlyph zero (c ∷ cells) = Unit {0}
LastHasGlyph (suc zero) (c ∷ cells) = HasGlyph (first_of c)
LastHasGlyph (suc (suc n)) (c ∷ cells) = LastHasGlyph (suc n) cells

-- what stands in front of a column, if it isn't nothing, has some bars, or is a rule: bars cross it where it stands
abbrev pub HasBars : Front → Type 0
HasBars NoFront = Unit {0}
HasBars (SomeBars at n) = 0 < n
HasBars (Crossed at n sign end) = 0 < n
HasBars (RuledFront from sign at count end) = (from ≤ at) × (at + count ≤ end)

-- the field of a column is a byte that is repeated so often
pub record Repeats (b count : ℕ) (r : RowColumn) : Type 0 where
  pub lines : (bytes : List ℕ) (line : ℕ) → lines_left_by r.entry.kind bytes line r.column r.end r.entry r.place ≡ repeated_lines line b count

-- nothing of a column's field stands on a line, and the field goes on at the same place
pub record IsEmptyOn (bytes : List ℕ) (line : ℕ) (r : RowColumn) : Type 0 where
  pub none : first_of (cell_left bytes line r) ≡ []
  pub moved : cell_left bytes (suc line) (record r { place = r.place }) ≡ behind_first (cell_left bytes line r)

-- the word of a column's block that comes next, on a line that is so wide with it, and the place behind it
pub record StandsNext (bytes : List ℕ) (word : BlockWord) (width : ℕ) (place : BlockPlace) (r : RowColumn) : Type 0 where
  pub block : IsBlock r.entry.kind
  pub lies : LiesBehind (block_text bytes r.entry) 0 word
  pub within : IsWithin (block_text bytes r.entry) place
  pub rest : map block_line (lines_of (measure_by r.entry.kind) (behind_rest (measure_by r.entry.kind) width (parts_at (block_text bytes r.entry) place)))
      ≡ drop 1 (map block_line (lines_of (measure_by r.entry.kind) (parts_at (block_text bytes r.entry) r.place)))

abbrev pub StandsInFirst : List ℕ → BlockWord → ℕ → BlockPlace → List RowColumn → Type 0
StandsInFirst bytes word width place [] = ⊥
StandsInFirst bytes word width place (r ∷ columns) = StandsNext bytes word width place r

-- the most steps of a column
abbrev pub most_steps : List ℕ → ℕ
most_steps bytes = length bytes + 3

-- how many there are of what stands in front of columns and behind the last
abbrev pub front_count : List Column → ℕ
front_count columns = suc (max 1 (length columns))

-- the most steps of columns, of which each has at most so many, and of the line's end; of a line with so much in front of them that
-- a column comes next; and of so many lines
abbrev pub steps_of_columns : ℕ → List Entry → ℕ
steps_of_columns most [] = 1
steps_of_columns most (e ∷ entries) = most + steps_of_columns most entries

abbrev pub steps_of_cells : ℕ → ℕ → List Entry → ℕ
steps_of_cells most fronts [] = 1
steps_of_cells most fronts (e ∷ entries) = most + (fronts + steps_of_columns most entries)

abbrev pub steps_of_lines : ℕ → ℕ → ℕ
steps_of_lines steps zero = 0
steps_of_lines steps (suc count) = suc steps + steps_of_lines steps count

-- the most steps of what is left of a block's line, behind a place of the first field's block
abbrev pub steps_of_word : List ℕ → BlockPlace → List Entry → ℕ
steps_of_word bytes place [] = 1
steps_of_word bytes place (e ∷ entries) = left_at (block_text bytes e) place + 1

-- no cell has a glyph on its first line
abbrev pub AreGlyphless : List Cell → Type 0
AreGlyphless cells = AllByRecursion (λ c. up_to_last_glyph (first_of c) ≡ []) cells
