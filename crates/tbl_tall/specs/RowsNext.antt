-- The row that comes next in a table, and what is left of its cells, by the elements that are kept (Lesk, "Tbl": Format).
use Rattle.std.specs.Prelude.{◌≡◌, ℕ, zero, suc, ◌==◌, Bool, ◌&&◌, List, [], ◌∷◌, drop, length, Option, None, Some, if◌then◌else◌}
use Rattle.tbl_format.specs.Cells.{end_of}
use Rattle.tbl_format.specs.Format.{FormatRow}
use Rattle.tbl_format.specs.RowsServed.{row_at}
use Rattle.tbl_format.specs.declared.format.FormatKey.{FormatKey}
use Rattle.tbl_kept.specs.Rows.{Command as CommandKept, KeptElement, KeptRows, Row as RowKept, RowsLaid, Rule as RuleKept, elements_of, fields_of}
use Rattle.tbl_kept.specs.RowsLaying.{element_at}
use Rattle.tbl_layout.specs.Entries.{Command, Element, Rule, field_at}
use Rattle.tbl_layout.specs.Heights.{cell_above}
use Rattle.tbl_layout.specs.declared.data_lines.RuleSign.{RuleSign}
use Rattle.tbl_layout.specs.declared.entry.Entry.{Entry}
use Rattle.tbl_lines.specs.CellsLeft.{Left, begun, cell_by, cells_next, gone_on, nothing_left}
use Rattle.tbl_lines.specs.LinesLeft.{Beside}
use Rattle.tbl_lines.specs.PictureLines.{Sheet, boxed_from}
use Rattle.tbl_lines.specs.RulePlaces.{HavePlaces}
use Rattle.tbl_options.specs.declared.options.Boxing.{Boxing}
use Rattle.tbl_tall.specs.Bands.{ShowBars}
use Rattle.tbl_line_cells.specs.KeptCells.{AllLeft, IsLeft}
use Rattle.tbl_tall.specs.LinesOver.{lines_kept}
use Rattle.tbl_line_cells.specs.declared.cells.CellLeft.{CellLeft}
use Rattle.tbl_tall.specs.declared.next_cells.RowComing.{RowComing}
use Rattle.tbl_tall.specs.TallRows.{BarsFit, Comes, KeptTall}

-- elements begin with so many rules, among commands, and then come these
pub data RulesThen : ℕ → List Element → List Element → Type 0 where
  Here : {elements : List Element} → RulesThen 0 elements elements
  BehindRule : {sign : RuleSign} {rules : ℕ} {elements rest : List Element} → RulesThen rules elements rest
      → RulesThen (suc rules) (Rule sign ∷ elements) rest
  BehindCommand : {bytes : List ℕ} {rules : ℕ} {elements rest : List Element} → RulesThen rules elements rest
      → RulesThen rules (Command bytes ∷ elements) rest

-- how many rules stand in front of a row behind so many, and so many rows of rule keys, with the one that a box adds where none stands
abbrev pub rules_in_front : Bool → ℕ → ℕ → ℕ
rules_in_front is_between zero zero = if is_between then 1 else 0
rules_in_front is_between zero (suc rule_rows) = 0
rules_in_front is_between (suc rules) rule_rows = suc rules

-- an element that is kept is this row
pub record RowIsAt (elements : List KeptElement) (row : RowComing) : Type 0 where
  pub entries : List Entry
  pub is : drop row.at elements ≡ RowKept row.keys row.rules row.height entries ∷ drop (suc row.at) elements

-- a cell has the bars and the last column of a key, and all cells those of some keys
pub record HasKey (c : CellLeft) (k : FormatKey) : Type 0 where
  pub bars : c.key.bars ≡ k.bars
  pub end : c.key.end ≡ k.end

abbrev pub HasKeys : List CellLeft → List FormatKey → Type 0
HasKeys [] [] = Unit {0}
HasKeys [] (k ∷ keys) = ⊥
HasKeys (c ∷ cells) [] = ⊥
HasKeys (c ∷ cells) (k ∷ keys) = HasKey c k × HasKeys cells keys

-- the row above, if there is one, has these keys
pub data RowAbove (formats : List FormatRow) (elements : List KeptElement) : Option ℕ → List FormatKey → Type 0 where
  NoneAbove : RowAbove formats elements None []
  OneAbove : {above keys rules height : ℕ} {entries : List Entry}
      → element_at elements above ≡ RowKept keys rules height entries
      → RowAbove formats elements (Some above) (row_at formats keys).keys

-- the cell of a row above, of these keys, with which a cell of one that is kept goes on
abbrev pub above_kept : List ℕ → List FormatRow → List FormatKey → KeptElement → ℕ → Option ℕ
above_kept bytes formats above (RowKept keys rules height entries) cell =
    cell_above above (row_at formats keys).keys (fields_of bytes (row_at formats keys) entries) cell
above_kept bytes formats above (RuleKept sign) cell = None
above_kept bytes formats above (CommandKept from to) cell = None

-- up to which column a cell of a row goes
abbrev pub end_kept : List FormatRow → KeptElement → ℕ → ℕ
end_kept formats (RowKept keys rules height entries) cell = end_of (row_at formats keys).keys cell
end_kept formats (RuleKept sign) cell = 0
end_kept formats (CommandKept from to) cell = 0

-- what is left of a cell, below cells that are left so, in front of elements that are kept: it begins, or goes on
abbrev pub begun_kept : List ℕ → List FormatRow → Bool → KeptElement → List KeptElement → ℕ → FormatKey → Left
begun_kept bytes formats is_inside (RowKept keys rules height entries) elements cell k =
    begun k (field_at (fields_of bytes (row_at formats keys) entries) cell) height
    (lines_kept bytes formats is_inside (RowKept keys rules height entries) cell 0 elements)
begun_kept bytes formats is_inside (RuleKept sign) elements cell k = nothing_left k
begun_kept bytes formats is_inside (CommandKept from to) elements cell k = nothing_left k

abbrev pub cell_kept : List ℕ → List FormatRow → Bool → List FormatKey → List Left → KeptElement → List KeptElement → ℕ → FormatKey → Left
cell_kept bytes formats is_inside above lefts row elements cell k =
    cell_by (above_kept bytes formats above row cell) lefts (begun_kept bytes formats is_inside row elements cell k)

-- and of all cells with these keys, from one on
abbrev pub cells_by : (ℕ → FormatKey → Left) → ℕ → List FormatKey → List Left
cells_by left cell [] = []
cells_by left cell (k ∷ keys) = left cell k ∷ cells_by left (suc cell) keys

-- what a cell goes on with is kept as it is left, in place of this new one
pub record GoesOnWith (bytes : List ℕ) (other : Option ℕ) (lefts : List Left) (new : Left) (c : CellLeft) : Type 0 where
  pub left : Left
  pub kept : IsLeft bytes c left
  pub is : cell_by other lefts new ≡ gone_on new.key left

-- a table that is drawn on a sheet: its bytes, the rows of its formats, how it is boxed, and its rows as they are kept
pub record TableDrawn : Type 0 where
  pub bytes : List ℕ
  pub formats : List FormatRow
  pub boxing : Boxing
  pub rows : KeptRows
  pub sheet : Sheet

abbrev pub drawn_on : Sheet → List ℕ → List FormatRow → Boxing → KeptRows → TableDrawn
drawn_on s bytes formats boxing rows = record { bytes = bytes; formats = formats; boxing = boxing; rows = rows; sheet = s }

-- what is left above a row that comes: the keys of the row there, its cells as they are left, and the line above
pub record LeftAbove : Type 0 where
  pub keys : List FormatKey
  pub cells : List Left
  pub line : Beside

-- below cells that are left so and a line whose bars are kept, in a picture for whose bars there are places
pub record StandsBelow (d : TableDrawn) (t : KeptTall) (a : LeftAbove) : Type 0 where
  pub columns : d.sheet.columns ≡ d.rows.columns
  pub boxed : d.sheet.bars.boxing ≡ d.boxing
  pub places : HavePlaces d.formats d.sheet
  pub laid : RowsLaid d.bytes d.formats d.boxing.is_inside d.rows
  pub left : AllLeft d.bytes t.above a.cells
  pub shown : ShowBars d.sheet.bars.boxing (length d.sheet.columns) t.band.above a.line
  pub fit : BarsFit d.sheet a.line

-- below what is left, the row that comes first of elements with these heights comes next: its cells begin, or go on with those above
abbrev pub ComesBelow : TableDrawn → KeptTall → LeftAbove → List ℕ → List Element → Type 0
ComesBelow d t a heights elements =
    Comes d.bytes d.formats d.sheet t heights (cells_next (length d.sheet.columns) a.keys a.cells heights elements) a.line elements

-- the elements from one on, behind a row or not, and so many rules
abbrev pub boxed_behind : List ℕ → List FormatRow → Boxing → Bool → ℕ → List KeptElement → List Element
boxed_behind bytes formats boxing is_below rules elements = boxed_from boxing (is_below && rules == 0) (elements_of bytes formats elements)
