-- The lines of a table's picture, as the formatter reads them, with cells of several rows (Lesk, "Tbl": Formatting).
use Rattle.std.specs.Prelude.{ℕ, zero, suc, ◌-◌, List, [], ◌∷◌, ◌++◌, drop, get_or, length, map, if◌then◌else◌}
use Rattle.input_source.specs.Bytes.{newline}
use Rattle.tbl_format.specs.Format.{FormatRow}
use Rattle.tbl_layout.specs.Entries.{Command, Element, Row, Rule}
use Rattle.tbl_layout.specs.Heights.{heights}
use Rattle.tbl_lines.specs.CellsLeft.{Left, bars_at_end, behind_line, cells_next, goes_on}
use Rattle.tbl_lines.specs.LinesLeft.{Beside, Nothing, OfRow, OfRules, overs, row_line, rule_line_left}
use Rattle.tbl_lines.specs.PictureLines.{OfKeys, Sheet, Whole, boxed}

-- the cells of a row behind some of its lines
abbrev pub behind_lines : ℕ → List Left → List Left
behind_lines zero cells = cells
behind_lines (suc lines) cells = behind_lines lines (map behind_line cells)

-- and behind lines of rules in front of it: those that go on go through them
abbrev pub through_rule : Left → Left
through_rule c = if goes_on c then behind_line c else c

abbrev pub through_rules : ℕ → List Left → List Left
through_rules zero cells = cells
through_rules (suc rules) cells = through_rules rules (map through_rule cells)

-- the lines of a row, as many as it has left
abbrev pub row_lines : Sheet → ℕ → ℕ → List Left → List ℕ
row_lines s last zero cells = []
row_lines s last (suc lines) cells = row_line s last cells ++ row_lines s last lines (map behind_line cells)

-- the line behind some lines of rules in front of a row with these cells
abbrev pub behind_keys : Sheet → List Left → List FormatRow → Beside → Beside
behind_keys s cells [] below = below
behind_keys s cells (format ∷ formats) below = OfRules (OfKeys format) (overs 0 cells s.columns) (behind_keys s cells formats below)

-- the lines of rows of rule keys between two others
abbrev pub key_lines : Sheet → List Left → Beside → List FormatRow → Beside → List ℕ
key_lines s cells above [] below = []
key_lines s cells above (format ∷ formats) below =
    rule_line_left s (OfKeys format) cells above (behind_keys s cells formats below)
    ++ key_lines s (map through_rule cells) (OfRules (OfKeys format) (overs 0 cells s.columns) above) formats below

-- the line in front of elements, of whose first row the cells are left so
abbrev pub below_of : Sheet → List Left → List Element → Beside
below_of s cells [] = Nothing
below_of s cells (Row rules format fields ∷ elements) =
    behind_keys s cells rules (OfRow (through_rules (length rules) cells) (bars_at_end (length s.columns) format))
below_of s cells (Rule sign ∷ elements) = OfRules (Whole sign) (overs 0 cells s.columns) (below_of s (map through_rule cells) elements)
below_of s cells (Command bytes ∷ elements) = below_of s cells elements

-- the lines of a picture from elements on, whose rows have these heights, and of whose first row the cells are left so, with the commands
-- between them, behind a line of it
abbrev pub lines_left : Sheet → List ℕ → List Left → Beside → List Element → List ℕ
lines_left s heights cells above [] = []
lines_left s heights cells above (Row rules format fields ∷ elements) =
    let count = length s.columns in
    let height = get_or heights 0 0 in
    let last = bars_at_end count format in
    let own = through_rules (length rules) cells in
    key_lines s cells above rules (OfRow own last)
    ++ (row_lines s last height own
    ++ lines_left s (drop 1 heights) (cells_next count format.keys (behind_lines height own) (drop 1 heights) elements)
    (OfRow (behind_lines (height - 1) own) last) elements)
lines_left s heights cells above (Rule sign ∷ elements) =
    rule_line_left s (Whole sign) cells above (below_of s (map through_rule cells) elements)
    ++ lines_left s heights (map through_rule cells) (OfRules (Whole sign) (overs 0 cells s.columns) above) elements
lines_left s heights cells above (Command bytes ∷ elements) = bytes ++ newline ∷ lines_left s heights cells above elements

-- the lines of a table's picture, whose rows have these heights
abbrev pub picture_left : Sheet → List ℕ → List Element → List ℕ
picture_left s heights elements =
    let all = boxed s.bars.boxing elements in lines_left s heights (cells_next (length s.columns) [] [] heights all) Nothing all

-- whose rows are as high as what stands in them
abbrev pub table_lines : Sheet → List Element → List ℕ
table_lines s elements = picture_left s (heights s.bars.boxing.is_inside (length s.columns) elements) elements
