-- The entries without width of which something is cut in a table's picture (Lesk, "Tbl": Format, the key letter `z`).
use Rattle.std.specs.Prelude.{ℕ, zero, suc, ◌+◌, ◌-◌, ◌≤◌, ◌==◌, ◌&&◌, ◌||◌, not, Bool, if◌then◌else◌, List, [], ◌∷◌, drop, get_or, length, map}
use Rattle.std.specs.List.{list_any}
use Rattle.tbl_format.specs.Format.{FormatRow}
use Rattle.tbl_layout.specs.Entries.{Command, Element, Row, Rule}
use Rattle.tbl_layout.specs.Heights.{heights}
use Rattle.tbl_layout.specs.Texts.{texts_of}
use Rattle.tbl_lines.specs.CellsLeft.{Left, bars_at_end, behind_line, cells_next}
use Rattle.tbl_lines.specs.LinesLeft.{Beside, Nothing, OfRow, OfRules, overs, row_cut, rule_cut}
use Rattle.tbl_lines.specs.PictureLeft.{behind_keys, behind_lines, below_of, through_rule, through_rules}
use Rattle.tbl_lines.specs.PictureLines.{OfKeys, Sheet, Whole, boxed}

-- the cells of a line, behind it: of these something is cut there; and how many of them lost nothing on a line before, in a table of so many
-- columns: cells are told apart by where they end
abbrev pub with_cut : List Left → Left → Left
with_cut cut c = record c { is_cut = c.is_cut || list_any (λ other. other.key.end == c.key.end) cut }

abbrev pub all_with_cut : List Left → List Left → List Left
all_with_cut cut cells = map (with_cut cut) cells

abbrev pub is_first : List Left → ℕ → Bool
is_first cut end = list_any (λ c. c.key.end == end && not c.is_cut) cut

abbrev pub first_from : List Left → ℕ → ℕ → ℕ
first_from cut end zero = 0
first_from cut end (suc columns) = (if is_first cut end then 1 else 0) + first_from cut (suc end) columns

abbrev pub first_cut : ℕ → List Left → ℕ
first_cut columns cut = first_from cut 1 columns

-- how many entries lose something for the first time on lines of a row, and its cells behind them
abbrev pub cut_in_row : Sheet → ℕ → ℕ → List Left → ℕ
cut_in_row s last zero cells = 0
cut_in_row s last (suc lines) cells =
    let cut = row_cut s last cells in first_cut (length s.columns) cut + cut_in_row s last lines (map behind_line (all_with_cut cut cells))

abbrev pub behind_row : Sheet → ℕ → ℕ → List Left → List Left
behind_row s last zero cells = cells
behind_row s last (suc lines) cells = behind_row s last lines (map behind_line (all_with_cut (row_cut s last cells) cells))

-- and on lines of rule keys in front of it
abbrev pub cut_in_keys : Sheet → List Left → Beside → List FormatRow → Beside → ℕ
cut_in_keys s cells above [] below = 0
cut_in_keys s cells above (format ∷ formats) below =
    let cut = rule_cut s (OfKeys format) cells above (behind_keys s cells formats below) in
    first_cut (length s.columns) cut
    + cut_in_keys s (map through_rule (all_with_cut cut cells)) (OfRules (OfKeys format) (overs 0 cells s.columns) above) formats below

abbrev pub behind_key_lines : Sheet → List Left → Beside → List FormatRow → Beside → List Left
behind_key_lines s cells above [] below = cells
behind_key_lines s cells above (format ∷ formats) below =
    let cut = rule_cut s (OfKeys format) cells above (behind_keys s cells formats below) in
    behind_key_lines s (map through_rule (all_with_cut cut cells)) (OfRules (OfKeys format) (overs 0 cells s.columns) above) formats below

-- and on all lines from elements on, as the lines of the picture are drawn
abbrev pub cut_from : Sheet → List ℕ → List Left → Beside → List Element → ℕ
cut_from s heights cells above [] = 0
cut_from s heights cells above (Row rules format fields ∷ elements) =
    let count = length s.columns in
    let height = get_or heights 0 0 in
    let last = bars_at_end count format in
    let below = OfRow (through_rules (length rules) cells) last in
    let own = behind_key_lines s cells above rules below in
    cut_in_keys s cells above rules below
    + (cut_in_row s last height own
    + cut_from s (drop 1 heights) (cells_next count format.keys (behind_row s last height own) (drop 1 heights) elements)
    (OfRow (behind_lines (height - 1) own) last) elements)
cut_from s heights cells above (Rule sign ∷ elements) =
    let cut = rule_cut s (Whole sign) cells above (below_of s (map through_rule cells) elements) in
    first_cut (length s.columns) cut
    + cut_from s heights (map through_rule (all_with_cut cut cells)) (OfRules (Whole sign) (overs 0 cells s.columns) above) elements
cut_from s heights cells above (Command bytes ∷ elements) = cut_from s heights cells above elements

-- how many entries of a table lose something
unfoldable pub cut_entries : Sheet → List Element → ℕ
cut_entries s elements =
    let all = boxed s.bars.boxing elements in
    let own = heights s.bars.boxing.is_inside (length s.columns) elements in
    cut_from s own (cells_next (length s.columns) [] [] own all) Nothing all

-- no more than texts stand in it
abbrev pub FewAreCut : Type 0
FewAreCut = (s : Sheet) (elements : List Element) → cut_entries s elements ≤ texts_of elements
