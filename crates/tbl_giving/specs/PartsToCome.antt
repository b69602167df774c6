-- A table's picture part by part: each of its lines, and each command between them (Lesk, "Tbl": Formatting).
use Rattle.std.specs.Prelude.{ℕ, zero, suc, ◌+◌, ◌-◌, ◌<◌, List, [], ◌∷◌, ◌++◌, drop, get_or, length, map}
use Rattle.input_source.specs.Bytes.{newline}
use Rattle.tbl_layout.specs.Entries.{Command, Content, Element, Row, Rule}
use Rattle.tbl_format.specs.Format.{FormatRow}
use Rattle.tbl_lines.specs.CellsLeft.{Left, bars_at_end, behind_line, cells_next}
use Rattle.tbl_lines.specs.LinesLeft.{Beside, Nothing, OfRow, OfRules, overs, row_line, rule_line_left}
use Rattle.tbl_lines.specs.PictureLeft.{lines_left, through_rule}
use Rattle.tbl_lines.specs.PictureLines.{OfKeys, Sheet, Whole}
use Rattle.tbl_tall.specs.TallRows.{below_rule}

-- what is to come of a picture: elements, whose rows have these heights, and of whose first row the cells are left so, behind a line
pub record ToCome : Type 0 where
  pub heights : List ℕ
  pub cells : List Left
  pub above : Beside
  pub elements : List Element

abbrev pub all_lines : Sheet → ToCome → List ℕ
all_lines s x = lines_left s x.heights x.cells x.above x.elements

-- something is to come
abbrev pub HasPartBy : List ℕ → List Element → Type 0
HasPartBy heights [] = ⊥
HasPartBy heights (Row [] format fields ∷ elements) = 0 < get_or heights 0 0
HasPartBy heights (Row (rule ∷ rules) format fields ∷ elements) = Unit {0}
HasPartBy heights (Rule sign ∷ elements) = Unit {0}
HasPartBy heights (Command bytes ∷ elements) = Unit {0}

abbrev pub HasPart : ToCome → Type 0
HasPart x = HasPartBy x.heights x.elements

-- its first part
abbrev pub part_by : Sheet → List Left → Beside → List Element → List ℕ
part_by s cells above [] = []
part_by s cells above (Row [] format fields ∷ elements) = row_line s (bars_at_end (length s.columns) format) cells
part_by s cells above (Row (rule ∷ rules) format fields ∷ elements) =
    rule_line_left s (OfKeys rule) cells above (below_rule s (OfKeys rule) cells (Row rules format fields ∷ elements))
part_by s cells above (Rule sign ∷ elements) = rule_line_left s (Whole sign) cells above (below_rule s (Whole sign) cells elements)
part_by s cells above (Command bytes ∷ elements) = bytes ++ newline ∷ []

abbrev pub first_part : Sheet → ToCome → List ℕ
first_part s x = part_by s x.cells x.above x.elements

-- what is to come behind a line of a row, which has so many lines still
abbrev pub behind_row_line : Sheet → ℕ → List ℕ → List Left → Beside → FormatRow → List Content → List Element → ToCome
behind_row_line s zero heights cells above format fields elements = record {
  heights = heights;
  cells = cells_next (length s.columns) format.keys (map behind_line cells) heights elements;
  above = OfRow cells (bars_at_end (length s.columns) format);
  elements = elements;
}
behind_row_line s (suc lines) heights cells above format fields elements = record {
  heights = suc lines ∷ heights;
  cells = map behind_line cells;
  above = above;
  elements = Row [] format fields ∷ elements;
}

-- and behind its first part
abbrev pub behind_by : Sheet → List ℕ → List Left → Beside → List Element → ToCome
behind_by s heights cells above [] = record { heights = heights; cells = cells; above = above; elements = [] }
behind_by s heights cells above (Row [] format fields ∷ elements) =
    behind_row_line s (get_or heights 0 0 - 1) (drop 1 heights) cells above format fields elements
behind_by s heights cells above (Row (rule ∷ rules) format fields ∷ elements) = record {
  heights = heights;
  cells = map through_rule cells;
  above = OfRules (OfKeys rule) (overs 0 cells s.columns) above;
  elements = Row rules format fields ∷ elements;
}
behind_by s heights cells above (Rule sign ∷ elements) = record {
  heights = heights;
  cells = map through_rule cells;
  above = OfRules (Whole sign) (overs 0 cells s.columns) above;
  elements = elements;
}
behind_by s heights cells above (Command bytes ∷ elements) =
    record { heights = heights; cells = cells; above = above; elements = elements }

abbrev pub behind_part : Sheet → ToCome → ToCome
behind_part s x = behind_by s x.heights x.cells x.above x.elements

-- how many parts are to come, by the heights of rows
abbrev pub parts_in : List ℕ → List Element → ℕ
parts_in heights [] = 0
parts_in heights (Row rules format fields ∷ elements) = length rules + (get_or heights 0 0 + parts_in (drop 1 heights) elements)
parts_in heights (Rule sign ∷ elements) = suc (parts_in heights elements)
parts_in heights (Command bytes ∷ elements) = suc (parts_in heights elements)

-- what is to come of a picture of these elements, whose rows have these heights, behind so many parts
abbrev pub at_first : Sheet → List ℕ → List Element → ToCome
at_first s heights elements = record {
  heights = heights;
  cells = cells_next (length s.columns) [] [] heights elements;
  above = Nothing;
  elements = elements;
}

abbrev pub behind_parts : Sheet → ToCome → ℕ → ToCome
behind_parts s x zero = x
behind_parts s x (suc count) = behind_part s (behind_parts s x count)

-- and where so many are to come
abbrev pub with_parts : Sheet → List ℕ → List Element → ℕ → ToCome
with_parts s heights elements count = behind_parts s (at_first s heights elements) (parts_in heights elements - count)
