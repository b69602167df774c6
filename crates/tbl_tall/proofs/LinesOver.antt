-- How many lines a cell has below its row: the rules that a box adds count as `rules_between` does, and rows as they are kept tell it.
use Rattle.std.proofs.Common.{◌≡◌, ℕ, zero, suc, ◌+◌, ◌<◌, ◌==◌, Bool, true, false, List, [], ◌∷◌, ◌++◌, drop, get_or, length, refl, sym, ap, ◌∙◌, arith, ne_eqb, if◌then◌else◌, Option, None, Some, is_some, unwrap_or}
use Rattle.std.specs.List.{AllByRecursion}
use Rattle.tbl_format.specs.Format.{FormatRow}
use Rattle.tbl_format.specs.RowsServed.{row_at}
use Rattle.tbl_format.specs.declared.format.FormatKey.{FormatKey}
use Rattle.tbl_kept.specs.Rows.{Command as CommandKept, KeptElement, Row as RowKept, Rule as RuleKept, elements_of, fields_of}
use Rattle.tbl_layout.specs.Entries.{Command, Content, Element, Row, Rule}
use Rattle.tbl_layout.specs.Heights.{cell_below, rules_between}
use Rattle.tbl_layout.specs.declared.data_lines.RuleSign.{RuleSign}
use Rattle.tbl_layout.specs.declared.entry.Entry.{Entry}
use Rattle.tbl_lines.specs.CellsLeft.{lines_over}
use Rattle.tbl_lines.specs.PictureLines.{rule_in_front, ruled_between, ruled_inside}
use Rattle.tbl_options.specs.declared.options.Boxing.{Boxing}
use Rattle.tbl_tall.specs.LinesOver.{HasInFront, heights_kept, lines_below, lines_kept, over_by}

-- the two forms of a choice
over-is : (below : Option ℕ) (here : ℕ) (more : ℕ → ℕ) → (if is_some below then here + more (unwrap_or below 0) else 0) ≡ over_by below here more
over-is None here more = refl
over-is (Some cell) here more = refl

-- what is the same for each cell is the same
over-same : (below : Option ℕ) (here : ℕ) (f g : ℕ → ℕ) → ((cell : ℕ) → f cell ≡ g cell) → over_by below here f ≡ over_by below here g
over-same None here f g same = refl
over-same (Some cell) here f g same = ap (λ (n : ℕ). here + n) (same cell)

-- the first row below, behind so many lines of rules
row-over : (keys : List FormatKey) (cell rules : ℕ) (heights : List ℕ) (rule_rows : List FormatRow) (format : FormatRow) (fields : List Content)
    (elements : List Element) → lines_over keys cell rules heights (Row rule_rows format fields ∷ elements)
    ≡ over_by (cell_below keys format.keys fields cell) (rules + length rule_rows + get_or heights 0 0)
    (λ below. lines_over format.keys below 0 (drop 1 heights) elements)
row-over keys cell rules heights rule_rows format fields elements =
    over-is (cell_below keys format.keys fields cell) (rules + length rule_rows + get_or heights 0 0)
    (λ below. lines_over format.keys below 0 (drop 1 heights) elements)

-- without rules of a box inside
pub over-plain : (keys : List FormatKey) (cell rules : ℕ) (heights : List ℕ) (elements : List Element)
    → lines_over keys cell rules heights elements ≡ lines_below false keys cell rules heights elements
over-plain keys cell rules heights [] = refl
over-plain keys cell rules heights (Row rule_rows format fields ∷ elements) =
    row-over keys cell rules heights rule_rows format fields elements
    ∙ over-same (cell_below keys format.keys fields cell) (rules + length rule_rows + get_or heights 0 0)
    (λ below. lines_over format.keys below 0 (drop 1 heights) elements) (λ below. lines_below false format.keys below 0 (drop 1 heights) elements)
    (λ below. over-plain format.keys below 0 (drop 1 heights) elements)
over-plain keys cell rules heights (Rule sign ∷ elements) = over-plain keys cell (suc rules) heights elements
over-plain keys cell rules heights (Command bytes ∷ elements) = over-plain keys cell rules heights elements

-- no line of rules is added where some stand
not-none : (n : ℕ) → 0 < n → (n == 0) ≡ false
not-none n more = ne_eqb n 0 (λ same. omega (arith, same, more))

some-between : (rules rule_rows : ℕ) → 0 < rules + rule_rows → rules_between true rules rule_rows ≡ rules + rule_rows
some-between rules rule_rows more = ap (λ (b : Bool). if b then 1 else rules + rule_rows) (not-none (rules + rule_rows) more)

-- a box adds a line of rules where none stands
front-over : (keys : List FormatKey) (cell rules : ℕ) (heights : List ℕ) (rule_rows : List FormatRow) (format : FormatRow) (fields : List Content)
    (elements : List Element)
    → lines_over keys cell rules heights (rule_in_front (rules == 0) rule_rows ++ Row rule_rows format fields ∷ elements)
    ≡ over_by (cell_below keys format.keys fields cell) (rules_between true rules (length rule_rows) + get_or heights 0 0)
    (λ below. lines_over format.keys below 0 (drop 1 heights) elements)
front-over keys cell zero heights [] format fields elements = row-over keys cell 1 heights [] format fields elements
front-over keys cell zero heights (r ∷ rule_rows) format fields elements =
    row-over keys cell 0 heights (r ∷ rule_rows) format fields elements
    ∙ ap (λ (n : ℕ). over_by (cell_below keys format.keys fields cell) (n + get_or heights 0 0)
    (λ below. lines_over format.keys below 0 (drop 1 heights) elements)) (sym (some-between 0 (length (r ∷ rule_rows)) (omega arith)))
front-over keys cell (suc rules) heights rule_rows format fields elements =
    ap (λ (b : Bool). lines_over keys cell (suc rules) heights (rule_in_front b rule_rows ++ Row rule_rows format fields ∷ elements))
    (not-none (suc rules) (omega arith))
    ∙ row-over keys cell (suc rules) heights rule_rows format fields elements
    ∙ ap (λ (n : ℕ). over_by (cell_below keys format.keys fields cell) (n + get_or heights 0 0)
    (λ below. lines_over format.keys below 0 (drop 1 heights) elements)) (sym (some-between (suc rules) (length rule_rows) (omega arith)))

pub over-ruled : (keys : List FormatKey) (cell rules : ℕ) (heights : List ℕ) (elements : List Element)
    → lines_over keys cell rules heights (ruled_between (rules == 0) elements) ≡ lines_below true keys cell rules heights elements
over-ruled keys cell rules heights [] = refl
over-ruled keys cell rules heights (Row rule_rows format fields ∷ elements) =
    front-over keys cell rules heights rule_rows format fields (ruled_between true elements)
    ∙ over-same (cell_below keys format.keys fields cell) (rules_between true rules (length rule_rows) + get_or heights 0 0)
    (λ below. lines_over format.keys below 0 (drop 1 heights) (ruled_between true elements))
    (λ below. lines_below true format.keys below 0 (drop 1 heights) elements)
    (λ below. over-ruled format.keys below 0 (drop 1 heights) elements)
over-ruled keys cell rules heights (Rule sign ∷ elements) =
    ap (λ (b : Bool). lines_over keys cell (suc rules) heights (ruled_between b elements)) (sym (not-none (suc rules) (omega arith)))
    ∙ over-ruled keys cell (suc rules) heights elements
over-ruled keys cell rules heights (Command bytes ∷ elements) = over-ruled keys cell rules heights elements

-- a rule behind all elements counts for no cell
pub over-rule-last : (keys : List FormatKey) (cell rules : ℕ) (heights : List ℕ) (elements : List Element) (sign : RuleSign)
    → lines_over keys cell rules heights (elements ++ Rule sign ∷ []) ≡ lines_over keys cell rules heights elements
over-rule-last keys cell rules heights [] sign = refl
over-rule-last keys cell rules heights (Row rule_rows format fields ∷ elements) sign =
    row-over keys cell rules heights rule_rows format fields (elements ++ Rule sign ∷ [])
    ∙ over-same (cell_below keys format.keys fields cell) (rules + length rule_rows + get_or heights 0 0)
    (λ below. lines_over format.keys below 0 (drop 1 heights) (elements ++ Rule sign ∷ []))
    (λ below. lines_over format.keys below 0 (drop 1 heights) elements)
    (λ below. over-rule-last format.keys below 0 (drop 1 heights) elements sign)
    ∙ sym (row-over keys cell rules heights rule_rows format fields elements)
over-rule-last keys cell rules heights (Rule other ∷ elements) sign = over-rule-last keys cell (suc rules) heights elements sign
over-rule-last keys cell rules heights (Command bytes ∷ elements) sign = over-rule-last keys cell rules heights elements sign

-- below a row, in a table in a box
over-inside : (is_inside : Bool) (keys : List FormatKey) (cell : ℕ) (heights : List ℕ) (elements : List Element)
    → lines_over keys cell 0 heights (if is_inside then ruled_between true elements else elements)
    ≡ lines_below is_inside keys cell 0 heights elements
over-inside true keys cell heights elements = over-ruled keys cell 0 heights elements
over-inside false keys cell heights elements = over-plain keys cell 0 heights elements

pub over-boxed : (boxing : Boxing) (keys : List FormatKey) (cell : ℕ) (heights : List ℕ) (elements : List Element)
    → lines_over keys cell 0 heights (ruled_inside boxing true elements) ≡ lines_below boxing.is_inside keys cell 0 heights elements
over-boxed boxing keys cell heights elements = over-inside boxing.is_inside keys cell heights elements

-- the elements that are kept tell it
module _ (bytes : List ℕ) (formats : List FormatRow) (is_inside : Bool) where
  pub below-kept : (above rules_above height_above : ℕ) (fields_above : List Entry) (cell rules : ℕ) (elements : List KeptElement)
      → AllByRecursion (HasInFront formats) elements
      → lines_below is_inside (row_at formats above).keys cell rules (heights_kept elements) (elements_of bytes formats elements)
      ≡ lines_kept bytes formats is_inside (RowKept above rules_above height_above fields_above) cell rules elements
  below-kept above ra ha fa cell rules [] fronts = refl
  below-kept above ra ha fa cell rules (RowKept keys rule_rows height entries ∷ elements) fronts =
      let below = cell_below (row_at formats above).keys (row_at formats keys).keys (fields_of bytes (row_at formats keys) entries) cell in
      let more : ℕ → ℕ = λ other. lines_below is_inside (row_at formats keys).keys other 0 (heights_kept elements) (elements_of bytes formats elements) in
      ap (λ (n : ℕ). over_by below (rules_between is_inside rules n + height) more) fronts.0
      ∙ over-same below (rules_between is_inside rules rule_rows + height) more
      (λ other. lines_kept bytes formats is_inside (RowKept keys rule_rows height entries) other 0 elements)
      (λ other. below-kept keys rule_rows height entries other 0 elements fronts.1)
  below-kept above ra ha fa cell rules (RuleKept sign ∷ elements) fronts = below-kept above ra ha fa cell (suc rules) elements fronts.1
  below-kept above ra ha fa cell rules (CommandKept from to ∷ elements) fronts = below-kept above ra ha fa cell rules elements fronts.1
