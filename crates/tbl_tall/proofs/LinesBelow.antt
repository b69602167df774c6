-- How far a cell goes on below its row, row by row: the cell below goes up to the same column.
use Rattle.std.proofs.Common.{◌≡◌, ℕ, zero, suc, ◌+◌, ◌<◌, ◌≤◌, ◌==◌, Bool, true, false, ◌&&◌, List, [], ◌∷◌, drop, refl, sym, ap, subst, ◌∙◌, arith, eqb-true, if◌then◌else◌, IfSome, Option, None, Some, unwrap_or}
use Rattle.tbl_format.proofs.CellColumns.{end_behind, end_of-behind}
use Rattle.tbl_format.specs.Cells.{AreCells, cell_behind, end_of, if_ends, start_of}
use Rattle.tbl_format.specs.Format.{FormatRow}
use Rattle.tbl_format.specs.RowsServed.{row_at}
use Rattle.tbl_format.specs.declared.format.FormatKey.{FormatKey}
use Rattle.tbl_kept.specs.KeptHeights.{cell_below_kept}
use Rattle.tbl_kept.specs.Rows.{Command as CommandKept, KeptElement, Row as RowKept, Rule as RuleKept, fields_of}
use Rattle.tbl_kept.specs.RowsLaying.{HasFewRules, element_at}
use Rattle.tbl_layout.specs.Entries.{Content, field_at}
use Rattle.tbl_layout.specs.Heights.{cell_below, if_above, is_above, rules_between}
use Rattle.tbl_layout.specs.declared.entry.Entry.{Entry}
use Rattle.tbl_tall.proofs.CellsNext.{get-drop}
use Rattle.tbl_tall.specs.LinesOver.{lines_kept, over_by}
use Rattle.tbl_tall.specs.RowsNext.{end_kept}
use Rattle.tbl_tall.specs.TallRows.{ElementLies}

-- a cell goes up to a column behind as many as there are cells before it
ends-behind : (from : ℕ) (keys : List FormatKey) (cell : ℕ) → AreCells from keys → from + cell < end_behind from keys cell
ends-behind from [] cell cells = omega arith
ends-behind from (k ∷ keys) zero cells = omega (arith, cells.0)
ends-behind from (k ∷ keys) (suc cell) cells = omega (arith, cells.0, ends-behind k.end keys cell cells.1)

pub cell-before-end : (keys : List FormatKey) (cell : ℕ) → AreCells 0 keys → cell < end_of keys cell
cell-before-end keys cell cells = omega (arith, end_of-behind keys cell, ends-behind 0 keys cell cells)

-- the cell below goes up to the same column
some-by : (t : Bool) (x other : ℕ) → (if t then Some x else None) ≡ Some other → x ≡ other
some-by true x other is = ap (λ (o : Option ℕ). unwrap_or o 0) is
some-by false x other is = absurd cc

test-ends : (t : Bool) (fields : List Content) (below : List FormatKey) (end x other : ℕ) → (end_of below x == end) ≡ t
    → if_above fields (if t then Some x else None) ≡ Some other → end_of below other ≡ end
test-ends true fields below end x other same is =
    sym (ap (end_of below) (some-by (is_above (field_at fields x)) x other is)) ∙ eqb-true (end_of below x) end same
test-ends false fields below end x other same is = absurd cc

found-ends : (found : Option ℕ) (fields : List Content) (below : List FormatKey) (end other : ℕ)
    → if_above fields (if_ends below end found) ≡ Some other → end_of below other ≡ end
found-ends None fields below end other is = absurd cc
found-ends (Some x) fields below end other is = test-ends (end_of below x == end) fields below end x other refl is

below-ends : (keys below : List FormatKey) (fields : List Content) (cell other : ℕ) → cell_below keys below fields cell ≡ Some other
    → end_of below other ≡ end_of keys cell
below-ends keys below fields cell other is =
    found-ends (cell_behind below (start_of keys cell)) fields below (end_of keys cell) other is

pub kept-ends : (bytes : List ℕ) (formats : List FormatRow) (row below : KeptElement) (cell other : ℕ)
    → cell_below_kept bytes formats cell row below ≡ Some other → end_kept formats row cell ≡ end_kept formats below other
kept-ends bytes formats (RowKept keys rules height entries) (RowKept own own_rules own_height fields) cell other is =
    sym (below-ends (row_at formats keys).keys (row_at formats own).keys (fields_of bytes (row_at formats own) fields) cell other is)
kept-ends bytes formats (RowKept keys rules height entries) (RuleKept sign) cell other is = absurd cc
kept-ends bytes formats (RowKept keys rules height entries) (CommandKept from to) cell other is = absurd cc
kept-ends bytes formats (RuleKept sign) below cell other is = absurd cc
kept-ends bytes formats (CommandKept from to) below cell other is = absurd cc

-- and it is one of few
kept-before : (bytes : List ℕ) (formats : List FormatRow) (columns : ℕ) (row below : KeptElement) (cell other : ℕ)
    → cell_below_kept bytes formats cell row below ≡ Some other → ElementLies formats columns below → other < end_kept formats below other
kept-before bytes formats columns (RowKept keys rules height entries) (RowKept own own_rules own_height fields) cell other is lies =
    cell-before-end (row_at formats own).keys other lies.cells.cells
kept-before bytes formats columns (RowKept keys rules height entries) (RuleKept sign) cell other is lies = absurd cc
kept-before bytes formats columns (RowKept keys rules height entries) (CommandKept from to) cell other is lies = absurd cc
kept-before bytes formats columns (RuleKept sign) below cell other is lies = absurd cc
kept-before bytes formats columns (CommandKept from to) below cell other is lies = absurd cc

pub under-small : (bytes : List ℕ) (formats : List FormatRow) (columns : ℕ) (row below : KeptElement) (cell end : ℕ) (found : Option ℕ)
    → found ≡ cell_below_kept bytes formats cell row below → ElementLies formats columns below → end ≡ end_kept formats row cell
    → end < 4611686018427387904 → IfSome found (λ (other : ℕ). other < 4611686018427387904)
under-small bytes formats columns row below cell end None is lies same near = tt
under-small bytes formats columns row below cell end (Some other) is lies same near =
    omega (arith, same, near, kept-ends bytes formats row below cell other (sym is), kept-before bytes formats columns row below cell other (sym is) lies)

pub under-end : (bytes : List ℕ) (formats : List FormatRow) (row below : KeptElement) (cell end : ℕ) (found : Option ℕ)
    → found ≡ cell_below_kept bytes formats cell row below → end ≡ end_kept formats row cell
    → IfSome found (λ (other : ℕ). end ≡ end_kept formats below other)
under-end bytes formats row below cell end None is same = tt
under-end bytes formats row below cell end (Some other) is same = same ∙ kept-ends bytes formats row below cell other (sym is)

-- the lines below, an element further
module _ (bytes : List ℕ) (formats : List FormatRow) (is_inside : Bool) (elements : List KeptElement) (at : ℕ) where
  pub over-row : (row : KeptElement) (keys rule_rows height : ℕ) (entries : List Entry) (cell rules lines below total : ℕ)
      → drop at elements ≡ RowKept keys rule_rows height entries ∷ drop (suc at) elements
      → cell_below_kept bytes formats cell row (element_at elements at) ≡ Some below
      → lines + lines_kept bytes formats is_inside row cell rules (drop at elements) ≡ total
      → (lines + (rules_between is_inside rules rule_rows + height)) + lines_kept bytes formats is_inside (element_at elements at) below 0 (drop (at + 1) elements) ≡ total
  over-row row keys rule_rows height entries cell rules lines below total is goes so_far =
      let own = RowKept keys rule_rows height entries in
      let here = rules_between is_inside rules rule_rows + height in
      let rest = drop (suc at) elements in
      let next : at + 1 ≡ suc at = omega arith in
      let there : element_at elements at ≡ own = get-drop elements at own (CommandKept 0 0) rest is in
      let more : ℕ → ℕ = λ other. lines_kept bytes formats is_inside own other 0 rest in
      let found : cell_below_kept bytes formats cell row own ≡ Some below = ap (λ (e : KeptElement). cell_below_kept bytes formats cell row e) (sym there) ∙ goes in
      let all : lines_kept bytes formats is_inside row cell rules (drop at elements) ≡ here + more below
      = ap (lines_kept bytes formats is_inside row cell rules) is ∙ ap (λ (o : Option ℕ). over_by o here more) found in
      let behind : lines_kept bytes formats is_inside (element_at elements at) below 0 (drop (at + 1) elements) ≡ more below
      = ap (λ (e : KeptElement). lines_kept bytes formats is_inside e below 0 (drop (at + 1) elements)) there
      ∙ ap (λ (n : ℕ). lines_kept bytes formats is_inside own below 0 (drop n elements)) next in
      omega (arith, all, behind, so_far)

  pub over-rule : (row : KeptElement) (sign : _) (cell rules lines total : ℕ)
      → drop at elements ≡ RuleKept sign ∷ drop (suc at) elements
      → lines + lines_kept bytes formats is_inside row cell rules (drop at elements) ≡ total
      → lines + lines_kept bytes formats is_inside row cell (rules + 1) (drop (at + 1) elements) ≡ total
  over-rule row sign cell rules lines total is so_far =
      let next : at + 1 ≡ suc at = omega arith in
      let more : rules + 1 ≡ suc rules = omega arith in
      let all : lines_kept bytes formats is_inside row cell rules (drop at elements) ≡ lines_kept bytes formats is_inside row cell (suc rules) (drop (suc at) elements)
      = ap (lines_kept bytes formats is_inside row cell rules) is in
      let behind : lines_kept bytes formats is_inside row cell (rules + 1) (drop (at + 1) elements) ≡ lines_kept bytes formats is_inside row cell (suc rules) (drop (suc at) elements)
      = ap (λ (n : ℕ). lines_kept bytes formats is_inside row cell n (drop (at + 1) elements)) more
      ∙ ap (λ (n : ℕ). lines_kept bytes formats is_inside row cell (suc rules) (drop n elements)) next in
      omega (arith, all, behind, so_far)

  pub over-command : (row : KeptElement) (from to cell rules lines total : ℕ)
      → drop at elements ≡ CommandKept from to ∷ drop (suc at) elements
      → lines + lines_kept bytes formats is_inside row cell rules (drop at elements) ≡ total
      → lines + lines_kept bytes formats is_inside row cell rules (drop (at + 1) elements) ≡ total
  over-command row from to cell rules lines total is so_far =
      let next : at + 1 ≡ suc at = omega arith in
      let all : lines_kept bytes formats is_inside row cell rules (drop at elements) ≡ lines_kept bytes formats is_inside row cell rules (drop (suc at) elements)
      = ap (lines_kept bytes formats is_inside row cell rules) is in
      let behind : lines_kept bytes formats is_inside row cell rules (drop (at + 1) elements) ≡ lines_kept bytes formats is_inside row cell rules (drop (suc at) elements)
      = ap (λ (n : ℕ). lines_kept bytes formats is_inside row cell rules (drop n elements)) next in
      omega (arith, all, behind, so_far)

few-by : (t : Bool) (n : ℕ) → (if t then 1 else n) ≤ n + 1
few-by true n = omega arith
few-by false n = omega arith

pub between-few : (is_inside : Bool) (rules rule_rows : ℕ) → rules_between is_inside rules rule_rows ≤ rules + rule_rows + 1
between-few is_inside rules rule_rows = few-by (is_inside && (rules + rule_rows == 0)) (rules + rule_rows)

pub rules-few : (elements : List KeptElement) (at keys rule_rows height : ℕ) (entries : List Entry)
    → drop at elements ≡ RowKept keys rule_rows height entries ∷ drop (suc at) elements → HasFewRules (element_at elements at)
    → rule_rows < 4294967296
rules-few elements at keys rule_rows height entries is few =
    let own = RowKept keys rule_rows height entries in
    subst HasFewRules (get-drop elements at own (CommandKept 0 0) (drop (suc at) elements) is) few
