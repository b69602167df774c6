-- A line of rules begins: what is given of it, and what is left. The bars of its edges are the same for all lines of some rows of rule
-- keys, and for a rule above them, as none of them is ruled there.
use Rattle.std.proofs.Common.{◌≡◌, ℕ, zero, suc, ◌+◌, ◌-◌, ◌≤◌, ◌<◌, max, Bool, true, false, ◌&&◌, List, [], ◌∷◌, ◌++◌, length, drop, take, codes, replicate, Some, refl, sym, ap, ◌∙◌, arith, append_assoc, if◌then◌else◌, ◌==◌, ne_eqb, append-nil}
use Rattle.std.proofs.lemmas.List.{drop_more, length-replicate}
use Rattle.input_source.specs.Bytes.{blank, newline}
use Rattle.tbl_format.specs.Format.{FormatRow}
use Rattle.tbl_format.specs.RowsServed.{no_keys, row_at}
use Rattle.tbl_layout.specs.Columns.{bar_place, bars_end}
use Rattle.tbl_layout.specs.DataLines.{sign_byte}
use Rattle.tbl_layout.specs.declared.bars.Bars.{Bars}
use Rattle.tbl_layout.specs.declared.columns.Column.{Column}
use Rattle.tbl_layout.specs.declared.data_lines.RuleSign.{RuleSign}
use Rattle.tbl_layout.specs.declared.data_lines.RuleSign.TheVariants.{Double, Single}
use Rattle.tbl_picture.specs.ElementsWalked.{plain_rule}
use Rattle.tbl_lines.specs.PictureLines.{Mark, Neighbour, OfKeys, OfRules, RuleLine, Sheet, Whole, bars_at_edge, drawn, edge_byte, edge_mark, last_mark, met_at_edge, met_behind, rule_from, rule_to, shown_at_edge, shown_behind}
use Rattle.tbl_picture.specs.RuleMarks.{goes_on, mark_behind, marks_from, rule_line_walked}
use Rattle.tbl_picture.specs.RulesWalked.{above_rules, rows_at, rule_front, ruled_left}
use Rattle.tbl_picture.specs.declared.walk.rules.RuleBegun.{RuleBegun}

-- bytes at the line's beginning
edge-drawn : (n b : ℕ) (marks : List Mark) → drawn 0 (record { at = 0; bytes = replicate n b } ∷ marks) ≡ replicate n b ++ drawn n marks
edge-drawn zero b marks = refl
edge-drawn (suc n) b marks =
    let bytes = replicate (suc n) b in
    let len : length bytes ≡ suc n = length-replicate (suc n) b in
    let some : (length bytes == 0) ≡ false = ne_eqb (length bytes) 0 (λ is. omega (arith, is, len)) in
    let behind : 0 + length bytes ≡ suc n = omega (arith, len) in
    ap (λ (t : Bool). if t then drawn 0 marks else replicate (0 - 0) blank ++ (bytes ++ drawn (0 + length bytes) marks)) some
    ∙ ap (λ (k : ℕ). bytes ++ drawn k marks) behind

pub rule-begun : (s : Sheet) (line : RuleLine) (above below : Neighbour) (rule : RuleBegun) → rule.column ≡ 0
    → rule.left ≡ met_at_edge s.bars line above below 0 → rule.right ≡ met_at_edge s.bars line above below (length s.columns)
    → rule.from ≡ rule_from line rule.left s.columns
    → rule_line_walked s line above below ≡ rule_front line rule.left ++ ruled_left s line above below rule rule.left
rule-begun s line above below rule column left right from =
    let inner : ℕ → ℕ → ℕ → List Mark = λ k f r.
    marks_from s.bars line above below k f (rule_to line (s.width - r) s.columns) (drop k s.columns) ++ edge_mark line (s.width - r) r ∷ [] in
    let line_by : ℕ → List Mark → List ℕ = λ l marks. codes "\\&" ++ (drawn 0 (edge_mark line 0 l ∷ marks) ++ newline ∷ []) in
    let right_met = met_at_edge s.bars line above below (length s.columns) in
    let marks = inner rule.column rule.from rule.right in
    let edge = replicate rule.left (edge_byte line) in
    ap (λ (l : ℕ). line_by l (inner 0 (rule_from line l s.columns) right_met)) (sym left)
    ∙ ap (λ (r : ℕ). line_by rule.left (inner 0 (rule_from line rule.left s.columns) r)) (sym right)
    ∙ ap (λ (f : ℕ). line_by rule.left (inner 0 f rule.right)) (sym from)
    ∙ ap (λ (k : ℕ). line_by rule.left (inner k rule.from rule.right)) (sym column)
    ∙ ap (λ (xs : List ℕ). codes "\\&" ++ (xs ++ newline ∷ [])) (edge-drawn rule.left (edge_byte line) marks)
    ∙ ap (λ (xs : List ℕ). codes "\\&" ++ xs) (append_assoc edge (drawn rule.left marks) (newline ∷ []))
    ∙ sym (append_assoc (codes "\\&") edge (drawn rule.left marks ++ newline ∷ []))

-- a rule over a picture that has no bars goes on over all of it
goes-on : (sign : RuleSign) (column : ℕ) → goes_on (Whole sign) column ≡ true
goes-on Single column = refl
goes-on Double column = refl

module _ (bars : Bars) (none : bars.has_any ≡ false) (sign : RuleSign) (above below : Neighbour) where
  unbarred-edge : (column : ℕ) → met_at_edge bars (Whole sign) above below column ≡ 0
  unbarred-edge column =
      let b = bars.boxing in
      ap (λ (t : Bool). if t then max 0 (max (shown_at_edge b above column) (shown_at_edge b below column)) else 0) none

  unbarred-behind : (column : ℕ) → met_behind bars (Whole sign) above below column ≡ 0
  unbarred-behind column =
      let b = bars.boxing in
      ap (λ (t : Bool). if t then max 0 (max (shown_behind b above column) (shown_behind b below column)) else 0) none

  unbarred-marks : (column from to : ℕ) (columns : List Column)
      → marks_from bars (Whole sign) above below column from to columns ≡ last_mark (Some sign) from to ∷ []
  unbarred-marks column from to [] = refl
  unbarred-marks column from to (c ∷ []) = refl
  unbarred-marks column from to (c ∷ d ∷ columns) =
      let behind : ℕ → List Mark = λ f. marks_from bars (Whole sign) above below (suc column) f to (d ∷ columns) in
      let by : Bool → ℕ → List Mark = λ t n.
      if t && n == 0 then behind from
      else mark_behind (Some sign) t from n (bar_place n c d) (bars_end c d) ∷ behind (if t then bar_place n c d + n else bars_end c d) in
      ap (λ (t : Bool). by t (met_behind bars (Whole sign) above below column)) (goes-on sign column)
      ∙ ap (by true) (unbarred-behind column)
      ∙ unbarred-marks (suc column) from to (d ∷ columns)

pub unbarred : (s : Sheet) (sign : RuleSign) (above below : Neighbour) → s.bars.has_any ≡ false
    → rule_line_walked s (Whole sign) above below ≡ plain_rule s.width sign
unbarred s sign above below none =
    let edge : ℕ → ℕ = met_at_edge s.bars (Whole sign) above below in
    let inner : ℕ → ℕ → List Mark = λ l r. marks_from s.bars (Whole sign) above below 0 l (s.width - r) s.columns in
    let line_by : List Mark → ℕ → ℕ → List ℕ = λ marks l r.
    codes "\\&" ++ (drawn 0 (edge_mark (Whole sign) 0 l ∷ marks ++ edge_mark (Whole sign) (s.width - r) r ∷ []) ++ newline ∷ []) in
    let all : s.width - 0 - 0 ≡ s.width = omega arith in
    let b = sign_byte sign in
    ap (λ (l : ℕ). line_by (inner l (edge (length s.columns))) l (edge (length s.columns))) (unbarred-edge s.bars none sign above below 0)
    ∙ ap (λ (r : ℕ). line_by (inner 0 r) 0 r) (unbarred-edge s.bars none sign above below (length s.columns))
    ∙ ap (λ (marks : List Mark). line_by marks 0 0) (unbarred-marks s.bars none sign above below 0 0 (s.width - 0) s.columns)
    ∙ ap (λ (xs : List ℕ). codes "\\&" ++ (xs ++ newline ∷ []))
    (edge-drawn (s.width - 0 - 0) b (edge_mark (Whole sign) (s.width - 0) 0 ∷ []) ∙ append-nil (replicate (s.width - 0 - 0) b))
    ∙ ap (λ (n : ℕ). codes "\\&" ++ (replicate n b ++ newline ∷ [])) all

-- as many bars meet at an edge of a row of rule keys as of a rule over the whole picture above it, or below it
module _ (bars : Bars) (sign : RuleSign) (rule : FormatRow) (above below : Neighbour) (column : ℕ) where
  pub edge-above : met_at_edge bars (OfKeys rule) above below column ≡ met_at_edge bars (Whole sign) above (OfRules rule below) column
  edge-above =
      let b = bars.boxing in
      let same : max (bars_at_edge b rule column) (max (shown_at_edge b above column) (shown_at_edge b below column))
      ≡ max 0 (max (shown_at_edge b above column) (max (bars_at_edge b rule column) (shown_at_edge b below column))) = omega arith in
      ap (λ (n : ℕ). if bars.has_any then n else 0) same

  pub edge-below : met_at_edge bars (OfKeys rule) above below column ≡ met_at_edge bars (Whole sign) (OfRules rule above) below column
  edge-below =
      let b = bars.boxing in
      let same : max (bars_at_edge b rule column) (max (shown_at_edge b above column) (shown_at_edge b below column))
      ≡ max 0 (max (max (bars_at_edge b rule column) (shown_at_edge b above column)) (shown_at_edge b below column)) = omega arith in
      ap (λ (n : ℕ). if bars.has_any then n else 0) same

-- and as of the next row of rule keys
pub edge-next : (bars : Bars) (sign : RuleSign) (rule next : FormatRow) (above below : Neighbour) (column : ℕ)
    → met_at_edge bars (OfKeys next) (OfRules rule above) below column ≡ met_at_edge bars (OfKeys rule) above (OfRules next below) column
edge-next bars sign rule next above below column =
    edge-above bars sign next (OfRules rule above) below column ∙ sym (edge-below bars sign rule above (OfRules next below) column)

-- the first of some rows of the formats, and those behind it
pub rows-first : (formats : List FormatRow) (row left : ℕ) → row < length formats
    → rows_at formats row (suc left) ≡ row_at formats row ∷ rows_at formats (suc row) left
rows-first formats row left within =
    let next : row + 1 ≡ suc row = omega arith in
    ap (λ (xs : List FormatRow). take (suc left) xs) (drop_more formats row no_keys within)
    ∙ ap (λ (n : ℕ). row_at formats row ∷ take left (drop n formats)) next

-- rows of rule keys that stand above, with one more
pub above-more : (formats : List FormatRow) (first row : ℕ) (line : Neighbour) (passed : ℕ) → first + passed ≡ row
    → above_rules formats first (suc passed) line ≡ OfRules (row_at formats row) (above_rules formats first passed line)
above-more formats first row line passed is = ap (λ (n : ℕ). OfRules (row_at formats n) (above_rules formats first passed line)) is

-- what stands above the first of some rows of rule keys, and above the next one
pub above-next : (formats : List FormatRow) (first row : ℕ) (line : Neighbour) → first ≤ row
    → above_rules formats (suc row - (suc row - first)) (suc row - first) line
    ≡ OfRules (row_at formats row) (above_rules formats (row - (row - first)) (row - first) line)
above-next formats first row line order =
    let passed = row - first in
    let more : suc row - first ≡ suc passed = omega (arith, order) in
    let same : suc row - suc passed ≡ row - passed = omega arith in
    let there : row - passed + passed ≡ row = omega (arith, order) in
    ap (λ (n : ℕ). above_rules formats (suc row - n) n line) more
    ∙ ap (λ (n : ℕ). above_rules formats n (suc passed) line) same
    ∙ above-more formats (row - passed) row line passed there
