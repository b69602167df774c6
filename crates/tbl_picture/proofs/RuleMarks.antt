-- The marks of a line of rules, one behind the other.
use Rattle.std.proofs.Common.{◌≡◌, ℕ, suc, ◌+◌, ◌-◌, ◌≤◌, ◌<◌, ◌^◌, Bool, true, false, ◌&&◌, List, [], ◌∷◌, ◌++◌, length, drop, get_or, replicate, Option, Some, None, refl, sym, ap, ◌∙◌, arith, append_assoc, length-append, if◌then◌else◌, ◌==◌, slice_get, ne_eqb, append-nil, length-drop}
use Rattle.std.proofs.lemmas.List.{drop_more, length-replicate}
use Rattle.input_source.specs.Bytes.{blank, newline}
use Rattle.tbl_layout.specs.Columns.{bar_place, bars_end}
use Rattle.tbl_layout.specs.DataLines.{sign_byte}
use Rattle.tbl_layout.specs.LayoutLaws.{last_end}
use Rattle.tbl_layout.specs.declared.columns.Column.{Column}
use Rattle.tbl_layout.specs.declared.data_lines.RuleSign.{RuleSign}
use Rattle.tbl_lines.specs.PictureLines.{Mark, crossing, Neighbour, RuleLine, Sheet, drawn, edge_mark, last_mark, met_behind, rule_to, sign_over}
use Rattle.tbl_picture.specs.RuleMarks.{goes_on, mark_behind, marks_from}
use Rattle.tbl_lines.specs.RowsWalked.{IsNarrow}
use Rattle.tbl_picture.specs.RulesWalked.{mark_given, place_behind, rule_behind, ruled_left}
use Rattle.tbl_picture.specs.declared.walk.rules.RuleBegun.{RuleBegun}

-- what is drawn of a mark, and of those behind it
mark-by : (t : Bool) (m : Mark) (marks : List Mark) (place : ℕ)
    → (if t then drawn place marks else replicate (m.at - place) blank ++ (m.bytes ++ drawn (m.at + length m.bytes) marks))
    ≡ (if t then [] else replicate (m.at - place) blank ++ m.bytes) ++ drawn (if t then place else m.at + length m.bytes) marks
mark-by true m marks place = refl
mark-by false m marks place = sym (append_assoc (replicate (m.at - place) blank) m.bytes (drawn (m.at + length m.bytes) marks))

pub mark-drawn : (m : Mark) (marks : List Mark) (place : ℕ) → drawn place (m ∷ marks) ≡ mark_given m place ++ drawn (place_behind m place) marks
mark-drawn m marks place = mark-by (length m.bytes == 0) m marks place

-- a mark of a rule that goes on ends with the bars
ruled-same : (sign : Option RuleSign) (is_on : Bool) (from count at end : ℕ)
    → mark_behind sign is_on from count at end ≡ mark_behind sign false from count at (if is_on then at + count else end)
ruled-same None is_on from count at end = refl
ruled-same (Some sign) false from count at end = refl
ruled-same (Some sign) true from count at end =
    let none : at + count - (at + count) ≡ 0 = omega arith in
    let with : List ℕ → Mark = λ rest. record { at = from; bytes = replicate (at - from) (sign_byte sign) ++ (replicate count crossing ++ rest) } in
    ap (λ (n : ℕ). with (replicate n (sign_byte sign))) (sym none)

-- where bars stand and end between narrow columns no sum overflows
pub bar-small : (n : ℕ) (c d : Column) → IsNarrow c → IsNarrow d → bar_place n c d < 2 ^ 40
bar-small n c d first second = omega (arith, first.end, second.end)

pub end-small : (c d : Column) → IsNarrow c → IsNarrow d → bars_end c d < 2 ^ 40
end-small c d first second = omega (arith, first.end, second.end)

-- a line of rules between two neighbours
module _ (s : Sheet) (line : RuleLine) (above below : Neighbour) (rule : RuleBegun) (place : ℕ) where
  abbrev left-by : List Mark → ℕ → List ℕ
  left-by marks place = drawn place (marks ++ edge_mark line (s.width - rule.right) rule.right ∷ []) ++ newline ∷ []

  abbrev to : ℕ
  to = rule_to line (s.width - rule.right) s.columns

  abbrev marks-on : ℕ → ℕ → List Column → List Mark
  marks-on column from columns = marks_from s.bars line above below column from to columns

  -- a mark, and what is left behind it
  left-mark : (m : Mark) (marks : List Mark) → left-by (m ∷ marks) place ≡ mark_given m place ++ left-by marks (place_behind m place)
  left-mark m marks =
      let edge = edge_mark line (s.width - rule.right) rule.right ∷ [] in
      ap (λ (xs : List ℕ). xs ++ newline ∷ []) (mark-drawn m (marks ++ edge) place)
      ∙ append_assoc (mark_given m place) (drawn (place_behind m place) (marks ++ edge)) (newline ∷ [])

  module _ (no_column : Column) (within : rule.column + 1 < length s.columns) where
    abbrev met : ℕ
    met = met_behind s.bars line above below rule.column

    abbrev now : Column
    now = get_or s.columns rule.column no_column

    abbrev next : Column
    next = get_or s.columns (rule.column + 1) no_column

    two-left : drop rule.column s.columns ≡ now ∷ next ∷ drop (rule.column + 1 + 1) s.columns
    two-left =
        drop_more s.columns rule.column no_column (omega (arith, within))
        ∙ ap (λ (xs : List Column). now ∷ xs) (drop_more s.columns (rule.column + 1) no_column within)

    further-marks : (from : ℕ)
        → marks-on (suc rule.column) from (next ∷ drop (rule.column + 1 + 1) s.columns) ≡ marks-on (rule.column + 1) from (drop (rule.column + 1) s.columns)
    further-marks from =
        let same : suc rule.column ≡ rule.column + 1 = omega arith in
        ap (λ (n : ℕ). marks-on n from (next ∷ drop (rule.column + 1 + 1) s.columns)) same
        ∙ ap (marks-on (rule.column + 1) from) (sym (drop_more s.columns (rule.column + 1) no_column within))

    -- where the rule goes on and no bar stands, nothing is drawn
    pub left-none : (goes_on line rule.column && met == 0) ≡ true
        → ruled_left s line above below rule place ≡ ruled_left s line above below (rule_behind rule rule.from) place
    left-none is =
        let rest = next ∷ drop (rule.column + 1 + 1) s.columns in
        let mark = mark_behind (sign_over line rule.column) (goes_on line rule.column) rule.from met (bar_place met now next) (bars_end now next) in
        let on = marks-on (suc rule.column) rule.from rest in
        let behind = mark ∷ marks-on (suc rule.column) (if goes_on line rule.column then bar_place met now next + met else bars_end now next) rest in
        ap (λ (columns : List Column). left-by (marks-on rule.column rule.from columns) place) two-left
        ∙ ap (λ (t : Bool). left-by (if t then on else behind) place) is
        ∙ ap (λ (marks : List Mark). left-by marks place) (further-marks rule.from)

    -- else a mark is drawn
    pub left-some : (goes_on line rule.column && met == 0) ≡ false
        → (let end = if goes_on line rule.column then bar_place met now next + met else bars_end now next in
        let mark = mark_behind (sign_over line rule.column) false rule.from met (bar_place met now next) end in
        ruled_left s line above below rule place ≡ mark_given mark place ++ ruled_left s line above below (rule_behind rule end) (place_behind mark place))
    left-some is =
        let rest = next ∷ drop (rule.column + 1 + 1) s.columns in
        let end = if goes_on line rule.column then bar_place met now next + met else bars_end now next in
        let mark = mark_behind (sign_over line rule.column) (goes_on line rule.column) rule.from met (bar_place met now next) (bars_end now next) in
        let drawn_mark = mark_behind (sign_over line rule.column) false rule.from met (bar_place met now next) end in
        let on = marks-on (suc rule.column) rule.from rest in
        let behind = marks-on (suc rule.column) end rest in
        ap (λ (columns : List Column). left-by (marks-on rule.column rule.from columns) place) two-left
        ∙ ap (λ (t : Bool). left-by (if t then on else mark ∷ behind) place) is
        ∙ ap (λ (m : Mark). left-by (m ∷ behind) place)
        (ruled-same (sign_over line rule.column) (goes_on line rule.column) rule.from met (bar_place met now next) (bars_end now next))
        ∙ ap (λ (marks : List Mark). left-by (drawn_mark ∷ marks) place) (further-marks end)
        ∙ left-mark drawn_mark (marks-on (rule.column + 1) end (drop (rule.column + 1) s.columns))

  -- the rule over the last column
  last-of : (columns : List Column) → length columns ≤ 1
      → marks-on rule.column rule.from columns ≡ last_mark (sign_over line rule.column) rule.from to ∷ []
  last-of [] few = refl
  last-of (c ∷ []) few = refl
  last-of (c ∷ d ∷ columns) few = absurd (omega (arith, few))

  last-left : length s.columns ≤ rule.column + 1
      → (let mark = last_mark (sign_over line rule.column) rule.from to in
      ruled_left s line above below rule place ≡ mark_given mark place ++ left-by [] (place_behind mark place))
  last-left few =
      let mark = last_mark (sign_over line rule.column) rule.from to in
      ap (λ (marks : List Mark). left-by marks place)
      (last-of (drop rule.column s.columns) (omega (arith, few, length-drop rule.column s.columns)))
      ∙ left-mark mark []

-- a rule that has no length isn't drawn
none-given : (sign : Option RuleSign) (from to place : ℕ) → to ≤ from → mark_given (last_mark sign from to) place ≡ []
none-given None from to place short = refl
none-given (Some sign) from to place short =
    let none : to - from ≡ 0 = omega (arith, short) in
    ap (λ (n : ℕ). mark_given (record { at = from; bytes = replicate n (sign_byte sign) }) place) none

none-behind : (sign : Option RuleSign) (from to place : ℕ) → to ≤ from → place_behind (last_mark sign from to) place ≡ place
none-behind None from to place short = refl
none-behind (Some sign) from to place short =
    let none : to - from ≡ 0 = omega (arith, short) in
    ap (λ (n : ℕ). place_behind (record { at = from; bytes = replicate n (sign_byte sign) }) place) none

module _ (s : Sheet) (line : RuleLine) (above below : Neighbour) (rule : RuleBegun) (place : ℕ) where
  abbrev edge : Mark
  edge = edge_mark line (s.width - rule.right) rule.right

  -- behind the last column the right edge is left
  pub left-end : length s.columns ≤ rule.column → rule_to line (s.width - rule.right) s.columns ≤ rule.from
      → ruled_left s line above below rule place ≡ mark_given edge place ++ newline ∷ []
  left-end few short =
      let to = rule_to line (s.width - rule.right) s.columns in
      let sign = sign_over line rule.column in
      last-left s line above below rule place (omega (arith, few))
      ∙ ap (λ (xs : List ℕ). xs ++ left-by s line above below rule place [] (place_behind (last_mark sign rule.from to) place))
      (none-given sign rule.from to place short)
      ∙ ap (λ (p : ℕ). left-by s line above below rule place [] p) (none-behind sign rule.from to place short)
      ∙ ap (λ (xs : List ℕ). xs ++ newline ∷ []) (mark-drawn edge [] place ∙ append-nil (mark_given edge place))

-- and the rule over the last one
pub left-last : (s : Sheet) (line : RuleLine) (above below : Neighbour) (rule : RuleBegun) (place : ℕ) → length s.columns ≤ rule.column + 1
    → (let to = rule_to line (s.width - rule.right) s.columns in
    let mark = last_mark (sign_over line rule.column) rule.from to in
    ruled_left s line above below rule place
    ≡ mark_given mark place ++ ruled_left s line above below (rule_behind rule to) (place_behind mark place))
left-last s line above below rule place few =
    let to = rule_to line (s.width - rule.right) s.columns in
    let mark = last_mark (sign_over line rule.column) rule.from to in
    let reached = place_behind mark place in
    let edge = edge_mark line (s.width - rule.right) rule.right in
    last-left s line above below rule place few
    ∙ ap (λ (xs : List ℕ). mark_given mark place ++ (xs ++ newline ∷ [])) (mark-drawn edge [] reached ∙ append-nil (mark_given edge reached))
    ∙ ap (λ (xs : List ℕ). mark_given mark place ++ xs)
    (sym (left-end s line above below (rule_behind rule to) reached few (omega arith)))

-- a rule that is given with the bars that cross it
pub ruled-given : (sign : RuleSign) (from at count end place front rest gap : ℕ) → front ≡ at - from → rest ≡ end - (at + count) → gap ≡ from - place
    → (front + count + rest ≡ 0 → ⊥)
    → replicate gap blank ++ (replicate front (sign_byte sign) ++ (replicate count crossing ++ replicate rest (sign_byte sign)))
    ≡ mark_given (mark_behind (Some sign) false from count at end) place
ruled-given sign from at count end place front rest gap front_is rest_is gap_is some =
    let b = sign_byte sign in
    let bytes : ℕ → ℕ → List ℕ = λ n m. replicate n b ++ (replicate count crossing ++ replicate m b) in
    let len : length (bytes front rest) ≡ front + count + rest =
    omega (
      arith,
      length-append (replicate front b) (replicate count crossing ++ replicate rest b),
      length-append (replicate count crossing) (replicate rest b),
      length-replicate front b,
      length-replicate count crossing,
      length-replicate rest b,
    ) in
    let same : bytes front rest ≡ bytes (at - from) (end - (at + count)) =
    ap (λ (n : ℕ). bytes n rest) front_is ∙ ap (λ (m : ℕ). bytes (at - from) m) rest_is in
    let there : (length (bytes front rest) == 0) ≡ false =
    ne_eqb (length (bytes front rest)) 0 (λ (none : length (bytes front rest) ≡ 0). some (sym len ∙ none)) in
    ap (λ (n : ℕ). replicate n blank ++ bytes front rest) gap_is
    ∙ sym (ap (λ (t : Bool). if t then [] else replicate (from - place) blank ++ bytes front rest) there)
    ∙ ap (λ (xs : List ℕ). mark_given (record { at = from; bytes = xs }) place) same

-- where the last column ends
abbrev end_of_some : Option Column → ℕ
end_of_some None = 0
end_of_some (Some c) = c.start + c.width

last-cons : (c : Column) (columns : List Column) (place : ℕ) → end_of_some (slice_get (c ∷ columns) (length columns)) ≡ last_end place (c ∷ columns)
last-cons c [] place = refl
last-cons c (d ∷ columns) place = last-cons d columns (c.start + c.width)

last-is : (columns : List Column) → end_of_some (slice_get columns (length columns - 1)) ≡ last_end 0 columns
last-is [] = refl
last-is (c ∷ columns) =
    let before : length (c ∷ columns) - 1 ≡ length columns = omega arith in
    ap (λ (at : ℕ). end_of_some (slice_get (c ∷ columns) at)) before ∙ last-cons c columns 0

pub last-column : (columns : List Column) (c : Column) → Some c ≡ slice_get columns (length columns - 1) → c.start + c.width ≡ last_end 0 columns
last-column columns c is = ap end_of_some is ∙ last-is columns
