-- What a line of rules meets over the columns of a cell.
use Rattle.std.proofs.Common.{◌≡◌, ℕ, zero, suc, ◌+◌, ◌-◌, ◌<◌, ◌≤◌, ◌==◌, Bool, true, false, List, [], ◌∷◌, ◌++◌, drop, get_or, length, map, replicate, take, refl, sym, ap, subst, ◌∙◌, arith, length-drop, ne_eqb, drop-drop, length-take-le, if◌then◌else◌}
use Rattle.std.proofs.lemmas.List.{get_or-append_right, get_or_append_left}
use Rattle.tbl_format.specs.declared.format.FormatKey.{FormatKey}
use Rattle.tbl_layout.specs.Spans.{as_one}
use Rattle.tbl_layout.specs.declared.columns.Column.{Column}
use Rattle.tbl_lines.specs.CellsLeft.{Left, goes_on}
use Rattle.tbl_lines.specs.LinesLeft.{Free, Through, over_at, overs, overs_from, overs_of}
use Rattle.tbl_line_cells.specs.RulesDrawn.{Cover, begin_from, over_of}

-- the keys of cells
abbrev pub left_keys : List Left → List FormatKey
left_keys lefts = map (λ (l : Left). l.key) lefts

free-there : (count k : ℕ) → get_or (replicate count Free) k Free ≡ Free
free-there zero zero = refl
free-there zero (suc k) = refl
free-there (suc count) zero = refl
free-there (suc count) (suc k) = free-there count k

further-there : (own : Left) (one : Column) (count k : ℕ) → k < count → get_or (overs_from false own one count) k Free ≡ Through false own one
further-there own one zero k within = absurd (omega (arith, within))
further-there own one (suc count) zero within = refl
further-there own one (suc count) (suc k) within = further-there own one count k (omega (arith, within))

through-there : (own : Left) (one : Column) (count k : ℕ) → k < count → get_or (overs_from true own one count) k Free ≡ Through (k == 0) own one
through-there own one zero k within = absurd (omega (arith, within))
through-there own one (suc count) zero within = refl
through-there own one (suc count) (suc k) within =
    further-there own one count k (omega (arith, within))
    ∙ ap (λ (b : Bool). Through b own one) (sym (ne_eqb (suc k) 0 (λ is. omega (arith, is))))

over-by : (is : Bool) (own : Left) (one : Column) (count k : ℕ) → k < count
    → get_or (if is then overs_from true own one count else replicate count Free) k Free ≡ (if is then Through (k == 0) own one else Free)
over-by true own one count k within = through-there own one count k within
over-by false own one count k within = free-there count k

count-from : (is : Bool) (own : Left) (one : Column) (count : ℕ) → length (overs_from is own one count) ≡ count
count-from is own one zero = refl
count-from is own one (suc count) = ap suc (count-from false own one count)

count-free : (count : ℕ) → length (replicate count Free) ≡ count
count-free zero = refl
count-free (suc count) = ap suc (count-free count)

count-by : (is : Bool) (own : Left) (one : Column) (count : ℕ)
    → length (if is then overs_from true own one count else replicate count Free) ≡ count
count-by true own one count = count-from true own one count
count-by false own one count = count-free count

pub overs-count : (own : Left) (columns : List Column) → length (overs_of own columns) ≡ length columns
overs-count own columns = count-by (goes_on own) own (as_one columns) (length columns)

-- no cell begins in front of the first
pub begin-behind : (from count cell : ℕ) (keys : List FormatKey) → Cover from count keys → from ≤ begin_from from cell keys
begin-behind from count zero keys cover = omega arith
begin-behind from count (suc cell) [] cover = omega arith
begin-behind from count (suc cell) (k ∷ keys) cover = omega (arith, cover.0, begin-behind k.end count cell keys cover.1)

pub cover-few : (from count : ℕ) (keys : List FormatKey) → Cover from count keys → from ≤ count
cover-few from count [] cover = omega (arith, cover)
cover-few from count (k ∷ keys) cover = omega (arith, cover.0, cover-few k.end count keys cover.1)

-- over a column of a cell
pub over-there : (from : ℕ) (lefts : List Left) (columns : List Column) (cell column : ℕ) (own : Left) (others : List Left)
    → Cover from (from + length columns) (left_keys lefts) → drop cell lefts ≡ own ∷ others
    → begin_from from cell (left_keys lefts) ≤ column → column < own.key.end
    → over_at (overs from lefts columns) (column - from)
    ≡ over_of (column - begin_from from cell (left_keys lefts) == 0) own
    (as_one (take (own.key.end - begin_from from cell (left_keys lefts)) (drop (begin_from from cell (left_keys lefts) - from) columns)))
over-there from [] columns zero column own others cover is begins within = absurd (cc)
over-there from [] columns (suc cell) column own others cover is begins within = absurd (cc)
over-there from (l ∷ lefts) columns zero column own others cover is begins within =
    let same : l ≡ own = cc in
    let count = l.key.end - from in
    let ends = cover-few l.key.end (from + length columns) (left_keys lefts) cover.1 in
    let taken : length (take count columns) ≡ count = length-take-le count columns (omega (arith, ends)) in
    let inside : column < l.key.end = subst (λ (m : Left). column < m.key.end) (sym same) within in
    let few : column - from < length (take count columns) = omega (arith, inside, begins, taken) in
    let met = get_or_append_left (overs_of l (take count columns)) (overs l.key.end lefts (drop count columns)) Free (column - from)
    (omega (arith, few, overs-count l (take count columns))) in
    let first = over-by (goes_on l) l (as_one (take count columns)) (length (take count columns)) (column - from) few in
    let none : from - from ≡ 0 = omega arith in
    subst (λ (m : Left). get_or (overs_of l (take count columns) ++ overs l.key.end lefts (drop count columns)) (column - from) Free
    ≡ over_of (column - from == 0) m (as_one (take (m.key.end - from) (drop (from - from) columns)))) same
    (subst (λ (n : ℕ). get_or (overs_of l (take count columns) ++ overs l.key.end lefts (drop count columns)) (column - from) Free
    ≡ over_of (column - from == 0) l (as_one (take (l.key.end - from) (drop n columns)))) (sym none) (met ∙ first))
over-there from (l ∷ lefts) columns (suc cell) column own others cover is begins within =
    let count = l.key.end - from in
    let ends = cover-few l.key.end (from + length columns) (left_keys lefts) cover.1 in
    let begin = begin_from l.key.end cell (left_keys lefts) in
    let behind = begin-behind l.key.end (from + length columns) cell (left_keys lefts) cover.1 in
    let taken : length (overs_of l (take count columns)) ≡ count =
    overs-count l (take count columns) ∙ length-take-le count columns (omega (arith, ends)) in
    let left : l.key.end + length (drop count columns) ≡ from + length columns = omega (arith, ends, cover.0, length-drop count columns) in
    let met = get_or-append_right (overs_of l (take count columns)) (overs l.key.end lefts (drop count columns)) count (column - from) Free taken
    (omega (arith, behind, begins, cover.0)) in
    let at : column - from - count ≡ column - l.key.end = omega (arith, behind, begins, cover.0) in
    let rest = over-there l.key.end lefts (drop count columns) cell column own others
    (subst (λ (n : ℕ). Cover l.key.end n (left_keys lefts)) (sym left) cover.1) is begins within in
    let place : count + (begin - l.key.end) ≡ begin - from = omega (arith, behind, cover.0) in
    met ∙ ap (λ (n : ℕ). get_or (overs l.key.end lefts (drop count columns)) n Free) at ∙ rest
    ∙ ap (λ (xs : List Column). over_of (column - begin == 0) own (as_one (take (own.key.end - begin) xs)))
    (drop-drop (begin - l.key.end) count columns ∙ ap (λ (n : ℕ). drop n columns) place)
