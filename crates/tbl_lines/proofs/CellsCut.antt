-- Cells of which something is cut on a line are among its cells, and texts stand in them.
use Rattle.std.proofs.Common.{◌≡◌, ℕ, zero, suc, ◌+◌, ◌-◌, Bool, true, false, ◌&&◌, ◌||◌, List, [], ◌∷◌, ◌++◌, length, map, take, drop, replicate, Option, Some, None, refl, sym, subst, ◌∙◌, nat_lt, if◌then◌else◌, ◌==◌}
use Rattle.std.specs.List.{AllByRecursion, list_any}
use Rattle.std.proofs.lemmas.List.Folds.{list_any-append}
use Rattle.tbl_layout.specs.Columns.{bars_end, passes, place_of_rule, stands, widest_entry}
use Rattle.tbl_layout.specs.DataLines.{sign_byte}
use Rattle.tbl_layout.specs.Entries.{Above, Block, Content, Repeated, Ruled, Short, Text, columns_of}
use Rattle.tbl_layout.specs.LayoutLaws.{first_start, last_end}
use Rattle.tbl_layout.specs.Spans.{as_one, cells_of}
use Rattle.tbl_layout.specs.Texts.{is_text}
use Rattle.tbl_layout.specs.Widths.{inner_bars}
use Rattle.tbl_layout.specs.declared.columns.Column.{Column}
use Rattle.tbl_layout.specs.declared.data_lines.RuleSign.{RuleSign}
use Rattle.tbl_layout.specs.declared.data_lines.RuleSign.TheVariants.{Single}
use Rattle.tbl_options.specs.declared.options.Boxing.{Boxing}
use Rattle.tbl_lines.specs.CellsLeft.{Left, goes_on}
use Rattle.tbl_lines.specs.LinesLeft.{Beside, Free, Over, Shown, Through, all_shown, bars_met, cut_cells, drawn_at, end_by, if_cut, if_drawn, joined_here, next_drawn, over_at, over_shown, overs, overs_from, overs_of, room_by, row_cut, row_fronts, row_shown, rule_cut, rule_fronts, rule_shown, rules_edge, runs_on, shown, shown_by}
use Rattle.tbl_lines.specs.PictureLines.{Cell, RuleLine, Sheet, sign_over}

-- whether a text stands in a cell
abbrev pub has_text : Left → Bool
has_text c = is_text c.field == 1

-- a cell is among others: whatever holds of it holds of one of them
abbrev pub IsAmong : Left → List Left → Type 0
IsAmong own cells = (p : Left → Bool) → p own ≡ true → list_any p cells ≡ true

-- and so is one that runs on, if one does, in which a text stands
abbrev pub RunsAmong : List Left → Option Left → Type 0
RunsAmong cells None = Unit {0}
RunsAmong cells (Some own) = (p : Left → Bool) → p own ≡ true → list_any (λ c. p c && has_text c) cells ≡ true

abbrev pub ShownAmong : List Left → List Shown → Type 0
ShownAmong cells shown = AllByRecursion (λ x. RunsAmong cells x.runs_on) shown

or-left : (a b : Bool) → a ≡ true → (a || b) ≡ true
or-left true b is = refl
or-left false b is = absurd (cc)

pub or-right : (a b : Bool) → b ≡ true → (a || b) ≡ true
or-right true b is = refl
or-right false b is = is

pub both-true : (a b : Bool) → a ≡ true → b ≡ true → (a && b) ≡ true
both-true true b first second = second
both-true false b first second = absurd (cc)

among-first : (own : Left) (cells : List Left) → IsAmong own (own ∷ cells)
among-first own cells = λ p is. or-left (p own) (list_any p cells) is

among-later : (own c : Left) (cells : List Left) → IsAmong own cells → IsAmong own (c ∷ cells)
among-later own c cells among = λ p is. or-right (p c) (list_any p cells) (among p is)

runs-later : (c : Left) (cells : List Left) (x : Option Left) → RunsAmong cells x → RunsAmong (c ∷ cells) x
runs-later c cells None among = tt
runs-later c cells (Some own) among = λ p is. or-right (p c && has_text c) (list_any (λ d. p d && has_text d) cells) (among p is)

shown-later : (c : Left) (cells : List Left) (xs : List Shown) → ShownAmong cells xs → ShownAmong (c ∷ cells) xs
shown-later c cells [] all = tt
shown-later c cells (x ∷ xs) all = (runs-later c cells x.runs_on all.0, shown-later c cells xs all.1)

-- only a text runs on
pub no-text : (a b : Bool) → (a && (b && false)) ≡ true → ⊥
no-text true true is = cc
no-text true false is = cc
no-text false b is = cc

-- whether it does by its field
abbrev runs_by : Left → Column → Content → Bool
runs_by own c field = own.key.has_no_width && (own.lead == 0 && passes c own.key.key (stands own.key.key field))

runs-text : (field : Content) (own : Left) (c : Column) → own.field ≡ field → runs_on own c ≡ true → has_text own ≡ true
runs-text (Text []) own c is on =
    absurd (no-text own.key.has_no_width (own.lead == 0) (subst (λ (f : Content). runs_by own c f ≡ true) is on))
runs-text (Text (b ∷ bytes)) own c is on = subst (λ (f : Content). (is_text f == 1) ≡ true) (sym is) refl
runs-text (Block measure lines) own c is on = subst (λ (f : Content). (is_text f == 1) ≡ true) (sym is) refl
runs-text (Ruled sign) own c is on =
    absurd (no-text own.key.has_no_width (own.lead == 0) (subst (λ (f : Content). runs_by own c f ≡ true) is on))
runs-text Short own c is on =
    absurd (no-text own.key.has_no_width (own.lead == 0) (subst (λ (f : Content). runs_by own c f ≡ true) is on))
runs-text (Repeated b) own c is on =
    absurd (no-text own.key.has_no_width (own.lead == 0) (subst (λ (f : Content). runs_by own c f ≡ true) is on))
runs-text Above own c is on =
    absurd (no-text own.key.has_no_width (own.lead == 0) (subst (λ (f : Content). runs_by own c f ≡ true) is on))

-- what a cell shows
runs-if : (on : Bool) (own : Left) (cells : List Left) → IsAmong own cells → (on ≡ true → has_text own ≡ true)
    → RunsAmong cells (if on then Some own else None)
runs-if true own cells among text = λ p is. among (λ c. p c && has_text c) (both-true (p own) (has_text own) is (text refl))
runs-if false own cells among text = tt

drawn-here : (here : Bool) (x : Shown) (cells : List Left) → x.runs_on ≡ None → RunsAmong cells (if here then x else record x { runs = [] }).runs_on
drawn-here true x cells none = subst (λ (o : Option Left). RunsAmong cells o) (sym none) tt
drawn-here false x cells none = subst (λ (o : Option Left). RunsAmong cells o) (sym none) tt

shown-among : (field : Content) (own : Left) (c : Column) (end : ℕ) (cells : List Left) → own.field ≡ field → IsAmong own cells
    → RunsAmong cells (shown_by field own c end).runs_on
shown-among (Text bytes) own c end cells is among = runs-if (runs_on own c) own cells among (runs-text (Text bytes) own c is)
shown-among (Block measure lines) own c end cells is among = runs-if (runs_on own c) own cells among (runs-text (Block measure lines) own c is)
shown-among Above own c end cells is among = runs-if (runs_on own c) own cells among (runs-text Above own c is)
shown-among (Ruled sign) own c end cells is among =
    drawn-here (own.lead == 0) (drawn_at c.start (sign_byte sign) (end - c.start)) cells refl
shown-among Short own c end cells is among =
    drawn-here (own.lead == 0) (drawn_at (c.start + place_of_rule c own.key.key) (sign_byte Single) (widest_entry c.needs)) cells refl
shown-among (Repeated b) own c end cells is among = drawn-here (own.lead == 0) (drawn_at c.start b c.width) cells refl

-- on a line of a row
row-among : (boxing : Boxing) (cells : List Left) (columns : List Column) → ShownAmong cells (row_shown boxing cells columns)
row-among boxing [] columns = tt
row-among boxing (own ∷ cells) [] = tt
row-among boxing (own ∷ []) (c ∷ columns) = (shown-among own.field own c (c.start + c.width) (own ∷ []) refl (among-first own []), tt)
row-among boxing (own ∷ next ∷ cells) (c ∷ []) =
    (shown-among own.field own c (c.start + c.width) (own ∷ next ∷ cells) refl (among-first own (next ∷ cells)), tt)
row-among boxing (own ∷ next ∷ cells) (c ∷ d ∷ columns) = (
  shown-among own.field own c (end_by (joined_here own next) (inner_bars boxing next.key.bars) c d) (own ∷ next ∷ cells) refl
      (among-first own (next ∷ cells)),
  shown-later own (next ∷ cells) (row_shown boxing (next ∷ cells) (d ∷ columns)) (row-among boxing (next ∷ cells) (d ∷ columns)),
)

-- and on a line of rules, through which cells go
abbrev OverAmong : List Left → Over → Type 0
OverAmong cells Free = Unit {0}
OverAmong cells (Through is_first own column) = IsAmong own cells

over-later : (c : Left) (cells : List Left) (o : Over) → OverAmong cells o → OverAmong (c ∷ cells) o
over-later c cells Free among = tt
over-later c cells (Through is_first own column) among = among-later own c cells among

overs-later : (c : Left) (cells : List Left) (os : List Over) → AllByRecursion (OverAmong cells) os → AllByRecursion (OverAmong (c ∷ cells)) os
overs-later c cells [] all = tt
overs-later c cells (o ∷ os) all = (over-later c cells o all.0, overs-later c cells os all.1)

overs-append : (cells : List Left) (os others : List Over) → AllByRecursion (OverAmong cells) os → AllByRecursion (OverAmong cells) others
    → AllByRecursion (OverAmong cells) (os ++ others)
overs-append cells [] others all more = more
overs-append cells (o ∷ os) others all more = (all.0, overs-append cells os others all.1 more)

through-among : (is_first : Bool) (own : Left) (column : Column) (count : ℕ) (cells : List Left) → IsAmong own cells
    → AllByRecursion (OverAmong cells) (overs_from is_first own column count)
through-among is_first own column zero cells among = tt
through-among is_first own column (suc count) cells among = (among, through-among false own column count cells among)

free-among : (count : ℕ) (cells : List Left) → AllByRecursion (OverAmong cells) (replicate count Free)
free-among zero cells = tt
free-among (suc count) cells = (tt, free-among count cells)

over-by : (on : Bool) (own : Left) (columns : List Column) (cells : List Left) → IsAmong own cells
    → AllByRecursion (OverAmong cells) (if on then overs_from true own (as_one columns) (length columns) else replicate (length columns) Free)
over-by true own columns cells among = through-among true own (as_one columns) (length columns) cells among
over-by false own columns cells among = free-among (length columns) cells

overs-among : (from : ℕ) (cells : List Left) (columns : List Column) → AllByRecursion (OverAmong cells) (overs from cells columns)
overs-among from [] columns = tt
overs-among from (own ∷ cells) columns =
    let count = own.key.end - from in
    overs-append (own ∷ cells) (overs_of own (take count columns)) (overs own.key.end cells (drop count columns))
    (over-by (goes_on own) own (take count columns) (own ∷ cells) (among-first own cells))
    (overs-later own cells (overs own.key.end cells (drop count columns)) (overs-among own.key.end cells (drop count columns)))

over-at : (cells : List Left) (all : List Over) (column : ℕ) → AllByRecursion (OverAmong cells) all → OverAmong cells (over_at all column)
over-at cells [] column among = tt
over-at cells (o ∷ all) zero among = among.0
over-at cells (o ∷ all) (suc column) among = over-at cells all column among.1

drawn-among : (sign : Option RuleSign) (from to : ℕ) (cells : List Left) → ShownAmong cells (if_drawn sign from to)
drawn-among None from to cells = (tt, tt)
drawn-among (Some sign) from to cells = (tt, tt)

first-among : (is_first : Bool) (own : Left) (column : Column) (cells : List Left) → IsAmong own cells
    → ShownAmong cells (if is_first then shown own column (column.start + column.width) ∷ [] else [])
first-among true own column cells among = (shown-among own.field own column (column.start + column.width) cells refl among, tt)
first-among false own column cells among = tt

column-among : (line : RuleLine) (column : ℕ) (o : Over) (from to : ℕ) (cells : List Left) → OverAmong cells o
    → ShownAmong cells (over_shown line column o from to)
column-among line column Free from to cells among = drawn-among (sign_over line column) from to cells
column-among line column (Through is_first own one) from to cells among = first-among is_first own one cells among

shown-append : (cells : List Left) (xs ys : List Shown) → ShownAmong cells xs → ShownAmong cells ys → ShownAmong cells (xs ++ ys)
shown-append cells [] ys all more = more
shown-append cells (x ∷ xs) ys all more = (all.0, shown-append cells xs ys all.1 more)

columns-among : (line : RuleLine) (all : List Over) (column from to : ℕ) (columns : List Column) (cells : List Left)
    → AllByRecursion (OverAmong cells) all
    → ShownAmong cells (all_shown line all column from to columns)
columns-among line all column from to [] cells among = tt
columns-among line all column from to (c ∷ []) cells among =
    column-among line column (over_at all column) from to cells (over-at cells all column among)
columns-among line all column from to (c ∷ d ∷ columns) cells among =
    shown-append cells (over_shown line column (over_at all column) from (c.start + c.width))
    (all_shown line all (suc column) (bars_end c d) to (d ∷ columns))
    (column-among line column (over_at all column) from (c.start + c.width) cells (over-at cells all column among))
    (columns-among line all (suc column) (bars_end c d) to (d ∷ columns) cells among)

-- so is all of which something is cut
abbrev pub AreAmong : List Left → List Left → Type 0
AreAmong cut cells = (p : Left → Bool) → list_any p cut ≡ true → list_any (λ c. p c && has_text c) cells ≡ true

or-either : (a b goal : Bool) → (a || b) ≡ true → (a ≡ true → goal ≡ true) → (b ≡ true → goal ≡ true) → goal ≡ true
or-either true b goal is first second = first refl
or-either false b goal is first second = second is

or-none : (a : Bool) → (a || false) ≡ true → a ≡ true
or-none true is = refl
or-none false is = is

one-by : (over : Bool) (own : Left) (cells : List Left) (p : Left → Bool) → RunsAmong cells (Some own)
    → list_any p (if over then own ∷ [] else []) ≡ true
    → list_any (λ c. p c && has_text c) cells ≡ true
one-by true own cells p among is = among p (or-none (p own) is)
one-by false own cells p among is = absurd (cc)

one-cut : (x : Option Left) (s : Sheet) (drawn : ℕ) (c : Shown) (cells : List Left) (p : Left → Bool) → RunsAmong cells x
    → list_any p (if_cut x s drawn c) ≡ true
    → list_any (λ d. p d && has_text d) cells ≡ true
one-cut None s drawn c cells p among is = absurd (cc)
one-cut (Some own) s drawn c cells p among is = one-by (nat_lt (room_by s drawn c.at own) (columns_of c.runs)) own cells p among is

cut-among : (s : Sheet) (fronts : List Cell) (xs : List Shown) (cells : List Left) → ShownAmong cells xs → (p : Left → Bool)
    → list_any p (cut_cells s fronts xs) ≡ true → list_any (λ c. p c && has_text c) cells ≡ true
cut-among s fronts [] cells all p is = absurd (cc)
cut-among s fronts (x ∷ xs) cells all p is =
    let drawn = next_drawn s.width (drop 1 fronts) xs in
    let here = if_cut x.runs_on s drawn x in
    let others = cut_cells s (drop 1 fronts) xs in
    or-either (list_any p here) (list_any p others) (list_any (λ c. p c && has_text c) cells) (sym (list_any-append p here others) ∙ is)
    (λ some. one-cut x.runs_on s drawn x cells p all.0 some) (λ some. cut-among s (drop 1 fronts) xs cells all.1 p some)

pub row-cut : (s : Sheet) (last : ℕ) (cells : List Left) → AreAmong (row_cut s last cells) cells
row-cut s last cells =
    let columns = cells_of (map (λ c. c.key) cells) s.columns in
    cut-among s (row_fronts s last cells columns) (row_shown s.bars.boxing cells columns) cells (row-among s.bars.boxing cells columns)

pub rule-cut : (s : Sheet) (line : RuleLine) (cells : List Left) (above below : Beside) → AreAmong (rule_cut s line cells above below) cells
rule-cut s line cells above below =
    let count = length s.columns in
    let all = overs 0 cells s.columns in
    let left = bars_met s.bars count line all above below 0 in
    let right = bars_met s.bars count line all above below count in
    let from = if rules_edge line (over_at all 0) then left else first_start left s.columns in
    let to = if rules_edge line (over_at all (count - 1)) then s.width - right else last_end 0 s.columns in
    cut-among s (rule_fronts s line cells above below) (rule_shown s line cells above below) cells
    (columns-among line all 0 from to s.columns cells (overs-among 0 cells s.columns))
