-- What is laid over a column on a line of rules is what the line shows there.
use Rattle.std.proofs.Common.{◌≡◌, ℕ, ◌+◌, ◌-◌, ◌<◌, ◌≤◌, ◌==◌, Bool, true, false, List, [], ◌∷◌, drop, take, sym, ap, subst, ◌∙◌, arith, ne_eqb, nat_lt, if◌then◌else◌, Option}
use Rattle.std.specs.List.{slice_range}
use Rattle.std.proofs.lemmas.List.{drop-take}
use Rattle.std.proofs.lemmas.Slice.{between_is}
use Rattle.tbl_layout.specs.KeptEntries.{Lies}
use Rattle.tbl_layout.specs.declared.entry.Entry.{Entry}
use Rattle.tbl_layout.specs.Spans.{as_one}
use Rattle.tbl_layout.specs.declared.columns.Column.{Column}
use Rattle.tbl_layout.specs.declared.data_lines.RuleSign.{RuleSign}
use Rattle.tbl_layout.specs.declared.entry.EntryKind.TheVariants.{Repeated}
use Rattle.tbl_lines.specs.CellsLeft.{Left, goes_on}
use Rattle.tbl_lines.specs.LinesLeft.{Free, Over, Through, drawn_at, if_drawn, over_at, over_shown, overs, shown, shown_cell, sign_at}
use Rattle.tbl_lines.specs.PictureLines.{RuleLine, sign_over}
use Rattle.tbl_lines.specs.RowsLeft.{cell_left}
use Rattle.tbl_line_cells.specs.LaidCells.{DrawsByte, EndsItself, drawn_in, on_line, row_column}
use Rattle.tbl_line_cells.specs.RulesDrawn.{over_of}
use Rattle.tbl_line_cells.specs.declared.cells.CellLeft.{CellLeft}
use Rattle.tbl_line_cells.proofs.CellsOver.{OverCell}
use Rattle.tbl_line_cells.proofs.RuleFronts.{sign-free}

-- a byte that is repeated in a column of the page
pub drawn-there : (bytes : List ℕ) (c : Column) (from width b : ℕ) → c.start ≡ from → c.width ≡ width
    → on_line (cell_left bytes 0 (row_column (drawn_in c (record { from = 0; to = 0; kind = Repeated b }))))
    ≡ on_line (shown_cell (drawn_at from b width))
drawn-there bytes c from width b starts wide =
    ap (λ (n : ℕ). on_line (shown_cell (drawn_at n b c.width))) starts ∙ ap (λ (n : ℕ). on_line (shown_cell (drawn_at from b n))) wide

-- what is drawn lies among any bytes, and shows the byte in its column
pub lies-drawn : (bytes : List ℕ) (e : Entry) (b : ℕ) → e ≡ record { from = 0; to = 0; kind = Repeated b } → Lies bytes e
lies-drawn bytes e b is = subst (λ (x : Entry). Lies bytes x) (sym is) (record { order = omega arith; within = omega arith })

pub ends-drawn : (e : Entry) (b : ℕ) → e ≡ record { from = 0; to = 0; kind = Repeated b } → EndsItself e.kind
ends-drawn e b is = subst (λ (x : Entry). EndsItself x.kind) (sym is) tt

pub byte-drawn : (e : Entry) (b : ℕ) → e ≡ record { from = 0; to = 0; kind = Repeated b } → DrawsByte e.kind e
byte-drawn e b is = subst (λ (x : Entry). DrawsByte x.kind x) (sym is) tt

pub shows-drawn : (bytes : List ℕ) (c : Column) (e : Entry) (from width b : ℕ) → e ≡ record { from = 0; to = 0; kind = Repeated b } → c.start ≡ from
    → c.width ≡ width → on_line (cell_left bytes 0 (row_column (drawn_in c e))) ≡ on_line (shown_cell (drawn_at from b width))
shows-drawn bytes c e from width b is starts wide =
    ap (λ (x : Entry). on_line (cell_left bytes 0 (row_column (drawn_in c x)))) is ∙ drawn-there bytes c from width b starts wide

-- the columns of a cell
pub slice-taken : {A : Type 0} (xs : List A) (a b : ℕ) → a ≤ b → slice_range xs a b ≡ take (b - a) (drop a xs)
slice-taken {A = A} xs a b order =
    let all : b ≡ a + (b - a) = omega (arith, order) in
    between_is xs a b ∙ ap (λ (n : ℕ). drop a (take n xs)) all ∙ drop-take a (b - a) xs

over-free : (line : RuleLine) (at : ℕ) (first : Bool) (own : Left) (one : Column) (from to : ℕ) → goes_on own ≡ false
    → over_shown line at (over_of first own one) from to ≡ if_drawn (sign_over line at) from to
over-free line at first own one from to none = ap (λ (b : Bool). over_shown line at (if b then Through first own one else Free) from to) none

over-first : (line : RuleLine) (at : ℕ) (first : Bool) (own : Left) (one : Column) (from to : ℕ) → goes_on own ≡ true → first ≡ true
    → over_shown line at (over_of first own one) from to ≡ shown own one (one.start + one.width) ∷ []
over-first line at first own one from to on is =
    ap (λ (b : Bool). over_shown line at (if b then Through first own one else Free) from to) on
    ∙ ap (λ (b : Bool). if b then shown own one (one.start + one.width) ∷ [] else []) is

over-further : (line : RuleLine) (at : ℕ) (first : Bool) (own : Left) (one : Column) (from to : ℕ) → goes_on own ≡ true → first ≡ false
    → over_shown line at (over_of first own one) from to ≡ []
over-further line at first own one from to on is =
    ap (λ (b : Bool). over_shown line at (if b then Through first own one else Free) from to) on
    ∙ ap (λ (b : Bool). if b then shown own one (one.start + one.width) ∷ [] else []) is

module _ (bytes : List ℕ) (c : CellLeft) (lefts : List Left) (columns : List Column) (begin end at : ℕ)
    (met : OverCell bytes c lefts columns begin end at)
    (line : RuleLine) (from to : ℕ) where
  abbrev one : Column
  one = as_one (take (end - begin) (drop begin columns))

  -- whether the cell goes through
  pub goes-on : goes_on met.own ≡ nat_lt 0 c.rows
  goes-on = ap (λ (n : ℕ). nat_lt 0 n) (sym met.left.rows)

  pub shown-free : nat_lt 0 c.rows ≡ false
      → over_shown line at (over_at (overs 0 lefts columns) at) from to ≡ if_drawn (sign_at line (over_at (overs 0 lefts columns) at) at) from to
  shown-free none =
      let is : goes_on met.own ≡ false = goes-on ∙ none in
      ap (λ (o : Over). over_shown line at o from to) met.over
      ∙ over-free line at (at - begin == 0) met.own one from to is
      ∙ ap (λ (s : Option RuleSign). if_drawn s from to) (sym (sign-free line at (at - begin == 0) met.own one is))
      ∙ ap (λ (o : Over). if_drawn (sign_at line o at) from to) (sym met.over)

  pub shown-first : nat_lt 0 c.rows ≡ true → at ≡ begin
      → over_shown line at (over_at (overs 0 lefts columns) at) from to ≡ shown met.own one (one.start + one.width) ∷ []
  shown-first on first =
      let none : at - begin ≡ 0 = omega (arith, first) in
      ap (λ (o : Over). over_shown line at o from to) met.over
      ∙ over-first line at (at - begin == 0) met.own one from to (goes-on ∙ on) (ap (λ (n : ℕ). n == 0) none)

  pub shown-further : nat_lt 0 c.rows ≡ true → begin < at → over_shown line at (over_at (overs 0 lefts columns) at) from to ≡ []
  shown-further on more =
      ap (λ (o : Over). over_shown line at o from to) met.over
      ∙ over-further line at (at - begin == 0) met.own one from to (goes-on ∙ on) (ne_eqb (at - begin) 0 (λ none. omega (arith, more, none)))
