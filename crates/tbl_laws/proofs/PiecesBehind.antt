-- Pieces of a line that stand one behind the other.
use Rattle.std.proofs.Common.{◌≡◌, ℕ, zero, suc, ◌+◌, ◌-◌, ◌<◌, ◌≤◌, max, Bool, true, false, List, [], ◌∷◌, ◌++◌, length, Option, subst, arith, if◌then◌else◌}
use Rattle.std.proofs.lemmas.List.Sums.{sum_by-append, sum_by-cons}
use Rattle.tbl_layout.specs.Entries.{Run, blanks, columns_of}
use Rattle.tbl_layout.specs.DataLines.{sign_byte}
use Rattle.tbl_layout.specs.declared.data_lines.RuleSign.{RuleSign}
use Rattle.tbl_lines.specs.CellsLeft.{Left}
use Rattle.tbl_lines.specs.LinesLeft.{Shown, bars_there, drawn_at, ruled_over, shown_cell}
use Rattle.tbl_laws.specs.PiecesApart.{BeginAtColumns, BeginsBehind, StandApart}
use Rattle.tbl_lines.specs.PictureLines.{Cell, at_column, bar, crossed_at, crossing, end_of, nothing_there, one_run, repeated, written}
use Rattle.tbl_lines.specs.RowsLeft.{first_of}

-- a piece stands between two places
pub record Within (c : Cell) (from to : ℕ) : Type 0 where
  pub begins : BeginsBehind from c.at (first_of c)
  pub ends : end_of c.at from (first_of c) ≤ to

begins-before : (place from at : ℕ) (runs : List Run) → place ≤ from → BeginsBehind from at runs → BeginsBehind place at runs
begins-before place from at [] before begins = tt
begins-before place from at (run ∷ runs) before begins = omega (arith, before, begins)

ends-before : (place from to at : ℕ) (runs : List Run) → place ≤ from → end_of at from runs ≤ to → end_of at place runs ≤ to
ends-before place from to at [] before ends = omega (arith, before, ends)
ends-before place from to at (run ∷ runs) before ends = omega (arith, before, ends)

-- it stands apart, and so do those behind it
pub next-apart : (width from to place : ℕ) (c : Cell) (cells : List Cell) → Within c from to → place ≤ from
    → ((at : ℕ) → at ≤ to → StandApart width at cells) → StandApart width place (c ∷ cells)
next-apart width from to place c cells within before others = (
  begins-before place from c.at (first_of c) before within.begins,
  others (end_of c.at place (first_of c)) (ends-before place from to c.at (first_of c) before within.ends),
)

-- nothing, one run, and a rule with bars in it
pub nothing-within : (from to : ℕ) → from ≤ to → Within nothing_there from to
nothing-within from to before = record { begins = tt; ends = before }

columns-one : (run : Run) → columns_of (run ∷ []) ≡ run.columns
columns-one run = omega arith

pub run-within : (at from to : ℕ) (run : Run) → from ≤ at → at + run.columns ≤ to → Within (one_run at run) from to
run-within at from to run begins ends = record { begins = begins; ends = omega (arith, begins, ends, columns-one run) }

pub bars-within : (n at from to : ℕ) → from ≤ at → at + n ≤ to → Within (bars_there at n) from to
bars-within zero at from to begins ends = nothing-within from to (omega (arith, begins, ends))
bars-within (suc n) at from to begins ends = run-within at from to (repeated bar (suc n)) begins ends

columns-two : (first second : Run) → columns_of (first ∷ second ∷ []) ≡ first.columns + second.columns
columns-two first second = omega (arith, sum_by-cons (λ (run : Run). run.columns) first (second ∷ []), columns-one second)

columns-three : (first second third : Run) → columns_of (first ∷ second ∷ third ∷ []) ≡ first.columns + (second.columns + third.columns)
columns-three first second third =
    omega (arith, sum_by-cons (λ (run : Run). run.columns) first (second ∷ third ∷ []), columns-two second third)

pub crossed-within : (sign : RuleSign) (at n end from to : ℕ) → from ≤ at → at + n ≤ end → end ≤ to → Within (crossed_at at n sign end) from to
crossed-within sign at n end from to begins within ends = record {
  begins = begins;
  ends = omega (arith, begins, within, ends, columns-two (repeated crossing n) (repeated (sign_byte sign) (end - (at + n))));
}

pub ruled-within : (sign : RuleSign) (place at n end from to : ℕ) → from ≤ place → place ≤ at → at + n ≤ end → end ≤ to
    → Within (ruled_over sign place at n end) from to
ruled-within sign place at n end from to begins before within ends =
    let b = sign_byte sign in record {
      begins = begins;
      ends = omega (
        arith,
        begins,
        before,
        within,
        ends,
        columns-three (repeated b (at - place)) (repeated crossing n) (repeated b (end - (at + n))),
      );
    }

-- what cells show: a byte so often, or nothing
pub drawn-within : (at b count from to : ℕ) → from ≤ at → at + count ≤ to → Within (shown_cell (drawn_at at b count)) from to
drawn-within at b count from to begins ends =
    record { begins = begins; ends = omega (arith, begins, ends, columns-one (repeated b count)) }

pub here-within : (t : Bool) (s : Shown) (from to : ℕ) → from ≤ to → Within (shown_cell s) from to
    → Within (shown_cell (if t then s else record s { runs = [] })) from to
here-within true s from to before within = within
here-within false s from to before within = record { begins = tt; ends = before }

-- a text in a column
begins-in : (from n : ℕ) (runs : List Run) → BeginsBehind from (from + n) runs
begins-in from n [] = tt
begins-in from n (run ∷ runs) = omega arith

ends-in : (from n to : ℕ) (runs : List Run) → from ≤ to → from + (n + columns_of runs) ≤ to → end_of (from + n) from runs ≤ to
ends-in from n to [] before fits = before
ends-in from n to (run ∷ runs) before fits = omega (arith, fits)

pub text-within : (from n to rows : ℕ) (runs : List Run) (own : Option Left) → from ≤ to → from + (n + columns_of runs) ≤ to
    → Within (shown_cell (record { at = from + n; runs = runs; is_text = true; rows = rows; runs_on = own })) from to
text-within from n to rows runs own before fits = record { begins = begins-in from n runs; ends = ends-in from n to runs before fits }

-- Where pieces stand apart, each begins at its column.
piece-wide : (at place target : ℕ) (runs : List Run) (others : ℕ → List Run) → BeginsBehind place at runs
    → end_of at place runs + columns_of (others (end_of at place runs)) ≡ target
    → place + columns_of (at_column at place runs ++ others (end_of at place runs)) ≡ target
piece-wide at place target [] others begins is = is
piece-wide at place target (run ∷ runs) others begins is =
    let more = others (max at place + columns_of (run ∷ runs)) in
    omega (
      arith,
      begins,
      is,
      sum_by-cons (λ (r : Run). r.columns) (blanks (at - place)) ((run ∷ runs) ++ more),
      sum_by-append (λ (r : Run). r.columns) (run ∷ runs) more,
    )

last-wide : (at place : ℕ) (runs : List Run) → BeginsBehind place at runs → 0 < length runs
    → place + columns_of (at_column at place runs ++ []) ≡ at + columns_of runs
last-wide at place [] begins some = absurd (omega (arith, some))
last-wide at place (run ∷ runs) begins some =
    piece-wide at place (at + columns_of (run ∷ runs)) (run ∷ runs) (λ end. []) begins (omega (arith, begins))

wide-to : (width place : ℕ) (front behind : List Cell) (c : Cell) → StandApart width place (front ++ c ∷ behind) → 0 < length (first_of c)
    → place + columns_of (written 0 place (front ++ c ∷ [])) ≡ c.at + columns_of (first_of c)
wide-to width place [] behind c apart some = last-wide c.at place (first_of c) apart.0 some
wide-to width place (f ∷ front) behind c apart some =
    piece-wide f.at place (c.at + columns_of (first_of c)) (first_of f) (λ end. written 0 end (front ++ c ∷ [])) apart.0
    (wide-to width (end_of f.at place (first_of f)) front behind c apart.1 some)

pub begin-at-columns : (width : ℕ) (cells : List Cell) → StandApart width 0 cells → BeginAtColumns cells
begin-at-columns width cells apart = record {
  each = λ front behind c is some.
      let wide = wide-to width 0 front behind c (subst (λ (all : List Cell). StandApart width 0 all) is apart) some in omega (arith, wide);
}
