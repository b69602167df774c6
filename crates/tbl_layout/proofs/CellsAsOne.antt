-- The columns of a cell as one.
use Rattle.std.proofs.Common.{◌≡◌, ℕ, zero, suc, ◌+◌, ◌≤◌, List, [], ◌∷◌, take, drop, refl, arith}
use Rattle.std.specs.Prelude.{⊤}
use Rattle.tbl_layout.specs.LayoutLaws.{last_end}
use Rattle.tbl_layout.specs.Spans.{as_one}
use Rattle.tbl_layout.specs.declared.columns.Column.{Column}

-- each next column ends no earlier than the one before it
abbrev pub EndsGrow : List Column → Type 0
EndsGrow [] = ⊤
EndsGrow (c ∷ []) = ⊤
EndsGrow (c ∷ d ∷ columns) = (c.start + c.width ≤ d.start + d.width) × EndsGrow (d ∷ columns)

-- the last of some columns ends no earlier than the first
pub last_end-grows : (place : ℕ) (c : Column) (columns : List Column) → EndsGrow (c ∷ columns)
    → c.start + c.width ≤ last_end place (c ∷ columns)
last_end-grows place c [] grow = omega arith
last_end-grows place c (d ∷ columns) grow = omega (arith, grow.0, last_end-grows (c.start + c.width) d columns grow.1)

-- what stands in the first column is its own
pub as_one-start : (c : Column) (columns : List Column) → (as_one (c ∷ columns)).start ≡ c.start
as_one-start c [] = refl
as_one-start c (d ∷ columns) = refl

pub as_one-needs : (c : Column) (columns : List Column) → (as_one (c ∷ columns)).needs ≡ c.needs
as_one-needs c [] = refl
as_one-needs c (d ∷ columns) = refl

-- it ends where the last one does
pub as_one-end : (place : ℕ) (c : Column) (columns : List Column) → EndsGrow (c ∷ columns)
    → (as_one (c ∷ columns)).start + (as_one (c ∷ columns)).width ≡ last_end place (c ∷ columns)
as_one-end place c [] grow = refl
as_one-end place c (d ∷ columns) grow = omega (arith, grow.0, last_end-grows (c.start + c.width) d columns grow.1)

-- so do some of these
pub grow-take : (n : ℕ) (columns : List Column) → EndsGrow columns → EndsGrow (take n columns)
grow-take zero columns grow = tt
grow-take (suc n) [] grow = tt
grow-take (suc zero) (c ∷ []) grow = tt
grow-take (suc (suc n)) (c ∷ []) grow = tt
grow-take (suc zero) (c ∷ d ∷ columns) grow = tt
grow-take (suc (suc n)) (c ∷ d ∷ columns) grow = (grow.0, grow-take (suc n) (d ∷ columns) grow.1)

pub grow-drop : (n : ℕ) (columns : List Column) → EndsGrow columns → EndsGrow (drop n columns)
grow-drop zero columns grow = grow
grow-drop (suc n) [] grow = tt
grow-drop (suc zero) (c ∷ []) grow = tt
grow-drop (suc (suc n)) (c ∷ []) grow = tt
grow-drop (suc n) (c ∷ d ∷ columns) grow = grow-drop n (d ∷ columns) grow.1
