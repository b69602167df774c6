-- The bars that a line of a row shows at each boundary, and the cell of each column that goes on, one by one.
use Rattle.std.proofs.Common.{◌≡◌, ℕ, zero, suc, ◌+◌, ◌-◌, ◌<◌, ◌≤◌, nat_lt, Bool, true, false, ◌==◌, List, [], ◌∷◌, ◌++◌, length, get_or, replicate, Option, None, Some, inl, inr, sym, ap, ◌∙◌, arith, if◌then◌else◌, length-append}
use Rattle.std.proofs.lemmas.Bool.{cases_lt}
use Rattle.std.proofs.lemmas.Bool.Decides.{nat_tests}
use Rattle.std.proofs.lemmas.List.{get_or-append_right, get_or-replicate, get_or_append_left, length-replicate}
use Rattle.tbl_format.specs.Cells.{AreCells, cell_behind, cell_from}
use Rattle.tbl_format.specs.declared.format.FormatKey.{FormatKey}
use Rattle.tbl_format.proofs.CellColumns.{columns_behind}

-- what stands at the boundaries of cells, from one with a number on: something in front of each cell, and nothing within it
abbrev pub spread : (ℕ → ℕ) → ℕ → ℕ → List FormatKey → List ℕ
spread f cell from [] = f cell ∷ []
spread f cell from (k ∷ keys) = f cell ∷ (replicate (k.end - from - 1) 0 ++ spread f (suc cell) k.end keys)

-- cells end within their columns
least-columns : (from : ℕ) (keys : List FormatKey) → AreCells from keys → from ≤ columns_behind from keys
least-columns from [] cells = omega arith
least-columns from (k ∷ keys) cells = omega (arith, cells.0, least-columns k.end keys cells.1)

pub first-end : (from : ℕ) (k : FormatKey) (keys : List FormatKey) → AreCells from (k ∷ keys) → k.end ≤ columns_behind from (k ∷ keys)
first-end from k keys cells = least-columns k.end keys cells.1

-- one more than there are columns
pub length-spread : (f : ℕ → ℕ) (cell from : ℕ) (keys : List FormatKey) → AreCells from keys
    → length (spread f cell from keys) + from ≡ columns_behind from keys + 1
length-spread f cell from [] cells = omega arith
length-spread f cell from (k ∷ keys) cells =
    omega (
      arith,
      cells.0,
      length-append (replicate (k.end - from - 1) 0) (spread f (suc cell) k.end keys),
      length-replicate {A = ℕ} (k.end - from - 1) 0,
      length-spread f (suc cell) k.end keys cells.1,
    )

-- in front of the cell that begins behind so many columns, if one does
abbrev pub at_found : (ℕ → ℕ) → Option ℕ → ℕ
at_found f None = 0
at_found f (Some cell) = f cell

before-none : (number from : ℕ) (keys : List FormatKey) (column : ℕ) → AreCells from keys → column < from → cell_from number from keys column ≡ None
before-none number from [] column cells less =
    let test : nat_lt column from ≡ true = grind (arith, nat_tests) in
    ap (λ (t : Bool). if t then None else Some (number + (column - from))) test
before-none number from (k ∷ keys) column cells less =
    let test : (column == from) ≡ false = grind (arith, nat_tests) in
    ap (λ (t : Bool). if t then Some number else cell_from (suc number) k.end keys column) test
    ∙ before-none (suc number) k.end keys column cells.1 (omega (arith, cells.0, less))

here-found : (number from : ℕ) (keys : List FormatKey) (column : ℕ) → column ≡ from → cell_from number from keys column ≡ Some number
here-found number from [] column is =
    let test : nat_lt column from ≡ false = grind (arith, nat_tests) in
    let same : number + (column - from) ≡ number = omega (arith, is) in
    ap (λ (t : Bool). if t then None else Some (number + (column - from))) test ∙ ap (λ (n : ℕ). Some n) same
here-found number from (k ∷ keys) column is =
    let test : (column == from) ≡ true = grind (arith, nat_tests) in
    ap (λ (t : Bool). if t then Some number else cell_from (suc number) k.end keys column) test

module _ (f : ℕ → ℕ) where
  pub spread-at : (cell from : ℕ) (keys : List FormatKey) (i column : ℕ) → AreCells from keys → from + i ≡ column → column ≤ columns_behind from keys
      → get_or (spread f cell from keys) i 0 ≡ at_found f (cell_from cell from keys column)
  spread-at cell from [] zero column cells is few = ap (at_found f) (sym (here-found cell from [] column (omega (arith, is))))
  spread-at cell from [] (suc i) column cells is few = absurd (omega (arith, is, few))
  spread-at cell from (k ∷ keys) zero column cells is few = ap (at_found f) (sym (here-found cell from (k ∷ keys) column (omega (arith, is))))
  spread-at cell from (k ∷ keys) (suc i) column cells is few =
      let n = k.end - from - 1 in
      let rest = spread f (suc cell) k.end keys in
      let test : (column == from) ≡ false = grind (arith, nat_tests, is) in
      let found : cell_from cell from (k ∷ keys) column ≡ cell_from (suc cell) k.end keys column
      = ap (λ (t : Bool). if t then Some cell else cell_from (suc cell) k.end keys column) test in
      elim (cases_lt column k.end) [
        | inl less ↦
            let before : i < n = omega (arith, less, is) in
            let many : i < length (replicate n 0) = omega (arith, before, length-replicate {A = ℕ} n 0) in
            let none : get_or (replicate n 0 ++ rest) i 0 ≡ 0 = get_or_append_left (replicate n 0) rest 0 i many ∙ get_or-replicate n i 0 0 before in
            let out : 0 ≡ at_found f (cell_from cell from (k ∷ keys) column)
            = ap (at_found f) (sym (found ∙ before-none (suc cell) k.end keys column cells.1 less)) in
            none ∙ out
        | inr past ↦
            let behind : n ≤ i = omega (arith, past, is, cells.0) in
            let there : get_or (replicate n 0 ++ rest) i 0 ≡ get_or rest (i - n) 0
            = get_or-append_right (replicate n 0) rest n i 0 (length-replicate {A = ℕ} n 0) behind in
            let later : get_or rest (i - n) 0 ≡ at_found f (cell_from (suc cell) k.end keys column)
            = spread-at (suc cell) k.end keys (i - n) column cells.1 (omega (arith, past, is, cells.0, behind)) few in
            there ∙ later ∙ ap (at_found f) (sym found)
      ]

  pub spread-shown : (keys : List FormatKey) (boundary : ℕ) → AreCells 0 keys → boundary ≤ columns_behind 0 keys
      → get_or (spread f 0 0 keys) boundary 0 ≡ at_found f (cell_behind keys boundary)
  spread-shown keys boundary cells few = spread-at 0 0 keys boundary boundary cells (omega arith) few
