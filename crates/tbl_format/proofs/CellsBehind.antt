-- Which cell of a row begins behind so many columns.
use Rattle.std.proofs.Common.{◌≡◌, ℕ, zero, suc, ◌+◌, ◌-◌, ◌<◌, ◌≤◌, nat_lt, ◌==◌, Bool, true, false, Option, None, Some, List, [], ◌∷◌, length, get_or, inl, inr, refl, sym, ap, ◌∙◌, arith, if◌then◌else◌}
use Rattle.std.proofs.lemmas.Bool.{cases_lt}
use Rattle.std.proofs.lemmas.Bool.Decides.{nat_tests}
use Rattle.tbl_format.specs.Cells.{AreCells, cell_behind, cell_from, end_of, start_of}
use Rattle.tbl_format.specs.Format.{columns_of_keys}
use Rattle.tbl_format.specs.declared.format.FormatKey.{FormatKey}
use Rattle.tbl_format.proofs.CellColumns.{columns_behind, columns_of-behind, end_behind, end_of-behind, start_behind, start_behind-next, start_behind-none, start_of-behind}

-- cells begin one behind another
start-least : (from : ℕ) (keys : List FormatKey) (cell : ℕ) → AreCells from keys → from ≤ start_behind from keys cell
start-least from [] cell cells = omega (arith, start_behind-none from cell)
start-least from (k ∷ keys) zero cells = omega arith
start-least from (k ∷ keys) (suc cell) cells =
    omega (arith, start_behind-next from k keys cell, start-least k.end keys cell cells.1, cells.0)

start-rises : (from : ℕ) (keys : List FormatKey) (cell later : ℕ) → AreCells from keys → cell ≤ later
    → start_behind from keys cell ≤ start_behind from keys later
start-rises from [] cell later cells rise = omega (arith, start_behind-none from cell, start_behind-none from later, rise)
start-rises from (k ∷ keys) zero later cells rise = start-least from (k ∷ keys) later cells
start-rises from (k ∷ keys) (suc cell) zero cells rise = absurd (omega (arith, rise))
start-rises from (k ∷ keys) (suc cell) (suc later) cells rise =
    omega (arith, start_behind-next from k keys cell, start_behind-next from k keys later, start-rises k.end keys cell later cells.1 (omega (arith, rise)))

pub start_of-rises : (keys : List FormatKey) (cell later : ℕ) → AreCells 0 keys → cell ≤ later → start_of keys cell ≤ start_of keys later
start_of-rises keys cell later cells rise =
    omega (arith, start_of-behind keys cell, start_of-behind keys later, start-rises 0 keys cell later cells rise)

-- and none before its number
many-behind : (from : ℕ) (keys : List FormatKey) (cell : ℕ) → AreCells from keys → from + cell ≤ start_behind from keys cell
many-behind from [] cell cells = omega (arith, start_behind-none from cell)
many-behind from (k ∷ keys) zero cells = omega arith
many-behind from (k ∷ keys) (suc cell) cells =
    omega (arith, start_behind-next from k keys cell, many-behind k.end keys cell cells.1, cells.0)

pub start_of-many : (keys : List FormatKey) (cell : ℕ) → AreCells 0 keys → cell ≤ start_of keys cell
start_of-many keys cell cells = omega (arith, start_of-behind keys cell, many-behind 0 keys cell cells)

-- behind all keys each cell has one column
past-behind : (from : ℕ) (keys : List FormatKey) (cell : ℕ) → length keys ≤ cell
    → start_behind from keys cell ≡ columns_behind from keys + (cell - length keys)
past-behind from [] cell past = omega (arith, start_behind-none from cell)
past-behind from (k ∷ keys) zero past = absurd (omega (arith, past))
past-behind from (k ∷ keys) (suc cell) past = omega (arith, start_behind-next from k keys cell, past-behind k.end keys cell (omega (arith, past)))

pub start_of-past : (keys : List FormatKey) (cell : ℕ) → length keys ≤ cell → start_of keys cell ≡ columns_of_keys keys + (cell - length keys)
start_of-past keys cell past = omega (arith, start_of-behind keys cell, columns_of-behind keys, past-behind 0 keys cell past)

-- a cell begins where that of the key in front of it ends
end-read : (from : ℕ) (keys : List FormatKey) (cell : ℕ) (d : FormatKey) → cell < length keys → end_behind from keys cell ≡ (get_or keys cell d).end
end-read from [] cell d some = absurd (omega (arith, some))
end-read from (k ∷ keys) zero d some = refl
end-read from (k ∷ keys) (suc cell) d some = end-read k.end keys cell d (omega (arith, some))

pub end_of-read : (keys : List FormatKey) (cell : ℕ) (d : FormatKey) → cell < length keys → end_of keys cell ≡ (get_or keys cell d).end
end_of-read keys cell d some = end_of-behind keys cell ∙ end-read 0 keys cell d some

-- the cell that begins behind so many columns
found-from : (number from : ℕ) (keys : List FormatKey) (cell column : ℕ) → AreCells from keys → start_behind from keys cell ≡ column
    → cell_from number from keys column ≡ Some (number + cell)
found-from number from [] cell column cells is =
    let past : from ≤ column = omega (arith, start_behind-none from cell, is) in
    let test : nat_lt column from ≡ false = grind (arith, nat_tests) in
    let same : number + (column - from) ≡ number + cell = omega (arith, start_behind-none from cell, is) in
    ap (λ (t : Bool). if t then None else Some (number + (column - from))) test ∙ ap (λ (n : ℕ). Some n) same
found-from number from (k ∷ keys) zero column cells is =
    let test : (column == from) ≡ true = grind (arith, nat_tests) in
    let same : number ≡ number + 0 = omega arith in
    ap (λ (t : Bool). if t then Some number else cell_from (suc number) k.end keys column) test ∙ ap (λ (n : ℕ). Some n) same
found-from number from (k ∷ keys) (suc cell) column cells is =
    let next = start_behind-next from k keys cell in
    let past : from < column = omega (arith, is, next, start-least k.end keys cell cells.1, cells.0) in
    let test : (column == from) ≡ false = grind (arith, nat_tests) in
    let same : suc number + cell ≡ number + suc cell = omega arith in
    ap (λ (t : Bool). if t then Some number else cell_from (suc number) k.end keys column) test
    ∙ found-from (suc number) k.end keys cell column cells.1 (sym next ∙ is) ∙ ap (λ (n : ℕ). Some n) same

pub cell_behind-found : (keys : List FormatKey) (cell column : ℕ) → AreCells 0 keys → start_of keys cell ≡ column → cell_behind keys column ≡ Some cell
cell_behind-found keys cell column cells is =
    let same : 0 + cell ≡ cell = omega arith in
    found-from 0 0 keys cell column cells (sym (start_of-behind keys cell) ∙ is) ∙ ap (λ (n : ℕ). Some n) same

-- the first that doesn't begin before them, or one behind all keys
pub cell_behind-first : (keys : List FormatKey) (cell column from : ℕ) → AreCells 0 keys → from ≡ start_of keys cell → from ≤ column
    → cell ≤ length keys → (cell < length keys → column ≤ start_of keys cell) → cell_behind keys column ≡ Some (cell + (column - from))
cell_behind-first keys cell column from cells from_is past few first = elim (cases_lt cell (length keys)) [
  | inl some ↦
      let at : cell + (column - from) ≡ cell = omega (arith, first some, from_is) in
      let start : start_of keys cell ≡ column = omega (arith, first some, from_is, past) in
      cell_behind-found keys cell column cells start ∙ ap (λ (n : ℕ). Some n) (sym at)
  | inr all ↦
      let at = cell + (column - from) in
      let start : start_of keys at ≡ column = omega (arith, start_of-past keys at (omega (arith, all)), start_of-past keys cell all, from_is, past, few, all) in
      cell_behind-found keys at column cells start
]

-- and none, where one begins before them and the next one behind
none-from : (number from : ℕ) (keys : List FormatKey) (count column : ℕ) → AreCells from keys → count ≤ length keys
    → ((cell : ℕ) → cell < count → start_behind from keys cell < column) → column < start_behind from keys count
    → cell_from number from keys column ≡ None
none-from number from [] count column cells few before behind =
    let less : column < from = omega (arith, start_behind-none from count, few, behind) in
    let test : nat_lt column from ≡ true = grind (arith, nat_tests) in
    ap (λ (t : Bool). if t then None else Some (number + (column - from))) test
none-from number from (k ∷ keys) zero column cells few before behind =
    let test : (column == from) ≡ false = grind (arith, nat_tests) in
    let later : column < k.end = omega (arith, behind, cells.0) in
    ap (λ (t : Bool). if t then Some number else cell_from (suc number) k.end keys column) test
    ∙ none-from (suc number) k.end keys 0 column cells.1 (omega arith) (λ cell less. absurd (omega (arith, less))) later
none-from number from (k ∷ keys) (suc count) column cells few before behind =
    let past : from < column = before 0 (omega arith) in
    let test : (column == from) ≡ false = grind (arith, nat_tests) in
    ap (λ (t : Bool). if t then Some number else cell_from (suc number) k.end keys column) test
    ∙ none-from (suc number) k.end keys count column cells.1 (omega (arith, few))
    (λ cell less. omega (arith, start_behind-next from k keys cell, before (suc cell) (omega (arith, less))))
    (omega (arith, start_behind-next from k keys count, behind))

pub cell_behind-none : (keys : List FormatKey) (count column : ℕ) → AreCells 0 keys → count ≤ length keys
    → ((cell : ℕ) → cell < count → start_of keys cell < column) → column < start_of keys count → cell_behind keys column ≡ None
cell_behind-none keys count column cells few before behind =
    none-from 0 0 keys count column cells few
    (λ cell less. omega (arith, start_of-behind keys cell, before cell less)) (omega (arith, start_of-behind keys count, behind))

-- no cell has a number greater than the columns that it begins behind
few-none : (number from column cell : ℕ) (less : Bool) → nat_lt column from ≡ less → (if less then None else Some (number + (column - from))) ≡ Some cell
    → cell + from ≤ number + column
few-none number from column cell true is found = absurd (cc)
few-none number from column cell false is found =
    let same : number + (column - from) ≡ cell = cc in
    let past : from ≤ column = grind (arith, nat_tests, is) in
    omega (arith, same, past)

few-more : (number from column cell : ℕ) (here : Bool) (rest : Option ℕ) → (column == from) ≡ here → (if here then Some number else rest) ≡ Some cell
    → (rest ≡ Some cell → cell + from ≤ number + column) → cell + from ≤ number + column
few-more number from column cell true rest is found later =
    let same : number ≡ cell = cc in
    let at : column ≡ from = grind (arith, nat_tests, is) in
    omega (arith, same, at)
few-more number from column cell false rest is found later = later found

few-from : (number from : ℕ) (keys : List FormatKey) (column cell : ℕ) → AreCells from keys → cell_from number from keys column ≡ Some cell
    → cell + from ≤ number + column
few-from number from [] column cell cells found = few-none number from column cell (nat_lt column from) refl found
few-from number from (k ∷ keys) column cell cells found =
    few-more number from column cell (column == from) (cell_from (suc number) k.end keys column) refl found
    (λ later. omega (arith, cells.0, few-from (suc number) k.end keys column cell cells.1 later))

pub cell_behind-few : (keys : List FormatKey) (column cell : ℕ) → AreCells 0 keys → cell_behind keys column ≡ Some cell → cell ≤ column
cell_behind-few keys column cell cells found = omega (arith, few-from 0 0 keys column cell cells found)
