-- The rows of a table's formats have no more bars than its columns have places for.
use Rattle.std.proofs.Common.{◌≡◌, ℕ, zero, suc, ◌+◌, ◌-◌, ◌≤◌, nat_lt, ◌==◌, Bool, true, false, List, [], ◌∷◌, length, get_or, inl, inr, Option, None, Some, refl, sym, ap, subst, ◌∙◌, arith, if◌then◌else◌}
use Rattle.std.specs.List.{AllByRecursion}
use Rattle.std.specs.Option.{unwrap_or}
use Rattle.std.proofs.lemmas.Bool.{cases_lt}
use Rattle.std.proofs.lemmas.Bool.Decides.{nat_tests}
use Rattle.std.proofs.lemmas.List.{length-map}
use Rattle.tbl_format.specs.Cells.{cell_behind, cell_from, start_of}
use Rattle.tbl_format.specs.Format.{FormatRow, columns_of_keys}
use Rattle.tbl_format.specs.FormatLaws.{RowHeld, most_beside, bars_among}
use Rattle.tbl_format.specs.declared.format.Asked.{Asked}
use Rattle.tbl_format.specs.declared.format.FormatKey.{FormatKey}
use Rattle.tbl_format.proofs.CellColumns.{cells-few, start_behind, start_behind-next, start_behind-none, start_of-behind, start_of-ones}
use Rattle.tbl_layout.specs.declared.columns.Column.{Column}
use Rattle.tbl_layout.proofs.PlacesBetween.{bars_of_asked, bars_of_columns}
use Rattle.tbl_lines.specs.RulePlaces.{HasPlaces, bars_behind}
use Rattle.tbl_lines.proofs.RulesMet.{few-bars}

-- the cell that is found behind so many columns begins there
pub record BeginsThere (number from : ℕ) (keys : List FormatKey) (column cell : ℕ) : Type 0 where
  pub past : number ≤ cell
  pub start : start_behind from keys (cell - number) ≡ column

none-by : (t : Bool) (number from column cell : ℕ) → nat_lt column from ≡ t → (if t then None else Some (number + (column - from))) ≡ Some cell
    → BeginsThere number from [] column cell
none-by true number from column cell is found = absurd (cc)
none-by false number from column cell is found =
    let at : number + (column - from) ≡ cell = ap (λ (o : Option ℕ). unwrap_or o 0) found in
    let past : from ≤ column = grind (arith, nat_tests) in
    record { past = omega (arith, at); start = omega (arith, at, past, start_behind-none from (cell - number)) }

some-by : (t : Bool) (number from : ℕ) (k : FormatKey) (keys : List FormatKey) (column cell : ℕ) → (column == from) ≡ t
    → (cell_from (suc number) k.end keys column ≡ Some cell → BeginsThere (suc number) k.end keys column cell)
    → (if t then Some number else cell_from (suc number) k.end keys column) ≡ Some cell → BeginsThere number from (k ∷ keys) column cell
some-by true number from k keys column cell is further found =
    let at : number ≡ cell = ap (λ (o : Option ℕ). unwrap_or o 0) found in
    let same : column ≡ from = grind (arith, nat_tests) in
    let first : cell - number ≡ 0 = omega (arith, at) in
    record { past = omega (arith, at); start = ap (start_behind from (k ∷ keys)) first ∙ sym same }
some-by false number from k keys column cell is further found =
    let there = further found in
    let next : cell - number ≡ suc (cell - suc number) = omega (arith, there.past) in
    record {
      past = omega (arith, there.past);
      start = ap (start_behind from (k ∷ keys)) next ∙ start_behind-next from k keys (cell - suc number) ∙ there.start;
    }

found-there : (number from : ℕ) (keys : List FormatKey) (column cell : ℕ) → cell_from number from keys column ≡ Some cell
    → BeginsThere number from keys column cell
found-there number from [] column cell found = none-by (nat_lt column from) number from column cell refl found
found-there number from (k ∷ keys) column cell found =
    some-by (column == from) number from k keys column cell refl (found-there (suc number) k.end keys column cell) found

start-found : (keys : List FormatKey) (column cell : ℕ) → cell_behind keys column ≡ Some cell → start_of keys cell ≡ column
start-found keys column cell found =
    let there = found-there 0 0 keys column cell found in
    let same : cell - 0 ≡ cell = omega arith in
    start_of-behind keys cell ∙ ap (start_behind 0 keys) (sym same) ∙ there.start

-- the bars of a row's keys
among-beside : (keys : List FormatKey) (last cell : ℕ) → bars_among keys last cell ≡ bars_among keys last cell
among-beside [] last zero = refl
among-beside [] last (suc cell) = refl
among-beside (k ∷ keys) last zero = refl
among-beside (k ∷ keys) last (suc cell) = among-beside keys last cell

module _ (front : ℕ) (asked : List Asked) (columns : List Column) (same : bars_of_columns columns ≡ bars_of_asked asked) where
  -- those that begin behind a column
  module _ (format : FormatRow) (held : RowHeld front asked format) where
    few-behind : (column cell : ℕ) → start_of format.keys cell ≡ suc column → bars_among format.keys format.bars cell ≤ bars_behind columns column
    few-behind column cell start =
        let most : bars_among format.keys format.bars cell ≤ most_beside front asked (suc column) =
        subst (λ (n : ℕ). bars_among format.keys format.bars cell ≤ most_beside front asked n) start (held.most cell) in
        let there : bars_behind columns column ≡ most_beside front asked (suc column) = ap (λ (ns : List ℕ). get_or ns column 0) same in
        omega (arith, most, there, among-beside format.keys format.bars cell)

    -- those behind the last key, where each has one column
    few-right : (column : ℕ) → length columns ≡ suc column → bars_among format.keys format.bars (suc column) ≤ bars_behind columns column
    few-right column all =
        let many : length asked ≡ suc column =
        omega (arith, all, ap length same, length-map columns (λ (c : Column). c.bars), length-map asked (λ (a : Asked). a.bars)) in
        let keys = format.keys in
        elim (cases_lt (length keys) (suc column)) [
          | inl few ↦ omega (arith, few-bars keys format.bars (suc column) few)
          | inr past ↦
              let ones : columns_of_keys keys ≡ length keys = omega (arith, past, many, held.short, cells-few keys held.cells) in
              few-behind column (suc column) (start_of-ones keys (suc column) held.cells ones)
        ]

    row-has : HasPlaces front columns format
    row-has = record {
      left = let first : bars_among format.keys format.bars 0 ≤ front = held.most 0 in omega (arith, first, among-beside format.keys format.bars 0);
      behind = λ column cell found. few-behind column cell (start-found format.keys (suc column) cell found);
      right = few-right;
    }

  pub rows-have : (formats : List FormatRow) → AllByRecursion (RowHeld front asked) formats → AllByRecursion (HasPlaces front columns) formats
  rows-have [] held = tt
  rows-have (format ∷ formats) held = (row-has format held.0, rows-have formats held.1)
