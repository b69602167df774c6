-- The cells of the rows of formats, and the columns that they have.
use Rattle.std.proofs.Common.{◌≡◌, ℕ, zero, suc, ◌+◌, ◌-◌, ◌<◌, ◌≤◌, List, [], ◌∷◌, length, map, take, drop, get_or, refl, sym, ap, ◌∙◌, arith, length-drop, drop-drop}
use Rattle.std.proofs.lemmas.List.{length-map}
use Rattle.std.specs.List.{slice_range}
use Rattle.tbl_format.specs.Cells.{AreCells, by_cells, cell_count, end_of, start_of}
use Rattle.tbl_format.specs.Format.{columns_of_keys}
use Rattle.tbl_format.specs.declared.format.FormatKey.{FormatKey}

-- how many columns there are up to the last of the cells of these keys, the first of which begins behind so many
abbrev pub columns_behind : ℕ → List FormatKey → ℕ
columns_behind from [] = from
columns_behind from (k ∷ keys) = columns_behind k.end keys

-- up to which column one of these cells goes, and behind which it begins
abbrev pub end_behind : ℕ → List FormatKey → ℕ → ℕ
end_behind from [] cell = from + (cell + 1)
end_behind from (k ∷ keys) zero = k.end
end_behind from (k ∷ keys) (suc cell) = end_behind k.end keys cell

abbrev pub start_behind : ℕ → List FormatKey → ℕ → ℕ
start_behind from keys zero = from
start_behind from keys (suc cell) = end_behind from keys cell

-- the cells of a row are those behind no column
columns_of-more : (from : ℕ) (k : FormatKey) (keys : List FormatKey) → columns_of_keys (k ∷ keys) ≡ columns_behind from (k ∷ keys)
columns_of-more from k [] = refl
columns_of-more from k (next ∷ keys) = columns_of-more k.end next keys

pub columns_of-behind : (keys : List FormatKey) → columns_of_keys keys ≡ columns_behind 0 keys
columns_of-behind [] = refl
columns_of-behind (k ∷ keys) = columns_of-more 0 k keys

end_of-more : (from : ℕ) (k : FormatKey) (keys : List FormatKey) (cell : ℕ) → end_of (k ∷ keys) cell ≡ end_behind from (k ∷ keys) cell
end_of-more from k [] zero = refl
end_of-more from k [] (suc cell) = omega arith
end_of-more from k (next ∷ keys) zero = refl
end_of-more from k (next ∷ keys) (suc cell) =
    let past : suc cell + 1 - length (k ∷ next ∷ keys) ≡ cell + 1 - length (next ∷ keys) = omega arith in
    ap (λ (n : ℕ). get_or (map (λ (q : FormatKey). q.end) (next ∷ keys)) cell (columns_of_keys (next ∷ keys) + n)) past
    ∙ end_of-more k.end next keys cell

pub end_of-behind : (keys : List FormatKey) (cell : ℕ) → end_of keys cell ≡ end_behind 0 keys cell
end_of-behind [] cell = omega arith
end_of-behind (k ∷ keys) cell = end_of-more 0 k keys cell

pub start_of-behind : (keys : List FormatKey) (cell : ℕ) → start_of keys cell ≡ start_behind 0 keys cell
start_of-behind keys zero = refl
start_of-behind keys (suc cell) = end_of-behind keys cell

pub start_behind-next : (from : ℕ) (k : FormatKey) (keys : List FormatKey) (cell : ℕ)
    → start_behind from (k ∷ keys) (suc cell) ≡ start_behind k.end keys cell
start_behind-next from k keys zero = refl
start_behind-next from k keys (suc cell) = refl

-- behind the last key each cell has one column
pub start_behind-none : (from cell : ℕ) → start_behind from [] cell ≡ from + cell
start_behind-none from zero = omega arith
start_behind-none from (suc cell) = omega arith

-- there are no more cells than columns
few-behind : (from : ℕ) (keys : List FormatKey) → AreCells from keys → from + length keys ≤ columns_behind from keys
few-behind from [] cells = omega arith
few-behind from (k ∷ keys) cells = omega (arith, cells.0, few-behind k.end keys cells.1)

pub cells-few : (keys : List FormatKey) → AreCells 0 keys → length keys ≤ columns_of_keys keys
cells-few keys cells = omega (arith, columns_of-behind keys, few-behind 0 keys cells)

-- a cell has a column at least, and the table has its columns
record IsWithin (columns start end : ℕ) : Type 0 where
  order : start < end
  within : end ≤ columns

within-behind : (columns from : ℕ) (keys : List FormatKey) (cell : ℕ) → AreCells from keys → columns_behind from keys ≤ columns
    → cell < length keys + (columns - columns_behind from keys)
    → IsWithin columns (start_behind from keys cell) (end_behind from keys cell)
within-behind columns from [] cell cells short some = record {
  order = omega (arith, start_behind-none from cell);
  within = omega (arith, short, some);
}
within-behind columns from (k ∷ keys) zero cells short some = record {
  order = cells.0;
  within = omega (arith, short, few-behind k.end keys cells.1);
}
within-behind columns from (k ∷ keys) (suc cell) cells short some =
    let next = within-behind columns k.end keys cell cells.1 short (omega (arith, some)) in
    record { order = omega (arith, next.order, start_behind-next from k keys cell); within = next.within }

pub cell-within : (keys : List FormatKey) (columns cell : ℕ) → AreCells 0 keys → columns_of_keys keys ≤ columns → cell < cell_count keys columns
    → (start_of keys cell < end_of keys cell) × (end_of keys cell ≤ columns)
cell-within keys columns cell cells short some =
    let all = columns_of-behind keys in
    let within = within-behind columns 0 keys cell cells (omega (arith, all, short)) (omega (arith, all, some)) in
    let start = start_of-behind keys cell in
    let end = end_of-behind keys cell in
    (omega (arith, start, end, within.order), omega (arith, end, within.within))

-- cells of one column each
ones-behind : (from : ℕ) (keys : List FormatKey) (cell : ℕ) → AreCells from keys → columns_behind from keys ≡ from + length keys
    → start_behind from keys cell ≡ from + cell
ones-behind from [] cell cells ones = start_behind-none from cell
ones-behind from (k ∷ keys) zero cells ones = omega arith
ones-behind from (k ∷ keys) (suc cell) cells ones =
    let few = few-behind k.end keys cells.1 in
    let next = ones-behind k.end keys cell cells.1 (omega (arith, ones, few, cells.0)) in
    omega (arith, start_behind-next from k keys cell, next, ones, few, cells.0)

pub start_of-ones : (keys : List FormatKey) (cell : ℕ) → AreCells 0 keys → columns_of_keys keys ≡ length keys → start_of keys cell ≡ cell
start_of-ones keys cell cells ones =
    omega (arith, start_of-behind keys cell, ones-behind 0 keys cell cells (omega (arith, columns_of-behind keys, ones)))

-- what is said of columns, in cells
length-behind : {A : Type 0} (from : ℕ) (keys : List FormatKey) (xs : List A) → AreCells from keys
    → length (by_cells from keys xs) ≡ length keys + (length xs + from - columns_behind from keys)
length-behind from [] xs cells = omega (arith, length-map xs (λ x. x ∷ []))
length-behind from (k ∷ keys) xs cells =
    omega (arith, cells.0, length-drop (k.end - from) xs, few-behind k.end keys cells.1, length-behind k.end keys (drop (k.end - from) xs) cells.1)

pub length-by_cells : {A : Type 0} (keys : List FormatKey) (columns : List A) → AreCells 0 keys → columns_of_keys keys ≤ length columns
    → length (by_cells 0 keys columns) ≡ cell_count keys (length columns)
length-by_cells keys columns cells short = omega (arith, columns_of-behind keys, length-behind 0 keys columns cells)

singles-at : {A : Type 0} (xs : List A) (cell : ℕ) → cell < length xs
    → drop cell (map (λ (x : A). x ∷ []) xs) ≡ take 1 (drop cell xs) ∷ drop (suc cell) (map (λ (x : A). x ∷ []) xs)
singles-at [] cell some = absurd (omega (arith, some))
singles-at (x ∷ xs) zero some = refl
singles-at (x ∷ xs) (suc cell) some = singles-at xs cell (omega (arith, some))

module _ {A : Type 0} (columns : List A) where
  cells-at : (from : ℕ) (keys : List FormatKey) (cell : ℕ) → AreCells from keys → columns_behind from keys ≤ length columns
      → cell < length keys + (length columns - columns_behind from keys)
      → drop cell (by_cells from keys (drop from columns))
      ≡ slice_range columns (start_behind from keys cell) (end_behind from keys cell) ∷ drop (suc cell) (by_cells from keys (drop from columns))
  cells-at from [] cell cells short some =
      let rest = drop (suc cell) (map (λ (x : A). x ∷ []) (drop from columns)) in
      let few : cell < length (drop from columns) = omega (arith, some, length-drop from columns) in
      let one : 1 ≡ from + (cell + 1) - (from + cell) = omega arith in
      singles-at (drop from columns) cell few
      ∙ ap (λ (xs : List A). take 1 xs ∷ rest) (drop-drop cell from columns)
      ∙ ap (λ (n : ℕ). take n (drop (from + cell) columns) ∷ rest) one
      ∙ ap (λ (n : ℕ). slice_range columns n (from + (cell + 1)) ∷ rest) (sym (start_behind-none from cell))
  cells-at from (k ∷ keys) zero cells short some = refl
  cells-at from (k ∷ keys) (suc cell) cells short some =
      let end : from + (k.end - from) ≡ k.end = omega (arith, cells.0) in
      let next : drop (k.end - from) (drop from columns) ≡ drop k.end columns =
      drop-drop (k.end - from) from columns ∙ ap (λ (n : ℕ). drop n columns) end in
      let last = end_behind k.end keys cell in
      ap (λ (xs : List A). drop cell (by_cells k.end keys xs)) next
      ∙ cells-at k.end keys cell cells.1 short (omega (arith, some))
      ∙ ap (λ (xs : List A). slice_range columns (start_behind k.end keys cell) last ∷ drop (suc cell) (by_cells k.end keys xs)) (sym next)
      ∙ ap (λ (n : ℕ). slice_range columns n last ∷ drop (suc cell) (by_cells k.end keys (drop (k.end - from) (drop from columns)))) (sym (start_behind-next from k keys cell))

  pub by_cells-at : (keys : List FormatKey) (cell : ℕ) → AreCells 0 keys → columns_of_keys keys ≤ length columns → cell < cell_count keys (length columns)
      → drop cell (by_cells 0 keys columns) ≡ slice_range columns (start_of keys cell) (end_of keys cell) ∷ drop (suc cell) (by_cells 0 keys columns)
  by_cells-at keys cell cells short some =
      let all = columns_of-behind keys in
      let rest = drop (suc cell) (by_cells 0 keys columns) in
      cells-at 0 keys cell cells (omega (arith, all, short)) (omega (arith, all, some))
      ∙ ap (λ (n : ℕ). slice_range columns n (end_behind 0 keys cell) ∷ rest) (sym (start_of-behind keys cell))
      ∙ ap (λ (n : ℕ). slice_range columns (start_of keys cell) n ∷ rest) (sym (end_of-behind keys cell))
