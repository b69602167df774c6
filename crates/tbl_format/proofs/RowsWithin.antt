-- Rows whose cells have no more columns than the table.
use Rattle.std.proofs.Common.{◌≡◌, ℕ, ◌+◌, ◌<◌, ◌≤◌, true, false, nat_lt, List, [], ◌∷◌, ◌++◌, length, drop, refl, sym, ap, subst, ◌∙◌, arith}
use Rattle.std.proofs.lemmas.Bool.Decides.{nat_tests}
use Rattle.std.specs.List.{AllByRecursion, slice_range}
use Rattle.tbl_format.specs.Cells.{AreCells}
use Rattle.tbl_format.specs.Format.{columns_of_keys, has_some, last_changed, said_by, widened}
use Rattle.tbl_format.specs.FormatRows.{AreWithin}
use Rattle.roff_num.specs.Lists.{last_end, parts_ending}
use Rattle.tbl_format.specs.declared.format.FormatKey.{FormatKey}
use Rattle.tbl_format.specs.declared.format_step.Does.{Does}
use Rattle.tbl_format.specs.declared.format_step.Does.TheVariants.{AddBar, AddKey, DropWidth, EndFormat, EndRow, Equalize, LeaveOut, Nothing, Separate, Stand, Widen}
use Rattle.tbl_format.proofs.Elements.{each-append, each-at}
use Rattle.tbl_format.proofs.KeysWith.{cells-append, cells-changed, cells-kept, columns-some, columns_of-append, columns_of-changed, columns_of-kept, has_some-columns}
use Rattle.tbl_format.proofs.Parts.{PartRead, part-read, parts_ending-append, slice_range-rest}

-- a table with more columns
pub within-more : (few many : ℕ) (keys : List FormatKey) → few ≤ many → AreWithin few keys → AreWithin many keys
within-more few many keys le within = record { cells = within.cells; short = omega (arith, le, within.short) }

pub all-more : (few many : ℕ) (rows : List (List FormatKey)) → few ≤ many → AllByRecursion (AreWithin few) rows → AllByRecursion (AreWithin many) rows
all-more few many [] le within = tt
all-more few many (keys ∷ rows) le within = (within-more few many keys le within.0, all-more few many rows le within.1)

-- no key, a key that is said something of, a wider cell, and a cell more
pub within-none : (columns : ℕ) → AreWithin columns []
within-none columns = record { cells = tt; short = omega arith }

pub within-said : (change : FormatKey → FormatKey) → ((k : FormatKey) → (change k).end ≡ k.end) → (columns : ℕ) (keys : List FormatKey)
    → AreWithin columns keys → AreWithin columns (last_changed change keys)
within-said change same columns keys within = record {
  cells = cells-kept change same keys within.cells;
  short = omega (arith, within.short, columns_of-kept change same keys);
}

pub within-wide : (columns : ℕ) (keys : List FormatKey) → 0 < columns_of_keys keys → columns_of_keys keys < columns → AreWithin columns keys
    → AreWithin columns (last_changed widened keys)
within-wide columns keys some more within = record {
  cells = cells-changed widened 1 (λ k. refl) keys within.cells;
  short = omega (arith, more, columns_of-changed widened 1 (λ k. refl) keys (has_some-columns keys some));
}

pub within-append : (columns : ℕ) (keys : List FormatKey) (k : FormatKey) → columns_of_keys keys < k.end → k.end ≤ columns → AreWithin columns keys
    → AreWithin columns (keys ++ k ∷ [])
within-append columns keys k more short within = record {
  cells = cells-append keys k more within.cells;
  short = omega (arith, short, columns_of-append keys k);
}

-- what is said of a key changes no column
pub said_by-end : (does : Does) (k : FormatKey) → (said_by does k).end ≡ k.end
said_by-end Nothing k = refl
said_by-end (AddKey key) k = refl
said_by-end AddBar k = refl
said_by-end (Separate n) k = refl
said_by-end (Widen n) k = refl
said_by-end Equalize k = refl
said_by-end DropWidth k = refl
said_by-end (Stand standing) k = refl
said_by-end (LeaveOut letter) k = refl
said_by-end EndRow k = refl
said_by-end EndFormat k = refl

-- whether a row is begun, by its columns
pub has_some-begun : (keys : List FormatKey) (columns : ℕ) → AreCells 0 keys → columns ≡ columns_of_keys keys → has_some keys ≡ nat_lt 0 columns
has_some-begun [] columns cells is = let test : nat_lt 0 columns ≡ false = grind (arith, nat_tests) in sym test
has_some-begun (k ∷ keys) columns cells is =
    let some : 0 < columns = omega (arith, is, columns-some (k ∷ keys) cells refl) in
    let test : nat_lt 0 columns ≡ true = grind (arith, nat_tests) in
    sym test

module _ (columns : ℕ) (keys : List FormatKey) (ends : List ℕ) where
  -- the row begun is whole
  pub all-append : AreWithin columns (drop (last_end 0 ends) keys) → AllByRecursion (AreWithin columns) (parts_ending keys 0 ends)
      → AllByRecursion (AreWithin columns) (parts_ending keys 0 (ends ++ length keys ∷ []))
  all-append row whole =
      subst (AllByRecursion (AreWithin columns))
      (sym (parts_ending-append keys 0 (length keys) ends
      ∙ ap (λ (part : List FormatKey). parts_ending keys 0 ends ++ part ∷ []) (slice_range-rest keys (last_end 0 ends))))
      (each-append (AreWithin columns) (parts_ending keys 0 ends) (drop (last_end 0 ends) keys ∷ []) whole (row, tt))

  -- one of the rows
  pub all-read : {at start end : ℕ} → PartRead ends at start end → AllByRecursion (AreWithin columns) (parts_ending keys 0 ends) → AreWithin columns (slice_range keys start end)
  all-read {at} {start} {end} read whole =
      each-at (AreWithin columns) (parts_ending keys 0 ends) at (slice_range keys start end) (drop (at + 1) (parts_ending keys 0 ends)) whole
      (part-read keys read)
