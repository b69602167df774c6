-- What counts of the keys of a format, byte by byte.
use Rattle.std.proofs.Common.{◌≡◌, ℕ, zero, suc, ◌+◌, ◌<◌, ◌≤◌, max, Bool, true, false, List, [], ◌∷◌, length, replicate, nat_lt, refl, sym, ap, subst, ◌∙◌, arith, if◌then◌else◌}
use Rattle.std.proofs.lemmas.Bool.Decides.{nat_tests}
use Rattle.std.proofs.lemmas.List.{length-replicate}
use Rattle.tbl_format.specs.Format.{Format, FormatRow, asking, asking_for_bars, at_fault, columns_of_keys, fault_if, has_some, most_bars, nothing_asked, plain_key, with_any_key, with_asked, with_bar, with_columns, with_last}
use Rattle.tbl_format.specs.KeyCounts.{Counts}
use Rattle.tbl_format.specs.declared.format.Asked.{Asked}
use Rattle.tbl_format.specs.declared.format.FormatKey.{FormatKey}
use Rattle.tbl_format.specs.declared.format.FormatPlace.TheVariants.{AtFault}
use Rattle.tbl_format.specs.declared.format.Key.{Key}
use Rattle.tbl_format.specs.declared.format.Key.TheVariants.{Left}
use Rattle.tbl_format.specs.declared.key_count.KeyCount.{KeyCount}
use Rattle.tbl_format.proofs.KeysWith.{columns_of-kept, columns_of-with, has_some-last_changed, has_some-with}

-- a list has an element by how many it has
pub has_some-long : {A : Type 0} (xs : List A) → 0 < length xs → has_some xs ≡ true
has_some-long [] some = absurd (omega (arith, some))
has_some-long (x ∷ xs) some = refl

pub has_some-none : {A : Type 0} (xs : List A) → length xs ≤ 0 → has_some xs ≡ false
has_some-none [] none = refl
has_some-none (x ∷ xs) none = absurd (omega (arith, none))

-- what is asked makes no column
pub length-asking : (change : Asked → Asked) (columns : ℕ) (asked : List Asked) → length (asking change columns asked) ≡ length asked
length-asking change zero asked = refl
length-asking change (suc columns) [] = refl
length-asking change (suc zero) (a ∷ asked) = refl
length-asking change (suc (suc columns)) (a ∷ asked) = ap (λ (len : ℕ). suc len) (length-asking change (suc columns) asked)

-- a column behind so many others
pub length-with_columns : (asked : List Asked) (count : ℕ) → count ≤ length asked
    → length (with_columns asked count) ≡ max (length asked) (count + 1)
length-with_columns [] count few = omega (arith, few)
length-with_columns (a ∷ asked) zero few = omega arith
length-with_columns (a ∷ asked) (suc count) few = omega (arith, length-with_columns asked count (omega (arith, few)))

-- it counts a fault
pub Counts-fault : (t : Bool) (f : Format) (c : KeyCount) → Counts f c
    → Counts (fault_if t f) (if t then record c { place = AtFault } else c)
Counts-fault true f c counts = record {
  place = refl;
  is_further = counts.is_further;
  has_row = counts.has_row;
  begun = counts.begun;
  row = counts.row;
  bars = counts.bars;
  columns = counts.columns;
}
Counts-fault false f c counts = counts

-- a key
pub Counts-key : (f : Format) (c : KeyCount) (key : Key) (most : ℕ) → c.row ≤ c.columns → most ≡ max c.columns (c.row + 1) → Counts f c
    → Counts (with_any_key key f)
    (record c { row = c.row + 1; bars = 0; columns = most })
Counts-key f c key most few most_is counts =
    let some : nat_lt 0 (c.row + 1) ≡ true = grind (arith, nat_tests) in
    record {
      place = counts.place;
      is_further = counts.is_further;
      has_row = counts.has_row;
      begun = has_some-with key f.bars f.row ∙ sym some;
      row = omega (arith, counts.row, columns_of-with key f.bars f.row);
      bars = refl;
      columns = omega (arith, most_is, counts.row, counts.columns, length-with_columns f.asked (columns_of_keys f.row) (omega (arith, few, counts.row, counts.columns)));
    }

-- what is asked of a column, or said of a key
pub counts_asked : (change : Asked → Asked) (f : Format) (c : KeyCount) → Counts f c → Counts (with_asked change f) c
counts_asked change f c counts = record {
  place = counts.place;
  is_further = counts.is_further;
  has_row = counts.has_row;
  begun = counts.begun;
  row = counts.row;
  bars = counts.bars;
  columns = length-asking change (columns_of_keys f.row) f.asked ∙ counts.columns;
}

pub counts_said : (change : FormatKey → FormatKey) → ((k : FormatKey) → (change k).end ≡ k.end) → (f : Format) (c : KeyCount)
    → Counts f c → Counts (with_last change f) c
counts_said change same f c counts = record {
  place = counts.place;
  is_further = counts.is_further;
  has_row = counts.has_row;
  begun = has_some-last_changed change f.row ∙ counts.begun;
  row = columns_of-kept change same f.row ∙ counts.row;
  bars = counts.bars;
  columns = counts.columns;
}

-- a bar, and what it asks for
by-asking : (t : Bool) (f : Format) (c : KeyCount) → Counts f c
    → Counts (if t then with_asked (most_bars f.bars) f else record f { front = max f.front f.bars }) c
by-asking true f c counts = counts_asked (most_bars f.bars) f c counts
by-asking false f c counts = record {
  place = counts.place;
  is_further = counts.is_further;
  has_row = counts.has_row;
  begun = counts.begun;
  row = counts.row;
  bars = counts.bars;
  columns = counts.columns;
}

by-bar : (t : Bool) (f : Format) (c : KeyCount) → Counts f c
    → Counts (if t then asking_for_bars (record f { bars = f.bars + 1 }) else at_fault f) (if t then record c { bars = c.bars + 1 } else record c { place = AtFault })
by-bar true f c counts = by-asking (has_some f.row) (record f { bars = f.bars + 1 }) (record c { bars = c.bars + 1 }) (record {
  place = counts.place;
  is_further = counts.is_further;
  has_row = counts.has_row;
  begun = counts.begun;
  row = counts.row;
  bars = omega (arith, counts.bars);
  columns = counts.columns;
})
by-bar false f c counts = Counts-fault true f c counts

pub Counts-bar : (f : Format) (c : KeyCount) (t : Bool) → nat_lt c.bars 2 ≡ t → Counts f c
    → Counts (with_bar f) (if t then record c { bars = c.bars + 1 } else record c { place = AtFault })
Counts-bar f c t is counts =
    let same : nat_lt f.bars 2 ≡ t = ap (λ (n : ℕ). nat_lt n 2) counts.bars ∙ is in
    subst (λ (u : Bool). Counts (if u then asking_for_bars (record f { bars = f.bars + 1 }) else at_fault f) (if t then record c { bars = c.bars + 1 } else record c { place = AtFault }))
    (sym same) (by-bar t f c counts)

-- some format that has these counts
abbrev some_rows : Bool → List FormatRow
some_rows true = record { keys = []; bars = 0 } ∷ []
some_rows false = []

has_some-rows : (t : Bool) → has_some (some_rows t) ≡ t
has_some-rows true = refl
has_some-rows false = refl

-- and some keys that have so many columns
abbrev some_keys : ℕ → List FormatKey
some_keys zero = []
some_keys (suc columns) = plain_key 0 Left columns ∷ []

has_some-keys : (columns : ℕ) → has_some (some_keys columns) ≡ nat_lt 0 columns
has_some-keys zero = let test : nat_lt 0 0 ≡ false = grind (arith, nat_tests) in sym test
has_some-keys (suc columns) = let test : nat_lt 0 (suc columns) ≡ true = grind (arith, nat_tests) in sym test

columns_of-keys : (columns : ℕ) → columns_of_keys (some_keys columns) ≡ columns
columns_of-keys zero = refl
columns_of-keys (suc columns) = omega arith

abbrev pub counted : KeyCount → Format
counted c = record {
  earlier = some_rows c.is_further;
  rows = some_rows c.has_row;
  row = some_keys c.row;
  bars = c.bars;
  asked = replicate c.columns nothing_asked;
  front = 0;
  place = c.place;
}

pub counted-is : (c : KeyCount) → Counts (counted c) c
counted-is c = record {
  place = refl;
  is_further = has_some-rows c.is_further;
  has_row = has_some-rows c.has_row;
  begun = has_some-keys c.row;
  row = columns_of-keys c.row;
  bars = refl;
  columns = length-replicate c.columns nothing_asked;
}
