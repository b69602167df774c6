-- What stands in a row is laid out, also under keys for which it has no field; it is no more than the row has fields, or keys, and no higher.
use Rattle.std.proofs.Common.{◌≡◌, ℕ, zero, suc, ◌+◌, ◌≤◌, Bool, true, false, List, [], ◌∷◌, ◌++◌, length, map, drop, get_or, max, refl, subst, arith, length-append, length-drop, Option, Some, None}
use Rattle.tbl_format.specs.Format.{FormatRow}
use Rattle.tbl_format.specs.declared.format.FormatKey.{FormatKey}
use Rattle.tbl_layout.specs.Columns.{greatest}
use Rattle.tbl_layout.specs.Entries.{is_number, key_at}
use Rattle.tbl_layout.specs.KeptEntries.{IsLaid, all_entries, lines_by, no_entry, said_by_key, text_entry}
use Rattle.tbl_layout.specs.RuleKeys.{in_front_of, kind_of_key, under_keys}
use Rattle.tbl_layout.specs.declared.data_lines.FieldKind.{FieldKind}
use Rattle.tbl_layout.specs.declared.data_lines.FieldKind.TheVariants.{Above, Repeated, Ruled, Short, Text}
use Rattle.tbl_layout.specs.declared.entry.Entry.{Entry}
use Rattle.tbl_kept.specs.Rows.{AreLaid, height_of}

-- what stands under keys for which a row has no fields
abbrev pub under : List FormatKey → List Entry
under keys = under_keys said_by_key no_entry keys

-- an empty text is kept as what it measures
empty-text : (t : Bool) → no_entry ≡ text_entry t 0 []
empty-text true = refl
empty-text false = refl

-- all of it is laid out
module _ (bytes : List ℕ) (format : FormatRow) where
  empty-laid : (cell : ℕ) → IsLaid bytes (key_at format cell) no_entry
  empty-laid cell = record { order = omega arith; within = omega arith; is = empty-text (is_number (key_at format cell)) }

  said-laid : (kind : FieldKind) (cell : ℕ) → IsLaid bytes (key_at format cell) (said_by_key kind)
  said-laid (Ruled sign) cell = record { order = omega arith; within = omega arith }
  said-laid Short cell = record { order = omega arith; within = omega arith }
  said-laid (Repeated b) cell = record { order = omega arith; within = omega arith }
  said-laid Above cell = record { order = omega arith; within = omega arith }
  said-laid Text cell = empty-laid cell

  front-laid : (kind : Option FieldKind) (cell : ℕ) (entries : List Entry) → ((n : ℕ) → AreLaid bytes format n entries)
      → AreLaid bytes format cell (in_front_of said_by_key no_entry kind entries)
  front-laid (Some kind) cell entries laid = (said-laid kind cell, laid (suc cell))
  front-laid None cell [] laid = tt
  front-laid None cell (e ∷ entries) laid = (empty-laid cell, laid (suc cell))

  under-laid : (keys : List FormatKey) (cell : ℕ) → AreLaid bytes format cell (under keys)
  under-laid [] cell = tt
  under-laid (k ∷ keys) cell = front-laid (kind_of_key k.key) cell (under keys) (under-laid keys)

  laid-append : (cell : ℕ) (entries more : List Entry) → AreLaid bytes format cell entries
      → ((n : ℕ) → AreLaid bytes format n more) → AreLaid bytes format cell (entries ++ more)
  laid-append cell [] more laid behind = behind cell
  laid-append cell (e ∷ entries) more laid behind = (laid.0, laid-append (suc cell) entries more laid.1 behind)

  pub all-laid : (entries : List Entry) → AreLaid bytes format 0 entries → AreLaid bytes format 0 (all_entries format entries)
  all-laid entries laid = laid-append 0 entries (under (drop (length entries) format.keys)) laid (under-laid (drop (length entries) format.keys))

  -- what stands in one cell
  laid-from : (from : ℕ) (entries : List Entry) (at : ℕ) → AreLaid bytes format from entries → IsLaid bytes (key_at format (from + at)) (get_or entries at no_entry)
  laid-from from [] at laid = empty-laid (from + at)
  laid-from from (e ∷ entries) zero laid =
      let same : from ≡ from + zero = omega arith in
      subst (λ (n : ℕ). IsLaid bytes (key_at format n) e) same laid.0
  laid-from from (e ∷ entries) (suc at) laid =
      let same : suc from + at ≡ from + suc at = omega arith in
      subst (λ (n : ℕ). IsLaid bytes (key_at format n) (get_or entries at no_entry)) same (laid-from (suc from) entries at laid.1)

  pub cell-laid : (entries : List Entry) (cell : ℕ) → AreLaid bytes format 0 entries
      → IsLaid bytes (key_at format cell) (get_or (all_entries format entries) cell no_entry)
  cell-laid entries cell laid =
      let same : 0 + cell ≡ cell = omega arith in
      subst (λ (n : ℕ). IsLaid bytes (key_at format n) (get_or (all_entries format entries) cell no_entry)) same
      (laid-from 0 (all_entries format entries) cell (all-laid entries laid))

-- it is no more than the row has fields, or keys
front-short : (kind : Option FieldKind) (entries : List Entry) → length (in_front_of said_by_key no_entry kind entries) ≤ suc (length entries)
front-short (Some kind) entries = omega arith
front-short None [] = omega arith
front-short None (e ∷ entries) = omega arith

under-short : (keys : List FormatKey) → length (under keys) ≤ length keys
under-short [] = omega arith
under-short (k ∷ keys) = omega (arith, front-short (kind_of_key k.key) (under keys), under-short keys)

pub all-short : (format : FormatRow) (entries : List Entry) → length (all_entries format entries) ≤ max (length entries) (length format.keys)
all-short format entries =
    let keys = drop (length entries) format.keys in
    omega (arith, length-append entries (under keys), under-short keys, length-drop (length entries) format.keys)

-- and no higher than its fields
abbrev pub highest : List Entry → ℕ
highest entries = greatest (map (λ e. lines_by e.kind) entries)

said-low : (kind : FieldKind) → lines_by (said_by_key kind).kind ≤ 1
said-low (Ruled sign) = omega arith
said-low Short = omega arith
said-low (Repeated b) = omega arith
said-low Above = omega arith
said-low Text = omega arith

front-low : (kind : Option FieldKind) (entries : List Entry) → highest entries ≤ 1 → highest (in_front_of said_by_key no_entry kind entries) ≤ 1
front-low (Some kind) entries low = omega (arith, low, said-low kind)
front-low None [] low = omega arith
front-low None (e ∷ entries) low = omega (arith, low)

pub under-low : (keys : List FormatKey) → highest (under keys) ≤ 1
under-low [] = omega arith
under-low (k ∷ keys) = front-low (kind_of_key k.key) (under keys) (under-low keys)

-- the most lines of the first of them, in so many cells
abbrev pub highest_of : ℕ → List Entry → ℕ
highest_of zero entries = 0
highest_of (suc count) entries = max (lines_by (get_or entries 0 no_entry).kind) (highest_of count (drop 1 entries))

highest_of-low : (count : ℕ) (entries : List Entry) → highest entries ≤ 1 → highest_of count entries ≤ 1
highest_of-low zero entries low = omega arith
highest_of-low (suc count) [] low = omega (arith, highest_of-low count [] low)
highest_of-low (suc count) (e ∷ entries) low = omega (arith, low, highest_of-low count entries (omega (arith, low)))

pub highest_of-more : (count : ℕ) (entries more : List Entry) → length entries ≤ count → highest more ≤ 1
    → max 1 (highest_of count (entries ++ more)) ≡ max 1 (highest entries)
highest_of-more count [] more short low = omega (arith, highest_of-low count more low)
highest_of-more zero (e ∷ entries) more short low = absurd (omega (arith, short))
highest_of-more (suc count) (e ∷ entries) more short low = omega (arith, highest_of-more count entries more (omega (arith, short)) low)

low-append : (entries more : List Entry) → highest more ≤ 1 → max 1 (highest (entries ++ more)) ≡ max 1 (highest entries)
low-append [] more low = omega (arith, low)
low-append (e ∷ entries) more low = omega (arith, low-append entries more low)

pub all-high : (format : FormatRow) (entries : List Entry) → height_of (all_entries format entries) ≡ height_of entries
all-high format entries =
    let keys = drop (length entries) format.keys in low-append entries (under keys) (under-low keys)
