-- The bars that a line of a row shows of which no cell goes on: by what is left of its cells, and by its fields.
use Rattle.std.proofs.Common.{◌≡◌, ℕ, zero, suc, ◌+◌, ◌-◌, ◌<◌, ◌≤◌, nat_lt, Bool, true, false, ◌&&◌, ◌==◌, List, [], ◌∷◌, ◌++◌, length, map, Option, None, Some, ◌⊎◌, inl, inr, refl, sym, ap, ◌∙◌, arith, if◌then◌else◌, length-append, is_some, eq-eqb, le-ltb, lt-ltb, ltb-false, ne_eqb}
use Rattle.std.proofs.lemmas.Bool.{cases_order}
use Rattle.tbl_format.specs.Cells.{cell_behind, cell_count, cell_from}
use Rattle.tbl_format.specs.Format.{FormatRow, columns_of_keys}
use Rattle.tbl_format.specs.FormatRows.{AreWithin}
use Rattle.tbl_format.specs.declared.format.FormatKey.{FormatKey}
use Rattle.tbl_format.proofs.CellColumns.{columns_behind, columns_of-behind}
use Rattle.tbl_format.proofs.CellsBehind.{cell_behind-found, start_of-past}
use Rattle.tbl_layout.specs.Entries.{Content, field_at}
use Rattle.tbl_layout.specs.Widths.{edge_bars, inner_bars}
use Rattle.tbl_layout.specs.declared.data_lines.RuleSign.{RuleSign}
use Rattle.tbl_options.specs.declared.options.Boxing.{Boxing}
use Rattle.tbl_lines.specs.CellsLeft.{Left, all_keys, bars_at_end, keys_behind}
use Rattle.tbl_lines.specs.LinesLeft.{OfRow as OfCells, bars_at_cell, bars_in_front, first_bars, joined_here, shown_bars}
use Rattle.tbl_lines.specs.PictureLines.{OfRow as OfFields, Sheet, bars_of, edge_of_cell, joined_sign, shown_at_edge, shown_behind, shown_in_front}
use Rattle.tbl_format.specs.FormatLaws.{bars_among}
use Rattle.tbl_lines.specs.RowsAlone.{alone_at, alone_from}
use Rattle.tbl_lines.specs.RulesAlone.{ShownAlike}
use Rattle.tbl_lines.proofs.PlainKeys.{full-bars, length-behind}
use Rattle.tbl_lines.proofs.PlainLines.{bars-last, joined-first, joined-late, keys-alone}

-- all keys of a row have the cells that its format has
past-one : (number from column : ℕ)
    → (if column == from then Some number else (if nat_lt column (suc from) then None else Some (suc number + (column - suc from))))
    ≡ (if nat_lt column from then None else Some (number + (column - from)))
past-one number from column = elim (cases_order column from) [
  | inl same ↦
      let none : number ≡ number + (column - from) = omega (arith, same) in
      ap (λ (t : Bool). if t then Some number else (if nat_lt column (suc from) then None else Some (suc number + (column - suc from))))
      (eq-eqb column from same)
      ∙ ap (λ (n : ℕ). Some n) none
      ∙ sym (ap (λ (t : Bool). if t then None else Some (number + (column - from))) (le-ltb column from (omega (arith, same))))
  | inr other ↦
      ap (λ (t : Bool). if t then Some number else (if nat_lt column (suc from) then None else Some (suc number + (column - suc from))))
      (ne_eqb column from (λ same. elim other [
        | inl less ↦ omega (arith, same, less)
        | inr more ↦ omega (arith, same, more)
      ]))
      ∙ elim other [
        | inl less ↦
            ap (λ (t : Bool). if t then None else Some (suc number + (column - suc from))) (lt-ltb column (suc from) (omega (arith, less)))
            ∙ sym (ap (λ (t : Bool). if t then None else Some (number + (column - from))) (lt-ltb column from less))
        | inr more ↦
            let one : suc number + (column - suc from) ≡ number + (column - from) = omega (arith, more) in
            ap (λ (t : Bool). if t then None else Some (suc number + (column - suc from))) (le-ltb column (suc from) (omega (arith, more)))
            ∙ ap (λ (n : ℕ). Some n) one
            ∙ sym (ap (λ (t : Bool). if t then None else Some (number + (column - from))) (le-ltb column from (omega (arith, more))))
      ]
]

none-behind : (number from m bars column : ℕ) → cell_from number from (keys_behind m bars from) column ≡ cell_from number from [] column
none-behind number from zero bars column = refl
none-behind number from (suc m) bars column =
    let next : from + 1 ≡ suc from = omega arith in
    ap (λ (end : ℕ). if column == from then Some number else cell_from (suc number) end (keys_behind m 0 (suc from)) column) next
    ∙ ap (λ (o : Option ℕ). if column == from then Some number else o) (none-behind (suc number) (suc from) m 0 column)
    ∙ past-one number from column

same-behind : (number from : ℕ) (keys : List FormatKey) (m bars column : ℕ)
    → cell_from number from (keys ++ keys_behind m bars (columns_behind from keys)) column ≡ cell_from number from keys column
same-behind number from [] m bars column = none-behind number from m bars column
same-behind number from (k ∷ keys) m bars column =
    ap (λ (o : Option ℕ). if column == from then Some number else o) (same-behind (suc number) k.end keys m bars column)

cell_behind-all : (count : ℕ) (format : FormatRow) (column : ℕ) → cell_behind (all_keys count format) column ≡ cell_behind format.keys column
cell_behind-all count format column =
    let m = count - columns_of_keys format.keys in
    ap (λ (n : ℕ). cell_behind (format.keys ++ keys_behind m format.bars n) column) (columns_of-behind format.keys)
    ∙ same-behind 0 0 format.keys m format.bars column

-- the cell that begins behind so many columns of a table is one of its row
record IsOneOf (number most n : ℕ) : Type 0 where
  least : number ≤ n
  few : n < most

found-by : (t : Bool) (number n : ℕ) (o : Option ℕ) → (if t then Some number else o) ≡ Some n → (number ≡ n) ⊎ (o ≡ Some n)
found-by true number n o is = let same : number ≡ n = cc in inl same
found-by false number n o is = inr is

found-past : (t : Bool) (n place : ℕ) → (if t then None else Some place) ≡ Some n → (t ≡ false) × (place ≡ n)
found-past true n place is = absurd cc
found-past false n place is = let same : place ≡ n = cc in (refl, same)

found-few : (count number from : ℕ) (keys : List FormatKey) (column n : ℕ) → column < count → cell_from number from keys column ≡ Some n
    → IsOneOf number (number + (length keys + (count - columns_behind from keys))) n
found-few count number from [] column n some is =
    let past = found-past (nat_lt column from) n (number + (column - from)) is in
    let later = ltb-false column from past.0 in
    record { least = omega (arith, past.1); few = omega (arith, past.1, later, some) }
found-few count number from (k ∷ keys) column n some is =
    elim (found-by (column == from) number n (cell_from (suc number) k.end keys column) is) [
      | inl same ↦ record { least = omega (arith, same); few = omega (arith, same) }
      | inr later ↦
          let next = found-few count (suc number) k.end keys column n some later in
          record { least = omega (arith, next.least); few = omega (arith, next.few) }
    ]

-- the one behind its last column is behind all of them
found-last : (count : ℕ) (keys : List FormatKey) → AreWithin count keys → cell_behind keys count ≡ Some (cell_count keys count)
found-last count keys lie =
    let n = cell_count keys count in
    cell_behind-found keys n count lie.cells (omega (arith, start_of-past keys n (omega arith), lie.short))

first-found : (keys : List FormatKey) → cell_behind keys 0 ≡ Some 0
first-found [] = refl
first-found (k ∷ keys) = refl

first-none : (keys : List FormatKey) (column : ℕ) → cell_behind keys (suc column) ≡ Some 0 → ⊥
first-none [] column is = omega (arith, (found-past (nat_lt (suc column) 0) 0 (0 + (suc column - 0)) is).1)
first-none (k ∷ keys) column is =
    let later = cell_from 1 k.end keys (suc column) in
    let past : later ≡ Some 0 = sym (ap (λ (t : Bool). if t then Some 0 else later) (ne_eqb (suc column) 0 (λ none. omega (arith, none)))) ∙ is in
    omega (arith, (found-few (suc (suc column)) 1 k.end keys (suc column) 0 (omega arith) past).least)

-- the bars that a line of cells shows
joined-some : (line : ℕ) (is_first : Bool) (k l : FormatKey) (f g : Content) → (line == 0) ≡ is_first
    → is_some (joined_here (alone_at line k f) (alone_at line l g)) ≡ (is_first && is_some (joined_sign f g))
joined-some zero is_first k l f g is =
    ap (λ (o : Option RuleSign). is_some o) (joined-first f g) ∙ ap (λ (t : Bool). t && is_some (joined_sign f g)) is
joined-some (suc line) is_first k l f g is =
    ap (λ (o : Option RuleSign). is_some o) (joined-late line k f (alone_at (suc line) l g))
    ∙ ap (λ (t : Bool). t && is_some (joined_sign f g)) (sym (ne_eqb (suc line) 0 (λ none. omega (arith, none))) ∙ is)

module _ (boxing : Boxing) (last line : ℕ) (is_first : Bool) (is : (line == 0) ≡ is_first) (fields : List Content) where
  abbrev cells : ℕ → List FormatKey → List Left
  cells from keys = alone_from line from keys fields

  in-front : (from : ℕ) (keys : List FormatKey) (cell at : ℕ) → at ≡ from + cell → suc cell < length keys
      → bars_in_front boxing last (cells from keys) (suc cell)
      ≡ (if is_first && is_some (joined_sign (field_at fields at) (field_at fields (suc at))) then 0
      else inner_bars boxing (bars_among keys last (suc cell)))
  in-front from [] cell at place few = absurd (omega (arith, few))
  in-front from (k ∷ []) cell at place few = absurd (omega (arith, few))
  in-front from (k ∷ l ∷ keys) zero at place few =
      let here : from ≡ at = omega (arith, place) in
      ap (λ (t : Bool). if t then 0 else inner_bars boxing l.bars)
      (joined-some line is_first k l (field_at fields from) (field_at fields (suc from)) is
      ∙ ap (λ (n : ℕ). is_first && is_some (joined_sign (field_at fields n) (field_at fields (suc n)))) here)
  in-front from (k ∷ l ∷ keys) (suc cell) at place few =
      in-front (suc from) (l ∷ keys) cell at (omega (arith, place)) (omega (arith, few))

  in-last : (from : ℕ) (keys : List FormatKey) → 0 < length keys → bars_in_front boxing last (cells from keys) (length keys) ≡ edge_bars boxing last
  in-last from [] some = absurd (omega (arith, some))
  in-last from (k ∷ []) some = refl
  in-last from (k ∷ l ∷ keys) some = in-last (suc from) (l ∷ keys) (omega arith)

  in-first : (from : ℕ) (keys : List FormatKey) → 0 < length keys → first_bars (cells from keys) ≡ bars_among keys last 0
  in-first from [] some = absurd (omega (arith, some))
  in-first from (k ∷ keys) some = refl

some-keys : (keys : List FormatKey) (count : ℕ) → 0 < count → 0 < cell_count keys count
some-keys [] count some = omega (arith, some)
some-keys (k ∷ keys) count some = omega arith

-- a line of a row shows as many bars by its fields
module _ (s : Sheet) (format : FormatRow) (fields : List Content) (lie : AreWithin (length s.columns) format.keys) (some : 0 < length s.columns)
    (line : ℕ) (is_first : Bool) (is : (line == 0) ≡ is_first) where
  abbrev boxing : Boxing
  boxing = s.bars.boxing

  abbrev count : ℕ
  count = length s.columns

  abbrev keys : List FormatKey
  keys = all_keys count format

  abbrev last : ℕ
  last = bars_at_end count format

  abbrev own : List Left
  own = alone_from line 0 keys fields

  bars-same : (cell : ℕ) → bars_among keys last cell ≡ bars_of format cell
  bars-same cell = full-bars s format fields lie some cell

  many : length keys ≡ cell_count format.keys count
  many =
      let m = count - columns_of_keys format.keys in
      length-append format.keys (keys_behind m format.bars (columns_of_keys format.keys))
      ∙ ap (λ (n : ℕ). length format.keys + n) (length-behind m format.bars (columns_of_keys format.keys))

  has-keys : 0 < length keys
  has-keys = omega (arith, many, some-keys format.keys count some)

  found : (column : ℕ) → cell_behind (map (λ c. c.key) own) column ≡ cell_behind format.keys column
  found column = ap (λ (ks : List FormatKey). cell_behind ks column) (keys-alone line 0 keys fields) ∙ cell_behind-all count format column

  shown-left : shown_bars boxing count (OfCells own last) 0 ≡ shown_at_edge boxing (OfFields is_first format fields) 0
  shown-left =
      ap (bars_at_cell boxing last own) (found 0 ∙ first-found format.keys)
      ∙ ap (edge_bars boxing) (in-first boxing last line is_first is fields 0 keys has-keys ∙ bars-same 0)
      ∙ sym (ap (edge_of_cell boxing format) (first-found format.keys))

  shown-right : shown_bars boxing count (OfCells own last) count ≡ shown_at_edge boxing (OfFields is_first format fields) count
  shown-right =
      let at = found-last count format.keys lie in
      let behind : bars_of format (cell_count format.keys count) ≡ last =
      ap (bars_of format) (sym many) ∙ sym (bars-same (length keys)) ∙ bars-last keys last in
      ap (bars_at_cell boxing last own) (found count ∙ at)
      ∙ ap (λ (n : ℕ). bars_in_front boxing last own n) (sym many)
      ∙ in-last boxing last line is_first is fields 0 keys has-keys
      ∙ ap (edge_bars boxing) (sym behind)
      ∙ sym (ap (edge_of_cell boxing format) at)

  shown-by : (o : Option ℕ) (column : ℕ) → suc column < count → cell_behind format.keys (suc column) ≡ o
      → bars_at_cell boxing last own o ≡ shown_in_front boxing is_first format fields o
  shown-by None column inner is_at = refl
  shown-by (Some zero) column inner is_at = absurd (first-none format.keys column is_at)
  shown-by (Some (suc cell)) column inner is_at =
      let one = found-few count 0 0 format.keys (suc column) (suc cell) inner is_at in
      let few : suc cell < length keys = omega (arith, one.few, many, columns_of-behind format.keys) in
      in-front boxing last line is_first is fields 0 keys cell cell (omega arith) few
      ∙ ap (λ (n : ℕ). if is_first && is_some (joined_sign (field_at fields cell) (field_at fields (suc cell))) then 0 else inner_bars boxing n)
      (bars-same (suc cell))

  shown-inner : (column : ℕ) → suc column < count
      → shown_bars boxing count (OfCells own last) (suc column) ≡ shown_behind boxing (OfFields is_first format fields) column
  shown-inner column inner =
      ap (bars_at_cell boxing last own) (found (suc column)) ∙ shown-by (cell_behind format.keys (suc column)) column inner refl

  pub row-alike : ShownAlike boxing count (OfCells own last) (OfFields is_first format fields)
  row-alike = record { left = shown-left; right = shown-right; inner = shown-inner }
