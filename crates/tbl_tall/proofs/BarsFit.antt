-- The bars that lines show have their places.
use Rattle.std.proofs.Common.{◌≡◌, ℕ, zero, suc, ◌+◌, ◌-◌, ◌<◌, ◌≤◌, max, nat_lt, Bool, true, false, ◌||◌, ◌==◌, List, [], ◌∷◌, ◌++◌, length, map, get_or, Option, None, Some, inl, inr, refl, sym, ap, ◌∙◌, arith, if◌then◌else◌, is_some, eq-eqb, ne_eqb}
use Rattle.std.proofs.lemmas.Bool.{cases_lt}
use Rattle.std.proofs.lemmas.Bool.Decides.{nat_tests}
use Rattle.std.proofs.lemmas.List.{length-map}
use Rattle.tbl_format.specs.Cells.{AreCells, cell_behind, cell_from}
use Rattle.tbl_format.specs.Format.{FormatRow, columns_of_keys}
use Rattle.tbl_format.specs.declared.format.FormatKey.{FormatKey}
use Rattle.tbl_format.proofs.CellColumns.{columns_behind, columns_of-behind, start_behind, start_behind-next, start_behind-none, start_of-behind, start_of-ones}
use Rattle.tbl_format.specs.FormatRows.{AreWithin}
use Rattle.tbl_format.proofs.CellsBehind.{cell_behind-found}
use Rattle.tbl_layout.specs.Widths.{edge_bars, inner_bars}
use Rattle.tbl_options.specs.declared.options.Boxing.{Boxing}
use Rattle.tbl_lines.specs.CellsLeft.{Left, all_keys, bars_at_end, keys_behind}
use Rattle.tbl_lines.specs.LinesLeft.{Beside, Nothing, OfRow, OfRules, Over, bars_at_cell, bars_in_front, first_bars, is_within, joined_here, over_at, own_bars, rules_boundary, shown_bars}
use Rattle.tbl_lines.specs.PictureLines.{OfKeys, RuleLine, Sheet, Whole, bars_of}
use Rattle.tbl_format.specs.FormatLaws.{bars_among}
use Rattle.tbl_lines.specs.RulePlaces.{HasPlaces, bars_behind}
use Rattle.tbl_tall.specs.BandLaws.{HasLinePlaces}
use Rattle.tbl_tall.specs.TallRows.{BarsFit, HaveKeys, places_at}
use Rattle.tbl_tall.proofs.CellsSpread.{first-end}

-- so many bars at an edge, or between two columns
abbrev by_edge : Bool → Boxing → ℕ → ℕ
by_edge at_edge boxing n = if at_edge then edge_bars boxing n else inner_bars boxing n

most-by : (t : Bool) (n m : ℕ) → n ≤ m → (if t then max 1 n else n) ≤ (if t then max 1 m else m)
most-by true n m few = omega (arith, few)
most-by false n m few = few

inner-few : (boxing : Boxing) (n m : ℕ) → n ≤ m → inner_bars boxing n ≤ inner_bars boxing m
inner-few boxing n m few = most-by boxing.is_inside n m few

edge-few : (t : Bool) (boxing : Boxing) (n m : ℕ) → n ≤ m → by_edge t boxing n ≤ by_edge t boxing m
edge-few true boxing n m few = omega (arith, few)
edge-few false boxing n m few = inner-few boxing n m few

not-first : (z t : Bool) (boxing : Boxing) (n m : ℕ) → z ≡ false → n ≤ m → by_edge (z || t) boxing n ≤ by_edge t boxing m
not-first true t boxing n m is few = absurd (cc)
not-first false t boxing n m is few = edge-few t boxing n m few

-- the bars that a line of rules has itself have places
pub own-fits : (s : Sheet) (line : RuleLine) (boundary : ℕ) → HasLinePlaces s line
    → own_bars s.bars.boxing (length s.columns) line boundary ≤ places_at s boundary
own-fits s (Whole sign) boundary places = omega arith
own-fits s (OfKeys format) zero places = omega (arith, places.0.left)
own-fits s (OfKeys format) (suc column) places =
    let start = start_of-ones format.keys (suc column) places.1 places.2 in
    let found = cell_behind-found format.keys (suc column) (suc column) places.1 start in
    not-first (suc column == 0) (suc column == length s.columns) s.bars.boxing (bars_of format (suc column)) (bars_behind s.columns column)
    (ne_eqb (suc column) 0 (λ is. omega (arith, is))) (places.0.behind column (suc column) found)

rules-shown : (r w : Bool) (own shown most : ℕ) → own ≤ most → shown ≤ most → (if r || w then 0 else max own shown) ≤ most
rules-shown true w own shown most few fits = omega arith
rules-shown false true own shown most few fits = omega arith
rules-shown false false own shown most few fits = omega (arith, few, fits)

pub rules-fit : (s : Sheet) (line : RuleLine) (all : List Over) (above : Beside) → HasLinePlaces s line → BarsFit s above
    → BarsFit s (OfRules line all above)
rules-fit s line all above places fits boundary few =
    rules-shown (rules_boundary (length s.columns) line all boundary) (is_within (over_at all boundary))
    (own_bars s.bars.boxing (length s.columns) line boundary) (shown_bars s.bars.boxing (length s.columns) above boundary) (places_at s boundary)
    (own-fits s line boundary places) (fits boundary few)

pub nothing-fits : (s : Sheet) → BarsFit s Nothing
nothing-fits s boundary few = omega arith

-- all keys of a row have the bars that it has there, or none
no-bars : (n own i : ℕ) → get_or (map (λ (k : FormatKey). k.bars) (keys_behind n 0 own)) i 0 ≡ 0
no-bars zero own zero = refl
no-bars zero own (suc i) = refl
no-bars (suc n) own zero = refl
no-bars (suc n) own (suc i) = no-bars n (suc own) i

all-bars : (keys : List FormatKey) (bars n own i : ℕ)
    → get_or (map (λ (k : FormatKey). k.bars) (keys ++ keys_behind n bars own)) i 0 ≤ bars_among keys bars i
all-bars [] bars zero own zero = omega arith
all-bars [] bars zero own (suc i) = omega arith
all-bars [] bars (suc n) own zero = omega arith
all-bars [] bars (suc n) own (suc i) = omega (arith, no-bars n (suc own) i)
all-bars (k ∷ keys) bars n own zero = omega arith
all-bars (k ∷ keys) bars n own (suc i) = all-bars keys bars n own i

-- behind the last key there are no bars, but for those that a row has there
past-bars : (keys : List FormatKey) (bars : ℕ) → bars_among keys bars (length keys) ≡ bars
past-bars [] bars = refl
past-bars (k ∷ keys) bars = past-bars keys bars

-- the cell that begins behind so many columns is the same, by all keys of a row, and by those that it has
abbrev none_or : Bool → ℕ → Option ℕ
none_or before cell = if before then None else Some cell

abbrev here_or : Bool → ℕ → Option ℕ → Option ℕ
here_or here cell rest = if here then Some cell else rest

one-more : (number own column : ℕ) → here_or (column == own) number (cell_from (suc number) (suc own) [] column) ≡ cell_from number own [] column
one-more number own column = elim (cases_lt column own) [
  | inl less ↦
      let here : (column == own) ≡ false = grind (arith, nat_tests) in
      let later : nat_lt column (suc own) ≡ true = grind (arith, nat_tests) in
      let before : nat_lt column own ≡ true = grind (arith, nat_tests) in
      ap (λ (t : Bool). here_or t number (cell_from (suc number) (suc own) [] column)) here
      ∙ ap (λ (t : Bool). none_or t (suc number + (column - suc own))) later
      ∙ sym (ap (λ (t : Bool). none_or t (number + (column - own))) before)
  | inr past ↦ elim (cases_lt own column) [
    | inl more ↦
        let here : (column == own) ≡ false = grind (arith, nat_tests) in
        let later : nat_lt column (suc own) ≡ false = grind (arith, nat_tests) in
        let before : nat_lt column own ≡ false = grind (arith, nat_tests) in
        let same : suc number + (column - suc own) ≡ number + (column - own) = omega (arith, more) in
        ap (λ (t : Bool). here_or t number (cell_from (suc number) (suc own) [] column)) here
        ∙ ap (λ (t : Bool). none_or t (suc number + (column - suc own))) later
        ∙ ap (λ (c : ℕ). Some c) same
        ∙ sym (ap (λ (t : Bool). none_or t (number + (column - own))) before)
    | inr few ↦
        let here : (column == own) ≡ true = grind (arith, nat_tests, past, few) in
        let before : nat_lt column own ≡ false = grind (arith, nat_tests, past) in
        let same : number ≡ number + (column - own) = omega (arith, past, few) in
        ap (λ (t : Bool). here_or t number (cell_from (suc number) (suc own) [] column)) here
        ∙ ap (λ (c : ℕ). Some c) same
        ∙ sym (ap (λ (t : Bool). none_or t (number + (column - own))) before)
  ]
]

behind-same : (n number own bars column : ℕ) → cell_from number own (keys_behind n bars own) column ≡ cell_from number own [] column
behind-same zero number own bars column = refl
behind-same (suc n) number own bars column =
    let step : own + 1 ≡ suc own = omega arith in
    ap (λ (e : ℕ). here_or (column == own) number (cell_from (suc number) e (keys_behind n 0 (suc own)) column)) step
    ∙ ap (here_or (column == own) number) (behind-same n (suc number) (suc own) 0 column)
    ∙ one-more number own column

all-same : (keys : List FormatKey) (number from own bars n column : ℕ) → columns_behind from keys ≡ own
    → cell_from number from (keys ++ keys_behind n bars own) column ≡ cell_from number from keys column
all-same [] number from own bars n column is =
    ap (λ (f : ℕ). cell_from number f (keys_behind n bars own) column) is ∙ behind-same n number own bars column
    ∙ ap (λ (f : ℕ). cell_from number f [] column) (sym is)
all-same (k ∷ keys) number from own bars n column is =
    ap (here_or (column == from) number) (all-same keys (suc number) k.end own bars n column is)

-- and by where cells end alone
ends-same : (xs ys : List FormatKey) (number from column : ℕ) → map (λ (k : FormatKey). k.end) xs ≡ map (λ (k : FormatKey). k.end) ys
    → cell_from number from xs column ≡ cell_from number from ys column
ends-same [] [] number from column same = refl
ends-same [] (y ∷ ys) number from column same = absurd (cc)
ends-same (x ∷ xs) [] number from column same = absurd (cc)
ends-same (x ∷ xs) (y ∷ ys) number from column same =
    let first : x.end ≡ y.end = cc in
    let rest : map (λ (k : FormatKey). k.end) xs ≡ map (λ (k : FormatKey). k.end) ys = cc in
    ap (λ (e : ℕ). here_or (column == from) number (cell_from (suc number) e xs column)) first
    ∙ ap (here_or (column == from) number) (ends-same xs ys (suc number) y.end column rest)

-- where a cell that is found begins
record Begins (number from : ℕ) (keys : List FormatKey) (column cell : ℕ) : Type 0 where
  pub at : ℕ
  pub is : number + at ≡ cell
  pub start : start_behind from keys at ≡ column

found-none : (before : Bool) (number from column cell : ℕ) → nat_lt column from ≡ before → none_or before (number + (column - from)) ≡ Some cell
    → Begins number from [] column cell
found-none true number from column cell is found = absurd (cc)
found-none false number from column cell is found =
    let same : number + (column - from) ≡ cell = cc in
    let past : from ≤ column = grind (arith, nat_tests, is) in
    record { at = column - from; is = same; start = omega (arith, start_behind-none from (column - from), past) }

found-more : (here : Bool) (number from column cell : ℕ) (k : FormatKey) (keys : List FormatKey) → (column == from) ≡ here
    → here_or here number (cell_from (suc number) k.end keys column) ≡ Some cell
    → (cell_from (suc number) k.end keys column ≡ Some cell → Begins (suc number) k.end keys column cell) → Begins number from (k ∷ keys) column cell
found-more true number from column cell k keys is found later =
    let same : number ≡ cell = cc in
    let at : column ≡ from = grind (arith, nat_tests, is) in
    record { at = 0; is = omega (arith, same); start = sym at }
found-more false number from column cell k keys is found later =
    let rest = later found in
    record { at = suc rest.at; is = omega (arith, rest.is); start = start_behind-next from k keys rest.at ∙ rest.start }

begins-at : (keys : List FormatKey) (number from column cell : ℕ) → cell_from number from keys column ≡ Some cell
    → Begins number from keys column cell
begins-at [] number from column cell found = found-none (nat_lt column from) number from column cell refl found
begins-at (k ∷ keys) number from column cell found =
    found-more (column == from) number from column cell k keys refl found (begins-at keys (suc number) k.end column cell)

-- a cell begins before the last column ends; and behind the last cell nothing is left of them
starts-less : (from : ℕ) (keys : List FormatKey) (at : ℕ) → AreCells from keys → at < length keys
    → start_behind from keys at < columns_behind from keys
starts-less from [] at cells few = absurd (omega (arith, few))
starts-less from (k ∷ keys) zero cells few = omega (arith, cells.0, first-end from k keys cells)
starts-less from (k ∷ keys) (suc at) cells few =
    omega (arith, start_behind-next from k keys at, starts-less k.end keys at cells.1 (omega (arith, few)))

starts-last : (from : ℕ) (keys : List FormatKey) (at : ℕ) → length keys ≤ at → start_behind from keys at ≡ columns_behind from keys +
    (at - length keys)
starts-last from [] at past = omega (arith, start_behind-none from at)
starts-last from (k ∷ keys) zero past = absurd (omega (arith, past))
starts-last from (k ∷ keys) (suc at) past = omega (arith, start_behind-next from k keys at, starts-last k.end keys at (omega (arith, past)))

-- what stands in front of a cell of a row, and behind the last
front-few : (t : Bool) (boxing : Boxing) (n : ℕ) → (if t then 0 else inner_bars boxing n) ≤ inner_bars boxing n
front-few true boxing n = omega arith
front-few false boxing n = omega arith

front-inner : (boxing : Boxing) (last : ℕ) (cells : List Left) (n : ℕ) → suc n < length cells
    → bars_in_front boxing last cells (suc n) ≤ inner_bars boxing (get_or (map (λ (c : Left). c.key.bars) cells) (suc n) 0)
front-inner boxing last [] n some = absurd (omega (arith, some))
front-inner boxing last (own ∷ []) n some = absurd (omega (arith, some))
front-inner boxing last (own ∷ next ∷ cells) zero some = front-few (is_some (joined_here own next)) boxing next.key.bars
front-inner boxing last (own ∷ next ∷ cells) (suc n) some = front-inner boxing last (next ∷ cells) n (omega (arith, some))

front-edge : (boxing : Boxing) (last : ℕ) (cells : List Left) (n : ℕ) → suc n ≡ length cells
    → bars_in_front boxing last cells (suc n) ≡ edge_bars boxing last
front-edge boxing last [] n all = absurd (omega (arith, all))
front-edge boxing last (own ∷ []) zero all = refl
front-edge boxing last (own ∷ []) (suc n) all = absurd (omega (arith, all))
front-edge boxing last (own ∷ next ∷ cells) zero all = absurd (omega (arith, all))
front-edge boxing last (own ∷ next ∷ cells) (suc n) all = front-edge boxing last (next ∷ cells) n (omega (arith, all))

first-is : (cells : List Left) → first_bars cells ≡ get_or (map (λ (c : Left). c.key.bars) cells) 0 0
first-is [] = refl
first-is (own ∷ cells) = refl

first-found : (keys : List FormatKey) → cell_behind keys 0 ≡ Some 0
first-found [] = refl
first-found (k ∷ keys) = refl

-- those of a row
module _ (s : Sheet) (format : FormatRow) (cells : List Left) (places : HasPlaces s.bars.front s.columns format)
    (keys : HaveKeys cells (all_keys (length s.columns) format)) (are : AreCells 0 (map (λ (c : Left). c.key) cells))
    (many : columns_of_keys (map (λ (c : Left). c.key) cells) ≡ length s.columns) (within : AreWithin (length s.columns) format.keys) where
  abbrev boxing : Boxing
  boxing = s.bars.boxing

  abbrev own_keys : List FormatKey
  own_keys = map (λ (c : Left). c.key) cells

  abbrev last : ℕ
  last = bars_at_end (length s.columns) format

  bars-few : (i : ℕ) → get_or (map (λ (c : Left). c.key.bars) cells) i 0 ≤ bars_of format i
  bars-few i =
      let own = columns_of_keys format.keys in
      omega (arith, ap (λ (bs : List ℕ). get_or bs i 0) keys.bars, all-bars format.keys format.bars (length s.columns - own) own i)

  ends-are : (xs : List Left) → map (λ (k : FormatKey). k.end) (map (λ (c : Left). c.key) xs) ≡ map (λ (c : Left). c.key.end) xs
  ends-are [] = refl
  ends-are (x ∷ xs) = ap (λ (es : List ℕ). x.key.end ∷ es) (ends-are xs)

  found-same : (column : ℕ) → cell_behind own_keys column ≡ cell_behind format.keys column
  found-same column =
      let own = columns_of_keys format.keys in
      ends-same own_keys (all_keys (length s.columns) format) 0 0 column (ends-are cells ∙ keys.ends)
      ∙ all-same format.keys 0 0 own format.bars (length s.columns - own) column (sym (columns_of-behind format.keys))

  last-has : (t : Bool) (column : ℕ) → nat_lt (columns_of_keys format.keys) (length s.columns) ≡ t → suc column ≡ length s.columns
      → (if t then 0 else format.bars) ≤ bars_behind s.columns column
  last-has true column less all = omega arith
  last-has false column less all =
      let more : length s.columns ≤ columns_of_keys format.keys = grind (arith, nat_tests, less) in
      let start : start_behind 0 format.keys (length format.keys) ≡ suc column
      = omega (arith, starts-last 0 format.keys (length format.keys) (omega arith), columns_of-behind format.keys, more, all, within.short) in
      let found = cell_behind-found format.keys (length format.keys) (suc column) within.cells (start_of-behind format.keys (length format.keys)
      ∙ start) in
      omega (arith, places.behind column (length format.keys) found, past-bars format.keys format.bars)

  at-edge : (column : ℕ) → suc column ≡ length s.columns → (bars : ℕ) → bars ≤ edge_bars boxing (bars_behind s.columns column)
      → bars ≤ places_at s (suc column)
  at-edge column all bars few =
      let here = eq-eqb (suc column) (length s.columns) all in
      omega (arith, few, ap (λ (t : Bool). by_edge t boxing (bars_behind s.columns column)) here)

  at-inner : (column : ℕ) → suc column < length s.columns → (bars : ℕ) → bars ≤ inner_bars boxing (bars_behind s.columns column)
      → bars ≤ places_at s (suc column)
  at-inner column less bars few =
      let here = ne_eqb (suc column) (length s.columns) (λ is. omega (arith, is, less)) in
      omega (arith, few, ap (λ (t : Bool). by_edge t boxing (bars_behind s.columns column)) here)

  fits-at : (column : ℕ) (found : Option ℕ) → suc column ≤ length s.columns → cell_behind own_keys (suc column) ≡ found
      → bars_at_cell boxing last cells found ≤ places_at s (suc column)
  fits-at column None few found = omega arith
  fits-at column (Some zero) few found =
      let begins = begins-at own_keys 0 0 (suc column) 0 found in
      let first : begins.at ≡ 0 = omega (arith, begins.is) in
      let none : 0 ≡ suc column = sym (ap (start_behind 0 own_keys) first) ∙ begins.start in
      absurd (omega (arith, none))
  fits-at column (Some (suc n)) few found =
      let begins = begins-at own_keys 0 0 (suc column) (suc n) found in
      let here : begins.at ≡ suc n = omega (arith, begins.is) in
      let start : start_behind 0 own_keys (suc n) ≡ suc column = sym (ap (start_behind 0 own_keys) here) ∙ begins.start in
      let all = columns_of-behind own_keys in
      let count : length own_keys ≡ length cells = length-map cells (λ (c : Left). c.key) in
      elim (cases_lt (suc n) (length cells)) [
        | inl some ↦
            let less : suc column < length s.columns = omega (
              arith,
              starts-less 0 own_keys (suc n) are (omega
                  (arith, some, count)),
              start,
              all,
              many,
            ) in
            at-inner column less (bars_in_front boxing last cells (suc n))
            (omega (
              arith,
              front-inner boxing last cells n some,
              inner-few boxing (get_or (map (λ (c : Left). c.key.bars) cells) (suc n) 0) (bars_behind s.columns column)
                  (omega (arith, bars-few (suc n), places.behind column (suc n) (sym (found-same (suc column)) ∙ found))),
            ))
        | inr past ↦
            let behind = starts-last 0 own_keys (suc n) (omega (arith, past, count)) in
            let edge : suc column ≡ length s.columns = omega (arith, behind, start, all, many, few) in
            let end : suc n ≡ length cells = omega (arith, behind, start, all, many, few, past, count) in
            at-edge column edge (bars_in_front boxing last cells (suc n))
            (omega (
              arith,
              front-edge boxing last cells n end,
              edge-few true boxing last (bars_behind s.columns column) (last-has (nat_lt (columns_of_keys format.keys)
                  (length s.columns)) column refl edge),
            ))
      ]

  pub row-fits : BarsFit s (OfRow cells last)
  row-fits zero few =
      omega (
        arith,
        ap (bars_at_cell boxing last cells) (first-found own_keys),
        ap (edge_bars boxing) (first-is cells),
        bars-few 0,
        places.left,
      )
  row-fits (suc column) few = fits-at column (cell_behind own_keys (suc column)) few refl
