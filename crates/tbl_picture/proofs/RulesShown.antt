-- How many bars are seen through rows of rule keys, by how many keys these have.
use Rattle.std.proofs.Common.{◌≡◌, ℕ, suc, ◌≤◌, max, Bool, true, false, List, [], ◌∷◌, length, Option, Some, None, refl, sym, ap, ◌∙◌, arith, if◌then◌else◌, nat_lt, le-ltb, lt-ltb, ltb-false, ltb-true}
use Rattle.tbl_format.specs.Format.{FormatRow}
use Rattle.tbl_options.specs.declared.options.Boxing.{Boxing}
use Rattle.tbl_layout.specs.Widths.{inner_bars}
use Rattle.tbl_lines.specs.PictureLines.{Neighbour, OfRules, bars_between, behind_rules, rules_behind, shown_behind}
use Rattle.tbl_lines.proofs.RulesMet.{few-bars}
use Rattle.tbl_picture.specs.RulesWalked.{AreLengths, LengthsAre, ShownThrough, longest, shown_through}
use Rattle.tbl_picture.specs.declared.walk.beside.Lengths.{Lengths}

-- a column is in front of the longer of two
less-by : (t : Bool) (a b column : ℕ) → nat_lt column b ≡ t → a ≤ column → nat_lt column (max a b) ≡ t
less-by true a b column is behind = lt-ltb column (max a b) (omega (arith, ltb-true column b is))
less-by false a b column is behind = le-ltb column (max a b) (omega (arith, ltb-false column b is, behind))

less-of : (a b column : ℕ) → a ≤ column → nat_lt column (max a b) ≡ nat_lt column b
less-of a b column behind = less-by (nat_lt column b) a b column refl behind

module _ (boxing : Boxing) (column : ℕ) where
  -- the bars that a box has between columns
  abbrev pub inner : ℕ
  inner = inner_bars boxing 0

  -- what a line shows behind some that are as long, at the least
  abbrev under : ℕ → ℕ → ℕ
  under long shown = if nat_lt column long then inner else max inner shown

  -- a row of rule keys has no bars of its own behind its keys
  pub own-bars : (f : FormatRow) → length f.keys ≤ column → bars_between boxing f (suc column) ≡ inner
  own-bars f behind = ap (inner_bars boxing) (few-bars f.keys f.bars (suc column) (omega (arith, behind)))

  one-by : (t : Bool) (f : FormatRow) (shown : ℕ) → nat_lt column (length f.keys) ≡ t
      → (if rules_behind f column then 0 else max (bars_between boxing f (suc column)) shown)
      ≡ (if nat_lt column (length f.keys) then 0 else max inner shown)
  one-by true f shown is =
      ap (λ (t : Bool). if t then 0 else max (bars_between boxing f (suc column)) shown) is ∙ sym (ap (λ (t : Bool). if t then 0 else max inner shown) is)
  one-by false f shown is =
      ap (λ (n : ℕ). if nat_lt column (length f.keys) then 0 else max n shown) (own-bars f (ltb-false column (length f.keys) is))

  -- what a line shows behind one
  pub one-shown : (f : FormatRow) (seen : Neighbour)
      → shown_behind boxing (OfRules f seen) column ≡ (if nat_lt column (length f.keys) then 0 else max inner (shown_behind boxing seen column))
  one-shown f seen = one-by (nat_lt column (length f.keys)) f (shown_behind boxing seen column) refl

  again : (t : Bool) (shown : ℕ) → max inner (if t then inner else max inner shown) ≡ (if t then inner else max inner shown)
  again true shown = omega arith
  again false shown = omega arith

  -- and behind one more
  more-by : (t : Bool) (keys long shown : ℕ) → nat_lt column keys ≡ t
      → max inner (if nat_lt column keys then 0 else under long shown) ≡ under (max keys long) shown
  more-by true keys long shown is =
      let none : max inner 0 ≡ inner = omega arith in
      ap (λ (t : Bool). max inner (if t then 0 else under long shown)) is
      ∙ none
      ∙ sym (ap (λ (t : Bool). if t then inner else max inner shown) (lt-ltb column (max keys long) (omega (arith, ltb-true column keys is))))
  more-by false keys long shown is =
      ap (λ (t : Bool). max inner (if t then 0 else under long shown)) is
      ∙ again (nat_lt column long) shown
      ∙ sym (ap (λ (t : Bool). if t then inner else max inner shown) (less-of keys long column (ltb-false column keys is)))

  -- a line behind rows of rule keys, beside the bars of a box
  rules-under : (formats : List FormatRow) (line : Neighbour)
      → max inner (shown_behind boxing (behind_rules formats line) column) ≡ under (longest formats) (shown_behind boxing line column)
  rules-under [] line = sym (ap (λ (t : Bool). if t then inner else max inner (shown_behind boxing line column)) (le-ltb column 0 (omega arith)))
  rules-under (f ∷ formats) line =
      let seen = behind_rules formats line in
      let shown = shown_behind boxing line column in
      ap (max inner) (one-shown f seen)
      ∙ ap (λ (n : ℕ). max inner (if nat_lt column (length f.keys) then 0 else n)) (rules-under formats line)
      ∙ more-by (nat_lt column (length f.keys)) (length f.keys) (longest formats) shown refl

  nearest-by : (t : Bool) (keys long shown : ℕ) → nat_lt column keys ≡ t
      → (if nat_lt column keys then 0 else under long shown) ≡ (if nat_lt column keys then 0 else under (max keys long) shown)
  nearest-by true keys long shown is =
      ap (λ (t : Bool). if t then 0 else under long shown) is ∙ sym (ap (λ (t : Bool). if t then 0 else under (max keys long) shown) is)
  nearest-by false keys long shown is =
      ap (λ (t : Bool). if nat_lt column keys then 0 else (if t then inner else max inner shown)) (sym (less-of keys long column (ltb-false column keys is)))

  some-shown : (f : FormatRow) (formats : List FormatRow) (line : Neighbour)
      → shown_behind boxing (behind_rules (f ∷ formats) line) column
      ≡ (if nat_lt column (length f.keys) then 0 else under (longest (f ∷ formats)) (shown_behind boxing line column))
  some-shown f formats line =
      one-shown f (behind_rules formats line)
      ∙ ap (λ (n : ℕ). if nat_lt column (length f.keys) then 0 else n) (rules-under formats line)
      ∙ nearest-by (nat_lt column (length f.keys)) (length f.keys) (longest formats) (shown_behind boxing line column) refl

  lengths-shown : (formats : List FormatRow) (lengths : Lengths) (line : Neighbour) → AreLengths formats lengths
      → shown_behind boxing (behind_rules formats line) column ≡ shown_through boxing (Some lengths) column (shown_behind boxing line column)
  lengths-shown [] lengths line are = absurd (omega (arith, are.some))
  lengths-shown (f ∷ formats) lengths line are =
      let shown = shown_behind boxing line column in
      some-shown f formats line
      ∙ ap (λ (n : ℕ). if nat_lt column n then 0 else under (longest (f ∷ formats)) shown) (sym are.nearest)
      ∙ ap (λ (n : ℕ). if nat_lt column lengths.nearest then 0 else under n shown) (sym are.longest)

  -- behind rows of rule keys whose lengths are known
  pub rules-shown : (formats : List FormatRow) (lengths : Option Lengths) (line : Neighbour) → LengthsAre formats lengths
      → shown_behind boxing (behind_rules formats line) column ≡ shown_through boxing lengths column (shown_behind boxing line column)
  rules-shown formats None line are = ap (λ (fs : List FormatRow). shown_behind boxing (behind_rules fs line) column) are
  rules-shown formats (Some lengths) line are = lengths-shown formats lengths line are

  -- behind a row that is nearer than rows of such lengths
  nearer-by : (t : Bool) (near long shown : ℕ) → near ≤ long → nat_lt column near ≡ t
      → max inner (if nat_lt column near then 0 else under long shown) ≡ under long shown
  nearer-by true near long shown order is =
      let none : max inner 0 ≡ inner = omega arith in
      ap (λ (t : Bool). max inner (if t then 0 else under long shown)) is
      ∙ none
      ∙ sym (ap (λ (t : Bool). if t then inner else max inner shown) (lt-ltb column long (omega (arith, order, ltb-true column near is))))
  nearer-by false near long shown order is =
      ap (λ (t : Bool). max inner (if t then 0 else under long shown)) is ∙ again (nat_lt column long) shown

  above-by : (t : Bool) (keys near long shown : ℕ) → near ≤ long → nat_lt column keys ≡ t
      → (if nat_lt column keys then 0 else max inner (if nat_lt column near then 0 else under long shown))
      ≡ (if nat_lt column keys then 0 else under (max long keys) shown)
  above-by t keys near long shown order is =
      let turned : max keys long ≡ max long keys = omega arith in
      ap (λ (n : ℕ). if nat_lt column keys then 0 else n) (nearer-by (nat_lt column near) near long shown order refl)
      ∙ nearest-by t keys long shown is
      ∙ ap (λ (n : ℕ). if nat_lt column keys then 0 else under n shown) turned

  none-by : (t : Bool) (keys shown : ℕ) → nat_lt column keys ≡ t
      → (if nat_lt column keys then 0 else max inner shown) ≡ (if nat_lt column keys then 0 else under keys shown)
  none-by true keys shown is =
      ap (λ (t : Bool). if t then 0 else max inner shown) is ∙ sym (ap (λ (t : Bool). if t then 0 else under keys shown) is)
  none-by false keys shown is = ap (λ (t : Bool). if nat_lt column keys then 0 else (if t then inner else max inner shown)) (sym is)

-- rows of rule keys above a line, with one more that is nearer than they
pub rows-above : (boxing : Boxing) (line seen : Neighbour) (format : FormatRow) (lengths : Lengths) (keys at : ℕ) → length format.keys ≡ keys
    → ShownThrough boxing (Some lengths) line seen
    → ShownThrough boxing (Some (record { nearest = keys; longest = max lengths.longest keys; last = at })) line (OfRules format seen)
rows-above boxing line seen format lengths keys at is through = record {
  shown = λ column.
      let shown = shown_behind boxing line column in
      one-shown boxing column format seen
      ∙ ap (λ (n : ℕ). if nat_lt column (length format.keys) then 0 else max (inner_bars boxing 0) n) (through.shown column)
      ∙ above-by boxing column (nat_lt column (length format.keys)) (length format.keys) lengths.nearest lengths.longest shown through.order refl
      ∙ ap (λ (n : ℕ). if nat_lt column n then 0 else under boxing column (max lengths.longest n) shown) is;
  order = omega arith;
}

-- a row of rule keys above a line, where none was
pub row-above : (boxing : Boxing) (line seen : Neighbour) (format : FormatRow) (keys at : ℕ) → length format.keys ≡ keys
    → ShownThrough boxing None line seen
    → ShownThrough boxing (Some (record { nearest = keys; longest = keys; last = at })) line (OfRules format seen)
row-above boxing line seen format keys at is through = record {
  shown = λ column.
      let shown = shown_behind boxing line column in
      one-shown boxing column format seen
      ∙ ap (λ (n : ℕ). if nat_lt column (length format.keys) then 0 else max (inner_bars boxing 0) n) (through.shown column)
      ∙ none-by boxing column (nat_lt column (length format.keys)) (length format.keys) shown refl
      ∙ ap (λ (n : ℕ). if nat_lt column n then 0 else under boxing column n shown) is;
  order = omega arith;
}
