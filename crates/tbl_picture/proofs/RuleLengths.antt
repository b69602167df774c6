-- How many keys rows of rule keys have that stand one after another: the nearest, and the longest of them.
use Rattle.std.proofs.Common.{◌≡◌, ℕ, zero, suc, ◌+◌, ◌-◌, ◌≤◌, ◌<◌, max, Bool, true, false, List, [], ◌∷◌, length, drop, take, Some, refl, sym, ap, ◌∙◌, arith, if◌then◌else◌, nat_lt, ltb-false, ltb-true, get_or-drop, length-drop, length-take}
use Rattle.std.proofs.lemmas.List.{drop_more}
use Rattle.tbl_format.specs.Format.{FormatRow}
use Rattle.tbl_format.specs.RowsServed.{no_keys, row_at}
use Rattle.tbl_options.specs.declared.options.Boxing.{Boxing}
use Rattle.tbl_kept.specs.Rows.{Command, KeptElement, Row, Rule}
use Rattle.tbl_lines.specs.PictureLines.{Neighbour, bars_at_edge, behind_rules, shown_at_edge}
use Rattle.tbl_picture.specs.RulesWalked.{AreLengths, AreServed, LastIs, longest, nearest, rows_at, rows_of, rules_beside, rules_first, rules_first_beside, rules_of_first, with_keys}
use Rattle.tbl_picture.specs.declared.walk.beside.Beside.{Beside}
use Rattle.tbl_picture.specs.declared.walk.beside.Beside.TheVariants.{Nothing as NoRowBeside, Row as RowBeside}
use Rattle.tbl_picture.specs.declared.walk.beside.Lengths.{Lengths}

-- the rows behind some elements have rows of the formats too
pub served-drop : (formats : List FormatRow) (elements : List KeptElement) (at : ℕ) → AreServed formats elements → AreServed formats (drop at elements)
served-drop formats [] zero all = tt
served-drop formats [] (suc at) all = tt
served-drop formats (e ∷ elements) zero all = all
served-drop formats (e ∷ elements) (suc at) all = served-drop formats elements at all.1

-- the rows of rule keys in front of a row are those of its place
rows-first : (formats : List FormatRow) (elements : List KeptElement) → rows_of formats (rules_first elements) ≡ rules_of_first formats elements
rows-first formats [] = refl
rows-first formats (Row keys rules height entries ∷ elements) = refl
rows-first formats (Rule sign ∷ elements) = refl
rows-first formats (Command from to ∷ elements) = refl

pub rows-beside : (formats : List FormatRow) (elements : List KeptElement) (beside : Beside)
    → rows_of formats (rules_first_beside elements beside) ≡ rules_beside formats elements beside
rows-beside formats elements NoRowBeside = refl
rows-beside formats elements (RowBeside at) = rows-first formats (drop at elements)

-- how many keys the row at a place has
abbrev pub keys_at : List FormatRow → ℕ → ℕ
keys_at formats at = length (row_at formats at).keys

-- the longest of one row more
longest-take : (formats : List FormatRow) (n : ℕ) → n < length formats
    → longest (take (suc n) formats) ≡ max (longest (take n formats)) (keys_at formats n)
longest-take [] n within = absurd (omega (arith, within))
longest-take (f ∷ formats) zero within = omega arith
longest-take (f ∷ formats) (suc n) within =
    let inner = longest-take formats n (omega (arith, within)) in
    ap (max (length f.keys)) inner ∙ omega arith

row-drop : (formats : List FormatRow) (first n : ℕ) → row_at (drop first formats) n ≡ row_at formats (first + n)
row-drop formats first n = get_or-drop first formats n no_keys

pub longest-more : (formats : List FormatRow) (first n : ℕ) → first + n < length formats
    → longest (rows_at formats first (suc n)) ≡ max (longest (rows_at formats first n)) (keys_at formats (first + n))
longest-more formats first n within =
    longest-take (drop first formats) n (omega (arith, within, length-drop first formats))
    ∙ ap (λ (f : FormatRow). max (longest (rows_at formats first n)) (length f.keys)) (row-drop formats first n)

-- the longest of rows from one on up to a place, with the one there
longest-to : (formats : List FormatRow) (first at : ℕ) → first ≤ at → at < length formats
    → longest (rows_at formats first (at + 1 - first)) ≡ max (longest (rows_at formats first (at - first))) (keys_at formats at)
longest-to formats first at order within =
    let n = at - first in
    let more : at + 1 - first ≡ suc n = omega (arith, order) in
    let there : first + n ≡ at = omega (arith, order) in
    ap (λ (m : ℕ). longest (rows_at formats first m)) more
    ∙ longest-more formats first n (omega (arith, there, within))
    ∙ ap (λ (m : ℕ). max (longest (rows_at formats first n)) (keys_at formats m)) there

-- each row is no longer than the longest
longest-in : (formats : List FormatRow) (count n : ℕ) → n < count → n < length formats → keys_at formats n ≤ longest (take count formats)
longest-in [] count n few within = absurd (omega (arith, within))
longest-in (f ∷ formats) zero n few within = absurd (omega (arith, few))
longest-in (f ∷ formats) (suc count) zero few within = omega arith
longest-in (f ∷ formats) (suc count) (suc n) few within =
    omega (arith, longest-in formats count n (omega (arith, few)) (omega (arith, within)))

pub longest-of : (formats : List FormatRow) (first count at : ℕ) → first ≤ at → at < first + count → at < length formats
    → keys_at formats at ≤ longest (rows_at formats first count)
longest-of formats first count at behind few within =
    let n = at - first in
    let is : first + n ≡ at = omega (arith, behind) in
    let same : keys_at (drop first formats) n ≡ keys_at formats at =
    ap (λ (f : FormatRow). length f.keys) (row-drop formats first n ∙ ap (row_at formats) is) in
    omega (
      arith,
      same,
      longest-in (drop first formats) count n (omega (arith, behind, few)) (omega (arith, behind, within, length-drop first formats)),
    )

-- so many rows from one on: that one, and the others
pub rows-suc : (formats : List FormatRow) (first count : ℕ) → first < length formats
    → rows_at formats first (suc count) ≡ row_at formats first ∷ rows_at formats (first + 1) count
rows-suc formats first count within = ap (take (suc count)) (drop_more formats first no_keys within)

-- some rows are there, and the nearest is the first
pub some-rows : (formats : List FormatRow) (first count : ℕ) → 0 < count → first + count ≤ length formats → 0 < length (rows_at formats first count)
some-rows formats first count some within = omega (arith, some, within, length-take count (drop first formats), length-drop first formats)

nearest-first : (formats : List FormatRow) (first count : ℕ) → 0 < count → first < length formats
    → keys_at formats first ≡ nearest (rows_at formats first count)
nearest-first formats first zero some within = absurd (omega (arith, some))
nearest-first formats first (suc count) some within = sym (ap nearest (rows-suc formats first count within))

-- the lengths of rows, by those of the first and of the longest
pub are-lengths : (formats : List FormatRow) (first count : ℕ) (lengths : Lengths) → 0 < count → first + count ≤ length formats
    → lengths.nearest ≡ keys_at formats first → lengths.longest ≡ longest (rows_at formats first count)
    → AreLengths (rows_at formats first count) lengths
are-lengths formats first count lengths some within near long = record {
  some = some-rows formats first count some within;
  nearest = near ∙ nearest-first formats first count some (omega (arith, some, within));
  longest = long;
}

-- the lengths of rows up to a place
pub record LengthsTo (formats : List FormatRow) (first count at : ℕ) (lengths : Lengths) : Type 0 where
  pub nearest : lengths.nearest ≡ keys_at formats first
  pub longest : lengths.longest ≡ max (keys_at formats first) (longest (rows_at formats first (at - first)))
  pub behind : first ≤ lengths.last
  pub within : lengths.last < first + count
  pub last : keys_at formats lengths.last ≡ lengths.longest
  pub order : first ≤ at

pub lengths-begun : (formats : List FormatRow) (first count : ℕ) (lengths : Lengths) → 0 < count → lengths.nearest ≡ keys_at formats first
    → lengths.longest ≡ lengths.nearest → lengths.last ≡ first → LengthsTo formats first count first lengths
lengths-begun formats first count lengths some near long last =
    let none : first - first ≡ 0 = omega arith in
    record {
      nearest = near;
      longest =
          long ∙ near ∙ omega arith
          ∙ ap (λ (n : ℕ). max (keys_at formats first) (longest (rows_at formats first n))) (sym none);
      behind = omega (arith, last);
      within = omega (arith, last, some);
      last = ap (keys_at formats) last ∙ sym (long ∙ near);
      order = omega arith;
    }

to-by : (t : Bool) (formats : List FormatRow) (first count at : ℕ) (lengths : Lengths) → nat_lt (keys_at formats at) lengths.longest ≡ t
    → at < first + count → at < length formats → LengthsTo formats first count at lengths
    → LengthsTo formats first count (at + 1) (if t then lengths else record { nearest = lengths.nearest; longest = keys_at formats at; last = at })
to-by true formats first count at lengths is few within to = record {
  nearest = to.nearest;
  longest =
      omega (arith, to.longest, longest-to formats first at to.order within, ltb-true (keys_at formats at) lengths.longest is);
  behind = to.behind;
  within = to.within;
  last = to.last;
  order = omega (arith, to.order);
}
to-by false formats first count at lengths is few within to = record {
  nearest = to.nearest;
  longest =
      omega (arith, to.longest, longest-to formats first at to.order within, ltb-false (keys_at formats at) lengths.longest is);
  behind = to.order;
  within = few;
  last = refl;
  order = omega (arith, to.order);
}

pub lengths-more : (formats : List FormatRow) (first count at : ℕ) (lengths : Lengths) → at < first + count → at < length formats
    → LengthsTo formats first count at lengths → LengthsTo formats first count (at + 1) (with_keys lengths (keys_at formats at) at)
lengths-more formats first count at lengths few within to =
    to-by (nat_lt (keys_at formats at) lengths.longest) formats first count at lengths refl few within to

-- those of all of them
pub lengths-all : (formats : List FormatRow) (first count : ℕ) (lengths : Lengths) → 0 < count → first + count ≤ length formats
    → LengthsTo formats first count (first + count) lengths → AreLengths (rows_at formats first count) lengths
lengths-all formats first count lengths some within to =
    let all : first + count - first ≡ count = omega arith in
    let long : lengths.longest ≡ max (keys_at formats first) (longest (rows_at formats first count)) =
    to.longest ∙ ap (λ (n : ℕ). max (keys_at formats first) (longest (rows_at formats first n))) all in
    are-lengths formats first count lengths some within to.nearest
    (omega (arith, long, longest-of formats first count first (omega arith) (omega (arith, some)) (omega (arith, some, within))))

-- rows without their first one are as long as with it, where the last of the longest isn't that
pub longest-behind : (formats : List FormatRow) (first count : ℕ) (lengths : Lengths) → 0 < first → first + count ≤ length formats → first ≤ lengths.last
    → AreLengths (rows_at formats (first - 1) (count + 1)) lengths → LastIs formats (first - 1) (count + 1) (Some lengths)
    → lengths.longest ≡ longest (rows_at formats first count)
longest-behind formats first count lengths some within behind are last =
    let before = first - 1 in
    let next : before + 1 ≡ first = omega (arith, some) in
    let more : count + 1 ≡ suc count = omega arith in
    let all : longest (rows_at formats before (count + 1)) ≡ max (keys_at formats before) (longest (rows_at formats first count)) =
    ap (λ (n : ℕ). longest (rows_at formats before n)) more
    ∙ ap longest (rows-suc formats before count (omega (arith, some, within)))
    ∙ ap (λ (n : ℕ). max (keys_at formats before) (longest (rows_at formats n count))) next in
    let few : lengths.last < first + count = omega (arith, last.1, next) in
    omega (
      arith,
      are.longest,
      all,
      last.2,
      longest-of formats first count lengths.last behind few (omega (arith, few, within)),
    )

-- the bars of rows of rule keys at an edge, with one row more
edge-take : (boxing : Boxing) (formats : List FormatRow) (n column : ℕ) (line : Neighbour) → n < length formats
    → shown_at_edge boxing (behind_rules (take (suc n) formats) line) column
    ≡ max (bars_at_edge boxing (row_at formats n) column) (shown_at_edge boxing (behind_rules (take n formats) line) column)
edge-take boxing [] n column line within = absurd (omega (arith, within))
edge-take boxing (f ∷ formats) zero column line within = refl
edge-take boxing (f ∷ formats) (suc n) column line within =
    ap (max (bars_at_edge boxing f column)) (edge-take boxing formats n column line (omega (arith, within))) ∙ omega arith

pub edge-more : (boxing : Boxing) (formats : List FormatRow) (first n column : ℕ) (line : Neighbour) → first + n < length formats
    → shown_at_edge boxing (behind_rules (rows_at formats first (suc n)) line) column
    ≡ max (bars_at_edge boxing (row_at formats (first + n)) column) (shown_at_edge boxing (behind_rules (rows_at formats first n) line) column)
edge-more boxing formats first n column line within =
    edge-take boxing (drop first formats) n column line (omega (arith, within, length-drop first formats))
    ∙ ap (λ (f : FormatRow). max (bars_at_edge boxing f column) (shown_at_edge boxing (behind_rules (rows_at formats first n) line) column))
    (row-drop formats first n)
