-- Columns stand in order, the bars between them have room, and with `expand` a picture is as wide as the line.
use Rattle.std.proofs.Common.{◌≡◌, ℕ, zero, suc, ◌+◌, ◌-◌, ◌*◌, ◌/◌, ◌<◌, ◌≤◌, Bool, true, false, not, List, [], ◌∷◌, length, map, refl, sym, ap, ◌∙◌, arith, if◌then◌else◌, ne_eqb}
use Rattle.std.proofs.Math.Nat.{mul-div_cancel}
use Rattle.std.proofs.lemmas.Nat.{div_below}
use Rattle.tbl_format.specs.declared.format.Asked.{Asked}
use Rattle.tbl_layout.specs.Columns.{gaps, gaps_from, lacking, laid_by, placed, placed_with, share, spread, total, width_of_all}
use Rattle.tbl_layout.specs.LayoutLaws.{AreApart, AreInOrder, HaveBlanks, HaveRoom, IsAsWide, first_start, last_end}
use Rattle.tbl_layout.specs.Widths.{inner_bars, least_separation, left_edge, separation}
use Rattle.tbl_layout.specs.declared.bars.Bars.{Bars}
use Rattle.tbl_layout.specs.declared.columns.Column.{Column}
use Rattle.tbl_layout.proofs.Shares.{share-grows, share-is}

-- what is spread, where there is a gap
lacking-some : (line_length width all : ℕ) → 0 < all → lacking true line_length width all ≡ line_length - width
lacking-some line_length width zero some = absurd (omega (arith, some))
lacking-some line_length width (suc all) some =
    ap (λ (t : Bool). if not t then line_length - width else 0) (ne_eqb (suc all) 0 (λ is. omega (arith, is)))

-- and where there is none
lacking-none : (is_expanded : Bool) (line_length width : ℕ) → lacking is_expanded line_length width 0 ≡ 0
lacking-none true line_length width = refl
lacking-none false line_length width = refl

lacking-empty : (is_expanded : Bool) (line_length width all : ℕ) → all ≡ 0 → lacking is_expanded line_length width all ≡ 0
lacking-empty is_expanded line_length width all none =
    ap (λ (n : ℕ). lacking is_expanded line_length width n) none ∙ lacking-none is_expanded line_length width

wider-none : (line_length width all : ℕ) → line_length ≤ width → lacking true line_length width all ≡ 0
wider-none line_length width zero over = lacking-none true line_length width
wider-none line_length width (suc all) over = omega (arith, over, lacking-some line_length width (suc all) (omega arith))

pub as_wide : (bars : Bars) (line_length : ℕ) (asked : List Asked) (columns : List Column) → IsAsWide bars line_length asked columns
as_wide bars line_length asked columns =
    let width = width_of_all bars columns asked in
    let all = total (gaps bars asked) in
    record {
      expanded = λ some fits. omega (arith, fits, lacking-some line_length width all some);
      wider = λ over. omega (arith, wider-none line_length width all over);
      without_gap = λ none. omega (arith, lacking-empty true line_length width all none);
      not_expanded = omega arith;
    }

-- as many gaps as columns
gaps-many : (bars : Bars) (gap : ℕ) (asked : List Asked) → length (gaps_from bars gap asked) ≡ length asked
gaps-many bars gap [] = refl
gaps-many bars gap (a ∷ asked) = ap (λ (n : ℕ). suc n) (gaps-many bars (separation bars a) asked)

spread-many : (more all front : ℕ) (spaces : List ℕ) → length (spread more all front spaces) ≡ length spaces
spread-many more all front [] = refl
spread-many more all front (gap ∷ spaces) = ap (λ (n : ℕ). suc n) (spread-many more all (front + gap) spaces)

-- all that is spread falls to some gap
spread-sum : (more all front : ℕ) (spaces : List ℕ)
    → total (spread more all front spaces) + share more front all ≡ total spaces + share more (front + total spaces) all
spread-sum more all front [] =
    let same : share more (front + 0) all ≡ share more front all = ap (λ (n : ℕ). share more n all) (omega arith) in omega (arith, same)
spread-sum more all front (gap ∷ spaces) =
    let further = spread-sum more all (front + gap) spaces in
    let same : share more (front + gap + total spaces) all ≡ share more (front + (gap + total spaces)) all =
    ap (λ (n : ℕ). share more n all) (omega arith) in
    omega (arith, further, same, share-grows more front gap all)

-- to no gap falls nothing, and to all of them all
share-none : (more all : ℕ) → share more 0 all ≡ 0
share-none more zero = refl
share-none more (suc all) = omega (arith, share-is more 0 all, div_below (more * 0) (suc all) 1 (omega arith) (omega arith))

share-all : (more all : ℕ) → (all ≡ 0 → more ≡ 0) → share more all all ≡ more
share-all more zero none = sym (none refl)
share-all more (suc all) none = share-is more (suc all) all ∙ mul-div_cancel more (omega arith)

spread-total : (more : ℕ) (spaces : List ℕ) → (total spaces ≡ 0 → more ≡ 0)
    → total (spread more (total spaces) 0 spaces) ≡ total spaces + more
spread-total more spaces none =
    let all = total spaces in
    let same : share more (0 + all) all ≡ share more all all = ap (λ (n : ℕ). share more n all) (omega arith) in
    omega (arith, same, spread-sum more all 0 spaces, share-none more all, share-all more all none)

-- what stays as it is where columns get their places
placed-widths : (place : ℕ) (spaces : List ℕ) (columns : List Column) → length columns ≡ length spaces
    → map (λ c. c.width) (placed place spaces columns) ≡ map (λ c. c.width) columns
placed-widths place [] columns same = refl
placed-widths place (gap ∷ spaces) [] same = refl
placed-widths place (gap ∷ spaces) (c ∷ columns) same =
    ap (λ (ws : List ℕ). c.width ∷ ws) (placed-widths (place + gap + c.width) spaces columns (omega (arith, same)))

-- where the last one ends
placed-end : (place : ℕ) (spaces : List ℕ) (columns : List Column) → length columns ≡ length spaces
    → last_end place (placed place spaces columns) ≡ place + total spaces + total (map (λ c. c.width) columns)
placed-end place [] [] same = omega arith
placed-end place [] (c ∷ columns) same = absurd (omega (arith, same))
placed-end place (gap ∷ spaces) [] same = absurd (omega (arith, same))
placed-end place (gap ∷ spaces) (c ∷ columns) same =
    omega (arith, placed-end (place + gap + c.width) spaces columns (omega (arith, same)))

-- each next one is a gap further, and maybe more
placed-apart : (bars : Bars) (more all front place gap : ℕ) (a : Asked) (asked : List Asked) (c : Column) (columns : List Column) → length columns ≡ length asked
    → AreApart bars (a ∷ asked) (placed place (spread more all front (gaps_from bars gap (a ∷ asked))) (c ∷ columns))
placed-apart bars more all front place gap a [] c [] same = tt
placed-apart bars more all front place gap a [] c (d ∷ columns) same = absurd (omega (arith, same))
placed-apart bars more all front place gap a (b ∷ asked) c [] same = tt
placed-apart bars more all front place gap a (b ∷ asked) c (d ∷ columns) same =
    let start = place + (gap + (share more (front + gap) all - share more front all)) in
    (omega arith, placed-apart bars more all (front + gap) (start + c.width) (separation bars a) b asked d columns (omega (arith, same)))

module _ (bars : Bars) (more : ℕ) where
  apart : (asked : List Asked) (columns : List Column) → length columns ≡ length asked
      → AreApart bars asked (placed_with bars more asked columns)
  apart [] columns same = tt
  apart (a ∷ asked) [] same = tt
  apart (a ∷ asked) (c ∷ columns) same =
      placed-apart bars more (total (gaps bars (a ∷ asked))) 0 (left_edge bars) 0 a asked c columns (omega (arith, same))

  first : (asked : List Asked) (columns : List Column) → length columns ≡ length asked
      → first_start (left_edge bars) (placed_with bars more asked columns) ≡ left_edge bars
  first [] [] same = refl
  first [] (c ∷ columns) same = absurd (omega (arith, same))
  first (a ∷ asked) [] same = refl
  first (a ∷ asked) (c ∷ columns) same =
      let all = total (gaps bars (a ∷ asked)) in
      let same : share more (0 + 0) all ≡ share more 0 all = ap (λ (n : ℕ). share more n all) (omega arith) in
      omega (arith, same, share-none more all)

pub in_order : (bars : Bars) (is_expanded : Bool) (line_length : ℕ) (asked : List Asked) (columns : List Column)
    → length columns ≡ length asked
    → AreInOrder bars asked columns (laid_by bars is_expanded line_length asked columns)
in_order bars is_expanded line_length asked columns same =
    let spaces = gaps bars asked in
    let width = width_of_all bars columns asked in
    let all = total spaces in
    let more = lacking is_expanded line_length width all in
    let places = spread more all 0 spaces in
    let many : length columns ≡ length places = omega (arith, same, gaps-many bars 0 asked, spread-many more all 0 spaces) in
    record {
      widths = placed-widths (left_edge bars) places columns many;
      first = first bars more asked columns same;
      apart = apart bars more asked columns same;
      last = omega (
        arith,
        placed-end (left_edge bars) places columns many,
        spread-total more spaces (lacking-empty is_expanded line_length width all),
      );
    }

-- what is left of a separation with bars has two places at least, one at each side
half-apart : (spare : ℕ) → 2 ≤ spare → (1 ≤ spare / 2) × (spare / 2 + 1 ≤ spare)
half-apart spare two = (omega (arith, two), omega (arith, two))

has_blanks : (c d : Column) (count : ℕ) → 0 < count → c.start + c.width + least_separation count ≤ d.start → HaveBlanks count c d
has_blanks c d zero some room = absurd (omega (arith, some))
has_blanks c d (suc count) some room =
    let halves = half-apart (d.start - (c.start + c.width) - suc count) (omega (arith, room)) in
    record { in_front = omega (arith, room, halves.0); behind = omega (arith, room, halves.0, halves.1) }

-- fewer bars need no more
least-grows : (count most : ℕ) → count ≤ most → least_separation count ≤ least_separation most
least-grows zero most few = omega arith
least-grows (suc count) zero few = absurd (omega (arith, few))
least-grows (suc count) (suc most) few = omega (arith, few)

pub has_room : (bars : Bars) (a : Asked) (c d : Column) → HaveRoom bars a c d
has_room bars a c d = record {
  blanks = has_blanks c d;
  asked = λ apart count some few.
      has_blanks c d count some (omega (arith, apart, least-grows count (inner_bars bars.boxing a.bars) few));
  not_in_front = omega arith;
  not_behind = omega arith;
}
