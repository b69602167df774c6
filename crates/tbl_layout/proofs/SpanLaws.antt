-- Columns that get room for entries of several columns have it.
use Rattle.std.proofs.Common.{◌≡◌, ℕ, zero, suc, ◌+◌, ◌*◌, ◌/◌, ◌<◌, ◌≤◌, Bool, true, false, List, [], ◌∷◌, ◌++◌, length, take, drop, get_or, refl, ap, subst, ◌∙◌, arith, length-drop, length-take, if◌then◌else◌, drop_at, length-take-le, take_at}
use Rattle.std.proofs.Math.Nat.{mul-div_cancel_left}
use Rattle.std.proofs.lemmas.Nat.{div_below}
use Rattle.tbl_format.specs.declared.format.Asked.{Asked}
use Rattle.tbl_layout.specs.Columns.{columns_from, equal_widths, equalled, greatest, with_equal, with_widths}
use Rattle.tbl_layout.specs.Entries.{Element}
use Rattle.tbl_layout.specs.SpanLaws.{AreFitted, AreNoNarrower, HoldAll, room_of}
use Rattle.tbl_layout.specs.Spans.{Wide, all_fitted, all_wide, filled, fitted, spread_over}
use Rattle.tbl_layout.specs.declared.bars.Bars.{Bars}
use Rattle.tbl_layout.specs.declared.columns.Column.{Column}
use Rattle.tbl_layout.proofs.Placing.{widths_of}
use Rattle.tbl_layout.proofs.Shares.{part-grows}
use Rattle.tbl_layout.proofs.Spreading.{lacking_of, length-all_fitted, length-fitted, length-spread_over, three-parts}

-- columns that are no narrower than others
pub no_narrower-same : (columns : List Column) → AreNoNarrower columns columns
no_narrower-same [] = tt
no_narrower-same (c ∷ columns) = (omega arith, no_narrower-same columns)

pub no_narrower-next : (xs ys zs : List Column) → AreNoNarrower xs ys → AreNoNarrower ys zs → AreNoNarrower xs zs
no_narrower-next [] [] [] le next = tt
no_narrower-next [] [] (z ∷ zs) le next = absurd next
no_narrower-next [] (y ∷ ys) zs le next = absurd le
no_narrower-next (x ∷ xs) [] zs le next = absurd le
no_narrower-next (x ∷ xs) (y ∷ ys) [] le next = absurd next
no_narrower-next (x ∷ xs) (y ∷ ys) (z ∷ zs) le next = (omega (arith, le.0, next.0), no_narrower-next xs ys zs le.1 next.1)

no_narrower-append : (xs ys front behind : List Column) → AreNoNarrower xs ys → AreNoNarrower front behind → AreNoNarrower (xs ++ front) (ys ++ behind)
no_narrower-append [] [] front behind le rest = rest
no_narrower-append [] (y ∷ ys) front behind le rest = absurd le
no_narrower-append (x ∷ xs) [] front behind le rest = absurd le
no_narrower-append (x ∷ xs) (y ∷ ys) front behind le rest = (le.0, no_narrower-append xs ys front behind le.1 rest)

no_narrower-take : (n : ℕ) (xs ys : List Column) → AreNoNarrower xs ys → AreNoNarrower (take n xs) (take n ys)
no_narrower-take zero xs ys le = tt
no_narrower-take (suc n) [] [] le = tt
no_narrower-take (suc n) [] (y ∷ ys) le = absurd le
no_narrower-take (suc n) (x ∷ xs) [] le = absurd le
no_narrower-take (suc n) (x ∷ xs) (y ∷ ys) le = (le.0, no_narrower-take n xs ys le.1)

no_narrower-drop : (n : ℕ) (xs ys : List Column) → AreNoNarrower xs ys → AreNoNarrower (drop n xs) (drop n ys)
no_narrower-drop zero xs ys le = le
no_narrower-drop (suc n) [] [] le = tt
no_narrower-drop (suc n) [] (y ∷ ys) le = absurd le
no_narrower-drop (suc n) (x ∷ xs) [] le = absurd le
no_narrower-drop (suc n) (x ∷ xs) (y ∷ ys) le = no_narrower-drop n xs ys le.1

-- are as many, and no narrower together
no_narrower-many : (xs ys : List Column) → AreNoNarrower xs ys → length ys ≡ length xs
no_narrower-many [] [] le = refl
no_narrower-many [] (y ∷ ys) le = absurd le
no_narrower-many (x ∷ xs) [] le = absurd le
no_narrower-many (x ∷ xs) (y ∷ ys) le = ap (λ (n : ℕ). suc n) (no_narrower-many xs ys le.1)

no_narrower-total : (xs ys : List Column) → AreNoNarrower xs ys → widths_of xs ≤ widths_of ys
no_narrower-total [] [] le = omega arith
no_narrower-total [] (y ∷ ys) le = absurd le
no_narrower-total (x ∷ xs) [] le = absurd le
no_narrower-total (x ∷ xs) (y ∷ ys) le = omega (arith, le.0, no_narrower-total xs ys le.1)

-- what is spread makes none narrower
no_narrower-spread : (more count at : ℕ) (columns : List Column) → AreNoNarrower columns (spread_over more count at columns)
no_narrower-spread more count at [] = tt
no_narrower-spread more count at (c ∷ columns) = (omega arith, no_narrower-spread more count (suc at) columns)

spread-widths : (more count at : ℕ) (columns : List Column) → 0 < count
    → widths_of (spread_over more count at columns) + at * more / count ≡ widths_of columns + (at + length columns) * more / count
spread-widths more count at [] some =
    let same : (at + 0) * more / count ≡ at * more / count = ap (λ (n : ℕ). n * more / count) (omega arith) in omega (arith, same)
spread-widths more count at (c ∷ columns) some =
    let next : suc at * more / count ≡ (at + 1) * more / count = ap (λ (n : ℕ). n * more / count) (omega arith) in
    let same : (suc at + length columns) * more / count ≡ (at + suc (length columns)) * more / count = ap (λ (n : ℕ). n * more / count) (omega arith) in
    omega (arith, next, same, part-grows at more count some, spread-widths more count (suc at) columns some)

spread-all : (more count : ℕ) (columns : List Column) → 0 < count → length columns ≡ count
    → widths_of (spread_over more count 0 columns) ≡ widths_of columns + more
spread-all more count columns some many =
    let all : (0 + length columns) * more / count ≡ more =
    ap (λ (n : ℕ). n * more / count) (omega (arith, many)) ∙ mul-div_cancel_left more some in
    let none = div_below (0 * more) count 1 some (omega (arith, some)) in
    omega (arith, all, none, spread-widths more count 0 columns some)

module _ (bars : Bars) (asked : List Asked) where
  no_narrower-fitted : (w : Wide) (columns : List Column) → AreNoNarrower columns (fitted bars asked w columns)
  no_narrower-fitted w columns =
      let own = take w.count (drop w.from columns) in
      let spread = spread_over (lacking_of bars asked w columns) w.count 0 own in
      let behind = drop (w.from + w.count) columns in
      subst (λ (before : List Column). AreNoNarrower before (fitted bars asked w columns)) (three-parts w.from w.count columns)
      (no_narrower-append (take w.from columns) (take w.from columns) (own ++ behind) (spread ++ behind) (no_narrower-same (take w.from columns))
      (no_narrower-append own spread behind behind (no_narrower-spread (lacking_of bars asked w columns) w.count 0 own) (no_narrower-same behind)))

  pub no_narrower-all : (entries : List Wide) (columns : List Column) → AreNoNarrower columns (all_fitted bars asked entries columns)
  no_narrower-all [] columns = no_narrower-same columns
  no_narrower-all (w ∷ entries) columns =
      no_narrower-next columns (fitted bars asked w columns) (all_fitted bars asked entries (fitted bars asked w columns))
      (no_narrower-fitted w columns) (no_narrower-all entries (fitted bars asked w columns))

  -- columns that are no narrower have no less room
  room-grows : (w : Wide) (xs ys : List Column) → AreNoNarrower xs ys → room_of bars asked w xs ≤ room_of bars asked w ys
  room-grows w xs ys le =
      let own = no_narrower-take w.count (drop w.from xs) (drop w.from ys) (no_narrower-drop w.from xs ys le) in
      omega (arith, no_narrower-total (take w.count (drop w.from xs)) (take w.count (drop w.from ys)) own)

  -- an entry that is fitted has room
  fitted-own : (w : Wide) (columns : List Column) → w.from + w.count ≤ length columns
      → take w.count (drop w.from (fitted bars asked w columns))
      ≡ spread_over (lacking_of bars asked w columns) w.count 0 (take w.count (drop w.from columns))
  fitted-own w columns within =
      let own = take w.count (drop w.from columns) in
      let spread = spread_over (lacking_of bars asked w columns) w.count 0 own in
      let behind = drop (w.from + w.count) columns in
      let many : length spread ≡ w.count = omega (
        arith,
        within,
        length-spread_over (lacking_of bars asked w columns) w.count 0 own,
        length-take w.count (drop w.from columns),
        length-drop w.from columns,
      ) in
      ap (take w.count) (drop_at (take w.from columns) (spread ++ behind) w.from (length-take-le w.from columns (omega (arith, within))))
      ∙ take_at spread behind w.count many

  fitted-room : (w : Wide) (columns : List Column) → 0 < w.count → w.from + w.count ≤ length columns
      → w.width ≤ room_of bars asked w (fitted bars asked w columns)
  fitted-room w columns some within =
      let own = take w.count (drop w.from columns) in
      let many : length own ≡ w.count = omega (arith, within, length-take w.count (drop w.from columns), length-drop w.from columns) in
      omega (
        arith,
        ap widths_of (fitted-own w columns within),
        spread-all (lacking_of bars asked w columns) w.count own some many,
      )

  room-at : (entries : List Wide) (columns : List Column) (at : ℕ) (w : Wide) → at < length entries → 0 < (get_or entries at w).count
      → (get_or entries at w).from + (get_or entries at w).count ≤ length columns
      → (get_or entries at w).width ≤ room_of bars asked (get_or entries at w) (all_fitted bars asked entries columns)
  room-at [] columns at w within some lies = absurd (omega (arith, within))
  room-at (first ∷ entries) columns zero w within some lies =
      let next = fitted bars asked first columns in
      omega (arith, fitted-room first columns some lies, room-grows first next (all_fitted bars asked entries next) (no_narrower-all entries next))
  room-at (first ∷ entries) columns (suc at) w within some lies =
      room-at entries (fitted bars asked first columns) at w (omega (arith, within)) some (omega (arith, lies, length-fitted bars asked first columns))

  pub all-fitted : (entries : List Wide) (columns : List Column) → AreFitted bars asked entries columns
  all-fitted entries columns = record {
    no_narrower = no_narrower-all entries columns;
    space = record {
      each = λ w is some lies.
          subst (λ (e : Wide). 0 < e.count → e.from + e.count ≤ length (all_fitted bars asked entries columns) → e.width ≤ room_of bars asked e (all_fitted bars asked entries columns)) is.2
          (λ some lies. room-at entries columns is.0 w is.1 some (omega (arith, lies, length-all_fitted bars asked entries columns))) some lies;
    };
  }

-- columns with `e` get a width that none of them is above
equal-bound : (is_equal : Bool) (c : Column) (width : ℕ) → (if is_equal then c.width else 0) ≤ width
    → c.width ≤ (if is_equal then record c { width = width } else c).width
equal-bound true c width most = most
equal-bound false c width most = omega arith

no_narrower-equal : (width : ℕ) (asked : List Asked) (columns : List Column) → greatest (equal_widths asked columns) ≤ width
    → AreNoNarrower columns (with_equal width asked columns)
no_narrower-equal width [] columns most = no_narrower-same columns
no_narrower-equal width (a ∷ asked) [] most = tt
no_narrower-equal width (a ∷ asked) (c ∷ columns) most =
    (equal-bound a.is_equal c width (omega (arith, most)), no_narrower-equal width asked columns (omega (arith, most)))

pub holds-all : (bars : Bars) (line_length : ℕ) (asked : List Asked) (elements : List Element) → HoldAll bars line_length asked elements
holds-all bars line_length asked elements =
    let all = filled bars line_length asked elements in
    let first = with_widths asked (columns_from all 0 asked) in
    let next = all_fitted bars asked (all_wide all) first in
    let last = no_narrower-equal (greatest (equal_widths asked next)) asked next (omega arith) in
    let fit = all-fitted bars asked (all_wide all) first in
    record {
      own = no_narrower-next first next (equalled asked next) fit.no_narrower last;
      wide = record {
        each = λ w is some lies.
            let small : w.from + w.count ≤ length next = omega (arith, lies, no_narrower-many next (equalled asked next) last) in
            omega (arith, fit.space.each w is some small, room-grows bars asked w next (equalled asked next) last);
      };
    }
