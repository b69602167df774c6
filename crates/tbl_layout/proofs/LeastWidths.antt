-- The width of a column is enough for what is asked of it and for its entries, and no more.
use Rattle.std.proofs.Common.{ℕ, ◌+◌, ◌-◌, ◌≤◌, List, map, get_or, refl, subst, arith, Contains}
use Rattle.std.proofs.lemmas.List.Elements.{Contains-get_or}
use Rattle.std.proofs.lemmas.List.Recursion.{max_bounds, max_least}
use Rattle.tbl_format.specs.declared.format.Asked.{Asked}
use Rattle.tbl_layout.specs.Columns.{Holds, IsLeast, alone, greatest, in_strip, left_of, right_of, width_of}
use Rattle.tbl_layout.specs.declared.columns.Stands.{Stands}
use Rattle.tbl_layout.specs.declared.columns.Stands.TheVariants.{Alone, Apart, InStrip, Nowhere}

-- the greatest number of entries is no more than a bound of all, and none is above it
at_most : (f : Stands → ℕ) (most : ℕ) (entries : List Stands) → ((e : Stands) → Contains entries e → f e ≤ most)
    → greatest (map f entries) ≤ most
at_most f most entries each =
    max_least (λ (es : List Stands). greatest (map f es)) f refl (λ e es. refl) entries Nowhere most
    (λ i within. each (get_or entries i Nowhere) (Contains-get_or entries i Nowhere within))

at_least : (f : Stands → ℕ) (entries : List Stands) (e : Stands) → Contains entries e → f e ≤ greatest (map f entries)
at_least f entries e is =
    subst (λ (x : Stands). f x ≤ greatest (map f entries)) is.2
    (max_bounds (λ (es : List Stands). greatest (map f es)) f refl (λ x es. refl) entries is.0 e is.1)

module _ (asks : Asked) (entries : List Stands) (width : ℕ) (h : Holds asks entries width) where
  alone_fits : (e : Stands) → Contains entries e → alone e ≤ width
  alone_fits Nowhere is = omega arith
  alone_fits (Apart left right) is = omega arith
  alone_fits (InStrip columns) is = omega arith
  alone_fits (Alone columns) is = h.alone columns is

  strip_fits : (e : Stands) → Contains entries e → in_strip e ≤ width
  strip_fits Nowhere is = omega arith
  strip_fits (Apart left right) is = omega arith
  strip_fits (InStrip columns) is = h.strip columns is
  strip_fits (Alone columns) is = omega arith

  right_fits : (e : Stands) → Contains entries e → right_of e ≤ width
  right_fits Nowhere is = omega arith
  right_fits (Apart left right) is = omega (arith, h.sides left right left right is is)
  right_fits (InStrip columns) is = omega arith
  right_fits (Alone columns) is = omega arith

  beside : (left right : ℕ) → Contains entries (Apart left right) → (e : Stands) → Contains entries e → left + right_of e ≤ width
  beside left right at Nowhere is = omega (arith, h.sides left right left right at at)
  beside left right at (Apart left_other right_other) is = h.sides left right left_other right_other at is
  beside left right at (InStrip columns) is = omega (arith, h.sides left right left right at at)
  beside left right at (Alone columns) is = omega (arith, h.sides left right left right at at)

  sides_fit : (d e : Stands) → Contains entries d → Contains entries e → left_of d + right_of e ≤ width
  sides_fit Nowhere e at is = omega (arith, right_fits e is)
  sides_fit (Apart left right) e at is = beside left right at e is
  sides_fit (InStrip columns) e at is = omega (arith, right_fits e is)
  sides_fit (Alone columns) e at is = omega (arith, right_fits e is)

  lefts_fit : (e : Stands) → Contains entries e → greatest (map left_of entries) ≤ width - right_of e
  lefts_fit e is = at_most left_of (width - right_of e) entries (λ d at. omega (arith, sides_fit d e at is))

  both_fit : (e : Stands) → Contains entries e → right_of e ≤ width - greatest (map left_of entries)
  both_fit e is = omega (arith, lefts_fit e is, right_fits e is)

  left_fits : (d : Stands) → Contains entries d → left_of d ≤ width
  left_fits d at = omega (arith, sides_fit d d at at)

  all_sides : greatest (map left_of entries) + greatest (map right_of entries) ≤ width
  all_sides =
      omega (arith, at_most right_of (width - greatest (map left_of entries)) entries both_fit, at_most left_of width entries left_fits)

  least : width_of asks entries ≤ width
  least = omega (arith, h.asked, at_most alone width entries alone_fits, at_most in_strip width entries strip_fits, all_sides)

enough : (asks : Asked) (entries : List Stands) → Holds asks entries (width_of asks entries)
enough asks entries = record {
  asked = omega arith;
  alone = λ columns is. omega (arith, at_least alone entries (Alone columns) is);
  strip = λ columns is. omega (arith, at_least in_strip entries (InStrip columns) is);
  sides = λ left right left_other right_other is other.
      omega (arith, at_least left_of entries (Apart left right) is, at_least right_of entries (Apart left_other right_other) other);
}

pub least_widths : (asks : Asked) (entries : List Stands) → IsLeast asks entries
least_widths asks entries = record { holds = enough asks entries; least = least asks entries }
