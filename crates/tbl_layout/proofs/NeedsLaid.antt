-- Columns that have their widths and their places have what their own entries need, and so room for each of them.
use Rattle.std.proofs.Common.{◌≡◌, ℕ, zero, suc, ◌+◌, ◌≤◌, Bool, true, false, List, [], ◌∷◌, ◌++◌, drop, get_or, map, refl, ap, subst, ◌∙◌, arith, if◌then◌else◌, Contains}
use Rattle.std.proofs.lemmas.List.Elements.{Contains-append_left, Contains-append_right}
use Rattle.tbl_format.specs.Format.{FormatRow}
use Rattle.tbl_format.specs.declared.format.Asked.{Asked}
use Rattle.tbl_layout.specs.Columns.{alone, columns_from, entries_of, equal_widths, gaps, greatest, in_strip, left_of, needs_of, placed, placed_with, right_of, row_stands, split_width, spread, stands, total, widest_entry, width_by, with_equal, with_widths}
use Rattle.tbl_layout.specs.Entries.{Command, Content, Element, Row, Rule}
use Rattle.tbl_layout.specs.EntriesFit.{HasRoomFor}
use Rattle.tbl_layout.specs.SpanLaws.{AreNoNarrower}
use Rattle.tbl_layout.specs.Spans.{Wide, all_fitted, all_wide, columns_laid, filled, wide_entries}
use Rattle.tbl_layout.specs.Widths.{left_edge}
use Rattle.tbl_layout.specs.declared.bars.Bars.{Bars}
use Rattle.tbl_layout.specs.declared.columns.Column.{Column}
use Rattle.tbl_layout.specs.declared.columns.Needs.{Needs}
use Rattle.tbl_layout.specs.declared.columns.Stands.{Stands}
use Rattle.tbl_layout.specs.declared.columns.Stands.TheVariants.{Alone, Apart, InStrip, Nowhere}
use Rattle.tbl_layout.proofs.Spreading.{map-all_fitted}

-- Columns keep what their entries need, where they get their widths and their places.
abbrev pub needs : List Column → List Needs
needs columns = map (λ (c : Column). c.needs) columns

abbrev pub widths : List Column → List ℕ
widths columns = map (λ (c : Column). c.width) columns

needs-widths : (asked : List Asked) (columns : List Column) → needs (with_widths asked columns) ≡ needs columns
needs-widths [] columns = refl
needs-widths (a ∷ asked) [] = refl
needs-widths (a ∷ asked) (c ∷ columns) = ap (λ (ns : List Needs). c.needs ∷ ns) (needs-widths asked columns)

needs-made : (t : Bool) (width : ℕ) (c : Column) → (if t then record c { width = width } else c).needs ≡ c.needs
needs-made true width c = refl
needs-made false width c = refl

needs-equal : (width : ℕ) (asked : List Asked) (columns : List Column) → needs (with_equal width asked columns) ≡ needs columns
needs-equal width [] columns = refl
needs-equal width (a ∷ asked) [] = refl
needs-equal width (a ∷ asked) (c ∷ columns) =
    ap (λ (n : Needs). n ∷ needs (with_equal width asked columns)) (needs-made a.is_equal width c)
    ∙ ap (λ (ns : List Needs). c.needs ∷ ns) (needs-equal width asked columns)

needs-placed : (place : ℕ) (spaces : List ℕ) (columns : List Column) → needs (placed place spaces columns) ≡ needs columns
needs-placed place [] columns = refl
needs-placed place (gap ∷ spaces) [] = refl
needs-placed place (gap ∷ spaces) (c ∷ columns) =
    ap (λ (ns : List Needs). c.needs ∷ ns) (needs-placed (place + gap + c.width) spaces columns)

pub needs-laid : (bars : Bars) (line_length : ℕ) (asked : List Asked) (elements : List Element)
    → needs (columns_laid bars line_length asked elements) ≡ needs (columns_from (filled bars line_length asked elements) 0 asked)
needs-laid bars line_length asked elements =
    let all = filled bars line_length asked elements in
    let from = columns_from all 0 asked in
    let first = with_widths asked from in
    let wide = all_fitted bars asked (all_wide all) first in
    needs-equal (greatest (equal_widths asked wide)) asked wide
    ∙ map-all_fitted bars asked (λ (c : Column). c.needs) (λ c width. refl) (all_wide all) first
    ∙ needs-widths asked from

pub needs-placed_with : (bars : Bars) (more : ℕ) (asked : List Asked) (columns : List Column)
    → needs (placed_with bars more asked columns) ≡ needs columns
needs-placed_with bars more asked columns =
    let spaces = gaps bars asked in needs-placed (left_edge bars) (spread more (total spaces) 0 spaces) columns

-- each has room for them
abbrev pub EachNeeds : List Element → ℕ → List Asked → List Column → Type 0
EachNeeds all column [] columns = Unit {0}
EachNeeds all column (a ∷ asked) [] = Unit {0}
EachNeeds all column (a ∷ asked) (c ∷ columns) =
    (c.needs ≡ needs_of (entries_of column all)) × (width_by a c.needs ≤ c.width) × EachNeeds all (suc column) asked columns

abbrev other_needs : List Needs → List Needs
other_needs [] = []
other_needs (n ∷ ns) = ns

abbrev other_widths : List ℕ → List ℕ
other_widths [] = []
other_widths (n ∷ ns) = ns

pub each-needs : (all : List Element) (column : ℕ) (asked : List Asked) (wide columns : List Column)
    → AreNoNarrower (with_widths asked (columns_from all column asked)) wide → widths columns ≡ widths wide
    → needs columns ≡ needs (columns_from all column asked) → EachNeeds all column asked columns
each-needs all column [] wide columns le same is = tt
each-needs all column (a ∷ asked) wide [] le same is = tt
each-needs all column (a ∷ asked) [] (c ∷ columns) le same is = absurd le
each-needs all column (a ∷ asked) (d ∷ wide) (c ∷ columns) le same is =
    let own : c.needs ≡ needs_of (entries_of column all) = ap (λ (ns : List Needs). get_or ns 0 c.needs) is in
    let width : c.width ≡ d.width = ap (λ (ns : List ℕ). get_or ns 0 0) same in
    let rest : widths columns ≡ widths wide = ap other_widths same in
    let others : needs columns ≡ needs (columns_from all (suc column) asked) = ap other_needs is in (
      own,
      omega (arith, ap (width_by a) own, le.0, width),
      each-needs all (suc column) asked wide columns le.1 rest others,
    )

pub needs-drop : (n : ℕ) (all : List Element) (column : ℕ) (asked : List Asked) (columns : List Column) → EachNeeds all column asked columns
    → EachNeeds all (column + n) (drop n asked) (drop n columns)
needs-drop zero all column asked columns each =
    let same : column ≡ column + zero = omega arith in subst (λ (n : ℕ). EachNeeds all n asked columns) same each
needs-drop (suc n) all column [] columns each = tt
needs-drop (suc n) all column (a ∷ asked) [] each = none-needed (drop n asked) where
  none-needed : (asked : List Asked) → EachNeeds all (column + suc n) asked []
  none-needed [] = tt
  none-needed (a ∷ asked) = tt
needs-drop (suc n) all column (a ∷ asked) (c ∷ columns) each =
    let same : suc column + n ≡ column + suc n = omega arith in
    subst (λ (m : ℕ). EachNeeds all m (drop n asked) (drop n columns)) same (needs-drop n all (suc column) asked columns each.2)

-- An entry is no greater than the greatest of its column.
pub record Bounded (e : Stands) (entries : List Stands) : Type 0 where
  pub alone_few : alone e ≤ greatest (map alone entries)
  pub strip_few : in_strip e ≤ greatest (map in_strip entries)
  pub left_few : left_of e ≤ greatest (map left_of entries)
  pub right_few : right_of e ≤ greatest (map right_of entries)

pub in-entries : (f : Stands → ℕ) (column : ℕ) (before after : List Element) (rules : List FormatRow) (format : FormatRow) (fields : List Content)
    → f (get_or (row_stands stands 0 format.keys fields) column Nowhere)
    ≤ greatest (map f (entries_of column (before ++ Row rules format fields ∷ after)))
in-entries f column [] after rules format fields = omega arith
in-entries f column (Row rules_before format_before fields_before ∷ before) after rules format fields =
    omega (arith, in-entries f column before after rules format fields)
in-entries f column (Rule sign ∷ before) after rules format fields = in-entries f column before after rules format fields
in-entries f column (Command bytes ∷ before) after rules format fields = in-entries f column before after rules format fields

pub in-wide : (before after : List Element) (rules : List FormatRow) (format : FormatRow) (fields : List Content) (w : Wide)
    → Contains (wide_entries stands 0 format.keys fields) w → Contains (all_wide (before ++ Row rules format fields ∷ after)) w
in-wide [] after rules format fields w is = Contains-append_left (wide_entries stands 0 format.keys fields) (all_wide after) w is
in-wide (Row rules_before format_before fields_before ∷ before) after rules format fields w is =
    Contains-append_right (wide_entries stands 0 format_before.keys fields_before) (all_wide (before ++ Row rules format fields ∷ after)) w
    (in-wide before after rules format fields w is)
in-wide (Rule sign ∷ before) after rules format fields w is = in-wide before after rules format fields w is
in-wide (Command bytes ∷ before) after rules format fields w is = in-wide before after rules format fields w is

-- A column that has what its entries need has room for each of them.
split-few : (entries : List Stands) → greatest (map split_width entries) ≤ greatest (map left_of entries) + greatest (map right_of entries)
split-few [] = omega arith
split-few (Alone columns ∷ entries) = omega (arith, split-few entries)
split-few (InStrip columns ∷ entries) = omega (arith, split-few entries)
split-few (Apart left right ∷ entries) = omega (arith, split-few entries)
split-few (Nowhere ∷ entries) = omega (arith, split-few entries)

module _ (a : Asked) (entries : List Stands) (c : Column) (is : c.needs ≡ needs_of entries) (enough : width_by a c.needs ≤ c.width) where
  pub room-one : (e : Stands) → Bounded e entries → HasRoomFor c e
  room-one (Alone columns) bound = omega (arith, bound.alone_few, ap (λ (n : Needs). n.alone) is, enough)
  room-one (InStrip columns) bound =
      let strip = ap (λ (n : Needs). n.strip) is in (omega (arith, bound.strip_few, strip), omega (arith, enough))
  room-one (Apart left right) bound = (
    omega (arith, bound.left_few, ap (λ (n : Needs). n.left) is),
    omega (arith, bound.right_few, ap (λ (n : Needs). n.right) is),
    omega (arith, enough),
  )
  room-one Nowhere bound = tt

  pub widest-one : widest_entry c.needs ≤ c.width
  widest-one =
      omega (
        arith,
        enough,
        split-few entries,
        ap (λ (n : Needs). n.split) is,
        ap (λ (n : Needs). n.left) is,
        ap (λ (n : Needs). n.right) is,
      )
