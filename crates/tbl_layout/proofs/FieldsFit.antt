-- The fields of the rows of a table fit their cells, where its columns have their widths and their places.
use Rattle.std.proofs.Common.{◌≡◌, ◌≢◌, ℕ, zero, suc, ◌+◌, ◌-◌, ◌<◌, ◌≤◌, Bool, true, false, ◌||◌, ◌==◌, inl, inr, List, [], ◌∷◌, ◌++◌, length, take, drop, get_or, map, replicate, refl, sym, ap, subst, ◌∙◌, arith, length-drop, if◌then◌else◌, eq-eqb, ne_eqb, drop-drop, get_or-append-add, Contains}
use Rattle.std.proofs.lemmas.Bool.{cases_eq}
use Rattle.std.proofs.lemmas.List.{get_or_past, length-replicate}
use Rattle.std.proofs.lemmas.List.Elements.{Contains-append_left, Contains-append_right, Contains-get_or}
use Rattle.std.specs.List.{AllByRecursion}
use Rattle.tbl_format.specs.Cells.{AreCells, by_cells}
use Rattle.tbl_format.specs.Format.{FormatRow, spanning}
use Rattle.tbl_format.specs.FormatRows.{AreWithin}
use Rattle.tbl_format.specs.declared.format.Asked.{Asked}
use Rattle.tbl_format.specs.declared.format.FormatKey.{FormatKey}
use Rattle.tbl_format.specs.declared.format.Key.{Key}
use Rattle.tbl_format.specs.declared.format.Key.TheVariants.{Above as AboveKey, Alphabetic, Center, DoubleRule, Left, Numeric, Right, Rule as RuleKey, Spanned, WideNumeric}
use Rattle.tbl_format.proofs.CellColumns.{columns_behind, columns_of-behind}
use Rattle.tbl_layout.specs.Columns.{alone, counted, entries_of, gaps, greatest, in_columns, in_strip, lacking, laid_by, left_of, needs_of, right_of, row_stands, stands, text_stands, total, unsplit, widest_entry, width_by, width_of_all}
use Rattle.tbl_layout.specs.Entries.{Above, Block, Content, Element, Repeated, Row, Ruled, Short, Text, is_number}
use Rattle.tbl_layout.specs.EntriesFit.{FieldFits, FieldsFit, FitAsOne, HasRoomFor, HaveWideKeys}
use Rattle.tbl_layout.specs.LayoutLaws.{AreApart}
use Rattle.tbl_layout.specs.Spans.{Wide, all_wide, as_one, cells_of, columns_laid, filled, if_wide, wide_entries}
use Rattle.tbl_layout.specs.declared.bars.Bars.{Bars}
use Rattle.tbl_layout.specs.declared.columns.Column.{Column}
use Rattle.tbl_layout.specs.declared.columns.Stands.{Stands}
use Rattle.tbl_layout.specs.declared.columns.Stands.TheVariants.{Nowhere}
use Rattle.tbl_layout.proofs.CellsAsOne.{EndsGrow, as_one-needs, grow-drop, grow-take, last_end-grows}
use Rattle.tbl_layout.proofs.EntriesFit.{entries-fit, laid-order, placed-many}
use Rattle.tbl_layout.proofs.SpanLaws.{holds-all}
use Rattle.tbl_text.specs.BlockLines.{has_word, lines_of, widest}
use Rattle.tbl_text.specs.BlockWords.{parts_of}
use Rattle.tbl_text.specs.Measuring.{measured}
use Rattle.tbl_layout.proofs.NeedsLaid.{Bounded, EachNeeds, each-needs, in-entries, in-wide, needs-drop, needs-laid, needs-placed_with, room-one, widest-one}

-- An entry of several columns is a text in one line of them, or nothing.
unsplit-room : (key : Key) (c : Column) (width : ℕ) → spanning key ≡ key → alone (unsplit key width) ≤ c.width → HasRoomFor c (unsplit key width)
unsplit-room Left c width same few = few
unsplit-room Right c width same few = few
unsplit-room Center c width same few = few
unsplit-room Numeric c width same few = few
unsplit-room WideNumeric c width same few = few
unsplit-room Alphabetic c width same few = absurd cc
unsplit-room Spanned c width same few = few
unsplit-room AboveKey c width same few = few
unsplit-room RuleKey c width same few = few
unsplit-room DoubleRule c width same few = few

no-number : (key : Key) → spanning key ≡ key → is_number key ≡ false
no-number Left same = refl
no-number Right same = refl
no-number Center same = refl
no-number Numeric same = absurd cc
no-number WideNumeric same = refl
no-number Alphabetic same = refl
no-number Spanned same = refl
no-number AboveKey same = refl
no-number RuleKey same = refl
no-number DoubleRule same = refl

text-room : (t : Bool) (key : Key) (c : Column) (text : List ℕ) → t ≡ false → spanning key ≡ key
    → alone (text_stands key (measured t text).width (measured t text).split) ≤ c.width
    → HasRoomFor c (text_stands key (measured t text).width (measured t text).split)
text-room true key c text is same few = absurd cc
text-room false key c text is same few = unsplit-room key c (measured false text).width same few

block-room : (t : Bool) (key : Key) (c : Column) (width : ℕ) → spanning key ≡ key
    → alone (if t then unsplit key width else Nowhere) ≤ c.width → HasRoomFor c (if t then unsplit key width else Nowhere)
block-room true key c width same few = unsplit-room key c width same few
block-room false key c width same few = tt

wide-room : (key : Key) (f : Content) (c : Column) → spanning key ≡ key → alone (stands key f) ≤ c.width → HasRoomFor c (stands key f)
wide-room key (Text []) c same few = tt
wide-room key (Text (b ∷ bytes)) c same few = text-room (is_number key) key c (b ∷ bytes) (no-number key same) same few
wide-room key (Block measure lines) c same few =
    let parts = parts_of lines in block-room (has_word parts) key c (widest (lines_of measure parts)) same few
wide-room key (Ruled sign) c same few = tt
wide-room key Short c same few = tt
wide-room key (Repeated b) c same few = tt
wide-room key Above c same few = tt

-- Columns as one are as wide as the first.
first-wide : (c : Column) (columns : List Column) → EndsGrow (c ∷ columns) → c.width ≤ (as_one (c ∷ columns)).width
first-wide c [] grow = omega arith
first-wide c (d ∷ columns) grow = omega (arith, last_end-grows 0 c (d ∷ columns) grow)

grow-apart : (bars : Bars) (asked : List Asked) (columns : List Column) → length columns ≡ length asked → AreApart bars asked columns
    → EndsGrow columns
grow-apart bars asked [] same apart = tt
grow-apart bars asked (c ∷ []) same apart = tt
grow-apart bars [] (c ∷ d ∷ columns) same apart = absurd (omega (arith, same))
grow-apart bars (a ∷ asked) (c ∷ d ∷ columns) same apart =
    (omega (arith, apart.0), grow-apart bars asked (d ∷ columns) (omega (arith, same)) apart.1)

-- cells end in order
pub end-far : (from : ℕ) (keys : List FormatKey) → AreCells from keys → from ≤ columns_behind from keys
end-far from [] cells = omega arith
end-far from (k ∷ keys) cells = omega (arith, cells.0, end-far k.end keys cells.1)

abbrev no_stands : List Stands
no_stands = []

none-at : (i : ℕ) → get_or no_stands i Nowhere ≡ Nowhere
none-at i = get_or_past no_stands i Nowhere (omega arith)

-- How an entry of so many columns stands in them.
not-both : (t : Bool) → t ≡ true → t ≡ false → ⊥
not-both true is other = absurd cc
not-both false is other = absurd cc

one-of : (count : ℕ) → (count == 1) ≡ true → count ≡ 1
one-of count is = elim (cases_eq count 1) [
  | inl one ↦ one
  | inr other ↦ absurd (not-both (count == 1) is (ne_eqb count 1 other))
]

by-one : (t : Bool) (count : ℕ) (e : Stands) → (count == 1) ≡ t → length (if t then e ∷ [] else replicate count Nowhere) ≡ count
by-one true count e is = sym (one-of count is)
by-one false count e is = length-replicate count Nowhere

length-in : (count : ℕ) (e : Stands) → length (in_columns count e) ≡ count
length-in count e = by-one (count == 1) count e refl

wide-some : (from count width : ℕ) → count ≢ 1 → width ≢ 0
    → if_wide from count width ≡ record { from = from; count = count; width = width } ∷ []
wide-some from count width several some =
    let w : Wide = record { from = from; count = count; width = width } in
    ap (λ (t : Bool). if t || width == 0 then [] else w ∷ []) (ne_eqb count 1 several)
    ∙ ap (λ (t : Bool). if t then [] else w ∷ []) (ne_eqb width 0 some)

no-wide : (from : ℕ) (keys : List FormatKey) → wide_entries stands from keys [] ≡ []
no-wide from [] = refl
no-wide from (k ∷ keys) = refl

none-contained : {X : Type 0} (xs : List X) (x : X) → xs ≡ [] → Contains xs x → ⊥
none-contained xs x none is = omega (arith, ap length none, is.1)

-- what has a width counts for the columns
counted-plain : (k : FormatKey) (e : Stands) → k.has_no_width ≡ false → counted k e ≡ e
counted-plain k e plain = ap (λ (t : Bool). if t then Nowhere else e) plain

module _ (all : List Element) (columns : List Column) (row : List Stands)
    (bounds : (i : ℕ) → Bounded (get_or row i Nowhere) (entries_of i all)) (wide : FitAsOne (all_wide all) columns) where
  -- a field in its one column
  field-one : (a : Asked) (c : Column) (at : ℕ) (e : Stands) → c.needs ≡ needs_of (entries_of at all) → width_by a c.needs ≤ c.width
      → get_or row at Nowhere ≡ e → HasRoomFor c e
  field-one a c at e own enough is =
      subst (HasRoomFor c) is (room-one a (entries_of at all) c own enough (get_or row at Nowhere) (bounds at))

  plain-fits : (cs : List Column) (from : ℕ) (fields : List Content) (asked : List Asked) → EachNeeds all from asked cs
      → length asked ≡ length cs
      → ((i : ℕ) → get_or row (from + i) Nowhere ≡ get_or (row_stands stands from [] fields) i Nowhere)
      → FieldsFit [] fields (map as_one (map (λ (c : Column). c ∷ []) cs))
  plain-fits [] from fields asked each same is = tt
  plain-fits (c ∷ cs) from fields [] each same is = absurd (omega (arith, same))
  plain-fits (c ∷ cs) from [] (a ∷ asked) each same is = (
    record { entry = tt; widest = widest-one a (entries_of from all) c each.0 each.1 },
    plain-fits cs (suc from) [] asked each.2 (omega (arith, same)) (λ i.
        let next : from + suc i ≡ suc from + i = omega arith in
        sym (ap (λ (n : ℕ). get_or row n Nowhere) next) ∙ is (suc i) ∙ none-at (suc i) ∙ sym (none-at i)),
  )
  plain-fits (c ∷ cs) from (f ∷ fields) (a ∷ asked) each same is = (
    record {
      entry = let here : from + 0 ≡ from = omega arith in
          field-one a c from (stands Left f) each.0 each.1 (sym (ap (λ (n : ℕ). get_or row n Nowhere) here) ∙ is 0);
      widest = widest-one a (entries_of from all) c each.0 each.1;
    },
    plain-fits cs (suc from) fields asked each.2 (omega (arith, same)) (λ i.
        let next : from + suc i ≡ suc from + i = omega arith in sym (ap (λ (n : ℕ). get_or row n Nowhere) next) ∙ is (suc i)),
  )

  -- one in several columns
  field-wide : (key : Key) (f : Content) (from m : ℕ) (c : Column) (cs : List Column) → spanning key ≡ key → drop from columns ≡ c ∷ cs
      → suc m ≤ length cs
      → (alone (stands key f) ≢ 0 → Contains (all_wide all) (record { from = from; count = suc (suc m); width = alone (stands key f) }))
      → HasRoomFor (as_one (c ∷ take (suc m) cs)) (stands key f)
  field-wide key f from m c cs same here many is =
      wide-room key f (as_one (c ∷ take (suc m) cs)) same (elim (cases_eq (alone (stands key f)) 0) [
        | inl none ↦ omega (arith, none)
        | inr some ↦
            let w : Wide = record { from = from; count = suc (suc m); width = alone (stands key f) } in
            let lies : from + suc (suc m) ≤ length columns = omega (arith, many, length-drop from columns, ap length here) in
            omega (
              arith,
              wide.each w (is some) (omega arith) lies,
              ap (λ (xs : List Column). (as_one (take (suc (suc m)) xs)).width) here,
            )
      ])

  -- the first cell, of so many columns
  first-entry : (k : FormatKey) (keys : List FormatKey) (from m : ℕ) (f : Content) (fields : List Content) (a : Asked) (c : Column) (cs : List Column)
      → k.end - from ≡ suc m → drop from columns ≡ c ∷ cs → m ≤ length cs → c.needs ≡ needs_of (entries_of from all)
      → width_by a c.needs ≤ c.width → (from + 1 < k.end → spanning k.key ≡ k.key) → k.has_no_width ≡ false
      → get_or row (from + 0) Nowhere ≡ get_or (row_stands stands from (k ∷ keys) (f ∷ fields)) 0 Nowhere
      → ((w : Wide) → Contains (wide_entries stands from (k ∷ keys) (f ∷ fields)) w → Contains (all_wide all) w)
      → HasRoomFor (as_one (c ∷ take m cs)) (stands k.key f)
  first-entry k keys from zero f fields a c cs count here many own enough spanned plain is wides =
      let e = counted k (stands k.key f) in
      let rest = row_stands stands k.end keys fields in
      let at : from + 0 ≡ from = omega arith in
      field-one a c from (stands k.key f) own enough
      (sym (ap (λ (n : ℕ). get_or row n Nowhere) at) ∙ is
      ∙ ap (λ (n : ℕ). get_or (in_columns n e ++ rest) 0 Nowhere) count
      ∙ ap (λ (t : Bool). get_or ((if t then e ∷ [] else replicate (suc zero) Nowhere) ++ rest) 0 Nowhere) (eq-eqb (suc zero) 1 refl)
      ∙ counted-plain k (stands k.key f) plain)
  first-entry k keys from (suc m) f fields a c cs count here many own enough spanned plain is wides =
      let width = alone (stands k.key f) in
      let w : Wide = record { from = from; count = suc (suc m); width = width } in
      let rest = wide_entries stands k.end keys fields in
      field-wide k.key f from m c cs (spanned (omega (arith, count))) here many (λ some.
      wides w (subst (λ (e : Stands). Contains (if_wide from (k.end - from) (alone e) ++ rest) w) (sym (counted-plain k (stands k.key f) plain))
      (subst (λ (n : ℕ). Contains (if_wide from n width ++ rest) w) (sym count)
      (subst (λ (ws : List Wide). Contains (ws ++ rest) w) (sym (wide-some from (suc (suc m)) width (λ one. omega (arith, one)) some))
      (Contains-append_left (w ∷ []) rest w (Contains-get_or (w ∷ []) 0 w (omega arith)))))))

  first-widest : (a : Asked) (at m : ℕ) (c : Column) (cs : List Column) → EndsGrow (c ∷ cs) → c.needs ≡ needs_of (entries_of at all)
      → width_by a c.needs ≤ c.width → widest_entry (as_one (c ∷ take m cs)).needs ≤ (as_one (c ∷ take m cs)).width
  first-widest a at m c cs grow own enough =
      omega (
        arith,
        ap widest_entry (as_one-needs c (take m cs)),
        widest-one a (entries_of at all) c own enough,
        first-wide c (take m cs) (grow-take (suc m) (c ∷ cs) grow),
      )

  -- all cells
  record Behind (keys : List FormatKey) (from : ℕ) (asked : List Asked) (cs : List Column) : Type 0 where
    here : drop from columns ≡ cs
    grow : EndsGrow cs
    each : EachNeeds all from asked cs
    same : length asked ≡ length cs
    order : AreCells from keys
    short : columns_behind from keys ≤ from + length cs
    spanned : HaveWideKeys from keys
    plain : AllByRecursion (λ (k : FormatKey). k.has_no_width ≡ false) keys

  behind-next : (k : FormatKey) (keys : List FormatKey) (from m : ℕ) (a : Asked) (asked : List Asked) (c : Column) (cs : List Column)
      → k.end ≡ from + suc m → Behind (k ∷ keys) from (a ∷ asked) (c ∷ cs) → Behind keys k.end (drop m asked) (drop m cs)
  behind-next k keys from m a asked c cs end b = record {
    here = ap (λ (n : ℕ). drop n columns) end ∙ sym (drop-drop (suc m) from columns) ∙ ap (drop (suc m)) b.here;
    grow = grow-drop (suc m) (c ∷ cs) b.grow;
    each = subst (λ (n : ℕ). EachNeeds all n (drop m asked) (drop m cs)) (sym end) (needs-drop (suc m) all from (a ∷ asked) (c ∷ cs) b.each);
    same = omega (arith, b.same, length-drop m asked, length-drop m cs);
    order = b.order.1;
    short = omega (arith, b.short, end, length-drop m cs);
    spanned = b.spanned.1;
    plain = b.plain.1;
  }

  all-fit : (keys : List FormatKey) (from : ℕ) (fields : List Content) (asked : List Asked) (cs : List Column) → Behind keys from asked cs
      → ((i : ℕ) → get_or row (from + i) Nowhere ≡ get_or (row_stands stands from keys fields) i Nowhere)
      → ((w : Wide) → Contains (wide_entries stands from keys fields) w → Contains (all_wide all) w)
      → FieldsFit keys fields (map as_one (by_cells from keys cs))
  all-fit [] from fields asked cs b is wides = plain-fits cs from fields asked b.each b.same is
  all-fit (k ∷ keys) from fields asked [] b is wides = absurd (omega (arith, b.order.0, b.short, end-far k.end keys b.order.1))
  all-fit (k ∷ keys) from fields [] (c ∷ cs) b is wides = absurd (omega (arith, b.same))
  all-fit (k ∷ keys) from [] (a ∷ asked) (c ∷ cs) b is wides =
      let m = k.end - from - 1 in
      let count : k.end - from ≡ suc m = omega (arith, b.order.0) in
      let end : k.end ≡ from + suc m = omega (arith, b.order.0) in
      subst (λ (n : ℕ). FieldFits (as_one (take n (c ∷ cs))) k.key (Text [])
      × FieldsFit keys [] (map as_one (by_cells k.end keys (drop n (c ∷ cs))))) (sym count) (
        record { entry = tt; widest = first-widest a from m c cs b.grow b.each.0 b.each.1 },
        all-fit keys k.end [] (drop m asked) (drop m cs) (behind-next k keys from m a asked c cs end b)
            (λ i.
            let next : k.end + i ≡ from + (suc m + i) = omega (arith, end) in
            ap (λ (n : ℕ). get_or row n Nowhere) next ∙ is (suc m + i) ∙ none-at (suc m + i) ∙ sym (none-at i))
            (λ w found. absurd (none-contained (wide_entries stands k.end keys []) w (no-wide k.end keys) found)),
      )
  all-fit (k ∷ keys) from (f ∷ fields) (a ∷ asked) (c ∷ cs) b is wides =
      let m = k.end - from - 1 in
      let count : k.end - from ≡ suc m = omega (arith, b.order.0) in
      let end : k.end ≡ from + suc m = omega (arith, b.order.0) in
      let e = counted k (stands k.key f) in
      let rest = row_stands stands k.end keys fields in
      let many : m ≤ length cs = omega (arith, b.short, end, end-far k.end keys b.order.1) in
      subst (λ (n : ℕ). FieldFits (as_one (take n (c ∷ cs))) k.key f
      × FieldsFit keys fields (map as_one (by_cells k.end keys (drop n (c ∷ cs))))) (sym count) (
        record {
          entry = first-entry k keys from m f fields a c cs count b.here many b.each.0 b.each.1 b.spanned.0 b.plain.0 (is 0) wides;
          widest = first-widest a from m c cs b.grow b.each.0 b.each.1;
        },
        all-fit keys k.end fields (drop m asked) (drop m cs) (behind-next k keys from m a asked c cs end b)
            (λ i.
            let next : k.end + i ≡ from + (k.end - from + i) = omega (arith, b.order.0) in
            let long : k.end - from + i ≡ length (in_columns (k.end - from) e) + i = omega (arith, length-in (k.end - from) e) in
            ap (λ (n : ℕ). get_or row n Nowhere) next ∙ is (k.end - from + i)
            ∙ ap (λ (n : ℕ). get_or (in_columns (k.end - from) e ++ rest) n Nowhere) long
            ∙ get_or-append-add (in_columns (k.end - from) e) rest i Nowhere)
            (λ w found. wides w (Contains-append_right (if_wide from (k.end - from) (alone e)) (wide_entries stands k.end keys fields) w found)),
      )

pub fields-fit : (bars : Bars) (is_expanded : Bool) (line_length : ℕ) (asked : List Asked) (elements before after : List Element)
    (rules : List FormatRow) (format : FormatRow) (fields : List Content)
    → filled bars line_length asked elements ≡ before ++ Row rules format fields ∷ after → AreWithin (length asked) format.keys
    → HaveWideKeys 0 format.keys → AllByRecursion (λ (k : FormatKey). k.has_no_width ≡ false) format.keys
    → FieldsFit format.keys fields
    (cells_of format.keys (laid_by bars is_expanded line_length asked (columns_laid bars line_length asked elements)).columns)
fields-fit bars is_expanded line_length asked elements before after rules format fields is within spanned plain =
    let all = filled bars line_length asked elements in
    let columns = columns_laid bars line_length asked elements in
    let placed = (laid_by bars is_expanded line_length asked columns).columns in
    let order = laid-order bars line_length asked elements is_expanded in
    let many = placed-many bars line_length asked elements is_expanded in
    let row = row_stands stands 0 format.keys fields in
    let holds = holds-all bars line_length asked elements in
    let more = lacking is_expanded line_length (width_of_all bars columns asked) (total (gaps bars asked)) in
    let each : EachNeeds all 0 asked placed =
    each-needs all 0 asked columns placed holds.own order.widths
    (needs-placed_with bars more asked columns ∙ needs-laid bars line_length asked elements) in
    let greater : (h : Stands → ℕ) (i : ℕ) → h (get_or row i Nowhere) ≤ greatest (map h (entries_of i all)) = λ h i.
    subst (λ (es : List Element). h (get_or row i Nowhere) ≤ greatest (map h (entries_of i es))) (sym is)
    (in-entries h i before after rules format fields) in
    all-fit all placed row
    (λ i. record { alone_few = greater alone i; strip_few = greater in_strip i; left_few = greater left_of i; right_few = greater right_of i })
    (entries-fit bars is_expanded line_length asked elements).wide format.keys 0 fields asked placed
    (record {
      here = refl;
      grow = grow-apart bars asked placed many order.apart;
      each = each;
      same = sym many;
      order = within.cells;
      short = omega (arith, within.short, columns_of-behind format.keys, many);
      spanned = spanned;
      plain = plain;
    })
    (λ i. let same : 0 + i ≡ i = omega arith in ap (λ (n : ℕ). get_or row n Nowhere) same)
    (λ w found. subst (λ (es : List Element). Contains (all_wide es) w) (sym is) (in-wide before after rules format fields w found))
