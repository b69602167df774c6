-- What a step of a walk does within a row of a picture.
use Rattle.std.proofs.Common.{◌≡◌, ℕ, zero, suc, ◌+◌, ◌≤◌, ◌<◌, Bool, true, false, List, [], ◌∷◌, ◌++◌, length, drop, refl, sym, ap, subst, ◌∙◌, arith, append_assoc, length-append, ◌==◌, length-drop}
use Rattle.std.specs.List.{AllByRecursion}
use Rattle.tbl_format.specs.Format.{FormatRow}
use Rattle.tbl_format.specs.RowsServed.{row_at}
use Rattle.tbl_layout.specs.declared.bars.Bars.{Bars}
use Rattle.tbl_kept.specs.Rows.{Command, ElementLaid, IsPlain, KeptElement, KeptRows, Row, RowLaid, RowsLaid, Rule, elements_of, fields_of, height_of}
use Rattle.tbl_layout.specs.declared.columns.Column.{Column}
use Rattle.tbl_layout.specs.Entries.{Content}
use Rattle.tbl_layout.specs.declared.entry.Entry.{Entry}
use Rattle.tbl_picture.specs.ElementsWalked.{CanWalk, FirstFits, IsInRow, StandsAt, Steps, gone_on, lines_on, row_to_come, rule_steps, steps_by, steps_in_row, steps_left, steps_on, still_to_come, to_come_by}
use Rattle.tbl_lines.specs.PictureLines.{OfRow}
use Rattle.tbl_pieces.specs.PieceQueue.{KeptPieces}
use Rattle.tbl_pieces.specs.Pieces.{AreWithin}
use Rattle.tbl_lines.specs.RulePlaces.{HavePlaces}
use Rattle.tbl_picture.specs.RulesWalked.{AreServed, IsRowFirst, IsRowThere, line_of_first, sheet_of}
use Rattle.tbl_picture.specs.Walks.{IsOn, IsUnderWay, KeptWalk, RowEnds, RowEndsOrGoesOn, RowSteps, Stays, WalkedRow, row_left, row_steps, walked}
use Rattle.tbl_picture.specs.Nexts.{AtCell, AtElement, AtEnd, AtFront, AtLine, AtRule, AtRuleRow, AtTop, AtWord, Next}
use Rattle.tbl_format.proofs.CellColumns.{cells-few}
use Rattle.tbl_layout.specs.KeptEntries.{all_entries}
use Rattle.tbl_layout.specs.Spans.{cells_of}
use Rattle.tbl_kept.proofs.AllLaid.{all-short}
use Rattle.tbl_lines.proofs.CellsLent.{length-cells_of}
use Rattle.tbl_lines.proofs.RowColumns.{drop-next, drop-none}
use Rattle.tbl_picture.proofs.RowsOn.{some-on, steps-on}
use Rattle.tbl_picture.proofs.StepsGiven.{gives}

-- an element of which it is known
pub all-at : {A : Type 0} (P : A → Type 0) (n : ℕ) (xs : List A) (x : A) (rest : List A) → AllByRecursion P xs → drop n xs ≡ x ∷ rest → P x
all-at P n [] x rest all is = absurd (let no_one = sym (drop-none n) ∙ is in cc)
all-at P zero (y ∷ xs) x rest all is = let same : y ≡ x = cc in subst P same all.0
all-at P (suc n) (y ∷ xs) x rest all is = all-at P n xs x rest all.1 is

-- where some are left
pub within-drop : (n : ℕ) (xs : List KeptElement) (x : KeptElement) (rest : List KeptElement) → drop n xs ≡ x ∷ rest → suc n ≤ length xs
within-drop n xs x rest is = omega (arith, length-drop n xs, ap length is)

-- the rows of elements that are laid out have rows of the formats
pub rows-served : (bytes : List ℕ) (formats : List FormatRow) (columns : ℕ) (elements : List KeptElement)
    → AllByRecursion (ElementLaid bytes formats columns) elements → AreServed formats elements
rows-served bytes formats columns [] all = tt
rows-served bytes formats columns (Row keys rules height entries ∷ elements) all =
    (record { serves = all.0.serves; in_front = all.0.in_front }, rows-served bytes formats columns elements all.1)
rows-served bytes formats columns (Rule sign ∷ elements) all = (tt, rows-served bytes formats columns elements all.1)
rows-served bytes formats columns (Command from to ∷ elements) all = (tt, rows-served bytes formats columns elements all.1)

-- and the first of those that are left has no more in it than there are columns
all-drop : {A : Type 0} (P : A → Type 0) (n : ℕ) (xs : List A) → AllByRecursion P xs → AllByRecursion P (drop n xs)
all-drop P n [] all = subst (AllByRecursion P) (sym (drop-none n)) tt
all-drop P zero (x ∷ xs) all = all
all-drop P (suc n) (x ∷ xs) all = all-drop P n xs all.1

-- all that stands in a row has a cell, and no more cells than columns
pub stand-few : (bytes : List ℕ) (formats : List FormatRow) (columns keys rules : ℕ) (entries : List Entry)
    → RowLaid bytes formats columns keys rules entries → length (all_entries (row_at formats keys) entries) ≤ columns
stand-few bytes formats columns keys rules entries laid =
    omega (
      arith,
      all-short (row_at formats keys) entries,
      laid.short,
      laid.cells.short,
      cells-few (row_at formats keys).keys laid.cells.cells,
    )

pub stand-short : (bytes : List ℕ) (formats : List FormatRow) (columns : List Column) (keys rules : ℕ) (entries : List Entry)
    → RowLaid bytes formats (length columns) keys rules entries
    → length (all_entries (row_at formats keys) entries) ≤ length (cells_of (row_at formats keys).keys columns)
stand-short bytes formats columns keys rules entries laid =
    omega (
      arith,
      all-short (row_at formats keys) entries,
      laid.short,
      length-cells_of (row_at formats keys).keys columns laid.cells,
    )

fits-first : (bytes : List ℕ) (formats : List FormatRow) (columns room : ℕ) (elements : List KeptElement)
    → AllByRecursion (ElementLaid bytes formats columns) elements → columns ≤ room → FirstFits room formats elements
fits-first bytes formats columns room [] all fits = tt
fits-first bytes formats columns room (Row keys rules height entries ∷ elements) all fits =
    omega (arith, stand-few bytes formats columns keys rules entries all.0, fits)
fits-first bytes formats columns room (Rule sign ∷ elements) all fits = tt
fits-first bytes formats columns room (Command from to ∷ elements) all fits = tt

pub first-fits : (bytes : List ℕ) (formats : List FormatRow) (rows : KeptRows) (w : KeptWalk) → CanWalk bytes formats rows w
    → FirstFits w.room formats (drop w.element rows.elements)
first-fits bytes formats rows w can =
    fits-first bytes formats (length rows.columns) w.room (drop w.element rows.elements)
    (all-drop (ElementLaid bytes formats (length rows.columns)) w.element rows.elements can.laid.elements) can.room

-- in a row, what is to come of it, and its steps
module _ (bytes : List ℕ) (formats : List FormatRow) (rows : KeptRows) (w : KeptWalk) (elements : List KeptElement) where
  lines-on : (n : Next) → IsOn n → to_come_by n bytes formats rows w elements ≡ row_to_come bytes formats rows w elements
  lines-on AtTop on = absurd on
  lines-on AtElement on = absurd on
  lines-on (AtRuleRow rule) on = absurd on
  lines-on (AtRule rule) on = absurd on
  lines-on AtEnd on = absurd on
  lines-on AtLine on = refl
  lines-on (AtFront at) on = refl
  lines-on AtCell on = refl
  lines-on (AtWord word width place) on = refl

  all-steps-on : (n : Next) → IsOn n → steps_by n bytes formats rows w elements ≡ steps_in_row bytes formats rows w elements
  all-steps-on AtTop on = absurd on
  all-steps-on AtElement on = absurd on
  all-steps-on (AtRuleRow rule) on = absurd on
  all-steps-on (AtRule rule) on = absurd on
  all-steps-on AtEnd on = absurd on
  all-steps-on AtLine on = refl
  all-steps-on (AtFront at) on = refl
  all-steps-on AtCell on = refl
  all-steps-on (AtWord word width place) on = refl

  stands-on : (n : Next) → IsOn n → IsInRow bytes formats rows w elements → StandsAt n bytes formats rows w elements
  stands-on AtTop on there = absurd on
  stands-on AtElement on there = absurd on
  stands-on (AtRuleRow rule) on there = absurd on
  stands-on (AtRule rule) on there = absurd on
  stands-on AtEnd on there = absurd on
  stands-on AtLine on there = there
  stands-on (AtFront at) on there = there
  stands-on AtCell on there = there
  stands-on (AtWord word width place) on there = there

-- what stays in steps within a row
pub does-stay : (t : Bool) (frame : List ℕ) (row : WalkedRow) (old new : KeptWalk) (before after : KeptPieces)
    → RowEndsOrGoesOn t frame row old new before after → Stays old new
does-stay true frame row old new before after s = s.stays
does-stay false frame row old new before after s = s.stays

-- what is under way in a row is on its way
pub under-on : (n : Next) (row : WalkedRow) (w : KeptWalk) → IsUnderWay n row w → IsOn n
under-on AtTop row w under = under
under-on AtElement row w under = under
under-on (AtRuleRow rule) row w under = under
under-on (AtRule rule) row w under = under
under-on AtEnd row w under = under
under-on AtLine row w under = tt
under-on (AtFront at) row w under = tt
under-on AtCell row w under = tt
under-on (AtWord word width place) row w under = tt

module _ (bytes frame : List ℕ) (formats : List FormatRow) (rows : KeptRows) (w : KeptWalk) (can : CanWalk bytes formats rows w)
    (before after : KeptPieces) (within : AreWithin bytes frame before.pieces) where
  -- a row that is walked
  module _ (keys rules height : ℕ) (entries : List Entry) (elements : List KeptElement) (at : drop w.element rows.elements ≡ Row keys rules height entries ∷ elements) where
    abbrev pub row : WalkedRow
    row = walked bytes formats w.bars w.picture_width rows.columns keys height entries

    abbrev pub fields : List Content
    fields = fields_of bytes (row_at formats keys) entries

    abbrev pub behind-row : List ℕ
    behind-row = lines_on (sheet_of rows w) true (OfRow (height == 1) (row_at formats keys) fields) (elements_of bytes formats elements)

    -- what is to come of a walk within the row
    to-come-on : (k : KeptWalk) → k.element ≡ w.element → k.bars ≡ w.bars → k.picture_width ≡ w.picture_width → IsOn k.next
        → still_to_come bytes formats rows k ≡ row_left k.next row k ++ behind-row
    to-come-on k same bars width on =
        let left : Bars → ℕ → List ℕ = λ b n.
        row_left k.next (walked bytes formats b n rows.columns keys height entries) k
        ++ lines_on (record { bars = b; width = n; columns = rows.columns }) true (OfRow (height == 1) (row_at formats keys) fields) (elements_of bytes formats elements) in
        lines-on bytes formats rows k (drop k.element rows.elements) k.next on
        ∙ ap (λ (n : ℕ). row_to_come bytes formats rows k (drop n rows.elements)) same
        ∙ ap (row_to_come bytes formats rows k) at
        ∙ ap (λ (b : Bars). left b k.picture_width) bars
        ∙ ap (left w.bars) width

    steps-within : (k : KeptWalk) → k.element ≡ w.element → k.bars ≡ w.bars → k.picture_width ≡ w.picture_width → IsOn k.next
        → steps_left bytes formats rows k ≡ row_steps k.next row k + (rule_steps rows.columns + steps_on bytes formats rows elements)
    steps-within k same bars width on =
        let left : Bars → ℕ → ℕ = λ b n.
        row_steps k.next (walked bytes formats b n rows.columns keys height entries) k + (rule_steps rows.columns + steps_on bytes formats rows elements) in
        all-steps-on bytes formats rows k (drop k.element rows.elements) k.next on
        ∙ ap (λ (n : ℕ). steps_in_row bytes formats rows k (drop n rows.elements)) same
        ∙ ap (steps_in_row bytes formats rows k) at
        ∙ ap (λ (b : Bars). left b k.picture_width) bars
        ∙ ap (left w.bars) width

    stands-within : (k : KeptWalk) → k.element ≡ w.element → k.bars ≡ w.bars → k.picture_width ≡ w.picture_width → IsOn k.next → IsUnderWay k.next row k
        → StandsAt k.next bytes formats rows k (drop k.element rows.elements)
    stands-within k same bars width on under =
        let left : Bars → ℕ → Type 0 = λ b n. IsUnderWay k.next (walked bytes formats b n rows.columns keys height entries) k in
        let there : left k.bars k.picture_width = subst (λ (b : Bars). left b k.picture_width) (sym bars) (subst (λ (n : ℕ). left w.bars n) (sym width) under) in
        let first : drop k.element rows.elements ≡ Row keys rules height entries ∷ elements = ap (λ (n : ℕ). drop n rows.elements) same ∙ at in
        stands-on bytes formats rows k (drop k.element rows.elements) k.next on (subst (IsInRow bytes formats rows k) (sym first) there)

    places-within : (k : KeptWalk) → k.bars ≡ w.bars → k.picture_width ≡ w.picture_width → HavePlaces formats (sheet_of rows k)
    places-within k bars width =
        let left : Bars → ℕ → Type 0 = λ b n. HavePlaces formats (record { bars = b; width = n; columns = rows.columns }) in
        subst (λ (b : Bars). left b k.picture_width) (sym bars) (subst (left w.bars) (sym width) can.places)

    some-now : IsOn w.next → IsUnderWay w.next row w → 0 < length (still_to_come bytes formats rows w)
    some-now on under =
        omega (
          arith,
          ap length (to-come-on w refl refl refl on),
          length-append (row_left w.next row w) behind-row,
          some-on w.next row w on under,
        )

    -- what is known of an element
    pub row-laid : RowLaid bytes formats (length rows.columns) keys rules entries
    row-laid = all-at (ElementLaid bytes formats (length rows.columns)) w.element rows.elements (Row keys rules height entries) elements can.laid.elements at

    pub row-plain : height ≡ height_of entries
    row-plain = all-at IsPlain w.element rows.elements (Row keys rules height entries) elements can.plain at

    -- a step within the row
    row-goes-on : (new : KeptWalk) → IsUnderWay w.next row w → RowSteps frame row w new before after → Steps bytes frame formats rows w new before after
    row-goes-on new under s =
        let on = under-on w.next row w under in
        gives bytes frame formats rows w before after within new s.added s.adds
        (to-come-on w refl refl refl on
        ∙ ap (λ (xs : List ℕ). xs ++ behind-row) s.joins
        ∙ append_assoc s.added (row_left new.next row new) behind-row
        ∙ ap (λ (xs : List ℕ). s.added ++ xs) (sym (to-come-on new s.stays.element s.stays.bars s.stays.width s.on)))
        (some-now on under)
        (record {
          laid = subst (λ (b : Bars). RowsLaid bytes formats b.boxing.is_inside rows) (sym s.stays.bars) can.laid;
          plain = can.plain;
          narrow = can.narrow;
          places = places-within new s.stays.bars s.stays.width;
          room = omega (arith, can.room, s.stays.room);
          element = omega (arith, can.element, s.stays.element);
          above = subst (IsRowThere rows.elements) (sym s.stays.above) can.above;
          next = stands-within new s.stays.element s.stays.bars s.stays.width s.on s.can;
        })
        (omega (arith, steps-within w refl refl refl on, steps-within new s.stays.element s.stays.bars s.stays.width s.on, s.less))
        s.stays.room

    -- a step that ends it
    row-ends : (mid : KeptWalk) → IsUnderWay w.next row w → RowEnds frame row w mid before after
        → Steps bytes frame formats rows w (gone_on true mid) before after
    row-ends mid under s =
        let on = under-on w.next row w under in
        let new = gone_on true mid in
        let first : drop mid.element rows.elements ≡ Row keys rules height entries ∷ elements = ap (λ (n : ℕ). drop n rows.elements) s.stays.element ∙ at in
        let next_is : mid.element + 1 ≡ suc mid.element = omega arith in
        let there : drop (mid.element + 1) rows.elements ≡ elements =
        ap (λ (n : ℕ). drop n rows.elements) next_is ∙ drop-next mid.element rows.elements (Row keys rules height entries) elements first in
        let left : Bars → ℕ → List ℕ = λ b n.
        lines_on (record { bars = b; width = n; columns = rows.columns }) true (OfRow (height == 1) (row_at formats keys) fields) (elements_of bytes formats elements) in
        let new_lines : still_to_come bytes formats rows new ≡ behind-row =
        ap (λ (es : List KeptElement). lines_on (sheet_of rows mid) true (line_of_first bytes formats false es) (elements_of bytes formats (drop (mid.element + 1) rows.elements))) first
        ∙ ap (λ (es : List KeptElement). lines_on (sheet_of rows mid) true (OfRow (height == 1) (row_at formats keys) fields) (elements_of bytes formats es)) there
        ∙ ap (λ (b : Bars). left b mid.picture_width) s.stays.bars
        ∙ ap (left w.bars) s.stays.width in
        gives bytes frame formats rows w before after within new s.added s.adds
        (to-come-on w refl refl refl on
        ∙ ap (λ (xs : List ℕ). xs ++ behind-row) s.all
        ∙ ap (λ (xs : List ℕ). s.added ++ xs) (sym new_lines))
        (some-now on under)
        (record {
          laid = subst (λ (b : Bars). RowsLaid bytes formats b.boxing.is_inside rows) (sym s.stays.bars) can.laid;
          plain = can.plain;
          narrow = can.narrow;
          places = places-within mid s.stays.bars s.stays.width;
          room = omega (arith, can.room, s.stays.room);
          element = omega (arith, within-drop mid.element rows.elements (Row keys rules height entries) elements first);
          above = subst IsRowFirst (sym first) tt;
          next = tt;
        })
        (omega (
          arith,
          steps-within w refl refl refl on,
          ap (steps_on bytes formats rows) there,
          steps-on w.next row w on under,
        ))
        s.stays.room

    pub row-by : (t : Bool) (mid : KeptWalk) → IsUnderWay w.next row w → RowEndsOrGoesOn t frame row w mid before after
        → Steps bytes frame formats rows w (gone_on t mid) before after
    row-by true mid under s = row-ends mid under s
    row-by false mid under s = row-goes-on mid under s
