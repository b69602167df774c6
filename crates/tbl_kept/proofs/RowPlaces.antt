-- Where the fields of rows lie, one row after another.
use Rattle.std.proofs.Common.{◌≡◌, ℕ, zero, suc, ◌+◌, ◌-◌, ◌<◌, ◌≤◌, List, [], ◌∷◌, ◌++◌, length, map, take, drop, get_or, set, refl, sym, ap, subst, ◌∙◌, arith, length-append, length-drop, drop-drop, drop_at, length-take-le, take-take, take_at}
use Rattle.std.specs.List.{slice_range}
use Rattle.tbl_layout.specs.declared.entry.Entry.{Entry}
use Rattle.tbl_layout.specs.declared.data_lines.RuleSign.{RuleSign}
use Rattle.tbl_text.proofs.BlockSlices.{length-slice_range}
use Rattle.tbl_kept.specs.Rows.{Command, KeptElement, Row, Rule, entries_in}
use Rattle.tbl_kept.specs.RowsInside.{IsSound, LieBetween, kept_by, kept_in}
use Rattle.tbl_kept.specs.declared.rows.Element.{Element}
use Rattle.tbl_kept.specs.declared.rows.Element.TheVariants.{Command as OneCommand, Row as OneRow, Rule as OneRule}
use Rattle.tbl_kept.specs.declared.rows.KeptRow.{KeptRow}
use Rattle.tbl_kept.specs.declared.rows.TableRows.TheInside.{Inside}
use Rattle.tbl_kept.proofs.KeptFields.{slice_range-front}

-- rows end behind where they begin
pub LieBetween-order : (from to : ℕ) (elements : List Element) → LieBetween from elements to → from ≤ to
LieBetween-order from to [] lie = omega (arith, lie)
LieBetween-order from to (OneRow row ∷ elements) lie = omega (arith, lie.0, lie.1, LieBetween-order row.to to elements lie.2)
LieBetween-order from to (OneRule sign ∷ elements) lie = LieBetween-order from to elements lie
LieBetween-order from to (OneCommand start end ∷ elements) lie = LieBetween-order from to elements lie

-- one row more, one rule, and one command
pub LieBetween-row : (from to : ℕ) (elements : List Element) (row : KeptRow) → row.from ≡ to → to ≤ row.to → LieBetween from elements to
    → LieBetween from (elements ++ OneRow row ∷ []) row.to
LieBetween-row from to [] row is more lie = (lie ∙ sym is, omega (arith, lie, more), refl)
LieBetween-row from to (OneRow first ∷ elements) row is more lie = (lie.0, lie.1, LieBetween-row first.to to elements row is more lie.2)
LieBetween-row from to (OneRule sign ∷ elements) row is more lie = LieBetween-row from to elements row is more lie
LieBetween-row from to (OneCommand start end ∷ elements) row is more lie = LieBetween-row from to elements row is more lie

pub LieBetween-rule : (from to : ℕ) (sign : RuleSign) (elements : List Element) → LieBetween from elements to
    → LieBetween from (elements ++ OneRule sign ∷ []) to
LieBetween-rule from to sign [] lie = lie
LieBetween-rule from to sign (OneRow first ∷ elements) lie = (lie.0, lie.1, LieBetween-rule first.to to sign elements lie.2)
LieBetween-rule from to sign (OneRule other ∷ elements) lie = LieBetween-rule from to sign elements lie
LieBetween-rule from to sign (OneCommand start end ∷ elements) lie = LieBetween-rule from to sign elements lie

pub LieBetween-command : (from to start end : ℕ) (elements : List Element) → LieBetween from elements to
    → LieBetween from (elements ++ OneCommand start end ∷ []) to
LieBetween-command from to start end [] lie = lie
LieBetween-command from to start end (OneRow first ∷ elements) lie = (lie.0, lie.1, LieBetween-command first.to to start end elements lie.2)
LieBetween-command from to start end (OneRule sign ∷ elements) lie = LieBetween-command from to start end elements lie
LieBetween-command from to start end (OneCommand other last ∷ elements) lie = LieBetween-command from to start end elements lie

module _ (fields : List Entry) where
  -- how many fields rows have
  pub entries_in-between : (from to : ℕ) (elements : List Element) → to ≤ length fields → LieBetween from elements to
      → from + entries_in (map (kept_in fields) elements) ≡ to
  entries_in-between from to [] within lie = omega (arith, lie)
  entries_in-between from to (OneRow row ∷ elements) within lie =
      let last = LieBetween-order row.to to elements lie.2 in
      omega (arith, lie.0, lie.1, last, within, entries_in-between row.to to elements within lie.2, length-slice_range fields row.from row.to (omega (arith, last, within)))
  entries_in-between from to (OneRule sign ∷ elements) within lie = omega (arith, entries_in-between from to elements within lie)
  entries_in-between from to (OneCommand start end ∷ elements) within lie = omega (arith, entries_in-between from to elements within lie)

  module _ (others : List Entry) where
    -- rows are by the fields in front of their end, and by those behind their start
    pub kept-front : (from to : ℕ) (elements : List Element) → take to fields ≡ take to others → LieBetween from elements to
        → map (kept_in fields) elements ≡ map (kept_in others) elements
    kept-front from to [] same lie = refl
    kept-front from to (OneRow row ∷ elements) same lie =
        let last = LieBetween-order row.to to elements lie.2 in
        let front : take row.to fields ≡ take row.to others =
        sym (take-take row.to to fields last) ∙ ap (λ (es : List Entry). take row.to es) same ∙ take-take row.to to others last in
        ap (λ (es : List Entry). Row row.keys row.rules row.height es ∷ map (kept_in fields) elements) (slice_range-front fields others row.from row.to front)
        ∙ ap (λ (es : List KeptElement). Row row.keys row.rules row.height (slice_range others row.from row.to) ∷ es) (kept-front row.to to elements same lie.2)
    kept-front from to (OneRule sign ∷ elements) same lie =
        ap (λ (es : List KeptElement). Rule sign ∷ es) (kept-front from to elements same lie)
    kept-front from to (OneCommand start end ∷ elements) same lie =
        ap (λ (es : List KeptElement). Command start end ∷ es) (kept-front from to elements same lie)

    pub drop-further : (from to : ℕ) → from ≤ to → drop from fields ≡ drop from others → drop to fields ≡ drop to others
    drop-further from to order same =
        let place : from + (to - from) ≡ to = omega (arith, order) in
        sym (drop-drop (to - from) from fields ∙ ap (λ (n : ℕ). drop n fields) place)
        ∙ ap (λ (es : List Entry). drop (to - from) es) same
        ∙ (drop-drop (to - from) from others ∙ ap (λ (n : ℕ). drop n others) place)

    pub kept-behind : (from to : ℕ) (elements : List Element) → drop from fields ≡ drop from others → LieBetween from elements to
        → map (kept_in fields) elements ≡ map (kept_in others) elements
    kept-behind from to [] same lie = refl
    kept-behind from to (OneRow row ∷ elements) same lie =
        let part : slice_range fields row.from row.to ≡ slice_range others row.from row.to =
        ap (λ (es : List Entry). take (row.to - row.from) es) (drop-further from row.from (omega (arith, lie.0)) same) in
        ap (λ (es : List Entry). Row row.keys row.rules row.height es ∷ map (kept_in fields) elements) part
        ∙ ap (λ (es : List KeptElement). Row row.keys row.rules row.height (slice_range others row.from row.to) ∷ es)
        (kept-behind row.to to elements (drop-further from row.to (omega (arith, lie.1)) same) lie.2)
    kept-behind from to (OneRule sign ∷ elements) same lie =
        ap (λ (es : List KeptElement). Rule sign ∷ es) (kept-behind from to elements same lie)
    kept-behind from to (OneCommand start end ∷ elements) same lie =
        ap (λ (es : List KeptElement). Command start end ∷ es) (kept-behind from to elements same lie)

-- one of the rows
pub record RowBetween (from to : ℕ) (row : KeptRow) : Type 0 where
  pub first : from ≤ row.from
  pub order : row.from ≤ row.to
  pub last : row.to ≤ to

pub LieBetween-at : (from to at : ℕ) (elements : List Element) (row : KeptRow) (none : Element) → at < length elements
    → get_or elements at none ≡ OneRow row → LieBetween from elements to → RowBetween from to row
LieBetween-at from to at [] row none more is lie = absurd (omega (arith, more))
LieBetween-at from to zero (OneRow first ∷ elements) row none more is lie =
    let same : first ≡ row = cc in
    subst (λ (r : KeptRow). RowBetween from to r) same
    (record { first = omega (arith, lie.0); order = omega (arith, lie.0, lie.1); last = LieBetween-order first.to to elements lie.2 })
LieBetween-at from to zero (OneRule sign ∷ elements) row none more is lie = absurd cc
LieBetween-at from to zero (OneCommand start end ∷ elements) row none more is lie = absurd cc
LieBetween-at from to (suc at) (OneRow first ∷ elements) row none more is lie =
    let rest = LieBetween-at first.to to at elements row none (omega (arith, more)) is lie.2 in
    record { first = omega (arith, lie.1, rest.first); order = rest.order; last = rest.last }
LieBetween-at from to (suc at) (OneRule sign ∷ elements) row none more is lie =
    LieBetween-at from to at elements row none (omega (arith, more)) is lie
LieBetween-at from to (suc at) (OneCommand start end ∷ elements) row none more is lie =
    LieBetween-at from to at elements row none (omega (arith, more)) is lie

-- the fields of one row changed
pub record RowChanged (fields others part : List Entry) (from to : ℕ) : Type 0 where
  pub front : take from others ≡ take from fields
  pub is : slice_range others from to ≡ part
  pub behind : drop to others ≡ drop to fields

module _ (row : KeptRow) (height : ℕ) where
  pub LieBetween-set : (from to at : ℕ) (elements : List Element) (none : Element) → at < length elements → get_or elements at none ≡ OneRow row
      → LieBetween from elements to → LieBetween from (set elements at (OneRow (record row { height = height }))) to
  LieBetween-set from to at [] none more is lie = absurd (omega (arith, more))
  LieBetween-set from to zero (OneRow first ∷ elements) none more is lie =
      let same : first ≡ row = cc in
      subst (λ (r : KeptRow). LieBetween from (OneRow (record r { height = height }) ∷ elements) to) same lie
  LieBetween-set from to zero (OneRule sign ∷ elements) none more is lie = absurd cc
  LieBetween-set from to zero (OneCommand start end ∷ elements) none more is lie = absurd cc
  LieBetween-set from to (suc at) (OneRow first ∷ elements) none more is lie =
      (lie.0, lie.1, LieBetween-set first.to to at elements none (omega (arith, more)) is lie.2)
  LieBetween-set from to (suc at) (OneRule sign ∷ elements) none more is lie =
      LieBetween-set from to at elements none (omega (arith, more)) is lie
  LieBetween-set from to (suc at) (OneCommand start end ∷ elements) none more is lie =
      LieBetween-set from to at elements none (omega (arith, more)) is lie

  module _ (fields others part : List Entry) (is_changed : RowChanged fields others part row.from row.to) where
    first-changed : (first : KeptRow) (to : ℕ) (elements : List Element) → first ≡ row → LieBetween first.to elements to
        → Row first.keys first.rules height (slice_range others first.from first.to) ∷ map (kept_in others) elements ≡ Row row.keys row.rules height part ∷ map (kept_in fields) elements
    first-changed first to elements same lie =
        let behind : drop first.to others ≡ drop first.to fields = subst (λ (r : KeptRow). drop r.to others ≡ drop r.to fields) (sym same) is_changed.behind in
        ap (λ (r : KeptRow). Row r.keys r.rules height (slice_range others r.from r.to) ∷ map (kept_in others) elements) same
        ∙ ap (λ (es : List Entry). Row row.keys row.rules height es ∷ map (kept_in others) elements) is_changed.is
        ∙ ap (λ (es : List KeptElement). Row row.keys row.rules height part ∷ es) (kept-behind others fields first.to to elements behind lie)

    pub kept-set : (from to at : ℕ) (elements : List Element) (none : Element) → at < length elements → get_or elements at none ≡ OneRow row
        → LieBetween from elements to
        → map (kept_in others) (set elements at (OneRow (record row { height = height })))
        ≡ set (map (kept_in fields) elements) at (Row row.keys row.rules height part)
    kept-set from to at [] none more is lie = absurd (omega (arith, more))
    kept-set from to zero (OneRow first ∷ elements) none more is lie =
        let same : first ≡ row = cc in
        ap (λ (r : KeptRow). Row r.keys r.rules height (slice_range others r.from r.to) ∷ map (kept_in others) elements) (sym same)
        ∙ first-changed first to elements same lie.2
    kept-set from to zero (OneRule sign ∷ elements) none more is lie = absurd cc
    kept-set from to zero (OneCommand start end ∷ elements) none more is lie = absurd cc
    kept-set from to (suc at) (OneRow first ∷ elements) none more is lie =
        let rest = LieBetween-at first.to to at elements row none (omega (arith, more)) is lie.2 in
        let front : take first.to others ≡ take first.to fields =
        sym (take-take first.to row.from others rest.first)
        ∙ ap (λ (es : List Entry). take first.to es) is_changed.front
        ∙ take-take first.to row.from fields rest.first in
        ap (λ (es : List Entry). Row first.keys first.rules first.height es ∷ map (kept_in others) (set elements at (OneRow (record row { height = height }))))
        (slice_range-front others fields first.from first.to front)
        ∙ ap (λ (es : List KeptElement). Row first.keys first.rules first.height (slice_range fields first.from first.to) ∷ es)
        (kept-set first.to to at elements none (omega (arith, more)) is lie.2)
    kept-set from to (suc at) (OneRule sign ∷ elements) none more is lie =
        ap (λ (es : List KeptElement). Rule sign ∷ es) (kept-set from to at elements none (omega (arith, more)) is lie)
    kept-set from to (suc at) (OneCommand start end ∷ elements) none more is lie =
        ap (λ (es : List KeptElement). Command start end ∷ es) (kept-set from to at elements none (omega (arith, more)) is lie)

-- what they are, one by one
pub length-kept : (fields : List Entry) (elements : List Element) → length (map (kept_in fields) elements) ≡ length elements
length-kept fields [] = refl
length-kept fields (e ∷ elements) = ap (λ (n : ℕ). suc n) (length-kept fields elements)

pub drop-kept : (fields : List Entry) (elements : List Element) (at : ℕ) (none e : Element) → at < length elements → get_or elements at none ≡ e
    → drop at (map (kept_in fields) elements) ≡ kept_in fields e ∷ drop (suc at) (map (kept_in fields) elements)
drop-kept fields [] at none e more is = absurd (omega (arith, more))
drop-kept fields (first ∷ elements) zero none e more is = ap (λ (x : Element). kept_in fields x ∷ map (kept_in fields) elements) is
drop-kept fields (first ∷ elements) (suc at) none e more is = drop-kept fields elements at none e (omega (arith, more)) is

pub kept-at : (fields : List Entry) (elements : List Element) (at : ℕ) (none e : Element) (other : KeptElement) → at < length elements → get_or elements at none ≡ e
    → get_or (map (kept_in fields) elements) at other ≡ kept_in fields e
kept-at fields [] at none e other more is = absurd (omega (arith, more))
kept-at fields (first ∷ elements) zero none e other more is = ap (kept_in fields) is
kept-at fields (first ∷ elements) (suc at) none e other more is = kept-at fields elements at none e other (omega (arith, more)) is

-- an element stands among those that are kept, and a row's fields among all
module _ (a : Inside) {at : ℕ} {e x : Element} (some : at < length (kept_by a).elements) (read : e ≡ get_or a.elements.items at e) (is : e ≡ x) where
  more-there : at < length a.elements.items
  more-there = omega (arith, some, length-kept a.entries.items a.elements.items)

  pub drop-there : drop at (kept_by a).elements ≡ kept_in a.entries.items x ∷ drop (suc at) (kept_by a).elements
  drop-there = drop-kept a.entries.items a.elements.items at e x more-there (sym read ∙ is)

  pub kept-there : get_or (kept_by a).elements at (Command 0 0) ≡ kept_in a.entries.items x
  kept-there = kept-at a.entries.items a.elements.items at e x (Command 0 0) more-there (sym read ∙ is)

pub record RowThere (a : Inside) (at : ℕ) (row : KeptRow) : Type 0 where
  pub more : at < length a.elements.items
  pub order : row.from ≤ row.to
  pub within : row.to ≤ length a.entries.items

pub row-there : {a : Inside} {at : ℕ} {e : Element} {row : KeptRow} → IsSound a → at < length (kept_by a).elements → e ≡ get_or a.elements.items at e
    → e ≡ OneRow row → RowThere a at row
row-there {a} {at} {e} {row} sound some read is =
    let more = more-there a some read is in
    let between = LieBetween-at 0 a.row_start at a.elements.items row e more (sym read ∙ is) sound.rows in
    record { more = more; order = between.order; within = omega (arith, between.last, sound.start) }

-- a part of fields written over
pub part-changed : (fields part : List Entry) (from to : ℕ) → from ≤ to → to ≤ length fields → length part ≡ to - from
    → RowChanged fields (take from fields ++ (part ++ drop (to - from) (drop from fields))) part from to
part-changed fields part from to order within len =
    let behind = drop (to - from) (drop from fields) in
    let others = take from fields ++ (part ++ behind) in
    let end : from + (to - from) ≡ to = omega (arith, order) in
    let front : length (take from fields) ≡ from = length-take-le from fields (omega (arith, order, within)) in
    let rest : drop from others ≡ part ++ behind = drop_at (take from fields) (part ++ behind) from front in
    record {
      front = take_at (take from fields) (part ++ behind) from front;
      is = ap (λ (es : List Entry). take (to - from) es) rest ∙ take_at part behind (to - from) len;
      behind = sym (drop-drop (to - from) from others ∙ ap (λ (n : ℕ). drop n others) end)
          ∙ ap (λ (es : List Entry). drop (to - from) es) rest ∙ drop_at part behind (to - from) len
          ∙ (drop-drop (to - from) from fields ∙ ap (λ (n : ℕ). drop n fields) end);
    }

pub length-changed : (fields part : List Entry) (from to : ℕ) → from ≤ to → to ≤ length fields → length part ≡ to - from
    → length (take from fields ++ (part ++ drop (to - from) (drop from fields))) ≡ length fields
length-changed fields part from to order within len =
    omega (
      arith,
      order,
      within,
      len,
      length-append (take from fields) (part ++ drop (to - from) (drop from fields)),
      length-append part (drop (to - from) (drop from fields)),
      length-take-le from fields (omega (arith, order, within)),
      length-drop (to - from) (drop from fields),
      length-drop from fields,
    )
