-- A picture with cells of several rows, of which nothing was given.
use Rattle.std.proofs.Common.{◌≡◌, ℕ, zero, suc, ◌-◌, ◌≤◌, ◌<◌, max, Bool, true, false, List, [], ◌∷◌, ◌++◌, drop, get_or, length, map, refl, sym, ap, subst, ◌∙◌, arith, if◌then◌else◌, ◌==◌}
use Rattle.std.specs.List.{AllByRecursion}
use Rattle.tbl_format.specs.Format.{FormatRow}
use Rattle.tbl_format.specs.RowsServed.{row_at}
use Rattle.tbl_format.specs.declared.format.FormatKey.{FormatKey}
use Rattle.tbl_kept.specs.Rows.{Command, KeptElement, KeptRows, Row, RowsLaid, Rule, elements_of, fields_of, heights_of, rows_in_front}
use Rattle.tbl_layout.specs.Entries.{Element, Rule as OneRule}
use Rattle.tbl_layout.specs.Heights.{height_in_front_of, heights_behind, lefts, rules_between}
use Rattle.tbl_layout.specs.declared.bars.Bars.{Bars}
use Rattle.tbl_lines.specs.CellsLeft.{cells_next}
use Rattle.tbl_lines.specs.LinesLeft.{Nothing}
use Rattle.tbl_lines.specs.PictureLeft.{picture_left, table_lines}
use Rattle.tbl_lines.specs.PictureLines.{Sheet, boxed, boxed_from, frame_sign}
use Rattle.tbl_lines.specs.RulePlaces.{HavePlaces}
use Rattle.tbl_lines.specs.RowsWalked.{AreNarrow}
use Rattle.tbl_giving.proofs.BoxedNow.{fresh, fresh-heights, kept-heights}
use Rattle.tbl_giving.specs.LinesWalked.{CanGo, HasCome, IsHigh, KeptLineByLine, RulesPlaced, StandsInFront, StandsNext, boxed_now, coming, elements_left, heights_left, heights_now, lines_to_come, parts_left, place_first}
use Rattle.tbl_giving.specs.PartsToCome.{ToCome, all_lines, at_first, behind_parts, parts_in}
use Rattle.tbl_picture.specs.Walks.{KeptWalk}
use Rattle.tbl_tall.specs.Bands.{keys_left, wholes_left}
use Rattle.tbl_tall.specs.LinesOver.{heights_kept}
use Rattle.tbl_tall.specs.TallRows.{Comes, KeptTall, RowsLie, keys_in_front, next_height, wholes_in_front}

-- each row of a table has a line
most-one : (n : ℕ) → 0 < max 1 n
most-one zero = omega arith
most-one (suc n) = omega arith

high-behind : (bytes : List ℕ) (formats : List FormatRow) (is_inside : Bool) (columns : ℕ) (above : List FormatKey) (left : List ℕ) (rules : ℕ)
    (kept : List KeptElement) → heights_of kept ≡ heights_behind is_inside columns above left rules (elements_of bytes formats kept)
    → AllByRecursion IsHigh kept
high-behind bytes formats is_inside columns above left rules [] is = tt
high-behind bytes formats is_inside columns above left rules (Row keys others height entries ∷ kept) is =
    let format = row_at formats keys in
    let fields = fields_of bytes format entries in
    let all = elements_of bytes formats kept in
    let here = lefts columns above left (rules_between is_inside rules (length (rows_in_front formats keys others))) format fields in
    let most = height_in_front_of format.keys all here in
    let first : height ≡ most = ap (λ (hs : List ℕ). get_or hs 0 0) is in (
      subst (λ (n : ℕ). 0 < n) (sym first) (most-one _),
      high-behind bytes formats is_inside columns format.keys (map (λ n. n - most) here) 0 kept (ap (λ (hs : List ℕ). drop 1 hs) is),
    )
high-behind bytes formats is_inside columns above left rules (Rule sign ∷ kept) is =
    (tt, high-behind bytes formats is_inside columns above left (suc rules) kept is)
high-behind bytes formats is_inside columns above left rules (Command from to ∷ kept) is =
    (tt, high-behind bytes formats is_inside columns above left rules kept is)

pub all-high : (bytes : List ℕ) (formats : List FormatRow) (is_inside : Bool) (rows : KeptRows) → RowsLaid bytes formats is_inside rows
    → AllByRecursion IsHigh rows.elements
all-high bytes formats is_inside rows laid =
    high-behind bytes formats is_inside (length rows.columns) [] [] 0 rows.elements laid.heights

module _ (bytes : List ℕ) (formats : List FormatRow) (rows : KeptRows) (bars : Bars) (width : ℕ) (tall : KeptTall) where
  abbrev s : Sheet
  s = record { bars = bars; width = width; columns = rows.columns }

  abbrev pub started : Bool → KeptLineByLine
  started t = record { element = 0; place = place_first t; tall = tall; bars = bars; width = width }

  abbrev all : List Element
  all = boxed bars.boxing (elements_of bytes formats rows.elements)

  abbrev inner : List Element
  inner = boxed_from bars.boxing false (elements_of bytes formats rows.elements)

  abbrev comes : Type 0
  comes = Comes bytes formats s tall (heights_kept rows.elements) (cells_next (length s.columns) [] [] (heights_kept rows.elements) all) Nothing all

  -- with the rule above everything, or without
  abbrev top : Bool → List Element → List Element
  top true elements = elements
  top false elements = OneRule (frame_sign bars.boxing.bars) ∷ elements

  all-is : (t : Bool) → (bars.boxing.bars == 0) ≡ t → all ≡ top t inner
  all-is true is = ap (λ (t : Bool). (if t then [] else OneRule (frame_sign bars.boxing.bars) ∷ []) ++ inner) is
  all-is false is = ap (λ (t : Bool). (if t then [] else OneRule (frame_sign bars.boxing.bars) ∷ []) ++ inner) is

  -- what is to come by what is kept
  left-is : (t : Bool) → (bars.boxing.bars == 0) ≡ t → comes → elements_left bytes formats rows (started t) ≡ all
  left-is true is front =
      let all_is = all-is true is in
      ap (λ (n : ℕ). boxed_now bars.boxing bytes formats n (keys_left formats tall.band) rows.elements)
      (front.wholes ∙ ap (λ (es : List Element). wholes_in_front es) all_is)
      ∙ ap (λ (rs : List FormatRow). boxed_now bars.boxing bytes formats (wholes_in_front inner) rs rows.elements)
      (front.rules ∙ ap (λ (es : List Element). keys_in_front es) all_is)
      ∙ fresh bars.boxing bytes formats false rows.elements ∙ sym all_is
  left-is false is front =
      let all_is = all-is false is in
      let wholes = front.wholes ∙ ap (λ (es : List Element). wholes_in_front es) all_is in
      let fewer : wholes_left tall.band - 1 ≡ wholes_in_front inner = omega (arith, wholes) in
      ap (λ (es : List Element). OneRule (frame_sign bars.boxing.bars) ∷ es)
      (ap (λ (n : ℕ). boxed_now bars.boxing bytes formats n (keys_left formats tall.band) rows.elements) fewer
      ∙ ap (λ (rs : List FormatRow). boxed_now bars.boxing bytes formats (wholes_in_front inner) rs rows.elements)
      (front.rules ∙ ap (λ (es : List Element). keys_in_front es) all_is)
      ∙ fresh bars.boxing bytes formats false rows.elements) ∙ sym all_is

  next-top : (t : Bool) (heights : List ℕ) (elements : List Element) → next_height heights (top t elements) ≡ next_height heights elements
  next-top true heights elements = refl
  next-top false heights elements = refl

  high-is : (t : Bool) → (bars.boxing.bars == 0) ≡ t → comes → heights_left rows (started t) ≡ heights_of rows.elements
  high-is t is front =
      let heights = kept-heights rows.elements in
      ap (λ (n : ℕ). heights_now n rows.elements)
      (front.height ∙ ap (λ (hs : List ℕ). next_height hs all) heights ∙ ap (λ (es : List Element). next_height (heights_of rows.elements) es) (all-is t is)
      ∙ next-top t (heights_of rows.elements) inner)
      ∙ fresh-heights bars.boxing bytes formats false rows.elements

  first-is : (t : Bool) → (bars.boxing.bars == 0) ≡ t → comes → coming bytes formats rows (started t) ≡ at_first s (heights_of rows.elements) all
  first-is t is front =
      let parts : parts_left bytes formats rows (started t) ≡ parts_in (heights_of rows.elements) all =
      ap (λ (hs : List ℕ). parts_in hs (elements_left bytes formats rows (started t))) (high-is t is front)
      ∙ ap (λ (es : List Element). parts_in (heights_of rows.elements) es) (left-is t is front) in
      let none : parts_in (heights_of rows.elements) all - parts_left bytes formats rows (started t) ≡ 0 = omega (arith, parts) in
      ap (λ (n : ℕ). behind_parts s (at_first s (heights_of rows.elements) all) n) none

  pub started-lines : (t : Bool) → (bars.boxing.bars == 0) ≡ t → comes → RowsLaid bytes formats bars.boxing.is_inside rows → (w : KeptWalk)
      → lines_to_come bytes formats rows (started t) w ≡ table_lines s (elements_of bytes formats rows.elements)
  started-lines true is front laid w =
      ap (λ (x : ToCome). all_lines s x) (first-is true is front)
      ∙ ap (λ (hs : List ℕ). picture_left s hs (elements_of bytes formats rows.elements)) laid.heights
  started-lines false is front laid w =
      ap (λ (x : ToCome). all_lines s x) (first-is false is front)
      ∙ ap (λ (hs : List ℕ). picture_left s hs (elements_of bytes formats rows.elements)) laid.heights

  front-stands : (t : Bool) → (bars.boxing.bars == 0) ≡ t → comes
      → StandsInFront bytes formats rows (started t) (coming bytes formats rows (started t))
  front-stands t is front =
      let comes_of = subst (λ (hs : List ℕ). Comes bytes formats s tall hs (cells_next (length s.columns) [] [] hs all) Nothing all) (kept-heights rows.elements) front in
      record {
        comes = subst (λ (x : ToCome). Comes bytes formats s tall x.heights x.cells x.above x.elements) (sym (first-is t is front)) comes_of;
        whole = high-is t is front;
      }

  stands-by : (t : Bool) → StandsInFront bytes formats rows (started t) (coming bytes formats rows (started t))
      → StandsNext (place_first t) bytes formats rows (started t) (coming bytes formats rows (started t))
  stands-by true stands = stands
  stands-by false stands = stands

  pub started-come : (t : Bool) → (bars.boxing.bars == 0) ≡ t → comes → RowsLaid bytes formats bars.boxing.is_inside rows → RowsLie formats rows
      → AreNarrow rows.columns → width < 4294967296 → HavePlaces formats s → AllByRecursion (RulesPlaced formats s) rows.elements
      → 0 < length rows.columns → length rows.columns ≤ tall.room → tall.come ≡ 0
      → (room : ℕ) → length rows.columns ≤ room → HasCome bytes formats rows (started t) room
  started-come t is front laid lie narrow wide places ruled some own come room few =
      let first = first-is t is front in
      record {
        drawn = record {
          laid = laid;
          lie = lie;
          high = all-high bytes formats bars.boxing.is_inside rows laid;
          narrow = narrow;
          wide = wide;
          places = places;
          ruled = ruled;
          some = some;
          room = own;
          few = few;
        };
        element = omega arith;
        ended = omega (arith, come);
        parts = omega (
          arith,
          ap (λ (hs : List ℕ). parts_in hs (elements_left bytes formats rows (started t))) (high-is t is front),
          ap (λ (es : List Element). parts_in (heights_of rows.elements) es) (left-is t is front),
        );
        elements = ap (λ (x : ToCome). x.elements) first ∙ sym (left-is t is front);
        heights = ap (λ (x : ToCome). x.heights) first ∙ sym (high-is t is front);
        stands = stands-by t (front-stands t is front);
      }

  pub started-can : (t : Bool) (w : KeptWalk) → HasCome bytes formats rows (started t) w.room → CanGo bytes formats rows (started t) w
  started-can true w come = record { come = come; under = tt }
  started-can false w come = record { come = come; under = tt }
