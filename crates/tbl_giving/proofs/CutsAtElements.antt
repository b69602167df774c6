-- How many entries are still to count in front of an element of a table, and behind it.
use Rattle.std.proofs.Common.{◌≡◌, ℕ, suc, ◌+◌, ◌<◌, Bool, List, [], ◌∷◌, ◌++◌, drop, get_or, length, Some, refl, sym, ap, subst, ◌∙◌, arith, drop-cons, append-nil, ◌==◌, true, false, get_or-drop}
use Rattle.std.specs.List.{AllByRecursion, slice_range}
use Rattle.tbl_format.proofs.Elements.{each-at}
use Rattle.tbl_format.specs.Format.{FormatRow}
use Rattle.tbl_format.specs.RowsServed.{row_at}
use Rattle.tbl_giving.proofs.BoxedNow.{kept-heights}
use Rattle.tbl_giving.proofs.CutsInFront.{front-is, next-places, top-places}
use Rattle.tbl_giving.specs.CutsCounted.{CanCount, CutsCome, CutsGo, ElementGoes, ElementsCount, FrameComes, FrontComes, FrontOf, IsHigh, RowComes, RowOnly, RulesPlaced, SomeCount}
use Rattle.tbl_kept.proofs.RowsUnfilled.{each-drop}
use Rattle.tbl_kept.specs.Rows.{Command as CommandKept, KeptElement, KeptRows, Row as RowKept, Rule as RuleKept, elements_of, fields_of}
use Rattle.tbl_kept.specs.RowsLaying.{element_at}
use Rattle.tbl_layout.specs.Entries.{Command, Content, Element, Row, Rule}
use Rattle.tbl_layout.specs.Heights.{heights}
use Rattle.tbl_layout.specs.declared.data_lines.RuleSign.{RuleSign}
use Rattle.tbl_layout.specs.declared.entry.Entry.{Entry}
use Rattle.tbl_lines.specs.CellsLeft.{Left, cells_next}
use Rattle.tbl_lines.specs.CutEntries.{cut_entries, cut_from}
use Rattle.tbl_lines.specs.LinesLeft.{Beside, Nothing}
use Rattle.tbl_lines.specs.PictureLines.{Sheet, Whole, boxed, boxed_from, frame_rules, frame_sign}
use Rattle.tbl_picture.proofs.BoxedElements.{boxed-command, boxed-none, boxed-rule}
use Rattle.tbl_tall.specs.BandLaws.{NextPlaces}
use Rattle.tbl_tall.specs.LinesNext.{CanLayRule}
use Rattle.tbl_tall.specs.LinesOver.{heights_kept}
use Rattle.tbl_tall.specs.TallRows.{Comes, KeptTall, WholeComes}

-- an element at its place
pub element-is : (elements : List KeptElement) (at : ℕ) (e : KeptElement) (more : List KeptElement) → drop at elements ≡ e ∷ more → element_at elements at ≡ e
element-is elements at e more is =
    let here : at ≡ at + 0 = omega arith in
    ap (λ (n : ℕ). element_at elements n) here ∙ sym (get_or-drop at elements 0 (CommandKept 0 0))
    ∙ ap (λ (es : List KeptElement). get_or es 0 (CommandKept 0 0)) is

pub element-first : (elements : List KeptElement) (at : ℕ) (e : KeptElement) → at < length elements → element_at elements at ≡ e
    → drop at elements ≡ e ∷ drop (suc at) elements
element-first elements at e within is =
    drop-cons elements at (CommandKept 0 0) within ∙ ap (λ (k : KeptElement). k ∷ drop (suc at) elements) is

-- a row has a line
pub row-high : (elements : List KeptElement) (at : ℕ) {keys rules height : ℕ} {entries : List Entry} {more : List KeptElement}
    → AllByRecursion IsHigh elements → drop at elements ≡ RowKept keys rules height entries ∷ more → 0 < get_or (heights_kept (drop at elements)) 0 0
row-high elements at {keys} {rules} {height} {entries} {more} high is =
    let some : 0 < height = each-at IsHigh elements at (RowKept keys rules height entries) more high is in
    subst (λ (es : List KeptElement). 0 < get_or (heights_kept es) 0 0) (sym is) some

pub heights-behind : {kept : List KeptElement} {keys rules height : ℕ} {entries : List Entry} {more : List KeptElement}
    → kept ≡ RowKept keys rules height entries ∷ more → drop 1 (heights_kept kept) ≡ heights_kept more
heights-behind is = ap (λ (es : List KeptElement). drop 1 (heights_kept es)) is

-- on the line of rules that a box adds, if it adds one, so many entries are counted
abbrev pub CountsFrame : ℕ → List ℕ → List FormatRow → Sheet → KeptTall → KeptTall → Type 0
CountsFrame counted bytes formats s old new = (heights : List ℕ) (rest : List Element) (count : ℕ) → NextPlaces s (frame_rules s.bars.boxing ++ rest)
    → CutsCome bytes formats s old heights (frame_rules s.bars.boxing ++ rest) count → CutsGo counted bytes formats s new heights rest count

-- and so many on the lines of an element
pub more-goes : {counted here at count : ℕ} {bytes : List ℕ} {formats : List FormatRow} {s : Sheet} {rows : KeptRows} {t new : KeptTall}
    (go : ElementGoes counted bytes formats s rows t at count) → ElementGoes here bytes formats s rows new (suc at) go.more
    → ElementGoes (counted + here) bytes formats s rows new (at + 1) count
more-goes {counted} {here} {at} {count} {bytes} {formats} {s} {rows} {t} {new} go next =
    let one : suc at ≡ at + 1 = omega arith in
    subst (λ (n : ℕ). ElementGoes (counted + here) bytes formats s rows new n count) one
    (record { more = next.more; all = omega (arith, go.all, next.all); rest = next.rest })

module _ (bytes : List ℕ) (formats : List FormatRow) (s : Sheet) where
  -- nothing is given on a command
  comes-behind : (t : KeptTall) (heights : List ℕ) (cells : List Left) (above : Beside) (text : List ℕ) (elements : List Element)
      → Comes bytes formats s t heights cells above (Command text ∷ elements) → Comes bytes formats s t heights cells above elements
  comes-behind t heights cells above text elements comes = record {
    left = comes.left;
    keys = comes.keys;
    band = comes.band;
    wholes = comes.wholes;
    rules = comes.rules;
    height = comes.height;
    last = comes.last;
    fit = comes.fit;
    within = comes.within;
    some = comes.some;
    room = comes.room;
  }

  abbrev boxed_kept : Bool → List KeptElement → List Element
  boxed_kept behind kept = boxed_from s.bars.boxing behind (elements_of bytes formats kept)

  pub command-goes : (rows : KeptRows) (t : KeptTall) (at count from to : ℕ) → drop at rows.elements ≡ CommandKept from to ∷ drop (suc at) rows.elements
      → ElementsCount bytes formats s rows t at count → ElementGoes 0 bytes formats s rows t (suc at) count
  command-goes rows t at count from to is here =
      let more = drop (suc at) rows.elements in
      let text = slice_range bytes from to in
      let heights = heights_kept more in
      let rest = boxed_kept here.is_below more in
      let first : CutsCome bytes formats s t heights (boxed_kept here.is_below (CommandKept from to ∷ more)) count =
      subst (λ (es : List KeptElement). CutsCome bytes formats s t (heights_kept es) (boxed_kept here.is_below es) count) is here.come in
      let come : CutsCome bytes formats s t heights (Command text ∷ rest) count =
      subst (λ (es : List Element). CutsCome bytes formats s t heights es count)
      (boxed-command s.bars.boxing here.is_below text (elements_of bytes formats more)) first in
      record {
        more = count;
        all = omega arith;
        rest = record {
          is_below = here.is_below;
          come = record {
            cells = come.cells;
            above = come.above;
            comes = comes-behind t heights come.cells come.above text rest come.comes;
            many = come.many;
          };
        };
      }

  -- a rule that is an element comes
  pub rule-first : (rows : KeptRows) (t : KeptTall) (at count : ℕ) (sign : RuleSign) → drop at rows.elements ≡ RuleKept sign ∷ drop (suc at) rows.elements
      → ElementsCount bytes formats s rows t at count
      → CutsCome bytes formats s t (heights_kept (drop (suc at) rows.elements)) (Rule sign ∷ boxed_kept false (drop (suc at) rows.elements)) count
  rule-first rows t at count sign is here =
      let more = drop (suc at) rows.elements in
      let heights = heights_kept more in
      let first : CutsCome bytes formats s t heights (boxed_kept here.is_below (RuleKept sign ∷ more)) count =
      subst (λ (es : List KeptElement). CutsCome bytes formats s t (heights_kept es) (boxed_kept here.is_below es) count) is here.come in
      subst (λ (es : List Element). CutsCome bytes formats s t heights es count)
      (boxed-rule s.bars.boxing here.is_below sign (elements_of bytes formats more)) first

  pub goes-behind : (counted : ℕ) (rows : KeptRows) (t : KeptTall) (at count : ℕ) (is_below : Bool)
      → CutsGo counted bytes formats s t (heights_kept (drop at rows.elements)) (boxed_kept is_below (drop at rows.elements)) count
      → ElementGoes counted bytes formats s rows t at count
  goes-behind counted rows t at count is_below go =
      record { more = go.more; all = go.all; rest = record { is_below = is_below; come = go.come } }

  -- behind all elements the box's last rule comes, if there is one
  end-comes : (rows : KeptRows) (t : KeptTall) (at count : ℕ) → drop at rows.elements ≡ [] → ElementsCount bytes formats s rows t at count
      → CutsCome bytes formats s t [] (frame_rules s.bars.boxing ++ []) count
  end-comes rows t at count none here =
      let first : CutsCome bytes formats s t [] (boxed_kept here.is_below []) count =
      subst (λ (es : List KeptElement). CutsCome bytes formats s t (heights_kept es) (boxed_kept here.is_below es) count) none here.come in
      subst (λ (es : List Element). CutsCome bytes formats s t [] es count)
      (boxed-none s.bars.boxing here.is_below (s.bars.boxing.bars == 0) refl ∙ sym (append-nil (frame_rules s.bars.boxing))) first

  end-places : NextPlaces s (frame_rules s.bars.boxing ++ [])
  end-places = top-places s (s.bars.boxing.bars == 0) (frame_sign s.bars.boxing.bars) [] tt

  pub frame-last : (rows : KeptRows) (t : KeptTall) (at count : ℕ) → drop at rows.elements ≡ [] → ElementsCount bytes formats s rows t at count
      → FrameComes bytes formats s t
  frame-last rows t at count none here =
      record { heights = []; rest = []; count = count; come = end-comes rows t at count none here; places = end-places }

  -- nothing more is counted where nothing comes
  pub last-counted : (rows : KeptRows) (t new : KeptTall) (at count counted : ℕ) → CountsFrame counted bytes formats s t new → drop at rows.elements ≡ []
      → ElementsCount bytes formats s rows t at count → count ≡ counted
  last-counted rows t new at count counted counts none here =
      let below = counts [] [] count end-places (end-comes rows t at count none here) in
      let none_more : below.more ≡ 0 = sym below.come.many in
      omega (arith, below.all, none_more)

  module _ (rows : KeptRows) (room : ℕ) (can : CanCount bytes formats s rows room) where
    pub places-at : (is_below : Bool) (at : ℕ) → NextPlaces s (boxed_kept is_below (drop at rows.elements))
    places-at is_below at =
        next-places bytes formats s can.places.rows is_below (drop at rows.elements) (each-drop (RulesPlaced formats s) at rows.elements can.ruled)

    start-places : NextPlaces s (frame_rules s.bars.boxing ++ boxed_kept false rows.elements)
    start-places = top-places s (s.bars.boxing.bars == 0) (frame_sign s.bars.boxing.bars) (boxed_kept false rows.elements) (places-at false 0)

    -- a rule over the whole picture comes
    pub whole-can : (t : KeptTall) (heights : List ℕ) (sign given : RuleSign) (rest : List Element) (count : ℕ) → given ≡ sign
        → CutsCome bytes formats s t heights (Rule sign ∷ rest) count → NextPlaces s rest → CanLayRule bytes formats s t (Some given)
    whole-can t heights sign given rest count is come places = record {
      heights = heights;
      cells = come.cells;
      above = come.above;
      elements = Rule sign ∷ rest;
      line = Whole sign;
      rest = rest;
      comes = come.comes;
      rule = WholeComes;
      sign = is;
      places = can.places;
      next = places;
      narrow = can.narrow;
      wide = can.wide;
    }

    -- a row comes, and lines of rules in front of it
    module _ (at keys rules height : ℕ) (entries : List Entry)
        (is : drop at rows.elements ≡ RowKept keys rules height entries ∷ drop (suc at) rows.elements) where
      abbrev row_fields : List Content
      row_fields = fields_of bytes (row_at formats keys) entries

      abbrev row_first : List Element
      row_first = Row [] (row_at formats keys) row_fields ∷ boxed_kept true (drop (suc at) rows.elements)

      pub front-at : (is_below : Bool) → FrontOf (boxed_kept is_below (drop at rows.elements)) row_first
      front-at is_below =
          front-is bytes formats s can.places.rows is_below keys rules height entries (drop at rows.elements) (drop (suc at) rows.elements) is
          (each-drop (RulesPlaced formats s) at rows.elements can.ruled)

      pub front-comes : (t : KeptTall) → SomeCount bytes formats s rows t at → FrontComes bytes formats s t
      front-comes t some = record {
        heights = heights_kept (drop at rows.elements);
        elements = boxed_kept some.rest.is_below (drop at rows.elements);
        row = row_first;
        count = some.count;
        front = front-at some.rest.is_below;
        come = some.rest.come;
        places = places-at some.rest.is_below at;
        small = some.small;
      }

      module _ (old mid new : KeptTall) (in_front in_row : ℕ)
          (front : (heights : List ℕ) (elements row : List Element) (count : ℕ) → NextPlaces s elements → FrontOf elements row
          → CutsCome bytes formats s old heights elements count → CutsGo in_front bytes formats s mid heights row count) where
        abbrev front-goes : (count : ℕ) → ElementsCount bytes formats s rows old at count
            → CutsGo in_front bytes formats s mid (heights_kept (drop at rows.elements)) row_first count
        front-goes count here =
            front (heights_kept (drop at rows.elements)) (boxed_kept here.is_below (drop at rows.elements)) row_first count
            (places-at here.is_below at) (front-at here.is_below) here.come

        pub row-comes : SomeCount bytes formats s rows old at → RowComes bytes formats s rows mid at
        row-comes some =
            let go = front-goes some.count some.rest in
            record {
              keys = keys;
              rules = rules;
              height = height;
              entries = entries;
              fields = row_fields;
              count = go.more;
              is = element-is rows.elements at (RowKept keys rules height entries) (drop (suc at) rows.elements) is;
              come = go.come;
              small = omega (arith, go.all, some.small);
            }

        pub row-goes : ((keys rules height : ℕ) (entries : List Entry) (fields : List Content) (count : ℕ)
            → element_at rows.elements at ≡ RowKept keys rules height entries → RowOnly bytes formats s rows mid at keys fields count
            → CutsGo in_row bytes formats s new (heights_kept (drop (suc at) rows.elements)) (boxed_kept true (drop (suc at) rows.elements)) count)
            → (count : ℕ) → ElementsCount bytes formats s rows old at count → ElementGoes (in_front + in_row) bytes formats s rows new (suc at) count
        row-goes row count here =
            let first = front-goes count here in
            let go = row keys rules height entries row_fields first.more
            (element-is rows.elements at (RowKept keys rules height entries) (drop (suc at) rows.elements) is) first.come in
            record {
              more = go.more;
              all = omega (arith, first.all, go.all);
              rest = record { is_below = true; come = go.come };
            }

    -- in front of all of them
    abbrev all_of : List Element
    all_of = boxed s.bars.boxing (elements_of bytes formats rows.elements)

    abbrev first_cells : List ℕ → List Left
    first_cells own = cells_next (length s.columns) [] [] own all_of

    pub all-counted : cut_entries s (elements_of bytes formats rows.elements)
        ≡ cut_from s (heights_kept rows.elements) (first_cells (heights_kept rows.elements)) Nothing all_of
    unfolding cut_entries
    all-counted =
        let same : heights s.bars.boxing.is_inside (length s.columns) (elements_of bytes formats rows.elements) ≡ heights_kept rows.elements =
        ap (λ (n : ℕ). heights s.bars.boxing.is_inside n (elements_of bytes formats rows.elements)) (ap length can.columns)
        ∙ sym can.laid.heights ∙ sym (kept-heights rows.elements) in
        ap (λ (own : List ℕ). cut_from s own (first_cells own) Nothing all_of) same

    start-comes : (t : KeptTall)
        → Comes bytes formats s t (heights_kept rows.elements) (first_cells (heights_kept rows.elements)) Nothing all_of
        → CutsCome bytes formats s t (heights_kept rows.elements) (frame_rules s.bars.boxing ++ boxed_kept false rows.elements)
        (cut_entries s (elements_of bytes formats rows.elements))
    start-comes t comes =
        record { cells = first_cells (heights_kept rows.elements); above = Nothing; comes = comes; many = sym all-counted }

    pub frame-first : (t : KeptTall)
        → Comes bytes formats s t (heights_kept rows.elements) (first_cells (heights_kept rows.elements)) Nothing all_of → FrameComes bytes formats s t
    frame-first t comes = record {
      heights = heights_kept rows.elements;
      rest = boxed_kept false rows.elements;
      count = cut_entries s (elements_of bytes formats rows.elements);
      come = start-comes t comes;
      places = start-places;
    }

    pub first-goes : (t new : KeptTall) (counted : ℕ)
        → Comes bytes formats s t (heights_kept rows.elements) (first_cells (heights_kept rows.elements)) Nothing all_of
        → CountsFrame counted bytes formats s t new → ElementGoes counted bytes formats s rows new 0 (cut_entries s (elements_of bytes formats rows.elements))
    unfolding frame-first
    first-goes t new counted comes counts =
        let first = frame-first t comes in goes-behind counted rows new 0 first.count false (counts first.heights first.rest first.count first.places first.come)
