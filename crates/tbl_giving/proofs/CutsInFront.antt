-- Lines of rules that stand in front of a row and are no elements of the table: how many of them are left, and the next one.
use Rattle.std.proofs.Common.{◌≡◌, ℕ, zero, suc, ◌+◌, ◌-◌, ◌<◌, ◌≤◌, nat_lt, ◌&&◌, Bool, true, false, List, [], ◌∷◌, ◌++◌, drop, length, Option, None, Some, refl, sym, ap, subst, ◌∙◌, arith, length-drop, if◌then◌else◌, ◌==◌, ltb-false, ltb-true, length-take-le}
use Rattle.std.specs.List.{AllByRecursion, slice_range}
use Rattle.tbl_format.specs.Format.{FormatRow}
use Rattle.tbl_format.specs.RowsServed.{row_at}
use Rattle.tbl_giving.specs.CutsCounted.{CanCount, CutsCome, CutsGo, FrontGoes, FrontOf, RulesPlaced, sign_by}
use Rattle.tbl_kept.specs.Rows.{Command as CommandKept, KeptElement, KeptRows, Row as RowKept, Rule as RuleKept, elements_of, fields_of, rows_in_front}
use Rattle.tbl_layout.specs.Entries.{Command, Content, Element, Row, Rule}
use Rattle.tbl_layout.specs.declared.data_lines.RuleSign.{RuleSign}
use Rattle.tbl_layout.specs.declared.data_lines.RuleSign.TheVariants.{Single}
use Rattle.tbl_layout.specs.declared.entry.Entry.{Entry}
use Rattle.tbl_lines.specs.CellsLeft.{Left}
use Rattle.tbl_lines.specs.LinesLeft.{Beside}
use Rattle.tbl_lines.specs.PictureLines.{OfKeys, RuleLine, Sheet, Whole, boxed_from, frame_sign}
use Rattle.tbl_lines.specs.RulePlaces.{HasPlaces}
use Rattle.tbl_picture.proofs.BoxedElements.{boxed-between, boxed-command, boxed-keys, boxed-none, boxed-row, boxed-rule}
use Rattle.tbl_picture.proofs.RulePlaces.{row-placed}
use Rattle.tbl_tall.specs.BandLaws.{HasLinePlaces, NextPlaces}
use Rattle.tbl_tall.specs.Bands.{BandFits, KeptBand, keys_left, wholes_left}
use Rattle.tbl_tall.specs.LinesNext.{CanLayRule}
use Rattle.tbl_tall.specs.TallRows.{Comes, KeptTall, KeysCome, RuleComes, SignIs, WholeComes, keys_in_front, wholes_in_front}

-- how the next one is drawn
pub some-sign : (wholes : ℕ) → 0 < wholes → Some Single ≡ sign_by wholes
some-sign zero some = absurd (omega (arith, some))
some-sign (suc wholes) some = refl

pub no-sign : (wholes : ℕ) → wholes ≤ 0 → None ≡ sign_by wholes
no-sign zero none = refl
no-sign (suc wholes) none = absurd (omega (arith, none))

-- how many there are
abbrev pub fronts_in : List Element → ℕ
fronts_in elements = wholes_in_front elements + length (keys_in_front elements)

abbrev pub fronts_left : List FormatRow → KeptBand → ℕ
fronts_left formats b = wholes_left b + length (keys_left formats b)

pub many-left : (formats : List FormatRow) (b : KeptBand) → BandFits formats b → fronts_left formats b ≡ b.wholes + b.count - b.at
many-left formats b fits =
    let n = b.count - (b.at - b.wholes) in
    let from = b.first + (b.at - b.wholes) in
    let rest = length-drop from formats in
    let few : n ≤ length (drop from formats) = omega (arith, rest, fits.rows, fits.given) in
    let keys = length-take-le n (drop from formats) few in
    omega (arith, keys, fits.given)

pub left-in : {bytes : List ℕ} {formats : List FormatRow} {s : Sheet} {t : KeptTall} {heights : List ℕ} {cells : List Left} {above : Beside}
    {elements : List Element} → Comes bytes formats s t heights cells above elements → fronts_left formats t.band ≡ fronts_in elements
left-in {bytes} {formats} {s} {t} {heights} {cells} {above} {elements} comes =
    ap (λ (n : ℕ). n + length (keys_left formats t.band)) comes.wholes
    ∙ ap (λ (keys : List FormatRow). wholes_in_front elements + length keys) comes.rules

-- the next one
pub record FrontSteps (s : Sheet) (elements row : List Element) : Type 0 where
  pub line : RuleLine
  pub rest : List Element
  pub rule : RuleComes elements line rest
  pub sign : SignIs (sign_by (wholes_in_front elements)) line
  pub front : FrontOf rest row
  pub places : NextPlaces s rest
  pub fewer : fronts_in rest < fronts_in elements

pub front-steps : (s : Sheet) (elements row : List Element) → FrontOf elements row → NextPlaces s elements → 0 < fronts_in elements
    → FrontSteps s elements row
front-steps s [] row front places some = absurd front
front-steps s (Row [] format fields ∷ elements) row front places some = absurd (omega (arith, some))
front-steps s (Row (rule ∷ rules) format fields ∷ elements) row front places some = record {
  line = OfKeys rule;
  rest = Row rules format fields ∷ elements;
  rule = KeysCome;
  sign = tt;
  front = front;
  places = (places.0.1, places.1);
  fewer = omega arith;
}
front-steps s (Rule sign ∷ elements) row front places some = record {
  line = Whole sign;
  rest = elements;
  rule = WholeComes;
  sign = sym front.0;
  front = front.1;
  places = places;
  fewer = omega arith;
}
front-steps s (Command bytes ∷ elements) row front places some = absurd front

-- behind all of them the row comes
pub front-ended : (elements row : List Element) → FrontOf elements row → fronts_in elements ≤ 0 → elements ≡ row
front-ended [] row front none = absurd front
front-ended (Row [] format fields ∷ elements) row front none = sym front
front-ended (Row (rule ∷ rules) format fields ∷ elements) row front none = absurd (omega (arith, none))
front-ended (Rule sign ∷ elements) row front none = absurd (omega (arith, none))
front-ended (Command bytes ∷ elements) row front none = absurd front

-- one of them was given
pub front-next : {counted here : ℕ} {bytes : List ℕ} {formats : List FormatRow} {s : Sheet} {t new : KeptTall} {heights : List ℕ} {row : List Element}
    {count : ℕ} (so_far : FrontGoes counted bytes formats s t heights row count) (next : FrontSteps s so_far.elements row)
    → CutsGo here bytes formats s new heights next.rest so_far.more → FrontGoes (counted + here) bytes formats s new heights row count
front-next so_far next go = record {
  elements = next.rest;
  more = go.more;
  front = next.front;
  all = omega (arith, so_far.all, go.all);
  come = go.come;
  places = next.places;
}

-- the next one can be laid, and is told how it is drawn
pub record FrontRule (whole : Option RuleSign) (bytes : List ℕ) (formats : List FormatRow) (s : Sheet) (t : KeptTall) (elements row : List Element)
    : Type 0 where
  pub next : FrontSteps s elements row
  pub sign : SignIs whole next.line
  pub can : CanLayRule bytes formats s t whole

pub front-rule : {bytes : List ℕ} {formats : List FormatRow} {s : Sheet} {rows : KeptRows} {room : ℕ} {t : KeptTall} {counted : ℕ} {heights : List ℕ}
    {row : List Element} {count : ℕ} {whole : Option RuleSign} → CanCount bytes formats s rows room
    → (so_far : FrontGoes counted bytes formats s t heights row count) → whole ≡ sign_by (wholes_left t.band) → nat_lt t.band.at (t.band.wholes + t.band.count) ≡ true
    → FrontRule whole bytes formats s t so_far.elements row
front-rule {bytes} {formats} {s} {rows} {room} {t} {counted} {heights} {row} {count} {whole} can so_far is has =
    let come = so_far.come in
    let comes = come.comes in
    let b = t.band in
    let left = left-in comes in
    let more : b.at < b.wholes + b.count = ltb-true b.at (b.wholes + b.count) has in
    let some : 0 < fronts_in so_far.elements = omega (arith, more, left, many-left formats b comes.band.fits) in
    let next = front-steps s so_far.elements row so_far.front so_far.places some in
    let sign = subst (λ (w : Option RuleSign). SignIs w next.line) (ap sign_by (sym comes.wholes) ∙ sym is) next.sign in
    record {
      next = next;
      sign = sign;
      can = record {
        heights = heights;
        cells = come.cells;
        above = come.above;
        elements = so_far.elements;
        line = next.line;
        rest = next.rest;
        comes = comes;
        rule = next.rule;
        sign = sign;
        places = can.places;
        next = so_far.places;
        narrow = can.narrow;
        wide = can.wide;
      };
    }

pub none-left : (formats : List FormatRow) (b : KeptBand) → BandFits formats b → nat_lt b.at (b.wholes + b.count) ≡ false → fronts_left formats b ≤ 0
none-left formats b fits ended =
    let few : b.wholes + b.count ≤ b.at = ltb-false b.at (b.wholes + b.count) ended in omega (arith, few, many-left formats b fits)

-- all of them were
pub front-all : {counted : ℕ} {bytes : List ℕ} {formats : List FormatRow} {s : Sheet} {t : KeptTall} {heights : List ℕ} {row : List Element} {count : ℕ}
    (so_far : FrontGoes counted bytes formats s t heights row count) → fronts_left formats t.band ≤ 0 → CutsGo counted bytes formats s t heights row count
front-all {counted} {bytes} {formats} {s} {t} {heights} {row} {count} so_far none =
    let come = so_far.come in
    let left = left-in come.comes in
    let is = front-ended so_far.elements row so_far.front (omega (arith, none, left)) in
    record {
      more = so_far.more;
      all = so_far.all;
      come = subst (λ (es : List Element). CutsCome bytes formats s t heights es so_far.more) is come;
    }

-- they have places for their bars, and so has the row
frame-places : (s : Sheet) (t : Bool) (sign : RuleSign) → NextPlaces s (if t then [] else Rule sign ∷ [])
frame-places s true sign = tt
frame-places s false sign = tt

pub top-places : (s : Sheet) (t : Bool) (sign : RuleSign) (elements : List Element) → NextPlaces s elements
    → NextPlaces s ((if t then [] else Rule sign ∷ []) ++ elements)
top-places s true sign elements places = places
top-places s false sign elements places = places

none-and : (t : Bool) → (t && false) ≡ false
none-and true = refl
none-and false = refl

record RowFront (s : Sheet) (behind : Bool) (rules : List FormatRow) (format : FormatRow) (fields : List Content) (elements : List Element) : Type 0 where
  front : FrontOf (boxed_from s.bars.boxing behind (Row rules format fields ∷ elements)) (Row [] format fields ∷ boxed_from s.bars.boxing true elements)
  places : NextPlaces s (boxed_from s.bars.boxing behind (Row rules format fields ∷ elements))

module _ (s : Sheet) (format : FormatRow) (fields : List Content) (elements : List Element) (has : HasPlaces s.bars.front s.columns format) where
  abbrev row_only : List Element
  row_only = Row [] format fields ∷ boxed_from s.bars.boxing true elements

  front-by : (behind : Bool) (rules : List FormatRow) (all : List Element) → boxed_from s.bars.boxing behind (Row rules format fields ∷ elements) ≡ all
      → FrontOf all row_only → NextPlaces s all → RowFront s behind rules format fields elements
  front-by behind rules all is front places = record {
    front = subst (λ (es : List Element). FrontOf es row_only) (sym is) front;
    places = subst (λ (es : List Element). NextPlaces s es) (sym is) places;
  }

  row-front : (adds behind : Bool) → (s.bars.boxing.is_inside && behind) ≡ adds → (rules : List FormatRow)
      → AllByRecursion (λ (f : FormatRow). HasLinePlaces s (OfKeys f)) rules → RowFront s behind rules format fields elements
  row-front false behind is rules own =
      front-by behind rules (Row rules format fields ∷ boxed_from s.bars.boxing true elements)
      (boxed-row s.bars.boxing behind rules format fields elements is) refl (own, has)
  row-front true behind is (rule ∷ rules) own =
      front-by behind (rule ∷ rules) (Row (rule ∷ rules) format fields ∷ boxed_from s.bars.boxing true elements)
      (boxed-keys s.bars.boxing behind rule rules format fields elements) refl (own, has)
  row-front true behind is [] own =
      front-by behind [] (Rule Single ∷ Row [] format fields ∷ boxed_from s.bars.boxing true elements)
      (boxed-between s.bars.boxing behind format fields elements is
      ∙ ap (λ (es : List Element). Rule Single ∷ es) (boxed-row s.bars.boxing false [] format fields elements (none-and s.bars.boxing.is_inside)))
      (refl, refl) (tt, has)

module _ (bytes : List ℕ) (formats : List FormatRow) (s : Sheet) (all : AllByRecursion (HasPlaces s.bars.front s.columns) formats) where
  row-front-of : (behind : Bool) (keys rules : ℕ) (fields : List Content) (elements : List Element)
      → AllByRecursion (λ (f : FormatRow). HasLinePlaces s (OfKeys f)) (rows_in_front formats keys rules)
      → RowFront s behind (rows_in_front formats keys rules) (row_at formats keys) fields elements
  row-front-of behind keys rules fields elements own =
      row-front s (row_at formats keys) fields elements (row-placed s.bars.front s.columns formats keys all)
      (s.bars.boxing.is_inside && behind) behind refl (rows_in_front formats keys rules) own

  pub next-places : (behind : Bool) (kept : List KeptElement) → AllByRecursion (RulesPlaced formats s) kept
      → NextPlaces s (boxed_from s.bars.boxing behind (elements_of bytes formats kept))
  next-places behind [] ruled =
      let t = s.bars.boxing.bars == 0 in
      subst (λ (es : List Element). NextPlaces s es) (sym (boxed-none s.bars.boxing behind t refl)) (frame-places s t (frame_sign s.bars.boxing.bars))
  next-places behind (RowKept keys rules height entries ∷ kept) ruled =
      (row-front-of behind keys rules (fields_of bytes (row_at formats keys) entries) (elements_of bytes formats kept) ruled.0).places
  next-places behind (RuleKept sign ∷ kept) ruled =
      subst (λ (es : List Element). NextPlaces s es) (sym (boxed-rule s.bars.boxing behind sign (elements_of bytes formats kept)))
      (next-places false kept ruled.1)
  next-places behind (CommandKept from to ∷ kept) ruled =
      subst (λ (es : List Element). NextPlaces s es)
      (sym (boxed-command s.bars.boxing behind (slice_range bytes from to) (elements_of bytes formats kept)))
      (next-places behind kept ruled.1)

  pub front-is : (behind : Bool) (keys rules height : ℕ) (entries : List Entry) (kept more : List KeptElement) → kept ≡ RowKept keys rules height entries ∷ more
      → AllByRecursion (RulesPlaced formats s) kept → FrontOf (boxed_from s.bars.boxing behind (elements_of bytes formats kept))
      (Row [] (row_at formats keys) (fields_of bytes (row_at formats keys) entries) ∷ boxed_from s.bars.boxing true (elements_of bytes formats more))
  front-is behind keys rules height entries kept more is ruled =
      let fields = fields_of bytes (row_at formats keys) entries in
      let row = Row [] (row_at formats keys) fields ∷ boxed_from s.bars.boxing true (elements_of bytes formats more) in
      let own = subst (λ (es : List KeptElement). AllByRecursion (RulesPlaced formats s) es) is ruled in
      subst (λ (es : List KeptElement). FrontOf (boxed_from s.bars.boxing behind (elements_of bytes formats es)) row) (sym is)
      (row-front-of behind keys rules fields (elements_of bytes formats more) own.0).front
