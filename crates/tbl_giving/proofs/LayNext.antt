-- The line that comes in a picture with cells of several rows can be laid.
use Rattle.std.specs.List.{AllByRecursion}
use Rattle.std.proofs.Common.{ℕ, List, [], ◌∷◌, drop, Option, subst, sym}
use Rattle.tbl_format.specs.Format.{FormatRow}
use Rattle.tbl_format.specs.RowsServed.{row_at}
use Rattle.tbl_kept.specs.Rows.{Command, KeptElement, KeptRows, Row, Rule, elements_of, heights_of}
use Rattle.tbl_layout.specs.Entries.{Command as OneCommand, Element, Row as OneRow, Rule as OneRule}
use Rattle.tbl_layout.specs.declared.data_lines.RuleSign.{RuleSign}
use Rattle.tbl_lines.specs.PictureLines.{OfKeys, RuleLine, Sheet, Whole}
use Rattle.tbl_lines.specs.RulePlaces.{HasPlaces}
use Rattle.tbl_tall.specs.BandLaws.{HasLinePlaces, NextPlaces}
use Rattle.tbl_picture.proofs.RulePlaces.{row-placed}
use Rattle.tbl_giving.proofs.RulesIn.{AllRules, OfLine, boxed-rules, coming-rules, of-line}
use Rattle.tbl_giving.specs.LinesWalked.{HasCome, IsRowOf, KeptLineByLine, RulesPlaced, SignTold, all_boxed, coming, parts_left, sheet_by}
use Rattle.tbl_giving.specs.declared.line_by_line.Place.TheVariants.{OnRow, OnRule}
use Rattle.tbl_giving.specs.declared.line_by_line.RuleAt.{RuleAt}
use Rattle.tbl_tall.specs.LinesNext.{CanLayRow, CanLayRule}
use Rattle.tbl_tall.specs.TallRows.{LineIsNext, RuleIsNext}

module _ (bytes : List ℕ) (formats : List FormatRow) (rows : KeptRows) (g : KeptLineByLine) (room : ℕ) where
  pub rule-is-next : (at : RuleAt) → HasCome bytes formats rows (record g { place = OnRule at }) room → RuleIsNext bytes formats g.tall
  rule-is-next at come = let x = coming bytes formats rows (record g { place = OnRule at }) in record {
    s = sheet_by rows g;
    heights = x.heights;
    cells = x.cells;
    above = x.above;
    elements = x.elements;
    line = come.stands.line;
    rest = come.stands.rest;
    comes = come.stands.front.comes;
    rule = come.stands.rule;
    places = come.drawn.places;
  }

  pub line-is-next : HasCome bytes formats rows (record g { place = OnRow }) room → LineIsNext bytes g.tall
  line-is-next come = let x = coming bytes formats rows (record g { place = OnRow }) in record {
    s = sheet_by rows g;
    format = come.stands.format;
    cells = x.cells;
    more = come.stands.more;
    stands = come.stands.stands;
  }

  -- a row of the table has places for its bars
  placed-by : (kept : List KeptElement) (format : FormatRow) → IsRowOf formats format kept
      → ((keys : ℕ) → HasPlaces g.bars.front rows.columns (row_at formats keys)) → HasPlaces g.bars.front rows.columns format
  placed-by [] format row all = absurd row
  placed-by (Row keys others height entries ∷ kept) format row all =
      subst (λ (f : FormatRow). HasPlaces g.bars.front rows.columns f) (sym row) (all keys)
  placed-by (Rule sign ∷ kept) format row all = absurd row
  placed-by (Command from to ∷ kept) format row all = absurd row

  pub row-places : (come : HasCome bytes formats rows (record g { place = OnRow }) room) → HasPlaces g.bars.front rows.columns come.stands.format
  row-places come = placed-by (drop g.element rows.elements) come.stands.format come.stands.row
      (λ keys. row-placed g.bars.front rows.columns formats keys come.drawn.places.rows)

  pub can-lay-row : HasCome bytes formats rows (record g { place = OnRow }) room → CanLayRow bytes (sheet_by rows g) g.tall
  can-lay-row come = record {
    format = come.stands.format;
    cells = (coming bytes formats rows (record g { place = OnRow })).cells;
    more = come.stands.more;
    stands = come.stands.stands;
    narrow = come.drawn.narrow;
    wide = come.drawn.wide;
  }

  -- all rows have places for their bars, and so have those to come
  rules-kept : (s : Sheet) (elements : List KeptElement) → AllByRecursion (RulesPlaced formats s) elements
      → AllByRecursion (HasPlaces s.bars.front s.columns) formats
      → AllRules (λ (f : FormatRow). HasLinePlaces s (OfKeys f)) (HasPlaces s.bars.front s.columns) (elements_of bytes formats elements)
  rules-kept s [] all places = tt
  rules-kept s (Row keys rules height entries ∷ elements) all places =
      (all.0, row-placed s.bars.front s.columns formats keys places, rules-kept s elements all.1 places)
  rules-kept s (Rule sign ∷ elements) all places = rules-kept s elements all.1 places
  rules-kept s (Command from to ∷ elements) all places = rules-kept s elements all.1 places

  coming-placed : (at : RuleAt) → HasCome bytes formats rows (record g { place = OnRule at }) room
      → AllRules (λ (f : FormatRow). HasLinePlaces (sheet_by rows g) (OfKeys f)) (HasPlaces g.bars.front rows.columns)
      (coming bytes formats rows (record g { place = OnRule at })).elements
  coming-placed at come =
      let on = record g { place = OnRule at } in
      let s = sheet_by rows g in
      let P : FormatRow → Type 0 = λ f. HasLinePlaces s (OfKeys f) in
      let Q = HasPlaces g.bars.front rows.columns in
      coming-rules P Q s (heights_of rows.elements) (all_boxed bytes formats rows on) (parts_left bytes formats rows on)
      (boxed-rules P Q g.bars.boxing (elements_of bytes formats rows.elements) (rules-kept s rows.elements come.drawn.ruled come.drawn.places.rows))

  placed-line : (s : Sheet) (line : RuleLine) → OfLine (λ (f : FormatRow). HasLinePlaces s (OfKeys f)) (HasPlaces s.bars.front s.columns) line
      → HasLinePlaces s line
  placed-line s (Whole sign) has = tt
  placed-line s (OfKeys format) has = has

  -- the line of rules that comes
  pub line-placed : (at : RuleAt) → (come : HasCome bytes formats rows (record g { place = OnRule at }) room)
      → HasLinePlaces (sheet_by rows g) come.stands.line
  line-placed at come =
      let s = sheet_by rows g in
      placed-line s come.stands.line
      (of-line (λ (f : FormatRow). HasLinePlaces s (OfKeys f)) (HasPlaces g.bars.front rows.columns)
      (coming bytes formats rows (record g { place = OnRule at })).elements come.stands.rest come.stands.line come.stands.rule
      (coming-placed at come))

  -- and those behind it
  places-by : (s : Sheet) (elements : List Element)
      → AllRules (λ (f : FormatRow). HasLinePlaces s (OfKeys f)) (HasPlaces s.bars.front s.columns) elements → NextPlaces s elements
  places-by s [] all = tt
  places-by s (OneRow rules format fields ∷ elements) all = (all.0, all.1)
  places-by s (OneRule sign ∷ elements) all = places-by s elements all
  places-by s (OneCommand text ∷ elements) all = places-by s elements all

  pub next-placed : (at : RuleAt) → HasCome bytes formats rows (record g { place = OnRule at }) room
      → NextPlaces (sheet_by rows g) (coming bytes formats rows (record g { place = OnRule at })).elements
  next-placed at come =
      places-by (sheet_by rows g) (coming bytes formats rows (record g { place = OnRule at })).elements (coming-placed at come)

  pub can-lay-rule : (at : RuleAt) (whole : Option RuleSign) → HasCome bytes formats rows (record g { place = OnRule at }) room
      → SignTold whole bytes formats rows (record g { place = OnRule at }) → CanLayRule bytes formats (sheet_by rows g) g.tall whole
  can-lay-rule at whole come told = let x = coming bytes formats rows (record g { place = OnRule at }) in record {
    heights = x.heights;
    cells = x.cells;
    above = x.above;
    elements = x.elements;
    line = come.stands.line;
    rest = come.stands.rest;
    comes = come.stands.front.comes;
    rule = come.stands.rule;
    sign = told come.stands.line come.stands.rest come.stands.rule;
    places = come.drawn.places;
    next = next-placed at come;
    narrow = come.drawn.narrow;
    wide = come.drawn.wide;
  }
