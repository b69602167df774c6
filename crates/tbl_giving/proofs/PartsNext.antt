-- What comes next in a picture with cells of several rows, in front of elements: a line of rules, or one of a row.
use Rattle.std.proofs.Common.{◌≡◌, ℕ, nat_lt, ◌+◌, ◌-◌, ◌≤◌, ◌<◌, Bool, true, false, List, [], ◌∷◌, ◌++◌, drop, get_or, length, take, Option, None, Some, refl, sym, ap, subst, ◌∙◌, arith, if◌then◌else◌, ◌==◌, ltb-false, ltb-true}
use Rattle.tbl_format.proofs.Elements.{each-at}
use Rattle.tbl_format.specs.Format.{FormatRow}
use Rattle.tbl_format.specs.RowsServed.{row_at}
use Rattle.tbl_kept.specs.Rows.{Command, KeptElement, KeptRows, Row, Rule, elements_of, fields_of, heights_of}
use Rattle.tbl_layout.specs.Entries.{Element, Row as OneRow, Rule as OneRule}
use Rattle.tbl_layout.specs.declared.data_lines.RuleSign.{RuleSign}
use Rattle.tbl_layout.specs.declared.data_lines.RuleSign.TheVariants.{Single}
use Rattle.tbl_layout.specs.declared.entry.Entry.{Entry}
use Rattle.tbl_lines.specs.PictureLines.{OfKeys, RuleLine, Whole, boxed_from, frame_sign}
use Rattle.tbl_giving.proofs.LinesGo.{row-split, rule-of}
use Rattle.tbl_giving.proofs.LinesLaid.{StillCome, still-come}
use Rattle.tbl_picture.proofs.RuleLengths.{some-rows}
use Rattle.tbl_giving.specs.LinesWalked.{HasCome, IsHigh, IsRowOf, IsRuleFirst, KeptLineByLine, SignTold, StandsAtRule, StandsInFront, boxed_now, coming, elements_left, heights_now, sheet_by}
use Rattle.tbl_picture.specs.RulesWalked.{IsRowFirst}
use Rattle.tbl_giving.specs.PartsToCome.{ToCome}
use Rattle.tbl_giving.specs.declared.line_by_line.Place.{Place}
use Rattle.tbl_giving.specs.declared.line_by_line.Place.TheVariants.{AtElement, AtTop, OnRow, OnRule}
use Rattle.tbl_giving.specs.declared.line_by_line.RuleAt.{RuleAt}
use Rattle.tbl_giving.specs.declared.line_by_line.RuleAt.TheVariants.{Element as OfElement, End as OfEnd, InFront, Top as OfTop}
use Rattle.tbl_tall.specs.Bands.{KeptBand, keys_left, wholes_left}
use Rattle.tbl_tall.specs.TallRows.{Comes, KeysCome, RuleComes, SignIs, WholeComes}

-- the sign of a rule over the whole picture, and none of a line of rule keys
told-whole : (elements more : List Element) (sign : RuleSign) → elements ≡ OneRule sign ∷ more → (line : RuleLine) (rest : List Element)
    → RuleComes elements line rest → SignIs (Some sign) line
told-whole elements more sign is line rest comes =
    let line_is : line ≡ Whole sign = (rule-of (OneRule sign ∷ more) rest line (subst (λ (es : List Element). RuleComes es line rest) is comes)).0 in
    subst (λ (l : RuleLine). SignIs (Some sign) l) (sym line_is) refl

told-keys : (elements more : List Element) (rule : FormatRow) (rules : List FormatRow) (format : FormatRow) (fields : _)
    → elements ≡ OneRow (rule ∷ rules) format fields ∷ more → (line : RuleLine) (rest : List Element) → RuleComes elements line rest → SignIs None line
told-keys elements more rule rules format fields is line rest comes =
    let line_is : line ≡ OfKeys rule = (rule-of (OneRow (rule ∷ rules) format fields ∷ more) rest line (subst (λ (es : List Element). RuleComes es line rest) is comes)).0 in
    subst (λ (l : RuleLine). SignIs None l) (sym line_is) tt

-- behind all lines of rules no row of rule keys is left
none-left : (at wholes count : ℕ) → nat_lt at (wholes + count) ≡ false → wholes - at ≡ 0 → count - (at - wholes) ≡ 0
none-left at wholes count ended none = let few : wholes + count ≤ at = ltb-false at (wholes + count) ended in omega (arith, few)

no-keys : (formats : List FormatRow) (b : KeptBand) → nat_lt b.at (b.wholes + b.count) ≡ false → wholes_left b ≡ 0 → keys_left formats b ≡ []
no-keys formats b ended none =
    let no_more : b.count - (b.at - b.wholes) ≡ 0 = none-left b.at b.wholes b.count ended none in
    ap (λ (n : ℕ). take n (drop (b.first + (b.at - b.wholes)) formats)) no_more

-- the first of some elements is a row
pub record RowFirst (all : List KeptElement) : Type 0 where
  pub keys : ℕ
  pub others : ℕ
  pub height : ℕ
  pub entries : List Entry
  pub kept : List KeptElement
  pub is : all ≡ Row keys others height entries ∷ kept

pub row-first : (all : List KeptElement) → IsRowFirst all → RowFirst all
row-first [] row = absurd row
row-first (Row keys others height entries ∷ kept) row =
    record { keys = keys; others = others; height = height; entries = entries; kept = kept; is = refl }
row-first (Rule sign ∷ kept) row = absurd row
row-first (Command from to ∷ kept) row = absurd row

-- a line of rules comes next, and its sign is told
pub record RuleNext (bytes : List ℕ) (formats : List FormatRow) (rows : KeptRows) (g : KeptLineByLine) (place : Place) (at : RuleAt) (whole : Option RuleSign)
    (room : ℕ) : Type 0 where
  pub still : StillCome bytes formats rows (record g { place = place }) (record g { place = OnRule at }) room
  pub told : SignTold whole bytes formats rows (record g { place = OnRule at })

module _ (bytes : List ℕ) (formats : List FormatRow) (rows : KeptRows) (g : KeptLineByLine) (room : ℕ) where
  abbrev at_place : Place → KeptLineByLine
  at_place place = record g { place = place }

  -- the rows of rule keys that are left, where some are
  abbrev rest_kept : List KeptElement
  rest_kept = drop g.element rows.elements

  rule-next : (place : Place) (at : RuleAt) (whole : Option RuleSign) → (come : HasCome bytes formats rows (at_place place) room)
      → StandsInFront bytes formats rows (at_place place) (coming bytes formats rows (at_place place))
      → elements_left bytes formats rows (at_place (OnRule at)) ≡ elements_left bytes formats rows (at_place place)
      → (elements : List Element) → elements_left bytes formats rows (at_place place) ≡ elements
      → (line : RuleLine) (rest : List Element) → RuleComes elements line rest → StandsAtRule at rest_kept
      → ((line : RuleLine) (rest : List Element) → RuleComes elements line rest → SignIs whole line)
      → RuleNext bytes formats rows g place at whole room
  rule-next place at whole come front same elements is line rest rule stands told =
      let x = coming bytes formats rows (at_place place) in
      let all : x.elements ≡ elements = come.elements ∙ is in
      let still = still-come bytes formats rows (at_place place) room (OnRule at) g.tall come refl refl (same ∙ sym come.elements) (sym come.heights)
      (record {
        front = record { comes = front.comes; whole = front.whole };
        line = line;
        rest = rest;
        rule = subst (λ (es : List Element). RuleComes es line rest) (sym all) rule;
        stands = stands;
      }) in
      record {
        still = still;
        told = λ other more comes.
            told other more (subst (λ (es : List Element). RuleComes es other more) (ap (λ (z : ToCome). z.elements) still.is ∙ all) comes);
      }

  pub top-next : HasCome bytes formats rows (at_place AtTop) room → RuleNext bytes formats rows g AtTop OfTop (Some (frame_sign g.bars.boxing.bars)) room
  top-next come =
      let rest = boxed_now g.bars.boxing bytes formats (wholes_left g.tall.band - 1) (keys_left formats g.tall.band) rest_kept in
      let sign = frame_sign g.bars.boxing.bars in
      rule-next AtTop OfTop (Some sign) come come.stands refl (OneRule sign ∷ rest) refl (Whole sign) rest WholeComes tt
      (told-whole (OneRule sign ∷ rest) rest sign refl)

  pub element-next : (sign : RuleSign) (kept : List KeptElement) → rest_kept ≡ Rule sign ∷ kept → HasCome bytes formats rows (at_place AtElement) room
      → RuleNext bytes formats rows g AtElement OfElement (Some sign) room
  element-next sign kept is come =
      let wholes = wholes_left g.tall.band in
      let rules = keys_left formats g.tall.band in
      let rest = boxed_now g.bars.boxing bytes formats (wholes - 1) rules kept in
      rule-next AtElement OfElement (Some sign) come come.stands refl (OneRule sign ∷ rest)
      (ap (λ (es : List KeptElement). boxed_now g.bars.boxing bytes formats wholes rules es) is) (Whole sign) rest WholeComes
      (subst (λ (es : List KeptElement). IsRuleFirst es) (sym is) tt)
      (told-whole (OneRule sign ∷ rest) rest sign refl)

  -- behind everything
  end-by : (t : Bool) → (g.bars.boxing.bars == 0) ≡ t → t ≡ false → rest_kept ≡ [] → HasCome bytes formats rows (at_place AtElement) room
      → RuleNext bytes formats rows g AtElement OfEnd (Some (frame_sign g.bars.boxing.bars)) room
  end-by true is some none come = absurd (cc)
  end-by false is some none come =
      let sign = frame_sign g.bars.boxing.bars in
      rule-next AtElement OfEnd (Some sign) come come.stands refl (OneRule sign ∷ [])
      (ap (λ (es : List KeptElement). boxed_now g.bars.boxing bytes formats (wholes_left g.tall.band) (keys_left formats g.tall.band) es) none
      ∙ ap (λ (t : Bool). if t then [] else OneRule sign ∷ []) is) (Whole sign) [] WholeComes none
      (told-whole (OneRule sign ∷ []) [] sign refl)

  pub end-next : (g.bars.boxing.bars == 0) ≡ false → rest_kept ≡ [] → HasCome bytes formats rows (at_place AtElement) room
      → RuleNext bytes formats rows g AtElement OfEnd (Some (frame_sign g.bars.boxing.bars)) room
  end-next some none come = end-by (g.bars.boxing.bars == 0) refl some none come

  -- in front of a row
  module _ (row : RowFirst rest_kept) (come : HasCome bytes formats rows (at_place AtElement) room) where
    abbrev row-of : List FormatRow → Element
    row-of rules = OneRow rules (row_at formats row.keys) (fields_of bytes (row_at formats row.keys) row.entries)

    abbrev behind : List Element
    behind = boxed_from g.bars.boxing true (elements_of bytes formats row.kept)

    row-left : (t : Bool) → (wholes_left g.tall.band == 0) ≡ t → elements_left bytes formats rows (at_place AtElement)
        ≡ (if t then [] else OneRule Single ∷ []) ++ row-of (keys_left formats g.tall.band) ∷ behind
    row-left t none =
        ap (λ (es : List KeptElement). boxed_now g.bars.boxing bytes formats (wholes_left g.tall.band) (keys_left formats g.tall.band) es) row.is
        ∙ row-split g.bars.boxing bytes formats t (wholes_left g.tall.band) none (keys_left formats g.tall.band) row.keys row.others row.height row.entries row.kept

    pub whole-next : (wholes_left g.tall.band == 0) ≡ false → RuleNext bytes formats rows g AtElement InFront (Some Single) room
    whole-next some =
        let rest = row-of (keys_left formats g.tall.band) ∷ behind in
        rule-next AtElement InFront (Some Single) come come.stands refl (OneRule Single ∷ rest) (row-left false some) (Whole Single) rest WholeComes
        (subst (λ (es : List KeptElement). IsRowFirst es) (sym row.is) tt) (told-whole (OneRule Single ∷ rest) rest Single refl)

    -- rows of rule keys are left, or none
    keys-next : (rules : List FormatRow) → keys_left formats g.tall.band ≡ rules → 0 < length rules → (wholes_left g.tall.band == 0) ≡ true
        → RuleNext bytes formats rows g AtElement InFront None room
    keys-next [] rules_are some none = absurd (omega (arith, some))
    keys-next (rule ∷ rules) rules_are some none =
        let fields = fields_of bytes (row_at formats row.keys) row.entries in
        rule-next AtElement InFront None come come.stands refl (row-of (rule ∷ rules) ∷ behind)
        (row-left true none ∙ ap (λ (rs : List FormatRow). row-of rs ∷ behind) rules_are) (OfKeys rule) (row-of rules ∷ behind) KeysCome
        (subst (λ (es : List KeptElement). IsRowFirst es) (sym row.is) tt)
        (told-keys (row-of (rule ∷ rules) ∷ behind) behind rule rules (row_at formats row.keys) fields refl)

    pub rule-keys-next : wholes_left g.tall.band ≡ 0 → nat_lt g.tall.band.at (g.tall.band.wholes + g.tall.band.count) ≡ true
        → RuleNext bytes formats rows g AtElement InFront None room
    rule-keys-next none more =
        let b = g.tall.band in
        let less : b.at < b.wholes + b.count = ltb-true b.at (b.wholes + b.count) more in
        let rows_within = come.stands.comes.band.fits.rows in
        keys-next (keys_left formats b) refl
        (some-rows formats (b.first + (b.at - b.wholes)) (b.count - (b.at - b.wholes)) (omega (arith, less, none)) (omega (arith, rows_within, less)))
        (ap (λ (n : ℕ). n == 0) none)

    -- a line of the row
    pub row-next : wholes_left g.tall.band ≡ 0 → nat_lt g.tall.band.at (g.tall.band.wholes + g.tall.band.count) ≡ false
        → StillCome bytes formats rows (at_place AtElement) (at_place OnRow) room
    row-next none ended =
        let b = g.tall.band in
        let x = coming bytes formats rows (at_place AtElement) in
        let s = sheet_by rows g in
        let front = come.stands in
        let no_rules : keys_left formats b ≡ [] = no-keys formats b ended none in
        let elements : x.elements ≡ row-of [] ∷ behind =
        come.elements ∙ row-left true (ap (λ (n : ℕ). n == 0) none) ∙ ap (λ (rs : List FormatRow). row-of rs ∷ behind) no_rules in
        let left : elements_left bytes formats rows (at_place OnRow) ≡ row-of [] ∷ behind =
        ap (λ (es : List KeptElement). boxed_now g.bars.boxing bytes formats 0 [] es) row.is in
        let heights : g.tall.lines_left ∷ heights_of row.kept ≡ row.height ∷ heights_of row.kept =
        ap (λ (es : List KeptElement). heights_now g.tall.lines_left es) (sym row.is) ∙ front.whole ∙ ap (λ (es : List KeptElement). heights_of es) row.is in
        let high : 0 < row.height = each-at IsHigh rows.elements g.element (Row row.keys row.others row.height row.entries) row.kept come.drawn.high row.is in
        let lines : g.tall.lines_left ≡ row.height = ap (λ (hs : List ℕ). get_or hs 0 0) heights in
        let comes = subst (λ (es : List Element). Comes bytes formats s g.tall x.heights x.cells x.above es) elements front.comes in
        still-come bytes formats rows (at_place AtElement) room OnRow g.tall come refl refl (left ∙ sym elements) (sym come.heights)
        (record {
          format = row_at formats row.keys;
          row = subst (λ (es : List KeptElement). IsRowOf formats (row_at formats row.keys) es) (sym row.is) refl;
          more = row.height - 1;
          stands = record {
            left = comes.left;
            keys = comes.keys;
            height = omega (arith, lines, high);
            last = comes.last;
            within = comes.within;
            some = comes.some;
            room = comes.room;
            first = λ _. comes.band.below_shown;
          };
        })
