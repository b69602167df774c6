-- A line of rules that comes next is given to be laid: its signs, and the bars that meet on it.
use Rattle.std.proofs.Common.{◌≡◌, ℕ, zero, suc, ◌+◌, ◌-◌, ◌<◌, ◌≤◌, Bool, true, false, List, [], ◌∷◌, ◌++◌, length, map, get_or, nat_lt, Option, None, Some, inl, inr, refl, sym, ap, ◌∙◌, arith, if◌then◌else◌, is_some}
use Rattle.std.proofs.lemmas.Bool.{cases_lt}
use Rattle.std.proofs.lemmas.Bool.Decides.{nat_tests}
use Rattle.std.proofs.lemmas.List.{get_or-append_right, get_or_append_left}
use Rattle.std.specs.List.{AllByRecursion}
use Rattle.tbl_format.specs.Format.{FormatRow}
use Rattle.tbl_format.specs.FormatRows.{AreWithin}
use Rattle.tbl_format.specs.RowsServed.{row_at}
use Rattle.tbl_layout.specs.Entries.{Command, Element, Row, Rule}
use Rattle.tbl_layout.specs.declared.data_lines.RuleSign.{RuleSign}
use Rattle.tbl_layout.specs.declared.data_lines.RuleSign.TheVariants.{Single}
use Rattle.tbl_lines.specs.CellsLeft.{Left, all_keys, bars_at_end}
use Rattle.tbl_lines.specs.LinesLeft.{Beside, OfRow, Over, bars_met, over_at, overs, sign_at}
use Rattle.tbl_lines.specs.PictureLeft.{behind_keys, below_of, through_rule, through_rules}
use Rattle.tbl_lines.specs.PictureLines.{OfKeys, RuleLine, Sheet, Whole}
use Rattle.tbl_lines.specs.RulePlaces.{HasPlaces, HavePlaces}
use Rattle.tbl_tall.specs.BandLaws.{ComesNext, HasLinePlaces, NextPlaces}
use Rattle.tbl_tall.specs.Bands.{AlikeLines, KeptBand, Keys, Wholes, band_line, line_given, lines_behind}
use Rattle.tbl_line_cells.specs.RulesDrawn.{RuleGiven, is_whole_line}
use Rattle.tbl_tall.specs.TallRows.{BarsFit, Comes, HaveKeys, KeptTall, KeysCome, RuleComes, SignIs, WholeComes, below_rule, next_format, row_below}
use Rattle.tbl_tall.proofs.BandSteps.{overs-self}
use Rattle.tbl_tall.proofs.BandsAlike.{met-alike, through-key}
use Rattle.tbl_tall.proofs.BandsBelow.{comes-next}
use Rattle.tbl_tall.proofs.BarsFit.{nothing-fits, row-fits, rules-fit}
use Rattle.tbl_tall.proofs.KeysCover.{lefts-all, lefts-order}
use Rattle.tbl_tall.proofs.RowsGoOn.{keys-stay}
use Rattle.tbl_tall.proofs.RuleFits.{rule-fits}

-- one sign more
pub signs-next : (f : ℕ → Option RuleSign) (xs : List (Option RuleSign)) (v : Option RuleSign) (n : ℕ) → length xs ≡ n → v ≡ f n
    → ((column : ℕ) → column < n → get_or xs column None ≡ f column)
    → (column : ℕ) → column < n + 1 → get_or (xs ++ v ∷ []) column None ≡ f column
signs-next f xs v n many is before column few = elim (cases_lt column n) [
  | inl less ↦ get_or_append_left xs (v ∷ []) None column (omega (arith, less, many)) ∙ before column less
  | inr past ↦
      let none : column - n ≡ 0 = omega (arith, past, few) in
      let here : n ≡ column = omega (arith, past, few) in
      get_or-append_right xs (v ∷ []) n column None many past ∙ ap (λ (i : ℕ). get_or (v ∷ []) i None) none ∙ is ∙ ap f here
]

-- the bars of the lines below it have their places
module _ (s : Sheet) where
  abbrev columns : ℕ
  columns = length s.columns

  keys-fit : (cells : List Left) (rules : List FormatRow) (below : Beside) → AllByRecursion (λ (f : FormatRow). HasLinePlaces s (OfKeys f)) rules
      → BarsFit s below → BarsFit s (behind_keys s cells rules below)
  keys-fit cells [] below all fits = fits
  keys-fit cells (format ∷ rules) below all fits =
      rules-fit s (OfKeys format) (overs 0 cells s.columns) (behind_keys s cells rules below) all.0 (keys-fit cells rules below all.1 fits)

  through-stay : (rules : ℕ) (cells : List Left) (format : FormatRow) → HaveKeys cells (all_keys columns format)
      → HaveKeys (through_rules rules cells) (all_keys columns format)
  through-stay zero cells format have = have
  through-stay (suc rules) cells format have =
      through-stay rules (map through_rule cells) format (keys-stay through_rule through-key cells (all_keys columns format) have)

  first-fits : (rules : ℕ) (cells : List Left) (format : FormatRow) → HasPlaces s.bars.front s.columns format
      → HaveKeys cells (all_keys columns format) → AreWithin columns format.keys
      → BarsFit s (OfRow (through_rules rules cells) (bars_at_end columns format))
  first-fits rules cells format places have within =
      let own = through_rules rules cells in
      let keys = through-stay rules cells format have in
      row-fits s format own places keys (lefts-order columns format own within keys) (lefts-all columns format own within keys) within

  below-fits : (elements : List Element) (cells : List Left) → NextPlaces s elements → HaveKeys cells (all_keys columns (next_format elements))
      → AreWithin columns (next_format elements).keys → BarsFit s (below_of s cells elements)
  below-fits [] cells places have within = nothing-fits s
  below-fits (Row rules format fields ∷ elements) cells places have within =
      keys-fit cells rules (OfRow (through_rules (length rules) cells) (bars_at_end columns format)) places.0
      (first-fits (length rules) cells format places.1 have within)
  below-fits (Rule sign ∷ elements) cells places have within =
      let next = map through_rule cells in
      rules-fit s (Whole sign) (overs 0 cells s.columns) (below_of s next elements) tt
      (below-fits elements next places (keys-stay through_rule through-key cells (all_keys columns (next_format elements)) have) within)
  below-fits (Command bytes ∷ elements) cells places have within = below-fits elements cells places have within

  pub own-places : (elements rest : List Element) (line : RuleLine) → RuleComes elements line rest → NextPlaces s elements → HasLinePlaces s line
  own-places _ _ _ WholeComes places = tt
  own-places _ _ _ KeysCome places = places.0.0

  pub rest-fits : (elements rest : List Element) (line : RuleLine) (cells : List Left) → RuleComes elements line rest → NextPlaces s elements
      → HaveKeys cells (all_keys columns (next_format elements)) → AreWithin columns (next_format elements).keys
      → BarsFit s (below_rule s line cells rest)
  rest-fits _ _ _ cells (WholeComes {sign} {elements}) places have within =
      below-fits elements (map through_rule cells) places
      (keys-stay through_rule through-key cells (all_keys columns (next_format elements)) have) within
  rest-fits _ _ _ cells (KeysCome {format} {row} {rules} {fields} {elements}) places have within =
      keys-fit cells rules (OfRow (through_rules (length rules) (map through_rule cells)) (bars_at_end columns row)) places.0.1
      (first-fits (suc (length rules)) cells row places.1 have within)

-- the line is told
abbrev KeysOf : RuleLine → RuleLine → Type 0
KeysOf (Whole sign) other = Unit {0}
KeysOf (OfKeys format) (Whole sign) = ⊥
KeysOf (OfKeys format) (OfKeys other) = other ≡ format

keys-of : (line other : RuleLine) → AlikeLines line other → KeysOf line other
keys-of _ _ Wholes = tt
keys-of _ _ Keys = refl

record IsGiven (t : Bool) (row format : FormatRow) : Type 0 where
  pub keys : t ≡ false
  pub row_is : row ≡ format

given-by : (t : Bool) (row format : FormatRow) → KeysOf (OfKeys format) (if t then Whole Single else OfKeys row) → IsGiven t row format
given-by true row format is = absurd is
given-by false row format is = record { keys = refl; row_is = is }

module _ (formats : List FormatRow) (b : KeptBand) where
  abbrev row : FormatRow
  row = row_at formats (b.first + (b.at - b.wholes))

  pub given-line : (whole : Option RuleSign) (line : RuleLine) → SignIs whole line → AlikeLines line (band_line formats b b.at)
      → line_given formats b whole ≡ line
  given-line (Some sign) (Whole other) is alike = ap (λ (r : RuleSign). Whole r) is
  given-line (Some sign) (OfKeys format) is alike = absurd is
  given-line None (Whole sign) is alike = absurd is
  given-line None (OfKeys format) is alike =
      let given = given-by (nat_lt b.at b.wholes) row format (keys-of (OfKeys format) (band_line formats b b.at) alike) in
      ap (λ (f : FormatRow). OfKeys f) given.row_is

  pub given-keys : (whole : Option RuleSign) (line : RuleLine) → SignIs whole line → AlikeLines line (band_line formats b b.at) → whole ≡ None
      → b.wholes ≤ b.at
  given-keys (Some sign) line is alike none = absurd (cc)
  given-keys None (Whole sign) is alike none = absurd is
  given-keys None (OfKeys format) is alike none =
      let given = given-by (nat_lt b.at b.wholes) row format (keys-of (OfKeys format) (band_line formats b b.at) alike) in
      let test = given.keys in
      grind (arith, nat_tests, test)

pub given-whole : (whole : Option RuleSign) (line : RuleLine) → SignIs whole line → is_some whole ≡ is_whole_line line
given-whole (Some sign) (Whole other) is = refl
given-whole (Some sign) (OfKeys format) is = absurd is
given-whole None (Whole sign) is = absurd is
given-whole None (OfKeys format) is = refl

-- all of it
module _ {bytes : List ℕ} {formats : List FormatRow} {s : Sheet} {t : KeptTall} {heights : List ℕ} {cells : List Left} {above : Beside}
    {elements rest : List Element} {line : RuleLine} (comes : Comes bytes formats s t heights cells above elements)
    (rule : RuleComes elements line rest) where
  abbrev all : List Over
  all = overs 0 cells s.columns

  pub next-line : ComesNext formats s t.band all cells line elements rest
  next-line =
      comes-next formats s t.band all cells (overs-self all) comes.band.fits.given comes.band.fits.rows elements rest line rule comes.wholes comes.rules

  pub rule-given : (whole : Option RuleSign) (signs : List (Option RuleSign)) (counts : List ℕ) → SignIs whole line → HavePlaces formats s
      → NextPlaces s elements
      → ((column : ℕ) → column < length s.columns → get_or signs column None ≡ sign_at (line_given formats t.band whole) (over_at all column) column)
      → ((boundary : ℕ) → boundary ≤ length s.columns → get_or counts boundary 0
      ≡ bars_met s.bars (length s.columns) (band_line formats t.band t.band.at) all above
      (lines_behind formats t.band all (t.band.at + 1) (row_below (length s.columns) cells elements)) boundary)
      → RuleGiven bytes t.cells signs counts s.columns cells s.bars line above (below_rule s line cells rest)
  rule-given whole signs counts is places own drawn met =
      let next = next-line in
      let below = below_rule s line cells rest in
      let kept = lines_behind formats t.band all (t.band.at + 1) (row_below (length s.columns) cells elements) in
      record {
        left = comes.left;
        drawn = λ column few.
            drawn column few
            ∙ ap (λ (l : RuleLine). sign_at l (over_at all column) column) (given-line formats t.band whole line is next.alike);
        met = λ boundary few.
            met boundary few
            ∙ sym (met-alike s.bars (length s.columns) line (band_line formats t.band t.band.at) all all next.alike (overs-self all) above below
            above kept boundary refl (next.below boundary));
        fit = rule-fits s line all above below places.order (own-places s elements rest line rule own) comes.fit
            (rest-fits s elements rest line cells rule own comes.keys comes.within);
      }
