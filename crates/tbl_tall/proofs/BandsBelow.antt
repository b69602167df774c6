-- The line below a line of rules shows the same bars, told by the elements of the picture, and by the lines that are kept.
use Rattle.std.proofs.Common.{◌≡◌, ℕ, zero, suc, ◌+◌, ◌-◌, ◌<◌, ◌≤◌, nat_lt, Bool, true, false, List, [], ◌∷◌, length, map, take, drop, refl, sym, ap, subst, ◌∙◌, arith, if◌then◌else◌, length-drop, drop-cons}
use Rattle.std.proofs.lemmas.Bool.Decides.{nat_tests}
use Rattle.tbl_format.specs.Format.{FormatRow}
use Rattle.tbl_format.specs.RowsServed.{no_keys, row_at}
use Rattle.tbl_layout.specs.Entries.{Command, Content, Element, Row, Rule}
use Rattle.tbl_layout.specs.declared.data_lines.RuleSign.{RuleSign}
use Rattle.tbl_layout.specs.declared.data_lines.RuleSign.TheVariants.{Single}
use Rattle.tbl_options.specs.declared.options.Boxing.{Boxing}
use Rattle.tbl_lines.specs.CellsLeft.{Left, bars_at_end}
use Rattle.tbl_lines.specs.LinesLeft.{Beside, Nothing, OfRow, OfRules, Over, overs, shown_bars}
use Rattle.tbl_lines.specs.PictureLeft.{behind_keys, below_of, through_rule, through_rules}
use Rattle.tbl_lines.specs.PictureLines.{OfKeys, RuleLine, Sheet, Whole}
use Rattle.tbl_tall.specs.BandLaws.{ComesNext}
use Rattle.tbl_tall.specs.Bands.{AlikeLines, AlikeOvers, KeptBand, Keys, Wholes, keys_left, line_among, lines_among, wholes_left}
use Rattle.tbl_tall.specs.TallRows.{KeysCome, RuleComes, WholeComes, keys_in_front, row_below, wholes_in_front}
use Rattle.tbl_tall.proofs.BandsAlike.{overs-alike, shown-alike}

-- cells go through the same columns as others, which go through the same as third ones
pub overs-then : (all other third : List Over) → AlikeOvers all other → AlikeOvers other third → AlikeOvers all third
overs-then all other third here there = record {
  free = λ column. here.free column ∙ there.free column;
  within = λ boundary. here.within boundary ∙ there.within boundary;
}

none-taken : (n : ℕ) (formats : List FormatRow) → n ≤ length formats → take n formats ≡ [] → n ≡ 0
none-taken zero formats few none = refl
none-taken (suc n) [] few none = absurd (omega (arith, few))
none-taken (suc n) (f ∷ formats) few none = absurd (cc)

module _ (formats : List FormatRow) (s : Sheet) (b : KeptBand) (all : List Over) (boundary : ℕ) where
  abbrev columns : ℕ
  columns = length s.columns

  abbrev boxing : Boxing
  boxing = s.bars.boxing

  abbrev shown : Beside → ℕ
  shown line = shown_bars boxing columns line boundary

  abbrev lines : ℕ → ℕ → Beside → Beside
  lines at left below = lines_among formats b.wholes b.first all at left below

  abbrev row_of : ℕ → ℕ
  row_of at = b.first + (at - b.wholes)

  -- one of the rows of rule keys
  pub keys-line : (at : ℕ) → b.wholes ≤ at → line_among formats b.wholes b.first at ≡ OfKeys (row_at formats (row_of at))
  keys-line at past =
      let test : nat_lt at b.wholes ≡ false = grind (arith, nat_tests) in
      ap (λ (t : Bool). if t then Whole Single else OfKeys (row_at formats (row_of at))) test

  pub whole-line : (at : ℕ) → at < b.wholes → line_among formats b.wholes b.first at ≡ Whole Single
  whole-line at before =
      let test : nat_lt at b.wholes ≡ true = grind (arith, nat_tests) in
      ap (λ (t : Bool). if t then Whole Single else OfKeys (row_at formats (row_of at))) test

  -- rows of rule keys in front of a row
  pub keys-below : (left at : ℕ) (cells : List Left) (below : Beside) → AlikeOvers (overs 0 cells s.columns) all → b.wholes ≤ at
      → row_of at + left ≤ length formats
      → shown (behind_keys s cells (take left (drop (row_of at) formats)) below) ≡ shown (lines at left below)
  keys-below zero at cells below same past few = refl
  keys-below (suc left) at cells below same past few =
      let row = row_at formats (row_of at) in
      let next : suc (row_of at) ≡ row_of (suc at) = omega (arith, past) in
      let here : row_of at < length formats = omega (arith, few) in
      let rest = take left (drop (suc (row_of at)) formats) in
      ap (λ (fs : List FormatRow). shown (behind_keys s cells (take (suc left) fs) below)) (drop-cons formats (row_of at) no_keys here)
      ∙ shown-alike boxing columns (OfKeys row) (OfKeys row) (overs 0 cells s.columns) all Keys same (behind_keys s cells rest below)
      (lines (suc at) left below) boundary
      (ap (λ (n : ℕ). shown (behind_keys s cells (take left (drop n formats)) below)) next
      ∙ keys-below left (suc at) cells below same (omega (arith, past)) (omega (arith, few, next)))
      ∙ ap (λ (line : RuleLine). shown (OfRules line all (lines (suc at) left below))) (sym (keys-line at past))

  -- all that stands in front of the row that comes first of some elements
  pub all-below : (elements : List Element) (at : ℕ) (cells : List Left) → AlikeOvers (overs 0 cells s.columns) all
      → at ≤ b.wholes + b.count → b.first + b.count ≤ length formats → b.wholes - at ≡ wholes_in_front elements
      → take (b.count - (at - b.wholes)) (drop (row_of at) formats) ≡ keys_in_front elements
      → shown (below_of s cells elements) ≡ shown (lines at (b.wholes + b.count - at) (row_below columns cells elements))
  all-below [] at cells same given rows wholes keys =
      let few : b.count - (at - b.wholes) ≤ length (drop (row_of at) formats) = omega (arith, rows, given, wholes, length-drop (row_of at) formats) in
      let none = none-taken (b.count - (at - b.wholes)) (drop (row_of at) formats) few keys in
      let left : 0 ≡ b.wholes + b.count - at = omega (arith, none, wholes, given) in
      ap (λ (n : ℕ). shown (lines at n Nothing)) left
  all-below (Row rules format fields ∷ elements) at cells same given rows wholes keys =
      let below = OfRow (through_rules (length rules) cells) (bars_at_end columns format) in
      let past : b.wholes ≤ at = omega (arith, wholes) in
      let left : b.count - (at - b.wholes) ≡ b.wholes + b.count - at = omega (arith, past, given) in
      ap (λ (fs : List FormatRow). shown (behind_keys s cells fs below)) (sym keys)
      ∙ keys-below (b.count - (at - b.wholes)) at cells below same past (omega (arith, rows, given, past))
      ∙ ap (λ (n : ℕ). shown (lines at n below)) left
  all-below (Rule sign ∷ elements) at cells same given rows wholes keys =
      let next = map through_rule cells in
      let before : at < b.wholes = omega (arith, wholes) in
      let none : suc at - b.wholes ≡ at - b.wholes = omega (arith, before) in
      let below = row_below columns next elements in
      let left : suc (b.wholes + b.count - suc at) ≡ b.wholes + b.count - at = omega (arith, before) in
      let rest = lines (suc at) (b.wholes + b.count - suc at) below in
      shown-alike boxing columns (Whole sign) (Whole Single) (overs 0 cells s.columns) all Wholes same (below_of s next elements) rest boundary
      (all-below elements (suc at) next (overs-then (overs 0 next s.columns) (overs 0 cells s.columns) all (overs-alike cells s.columns) same)
      (omega (arith, before)) rows (omega (arith, wholes))
      (ap (λ (n : ℕ). take (b.count - n) (drop (b.first + n) formats)) none ∙ keys))
      ∙ ap (λ (line : RuleLine). shown (OfRules line all rest)) (sym (whole-line at before))
      ∙ ap (λ (n : ℕ). shown (lines at n below)) left
  all-below (Command bytes ∷ elements) at cells same given rows wholes keys = all-below elements at cells same given rows wholes keys

few-taken : (n : ℕ) (formats : List FormatRow) → length (take n formats) ≤ n
few-taken zero formats = omega arith
few-taken (suc n) [] = omega arith
few-taken (suc n) (f ∷ formats) = omega (arith, few-taken n formats)

-- the first of some rows that are taken
first-taken : (n at : ℕ) (formats : List FormatRow) (format : FormatRow) (rules : List FormatRow) → at < length formats
    → take n (drop at formats) ≡ format ∷ rules → (row_at formats at ≡ format) × (take (n - 1) (drop (at + 1) formats) ≡ rules)
first-taken zero at formats format rules more is = absurd (cc)
first-taken (suc n) at formats format rules more is =
    let all : row_at formats at ∷ take n (drop (suc at) formats) ≡ format ∷ rules
    = ap (λ (fs : List FormatRow). take (suc n) fs) (sym (drop-cons formats at no_keys more)) ∙ is in
    let first : row_at formats at ≡ format = cc in
    let others : take n (drop (suc at) formats) ≡ rules = cc in
    let here : suc n - 1 ≡ n = omega arith in
    let next : at + 1 ≡ suc at = omega arith in
    (first, ap (λ (m : ℕ). take m (drop (at + 1) formats)) here ∙ ap (λ (m : ℕ). take n (drop m formats)) next ∙ others)

-- a line of rules that comes next, by the first element
abbrev pub RuleOf : List Element → RuleLine → List Element → Type 0
RuleOf [] line rest = ⊥
RuleOf (Row [] row fields ∷ elements) line rest = ⊥
RuleOf (Row (format ∷ rules) row fields ∷ elements) line rest = (line ≡ OfKeys format) × (rest ≡ Row rules row fields ∷ elements)
RuleOf (Rule sign ∷ elements) line rest = (line ≡ Whole sign) × (rest ≡ elements)
RuleOf (Command bytes ∷ elements) line rest = ⊥

pub rule-of : (elements rest : List Element) (line : RuleLine) → RuleComes elements line rest → RuleOf elements line rest
rule-of _ _ _ WholeComes = (refl, refl)
rule-of _ _ _ KeysCome = (refl, refl)

-- a line of rules that comes next
module _ (formats : List FormatRow) (s : Sheet) (b : KeptBand) (all : List Over) (cells : List Left) (same : AlikeOvers (overs 0 cells s.columns) all)
    (given : b.at ≤ b.wholes + b.count) (rows : b.first + b.count ≤ length formats) where
  whole-comes : (sign : RuleSign) (rest : List Element) → b.wholes - b.at ≡ suc (wholes_in_front rest)
      → take (b.count - (b.at - b.wholes)) (drop (b.first + (b.at - b.wholes)) formats) ≡ keys_in_front rest
      → ComesNext formats s b all cells (Whole sign) (Rule sign ∷ rest) rest
  whole-comes sign rest wholes keys =
      let next = map through_rule cells in
      let before : b.at < b.wholes = omega (arith, wholes) in
      let none : b.at + 1 - b.wholes ≡ b.at - b.wholes = omega (arith, before) in
      let left : b.wholes - (b.at + 1) ≡ wholes_in_front rest = omega (arith, wholes) in
      let keys_behind = ap (λ (n : ℕ). take (b.count - n) (drop (b.first + n) formats)) none ∙ keys in
      record {
        more = omega (arith, before);
        alike = subst (AlikeLines (Whole sign)) (sym (whole-line formats s b all 0 b.at before)) Wholes;
        wholes = left;
        keys = keys_behind;
        below = λ boundary.
            all-below formats s b all boundary rest (b.at + 1) next
            (overs-then (overs 0 next s.columns) (overs 0 cells s.columns) all (overs-alike cells s.columns) same)
            (omega (arith, before)) rows left keys_behind;
      }

  keys-come : (format row : FormatRow) (rules : List FormatRow) (fields : List Content) (rest : List Element) → b.wholes - b.at ≡ 0
      → take (b.count - (b.at - b.wholes)) (drop (b.first + (b.at - b.wholes)) formats) ≡ format ∷ rules
      → ComesNext formats s b all cells (OfKeys format) (Row (format ∷ rules) row fields ∷ rest) (Row rules row fields ∷ rest)
  keys-come format row rules fields rest wholes keys =
      let from = b.first + (b.at - b.wholes) in
      let n = b.count - (b.at - b.wholes) in
      let some : 0 < n = omega (arith, ap length keys, few-taken n (drop from formats)) in
      let more : b.at < b.wholes + b.count = omega (arith, some, wholes) in
      let here : from < length formats = omega (arith, some, rows) in
      let both = first-taken n from formats format rules here keys in
      let fewer : b.count - (b.at + 1 - b.wholes) ≡ n - 1 = omega (arith, wholes) in
      let later : b.first + (b.at + 1 - b.wholes) ≡ from + 1 = omega (arith, wholes) in
      let keys_behind : take (b.count - (b.at + 1 - b.wholes)) (drop (b.first + (b.at + 1 - b.wholes)) formats) ≡ rules
      = ap (λ (m : ℕ). take m (drop (b.first + (b.at + 1 - b.wholes)) formats)) fewer
      ∙ ap (λ (m : ℕ). take (n - 1) (drop m formats)) later ∙ both.1 in
      let below = OfRow (through_rules (length rules) (map through_rule cells)) (bars_at_end (length s.columns) row) in
      let left : b.count - (b.at + 1 - b.wholes) ≡ b.wholes + b.count - (b.at + 1) = omega (arith, wholes) in
      let past : b.wholes ≤ b.at + 1 = omega (arith, wholes) in
      record {
        more = more;
        alike = subst (AlikeLines (OfKeys format)) (ap (λ (f : FormatRow). OfKeys f) (sym both.0)
            ∙ sym (keys-line formats s b all 0 b.at (omega (arith, wholes)))) Keys;
        wholes = omega (arith, wholes);
        keys = keys_behind;
        below = λ boundary.
            ap (λ (fs : List FormatRow). shown_bars s.bars.boxing (length s.columns) (behind_keys s cells fs below) boundary) (sym keys_behind)
            ∙ keys-below formats s b all boundary (b.count - (b.at + 1 - b.wholes)) (b.at + 1) cells below same past (omega
            (arith, rows, more, wholes))
            ∙ ap (λ (m : ℕ). shown_bars s.bars.boxing (length s.columns) (lines_among formats b.wholes b.first all (b.at + 1) m below) boundary) left;
      }

  comes-by : (elements rest : List Element) (line : RuleLine) → RuleOf elements line rest → wholes_left b ≡ wholes_in_front elements
      → keys_left formats b ≡ keys_in_front elements → ComesNext formats s b all cells line elements rest
  comes-by [] rest line is wholes keys = absurd is
  comes-by (Row [] row fields ∷ elements) rest line is wholes keys = absurd is
  comes-by (Row (format ∷ rules) row fields ∷ elements) rest line is wholes keys =
      subst (λ (k : RuleLine). ComesNext formats s b all cells k (Row (format ∷ rules) row fields ∷ elements) rest) (sym is.0)
      (subst (λ (es : List Element). ComesNext formats s b all cells (OfKeys format) (Row (format ∷ rules) row fields ∷ elements) es) (sym is.1)
      (keys-come format row rules fields elements wholes keys))
  comes-by (Rule sign ∷ elements) rest line is wholes keys =
      subst (λ (k : RuleLine). ComesNext formats s b all cells k (Rule sign ∷ elements) rest) (sym is.0)
      (subst (λ (es : List Element). ComesNext formats s b all cells (Whole sign) (Rule sign ∷ elements) es) (sym is.1)
      (whole-comes sign elements wholes keys))
  comes-by (Command bytes ∷ elements) rest line is wholes keys = absurd is

  pub comes-next : (elements rest : List Element) (line : RuleLine) → RuleComes elements line rest → wholes_left b ≡ wholes_in_front elements
      → keys_left formats b ≡ keys_in_front elements → ComesNext formats s b all cells line elements rest
  comes-next elements rest line comes wholes keys = comes-by elements rest line (rule-of elements rest line comes) wholes keys
