-- How many entries are still to count behind a line of rules on which something is cut.
use Rattle.std.proofs.Common.{◌≡◌, ℕ, suc, ◌+◌, ◌-◌, ◌≤◌, List, [], ◌∷◌, ◌++◌, drop, length, map, get_or, Option, refl, sym, ap, subst, ◌∙◌, arith, if◌then◌else◌}
use Rattle.tbl_format.specs.Format.{FormatRow}
use Rattle.tbl_layout.specs.Entries.{Command, Content, Element, Row, Rule}
use Rattle.tbl_layout.specs.declared.bars.Bars.{Bars}
use Rattle.tbl_layout.specs.declared.columns.Column.{Column}
use Rattle.tbl_layout.specs.declared.data_lines.RuleSign.{RuleSign}
use Rattle.tbl_line_cells.specs.LinesDrawn.{CutOn}
use Rattle.tbl_lines.specs.CellsLeft.{Left, bars_at_end, cells_next}
use Rattle.tbl_lines.specs.CutEntries.{all_with_cut, behind_key_lines, behind_row, cut_from, cut_in_keys, cut_in_row, first_cut, with_cut}
use Rattle.tbl_lines.specs.LinesLeft.{Beside, OfRow, OfRules, Over, bars_met, cut_cells, edge, front_between, fronts_between, is_within, over_at, overs, row_cut, rule_cut, rules_edge, all_shown}
use Rattle.tbl_layout.specs.LayoutLaws.{first_start, last_end}
use Rattle.tbl_lines.specs.PictureLeft.{behind_keys, behind_lines, through_rule, through_rules}
use Rattle.tbl_lines.specs.PictureLines.{Cell, OfKeys, RuleLine, Sheet, Whole}
use Rattle.tbl_lines.specs.RulePlaces.{HavePlaces}
use Rattle.tbl_tall.proofs.BandSteps.{overs-self, stands-alike}
use Rattle.tbl_tall.proofs.BandsAlike.{alike-self, met-alike, shown-alike}
use Rattle.tbl_tall.proofs.BandsBelow.{RuleOf, rule-of}
use Rattle.tbl_tall.proofs.MarksApart.{alike-marked, alike-rules, alike-through, overs-same, row-same}
use Rattle.tbl_tall.specs.BandLaws.{HasLinePlaces, NextPlaces}
use Rattle.tbl_tall.specs.Bands.{ShowSame}
use Rattle.tbl_giving.specs.CutsCounted.{CutsGo}
use Rattle.tbl_tall.specs.TallRows.{Comes, KeptTall, KeysCome, RowStands, RuleComes, SignIs, WholeComes, below_rule, places_at, row_below}

-- what comes below a line comes below any that shows the same bars
pub comes-beside : (bytes : List ℕ) (formats : List FormatRow) (s : Sheet) (t : KeptTall) (heights : List ℕ) (cells : List Left) (above beside : Beside)
    (elements : List Element) → Comes bytes formats s t heights cells above elements → ShowSame s.bars.boxing (length s.columns) above beside
    → Comes bytes formats s t heights cells beside elements
comes-beside bytes formats s t heights cells above beside elements comes same =
    let n = length s.columns in
    let all = overs 0 cells s.columns in
    record {
      left = comes.left;
      keys = comes.keys;
      band = stands-alike formats s.bars n t.band all all above beside (row_below n cells elements) comes.band (overs-self all) same;
      wholes = comes.wholes;
      rules = comes.rules;
      height = comes.height;
      last = comes.last;
      fit = λ boundary few. subst (λ (bars : ℕ). bars ≤ places_at s boundary) (same boundary few) (comes.fit boundary few);
      within = comes.within;
      some = comes.some;
      room = comes.room;
    }

-- a line of rules is cut alike above lines that show the same bars
module _ (s : Sheet) (line : RuleLine) (all : List Over) (above below beside : Beside)
    (same : ShowSame s.bars.boxing (length s.columns) below beside) where
  met-same : (boundary : ℕ) → boundary ≤ length s.columns
      → bars_met s.bars (length s.columns) line all above below boundary ≡ bars_met s.bars (length s.columns) line all above beside boundary
  met-same boundary few =
      met-alike s.bars (length s.columns) line line all all (alike-self line) (overs-self all) above below above beside boundary refl (same boundary few)

  fronts-same : (column : ℕ) (columns : List Column) → column + length columns ≤ length s.columns
      → fronts_between s line all above below column columns ≡ fronts_between s line all above beside column columns
  fronts-same column [] few = refl
  fronts-same column (c ∷ []) few = refl
  fronts-same column (c ∷ d ∷ columns) few =
      let next = over_at all (suc column) in
      let by : ℕ → List Cell → List Cell = λ count others.
      if is_within next then others else front_between line column (over_at all column) next count c d ∷ others in
      ap (λ (count : ℕ). by count (fronts_between s line all above below (suc column) (d ∷ columns))) (met-same (suc column) (omega (arith, few)))
      ∙ ap (by (bars_met s.bars (length s.columns) line all above beside (suc column))) (fronts-same (suc column) (d ∷ columns) (omega (arith, few)))

pub cut-same : (s : Sheet) (line : RuleLine) (cells : List Left) (above below beside : Beside) → ShowSame s.bars.boxing (length s.columns) below beside
    → rule_cut s line cells above below ≡ rule_cut s line cells above beside
cut-same s line cells above below beside same =
    let n = length s.columns in
    let all = overs 0 cells s.columns in
    let first = rules_edge line (over_at all 0) in
    let last = rules_edge line (over_at all (n - 1)) in
    let by : ℕ → ℕ → List Cell → List Left = λ left right fronts.
    cut_cells s (edge first 0 left ∷ fronts ++ edge last (s.width - right) right ∷ [])
    (all_shown line all 0 (if first then left else first_start left s.columns) (if last then s.width - right else last_end 0 s.columns) s.columns) in
    let left = bars_met s.bars n line all above below 0 in
    let right = bars_met s.bars n line all above below n in
    ap (λ (m : ℕ). by m right (fronts_between s line all above below 0 s.columns)) (met-same s line all above below beside same 0 (omega arith))
    ∙ ap (λ (m : ℕ). by (bars_met s.bars n line all above beside 0) m (fronts_between s line all above below 0 s.columns))
    (met-same s line all above below beside same n (omega arith))
    ∙ ap (by (bars_met s.bars n line all above beside 0) (bars_met s.bars n line all above beside n))
    (fronts-same s line all above below beside same 0 s.columns (omega arith))

-- rows of rule keys in front of a row show the same, and are cut alike
keys-same : (s : Sheet) (cells : List Left) (rules : List FormatRow) (below beside : Beside) → ShowSame s.bars.boxing (length s.columns) below beside
    → ShowSame s.bars.boxing (length s.columns) (behind_keys s cells rules below) (behind_keys s cells rules beside)
keys-same s cells [] below beside same = same
keys-same s cells (format ∷ rules) below beside same = λ boundary few.
    let all = overs 0 cells s.columns in
    shown-alike s.bars.boxing (length s.columns) (OfKeys format) (OfKeys format) all all (alike-self (OfKeys format)) (overs-self all)
    (behind_keys s cells rules below) (behind_keys s cells rules beside) boundary (keys-same s cells rules below beside same boundary few)

many-same : (s : Sheet) (cells : List Left) (above : Beside) (rules : List FormatRow) (below beside : Beside)
    → ShowSame s.bars.boxing (length s.columns) below beside → cut_in_keys s cells above rules below ≡ cut_in_keys s cells above rules beside
many-same s cells above [] below beside same = refl
many-same s cells above (format ∷ rules) below beside same =
    let line = OfKeys format in
    let next = OfRules line (overs 0 cells s.columns) above in
    let cut = rule_cut s line cells above (behind_keys s cells rules below) in
    let other = rule_cut s line cells above (behind_keys s cells rules beside) in
    let is : cut ≡ other = cut-same s line cells above (behind_keys s cells rules below) (behind_keys s cells rules beside)
    (keys-same s cells rules below beside same) in
    ap (λ (ls : List Left). first_cut (length s.columns) ls + cut_in_keys s (map through_rule (all_with_cut ls cells)) next rules below) is
    ∙ ap (λ (n : ℕ). first_cut (length s.columns) other + n) (many-same s (map through_rule (all_with_cut other cells)) next rules below beside same)

left-same : (s : Sheet) (cells : List Left) (above : Beside) (rules : List FormatRow) (below beside : Beside)
    → ShowSame s.bars.boxing (length s.columns) below beside → behind_key_lines s cells above rules below ≡ behind_key_lines s cells above rules beside
left-same s cells above [] below beside same = refl
left-same s cells above (format ∷ rules) below beside same =
    let line = OfKeys format in
    let next = OfRules line (overs 0 cells s.columns) above in
    let other = rule_cut s line cells above (behind_keys s cells rules beside) in
    let is = cut-same s line cells above (behind_keys s cells rules below) (behind_keys s cells rules beside) (keys-same s cells rules below beside same) in
    ap (λ (ls : List Left). behind_key_lines s (map through_rule (all_with_cut ls cells)) next rules below) is
    ∙ left-same s (map through_rule (all_with_cut other cells)) next rules below beside same

-- behind a line of rules the others are to count, with those of that line
abbrev row_counted : Sheet → List ℕ → FormatRow → List Element → List Left → ℕ
row_counted s heights format elements own =
    let count = length s.columns in
    let height = get_or heights 0 0 in
    let last = bars_at_end count format in
    cut_in_row s last height own
    + cut_from s (drop 1 heights) (cells_next count format.keys (behind_row s last height own) (drop 1 heights) elements)
    (OfRow (behind_lines (height - 1) own) last) elements

sum : (here a b x y : ℕ) → a ≡ b → x ≡ y → here + a + x ≡ here + (b + y)
sum here a b x y keys left = omega (arith, keys, left)

keys-step : (s : Sheet) (heights : List ℕ) (cells : List Left) (above : Beside) (format row : FormatRow) (rules : List FormatRow)
    (fields : List Content) (elements : List Element)
    → let cut = rule_cut s (OfKeys format) cells above (below_rule s (OfKeys format) cells (Row rules row fields ∷ elements)) in
    cut_from s heights cells above (Row (format ∷ rules) row fields ∷ elements) ≡ first_cut (length s.columns) cut
    + cut_from s heights (map through_rule (all_with_cut cut cells)) (OfRules (OfKeys format) (overs 0 cells s.columns) above) (Row rules row fields ∷ elements)
keys-step s heights cells above format row rules fields elements =
    let n = length s.columns in
    let last = bars_at_end n row in
    let below = OfRow (through_rules (length rules) (map through_rule cells)) last in
    let cut = rule_cut s (OfKeys format) cells above (below_rule s (OfKeys format) cells (Row rules row fields ∷ elements)) in
    let marked = all_with_cut cut cells in
    let own = map through_rule marked in
    let beside = OfRow (through_rules (length rules) own) last in
    let next = OfRules (OfKeys format) (overs 0 cells s.columns) above in
    let same : ShowSame s.bars.boxing n below beside = row-same s.bars.boxing n last (through_rules (length rules) (map through_rule cells))
    (through_rules (length rules) own) (alike-rules (length rules) (map through_rule cells) own
    (alike-through cells marked (alike-marked (with_cut cut) (λ l. refl) cells))) in
    let keys = many-same s own next rules below beside same in
    let left = ap (row_counted s heights row elements) (left-same s own next rules below beside same) in
    let here = first_cut n cut in
    let a = cut_in_keys s own next rules below in
    let b = cut_in_keys s own next rules beside in
    let x = row_counted s heights row elements (behind_key_lines s own next rules below) in
    let y = row_counted s heights row elements (behind_key_lines s own next rules beside) in
    sum here a b x y keys left

abbrev Stepped : Sheet → List ℕ → List Left → Beside → List Element → RuleLine → List Element → Type 0
Stepped s heights cells above elements line rest =
    let cut = rule_cut s line cells above (below_rule s line cells rest) in
    cut_from s heights cells above elements ≡ first_cut (length s.columns) cut
    + cut_from s heights (map through_rule (all_with_cut cut cells)) (OfRules line (overs 0 cells s.columns) above) rest

step-by : (s : Sheet) (heights : List ℕ) (cells : List Left) (above : Beside) (elements rest : List Element) (line : RuleLine) → RuleOf elements line rest
    → Stepped s heights cells above elements line rest
step-by s heights cells above [] rest line is = absurd is
step-by s heights cells above (Row [] row fields ∷ elements) rest line is = absurd is
step-by s heights cells above (Row (format ∷ rules) row fields ∷ elements) rest line is =
    let all = Row (format ∷ rules) row fields ∷ elements in
    subst (λ (l : RuleLine). Stepped s heights cells above all l rest) (sym is.0)
    (subst (λ (es : List Element). Stepped s heights cells above all (OfKeys format) es) (sym is.1)
    (keys-step s heights cells above format row rules fields elements))
step-by s heights cells above (Rule sign ∷ elements) rest line is =
    subst (λ (l : RuleLine). Stepped s heights cells above (Rule sign ∷ elements) l rest) (sym is.0)
    (subst (λ (es : List Element). Stepped s heights cells above (Rule sign ∷ elements) (Whole sign) es) (sym is.1) refl)
step-by s heights cells above (Command bytes ∷ elements) rest line is = absurd is

pub rule-step : (s : Sheet) (heights : List ℕ) (cells : List Left) (above : Beside) (elements rest : List Element) (line : RuleLine)
    → RuleComes elements line rest → Stepped s heights cells above elements line rest
rule-step s heights cells above elements rest line rule = step-by s heights cells above elements rest line (rule-of elements rest line rule)

pub line-places : (s : Sheet) (elements rest : List Element) (line : RuleLine) → RuleComes elements line rest → NextPlaces s elements → HasLinePlaces s line
line-places s _ _ _ WholeComes places = tt
line-places s _ _ _ KeysCome places = places.0.0

-- a line of rules was given on which something is cut
pub rule-go : (counted : ℕ) (bytes : List ℕ) (formats : List FormatRow) (s : Sheet) (new : KeptTall) (heights : List ℕ) (cells : List Left)
    (above : Beside) (elements rest : List Element) (line : RuleLine) (count : ℕ) → RuleComes elements line rest
    → let cut = rule_cut s line cells above (below_rule s line cells rest) in
    counted ≡ first_cut (length s.columns) cut → cut_from s heights cells above elements ≡ count
    → Comes bytes formats s new heights (map through_rule (all_with_cut cut cells)) (OfRules line (overs 0 (all_with_cut cut cells) s.columns) above) rest
    → CutsGo counted bytes formats s new heights rest count
rule-go counted bytes formats s new heights cells above elements rest line count rule first many comes =
    let n = length s.columns in
    let cut = rule_cut s line cells above (below_rule s line cells rest) in
    let marked = all_with_cut cut cells in
    let all = overs 0 marked s.columns in
    let other = overs 0 cells s.columns in
    let own = map through_rule marked in
    let more = cut_from s heights own (OfRules line other above) rest in
    let same = alike-marked (with_cut cut) (λ l. refl) cells in
    record {
      more = more;
      all = sym many ∙ rule-step s heights cells above elements rest line rule ∙ ap (λ (m : ℕ). m + more) (sym first);
      come = record {
        cells = own;
        above = OfRules line other above;
        comes = comes-beside bytes formats s new heights own (OfRules line all above) (OfRules line other above) rest comes
            (λ boundary few. shown-alike s.bars.boxing n line line all other (alike-self line) (overs-same marked cells s.columns (sym same))
            above above boundary refl);
        many = refl;
      };
    }

-- what is cut on lines that are laid, in such columns
abbrev pub CutsRule : List ℕ → List FormatRow → Bars → ℕ → Option RuleSign → KeptTall → KeptTall → List Column → Type 0
CutsRule bytes formats bars width whole old new columns = (heights : List ℕ) (cells : List Left) (above : Beside) (elements rest : List Element)
    (line : RuleLine)
    → let s : Sheet = record { bars = bars; width = width; columns = columns } in
    HavePlaces formats s → NextPlaces s elements → Comes bytes formats s old heights cells above elements → RuleComes elements line rest
    → SignIs whole line → CutOn (length columns) new.line (rule_cut s line cells above (below_rule s line cells rest))

abbrev pub CutsRow : List ℕ → Bars → ℕ → KeptTall → KeptTall → List Column → Type 0
CutsRow bytes bars width old new columns = (format : FormatRow) (cells : List Left) (lines : ℕ)
    → let s : Sheet = record { bars = bars; width = width; columns = columns } in
    RowStands bytes s old format cells lines → CutOn (length columns) new.line (row_cut s (bars_at_end (length s.columns) format) cells)
