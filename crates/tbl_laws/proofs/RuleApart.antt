-- The pieces of a line of rules stand apart.
use Rattle.std.proofs.Common.{◌≡◌, ℕ, zero, suc, ◌+◌, ◌-◌, ◌≤◌, max, Bool, true, false, List, [], ◌∷◌, ◌++◌, length, map, Option, Some, None, refl, sym, subst, arith, if◌then◌else◌, append-nil}
use Rattle.tbl_layout.specs.Columns.{bar_place, bars_begin, bars_end}
use Rattle.tbl_layout.specs.DataLines.{sign_byte}
use Rattle.tbl_layout.specs.LayoutLaws.{first_start, last_end}
use Rattle.tbl_layout.specs.declared.bars.Bars.{Bars}
use Rattle.tbl_layout.specs.declared.columns.Column.{Column}
use Rattle.tbl_layout.specs.declared.data_lines.RuleSign.{RuleSign}
use Rattle.tbl_lines.specs.CellsLeft.{Left}
use Rattle.tbl_lines.specs.LinesLeft.{Beside, Free, Over, Shown, Through, all_shown, bars_met, drawn_at, edge, front_between, fronts_between, if_drawn, if_ruled, is_within, joined_here, over_at, over_shown, overs, rule_fronts, rule_line_left, rule_shown, rules_edge, shown, shown_cell}
use Rattle.tbl_laws.specs.PiecesApart.{InTurn, IsApart, OverFits, OversStand, RuleStands, StandApart, over_end}
use Rattle.tbl_lines.specs.PictureLines.{Cell, RuleLine, Sheet, bar, crossing, repeated, sign_over, with_fronts}
use Rattle.tbl_lines.specs.RulePlaces.{AreMet}
use Rattle.tbl_lines.proofs.CutLines.{NoneRunOn}
use Rattle.tbl_laws.proofs.CellsFit.{shown-within}
use Rattle.tbl_laws.proofs.PiecesBehind.{Within, bars-within, drawn-within, next-apart, nothing-within, ruled-within, run-within}
use Rattle.tbl_lines.proofs.RulesOrdered.{bars-within as bars-between}
use Rattle.tbl_laws.proofs.ShownWhole.{line-whole, rule-whole}

-- an edge
edge-within : (is_ruled : Bool) (n at from to : ℕ) → from ≤ at → at + n ≤ to → Within (edge is_ruled at n) from to
edge-within is_ruled zero at from to begins ends = nothing-within from to (omega (arith, begins, ends))
edge-within is_ruled (suc n) at from to begins ends = run-within at from to (repeated (if is_ruled then crossing else bar) (suc n)) begins ends

-- bars between two places, or the rule over these
if-within : (sign : Option RuleSign) (place n end from to : ℕ) (c d : Column) → from ≤ place → place ≤ bar_place n c d → bar_place n c d + n ≤ end
    → end ≤ to → Within (if_ruled sign place n c d end) from to
if-within None place n end from to c d begins before within ends =
    bars-within n (bar_place n c d) from to (omega (arith, begins, before)) (omega (arith, within, ends))
if-within (Some sign) place n end from to c d begins before within ends =
    ruled-within sign place (bar_place n c d) n end from to begins before within ends

-- where bars and the rule beside them begin in front of a column that they share with a cell
begin-before : (n : ℕ) (c d : Column) → c.start + c.width + n ≤ d.start → n ≤ max 1 c.bars
    → (c.start + c.width ≤ bars_begin c d) × (bars_begin c d ≤ bar_place n c d)
begin-before n c d apart few = (omega arith, omega (arith, apart, few))

-- where what a line of rules shows over a column begins, its rule at a place, and where it ends, its rule at another one
abbrev begins : Over → ℕ → Column → ℕ
begins Free from c = from
begins (Through is_first own one) from c = c.start

abbrev reach : Over → ℕ → ℕ
reach Free to = to
reach (Through is_first own one) to = one.start + one.width

begins-behind : (next : Over) (from : ℕ) (d : Column) → from ≤ d.start → from ≤ begins next from d
begins-behind Free from d before = omega arith
begins-behind (Through is_first own one) from d before = before

reach-last : (over : Over) (d : Column) (to : ℕ) → over_end over d ≤ d.start + d.width → d.start + d.width ≤ to → reach over to ≤ to
reach-last Free d to ends within = omega arith
reach-last (Through is_first own one) d to ends within = omega (arith, ends, within)

reach-next : (over : Over) (d : Column) → reach over (d.start + d.width) ≤ over_end over d
reach-next Free d = omega arith
reach-next (Through is_first own one) d = omega arith

-- what a line of rules shows over a column, whose rule ends with it, or over the last one at a place, and over the columns behind it
module _ (line : RuleLine) (all : List Over) (to : ℕ) where
  abbrev pub ending : Column → List Column → ℕ
  ending c [] = to
  ending c (d ∷ columns) = c.start + c.width

  abbrev pub rest_shown : ℕ → Column → List Column → List Shown
  rest_shown column c [] = []
  rest_shown column c (d ∷ columns) = all_shown line all (suc column) (bars_end c d) to (d ∷ columns)

  pub shown-split : (column from : ℕ) (c : Column) (columns : List Column)
      → all_shown line all column from to (c ∷ columns)
      ≡ over_shown line column (over_at all column) from (ending c columns) ++ rest_shown column c columns
  shown-split column from c [] = sym (append-nil (over_shown line column (over_at all column) from to))
  shown-split column from c (d ∷ columns) = refl

module _ (s : Sheet) (line : RuleLine) where
  -- what stands between two columns
  front-within : (column : ℕ) (over next : Over) (n : ℕ) (c d : Column) → c.start + c.width + n ≤ d.start → n ≤ max 1 c.bars
      → over_end over c ≤ c.start + c.width
      → Within (front_between line column over next n c d) (over_end over c) (begins next (bars_end c d) d)
  front-within column Free next n c d apart few ends =
      let within = bars-between n c d apart few in
      if-within (sign_over line column) (c.start + c.width) n (bars_end c d) (c.start + c.width) (begins next (bars_end c d) d) c d (omega arith)
      within.2 within.0 (begins-behind next (bars_end c d) d within.1)
  front-within column (Through is_first own one) Free n c d apart few ends =
      let within = bars-between n c d apart few in
      let before = begin-before n c d apart few in
      if-within (sign_over line (suc column)) (bars_begin c d) n (bars_end c d) (one.start + one.width) (bars_end c d) c d
      (omega (arith, ends, before.0)) before.1 within.0 (omega arith)
  front-within column (Through is_first own one) (Through next_first next two) n c d apart few ends =
      let within = bars-between n c d apart few in
      if-within (joined_here own next) (c.start + c.width) n d.start (one.start + one.width) d.start c d ends within.2
      (omega (arith, within.0, within.1)) (omega arith)

  module _ (width : ℕ) where
    -- pieces behind what stands in front of them
    abbrev Further : ℕ → List Cell → List Shown → Type 0
    Further limit fronts others = (at : ℕ) → at ≤ limit → StandApart width at (with_fronts fronts (map shown_cell others))

    -- a rule over a column, or none
    drawn-apart : (sign : Option RuleSign) (place from to lo limit : ℕ) (front : Cell) (fronts : List Cell) (others : List Shown) → from ≤ to
        → to ≤ limit → Within front lo from → place ≤ lo → Further limit fronts others
        → StandApart width place (with_fronts (front ∷ fronts) (map shown_cell (if_drawn sign from to ++ others)))
    drawn-apart None place from to lo limit front fronts others before ends first le further =
        let piece = shown_cell (drawn_at from bar 0) in
        let behind = with_fronts fronts (map shown_cell others) in
        next-apart width lo from place front (piece ∷ behind) first le
        (λ at within.
        next-apart width from limit at piece behind (drawn-within from bar 0 from limit (omega arith) (omega (arith, before, ends))) within further)
    drawn-apart (Some sign) place from to lo limit front fronts others before ends first le further =
        let b = sign_byte sign in
        let piece = shown_cell (drawn_at from b (to - from)) in
        let behind = with_fronts fronts (map shown_cell others) in
        next-apart width lo from place front (piece ∷ behind) first le
        (λ at within.
        next-apart width from limit at piece behind (drawn-within from b (to - from) from limit (omega arith) (omega (arith, before, ends))) within
        further)

    -- what stands over a column that isn't a further one of a cell, behind what stands in front of it
    over-apart : (over : Over) (column place from to lo limit : ℕ) (c : Column) (front : Cell) (fronts : List Cell) (others : List Shown)
        → is_within over ≡ false → OverFits over c → from ≤ to → reach over to ≤ limit → Within front lo (begins over from c) → place ≤ lo
        → Further limit fronts others
        → StandApart width place (with_fronts (front ∷ fronts) (map shown_cell (over_shown line column over from to ++ others)))
    over-apart Free column place from to lo limit c front fronts others first fits before ends stands le further =
        drawn-apart (sign_over line column) place from to lo limit front fronts others before ends stands le further
    over-apart (Through true own one) column place from to lo limit c front fronts others first fits before ends stands le further =
        let end = one.start + one.width in
        let piece = shown_cell (shown own one end) in
        let behind = with_fronts fronts (map shown_cell others) in
        next-apart width lo c.start place front (piece ∷ behind) stands le
        (λ at within.
        next-apart width one.start (max end end) at piece behind (shown-within own one end (omega arith) fits.0) (omega (arith, within, fits.1 refl))
        (λ far inside. further far (omega (arith, inside, ends))))
    over-apart (Through false own one) column place from to lo limit c front fronts others first fits before ends stands le further = absurd cc

    -- the next column, with what stands in front of it, or within a cell
    step : (column : ℕ) (over next : Over) (n at to limit : ℕ) (c d : Column) (others : List Cell) (behind : List Shown) (end : Cell)
        → c.start + c.width + n ≤ d.start → n ≤ max 1 c.bars
        → over_end over c ≤ (if is_within next then over_end next d else c.start + c.width) → OverFits next d → d.start ≤ to
        → reach next to ≤ limit → at ≤ over_end over c → Further limit (others ++ end ∷ []) behind
        → StandApart width at (with_fronts ((if is_within next then others else front_between line column over next n c d ∷ others) ++ end ∷ [])
        (map shown_cell (over_shown line (suc column) next (bars_end c d) to ++ behind)))
    step column over Free n at to limit c d others behind end apart few ends fits starts reaches le further =
        let within = bars-between n c d apart few in
        over-apart Free (suc column) at (bars_end c d) to (over_end over c) limit d (front_between line column over Free n c d) (others ++ end ∷ [])
        behind refl fits (omega (arith, within.1, starts)) reaches (front-within column over Free n c d apart few ends) le further
    step column over (Through true own one) n at to limit c d others behind end apart few ends fits starts reaches le further =
        let within = bars-between n c d apart few in
        over-apart (Through true own one) (suc column) at (bars_end c d) to (over_end over c) limit d
        (front_between line column over (Through true own one) n c d) (others ++ end ∷ []) behind refl fits (omega (arith, within.1, starts)) reaches
        (front-within column over (Through true own one) n c d apart few ends) le further
    step column over (Through false own one) n at to limit c d others behind end apart few ends fits starts reaches le further =
        further at (omega (arith, le, ends, reaches))

  module _ (all : List Over) (above below : Beside) (to width : ℕ) (end : Cell) (last : Within end to width) where
    abbrev stop : Over → Column → List Column → ℕ
    stop over c [] = to
    stop over c (d ∷ columns) = over_end over c

    stand-fits : (column : ℕ) (c : Column) (columns : List Column) → OversStand all column (c ∷ columns) → OverFits (over_at all column) c
    stand-fits column c [] stand = stand.0
    stand-fits column c (d ∷ columns) stand = stand.0

    stand-reach : (column : ℕ) (c : Column) (columns : List Column) → OversStand all column (c ∷ columns)
        → last_end (c.start + c.width) columns ≤ to → reach (over_at all column) (ending line all to c columns) ≤ stop (over_at all column) c columns
    stand-reach column c [] stand ends = reach-last (over_at all column) c to stand.1 ends
    stand-reach column c (d ∷ columns) stand ends = reach-next (over_at all column) c

    start-ending : (c : Column) (columns : List Column) → last_end (c.start + c.width) columns ≤ to → c.start ≤ ending line all to c columns
    start-ending c [] ends = omega (arith, ends)
    start-ending c (d ∷ columns) ends = omega arith

    abbrev met : ℕ → ℕ
    met column = bars_met s.bars (length s.columns) line all above below (suc column)

    -- all that stands behind a column
    behind-apart : (column : ℕ) (c : Column) (columns : List Column) (at : ℕ) → at ≤ stop (over_at all column) c columns
        → OversStand all column (c ∷ columns) → AreMet met width column (c ∷ columns) → last_end (c.start + c.width) columns ≤ to
        → StandApart width at (with_fronts (fronts_between s line all above below column (c ∷ columns) ++ end ∷ [])
        (map shown_cell (rest_shown line all to column c columns)))
    behind-apart column c [] at le stand are ends = next-apart width to width at end [] last le (λ far inside. inside)
    behind-apart column c (d ∷ columns) at le stand are ends =
        let over = over_at all column in
        let next = over_at all (suc column) in
        let others = fronts_between s line all above below (suc column) (d ∷ columns) in
        let n = met column in
        subst (λ (cells : List Shown). StandApart width at (with_fronts ((if is_within next then others
        else front_between line column over next n c d ∷ others) ++ end ∷ []) (map shown_cell cells)))
        (sym (shown-split line all to (suc column) (bars_end c d) d columns))
        (step width column over next n at (ending line all to d columns) (stop next d columns) c d others
        (rest_shown line all to (suc column) d columns) end are.0 are.1 stand.1
        (stand-fits (suc column) d columns stand.2) (start-ending d columns ends) (stand-reach (suc column) d columns stand.2 ends) le
        (λ far inside. behind-apart (suc column) d columns far inside stand.2 are.2 ends))

    -- and all of the line
    all-apart : (c : Column) (columns : List Column) (left from : ℕ) (is_ruled : Bool) → left ≤ from → from ≤ c.start
        → is_within (over_at all 0) ≡ false → OversStand all 0 (c ∷ columns) → AreMet met width 0 (c ∷ columns)
        → last_end (c.start + c.width) columns ≤ to
        → StandApart width 0 (with_fronts (edge is_ruled 0 left ∷ fronts_between s line all above below 0 (c ∷ columns) ++ end ∷ [])
        (map shown_cell (all_shown line all 0 from to (c ∷ columns))))
    all-apart c columns left from is_ruled begin before first stand are ends =
        let over = over_at all 0 in
        let fronts = fronts_between s line all above below 0 (c ∷ columns) ++ end ∷ [] in
        subst (λ (cells : List Shown). StandApart width 0 (with_fronts (edge is_ruled 0 left ∷ fronts) (map shown_cell cells)))
        (sym (shown-split line all to 0 from c columns))
        (over-apart width over 0 0 from (ending line all to c columns) 0 (stop over c columns) c (edge is_ruled 0 left) fronts
        (rest_shown line all to 0 c columns) first
        (stand-fits 0 c columns stand) (omega (arith, before, start-ending c columns ends)) (stand-reach 0 c columns stand ends)
        (edge-within is_ruled left 0 0 (begins over from c) (omega arith) (omega (arith, begin, begins-behind over from c before))) (omega arith)
        (λ at inside. behind-apart 0 c columns at inside stand are ends))

-- where the rule of a line begins and ends
pub from-between : (t : Bool) (left start : ℕ) → left ≤ start → (left ≤ (if t then left else start)) × ((if t then left else start) ≤ start)
from-between true left start before = (omega arith, before)
from-between false left start before = (before, omega arith)

to-between : (t : Bool) (width right end : ℕ) → end + right ≤ width
    → (end ≤ (if t then width - right else end)) × ((if t then width - right else end) ≤ width - right)
to-between true width right end within = (omega (arith, within), omega arith)
to-between false width right end within = (omega arith, omega (arith, within))

module _ (bars : Bars) (width : ℕ) (line : RuleLine) (cells : List Left) (above below : Beside) where
  abbrev of_columns : List Column → Sheet
  of_columns columns = record { bars = bars; width = width; columns = columns }

  rule-stands : (columns : List Column) → RuleStands (of_columns columns) line cells above below
      → (let s = of_columns columns in
      StandApart width 0 (with_fronts (rule_fronts s line cells above below) (map shown_cell (rule_shown s line cells above below))))
  rule-stands [] stand = absurd (omega (arith, stand.some))
  rule-stands (c ∷ columns) stand =
      let s = of_columns (c ∷ columns) in
      let count = length s.columns in
      let all = overs 0 cells s.columns in
      let left = bars_met bars count line all above below 0 in
      let right = bars_met bars count line all above below count in
      let rules_left = rules_edge line (over_at all 0) in
      let rules_right = rules_edge line (over_at all (count - 1)) in
      let end = last_end (c.start + c.width) columns in
      let from = from-between rules_left left c.start stand.left in
      let to = to-between rules_right width right end stand.right in
      let behind = if rules_right then width - right else end in
      all-apart s line all above below behind width (edge rules_right (width - right) right)
      (edge-within rules_right right (width - right) behind width to.1 (omega (arith, stand.right))) c columns left
      (if rules_left then left else c.start) rules_left from.0 from.1 stand.first stand.order stand.between to.0

shown-whole-on : (s : Sheet) (line : RuleLine) (cells : List Left) (above below : Beside) → RuleStands s line cells above below
    → NoneRunOn (rule_shown s line cells above below)
shown-whole-on s line cells above below stand =
    let count = length s.columns in
    let all = overs 0 cells s.columns in
    let left = bars_met s.bars count line all above below 0 in
    let right = bars_met s.bars count line all above below count in
    rule-whole line all 0 (if rules_edge line (over_at all 0) then left else first_start left s.columns)
    (if rules_edge line (over_at all (count - 1)) then s.width - right else last_end 0 s.columns) s.columns stand.order

pub rule-apart : (s : Sheet) (line : RuleLine) (cells : List Left) (above below : Beside) → RuleStands s line cells above below
    → InTurn (rule_shown s line cells above below)
    → IsApart s.width (rule_line_left s line cells above below) (rule_fronts s line cells above below) (rule_shown s line cells above below)
rule-apart s line cells above below stand turn = record {
  is = line-whole s (rule_fronts s line cells above below) (rule_shown s line cells above below) (shown-whole-on s line cells above below stand);
  apart = subst (λ (shown : List Shown). StandApart s.width 0 (with_fronts (rule_fronts s line cells above below) (map shown_cell shown)))
      (sym turn) (rule-stands s.bars s.width line cells above below s.columns stand);
}
