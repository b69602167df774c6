-- The marks on a line of rules stand in order, where there are places for the bars that meet it.
use Rattle.std.proofs.Common.{◌≡◌, ℕ, suc, ◌+◌, ◌-◌, ◌≤◌, max, List, [], ◌∷◌, ◌++◌, length, replicate, Option, None, Some, refl, sym, subst, arith, length-append}
use Rattle.std.proofs.lemmas.List.{length-replicate}
use Rattle.tbl_layout.specs.Columns.{bar_place, bars_end}
use Rattle.tbl_layout.specs.DataLines.{sign_byte}
use Rattle.tbl_layout.specs.declared.bars.Bars.{Bars}
use Rattle.tbl_layout.specs.declared.columns.Column.{Column}
use Rattle.tbl_layout.specs.declared.data_lines.RuleSign.{RuleSign}
use Rattle.tbl_lines.specs.PictureLines.{Mark, Neighbour, RuleLine, bar, crossing, last_mark, met_behind, parts_from, places_mark, ruled_places, sign_in_front, sign_over}
use Rattle.tbl_lines.specs.RulePlaces.{AreMet}
use Rattle.tbl_lines.proofs.RulesDrawn.{AreOrdered}
use Rattle.tbl_lines.proofs.RulesShown.{unruled-next}

-- bars that have their places end where these end, at the latest, which is in front of the next column
pub bars-within : (n : ℕ) (c d : Column) → c.start + c.width + n ≤ d.start → n ≤ max 1 c.bars
    → (bar_place n c d + n ≤ bars_end c d) × (bars_end c d ≤ d.start) × (c.start + c.width ≤ bar_place n c d)
bars-within n c d apart few = (omega (arith, apart, few), omega (arith, apart), omega arith)

-- from where to where a mark stands
record Stands (m : Mark) (from to : ℕ) : Type 0 where
  begins : from ≤ m.at
  ends : m.at + length m.bytes ≤ to

last-stands : (sign : Option RuleSign) (from to : ℕ) → Stands (last_mark sign from to) from (max from to)
last-stands None from to = record { begins = omega arith; ends = omega arith }
last-stands (Some sign) from to = record { begins = omega arith; ends = omega (arith, length-replicate (to - from) (sign_byte sign)) }

ruled-stands : (sign : RuleSign) (n : ℕ) (c d : Column) → bar_place n c d + n ≤ bars_end c d → c.start + c.width ≤ bar_place n c d
    → Stands (ruled_places sign (c.start + c.width) n c d) (c.start + c.width) (bars_end c d)
ruled-stands sign n c d within behind =
    let b = sign_byte sign in
    let at = bar_place n c d in
    let front = replicate (at - (c.start + c.width)) b in
    let rest = replicate (bars_end c d - (at + n)) b in
    record {
      begins = omega arith;
      ends = omega (
        arith,
        within,
        behind,
        length-append front (replicate n crossing ++ rest),
        length-append (replicate n crossing) rest,
        length-replicate (at - (c.start + c.width)) b,
        length-replicate n crossing,
        length-replicate (bars_end c d - (at + n)) b,
      );
    }

places-stand : (sign next : Option RuleSign) (n : ℕ) (c d : Column) → (sign ≡ None → next ≡ None) → bar_place n c d + n ≤ bars_end c d
    → c.start + c.width ≤ bar_place n c d → Stands (places_mark sign next n c d) (c.start + c.width) (bars_end c d)
places-stand (Some sign) next n c d none within behind = ruled-stands sign n c d within behind
places-stand None next n c d none within behind =
    subst (λ (other : Option RuleSign). Stands (places_mark None other n c d) (c.start + c.width) (bars_end c d)) (sym (none refl))
    (record { begins = behind; ends = omega (arith, within, length-replicate n bar) })

module _ (bars : Bars) (line : RuleLine) (over under : Neighbour) (to : ℕ) (end : Mark) (ends : to ≤ end.at) where
  abbrev met : ℕ → ℕ
  met column = met_behind bars line over under column

  pub parts-ordered : (column from place : ℕ) (c : Column) (columns : List Column) → place ≤ from → from ≤ c.start
      → AreMet met to column (c ∷ columns)
      → AreOrdered place (parts_from bars line over under column from to (c ∷ columns) ++ end ∷ [])
  parts-ordered column from place c [] begins first are =
      let last = last-stands (sign_over line column) from to in
      (omega (arith, begins, last.begins), (omega (arith, last.ends, ends, first, are), tt))
  parts-ordered column from place c (d ∷ columns) begins first are =
      let within = bars-within (met column) c d are.0 are.1 in
      let rule = last-stands (sign_over line column) from (c.start + c.width) in
      let places = places-stand (sign_over line column) (sign_in_front line (suc column)) (met column) c d (unruled-next line column)
      within.0 within.2 in
      let mark = places_mark (sign_over line column) (sign_in_front line (suc column)) (met column) c d in (
        omega (arith, begins, rule.begins),
        (
          omega (arith, rule.ends, places.begins, first),
          parts-ordered (suc column) (bars_end c d) (mark.at + length mark.bytes) d columns places.ends within.1 are.2,
        ),
      )
