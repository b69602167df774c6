-- Rows of rule keys that stand in front of a row have one column for each key, and places for their bars.
use Rattle.std.proofs.Common.{◌≡◌, ℕ, ◌-◌, ◌&&◌, ◌==◌, Bool, true, false, List, [], ◌∷◌, length, drop, arith, is_some}
use Rattle.std.proofs.lemmas.Bool.Decides.{nat_tests}
use Rattle.std.specs.List.{AllByRecursion, list_all}
use Rattle.tbl_format.specs.Format.{FormatRow, columns_of_keys}
use Rattle.tbl_format.specs.declared.format.FormatKey.{FormatKey}
use Rattle.tbl_kept.specs.Rows.{Command, ElementLaid, IsRuleRow, KeptElement, Row, Rule, rows_in_front}
use Rattle.tbl_kept.proofs.RowsUnfilled.{each-drop, each-take}
use Rattle.tbl_layout.specs.RuleKeys.{rule_sign}
use Rattle.tbl_lines.specs.PictureLines.{OfKeys, Sheet}
use Rattle.tbl_lines.specs.RulePlaces.{HasPlaces}
use Rattle.tbl_giving.specs.Giving.{HasCells}
use Rattle.tbl_giving.specs.LinesWalked.{RulesPlaced}
use Rattle.tbl_tall.specs.BandLaws.{HasLinePlaces}

second : (a b : Bool) → (a && b) ≡ true → b ≡ true
second true b is = is
second false b is = absurd (cc)

-- each key of such a row has one column
ones : (format : FormatRow) → IsRuleRow format → columns_of_keys format.keys ≡ length format.keys
ones format is =
    let same : (columns_of_keys format.keys == length format.keys) ≡ true =
    second (list_all (λ (k : FormatKey). is_some (rule_sign k.key)) format.keys) (columns_of_keys format.keys == length format.keys) is in
    grind (arith, nat_tests)

module _ (s : Sheet) where
  placed : (rows : List FormatRow) → AllByRecursion (HasPlaces s.bars.front s.columns) rows → AllByRecursion HasCells rows → AllByRecursion IsRuleRow rows
      → AllByRecursion (λ (f : FormatRow). HasLinePlaces s (OfKeys f)) rows
  placed [] places cells ruled = tt
  placed (row ∷ rows) places cells ruled = ((places.0, cells.0, ones row ruled.0), placed rows places.1 cells.1 ruled.1)

  module _ (formats : List FormatRow) (all : AllByRecursion (HasPlaces s.bars.front s.columns) formats) (cells : AllByRecursion HasCells formats)
      (bytes : List ℕ) (columns : ℕ) where
    pub rules-placed : (elements : List KeptElement) → AllByRecursion (ElementLaid bytes formats columns) elements
        → AllByRecursion (RulesPlaced formats s) elements
    rules-placed [] laid = tt
    rules-placed (Row keys rules height entries ∷ elements) laid =
        let P : FormatRow → Type 0 = HasPlaces s.bars.front s.columns in (
          placed (rows_in_front formats keys rules) (each-take P rules (drop (keys - rules) formats) (each-drop P (keys - rules) formats all))
              (each-take HasCells rules (drop (keys - rules) formats) (each-drop HasCells (keys - rules) formats cells)) laid.0.ruled,
          rules-placed elements laid.1,
        )
    rules-placed (Rule sign ∷ elements) laid = (tt, rules-placed elements laid.1)
    rules-placed (Command from to ∷ elements) laid = (tt, rules-placed elements laid.1)
