-- The rows of a table are as high as what is left of the cells that end with them.
use Rattle.std.proofs.Common.{◌≡◌, ℕ, zero, suc, ◌+◌, ◌-◌, ◌≤◌, Bool, true, false, List, [], ◌∷◌, get_or, length, map, refl, subst, arith, if◌then◌else◌}
use Rattle.std.proofs.lemmas.List.{get_or_past}
use Rattle.tbl_format.specs.declared.format.FormatKey.{FormatKey}
use Rattle.tbl_layout.specs.Columns.{greatest}
use Rattle.tbl_layout.specs.Entries.{Command, Element, Row, Rule}
use Rattle.tbl_layout.specs.HeightLaws.{EachHigh, IsHigh}
use Rattle.tbl_layout.specs.Heights.{ending_from, ends_in_front_of, height_in_front_of, heights_behind, lefts, rules_between}

abbrev no_left : List ℕ
no_left = []

if-few : (t : Bool) (n most : ℕ) → (t ≡ true → n ≤ most) → (if t then n else 0) ≤ most
if-few true n most few = few refl
if-few false n most few = omega arith

if-some : (t : Bool) (n : ℕ) → t ≡ true → n ≤ (if t then n else 0)
if-some true n is = omega arith
if-some false n is = absurd cc

module _ (keys : List FormatKey) (elements : List Element) where
  abbrev Ends : ℕ → Type 0
  Ends cell = ends_in_front_of keys elements cell ≡ true

  ending-enough : (at : ℕ) (left : List ℕ) (cell : ℕ) → Ends (at + cell) → get_or left cell 0 ≤ greatest (ending_from keys elements at left)
  ending-enough at [] cell ends = omega (arith, get_or_past no_left cell 0 (omega arith))
  ending-enough at (n ∷ left) zero ends =
      let same : at + zero ≡ at = omega arith in
      omega (arith, if-some (ends_in_front_of keys elements at) n (subst Ends same ends))
  ending-enough at (n ∷ left) (suc cell) ends =
      let same : at + suc cell ≡ suc at + cell = omega arith in omega (arith, ending-enough (suc at) left cell (subst Ends same ends))

  ending-least : (at : ℕ) (left : List ℕ) (most : ℕ) → ((cell : ℕ) → Ends (at + cell) → get_or left cell 0 ≤ most)
      → greatest (ending_from keys elements at left) ≤ most
  ending-least at [] most each = omega arith
  ending-least at (n ∷ left) most each =
      let here : at ≡ at + zero = omega arith in
      omega (
        arith,
        if-few (ends_in_front_of keys elements at) n most (λ ends. each 0 (subst Ends here ends)),
        ending-least (suc at) left most (λ cell ends.
            let same : suc at + cell ≡ at + suc cell = omega arith in each (suc cell) (subst Ends same ends)),
      )

  row-high : (left : List ℕ) → IsHigh keys elements left (height_in_front_of keys elements left)
  row-high left = record {
    some = omega arith;
    enough = λ cell ends.
        let same : cell ≡ 0 + cell = omega arith in omega (arith, ending-enough 0 left cell (subst Ends same ends));
    least = λ other some each.
        omega (arith, some, ending-least 0 left other (λ cell ends. let same : 0 + cell ≡ cell = omega arith in each cell (subst Ends same ends)));
  }

pub each-high : (is_inside : Bool) (columns : ℕ) (above : List FormatKey) (left : List ℕ) (rules : ℕ) (elements : List Element)
    → EachHigh is_inside columns above left rules (heights_behind is_inside columns above left rules elements) elements
each-high is_inside columns above left rules [] = refl
each-high is_inside columns above left rules (Row rule_rows format fields ∷ elements) =
    let here = lefts columns above left (rules_between is_inside rules (length rule_rows)) format fields in
    let height = height_in_front_of format.keys elements here in (
      row-high format.keys elements here,
      each-high is_inside columns format.keys (map (λ (n : ℕ). n - height) here) 0 elements,
    )
each-high is_inside columns above left rules (Rule sign ∷ elements) = each-high is_inside columns above left (suc rules) elements
each-high is_inside columns above left rules (Command bytes ∷ elements) = each-high is_inside columns above left rules elements
