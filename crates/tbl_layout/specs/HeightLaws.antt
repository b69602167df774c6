-- What holds of the heights of a table's rows (Lesk, "Tbl": Format).
use Rattle.std.specs.Prelude.{◌≡◌, ℕ, suc, ◌-◌, ◌≤◌, Bool, true, List, [], ◌∷◌, drop, get_or, length, map}
use Rattle.tbl_format.specs.declared.format.FormatKey.{FormatKey}
use Rattle.tbl_layout.specs.Entries.{Command, Element, Row, Rule}
use Rattle.tbl_layout.specs.Heights.{ends_in_front_of, lefts, rules_between}

-- a row of these keys, in front of elements, is one line high at least, and high enough for what is left of each cell that ends with it, so
-- that none of its lines is left behind it; and it is no higher than that
pub record IsHigh (keys : List FormatKey) (elements : List Element) (left : List ℕ) (height : ℕ) : Type 0 where
  pub some : 1 ≤ height
  pub enough : (cell : ℕ) → ends_in_front_of keys elements cell ≡ true → get_or left cell 0 ≤ height
  pub least : (other : ℕ) → 1 ≤ other → ((cell : ℕ) → ends_in_front_of keys elements cell ≡ true → get_or left cell 0 ≤ other) → height ≤ other

-- so high are the rows of a table, behind one of these keys of whose cells so much is left, and so many rules
abbrev pub EachHigh : Bool → ℕ → List FormatKey → List ℕ → ℕ → List ℕ → List Element → Type 0
EachHigh is_inside columns above left rules heights [] = heights ≡ []
EachHigh is_inside columns above left rules heights (Row rule_rows format fields ∷ elements) =
    let here = lefts columns above left (rules_between is_inside rules (length rule_rows)) format fields in
    let height = get_or heights 0 0 in
    IsHigh format.keys elements here height
    × EachHigh is_inside columns format.keys (map (λ n. n - height) here) 0 (drop 1 heights) elements
EachHigh is_inside columns above left rules heights (Rule sign ∷ elements) = EachHigh is_inside columns above left (suc rules) heights elements
EachHigh is_inside columns above left rules heights (Command bytes ∷ elements) = EachHigh is_inside columns above left rules heights elements
