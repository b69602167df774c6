-- A row of rule keys rules no column behind one that it doesn't rule.
use Rattle.std.proofs.Common.{◌≡◌, ℕ, zero, suc, Bool, true, ◌==◌, List, [], ◌∷◌, length, map, get_or, Option, Some, None, refl, sym, ap, ◌∙◌, is_some}
use Rattle.std.specs.List.{list_all}
use Rattle.std.proofs.lemmas.Bool.{and_parts}
use Rattle.tbl_format.specs.Format.{FormatRow, columns_of_keys}
use Rattle.tbl_format.specs.declared.format.FormatKey.{FormatKey}
use Rattle.tbl_format.specs.declared.format.Key.TheVariants.{Left}
use Rattle.tbl_layout.specs.RuleKeys.{is_rule_row, rule_sign}
use Rattle.tbl_layout.specs.declared.columns.Column.{Column}
use Rattle.tbl_layout.specs.declared.data_lines.RuleSign.{RuleSign}
use Rattle.tbl_lines.specs.PictureLines.{OfKeys, places_mark, sign_in_front, sign_over}

abbrev sign_at : List FormatKey → ℕ → Option RuleSign
sign_at keys column = rule_sign (get_or (map (λ (k : FormatKey). k.key) keys) column Left)

abbrev are_rules : List FormatKey → Bool
are_rules keys = list_all (λ (k : FormatKey). is_some (rule_sign k.key)) keys

unruled-behind : (keys : List FormatKey) (column : ℕ) → are_rules keys ≡ true → sign_at keys column ≡ None → sign_at keys (suc column) ≡ None
unruled-behind [] column all none = refl
unruled-behind (k ∷ keys) zero all none =
    let first = (and_parts (is_some (rule_sign k.key)) (are_rules keys) all).0 in
    let ruled = ap (λ (s : Option RuleSign). is_some s) (sym none) ∙ first in
    absurd (cc)
unruled-behind (k ∷ keys) (suc column) all none =
    unruled-behind keys column (and_parts (is_some (rule_sign k.key)) (are_rules keys) all).1 none

beside-by : (sign next : Option RuleSign) (count : ℕ) (c d : Column) → (sign ≡ None → next ≡ None)
    → places_mark sign None count c d ≡ places_mark sign next count c d
beside-by (Some sign) next count c d none = refl
beside-by None next count c d none = ap (λ (s : Option RuleSign). places_mark None s count c d) (sym (none refl))

pub ruled-beside : (format : FormatRow) (column count : ℕ) (c d : Column) → is_rule_row format ≡ true
    → places_mark (sign_over (OfKeys format) column) (sign_in_front (OfKeys format) (suc column)) count c d
    ≡ places_mark (sign_over (OfKeys format) column) (sign_over (OfKeys format) (suc column)) count c d
ruled-beside format column count c d is =
    let all = (and_parts (are_rules format.keys) (columns_of_keys format.keys == length format.keys) is).0 in
    beside-by (sign_over (OfKeys format) column) (sign_over (OfKeys format) (suc column)) count c d (unruled-behind format.keys column all)
