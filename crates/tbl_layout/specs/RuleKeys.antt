-- Keys of a format that say what their fields are, whatever stands in them: rule keys and `^` (Lesk, "Tbl": Format).
use Rattle.std.specs.Prelude.{ℕ, suc, Bool, ◌&&◌, ◌==◌, List, [], ◌∷◌, length, Option, None, Some, is_some, if◌then◌else◌}
use Rattle.std.specs.List.{list_all}
use Rattle.tbl_format.specs.Format.{FormatRow, columns_of_keys}
use Rattle.tbl_format.specs.declared.format.FormatKey.{FormatKey}
use Rattle.tbl_format.specs.declared.format.Key.{Key}
use Rattle.tbl_format.specs.declared.format.Key.TheVariants.{Above, DoubleRule, Rule}
use Rattle.tbl_layout.specs.declared.data_lines.FieldKind.{FieldKind}
use Rattle.tbl_layout.specs.declared.data_lines.FieldKind.TheVariants.{Above as AboveKind, Ruled}
use Rattle.tbl_layout.specs.declared.data_lines.RuleSign.{RuleSign}
use Rattle.tbl_layout.specs.declared.data_lines.RuleSign.TheVariants.{Double, Single}

-- how the rule of a key is drawn, if it is a rule key
abbrev pub rule_sign : Key → Option RuleSign
rule_sign Rule = Some Single
rule_sign DoubleRule = Some Double
rule_sign key = None

-- whether all keys of a row are rule keys, `s` among them not
abbrev pub is_rule_row : FormatRow → Bool
is_rule_row format = list_all (λ k. is_some (rule_sign k.key)) format.keys && columns_of_keys format.keys == length format.keys

-- how many of these rows of a format, from the first on, are rows of rule keys alone, which take no row of the data: its last row
-- takes one, whatever its keys are
abbrev pub rule_rows : List FormatRow → ℕ
rule_rows [] = 0
rule_rows (format ∷ []) = 0
rule_rows (format ∷ next ∷ formats) = if is_rule_row format then suc (rule_rows (next ∷ formats)) else 0

-- what the fields under a key are, whatever stands in them, if the key says so: it rules its cells, or goes on with those above
abbrev pub kind_of_key : Key → Option FieldKind
kind_of_key Rule = Some (Ruled Single)
kind_of_key DoubleRule = Some (Ruled Double)
kind_of_key Above = Some AboveKind
kind_of_key key = None

-- what stands under these keys where a row has no fields for them, up to the last that says it
abbrev pub in_front_of : {A : Type 0} → (FieldKind → A) → A → Option FieldKind → List A → List A
in_front_of said empty (Some kind) fields = said kind ∷ fields
in_front_of said empty None [] = []
in_front_of said empty None (field ∷ fields) = empty ∷ field ∷ fields

abbrev pub under_keys : {A : Type 0} → (FieldKind → A) → A → List FormatKey → List A
under_keys said empty [] = []
under_keys said empty (k ∷ keys) = in_front_of said empty (kind_of_key k.key) (under_keys said empty keys)
