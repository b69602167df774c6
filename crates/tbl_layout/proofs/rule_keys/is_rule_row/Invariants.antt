use Rattle.std.proofs.Common.{◌≡◌, drop, is_some}
use Rattle.std.specs.List.{list_all}
use Rattle.tbl_format.specs.declared.format.FormatKey.{FormatKey}
use Rattle.tbl_layout.specs.RuleKeys.{rule_sign}
use Rattle.tbl_layout.proofs.rule_keys.is_rule_row.Given as goal

abbrev pub invariant-loop-key : goal.invariant-loop-key
invariant-loop-key l = list_all (λ (k : FormatKey). is_some (rule_sign k.key)) (drop l.key-index l.keys) ≡ list_all (λ (k : FormatKey). is_some (rule_sign k.key)) l.keys
