use Rattle.std.proofs.Common.{◌≡◌, drop}
use Rattle.std.specs.List.{list_any}
use Rattle.tbl_format.specs.declared.format.FormatKey.{FormatKey}
use Rattle.tbl_kept.proofs.rows.laying.has_free_key.Given as goal

abbrev pub invariant-loop-key : goal.invariant-loop-key
invariant-loop-key l = list_any (λ (k : FormatKey). k.has_no_width) (drop l.key-index l.keys) ≡ list_any (λ (k : FormatKey). k.has_no_width) l.keys
