use Rattle.std.proofs.Common.{◌≡◌, drop, is_some}
use Rattle.std.specs.List.{list_any}
use Rattle.tbl_format.specs.declared.format.Asked.{Asked}
use Rattle.tbl_layout.proofs.measures.has_least.Given as goal

abbrev pub invariant-loop-column : goal.invariant-loop-column
invariant-loop-column l = list_any (λ (a : Asked). is_some a.least) (drop l.column-index l.asked) ≡ list_any (λ (a : Asked). is_some a.least) l.asked
