use Rattle.std.proofs.Common.{◌≡◌, ◌==◌, drop}
use Rattle.std.specs.List.{list_all}
use Rattle.input_source.specs.Bytes.{blank}
use Rattle.tbl_layout.proofs.data.are_blanks.Given as goal

abbrev pub invariant-loop-at : goal.invariant-loop-at
invariant-loop-at l = list_all (λ b. b == blank) (drop l.at l.text) ≡ list_all (λ b. b == blank) l.text
