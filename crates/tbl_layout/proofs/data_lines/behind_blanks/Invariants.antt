use Rattle.std.proofs.Common.{◌≡◌, drop}
use Rattle.input_source.specs.Bytes.{behind_blanks}
use Rattle.tbl_layout.proofs.data_lines.behind_blanks.Given as goal

abbrev pub invariant-loop-at : goal.invariant-loop-at
invariant-loop-at l = behind_blanks (drop l.at l.text) ≡ behind_blanks l.text
