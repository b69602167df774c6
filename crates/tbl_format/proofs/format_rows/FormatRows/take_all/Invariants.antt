use Rattle.std.proofs.Common.{◌≡◌, take}
use Rattle.tbl_format.specs.Format.{format_read}
use Rattle.tbl_format.specs.FormatRows.{keeping}
use Rattle.tbl_format.proofs.format_rows.FormatRows.take_all.Given as goal

abbrev pub invariant-loop-at : goal.invariant-loop-at
invariant-loop-at l = l.self ≡ keeping l.fn.self (format_read l.fn.self.format (take l.at l.bytes))
