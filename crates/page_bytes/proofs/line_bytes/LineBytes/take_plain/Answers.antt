use Rattle.std.proofs.Common.{◌≡◌, replicate, arith}
use Rattle.page_bytes.specs.LineBytes.Left.{spare_columns}
use Rattle.page_bytes.proofs.Escaped.{take-append-escaped}
use Rattle.page_bytes.proofs.line_bytes.LineBytes.take_plain.Goals as goal

pub returns-clause-taken : goal.returns-clause-taken
returns-clause-taken c =
    let left = c.self.inside in
    let none : left.blanks ≡ 0 = omega arith in
    rw (← c.self.view_is, none, c.split_at.ensures.front, c.split_at.ensures.back)
    (take-append-escaped (spare_columns left) left.gaps left.passed _ _ left.text.now (replicate left.newlines 10) c.count_of_plain.ensures.plain)
