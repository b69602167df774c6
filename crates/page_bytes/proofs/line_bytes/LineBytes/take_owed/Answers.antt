use Rattle.std.proofs.Common.{◌++◌, ◌≤◌, replicate, rules}
use Rattle.page_model.specs.Columns.{spread}
use Rattle.page_bytes.specs.LineBytes.Left.{spare_columns}
use Rattle.page_bytes.proofs.BlanksInFront.{some_blanks}
use Rattle.page_bytes.proofs.line_bytes.LineBytes.take_owed.Goals as goal

pub returns-clause-taken : goal.returns-clause-taken
returns-clause-taken c =
    let left = c.self.inside in
    let few : c.min-owed.result ≤ left.blanks = search rules in
    rw (← c.self.view_is) (some_blanks c.min-owed.result left.blanks (spread (spare_columns left) left.gaps left.passed left.text.now ++ replicate left.newlines 10) few)
