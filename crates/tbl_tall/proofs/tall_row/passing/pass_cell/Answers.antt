use Rattle.std.proofs.Common.{sym, ◌∙◌}
use Rattle.tbl_tall.proofs.RowsPassed.{passed-goes, rows-stay}
use Rattle.tbl_tall.proofs.tall_row.passing.pass_cell.Goals as goal
use Rattle.tbl_tall.proofs.tall_row.passing.pass_cell.Goals.{else-is_rule-via-then-is_rule+else-not-goes_on, else-is_rule-via-else-is_rule}

pub returns-clause-left : goal.returns-clause-left
returns-clause-left c = λ l is.
    passed-goes c.args.is_rule c.args.bytes.now c.args.cell.now c.pass_line.new.self l
    (λ rule. elim c.else-is_rule.branch [
      | else-is_rule-via-then-is_rule+else-not-goes_on w ↦ sym w.goes_on.ensures ∙ w.if-not-goes_on.false
      | else-is_rule-via-else-is_rule w ↦ absurd (let no = w.if-is_rule.false in cc)
    ]) is (c.pass_line.ensures.left l is)

pub returns-clause-rows : goal.returns-clause-rows
returns-clause-rows c =
    let kept = c.requires.kept in
    rows-stay c.args.bytes.now c.args.cell.now c.pass_line.new.self kept.left kept.is (c.pass_line.ensures.left kept.left kept.is)
