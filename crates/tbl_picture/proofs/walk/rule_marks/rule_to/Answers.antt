use Rattle.std.proofs.Common.{ap, sym, ◌∙◌}
use Rattle.tbl_lines.specs.PictureLines.{rule_to}
use Rattle.tbl_picture.specs.RulesWalked.{line_walked}
use Rattle.tbl_picture.specs.declared.walk.rules.RuleLine.{RuleLine as LineBegun}
use Rattle.tbl_picture.proofs.RuleMarks.{last-column}
use Rattle.tbl_picture.proofs.walk.rule_marks.rule_to.Goals as goal

pub returns-in-Some : goal.returns-in-Some
returns-in-Some c = λ formats.
    let columns = c.args.columns.now in
    last-column columns c.in-Some.column.now c.in-Some.ensures.value
    ∙ ap (λ (l : LineBegun). rule_to (line_walked formats l) c.args.right columns) (sym c.in-OfKeys.is)
