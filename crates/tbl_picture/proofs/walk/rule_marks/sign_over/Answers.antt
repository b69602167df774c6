use Rattle.std.proofs.Common.{sym, ap, ◌∙◌}
use Rattle.tbl_format.specs.RowsServed.{all_rows, row_at}
use Rattle.tbl_layout.specs.Entries.{key_at}
use Rattle.tbl_layout.specs.RuleKeys.{rule_sign}
use Rattle.tbl_lines.specs.PictureLines.{sign_over}
use Rattle.tbl_picture.specs.RulesWalked.{line_walked}
use Rattle.tbl_picture.specs.declared.walk.rules.RuleLine.{RuleLine as LineBegun}
use Rattle.tbl_picture.proofs.walk.rule_marks.sign_over.Goals as goal

pub returns-in-OfKeys : goal.returns-in-OfKeys
returns-in-OfKeys c =
    let formats = all_rows c.args.format.now.format in
    let format = row_at formats c.in-OfKeys.row in
    c.rule_sign.ensures
    ∙ ap rule_sign (c.key_at.ensures format.bars ∙ ap (λ keys. key_at (record { keys = keys; bars = format.bars }) c.args.column) c.row_of_all.ensures.keys)
    ∙ ap (λ (l : LineBegun). sign_over (line_walked formats l) c.args.column) (sym c.in-OfKeys.is)
