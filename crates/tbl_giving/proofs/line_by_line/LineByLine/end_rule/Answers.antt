use Rattle.std.proofs.Common.{refl, ap, ◌∙◌}
use Rattle.tbl_giving.specs.LinesWalked.{kept_by}
use Rattle.tbl_giving.specs.declared.line_by_line.Place.TheVariants.{OnRule}
use Rattle.tbl_giving.proofs.RulesEnded.{element-ended, end-ended, front-ended, gone-by, top-ended}
use Rattle.tbl_giving.proofs.line_by_line.LineByLine.end_rule.Goals as goal

pub returns-in-Top-clause-gone : goal.returns-in-Top-clause-gone
returns-in-Top-clause-gone c = λ room come.
    let p = c.pass_rule.ensures in
    gone-by c.self.view_is (c.requires.place ∙ ap OnRule c.in-Top.is) refl p.room (top-ended _ _ _ (kept_by c.self.inside) room _ p.comes p.come p.room) come

pub returns-in-Element-clause-gone : goal.returns-in-Element-clause-gone
returns-in-Element-clause-gone c = λ room come.
    let p = c.pass_rule.ensures in
    gone-by c.self.view_is (c.requires.place ∙ ap OnRule c.in-Element.is) refl p.room (element-ended _ _ _ (kept_by c.self.inside) room _ p.comes p.come p.room) come

pub returns-in-InFront-clause-gone : goal.returns-in-InFront-clause-gone
returns-in-InFront-clause-gone c = λ room come.
    let p = c.pass_rule.ensures in
    gone-by c.self.view_is (c.requires.place ∙ ap OnRule c.in-InFront.is) refl p.room (front-ended _ _ _ (kept_by c.self.inside) room _ p.comes p.come p.room) come

pub returns-in-End-clause-gone : goal.returns-in-End-clause-gone
returns-in-End-clause-gone c = λ room come.
    let p = c.pass_rule.ensures in
    gone-by c.self.view_is (c.requires.place ∙ ap OnRule c.in-End.is) refl p.room (end-ended _ _ _ (kept_by c.self.inside) room _ p.comes p.come p.room) come
