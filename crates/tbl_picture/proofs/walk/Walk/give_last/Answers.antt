use Rattle.std.proofs.Common.{◌≡◌, ◌-◌, sym, ap, subst, ◌∙◌, arith}
use Rattle.tbl_format.specs.RowsServed.{all_rows}
use Rattle.tbl_lines.specs.PictureLines.{last_mark, rule_to}
use Rattle.tbl_picture.specs.RulesWalked.{RuleCrosses, come_behind, line_walked, mark_given, place_behind, rule_behind}
use Rattle.tbl_picture.specs.Walks.{KeptWalk}
use Rattle.tbl_picture.specs.Nexts.{AtRule}
use Rattle.tbl_pieces.proofs.Adding.{adds-fewer}
use Rattle.tbl_picture.proofs.RuleSteps.{crosses-last, rule-among}
use Rattle.tbl_picture.proofs.walk.Walk.give_last.Goals as goal

pub sign_over-sign-requires : goal.sign_over-sign-requires
sign_over-sign-requires c =
    rule-among (all_rows c.args.format.now.format) c.args.rows.now c.args.rule c.args.self.now c.requires.served c.requires.lies

pub returns : goal.returns
returns c = λ bytes frame stands.
    let formats = all_rows c.args.format.now.format in
    let rows = c.args.rows.now in
    let rule = c.args.rule in
    let w = c.args.self.now in
    let before = c.args.pieces.now in
    let after = c.give_over.new.pieces in
    let sign = c.sign_over-sign.result in
    let right = c.saturating_sub-right.result in
    let to = c.rule_to-to.result in
    let mark = last_mark sign rule.from to in
    let right_is : right ≡ w.picture_width - rule.right = c.saturating_sub-right.ensures ∙ ap (λ (k : KeptWalk). k.picture_width - rule.right) c.self.view_is in
    let to_is = c.rule_to-to.ensures formats ∙ ap (rule_to (line_walked formats rule.line) right) c.columns.ensures in
    let next : c.go_over.new.self ≡ come_behind rule to (place_behind mark w.place) w =
    c.go_over.ensures ∙ ap (λ (k : KeptWalk). record k { next = AtRule (rule_behind rule to) }) c.give_over.ensures.walk in
    subst (λ (k : KeptWalk). RuleCrosses bytes frame formats rows rule w k before after) (sym next)
    (crosses-last bytes frame formats rows rule w before after sign right to c.sign_over-sign.ensures right_is to_is c.requires.last c.requires.within
    c.requires.lies (adds-fewer bytes frame 2 4 before after (mark_given mark w.place) (omega arith) (c.give_over.ensures.adds bytes frame)))
