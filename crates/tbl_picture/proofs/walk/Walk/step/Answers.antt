use Rattle.std.proofs.Common.{◌≡◌, false, drop, length, ap, sym, subst, ◌∙◌}
use Rattle.tbl_format.specs.RowsServed.{all_rows}
use Rattle.tbl_layout.specs.declared.data_lines.RuleSign.{RuleSign}
use Rattle.tbl_picture.specs.ElementsWalked.{RuleAtElement, StandsAt, Steps}
use Rattle.tbl_lines.specs.PictureLines.{frame_sign}
use Rattle.tbl_picture.specs.RulesWalked.{RuleStands}
use Rattle.tbl_picture.specs.Walks.{KeptWalk}
use Rattle.tbl_picture.specs.Nexts.{AtRule, AtRuleRow, Next, next_by}
use Rattle.tbl_picture.specs.declared.walk.Next.{Next as KeptNext}
use Rattle.tbl_picture.proofs.PictureSteps.{top-comes}
use Rattle.tbl_picture.proofs.RuleLinesWalked.{keys-begin, rule-by}
use Rattle.tbl_picture.proofs.RowSteps.{first-fits, rows-served}
use Rattle.tbl_picture.proofs.walk.Walk.step.Goals.{In-AtRule}
use Rattle.tbl_picture.proofs.walk.Walk.step.Goals as goal

-- on a line of rules
at-rule : (c : In-AtRule) → c.args.self.now.next ≡ AtRule c.self.inside.rule
at-rule c = ap (λ (k : KeptWalk). k.next) (sym c.self.view_is) ∙ ap (λ (n : KeptNext). next_by n c.self.inside.rule) c.in-AtRule.is

stands : (c : In-AtRule) → let w = c.args.self.now in
    RuleStands c.args.bytes.now (all_rows c.args.format.now.format) c.args.rows.now c.self.inside.rule w (drop w.element c.args.rows.now.elements)
stands c =
    let w = c.args.self.now in
    let rows = c.args.rows.now in
    subst (λ (n : Next). StandsAt n c.args.bytes.now (all_rows c.args.format.now.format) rows w (drop w.element rows.elements)) (at-rule c)
    c.requires.can.next

pub step_at_rule-requires-clause-served : goal.step_at_rule-requires-clause-served
step_at_rule-requires-clause-served c =
    rows-served c.args.bytes.now (all_rows c.args.format.now.format) (length c.args.rows.now.columns) c.args.rows.now.elements c.requires.can.laid.elements

pub step_at_element-requires-clause-served : goal.step_at_element-requires-clause-served
step_at_element-requires-clause-served c =
    rows-served c.args.bytes.now (all_rows c.args.format.now.format) (length c.args.rows.now.columns) c.args.rows.now.elements c.requires.can.laid.elements

pub step_at_element-requires-clause-fits : goal.step_at_element-requires-clause-fits
step_at_element-requires-clause-fits c =
    first-fits c.args.bytes.now (all_rows c.args.format.now.format) c.args.rows.now c.args.self.now c.requires.can

pub step_in_rule-requires : goal.step_in_rule-requires
step_in_rule-requires c =
    let bytes = c.args.bytes.now in
    let formats = all_rows c.args.format.now.format in
    let rows = c.args.rows.now in
    record {
      next = at-rule (goal.at.step_in_rule-requires c).In-AtRule;
      served = rows-served bytes formats (length rows.columns) rows.elements c.requires.can.laid.elements;
      lies = (stands (goal.at.step_in_rule-requires c).In-AtRule).lies;
      fits = first-fits bytes formats rows c.args.self.now c.requires.can;
      room = c.requires.room;
    }

pub returns-in-AtTop-clause-step : goal.returns-in-AtTop-clause-step
returns-in-AtTop-clause-step c = λ frame within.
    let bytes = c.args.bytes.now in
    let formats = all_rows c.args.format.now.format in
    let rows = c.args.rows.now in
    let w = c.args.self.now in
    let before = c.args.pieces.now in
    let after = c.step_at_rule.new.pieces in
    let new = c.step_at_rule.new.self in
    let sign_is = c.frame_sign-sign.ensures ∙ ap (λ (k : KeptWalk). frame_sign k.bars.boxing.bars) c.self.view_is in
    top-comes bytes frame formats rows w c.requires.can before after within new (ap (λ (k : KeptWalk). k.next) (sym c.self.view_is) ∙ ap (λ (n : KeptNext). next_by n c.self.inside.rule) c.in-AtTop.is)
    (subst (λ (sign : RuleSign). RuleAtElement bytes frame formats rows sign false w new before after) sign_is
    (c.step_at_rule.ensures bytes frame c.requires.can.narrow))

pub returns-in-AtRuleRow-clause-step : goal.returns-in-AtRuleRow-clause-step
returns-in-AtRuleRow-clause-step c = λ frame within.
    let bytes = c.args.bytes.now in
    let formats = all_rows c.args.format.now.format in
    let rows = c.args.rows.now in
    let w = c.args.self.now in
    let before = c.args.pieces.now in
    let after = c.begin_rule_row.new.pieces in
    let rule = c.self.inside.rule in
    let next : w.next ≡ AtRuleRow rule = ap (λ (k : KeptWalk). k.next) (sym c.self.view_is) ∙ ap (λ (n : KeptNext). next_by n rule) c.in-AtRuleRow.is in
    subst (λ (k : KeptWalk). Steps bytes frame formats rows w k before after) (sym c.begin_rule_row.ensures.walk)
    (keys-begin bytes frame formats rows w c.requires.can before after within rule next (c.begin_rule_row.ensures.adds bytes frame))

pub returns-in-AtRule-clause-step : goal.returns-in-AtRule-clause-step
returns-in-AtRule-clause-step c = λ frame within.
    let bytes = c.args.bytes.now in
    let formats = all_rows c.args.format.now.format in
    let here = (goal.at.returns-in-AtRule-clause-step c).In-AtRule in
    rule-by bytes frame formats c.args.rows.now c.args.self.now c.requires.can c.args.pieces.now c.step_in_rule.new.pieces within c.self.inside.rule
    c.step_in_rule.new.self (at-rule here) (c.step_in_rule.ensures bytes frame (stands here))
