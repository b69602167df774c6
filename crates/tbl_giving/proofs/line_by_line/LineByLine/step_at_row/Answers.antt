use Rattle.std.proofs.Common.{◌≡◌, Some, refl, ap, ◌∙◌, arith, ne_eqb}
use Rattle.tbl_format.specs.RowsServed.{all_rows}
use Rattle.tbl_giving.specs.LinesWalked.{KeptLineByLine}
use Rattle.tbl_giving.specs.declared.line_by_line.Place.TheVariants.{AtElement}
use Rattle.tbl_giving.specs.declared.line_by_line.RuleAt.TheVariants.{InFront}
use Rattle.tbl_tall.specs.Bands.{wholes_left}
use Rattle.tbl_layout.specs.declared.data_lines.RuleSign.TheVariants.{Single}
use Rattle.tbl_giving.proofs.PartsNext.{RuleNext}
use Rattle.tbl_giving.proofs.StepsOffLines.{rule-step, whole-at}
use Rattle.tbl_giving.proofs.line_by_line.LineByLine.step_at_row.Goals as goal
use Rattle.tbl_giving.proofs.line_by_line.LineByLine.step_at_row.Goals.{After-wholes_left-wholes, Then-wholes-gt0}

wholes : (c : After-wholes_left-wholes) → c.wholes_left-wholes.result ≡ wholes_left c.args.self.now.tall.band
wholes c = c.wholes_left-wholes.ensures ∙ ap (λ (k : KeptLineByLine). wholes_left k.tall.band) c.self.view_is

next : (c : Then-wholes-gt0) → RuleNext c.args.bytes.now (all_rows c.args.format.now.format) c.args.rows.now c.args.self.now AtElement InFront (Some Single) c.args.walk.now.room
next c = whole-at c.requires.place c.requires.can c.requires.row
    (ne_eqb (wholes_left c.args.self.now.tall.band) 0 (λ is. omega (arith, is, c.if-wholes-gt0.true, wholes (goal.at.Then-wholes-gt0 c).After-wholes_left-wholes)))

pub begin_rule-requires : goal.begin_rule-requires
begin_rule-requires c =
    let rule = next (goal.at.begin_rule-requires c).Then-wholes-gt0 in
    record { come = rule.still.come; sign = rule.told }

pub step_at_keys-requires-clause-none : goal.step_at_keys-requires-clause-none
step_at_keys-requires-clause-none c = omega (arith, wholes (goal.at.step_at_keys-requires-clause-none c).After-wholes_left-wholes, c.if-wholes-gt0.false)

pub returns-then-wholes-gt0-clause-step : goal.returns-then-wholes-gt0-clause-step
returns-then-wholes-gt0-clause-step c = λ frame pieces.
    rule-step c.requires.place refl (next (goal.at.returns-then-wholes-gt0-clause-step c).Then-wholes-gt0) c.begin_rule.ensures.begins
