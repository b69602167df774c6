use Rattle.std.proofs.Common.{ℕ, Some, refl, sym, ap, ◌∙◌, ◌==◌, ne_eqb}
use Rattle.tbl_format.specs.RowsServed.{all_rows}
use Rattle.tbl_giving.specs.LinesWalked.{KeptLineByLine}
use Rattle.tbl_giving.specs.declared.line_by_line.Place.TheVariants.{AtElement}
use Rattle.tbl_giving.specs.declared.line_by_line.RuleAt.TheVariants.{End as OfEnd}
use Rattle.tbl_lines.specs.PictureLines.{frame_sign}
use Rattle.tbl_giving.proofs.PartsNext.{RuleNext}
use Rattle.tbl_giving.proofs.StepsOffLines.{end-at, none-at, rule-step}
use Rattle.tbl_giving.proofs.line_by_line.LineByLine.step_behind_all.Goals as goal
use Rattle.tbl_giving.proofs.line_by_line.LineByLine.step_behind_all.Goals.{After-frame_sign-sign}

next : (c : After-frame_sign-sign) → RuleNext c.args.bytes.now (all_rows c.args.format.now.format) c.args.rows.now c.args.self.now AtElement OfEnd (Some c.frame_sign-sign.result) c.args.walk.now.room
next c = end-at c.requires.place c.requires.can (c.frame_sign-sign.ensures ∙ ap (λ (k : KeptLineByLine). frame_sign k.bars.boxing.bars) c.self.view_is)
    (ne_eqb c.args.self.now.bars.boxing.bars 0 (λ is. c.if-bars-eq0.false (ap (λ (k : KeptLineByLine). k.bars.boxing.bars) c.self.view_is ∙ is)))
    c.requires.none

pub begin_rule-requires : goal.begin_rule-requires
begin_rule-requires c =
    let rule = next (goal.at.begin_rule-requires c).After-frame_sign-sign in
    record { come = rule.still.come; sign = rule.told }

pub returns-then-bars-eq0-clause-step : goal.returns-then-bars-eq0-clause-step
returns-then-bars-eq0-clause-step c = λ frame pieces. record {
  none = none-at c.requires.place c.requires.can
      (ap (λ (k : KeptLineByLine). k.bars.boxing.bars == 0) (sym c.self.view_is) ∙ ap (λ (n : ℕ). n == 0) c.if-bars-eq0.true) c.requires.none;
  same = refl;
  walk = refl;
  pieces_same = refl;
}

pub returns-clause-step : goal.returns-clause-step
returns-clause-step c = λ frame pieces.
    rule-step c.requires.place refl (next (goal.at.returns-clause-step c).After-frame_sign-sign) c.begin_rule.ensures.begins
