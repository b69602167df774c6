use Rattle.std.proofs.Common.{List, refl, subst}
use Rattle.tbl_format.specs.RowsServed.{all_rows}
use Rattle.tbl_lines.specs.CutEntries.{all_with_cut}
use Rattle.tbl_lines.specs.LinesLeft.{rule_cut}
use Rattle.tbl_lines.specs.PictureLines.{Sheet}
use Rattle.tbl_giving.proofs.CutsCounted.{CutsRule, line-places, rule-go}
use Rattle.tbl_layout.specs.declared.columns.Column.{Column}
use Rattle.tbl_giving.proofs.cuts.cut_on_rule.Goals as goal
use Rattle.tbl_giving.proofs.cuts.cut_on_rule.Goals.{After-lay_rule}
use Rattle.tbl_tall.specs.TallRows.{below_rule}

cuts : (c : After-lay_rule) → let d = c.args.drawn in
    CutsRule d.bytes.now (all_rows c.args.format.now.format) d.bars d.width c.args.whole c.args.tall.now c.lay_rule.new.self c.args.rows.now.columns
cuts c =
    let d = c.args.drawn in
    let formats = all_rows c.args.format.now.format in
    let cut : CutsRule d.bytes.now formats d.bars d.width c.args.whole c.args.tall.now c.lay_rule.new.self c.columns.result.now = c.lay_rule.ensures.cut in
    subst (λ (cs : List Column). CutsRule d.bytes.now formats d.bars d.width c.args.whole c.args.tall.now c.lay_rule.new.self cs) c.columns.ensures cut

pub pass_rule-requires : goal.pass_rule-requires
pass_rule-requires c =
    let r = c.requires.next in
    let s : Sheet = record { bars = c.args.drawn.bars; width = c.args.drawn.width; columns = c.args.rows.now.columns } in
    let on = cuts (goal.at.pass_rule-requires c).After-lay_rule r.heights r.cells r.above r.elements r.rest r.line r.places r.next r.comes r.rule r.sign in
    record {
      next = record {
        s = s;
        heights = r.heights;
        cells = all_with_cut (rule_cut s r.line r.cells r.above (below_rule s r.line r.cells r.rest)) r.cells;
        above = r.above;
        elements = r.elements;
        line = r.line;
        rest = r.rest;
        comes = c.mark_cut-count.ensures.comes _ _ s r.heights r.cells r.above r.elements _ on
            (c.lay_rule.ensures.comes _ s r.heights r.cells r.above r.elements r.comes);
        rule = r.rule;
        places = r.places;
      };
    }

pub returns-clause-count : goal.returns-clause-count
returns-clause-count c = λ heights elements rest line count places next rule sign come.
    let s : Sheet = record { bars = c.args.drawn.bars; width = c.args.drawn.width; columns = c.args.rows.now.columns } in
    let on = cuts (goal.at.returns-clause-count c).After-lay_rule heights come.cells come.above elements rest line places next come.comes rule sign in
    let behind = c.mark_cut-count.ensures.comes _ _ s heights come.cells come.above elements _ on
    (c.lay_rule.ensures.comes _ s heights come.cells come.above elements come.comes) in
    let passed = c.pass_rule.ensures.comes s heights _ come.above elements rest line refl behind rule (line-places s elements rest line rule next) in
    rule-go c.mark_cut-count.result _ _ s c.pass_rule.new.self heights come.cells come.above elements rest line count rule
    (c.mark_cut-count.ensures.count _ _ on) come.many passed
