use Rattle.std.proofs.Common.{◌≡◌, ℕ, suc, ◌+◌, ◌-◌, false, true, List, drop, length, None, refl, sym, ap, subst, ◌∙◌, arith}
use Rattle.tbl_format.specs.RowsServed.{all_rows}
use Rattle.tbl_layout.specs.LayoutLaws.{first_start}
use Rattle.tbl_layout.specs.declared.columns.Column.{Column}
use Rattle.tbl_layout.specs.declared.data_lines.RuleSign.TheVariants.{Single}
use Rattle.tbl_picture.specs.ElementsWalked.{RulesCome}
use Rattle.tbl_lines.specs.PictureLines.{Whole, behind_rules, met_at_edge}
use Rattle.tbl_picture.specs.RulesWalked.{IsRowThere, LastIs, LengthsAre, line_beside, rows_at, rows_of, rules_first}
use Rattle.tbl_picture.specs.Walks.{KeptWalk, kept_by}
use Rattle.tbl_picture.specs.Nexts.{AtRuleRow}
use Rattle.tbl_picture.specs.declared.walk.beside.Beside.TheVariants.{Row as RowBeside}
use Rattle.tbl_picture.specs.declared.walk.rules.RuleBegun.{RuleBegun}
use Rattle.tbl_picture.specs.declared.walk.rules.RuleLine.TheVariants.{OfKeys as KeysBegun}
use Rattle.tbl_picture.proofs.RuleRowSteps.{rules-come-by}
use Rattle.tbl_picture.proofs.walk.Walk.come_to_rule_rows.Goals as goal

pub returns : goal.returns
returns c = λ bytes narrow.
    let formats = all_rows c.args.format.now.format in
    let rows = c.args.rows.now in
    let a = c.self.inside in
    let w = kept_by a in
    let view = c.self.view_is in
    let r = c.args.rules in
    let left = c.met_at_edge-left.result in
    let right = c.met_at_edge.result in
    let lengths = c.lengths_of.result in
    let rule : ℕ → RuleBegun = λ from. record {
      line = KeysBegun r.first (r.count - 1);
      column = 0;
      from = from;
      above = record { line = a.above; rules = None };
      below = record { line = RowBeside a.element; rules = lengths };
      left = left;
      right = right;
    } in
    let met : ℕ → KeptWalk → ℕ = λ column k.
    met_at_edge k.bars (Whole Single) (line_beside bytes formats false rows.elements k.above)
    (behind_rules (rows_of formats r) (line_beside bytes formats true rows.elements (RowBeside a.element))) column in
    let next : r.first + 1 ≡ suc r.first = omega arith in
    let from_is : c.first_start.result ≡ first_start left rows.columns =
    c.first_start.ensures ∙ ap (λ (cs : List Column). first_start left cs) c.columns.ensures in
    let left_is : left ≡ met 0 w = c.met_at_edge-left.ensures bytes Single ∙ ap (met 0) (sym view) in
    let right_is : right ≡ met (length rows.columns) w =
    c.met_at_edge.ensures bytes Single ∙ ap (λ (cs : List Column). met (length cs) c.args.self.now) c.columns-2.ensures
    ∙ ap (met (length rows.columns)) (sym view) in
    let comes = rules-come-by bytes formats rows w c.requires.served (drop w.element rows.elements) refl r left right lengths narrow
    (subst (λ (k : KeptWalk). IsRowThere rows.elements k.above) (sym view) c.requires.above)
    (subst (λ (k : KeptWalk). r ≡ rules_first (drop k.element rows.elements)) (sym view) c.requires.there)
    c.requires.some
    (subst (λ (n : ℕ). LengthsAre (rows_at formats n (r.count - 1)) lengths) next c.lengths_of.ensures.lengths)
    (subst (λ (n : ℕ). LastIs formats n (r.count - 1) lengths) next c.lengths_of.ensures.last) left_is right_is in
    subst (λ (k : KeptWalk). RulesCome bytes formats rows r.first (r.count - 1) k (record w { next = AtRuleRow (rule c.first_start.result) })) view
    (subst (λ (f : ℕ). RulesCome bytes formats rows r.first (r.count - 1) w (record w { next = AtRuleRow (rule f) })) (sym from_is) comes)
