use Rattle.std.proofs.Common.{◌≡◌, ℕ, suc, ◌-◌, List, drop, refl, sym, ap, subst, ◌∙◌, arith}
use Rattle.tbl_format.specs.RowsServed.{all_rows}
use Rattle.tbl_layout.specs.declared.columns.Column.{Column}
use Rattle.tbl_picture.specs.ElementsWalked.{RowBehind}
use Rattle.tbl_picture.specs.RulesWalked.{IsBelow, IsRuleOf, KeysEnded, RuleStands}
use Rattle.tbl_picture.specs.Walks.{KeptWalk, kept_by}
use Rattle.tbl_picture.specs.Nexts.{AtRuleRow}
use Rattle.tbl_picture.specs.declared.walk.rules.RuleLine.{RuleLine as LineBegun}
use Rattle.tbl_picture.specs.declared.walk.rules.RuleLine.TheVariants.{OfKeys as KeysBegun}
use Rattle.tbl_picture.proofs.RuleRowSteps.{next-comes-by}
use Rattle.tbl_picture.proofs.walk.Walk.go_behind_rule_row.Goals as goal

pub returns-then-left-gt0 : goal.returns-then-left-gt0
returns-then-left-gt0 c = λ bytes stands.
    let formats = all_rows c.args.format.now.format in
    let rows = c.args.rows.now in
    let a = c.self.inside in
    let w = kept_by a in
    let view = c.self.view_is in
    let rule = c.args.rule in
    let next = c.rule_row_behind-self-inside.result in
    let row = c.args.row in
    let count = c.args.left - 1 in
    let left_is : c.args.left ≡ suc count = omega (arith, c.if-left-gt0.true) in
    let line : rule.line ≡ KeysBegun row (suc count) = c.requires.line ∙ ap (KeysBegun row) left_is in
    let there : RuleStands bytes formats rows rule w (drop w.element rows.elements) =
    subst (λ (k : KeptWalk). RuleStands bytes formats rows rule k (drop k.element rows.elements)) (sym view) stands in
    let of : IsRuleOf formats row (suc count) (drop w.element rows.elements) =
    (subst (λ (l : LineBegun). IsBelow l rule.below.line w.element formats (drop w.element rows.elements)) line there.lies.stands).1 in
    let behind : RowBehind formats rows.columns rule row (suc count) next =
    subst (λ (n : ℕ). RowBehind formats rows.columns rule row n next) left_is
    (subst (λ (cs : List Column). RowBehind formats cs rule row c.args.left next) c.columns.ensures c.rule_row_behind-self-inside.ensures) in
    let new : KeptWalk = record w { next = AtRuleRow next } in
    subst (λ (n : ℕ). KeysEnded bytes formats rows rule row n c.args.self.now new) (sym left_is)
    (subst (λ (k : KeptWalk). KeysEnded bytes formats rows rule row (suc count) k new) view
    (next-comes-by bytes formats rows w c.requires.served (drop w.element rows.elements) refl rule next row count line behind there of))
