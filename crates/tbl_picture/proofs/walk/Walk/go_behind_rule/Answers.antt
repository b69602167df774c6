use Rattle.std.proofs.Common.{sym, ap, subst, ◌∙◌}
use Rattle.tbl_format.specs.RowsServed.{all_rows}
use Rattle.tbl_picture.specs.RulesWalked.{LineEnded}
use Rattle.tbl_picture.specs.Walks.{KeptWalk, kept_by}
use Rattle.tbl_picture.specs.Nexts.{Next, next_by}
use Rattle.tbl_picture.specs.declared.walk.beside.Beside.TheVariants.{Nothing as NoRowBeside}
use Rattle.tbl_picture.specs.declared.walk.rules.RuleLine.{RuleLine as LineBegun}
use Rattle.tbl_picture.proofs.walk.Walk.go_behind_rule.Goals as goal

pub returns-in-Whole : goal.returns-in-Whole
returns-in-Whole c = λ bytes stands.
    let formats = all_rows c.args.format.now.format in
    let rows = c.args.rows.now in
    let rule = c.args.rule in
    let new : Next → KeptWalk → KeptWalk = λ n k. record k { next = n; above = NoRowBeside } in
    let next = c.next_behind_rule-self-inside in
    let kept = next_by next.result c.self.inside.rule in
    subst (λ (l : LineBegun). LineEnded l bytes formats rows rule c.args.self.now (new kept (kept_by c.self.inside))) (sym c.in-Whole.is)
    (ap (new kept) c.self.view_is ∙ ap (λ (n : Next). new n c.args.self.now) (next.ensures c.self.inside.rule))

pub returns-in-OfKeys : goal.returns-in-OfKeys
returns-in-OfKeys c = λ bytes stands.
    let formats = all_rows c.args.format.now.format in
    let rows = c.args.rows.now in
    subst (λ (l : LineBegun). LineEnded l bytes formats rows c.args.rule c.args.self.now c.go_behind_rule_row.new.self) (sym c.in-OfKeys.is)
    (c.go_behind_rule_row.ensures bytes stands)
