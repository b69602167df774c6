use Rattle.std.proofs.Common.{◌≡◌, max, drop, sym, ap, subst, ◌∙◌}
use Rattle.tbl_format.specs.RowsServed.{all_rows}
use Rattle.tbl_lines.specs.PictureLines.{own_behind}
use Rattle.tbl_picture.specs.RulesWalked.{RuleStands, line_walked, met_there}
use Rattle.tbl_picture.specs.Walks.{KeptWalk, kept_by}
use Rattle.tbl_picture.proofs.RuleSteps.{met-none, met-some, rule-among}
use Rattle.tbl_picture.proofs.walk.Walk.met_behind.Goals as goal

pub returns-then-not-self : goal.returns-then-not-self
returns-then-not-self c = λ bytes stands.
    let formats = all_rows c.args.format.now.format in
    let rows = c.args.rows.now in
    subst (λ (k : KeptWalk). 0 ≡ met_there bytes formats rows c.args.rule k (drop k.element rows.elements)) c.self.view_is
    (met-none bytes formats rows c.args.rule (kept_by c.self.inside) c.if-not-self.true)

pub own_behind-requires-clause-among : goal.own_behind-requires-clause-among
own_behind-requires-clause-among c =
    rule-among (all_rows c.args.format.now.format) c.args.rows.now c.args.rule c.args.self.now c.requires.served c.requires.lies

pub returns : goal.returns
returns c = λ bytes stands.
    let formats = all_rows c.args.format.now.format in
    let rows = c.args.rows.now in
    let rule = c.args.rule in
    let w = kept_by c.self.inside in
    let view = c.self.view_is in
    let stands_in = subst (λ (k : KeptWalk). RuleStands bytes formats rows rule k (drop k.element rows.elements)) (sym view) stands in
    let own = c.own_behind.ensures ∙ ap (λ (k : KeptWalk). own_behind k.bars.boxing (line_walked formats rule.line) rule.column) (sym view) in
    subst (λ (k : KeptWalk). c.max-2.result ≡ met_there bytes formats rows rule k (drop k.element rows.elements)) view
    (c.max-2.ensures
    ∙ ap (max c.own_behind.result) c.max.ensures
    ∙ met-some bytes formats rows rule w stands_in c.if-not-self.false c.own_behind.result c.side_behind-above.result c.side_behind-below.result own
    (c.side_behind-above.ensures bytes) (c.side_behind-below.ensures bytes))
