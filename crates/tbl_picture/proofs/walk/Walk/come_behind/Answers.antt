use Rattle.std.proofs.Common.{◌≡◌, ◌+◌, false, List, get_or, sym, ap, subst, ◌∙◌, arith, if◌then◌else◌}
use Rattle.tbl_format.specs.RowsServed.{all_rows}
use Rattle.tbl_layout.specs.Columns.{bar_place, bars_end}
use Rattle.tbl_layout.specs.declared.columns.Column.{Column}
use Rattle.tbl_picture.specs.RuleMarks.{mark_behind}
use Rattle.tbl_picture.specs.RulesWalked.{RuleCrosses, come_behind, place_behind, rule_behind}
use Rattle.tbl_picture.specs.Walks.{KeptWalk}
use Rattle.tbl_picture.specs.Nexts.{AtRule}
use Rattle.tbl_picture.proofs.RuleSteps.{crosses-none, crosses-some, rule-among}
use Rattle.tbl_picture.proofs.walk.Walk.come_behind.Goals as goal

pub goes_on-is_on-requires-clause-among : goal.goes_on-is_on-requires-clause-among
goes_on-is_on-requires-clause-among c =
    rule-among (all_rows c.args.format.now.format) c.args.rows.now c.args.rule c.args.self.now c.requires.served c.requires.lies

pub sign_over-sign-requires : goal.sign_over-sign-requires
sign_over-sign-requires c =
    rule-among (all_rows c.args.format.now.format) c.args.rows.now c.args.rule c.args.self.now c.requires.served c.requires.lies

pub returns-then-draws_nothing : goal.returns-then-draws_nothing
returns-then-draws_nothing c = λ bytes frame stands.
    let formats = all_rows c.args.format.now.format in
    let rows = c.args.rows.now in
    let rule = c.args.rule in
    let w = c.args.self.now in
    let before = c.args.pieces.now in
    let no_column : Column = record { needs = record { alone = 0; strip = 0; left = 0; right = 0; split = 0 }; bars = 0; width = 0; start = 0 } in
    subst (λ (k : KeptWalk). RuleCrosses bytes frame formats rows rule w k before before) (sym c.go_over.ensures)
    (crosses-none bytes frame formats rows rule w before before no_column c.requires.within c.requires.lies c.goes_on-is_on.result
    c.met_behind-count.result c.goes_on-is_on.ensures (c.met_behind-count.ensures bytes stands) (sym c.draws_nothing.ensures ∙ c.if-draws_nothing.true))

pub returns : goal.returns
returns c = λ bytes frame stands.
    let formats = all_rows c.args.format.now.format in
    let rows = c.args.rows.now in
    let rule = c.args.rule in
    let w = c.args.self.now in
    let before = c.args.pieces.now in
    let after = c.give_behind.new.pieces in
    let no_column : Column = record { needs = record { alone = 0; strip = 0; left = 0; right = 0; split = 0 }; bars = 0; width = 0; start = 0 } in
    let sign = c.sign_over-sign.result in
    let n = c.met_behind-count.result in
    let at = c.bar_place-at.result in
    let end = c.end_behind-end.result in
    let is_on = c.goes_on-is_on.result in
    let mark = mark_behind sign false rule.from n at end in
    let columns = c.columns-columns.ensures in
    let at_is = c.bar_place-at.ensures
    ∙ ap (λ (cs : List Column). bar_place n (get_or cs rule.column no_column) (get_or cs (rule.column + 1) no_column)) columns in
    let end_is = c.end_behind-end.ensures
    ∙ ap (λ (cs : List Column). if is_on then at + n else bars_end (get_or cs rule.column no_column) (get_or cs (rule.column + 1) no_column)) columns in
    let next : c.go_over-2.new.self ≡ come_behind rule end (place_behind mark w.place) w =
    c.go_over-2.ensures ∙ ap (λ (k : KeptWalk). record k { next = AtRule (rule_behind rule end) }) c.give_behind.ensures.walk in
    subst (λ (k : KeptWalk). RuleCrosses bytes frame formats rows rule w k before after) (sym next)
    (crosses-some bytes frame formats rows rule w before after no_column c.requires.within c.requires.lies sign is_on n at end
    c.sign_over-sign.ensures c.goes_on-is_on.ensures (c.met_behind-count.ensures bytes stands) at_is end_is (omega arith)
    (sym c.draws_nothing.ensures ∙ c.if-draws_nothing.false) (c.give_behind.ensures.adds bytes frame))
