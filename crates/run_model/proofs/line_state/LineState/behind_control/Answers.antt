use Rattle.std.proofs.Common.{◌≡◌, true, false, rules, ◌==◌, ◌||◌}
use Rattle.run_model.proofs.line_state.LineState.behind_control.Goals as goal

pub returns-then-ends_name : goal.returns-then-ends_name
returns-then-ends_name c = λ k i.
    let not_blank : (c.args.byte == 32) ≡ false = search rules in
    let not_tab : (c.args.byte == 9) ≡ false = search rules in
    let ends : (c.args.byte == 10 || c.args.byte == 92) ≡ true = search rules in
    rw (not_blank, not_tab, ends) (c.behind_dropped.ensures i)
