use Rattle.std.proofs.Common.{List, subst, ℕ}
use Rattle.roff_num.specs.declared.num.Num.{Num}
use Rattle.roff_engine.specs.Starting.{Begins, IsRefused}
use Rattle.roff_engine.proofs.RegistersGiven.{begin_refused}
use Rattle.run_model.proofs.GivenPages.{written-given_pages}
use Rattle.run_model.specs.Starts.{pages_given}
use Rattle.roff_engine.proofs.starting.begin.Goals as goal

pub returns-in-Ok-clause-begins : goal.returns-in-Ok-clause-begins
returns-in-Ok-clause-begins g c =
    let start = c.args.start.now in
    subst (λ (given : List (ℕ × Num)). Begins (pages_given start) c.args.running.now c.set_registers.new.running given) c.as_slice.ensures.value
    (c.in-Ok.ensures (pages_given start) (written-given_pages start))

pub returns-in-Err-clause-ends : goal.returns-in-Err-clause-ends
returns-in-Err-clause-ends g c = λ had unread tape is failures out.
    let start = c.args.start.now in
    let refused =
    subst (λ (given : List (ℕ × Num)). IsRefused (pages_given start) c.args.running.now c.set_registers.new.running given c.in-Err.limit) c.as_slice.ensures.value
    (c.in-Err.ensures (pages_given start) (written-given_pages start)) in
    begin_refused c.args.running.now c.set_registers.new.running c.args.start.now tape c.in-Err.limit _ _ _ refused had unread is
    (λ h unread quiet stops. c.refuse.ensures c.args.start.now tape h failures out unread quiet stops)
