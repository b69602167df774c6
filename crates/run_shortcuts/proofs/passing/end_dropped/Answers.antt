use Rattle.std.proofs.Common.{ap}
use Rattle.run_model.specs.Reading.Items.{PageUnread}
use Rattle.run_shortcuts.proofs.PassingOn.{goes_further_ended}
use Rattle.run_turns.proofs.ComingFurther.{comes_nowhere}
use Rattle.run_shortcuts.proofs.passing.end_dropped.Goals as goal

pub returns-then-not-pass_newline : goal.returns-then-not-pass_newline
returns-then-not-pass_newline g c = λ out err.
    let kept = c.pass_newline.ensures.unchanged c.if-not-pass_newline.true in
    (comes_nowhere _ _ _ _ _ _ out err c.args.run.now _ (ap g.S.ByteSource.gives kept.1) (ap g.S.ByteSource.notes kept.1) (ap g.S.ByteSource.failures kept.1)
    (ap (λ (u : PageUnread). record c.args.run.now { unread = u }) kept.0))

pub returns : goal.returns
returns g c = λ out err.
    let taken = c.pass_newline.ensures in
    goes_further_ended _ _ _ _ _ _ out err c.args.run.now _ _ c.begin_next_line.ensures c.requires.none_due c.requires.ends c.requires.none_half
    (taken.passes c.if-not-pass_newline.false) c.stays_within.ensures taken.notes taken.failures
