use Rattle.std.proofs.Common.{ap}
use Rattle.page_bytes.specs.Told.{told_by}
use Rattle.run_model.specs.Reading.Items.{PageUnread}
use Rattle.run_shortcuts.proofs.CommentsEnded.{comes-comment}
use Rattle.run_turns.proofs.ComingFurther.{comes_any, comes_nowhere}
use Rattle.run_shortcuts.proofs.arguments.end_comment.Goals as goal

pub returns-then-not-take_comment : goal.returns-then-not-take_comment
returns-then-not-take_comment g c =
    let out = g.O.ByteSink.sunk c.args.out.now in
    let err = told_by g.E.MessageSink c.args.err.now in
    let kept = c.take_comment.ensures.unchanged c.if-not-take_comment.true in
    comes_nowhere _ _ _ _ _ _ out err c.args.run.now _ (ap g.S.ByteSource.gives kept.1) (ap g.S.ByteSource.notes kept.1) (ap g.S.ByteSource.failures kept.1)
    (ap (λ (u : PageUnread). record c.args.run.now { unread = u }) kept.0)

pub returns : goal.returns
returns g c =
    let out = g.O.ByteSink.sunk c.args.out.now in
    let err = told_by g.E.MessageSink c.args.err.now in
    let took = c.take_comment.ensures in
    comes_any _
    (comes-comment _ _ _ _ _ _ out err c.args.run.now _ (took.comment c.if-not-take_comment.false) _ _ _ took.notes took.failures (c.end_control_line.ensures _))
