use Rattle.std.proofs.Common.{◌≡◌, [], ap, subst, sym, true, ◌∙◌}
use Rattle.roff_scan.specs.Unread.Calls.{NoNewline, front_bytes}
use Rattle.run_model.specs.Reading.Items.{PageUnread}
use Rattle.read_arguments.specs.Comments.{begins_comment, reads_arguments}
use Rattle.read_arguments.proofs.CommentsRead.{begun-comment, front-plain, reads-comment, settled-ends}
use Rattle.read_shortcuts.proofs.RegistersPut.{none_open}
use Rattle.read_arguments.proofs.comments.take_comment.Goals as goal

pub pass_line-requires-clause-plain : goal.pass_line-requires-clause-plain
pass_line-requires-clause-plain g c =
    subst (λ (u : PageUnread). NoNewline (front_bytes c.in-Some.count (g.S.ByteSource.ready c.args.source.now) u)) (sym c.interrupt.ensures)
    (front-plain c.in-Some.count c.front.result.now _ c.args.unread.now c.front.ensures.bytes c.front.ensures.front c.in-Some.ensures)

pub pass_line-requires-clause-ended : goal.pass_line-requires-clause-ended
pass_line-requires-clause-ended g c =
    settled-ends c.in-Some.count c.front.result.now _ c.args.unread.now c.front.ensures.bytes c.front.ensures.front c.in-Some.ensures
    c.args.reader.now.reading c.interrupt.new.unread c.interrupt.ensures

pub returns-in-Some-clause-comment : goal.returns-in-Some-clause-comment
returns-in-Some-clause-comment g c = λ so.
    let reads : reads_arguments c.args.reader.now.reading ≡ true =
    sym (c.reads_arguments.ensures ∙ ap reads_arguments c.reading.ensures) ∙ c.if-not-reads_arguments.false in
    let none_half : c.args.unread.now.input.escapes ≡ [] = none_open c.args.unread.now.input.escapes (sym c.has_open_escape.ensures ∙ c.if-has_open_escape.false) in
    reads-comment c.in-Some.count c.front.result.now _ c.args.unread.now c.front.ensures.bytes c.front.ensures.front c.in-Some.ensures
    _ _ c.args.reader.now c.interrupt.new.unread c.pass_line.new.self reads none_half c.interrupt.ensures c.stays_within.ensures c.pass_line.ensures.passes

pub returns-in-Some-clause-whole : goal.returns-in-Some-clause-whole
returns-in-Some-clause-whole g c = λ reads none_half asks.
    sym (begun-comment c.front.result.now c.in-Some.count c.in-Some.ensures) ∙ ap begins_comment (c.front.ensures.whole asks)
