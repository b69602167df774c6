use Rattle.std.proofs.Common.{ap, sym, ◌&&◌, ◌∙◌, Bool}
use Rattle.read_arguments.specs.Comments.{has_newline}
use Rattle.read_arguments.proofs.CommentsRead.{comment-first}
use Rattle.read_arguments.proofs.comments.comment_len.Goals as goal

pub returns-then-not-opens_comment : goal.returns-then-not-opens_comment
returns-then-not-opens_comment c =
    ap (λ (opens : Bool). opens && has_newline c.args.bytes.now) (sym c.opens_comment.ensures ∙ c.if-not-opens_comment.true)

pub returns : goal.returns
returns c = comment-first c.args.bytes.now c.memchr.result (sym c.opens_comment.ensures ∙ c.if-not-opens_comment.false) c.memchr.ensures
