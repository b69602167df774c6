use Rattle.std.proofs.Common.{◌∙◌, ap, take}
use Rattle.tbl_core.proofs.Passing.{line-front}
use Rattle.tbl_core.proofs.tables.passing.line_front.Goals as goal

pub returns : goal.returns
returns c =
    c.at_most.ensures ∙ ap (λ n. take n c.args.bytes.now) c.unwrap_or.ensures ∙ line-front c.args.bytes.now c.memchr.result c.memchr.ensures
