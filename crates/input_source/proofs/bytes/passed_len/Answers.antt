use Rattle.std.proofs.Common.{◌∙◌}
use Rattle.input_source.proofs.PlainBytes.{passed_len_in_block, passed_len_in_line}
use Rattle.input_source.proofs.bytes.passed_len.Goals as goal

pub returns-then-within_block : goal.returns-then-within_block
returns-then-within_block c =
    c.unwrap_or.ensures ∙ passed_len_in_block c.args.bytes.now c.memchr.result c.args.within_block c.if-within_block.true c.memchr.ensures

pub returns-else-within_block : goal.returns-else-within_block
returns-else-within_block c =
    c.unwrap_or-else-within_block.ensures ∙ passed_len_in_line c.args.bytes.now c.memchr2.result c.args.within_block c.if-within_block.false c.memchr2.ensures
