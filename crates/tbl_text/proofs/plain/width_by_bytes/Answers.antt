use Rattle.std.proofs.Common.{ap, ◌∙◌, sum_by, take_all}
use Rattle.roff_num.specs.Widths.{byte_width}
use Rattle.tbl_text.proofs.plain.width_by_bytes.Goals as goal

pub returns-clause-value : goal.returns-clause-value
returns-clause-value c =
    c.loop-byte.invariant.0
    ∙ ap (sum_by byte_width) (take_all c.loop-byte.byte-index c.args.bytes.now c.loop-byte-test.false)
