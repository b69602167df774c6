use Rattle.std.proofs.Common.{arith, sym, ◌∙◌}
use Rattle.input_source.proofs.PlainBytes.{text-ended, text-more, text-stopped}
use Rattle.input_source.proofs.bytes.text_of_few.Goals as goal

pub returns-then-not-is_text_byte : goal.returns-then-not-is_text_byte
returns-then-not-is_text_byte c =
    text-stopped c.args.bytes.now c.loop-count.count c.loop-count-test.true (sym c.is_text_byte.ensures ∙ c.if-not-is_text_byte.true) c.loop-count.invariant

pub loop-count-preserved : goal.loop-count-preserved
loop-count-preserved c =
    text-more c.args.bytes.now c.loop-count.count c.loop-count-test.true (sym c.is_text_byte.ensures ∙ c.if-not-is_text_byte.false) c.loop-count.invariant

pub returns : goal.returns
returns c = text-ended c.args.bytes.now c.loop-count.count (omega (arith, c.loop-count-test.false)) c.loop-count.invariant
