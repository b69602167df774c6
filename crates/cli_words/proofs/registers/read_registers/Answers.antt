use Rattle.std.proofs.Common.{arith}
use Rattle.cli_words.proofs.AskedRegisters.{all_read, bad_next, one_more}
use Rattle.cli_words.proofs.registers.read_registers.Goals as goal

pub returns-then-not-add_register : goal.returns-then-not-add_register
returns-then-not-add_register c =
    bad_next c.args.texts.now c.loop-text.text-index _ c.loop-text-test.true c.loop-text.registers.items _ c.loop-text.invariant
    (rw c.as_bytes.ensures.value at c.if-not-add_register.ensures)

pub loop-text-preserved : goal.loop-text-preserved
loop-text-preserved c =
    one_more c.args.texts.now c.loop-text.text-index _ c.loop-text-test.true c.loop-text.registers.items _ c.loop-text.invariant _
    (rw c.as_bytes.ensures.value at c.if-not-add_register.ensures)

pub returns : goal.returns
returns c = all_read c.args.texts.now c.loop-text.text-index c.loop-text.registers.items _ (omega (arith, c.loop-text-test.false)) c.loop-text.invariant
