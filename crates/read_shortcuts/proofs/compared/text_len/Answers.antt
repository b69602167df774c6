use Rattle.std.proofs.Common.{arith, sym, ◌∙◌}
use Rattle.read_shortcuts.proofs.ComparedTexts.{text-more}
use Rattle.read_shortcuts.proofs.compared.text_len.Goals as goal

pub loop-count-preserved : goal.loop-count-preserved
loop-count-preserved c = (
  omega (arith, c.loop-count-test.true),
  text-more c.args.delimiter c.args.bytes.now c.loop-count.count c.loop-count-test.true (sym c.is_of_text.ensures ∙ c.if-not-is_of_text.false) c.loop-count.invariant.1,
)
