use Rattle.std.proofs.Common.{arith, sym, ◌∙◌}
use Rattle.read_shortcuts.proofs.ExpressionFronts.{expression-more}
use Rattle.read_shortcuts.proofs.answered.expression_len.Goals as goal

pub loop-count-preserved : goal.loop-count-preserved
loop-count-preserved c = (
  omega (arith, c.loop-count-test.true),
  expression-more c.args.bytes.now c.loop-count.count c.loop-count-test.true (sym c.is_of_expression.ensures ∙ c.if-not-is_of_expression.false) c.loop-count.invariant.1,
)
