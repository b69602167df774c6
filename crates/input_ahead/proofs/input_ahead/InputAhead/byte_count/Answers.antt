use Rattle.std.proofs.Common.{arith}
use Rattle.input_ahead.proofs.Bodies.{bytes-with_bodies}
use Rattle.input_ahead.proofs.input_ahead.InputAhead.byte_count.Goals as goal

pub overflow_add-result : goal.overflow_add-result
overflow_add-result g c =
    let counted = bytes-with_bodies c.self.inside.texts c.self.inside.pushed_texts.ahead in
    omega (arith, c.byte_count.ensures.count, c.self.invariant.sum, counted, c.self.invariant.bytes, c.self.invariant.small)

pub returns-clause-count : goal.returns-clause-count
returns-clause-count g c =
    let counted = bytes-with_bodies c.self.inside.texts c.self.inside.pushed_texts.ahead in
    rw (← c.self.view_is) (omega (arith, c.byte_count.ensures.count, c.self.invariant.sum, counted))

pub returns-clause-within : goal.returns-clause-within
returns-clause-within g c =
    let counted = bytes-with_bodies c.self.inside.texts c.self.inside.pushed_texts.ahead in
    rw (← c.self.view_is) (omega (arith, c.byte_count.ensures.count, c.self.invariant.sum, counted, c.self.invariant.bytes))
