use Rattle.std.proofs.Common.{arith}
use Rattle.input_ahead.proofs.NamedTexts.{body_within}
use Rattle.input_ahead.proofs.input_ahead.InputAhead.called.Goals as goal

pub overflow_add-result : goal.overflow_add-result
overflow_add-result g c =
    let texts = c.self.inside.texts in
    let body = body_within c.args.name.now texts.names.entries in
    omega (arith, body, c.body_end-body.ensures.len, c.used.ensures.value, c.used.ensures.within, c.self.invariant.store)
