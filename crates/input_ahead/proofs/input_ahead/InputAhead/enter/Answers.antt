use Rattle.input_ahead.proofs.NamedTexts.{IsSound-unless_refused}
use Rattle.input_ahead.proofs.input_ahead.InputAhead.enter.Goals as goal
use Rattle.roff_store.specs.TextCalls.{Enter, answered, made}

pub invariant_of-self : goal.invariant_of-self
invariant_of-self g c =
    let texts = c.self.inside.texts in
    let call = Enter c.args.id.0 c.args.name.now c.args.append in
    let then_made = made call texts in
    rw c.enter.ensures.texts (IsSound-unless_refused c.self.inside (answered call texts) then_made.names then_made.open_texts c.self.invariant)
