use Rattle.input_ahead.proofs.NamedTexts.{IsSound-unless_refused}
use Rattle.input_ahead.proofs.input_ahead.InputAhead.set.Goals as goal
use Rattle.roff_store.specs.TextCalls.{Set, answered, made}
use Rattle.roff_store.specs.Texts.{entry_given}

pub invariant_of-self : goal.invariant_of-self
invariant_of-self g c =
    let texts = c.self.inside.texts in
    let call = Set c.args.name.now (entry_given c.args.entry) in
    let then_made = made call texts in
    rw c.set.ensures.texts (IsSound-unless_refused c.self.inside (answered call texts) then_made.names then_made.open_texts c.self.invariant)
