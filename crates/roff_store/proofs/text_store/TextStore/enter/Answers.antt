use Rattle.std.proofs.Common.{sym, ◌∙◌, arith}
use Rattle.roff_store.specs.TextCalls.{Enter}
use Rattle.roff_store.proofs.Keeping.{refused, shared-out, strands-out}
use Rattle.roff_store.proofs.Entering.{enter-refused, entered-alone, entered-behind, held-behind, room-behind, short-behind}
use Rattle.roff_store.proofs.Opening.{open-inside}
use Rattle.roff_store.proofs.Putting.{old-within, put-answer}
use Rattle.roff_store.proofs.text_store.TextStore.enter.Goals as goal

pub returns-then-not-has_room-clause-answer : goal.returns-then-not-has_room-clause-answer
returns-then-not-has_room-clause-answer c =
    enter-refused c.self.invariant c.self.view_is c.args.id.0 c.args.name.now c.args.append (sym c.has_room.ensures ∙ c.if-not-has_room.true)

pub returns-then-not-has_room-clause-texts : goal.returns-then-not-has_room-clause-texts
returns-then-not-has_room-clause-texts c =
    refused (Enter c.args.id.0 c.args.name.now c.args.append) c.args.self.now
    (enter-refused c.self.invariant c.self.view_is c.args.id.0 c.args.name.now c.args.append (sym c.has_room.ensures ∙ c.if-not-has_room.true))

pub remove-text-requires : goal.remove-text-requires
remove-text-requires c = let inside = open-inside c.self.invariant c.self.view_is c.args.id.0 c.requires in omega (arith, inside, c.self.inside.open.ok.0)

pub overflow_sub-self : goal.overflow_sub-self
overflow_sub-self c = old-within c.self.invariant c.self.view_is c.args.name.now c.get-old.ensures c.body_len.ensures

pub release_body-requires-clause-strands : goal.release_body-requires-clause-strands
release_body-requires-clause-strands c = strands-out c.self.invariant c.args.name.now c.get-old.ensures

pub release_body-requires-clause-shared : goal.release_body-requires-clause-shared
release_body-requires-clause-shared c = shared-out c.self.invariant c.args.name.now c.get-old.ensures

pub append-body-requires-clause-held : goal.append-body-requires-clause-held
append-body-requires-clause-held c = held-behind c.self.invariant c.self.view_is c.args.id.0 c.requires c.remove-text.ensures.value c.args.name.now c.get-old.ensures c.in-Some.ensures.some.1

pub append-body-requires-clause-room : goal.append-body-requires-clause-room
append-body-requires-clause-room c = room-behind c.self.invariant c.self.view_is c.args.id.0 c.requires c.remove-text.ensures.value c.args.name.now c.get-old.ensures c.in-Some.ensures.some.1

pub append-body-requires-clause-short : goal.append-body-requires-clause-short
append-body-requires-clause-short c =
    let fits = short-behind c.self.invariant c.self.view_is c.args.id.0 c.requires c.remove-text.ensures.value c.args.name.now c.get-old.ensures c.in-Some.ensures.some.1 in
    omega (arith, fits, c.self.ranges)

pub invariant_of-self : goal.invariant_of-self
invariant_of-self c = (entered-behind c.self.invariant c.self.view_is c.args.id.0 c.requires c.remove-text.ensures.value c.args.name.now c.get-old.ensures c.in-Some.ensures.some.1
    (sym c.has_room.ensures ∙ c.if-not-has_room.false) c.in-Some.ensures.some.0 c.append-body.ensures
    {opens = c.remove-text.new.self} c.remove-text.ensures.items c.remove-text.ensures.len c.remove-text.ensures.capacity c.put.ensures.table).sound

pub returns-in-Some-clause-answer : goal.returns-in-Some-clause-answer
returns-in-Some-clause-answer c =
    put-answer c.args.name.now c.self.inside.names c.put.ensures.answer (sym c.has_room.ensures ∙ c.if-not-has_room.false) ∙ (entered-behind c.self.invariant c.self.view_is c.args.id.0 c.requires c.remove-text.ensures.value c.args.name.now c.get-old.ensures c.in-Some.ensures.some.1
    (sym c.has_room.ensures ∙ c.if-not-has_room.false) c.in-Some.ensures.some.0 c.append-body.ensures
    {opens = c.remove-text.new.self} c.remove-text.ensures.items c.remove-text.ensures.len c.remove-text.ensures.capacity c.put.ensures.table).answer

pub returns-in-Some-clause-texts : goal.returns-in-Some-clause-texts
returns-in-Some-clause-texts c = (entered-behind c.self.invariant c.self.view_is c.args.id.0 c.requires c.remove-text.ensures.value c.args.name.now c.get-old.ensures c.in-Some.ensures.some.1
    (sym c.has_room.ensures ∙ c.if-not-has_room.false) c.in-Some.ensures.some.0 c.append-body.ensures
    {opens = c.remove-text.new.self} c.remove-text.ensures.items c.remove-text.ensures.len c.remove-text.ensures.capacity c.put.ensures.table).texts

pub invariant_of-self-in-None : goal.invariant_of-self-in-None
invariant_of-self-in-None c = (entered-alone c.self.invariant c.self.view_is c.args.id.0 c.requires c.remove-text.ensures.value c.args.name.now c.get-old.ensures
    (sym c.has_room.ensures ∙ c.if-not-has_room.false) c.args.append c.in-None.ensures.none c.release_body.ensures.shares
    c.release_body.ensures.sum c.release_body.ensures.same c.body_len.ensures {opens = c.remove-text.new.self}
    c.remove-text.ensures.items c.remove-text.ensures.len
    c.remove-text.ensures.capacity c.put-in-None.ensures.table).sound

pub returns-in-None-clause-answer : goal.returns-in-None-clause-answer
returns-in-None-clause-answer c =
    put-answer c.args.name.now c.self.inside.names c.put-in-None.ensures.answer (sym c.has_room.ensures ∙ c.if-not-has_room.false) ∙ (entered-alone c.self.invariant c.self.view_is c.args.id.0 c.requires c.remove-text.ensures.value c.args.name.now c.get-old.ensures
    (sym c.has_room.ensures ∙ c.if-not-has_room.false) c.args.append c.in-None.ensures.none c.release_body.ensures.shares
    c.release_body.ensures.sum c.release_body.ensures.same c.body_len.ensures {opens = c.remove-text.new.self}
    c.remove-text.ensures.items c.remove-text.ensures.len
    c.remove-text.ensures.capacity c.put-in-None.ensures.table).answer

pub returns-in-None-clause-texts : goal.returns-in-None-clause-texts
returns-in-None-clause-texts c = (entered-alone c.self.invariant c.self.view_is c.args.id.0 c.requires c.remove-text.ensures.value c.args.name.now c.get-old.ensures
    (sym c.has_room.ensures ∙ c.if-not-has_room.false) c.args.append c.in-None.ensures.none c.release_body.ensures.shares
    c.release_body.ensures.sum c.release_body.ensures.same c.body_len.ensures {opens = c.remove-text.new.self}
    c.remove-text.ensures.items c.remove-text.ensures.len
    c.remove-text.ensures.capacity c.put-in-None.ensures.table).texts
