use Rattle.std.proofs.Common.{◌≡◌, ◌-◌, Err, refl, ◌∙◌, arith}
use Rattle.roff_num.specs.declared.limit.Limit.TheVariants.{Names}
use Rattle.roff_store.specs.Texts.{Request}
use Rattle.roff_store.specs.TextCalls.{Set, answered}
use Rattle.roff_store.proofs.Keeping.{Comes, refused, shared-out, strands-out, used-out}
use Rattle.roff_store.proofs.Putting.{known-room, names-refused, old-within, put-answer, ready-request, set-comes}
use Rattle.roff_store.proofs.text_store.TextStore.set_request.Goals as goal

-- too many names
names : (c : goal.Then-not-has_room_for) → Err Names ≡ answered (Set c.args.name.now (Request c.args.number)) c.args.self.now
names c =
    names-refused c.self.invariant c.self.view_is c.args.name.now c.get-old.ensures refl (Request c.args.number) (omega arith)
    (known-room c.args.name.now c.self.inside.names c.get-old.ensures c.is_some.ensures c.has_room_for.ensures
    c.if-not-has_room_for.true)

pub returns-then-not-has_room_for-clause-answer : goal.returns-then-not-has_room_for-clause-answer
returns-then-not-has_room_for-clause-answer c = names c

pub returns-then-not-has_room_for-clause-texts : goal.returns-then-not-has_room_for-clause-texts
returns-then-not-has_room_for-clause-texts c = refused (Set c.args.name.now (Request c.args.number)) c.args.self.now (names c)

pub release_body-requires-clause-strands : goal.release_body-requires-clause-strands
release_body-requires-clause-strands c = strands-out c.self.invariant c.args.name.now c.get-old.ensures

pub release_body-requires-clause-shared : goal.release_body-requires-clause-shared
release_body-requires-clause-shared c = shared-out c.self.invariant c.args.name.now c.get-old.ensures

pub overflow_sub-self : goal.overflow_sub-self
overflow_sub-self c = old-within c.self.invariant c.self.view_is c.args.name.now c.get-old.ensures c.body_len.ensures

-- the name is set
made : (c : goal.After-put) → Comes (Set c.args.name.now (Request c.args.number)) c.args.self.now
    (record c.self.inside {
      names = c.put.new.self;
      chunks = c.release_body.new.chunks;
      used = c.self.inside.used - c.body_len.result;
    })
made c =
    set-comes c.self.invariant c.self.view_is
    (ready-request c.self.invariant c.self.view_is c.args.name.now c.get-old.ensures c.body_len.ensures c.release_body.ensures.shares
    c.release_body.ensures.sum c.release_body.ensures.same c.args.number)
    (known-room c.args.name.now c.self.inside.names c.get-old.ensures c.is_some.ensures c.has_room_for.ensures
    c.if-not-has_room_for.false)
    (c.self.inside.used - c.body_len.result)
    (omega (arith, used-out c.self.invariant c.args.name.now c.get-old.ensures, c.body_len.ensures))
    (omega (arith, c.self.invariant.within)) c.put.ensures.table

pub invariant_of-self : goal.invariant_of-self
invariant_of-self c = (made c).sound

pub returns-clause-answer : goal.returns-clause-answer
returns-clause-answer c =
    put-answer c.args.name.now c.self.inside.names c.put.ensures.answer
    (known-room c.args.name.now c.self.inside.names c.get-old.ensures c.is_some.ensures c.has_room_for.ensures
    c.if-not-has_room_for.false) ∙ (made c).answer

pub returns-clause-texts : goal.returns-clause-texts
returns-clause-texts c = (made c).texts
