use Rattle.std.proofs.Common.{◌≡◌, ◌+◌, ◌-◌, Err, length, ◌∙◌, arith}
use Rattle.roff_num.specs.declared.limit.Limit.TheVariants.{Store, Names}
use Rattle.roff_store.specs.Texts.{Body}
use Rattle.roff_store.specs.TextCalls.{Set, answered}
use Rattle.roff_store.proofs.Keeping.{Comes, refused, shared-out, strands-out, used-out}
use Rattle.roff_store.proofs.Putting.{blank-held-out, blank-room, known-room, names-refused, old-within, put-answer, ready-body, set-comes, store-refused}
use Rattle.roff_store.proofs.text_store.TextStore.set_body.Goals as goal

pub overflow_sub-others : goal.overflow_sub-others
overflow_sub-others c = old-within c.self.invariant c.self.view_is c.args.name.now c.get-old.ensures c.body_len.ensures

-- too many bytes
store : (c : goal.Then-self-others) → Err Store ≡ answered (Set c.args.name.now (Body c.args.text.now)) c.args.self.now
store c =
    store-refused c.self.invariant c.self.view_is c.args.name.now c.get-old.ensures c.body_len.ensures (Body c.args.text.now)
    c.if-self-others.true

pub returns-then-self-others-clause-answer : goal.returns-then-self-others-clause-answer
returns-then-self-others-clause-answer c = store c

pub returns-then-self-others-clause-texts : goal.returns-then-self-others-clause-texts
returns-then-self-others-clause-texts c = refused (Set c.args.name.now (Body c.args.text.now)) c.args.self.now (store c)

-- too many names
names : (c : goal.Then-not-has_room_for) → Err Names ≡ answered (Set c.args.name.now (Body c.args.text.now)) c.args.self.now
names c =
    names-refused c.self.invariant c.self.view_is c.args.name.now c.get-old.ensures c.body_len.ensures (Body c.args.text.now)
    c.if-self-others.false
    (known-room c.args.name.now c.self.inside.names c.get-old.ensures c.is_some.ensures c.has_room_for.ensures
    c.if-not-has_room_for.true)

pub returns-then-not-has_room_for-clause-answer : goal.returns-then-not-has_room_for-clause-answer
returns-then-not-has_room_for-clause-answer c = names c

pub returns-then-not-has_room_for-clause-texts : goal.returns-then-not-has_room_for-clause-texts
returns-then-not-has_room_for-clause-texts c = refused (Set c.args.name.now (Body c.args.text.now)) c.args.self.now (names c)

pub release_body-requires-clause-strands : goal.release_body-requires-clause-strands
release_body-requires-clause-strands c = strands-out c.self.invariant c.args.name.now c.get-old.ensures

pub release_body-requires-clause-shared : goal.release_body-requires-clause-shared
release_body-requires-clause-shared c = shared-out c.self.invariant c.args.name.now c.get-old.ensures

pub extend-body-requires-clause-held : goal.extend-body-requires-clause-held
extend-body-requires-clause-held c =
    blank-held-out c.self.invariant c.self.view_is c.args.name.now c.get-old.ensures c.body_len.ensures c.release_body.ensures.shares
    c.release_body.ensures.sum c.release_body.ensures.same
    c.empty.result c.empty.ensures.chunks c.empty.ensures.at c.empty.ensures.rest c.empty.ensures.last

pub extend-body-requires-clause-room : goal.extend-body-requires-clause-room
extend-body-requires-clause-room c =
    blank-room c.self.invariant c.self.view_is c.args.name.now c.get-old.ensures c.body_len.ensures c.release_body.ensures.shares
    c.release_body.ensures.sum c.release_body.ensures.same
    c.empty.result c.empty.ensures.chunks c.empty.ensures.at c.empty.ensures.rest c.empty.ensures.last
    (length c.args.text.now) c.if-self-others.false

-- the name is set
made : (c : goal.After-put) → Comes (Set c.args.name.now (Body c.args.text.now)) c.args.self.now
    (record c.self.inside {
      names = c.put.new.self;
      chunks = c.extend-body.new.self;
      used = c.self.inside.used - c.body_len.result + length c.args.text.now;
    })
made c =
    set-comes c.self.invariant c.self.view_is
    (ready-body c.self.invariant c.self.view_is c.args.name.now c.get-old.ensures c.body_len.ensures c.release_body.ensures.shares
    c.release_body.ensures.sum c.release_body.ensures.same
    c.empty.result c.empty.ensures.chunks c.empty.ensures.at c.empty.ensures.rest c.empty.ensures.last
    c.extend-body.ensures.longer)
    (known-room c.args.name.now c.self.inside.names c.get-old.ensures c.is_some.ensures c.has_room_for.ensures
    c.if-not-has_room_for.false)
    (c.self.inside.used - c.body_len.result + length c.args.text.now)
    (omega (
      arith,
      used-out c.self.invariant c.args.name.now c.get-old.ensures,
      c.body_len.ensures,
      c.extend-body.ensures.longer.len,
      c.empty.ensures.rest,
    ))
    (omega (
      arith,
      c.self.invariant.within,
      used-out c.self.invariant c.args.name.now c.get-old.ensures,
      c.body_len.ensures,
      c.if-self-others.false,
    )) c.put.ensures.table

pub invariant_of-self : goal.invariant_of-self
invariant_of-self c = (made c).sound

pub returns-clause-answer : goal.returns-clause-answer
returns-clause-answer c =
    put-answer c.args.name.now c.self.inside.names c.put.ensures.answer
    (known-room c.args.name.now c.self.inside.names c.get-old.ensures c.is_some.ensures c.has_room_for.ensures
    c.if-not-has_room_for.false) ∙ (made c).answer

pub returns-clause-texts : goal.returns-clause-texts
returns-clause-texts c = (made c).texts
