use Rattle.std.proofs.Common.{◌≡◌, ◌+◌, [], ◌++◌, Some, Err, length, sym, ap, ◌∙◌, arith}
use Rattle.roff_num.specs.declared.limit.Limit.TheVariants.{Store}
use Rattle.roff_store.specs.Texts.{Body, body_of}
use Rattle.roff_store.specs.TextCalls.{Append, Set, after, answered}
use Rattle.roff_store.specs.TextStore.Strands.{strands_of}
use Rattle.roff_store.proofs.Keeping.{Comes, refused}
use Rattle.roff_store.proofs.Putting.{append-refused, append-room, append-short, appended, behind-none, body-held, put-found}
use Rattle.roff_store.proofs.text_store.TextStore.append.Goals as goal
use Rattle.roff_store.proofs.text_store.TextStore.append.Goals.{in_default-via-in-Some+in_default, in_default-via-in_default}

-- without a body, the bytes are the new one
behind : (c : goal.After-set_body) → Body c.args.text.now ≡ Body (body_of c.args.name.now c.args.self.now ++ c.args.text.now)
behind c =
    let none : strands_of c.get.result ≡ [] =
    elim c.in_default.branch [
      | in_default-via-in-Some+in_default w ↦ search
      | in_default-via-in_default w ↦ ap strands_of w.in_default.is
    ] in
    behind-none c.self.invariant c.self.view_is c.args.name.now c.args.text.now c.get.ensures none

pub returns-in_default-clause-answer : goal.returns-in_default-clause-answer
returns-in_default-clause-answer c = c.set_body.ensures.answer ∙ ap (λ x. answered (Set c.args.name.now x) c.args.self.now) (behind c)

pub returns-in_default-clause-texts : goal.returns-in_default-clause-texts
returns-in_default-clause-texts c = c.set_body.ensures.texts ∙ ap (λ x. after (Set c.args.name.now x) c.args.self.now) (behind c)

-- too many bytes
store : (c : goal.Then-self-text) → Err Store ≡ answered (Append c.args.name.now c.args.text.now) c.args.self.now
store c = append-refused c.self.invariant c.self.view_is c.args.name.now (sym (c.in-Some-Body.is ∙ ap Some c.in-Some-Body.field-0-is) ∙ c.get.ensures) c.args.text.now c.if-self-text.true

pub returns-then-self-text-clause-answer : goal.returns-then-self-text-clause-answer
returns-then-self-text-clause-answer c = store c

pub returns-then-self-text-clause-texts : goal.returns-then-self-text-clause-texts
returns-then-self-text-clause-texts c = refused (Append c.args.name.now c.args.text.now) c.args.self.now (store c)

pub extend-longer-requires-clause-held : goal.extend-longer-requires-clause-held
extend-longer-requires-clause-held c = body-held c.self.invariant c.self.view_is c.args.name.now (sym (c.in-Some-Body.is ∙ ap Some c.in-Some-Body.field-0-is) ∙ c.get.ensures)

pub extend-longer-requires-clause-room : goal.extend-longer-requires-clause-room
extend-longer-requires-clause-room c =
    append-room c.self.invariant c.self.view_is c.args.name.now (sym (c.in-Some-Body.is ∙ ap Some c.in-Some-Body.field-0-is) ∙ c.get.ensures) (length c.args.text.now) c.if-self-text.false

pub extend-longer-requires-clause-short : goal.extend-longer-requires-clause-short
extend-longer-requires-clause-short c =
    let fits = append-short c.self.invariant c.self.view_is c.args.name.now (sym (c.in-Some-Body.is ∙ ap Some c.in-Some-Body.field-0-is) ∙ c.get.ensures) (length c.args.text.now) c.if-self-text.false in
    omega (arith, fits, c.self.ranges)

-- bytes are put behind the body
made : (c : goal.After-put) → Comes (Append c.args.name.now c.args.text.now) c.args.self.now
    (record c.self.inside {
      names = c.put.new.self;
      chunks = c.extend-longer.new.self;
      used = c.self.inside.used + length c.args.text.now;
    })
made c =
    appended c.self.invariant c.self.view_is c.args.name.now (sym (c.in-Some-Body.is ∙ ap Some c.in-Some-Body.field-0-is) ∙ c.get.ensures) c.if-self-text.false c.extend-longer.ensures.longer
    c.put.ensures.table

pub invariant_of-self : goal.invariant_of-self
invariant_of-self c = (made c).sound

pub returns-clause-answer : goal.returns-clause-answer
returns-clause-answer c = put-found c.args.name.now c.self.inside.names c.put.ensures.answer (sym (c.in-Some-Body.is ∙ ap Some c.in-Some-Body.field-0-is) ∙ c.get.ensures) ∙ (made c).answer

pub returns-clause-texts : goal.returns-clause-texts
returns-clause-texts c = (made c).texts
