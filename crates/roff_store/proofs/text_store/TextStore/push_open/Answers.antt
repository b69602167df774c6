use Rattle.std.proofs.Common.{◌≡◌, Err, length, arith}
use Rattle.roff_num.specs.declared.limit.Limit.TheVariants.{Store}
use Rattle.roff_store.specs.TextCalls.{PushOpen, answered}
use Rattle.roff_store.proofs.Keeping.{refused}
use Rattle.roff_store.proofs.Opening.{open-inside, push-refused, push-room, push-short, pushed, text-held}
use Rattle.roff_store.proofs.text_store.TextStore.push_open.Goals as goal

-- too many bytes
store : (c : goal.Then-self-text) → Err Store ≡ answered (PushOpen c.args.id.0 c.args.text.now) c.args.self.now
store c = push-refused c.self.invariant c.self.view_is c.args.id.0 c.requires c.args.text.now c.if-self-text.true

pub returns-then-self-text-clause-answer : goal.returns-then-self-text-clause-answer
returns-then-self-text-clause-answer c = store c

pub returns-then-self-text-clause-texts : goal.returns-then-self-text-clause-texts
returns-then-self-text-clause-texts c = refused (PushOpen c.args.id.0 c.args.text.now) c.args.self.now (store c)

pub index-requires : goal.index-requires
index-requires c = let inside = open-inside c.self.invariant c.self.view_is c.args.id.0 c.requires in omega (arith, inside, c.self.inside.open.ok.0)

pub extend-longer-requires-clause-held : goal.extend-longer-requires-clause-held
extend-longer-requires-clause-held c = text-held c.self.invariant c.self.view_is c.args.id.0 c.requires c.index.ensures

pub extend-longer-requires-clause-room : goal.extend-longer-requires-clause-room
extend-longer-requires-clause-room c =
    push-room c.self.invariant c.self.view_is c.args.id.0 c.requires c.index.ensures (length c.args.text.now) c.if-self-text.false

pub extend-longer-requires-clause-short : goal.extend-longer-requires-clause-short
extend-longer-requires-clause-short c =
    let fits = push-short c.self.invariant c.self.view_is c.args.id.0 c.requires c.index.ensures (length c.args.text.now) c.if-self-text.false in
    omega (arith, fits, c.self.ranges)

pub invariant_of-self : goal.invariant_of-self
invariant_of-self c = (pushed c.self.invariant c.self.view_is c.args.id.0 c.requires c.index.ensures c.if-self-text.false
    c.extend-longer.ensures.longer).sound

pub returns-clause-answer : goal.returns-clause-answer
returns-clause-answer c = (pushed c.self.invariant c.self.view_is c.args.id.0 c.requires c.index.ensures c.if-self-text.false
    c.extend-longer.ensures.longer).answer

pub returns-clause-texts : goal.returns-clause-texts
returns-clause-texts c = (pushed c.self.invariant c.self.view_is c.args.id.0 c.requires c.index.ensures c.if-self-text.false
    c.extend-longer.ensures.longer).texts
