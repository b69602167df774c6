use Rattle.std.proofs.Common.{◌≡◌, ◌<◌, length, arith}
use Rattle.input_ahead.proofs.Pushed.{PutsBytes-leased, PutsBytes-none, room-for-body, room-for-lease, room-for-mark}
use Rattle.input_ahead.proofs.input_ahead.pushed.put_body.Goals as goal
use Rattle.input_ahead.specs.declared.input_ahead.InputAhead.TheInside.{Inside}
use Rattle.roff_store.specs.Texts.{body_of}

pub lease-requires-clause-fewer : goal.lease-requires-clause-fewer
lease-requires-clause-fewer g c =
    let a : Inside _ = record { pushed_texts = c.args.pushed_texts.now; texts = c.args.texts.now } in
    room-for-lease a c.requires.sound c.args.name.now c.requires.end c.requires.bytes

pub lease-requires-clause-room : goal.lease-requires-clause-room
lease-requires-clause-room g c =
    let a : Inside _ = record { pushed_texts = c.args.pushed_texts.now; texts = c.args.texts.now } in
    room-for-body a c.requires.sound c.args.name.now c.requires.end c.requires.bytes

pub put_back-requires : goal.put_back-requires
put_back-requires g c =
    let a : Inside _ = record { pushed_texts = c.args.pushed_texts.now; texts = c.args.texts.now } in
    room-for-mark a c.requires.sound c.args.name.now c.requires.end c.requires.bytes

pub returns-then-len-eq0 : goal.returns-then-len-eq0
returns-then-len-eq0 g c =
    let a : Inside _ = record { pushed_texts = c.args.pushed_texts.now; texts = c.args.texts.now } in
    let none : length (body_of c.args.name.now c.args.texts.now) ≡ 0 = omega (arith, c.requires.len, c.if-len-eq0.true) in
    PutsBytes-none a (body_of c.args.name.now c.args.texts.now) none c.requires.sound

pub returns-in-Some : goal.returns-in-Some
returns-in-Some g c =
    let a : Inside _ = record { pushed_texts = c.args.pushed_texts.now; texts = c.args.texts.now } in
    let body = body_of c.args.name.now c.args.texts.now in
    let some : 0 < length body = omega (arith, c.requires.len, c.if-len-eq0.false) in
    rw (c.put_back.ensures, c.in-Some.ensures.leased)
    (PutsBytes-leased a c.requires.sound c.args.name.now c.requires.end c.requires.bytes some
    c.in-Some.lease c.in-Some.ensures.number)
