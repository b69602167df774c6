use Rattle.std.proofs.Common.{arith}
use Rattle.input_ahead.proofs.Bodies.{bodies-few, ends-with_bodies, events-with_bodies, frees-with_bodies}
use Rattle.input_ahead.proofs.input_ahead.InputAhead.put_back.Goals as goal

pub returns-then-not-has_room-clause-room : goal.returns-then-not-has_room-clause-room
returns-then-not-has_room-clause-room g c = λ few.
    let inside = c.self.inside in
    let full = c.has_room.ensures.full c.if-not-has_room.true in
    let less = rw (← c.self.view_is) at few in
    let bodies = bodies-few inside.pushed_texts.ahead c.self.invariant.ended in
    let events = events-with_bodies inside.texts inside.pushed_texts.ahead in
    let ends = ends-with_bodies inside.texts inside.pushed_texts.ahead in
    let frees = frees-with_bodies inside.texts inside.pushed_texts.ahead in
    absurd (omega (arith, full, less, bodies, events, ends, frees, c.self.invariant.ends, c.self.invariant.frees))

pub put_back-requires : goal.put_back-requires
put_back-requires g c = omega (arith, c.has_room.ensures.room c.if-not-has_room.false)

pub invariant_of-self : goal.invariant_of-self
invariant_of-self g c =
    let s = c.self.invariant in
    let room = c.has_room.ensures.room c.if-not-has_room.false in
    let events = events-with_bodies c.self.inside.texts c.self.inside.pushed_texts.ahead in
    rw c.put_back.ensures (record {
      ended = s.ended;
      give = s.give;
      once = s.once;
      live = s.live;
      sum = s.sum;
      cap_leases = s.cap_leases;
      cap_kept = s.cap_kept;
      bytes = s.bytes;
      ends = s.ends;
      events = omega (arith, room, events);
      frees = s.frees;
      small = s.small;
      store = s.store;
    })
