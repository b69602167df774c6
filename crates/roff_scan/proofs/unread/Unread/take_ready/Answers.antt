use Rattle.std.proofs.Common.{◌≡◌, ◌+◌, ◌<◌, false, arith, refl, rules, sym, ◌∙◌, nat_lt, le-ltb}
use Rattle.input_source.specs.Tape.{Gives, OneByte}
use Rattle.roff_scan.proofs.Asking.{takes_asked, takes_looked, takes_ready}
use Rattle.roff_scan.proofs.unread.Unread.take_ready.Goals as goal

pub returns-in-Byte-clause-takes : goal.returns-in-Byte-clause-takes
returns-in-Byte-clause-takes g c =
    let now = c.args.self.now in
    let b = c.in-Byte.byte in
    let below : now.input.charge < now.limits.bytes = search rules in
    let room : nat_lt now.limits.bytes (now.input.charge + 1) ≡ false = le-ltb now.limits.bytes (now.input.charge + 1) (omega (arith, below)) in
    takes_looked (g.S.ByteSource.gives c.args.source.now) _ _ _ c.self.view_is _ b (sym c.is_empty.ensures ∙ c.if-not-is_empty.false) c.in-Byte.is
    (rw (room, c.count-in-Byte.ensures.counts) refl)

pub returns-in-Some-clause-takes : goal.returns-in-Some-clause-takes
returns-in-Some-clause-takes g c =
    let now = c.args.self.now in
    let b = c.in-Some.byte in
    let below : now.input.charge < now.limits.bytes = search rules in
    let room : nat_lt now.limits.bytes (now.input.charge + 1) ≡ false = le-ltb now.limits.bytes (now.input.charge + 1) (omega (arith, below)) in
    takes_asked (g.S.ByteSource.gives c.args.source.now) _ _ _ c.self.view_is _ (g.S.ByteSource.gives c.ready_byte.new.self) (Gives (OneByte b))
    (sym c.is_empty.ensures ∙ c.if-not-is_empty.false) c.in-Nothing.is c.in-Some.ensures.gives
    (rw (room, c.count.ensures.counts) refl)

pub returns-then-not-is_empty-clause-takes : goal.returns-then-not-is_empty-clause-takes
returns-then-not-is_empty-clause-takes g c =
    takes_ready (g.S.ByteSource.gives c.args.source.now) _ c.args.self.now c.take_ready_ahead.new.self c.self.view_is
    (sym c.is_empty.ensures ∙ c.if-not-is_empty.true) c.take_ready_ahead.result c.take_ready_ahead.ensures.takes
