use Rattle.std.proofs.Common.{Some, None, ◌∙◌}
use Rattle.input_model.specs.Input.{ByteAhead, FreeAhead, DoAhead}
use Rattle.input_ahead.proofs.Leased.{some-giving}
use Rattle.input_ahead.proofs.Seeing.{first-gives, front-seen, no-end-first, no-return-first, sees}
use Rattle.input_ahead.proofs.input_ahead.InputAhead.seen.Goals as goal
use Rattle.input_ahead.specs.declared.input_ahead.EventOrBody.TheVariants.{Event, Body}
use Rattle.roff_store.specs.Texts.{lease_bytes, lease_of}

pub lease_front-requires : goal.lease_front-requires
lease_front-requires g c =
    let gives = first-gives c.self.inside.texts c.self.inside.pushed_texts.ahead c.in-Some-Do-Body.lease c.self.invariant.give
    (rw (c.in-Some-Do-Body.field-0-is, c.in-Some-Do-Body.field-0-0-is) at c.in-Some-Do-Body.ensures) in
    some-giving (lease_of c.in-Some-Do-Body.lease.0 c.self.inside.texts) gives

pub bounds-lease_front-0 : goal.bounds-lease_front-0
bounds-lease_front-0 g c =
    c.lease_front.ensures.some (first-gives c.self.inside.texts c.self.inside.pushed_texts.ahead c.in-Some-Do-Body.lease c.self.invariant.give
    (rw (c.in-Some-Do-Body.field-0-is, c.in-Some-Do-Body.field-0-0-is) at c.in-Some-Do-Body.ensures))

pub returns-in-None : goal.returns-in-None
returns-in-None g c = sees c.self.inside c.args.self.now c.self.invariant c.self.view_is None c.in-None.ensures

pub returns-in-Some-Do-Body : goal.returns-in-Some-Do-Body
returns-in-Some-Do-Body g c =
    let first = rw (c.in-Some-Do-Body.field-0-is, c.in-Some-Do-Body.field-0-0-is) at c.in-Some-Do-Body.ensures in
    let gives = first-gives c.self.inside.texts c.self.inside.pushed_texts.ahead c.in-Some-Do-Body.lease c.self.invariant.give first in
    front-seen _ (lease_bytes (lease_of c.in-Some-Do-Body.lease.0 c.self.inside.texts)) c.lease_front.result.now
    c.lease_front.ensures.bytes (c.lease_front.ensures.some gives)
    ∙ sees c.self.inside c.args.self.now c.self.invariant c.self.view_is (Some (DoAhead (Body c.in-Some-Do-Body.lease))) first

pub returns-in-Some-Do-Event : goal.returns-in-Some-Do-Event
returns-in-Some-Do-Event g c =
    sees c.self.inside c.args.self.now c.self.invariant c.self.view_is (Some (DoAhead (Event c.in-Some-Do-Event.field-0-0-0)))
    (rw (c.in-Some-Do-Event.field-0-is, c.in-Some-Do-Event.field-0-0-is) at c.in-Some-Do-Event.ensures)

pub returns-in-Some-Byte : goal.returns-in-Some-Byte
returns-in-Some-Byte g c =
    sees c.self.inside c.args.self.now c.self.invariant c.self.view_is (Some (ByteAhead c.in-Some-Byte.byte))
    (rw c.in-Some-Byte.field-0-is at c.in-Some-Byte.ensures)

pub returns-in-Some-Free : goal.returns-in-Some-Free
returns-in-Some-Free g c =
    sees c.self.inside c.args.self.now c.self.invariant c.self.view_is (Some (FreeAhead c.in-Some-Free.byte))
    (rw c.in-Some-Free.field-0-is at c.in-Some-Free.ensures)

pub returns-in-Some-End : goal.returns-in-Some-End
returns-in-Some-End g c =
    absurd (no-end-first c.self.inside.pushed_texts.ahead (rw c.in-Some-End.field-0-is at c.in-Some-End.ensures))

pub returns-in-Some-Return : goal.returns-in-Some-Return
returns-in-Some-Return g c =
    absurd (no-return-first c.in-Some-Return.field-0-0 c.self.inside.pushed_texts.ahead (rw c.in-Some-Return.field-0-is at c.in-Some-Return.ensures))
