use Rattle.std.proofs.Common.{drop, length, take, ap, ◌∙◌}
use Rattle.input_ahead.specs.InputAhead.Kept.{AheadAndTexts}
use Rattle.input_model.specs.Input.{leading}
use Rattle.input_ahead.proofs.BodyTaken.{gives, with_body-first}
use Rattle.input_ahead.proofs.Leading.{leading-body, leading-byte}
use Rattle.input_ahead.proofs.Leased.{some-giving}
use Rattle.input_ahead.proofs.input_ahead.InputAhead.front.Goals as goal
use Rattle.roff_store.specs.Texts.{lease_of}

pub lease_front-requires : goal.lease_front-requires
lease_front-requires g c =
    let inside = c.self.inside in
    let lease = c.in-Some-Do-Body.lease in
    let is = rw (c.in-Some-Do-Body.field-0-is, c.in-Some-Do-Body.field-0-0-is) at c.in-Some-Do-Body.ensures in
    let behind = record inside.pushed_texts { ahead = drop 1 inside.pushed_texts.ahead } in
    some-giving (lease_of lease.0 inside.texts) (gives inside.texts inside.pushed_texts behind lease (with_body-first inside.pushed_texts lease is) c.self.invariant)

pub returns-in-Some-Do-Body : goal.returns-in-Some-Do-Body
returns-in-Some-Do-Body g c =
    let inside = c.self.inside in
    let front = c.lease_front.result.now in
    let is = rw (c.in-Some-Do-Body.field-0-is, c.in-Some-Do-Body.field-0-0-is) at c.in-Some-Do-Body.ensures in
    leading-body inside.texts inside.pushed_texts c.in-Some-Do-Body.lease front is c.lease_front.ensures.bytes
    ∙ ap (λ (f : AheadAndTexts _). take (length front) (leading f.ahead)) c.self.view_is

pub returns-in-Some-Byte : goal.returns-in-Some-Byte
returns-in-Some-Byte g c =
    let inside = c.self.inside in
    let front = c.front_byte.result.now in
    let is = rw (c.in-Some-Byte.field-0-is) at c.in-Some-Byte.ensures in
    leading-byte inside.texts inside.pushed_texts c.in-Some-Byte.field-0-0 front is (c.front_byte.ensures c.in-Some-Byte.field-0-0 is)
    ∙ ap (λ (f : AheadAndTexts _). take (length front) (leading f.ahead)) c.self.view_is
