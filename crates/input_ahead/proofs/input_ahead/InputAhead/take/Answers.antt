use Rattle.std.proofs.Common.{drop, arith}
use Rattle.input_ahead.specs.PushedTexts.Standing.{item_of}
use Rattle.input_ahead.proofs.BodyTaken.{with_body-taken, with_body-first, IsSound-passed_byte, TakesFront-passed, IsSound-released, TakesFront-released}
use Rattle.input_ahead.proofs.input_ahead.InputAhead.take.Goals as goal

pub invariant_of-self-then-lease_rest-eq1 : goal.invariant_of-self-then-lease_rest-eq1
invariant_of-self-then-lease_rest-eq1 g c =
    let inside = c.self.inside in
    let lease = c.in-Some-Do-Body.lease in
    let front = rw (c.in-Some-Do-Body.field-0-is, c.in-Some-Do-Body.field-0-0-is) at c.in-Some-Do-Body.ensures in
    let left = c.take-then-lease_rest-eq1 in
    let whole = with_body-taken inside.pushed_texts left.new.self lease (item_of left.result) front left.ensures in
    rw c.release.ensures (IsSound-released inside.texts inside.pushed_texts left.new.self lease whole c.self.invariant
    c.lease_front.result.now c.lease_front.ensures.bytes c.lease_front.ensures.some
    (omega (arith, c.lease_rest.ensures, c.if-lease_rest-eq1.true)))

pub returns-then-lease_rest-eq1 : goal.returns-then-lease_rest-eq1
returns-then-lease_rest-eq1 g c =
    let inside = c.self.inside in
    let lease = c.in-Some-Do-Body.lease in
    let front = rw (c.in-Some-Do-Body.field-0-is, c.in-Some-Do-Body.field-0-0-is) at c.in-Some-Do-Body.ensures in
    let left = c.take-then-lease_rest-eq1 in
    let whole = with_body-taken inside.pushed_texts left.new.self lease (item_of left.result) front left.ensures in
    rw c.release.ensures (TakesFront-released inside.texts inside.pushed_texts left.new.self lease whole c.self.invariant
    c.lease_front.result.now c.lease_front.ensures.bytes c.lease_front.ensures.some
    (omega (arith, c.lease_rest.ensures, c.if-lease_rest-eq1.true)) c.args.self.now c.self.view_is)

pub invariant_of-self-in-Some-Do-Body : goal.invariant_of-self-in-Some-Do-Body
invariant_of-self-in-Some-Do-Body g c =
    let inside = c.self.inside in
    let lease = c.in-Some-Do-Body.lease in
    let front = rw (c.in-Some-Do-Body.field-0-is, c.in-Some-Do-Body.field-0-0-is) at c.in-Some-Do-Body.ensures in
    let behind = record inside.pushed_texts { ahead = drop 1 inside.pushed_texts.ahead } in
    let passed = IsSound-passed_byte inside.texts inside.pushed_texts behind lease (with_body-first inside.pushed_texts lease front) c.self.invariant
    c.lease_front.result.now c.lease_front.ensures.bytes c.lease_front.ensures.some in
    rw c.lease_pass.ensures (passed (rw c.lease_rest.ensures at c.if-lease_rest-eq1.false))

pub returns-else-lease_rest-eq1 : goal.returns-else-lease_rest-eq1
returns-else-lease_rest-eq1 g c =
    let inside = c.self.inside in
    let lease = c.in-Some-Do-Body.lease in
    let front = rw (c.in-Some-Do-Body.field-0-is, c.in-Some-Do-Body.field-0-0-is) at c.in-Some-Do-Body.ensures in
    let behind = record inside.pushed_texts { ahead = drop 1 inside.pushed_texts.ahead } in
    let whole = with_body-first inside.pushed_texts lease front in
    let passed = TakesFront-passed inside.texts inside.pushed_texts behind lease whole c.self.invariant
    c.lease_front.result.now c.lease_front.ensures.bytes c.lease_front.ensures.some in
    rw c.lease_pass.ensures (passed c.args.self.now c.self.view_is)
