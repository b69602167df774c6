use Rattle.std.proofs.Common.{arith}
use Rattle.input_ahead.specs.PushedTexts.Standing.{item_of}
use Rattle.input_ahead.proofs.BodyTaken.{with_body-taken, IsSound-released, taken-released}
use Rattle.input_ahead.proofs.input_ahead.InputAhead.pass_last_newline.Goals as goal

pub invariant_of-self : goal.invariant_of-self
invariant_of-self g c =
    let inside = c.self.inside in
    let lease = c.in-Some-Do-Body.lease in
    let front = rw (c.in-Some-Do-Body.field-0-is, c.in-Some-Do-Body.field-0-0-is) at c.in-Some-Do-Body.ensures in
    let left = c.take in
    let whole = with_body-taken inside.pushed_texts left.new.self lease (item_of left.result) front left.ensures in
    rw c.release.ensures (IsSound-released inside.texts inside.pushed_texts left.new.self lease whole c.self.invariant
    c.lease_front.result.now c.lease_front.ensures.bytes c.lease_front.ensures.some
    (omega (arith, c.lease_rest.ensures, c.if-lease_rest-ne1.false)))

pub returns-else-lease_front-ne10-clause-taken : goal.returns-else-lease_front-ne10-clause-taken
returns-else-lease_front-ne10-clause-taken g c =
    let inside = c.self.inside in
    let lease = c.in-Some-Do-Body.lease in
    let front = rw (c.in-Some-Do-Body.field-0-is, c.in-Some-Do-Body.field-0-0-is) at c.in-Some-Do-Body.ensures in
    let left = c.take in
    let whole = with_body-taken inside.pushed_texts left.new.self lease (item_of left.result) front left.ensures in
    let taken = taken-released inside.texts inside.pushed_texts left.new.self lease whole c.self.invariant
    c.lease_front.result.now c.lease_front.ensures.bytes c.lease_front.ensures.some
    (omega (arith, c.lease_rest.ensures, c.if-lease_rest-ne1.false)) c.args.self.now c.self.view_is in
    λ did. rw c.release.ensures (rw c.if-lease_front-ne10.false at taken)
