use Rattle.std.proofs.Common.{drop, arith, [], ◌∷◌, slice_index_or}
use Rattle.input_ahead.proofs.BodyTaken.{with_body-first, IsSound-passed, given-byte, taken-passed}
use Rattle.input_ahead.proofs.input_ahead.InputAhead.take_ready.Goals as goal

pub invariant_of-self-in-Some-Do-Body : goal.invariant_of-self-in-Some-Do-Body
invariant_of-self-in-Some-Do-Body g c =
    let inside = c.self.inside in
    let lease = c.in-Some-Do-Body.lease in
    let given = c.lease_front.result.now in
    let front = rw (c.in-Some-Do-Body.field-0-is, c.in-Some-Do-Body.field-0-0-is) at c.in-Some-Do-Body.ensures in
    let behind = record inside.pushed_texts { ahead = drop 1 inside.pushed_texts.ahead } in
    let whole = with_body-first inside.pushed_texts lease front in
    let byte = given-byte inside.texts inside.pushed_texts behind lease whole c.self.invariant given c.lease_front.ensures.bytes c.lease_front.ensures.some in
    rw c.lease_pass.ensures (IsSound-passed inside.texts inside.pushed_texts behind lease whole c.self.invariant 1 (slice_index_or given 0 0 ∷ []) byte
    (omega (arith, c.lease_rest.ensures, c.if-lease_rest-lt2.false)))

pub returns-else-lease_rest-lt2-clause-taken : goal.returns-else-lease_rest-lt2-clause-taken
returns-else-lease_rest-lt2-clause-taken g c =
    let inside = c.self.inside in
    let lease = c.in-Some-Do-Body.lease in
    let given = c.lease_front.result.now in
    let front = rw (c.in-Some-Do-Body.field-0-is, c.in-Some-Do-Body.field-0-0-is) at c.in-Some-Do-Body.ensures in
    let behind = record inside.pushed_texts { ahead = drop 1 inside.pushed_texts.ahead } in
    let whole = with_body-first inside.pushed_texts lease front in
    let byte = given-byte inside.texts inside.pushed_texts behind lease whole c.self.invariant given c.lease_front.ensures.bytes c.lease_front.ensures.some in
    rw c.lease_pass.ensures
    (taken-passed inside.texts inside.pushed_texts behind lease whole c.self.invariant 1 (slice_index_or given 0 0 ∷ []) byte c.args.self.now c.self.view_is)
