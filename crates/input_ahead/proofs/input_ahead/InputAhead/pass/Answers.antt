use Rattle.std.proofs.Common.{◌≤◌, drop, length, take, arith, sym, length-take-le, take-append-drop}
use Rattle.input_ahead.specs.InputAhead.Kept.{kept_by}
use Rattle.input_ahead.proofs.Bodies.{rest_is}
use Rattle.input_ahead.proofs.BodyTaken.{with_body-first, IsSound-passed, taken-passed}
use Rattle.input_ahead.proofs.Leading.{drop-taken}
use Rattle.input_ahead.proofs.input_ahead.InputAhead.pass.Goals as goal
use Rattle.roff_store.specs.TextCalls.{Take, after}
use Rattle.roff_store.specs.Texts.{lease_bytes, lease_of}

pub invariant_of-self : goal.invariant_of-self
invariant_of-self g c =
    let inside = c.self.inside in
    let lease = c.in-Some.lease in
    let count = c.args.count in
    let bytes = lease_bytes (lease_of lease.0 inside.texts) in
    let behind = record inside.pushed_texts { ahead = drop 1 inside.pushed_texts.ahead } in
    let whole = with_body-first inside.pushed_texts lease c.in-Some.ensures in
    rw c.lease_pass.ensures (IsSound-passed inside.texts inside.pushed_texts behind lease whole c.self.invariant count (take count bytes)
    (sym (take-append-drop count bytes)) (omega (arith, c.lease_rest.ensures, c.if-count-lease_rest.true)))

pub returns : goal.returns
returns g c =
    let inside = c.self.inside in
    let lease = c.in-Some.lease in
    let count = c.args.count in
    let bytes = lease_bytes (lease_of lease.0 inside.texts) in
    let behind = record inside.pushed_texts { ahead = drop 1 inside.pushed_texts.ahead } in
    let whole = with_body-first inside.pushed_texts lease c.in-Some.ensures in
    let few : count ≤ length bytes = omega (arith, c.lease_rest.ensures, c.if-count-lease_rest.true, rest_is (lease_of lease.0 inside.texts)) in
    rw c.lease_pass.ensures (drop-taken c.args.self.now (kept_by (record inside { texts = after (Take lease.0 count) inside.texts })) (take count bytes) count (length-take-le count bytes few)
    (taken-passed inside.texts inside.pushed_texts behind lease whole c.self.invariant count (take count bytes) (sym (take-append-drop count bytes))
    c.args.self.now c.self.view_is))
