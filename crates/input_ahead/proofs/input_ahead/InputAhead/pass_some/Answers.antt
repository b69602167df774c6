use Rattle.std.proofs.Common.{◌≡◌, ◌≤◌, drop, length, take, arith, sym, length-take-le, take-append-drop}
use Rattle.input_ahead.specs.InputAhead.Kept.{kept_by}
use Rattle.input_ahead.proofs.Bodies.{rest_is}
use Rattle.input_ahead.proofs.BodyTaken.{IsSound-gone, IsSound-passed, taken-gone, taken-passed, with_body-first, with_body-taken}
use Rattle.input_ahead.specs.PushedTexts.Standing.{item_of}
use Rattle.input_ahead.proofs.Leading.{drop-first, drop-taken, some-ahead}
use Rattle.input_ahead.proofs.input_ahead.InputAhead.pass_some.Goals as goal
use Rattle.roff_store.specs.TextCalls.{Release, Take, after}
use Rattle.roff_store.specs.Texts.{lease_bytes, lease_of}

pub invariant_of-self : goal.invariant_of-self
invariant_of-self g c =
    let inside = c.self.inside in
    let lease = c.in-Some.lease in
    let count = c.args.most in
    let bytes = lease_bytes (lease_of lease.0 inside.texts) in
    let behind = record inside.pushed_texts { ahead = drop 1 inside.pushed_texts.ahead } in
    let whole = with_body-first inside.pushed_texts lease c.in-Some.ensures in
    rw c.lease_pass.ensures (IsSound-passed inside.texts inside.pushed_texts behind lease whole c.self.invariant count (take count bytes)
    (sym (take-append-drop count bytes)) (omega (arith, c.lease_rest-rest.ensures, c.if-most-rest.true)))

pub returns-then-most-rest-clause-taken : goal.returns-then-most-rest-clause-taken
returns-then-most-rest-clause-taken g c =
    let inside = c.self.inside in
    let lease = c.in-Some.lease in
    let count = c.args.most in
    let bytes = lease_bytes (lease_of lease.0 inside.texts) in
    let behind = record inside.pushed_texts { ahead = drop 1 inside.pushed_texts.ahead } in
    let whole = with_body-first inside.pushed_texts lease c.in-Some.ensures in
    let few : count ≤ length bytes = omega (arith, c.lease_rest-rest.ensures, c.if-most-rest.true, rest_is (lease_of lease.0 inside.texts)) in
    rw c.lease_pass.ensures (drop-taken c.args.self.now (kept_by (record inside { texts = after (Take lease.0 count) inside.texts })) (take count bytes) count (length-take-le count bytes few)
    (taken-passed inside.texts inside.pushed_texts behind lease whole c.self.invariant count (take count bytes) (sym (take-append-drop count bytes))
    c.args.self.now c.self.view_is))

pub invariant_of-self-in-Some : goal.invariant_of-self-in-Some
invariant_of-self-in-Some g c =
    let inside = c.self.inside in
    let lease = c.in-Some.lease in
    let left = c.take_known in
    let whole = with_body-taken inside.pushed_texts left.new.self lease (item_of left.result) c.in-Some.ensures left.ensures in
    rw c.release.ensures (IsSound-gone inside.texts inside.pushed_texts left.new.self lease whole c.self.invariant)

pub returns-in-Some-clause-taken : goal.returns-in-Some-clause-taken
returns-in-Some-clause-taken g c =
    let inside = c.self.inside in
    let lease = c.in-Some.lease in
    let left = c.take_known in
    let texts = after (Release lease.0) inside.texts in
    let bytes = lease_bytes (lease_of lease.0 inside.texts) in
    let whole = with_body-taken inside.pushed_texts left.new.self lease (item_of left.result) c.in-Some.ensures left.ensures in
    let rest : length bytes ≡ c.lease_rest-rest.result = omega (arith, c.lease_rest-rest.ensures, rest_is (lease_of lease.0 inside.texts)) in
    rw c.release.ensures (drop-taken c.args.self.now (kept_by (record inside { pushed_texts = left.new.self; texts = texts })) bytes c.lease_rest-rest.result rest
    (taken-gone inside.texts inside.pushed_texts left.new.self lease whole c.self.invariant c.args.self.now c.self.view_is))

pub take-requires : goal.take-requires
take-requires g c = some-ahead c.args.most c.args.self.now.ahead c.requires.some c.requires.among

pub returns-clause-taken : goal.returns-clause-taken
returns-clause-taken g c = drop-first c.args.self.now c.take.new.self c.take.ensures.front c.take.ensures.taken
