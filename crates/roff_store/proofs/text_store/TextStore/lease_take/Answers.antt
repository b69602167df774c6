use Rattle.std.proofs.Common.{arith}
use Rattle.roff_store.proofs.Lending.{first-given, lease-inside, rest-read}
use Rattle.roff_store.proofs.text_store.TextStore.lease_take.Goals as goal

pub at-requires : goal.at-requires
at-requires c = lease-inside c.self.invariant c.self.view_is c.args.id.0 c.requires

pub bounds-lease_front-0 : goal.bounds-lease_front-0
bounds-lease_front-0 c =
    c.lease_front.ensures.some (omega (arith, rest-read c.self.invariant c.self.view_is c.args.id.0 c.at.ensures c.in-Some.is, (c.goes_on_inside.ensures.0 c.if-goes_on_inside.true).0))

pub lease_pass-requires-clause-within : goal.lease_pass-requires-clause-within
lease_pass-requires-clause-within c =
    omega (arith, rest-read c.self.invariant c.self.view_is c.args.id.0 c.at.ensures c.in-Some.is, (c.goes_on_inside.ensures.0 c.if-goes_on_inside.true).0)

pub returns-in-Some-clause-byte : goal.returns-in-Some-clause-byte
returns-in-Some-clause-byte c =
    first-given c.lease_front.result.now _ c.lease_front.ensures.bytes
    (c.lease_front.ensures.some (omega (arith, rest-read c.self.invariant c.self.view_is c.args.id.0 c.at.ensures c.in-Some.is, (c.goes_on_inside.ensures.0 c.if-goes_on_inside.true).0)))
