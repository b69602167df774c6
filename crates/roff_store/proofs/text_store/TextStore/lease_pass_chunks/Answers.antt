use Rattle.std.proofs.Common.{arith}
use Rattle.roff_store.proofs.Lending.{lease-inside, lease-kept, lease-lives, lease-shared, lease-strand, passed, rest-read}
use Rattle.roff_store.proofs.text_store.TextStore.lease_pass_chunks.Goals as goal

pub at-requires : goal.at-requires
at-requires c = lease-inside c.self.invariant c.self.view_is c.args.id.0 c.requires.lives

pub pass-rest-requires-clause-strand : goal.pass-rest-requires-clause-strand
pass-rest-requires-clause-strand c = lease-strand c.self.invariant c.self.view_is c.args.id.0 c.at.ensures c.in-Some.is

pub pass-rest-requires-clause-shared : goal.pass-rest-requires-clause-shared
pass-rest-requires-clause-shared c = lease-shared c.self.invariant c.self.view_is c.args.id.0 c.at.ensures c.in-Some.is

pub pass-rest-requires-clause-within : goal.pass-rest-requires-clause-within
pass-rest-requires-clause-within c = omega (arith, c.requires.within, rest-read c.self.invariant c.self.view_is c.args.id.0 c.at.ensures c.in-Some.is)

pub put-requires : goal.put-requires
put-requires c = lease-lives c.self.invariant c.self.view_is c.args.id.0 c.requires.lives

pub overflow_sub-self : goal.overflow_sub-self
overflow_sub-self c = omega (arith, c.requires.within, rest-read c.self.invariant c.self.view_is c.args.id.0 c.at.ensures c.in-Some.is, lease-kept c.self.invariant c.self.view_is c.args.id.0 c.at.ensures c.in-Some.is)

pub invariant_of-self : goal.invariant_of-self
invariant_of-self c = (passed c.self.invariant c.self.view_is c.args.id.0 c.at.ensures c.in-Some.is c.requires.within c.pass-rest.ensures.strand
    c.pass-rest.ensures.bytes c.pass-rest.ensures.length c.pass-rest.ensures.shares c.pass-rest.ensures.sum c.pass-rest.ensures.same c.put.ensures).sound

pub returns-in-Some : goal.returns-in-Some
returns-in-Some c = (passed c.self.invariant c.self.view_is c.args.id.0 c.at.ensures c.in-Some.is c.requires.within c.pass-rest.ensures.strand
    c.pass-rest.ensures.bytes c.pass-rest.ensures.length c.pass-rest.ensures.shares c.pass-rest.ensures.sum c.pass-rest.ensures.same c.put.ensures).texts
