use Rattle.std.proofs.Common.{arith}
use Rattle.roff_store.proofs.Lending.{lease-inside, lease-kept, lease-lives, lease-shared, lease-strand, passed, rest-read}
use Rattle.roff_store.proofs.Sharing.{AreSameChunks-refl}
use Rattle.roff_store.proofs.text_store.TextStore.lease_pass.Goals as goal

pub at-requires : goal.at-requires
at-requires c = lease-inside c.self.invariant c.self.view_is c.args.id.0 c.requires.lives

pub pass_inside-rest-requires-clause-strand : goal.pass_inside-rest-requires-clause-strand
pass_inside-rest-requires-clause-strand c = lease-strand c.self.invariant c.self.view_is c.args.id.0 c.at.ensures c.in-Some.is

pub pass_inside-rest-requires-clause-shared : goal.pass_inside-rest-requires-clause-shared
pass_inside-rest-requires-clause-shared c = lease-shared c.self.invariant c.self.view_is c.args.id.0 c.at.ensures c.in-Some.is

pub put-requires : goal.put-requires
put-requires c = lease-lives c.self.invariant c.self.view_is c.args.id.0 c.requires.lives

pub overflow_sub-self : goal.overflow_sub-self
overflow_sub-self c = omega (arith, c.requires.within, rest-read c.self.invariant c.self.view_is c.args.id.0 c.at.ensures c.in-Some.is, lease-kept c.self.invariant c.self.view_is c.args.id.0 c.at.ensures c.in-Some.is)

pub invariant_of-self : goal.invariant_of-self
invariant_of-self c = (passed c.self.invariant c.self.view_is c.args.id.0 c.at.ensures c.in-Some.is c.requires.within c.pass_inside-rest.ensures.strand
    c.pass_inside-rest.ensures.bytes c.pass_inside-rest.ensures.length c.pass_inside-rest.ensures.shares (omega (arith, c.pass_inside-rest.ensures.chunks)) (AreSameChunks-refl c.self.inside.chunks) c.put.ensures).sound

pub returns-in-Some : goal.returns-in-Some
returns-in-Some c = (passed c.self.invariant c.self.view_is c.args.id.0 c.at.ensures c.in-Some.is c.requires.within c.pass_inside-rest.ensures.strand
    c.pass_inside-rest.ensures.bytes c.pass_inside-rest.ensures.length c.pass_inside-rest.ensures.shares (omega (arith, c.pass_inside-rest.ensures.chunks)) (AreSameChunks-refl c.self.inside.chunks) c.put.ensures).texts
