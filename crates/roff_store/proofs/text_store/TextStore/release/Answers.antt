use Rattle.roff_store.proofs.Lending.{ended, lease-inside, lease-kept, lease-lives, lease-shared, lease-strand}
use Rattle.roff_store.proofs.text_store.TextStore.release.Goals as goal

pub at-requires : goal.at-requires
at-requires c = lease-inside c.self.invariant c.self.view_is c.args.id.0 c.requires

pub end-requires : goal.end-requires
end-requires c = lease-lives c.self.invariant c.self.view_is c.args.id.0 c.requires

pub overflow_sub-self : goal.overflow_sub-self
overflow_sub-self c = lease-kept c.self.invariant c.self.view_is c.args.id.0 c.at.ensures c.in-Some.is

pub release-requires-clause-strand : goal.release-requires-clause-strand
release-requires-clause-strand c = lease-strand c.self.invariant c.self.view_is c.args.id.0 c.at.ensures c.in-Some.is

pub release-requires-clause-shared : goal.release-requires-clause-shared
release-requires-clause-shared c = lease-shared c.self.invariant c.self.view_is c.args.id.0 c.at.ensures c.in-Some.is

pub invariant_of-self : goal.invariant_of-self
invariant_of-self c =
    (ended c.self.invariant c.self.view_is c.args.id.0 c.at.ensures c.in-Some.is c.release.ensures.shares c.release.ensures.sum c.release.ensures.same c.end.ensures).sound

pub returns-in-Some : goal.returns-in-Some
returns-in-Some c =
    (ended c.self.invariant c.self.view_is c.args.id.0 c.at.ensures c.in-Some.is c.release.ensures.shares c.release.ensures.sum c.release.ensures.same c.end.ensures).texts
