use Rattle.std.proofs.Common.{arith}
use Rattle.roff_store.proofs.Opening.{dropped, open-inside, open-text, text-held, used-text}
use Rattle.roff_store.proofs.Pool.{held-shared}
use Rattle.roff_store.proofs.text_store.TextStore.drop_open.Goals as goal

pub remove-text-requires : goal.remove-text-requires
remove-text-requires c = let inside = open-inside c.self.invariant c.self.view_is c.args.id.0 c.requires in omega (arith, inside, c.self.inside.open.ok.0)

pub overflow_sub-self : goal.overflow_sub-self
overflow_sub-self c =
    let all = used-text c.self.invariant c.self.view_is c.args.id.0 c.requires c.remove-text.ensures.value in omega (arith, all)

pub release-requires-clause-strand : goal.release-requires-clause-strand
release-requires-clause-strand c =
    (open-text c.self.invariant c.self.view_is c.args.id.0 c.requires c.remove-text.ensures.value).strand

pub release-requires-clause-shared : goal.release-requires-clause-shared
release-requires-clause-shared c =
    held-shared (text-held c.self.invariant c.self.view_is c.args.id.0 c.requires c.remove-text.ensures.value)

pub invariant_of-self : goal.invariant_of-self
invariant_of-self c =
    (dropped c.self.invariant c.self.view_is c.args.id.0 c.requires c.remove-text.ensures.value {opens = c.remove-text.new.self}
    c.remove-text.ensures.items
    c.remove-text.ensures.len c.remove-text.ensures.capacity c.release.ensures.shares c.release.ensures.sum c.release.ensures.same).sound

pub returns : goal.returns
returns c =
    (dropped c.self.invariant c.self.view_is c.args.id.0 c.requires c.remove-text.ensures.value {opens = c.remove-text.new.self}
    c.remove-text.ensures.items
    c.remove-text.ensures.len c.remove-text.ensures.capacity c.release.ensures.shares c.release.ensures.sum c.release.ensures.same).texts
