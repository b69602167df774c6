use Rattle.std.proofs.Common.{◌<◌, length, sym, subst}
use Rattle.roff_store.specs.Leases.{Leases, living}
use Rattle.roff_store.proofs.LeaseTables.{sound-again, sound-behind}
use Rattle.roff_store.proofs.lease_table.LeaseTable.begin.Goals as goal

pub invariant_of-self : goal.invariant_of-self
invariant_of-self c =
    sound-again c.self.invariant c.in-Some.id c.pop.new.self c.in-Some.ensures.items c.in-Some.ensures.len c.in-Some.ensures.capacity
    c.args.strand

pub invariant_of-self-in-None : goal.invariant_of-self-in-None
invariant_of-self-in-None c =
    sound-behind c.self.invariant c.in-None.ensures.cases.0 c.pop.new.self c.in-None.ensures.cases.1 c.in-None.ensures.capacity
    c.push_reserved.new.self c.args.strand c.push_reserved.ensures.items c.push_reserved.ensures.len c.push_reserved.ensures.capacity
    (subst (λ (x : Leases). length (living x.items) < x.cap) (sym c.self.view_is) c.requires)
