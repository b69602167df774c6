use Rattle.std.proofs.Common.{arith}
use Rattle.roff_store.proofs.LeaseTables.{room-ended, sound-ended, the-lease}
use Rattle.roff_store.proofs.lease_table.LeaseTable.end.Goals as goal

pub push_reserved-requires : goal.push_reserved-requires
push_reserved-requires c =
    let was = the-lease c.self.inside c.self.view_is c.args.id c.requires in
    omega (arith, room-ended c.self.invariant c.args.id was.strand was.lives, c.self.invariant.ended_reserved)

pub invariant_of-self : goal.invariant_of-self
invariant_of-self c =
    let was = the-lease c.self.inside c.self.view_is c.args.id c.requires in
    sound-ended c.self.invariant c.args.id was.strand was.lives c.push_reserved.new.self c.push_reserved.ensures.items
    c.push_reserved.ensures.len c.push_reserved.ensures.capacity
