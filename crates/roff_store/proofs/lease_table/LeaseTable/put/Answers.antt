use Rattle.roff_store.proofs.LeaseTables.{sound-put, the-lease}
use Rattle.roff_store.proofs.lease_table.LeaseTable.put.Goals as goal

pub invariant_of-self : goal.invariant_of-self
invariant_of-self c =
    let was = the-lease c.self.inside c.self.view_is c.args.id c.requires in
    sound-put c.self.invariant c.args.id was.strand was.lives c.args.strand
