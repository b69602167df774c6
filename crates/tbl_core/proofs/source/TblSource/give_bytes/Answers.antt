use Rattle.tbl_core.proofs.Given.{sourced_given}
use Rattle.tbl_core.proofs.source.TblSource.give_bytes.Goals as goal

pub invariant_of-self : goal.invariant_of-self
invariant_of-self g c =
    sourced_given _ c.self.inside.tables c.give_bytes.new.self c.self.inside.idle c.self.inside.giving c.args.count c.give_bytes.ensures
    c.self.invariant
