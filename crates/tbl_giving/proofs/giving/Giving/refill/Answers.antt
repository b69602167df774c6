use Rattle.tbl_giving.proofs.giving.Giving.refill.Goals as goal

pub returns-in-Read-clause-can : goal.returns-in-Read-clause-can
returns-in-Read-clause-can c = c.refill_read.ensures.can c.args.rows.now c.args.format.now
