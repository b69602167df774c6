use Rattle.tbl_kept.proofs.held_columns.filled.Goals as goal

pub fill-requires-2-clause-within : goal.fill-requires-2-clause-within
fill-requires-2-clause-within c = c.first.ensures.within _
