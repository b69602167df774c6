use Rattle.std.proofs.Common.{sym, subst, arith}
use Rattle.tbl_kept.specs.Rows.{KeptRows}
use Rattle.tbl_kept.specs.RowsLaying.{HasFewRules, element_at}
use Rattle.tbl_kept.proofs.RowPlaces.{kept-there}
use Rattle.tbl_kept.proofs.rows.TableRows.rules_stay_few.Goals as goal

pub returns-in-Row : goal.returns-in-Row
returns-in-Row c =
    let is = kept-there c.self.inside (rw (← c.self.view_is) at c.requires) c.index.ensures c.in-Row.is in
    subst (λ (k : KeptRows). HasFewRules (element_at k.elements c.args.at)) c.self.view_is
    (subst HasFewRules (sym is) c.stays_few.ensures)
