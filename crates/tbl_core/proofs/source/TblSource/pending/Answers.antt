use Rattle.std.proofs.Common.{◌≤◌, length, subst, sym}
use Rattle.tbl_core.specs.Source.{Sourced}
use Rattle.tbl_core.proofs.source.TblSource.pending.Goals as goal

pub returns-then-self-clause-some : goal.returns-then-self-clause-some
returns-then-self-clause-some g c = λ giving pends.
    c.buffered.ensures.some (subst (λ (s : Sourced g.row.S.Denot). 1 ≤ length s.tables.at.pending) (sym c.self.view_is) pends)
