use Rattle.std.proofs.Common.{List, ◌++◌, ℕ, replicate, sym, ap, subst, ◌∙◌, None, Option}
use Rattle.tbl_lines.specs.LinesLeft.{overs}
use Rattle.tbl_tall.specs.Bands.{GoThrough}
use Rattle.tbl_tall.proofs.CellsThrough.{none-through}
use Rattle.tbl_tall.proofs.band.Band.end_nothing.Goals as goal

pub returns-clause-through : goal.returns-clause-through
returns-clause-through c = λ cells all down.
    subst (λ (xs : List (Option ℕ)). GoThrough xs (overs 0 cells all))
    (sym (c.push_owner.ensures.items ∙ ap (λ (zs : List (Option ℕ)). zs ++ replicate c.args.columns None) c.clear-2.ensures.items))
    (none-through c.args.columns cells all down)
