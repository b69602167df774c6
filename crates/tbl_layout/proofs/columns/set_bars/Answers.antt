use Rattle.std.proofs.Common.{◌≡◌, List, [], ◌∷◌, refl, sym, ◌∙◌, arith}
use Rattle.tbl_format.specs.declared.format.Asked.{Asked}
use Rattle.tbl_layout.specs.Columns.{with_bars}
use Rattle.tbl_layout.specs.declared.columns.Column.{Column}
use Rattle.tbl_layout.proofs.ColumnsEnd.{all_done}
use Rattle.tbl_layout.proofs.columns.set_bars.Goals as goal

no_column : (asked : List Asked) → with_bars asked [] ≡ []
no_column [] = refl
no_column (a ∷ asked) = refl

pub returns : goal.returns
returns c =
    sym (all_done with_bars (λ (columns : List Column). refl) no_column c.loop-at.columns c.args.asked.now c.loop-at.at
    (omega (arith, c.min-at-end.ensures, c.loop-at-test.false, c.loop-at.invariant.same)))
    ∙ c.loop-at.invariant.done
