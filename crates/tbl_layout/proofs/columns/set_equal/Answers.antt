use Rattle.std.proofs.Common.{◌≡◌, ℕ, List, [], ◌∷◌, refl, sym, ◌∙◌, arith}
use Rattle.tbl_format.specs.declared.format.Asked.{Asked}
use Rattle.tbl_layout.specs.Columns.{with_equal}
use Rattle.tbl_layout.specs.declared.columns.Column.{Column}
use Rattle.tbl_layout.proofs.ColumnsEnd.{all_done}
use Rattle.tbl_layout.proofs.columns.set_equal.Goals as goal

no_column : (width : ℕ) (asked : List Asked) → with_equal width asked [] ≡ []
no_column width [] = refl
no_column width (a ∷ asked) = refl

pub returns : goal.returns
returns c =
    sym (all_done (with_equal c.args.width) (λ (columns : List Column). refl) (no_column c.args.width) c.loop-at.columns c.args.asked.now c.loop-at.at
    (omega (arith, c.min-at-end.ensures, c.loop-at-test.false, c.loop-at.invariant.same)))
    ∙ c.loop-at.invariant.done
