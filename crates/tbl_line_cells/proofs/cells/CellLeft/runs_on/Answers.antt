use Rattle.std.proofs.Common.{◌≡◌, Bool, ◌==◌, ◌&&◌, ℕ, true, false, ap, sym, ◌∙◌}
use Rattle.tbl_format.specs.declared.format.FormatKey.{FormatKey}
use Rattle.tbl_layout.specs.Columns.{passes}
use Rattle.tbl_layout.specs.declared.columns.Stands.{Stands}
use Rattle.tbl_line_cells.proofs.LaidShown.{runs-kept}
use Rattle.tbl_line_cells.proofs.cells.CellLeft.runs_on.Goals as goal

pub returns-then-self-eq0 : goal.returns-then-self-eq0
returns-then-self-eq0 c = λ bytes l is.
    c.passes.ensures ∙ ap (passes c.args.column c.args.self.key.key) c.stands.ensures
    ∙ runs-kept bytes c.args.self l c.args.column is c.if-self-eq0.true.0 c.if-self-eq0.true.1
