use Rattle.std.proofs.Common.{List, sym, ap, arith}
use Rattle.tbl_layout.specs.declared.columns.Column.{Column}
use Rattle.tbl_line_cells.specs.RulesDrawn.{end_at}
use Rattle.tbl_line_cells.proofs.ColumnsAt.{drop-last}
use Rattle.tbl_line_cells.proofs.rule_places.rule_end.Goals as goal

no_column : Column
no_column = record { needs = record { alone = 0; strip = 0; left = 0; right = 0; split = 0 }; bars = 0; width = 0; start = 0 }

pub returns-then-at-columns-clause-value : goal.returns-then-at-columns-clause-value
returns-then-at-columns-clause-value c =
    ap (λ (cs : List Column). end_at c.args.to cs) (sym (drop-last c.args.columns.now c.args.at no_column (omega (arith, c.if-at-columns.true))))
