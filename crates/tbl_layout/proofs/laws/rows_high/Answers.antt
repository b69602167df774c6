use Rattle.std.specs.Prelude.{[]}
use Rattle.tbl_layout.proofs.RowsHigh.{each-high}
use Rattle.tbl_layout.proofs.laws.rows_high.Goals as goal

pub returns : goal.returns
returns c = λ is_inside columns elements. each-high is_inside columns [] [] 0 elements
