use Rattle.tbl_tall.proofs.CellsCover.{covers}
use Rattle.tbl_tall.proofs.rule_laws.cells_cover.Goals as goal

pub returns : goal.returns
returns c = covers
