use Rattle.tbl_layout.proofs.EntriesFit.{entries-fit}
use Rattle.tbl_layout.proofs.laws.entries_fit.Goals as goal

pub returns : goal.returns
returns c = entries-fit
