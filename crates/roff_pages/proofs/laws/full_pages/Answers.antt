use Rattle.roff_pages.proofs.WholePages.{all_full}
use Rattle.roff_pages.proofs.laws.full_pages.Goals as goal

pub returns : goal.returns
returns c xs L before all = all_full xs L before all
