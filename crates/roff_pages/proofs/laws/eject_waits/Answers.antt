use Rattle.roff_pages.proofs.WholePages.{waits}
use Rattle.roff_pages.proofs.laws.eject_waits.Goals as goal

pub returns : goal.returns
returns c x L h = waits x L h
