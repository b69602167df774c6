use Rattle.roff_store.proofs.CountedTexts.{entry-after}
use Rattle.roff_store.proofs.text_laws.finite_map.Goals as goal

pub returns : goal.returns
returns c = entry-after
