use Rattle.roff_store.proofs.CountedTexts.{IsCounted-after_all}
use Rattle.roff_store.proofs.text_laws.counted.Goals as goal

pub returns : goal.returns
returns c = IsCounted-after_all
