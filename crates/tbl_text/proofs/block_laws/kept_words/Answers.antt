use Rattle.tbl_text.proofs.KeptWords.{keep_words}
use Rattle.tbl_text.proofs.block_laws.kept_words.Goals as goal

pub returns : goal.returns
returns c = keep_words
