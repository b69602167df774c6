use Rattle.roff_pages.proofs.WholePages.{page_text}
use Rattle.roff_pages.proofs.laws.page_texts.Goals as goal

pub returns : goal.returns
returns c xs L listed all = page_text xs L listed all
