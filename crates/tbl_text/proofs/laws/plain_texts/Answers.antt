use Rattle.tbl_text.proofs.ItemLaws.{items-all_plain, items-plain}
use Rattle.tbl_text.proofs.laws.plain_texts.Goals as goal

pub returns : goal.returns
returns c = record { whole = items-all_plain; front = items-plain }
