use Rattle.tbl_text.proofs.ItemLaws.{items-joined, items-some}
use Rattle.tbl_text.proofs.laws.joined.Goals as goal

pub returns : goal.returns
returns c = record { whole = items-joined; some = items-some }
