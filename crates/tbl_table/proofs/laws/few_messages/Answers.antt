use Rattle.tbl_table.proofs.FewNotes.{few_at_cut, few_at_end, few_behind_line, few_closed}
use Rattle.tbl_table.proofs.FewTexts.{cut_behind_line}
use Rattle.tbl_table.proofs.laws.few_messages.Goals as goal

pub returns : goal.returns
returns c = record { behind_line = few_behind_line; cut_behind_line = cut_behind_line; closing = few_closed; at_end = few_at_end; at_cut = few_at_cut }
