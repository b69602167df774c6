use Rattle.tbl_table.proofs.NotesStaying.{notes_stay}
use Rattle.tbl_table.proofs.laws.stable.Goals as goal

pub returns : goal.returns
returns c = notes_stay
