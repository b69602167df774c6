use Rattle.std.proofs.Common.{◌+◌, [], ◌∷◌}
use Rattle.page_model.specs.Layout.{Lined}
use Rattle.page_model.specs.Happenings.{Places}
use Rattle.page_model.specs.Stops.{target}
use Rattle.page_model.specs.Columns.{printed}
use Rattle.page_model.specs.Puts.{within_stop}
use Rattle.roff_pages.proofs.WholePages.{texts-blank}
use Rattle.roff_pages.proofs.laws.as_diverted.Goals as goal

pub returns-clause-line : goal.returns-clause-line
returns-clause-line c line L =
    let t = target (Places line) L in
    texts-blank (within_stop (t.place + 1) t.stop line.after) (Lined (printed line) ∷ [])
