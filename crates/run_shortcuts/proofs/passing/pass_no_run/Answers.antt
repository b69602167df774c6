use Rattle.run_shortcuts.proofs.PassingEnds.{goes_further_passed}
use Rattle.run_shortcuts.proofs.passing.pass_no_run.Goals as goal

pub returns-else-begins_apart : goal.returns-else-begins_apart
returns-else-begins_apart g c = λ out err.
    let ends = c.pass_end.ensures in
    goes_further_passed _ _ _ ends.none_due ends.takes ends.passes ends.within ends.unchanged ends.others _ _ _
