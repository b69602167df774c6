use Rattle.run_shortcuts.proofs.PassingEnds.{goes_further_passed}
use Rattle.run_turns.proofs.ComingFurther.{comes_none}
use Rattle.run_shortcuts.proofs.arguments.pass_last.Goals as goal

pub returns-in-End : goal.returns-in-End
returns-in-End g c =
    let ends = c.pass_end.ensures in
    goes_further_passed _ _ _ ends.none_due ends.takes ends.passes ends.within ends.unchanged ends.others _ _ _

pub returns-in_default : goal.returns-in_default
returns-in_default g c = comes_none _ _ _ _
