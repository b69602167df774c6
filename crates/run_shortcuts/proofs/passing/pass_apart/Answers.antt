use Rattle.std.proofs.Common.{false}
use Rattle.run_shortcuts.proofs.PassingEnds.{goes_further_passed}
use Rattle.run_turns.proofs.ComingFurther.{comes_both, comes_further}
use Rattle.run_shortcuts.proofs.passing.pass_apart.Goals as goal

pub returns : goal.returns
returns g c = λ out err.
    let ends = c.pass_end.ensures in
    comes_both false (comes_further (c.take_lines.ensures.past out err))
    (comes_both false (c.take_string_name.ensures out err)
    (comes_both false (c.take_string_front.ensures out err)
    (comes_both false (c.take_title_front.ensures out err)
    (goes_further_passed _ _ _ ends.none_due ends.takes ends.passes ends.within ends.unchanged ends.others _ _ _))))
