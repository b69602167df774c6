use Rattle.std.proofs.Common.{false}
use Rattle.run_turns.proofs.ComingFurther.{comes_both, comes_further}
use Rattle.run_shortcuts.proofs.fronts.hold_named.Goals as goal

pub returns-clause-further : goal.returns-clause-further
returns-clause-further g c = λ out err. comes_both false (comes_further (c.hold_text.ensures.further out err)) (c.put_string.ensures.further out err)
