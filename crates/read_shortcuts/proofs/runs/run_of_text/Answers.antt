use Rattle.std.proofs.Common.{refl}
use Rattle.read_shortcuts.proofs.runs.run_of_text.Goals as goal

pub returns-then-prints : goal.returns-then-prints
returns-then-prints c = λ half none. record { does = c.prints.ensures.0 c.if-prints.true; half_read = none; none_due = refl }
