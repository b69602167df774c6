use Rattle.std.proofs.Common.{inr}
use Rattle.run_events.proofs.formatter.text_events.place_line.Goals as goal

pub returns-then-is_diverting : goal.returns-then-is_diverting
returns-then-is_diverting g c = inr (c.divert_line.ensures _)
