use Rattle.std.proofs.Common.{rules}
use Rattle.run_events.proofs.formatter.Formatter.begin_page.Goals as goal

pub returns : goal.returns
returns c = record { begins = c.begin.ensures.happens; springs = c.begin.ensures.springs; others = search rules }
