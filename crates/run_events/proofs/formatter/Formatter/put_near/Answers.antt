use Rattle.std.proofs.Common.{ap}
use Rattle.roff_lines.specs.declared.env.Env.{Env}
use Rattle.run_events.proofs.DoneEvents.{with_lines}
use Rattle.run_events.proofs.Unfilled.{puts_near}
use Rattle.run_events.proofs.formatter.Formatter.put_near.Goals as goal

pub returns : goal.returns
returns g c =
    let line = c.put_line-line in
    puts_near c.args.near.now c.args.count c.args.gaps c.args.self.now c.requires _ _ _ c.place_line.result _ line.ensures.line
    (ap (λ (lines : Env). (with_lines c.args.self.now.composer lines).environments) line.follows.holds-at-none) c.place_line.ensures
