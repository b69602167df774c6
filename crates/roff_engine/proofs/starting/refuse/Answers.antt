use Rattle.std.proofs.Common.{inr}
use Rattle.run_items.specs.Outcome.{seen}
use Rattle.roff_engine.proofs.RegistersGiven.{stops_at_start}
use Rattle.page_bytes.specs.Told.{told_by}
use Rattle.roff_engine.proofs.starting.refuse.Goals as goal

pub returns : goal.returns
returns g c = λ given tape h failures out unread quiet stops.
    let now = seen failures out (told_by g.E.MessageSink c.args.err.now) in
    let stopped = stops_at_start c.args.running.now given tape h c.args.limit c.line-line.result now unread quiet stops c.line-line.ensures in
    c.halted.ensures (record { start = given; tape = tape }) tape now failures out (inr stopped)
