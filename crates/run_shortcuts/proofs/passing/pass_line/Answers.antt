use Rattle.page_bytes.specs.Told.{told_by}
use Rattle.run_shortcuts.proofs.passing.pass_line.Goals as goal

pub returns-in-Some : goal.returns-in-Some
returns-in-Some g c = c.pass_run.ensures (g.O.ByteSink.sunk c.args.out.now) (told_by g.E.MessageSink c.args.err.now)

pub returns-in-None : goal.returns-in-None
returns-in-None g c = c.pass_no_run.ensures (g.O.ByteSink.sunk c.args.out.now) (told_by g.E.MessageSink c.args.err.now)
