use Rattle.std.proofs.Common.{◌∙◌, sym}
use Rattle.run_events.proofs.EventsLeft.{drop-past}
use Rattle.run_turns.proofs.GoingOn.{not_some}
use Rattle.run_turns.proofs.running.Running.end_of_events.Goals as goal

pub returns-clause-end : goal.returns-clause-end
returns-clause-end c =
    drop-past c.args.self.now.interpreter.reader.meaning.events c.loop-index.index
    (sym c.event.ensures.at ∙ not_some c.event.result (sym c.is_some.ensures ∙ c.loop-index-test.false))
