use Rattle.read_shortcuts.proofs.TakenRuns.{reads-a_run}
use Rattle.read_shortcuts.proofs.runs.take_staying.Goals as goal

pub returns-clause-past : goal.returns-clause-past
returns-clause-past g c =
    reads-a_run c.args.kind _ _ _ _ c.args.reader.now c.args.unread.now _ c.take_run.ensures.takes c.requires.run c.requires.stays c.stays_within.ensures
