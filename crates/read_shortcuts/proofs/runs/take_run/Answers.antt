use Rattle.read_shortcuts.proofs.RunsRead.{reads-none}
use Rattle.read_shortcuts.proofs.runs.take_run.Goals as goal

pub returns-in-Text-clause-past : goal.returns-in-Text-clause-past
returns-in-Text-clause-past g c = reads-none _ c.args.reader.now c.args.unread.now c.stays_within.ensures
