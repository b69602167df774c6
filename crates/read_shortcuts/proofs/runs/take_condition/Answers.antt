use Rattle.read_shortcuts.proofs.RunsRead.{reads-none}
use Rattle.read_shortcuts.proofs.runs.take_condition.Goals as goal

pub returns-then-decides_now-clause-past : goal.returns-then-decides_now-clause-past
returns-then-decides_now-clause-past g c = reads-none _ c.args.reader.now c.args.unread.now c.stays_within.ensures
