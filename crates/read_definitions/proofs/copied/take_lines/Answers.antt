use Rattle.read_shortcuts.proofs.RunsRead.{reads-none}
use Rattle.read_definitions.proofs.copied.take_lines.Goals as goal

pub returns-in-None-clause-past : goal.returns-in-None-clause-past
returns-in-None-clause-past g c = reads-none _ c.args.reader.now c.args.unread.now c.stays_within.ensures
