use Rattle.read_shortcuts.proofs.LinesRead.{bare-line, front_plain, named-leads, three}
use Rattle.read_shortcuts.proofs.control.read_ended.Goals as goal

pub pass_line-requires-clause-plain : goal.pass_line-requires-clause-plain
pass_line-requires-clause-plain g c = front_plain c.args.front c.args.reading c.args.reader.now.reading (g.S.ByteSource.ready c.args.source.now) c.args.unread.now c.requires.named

pub pass_line-requires-clause-ended : goal.pass_line-requires-clause-ended
pass_line-requires-clause-ended g c = c.requires.named.ends c.requires.ends

pub returns-clause-line : goal.returns-clause-line
returns-clause-line g c =
    bare-line _ _ c.args.reader.now c.go_on.new.self c.args.reading (three c.args.front) (g.S.ByteSource.ready c.args.source.now) c.args.unread.now c.pass_line.new.self
    (named-leads c.args.front c.args.reading c.args.reader.now.reading (g.S.ByteSource.ready c.args.source.now) c.args.unread.now c.requires.named c.requires.holds) c.stays_within.ensures
    c.pass_line.ensures.passes c.go_on.ensures
