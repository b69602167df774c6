use Rattle.read_shortcuts.proofs.BytesTaken.{front_taken, line_taken}
use Rattle.read_shortcuts.proofs.DroppedLines.{begun-line, line-ends, line-plain, reads-ended_line, reads-led}
use Rattle.read_shortcuts.proofs.dropped.drop_line.Goals as goal

pub pass_line-requires-clause-plain : goal.pass_line-requires-clause-plain
pass_line-requires-clause-plain g c =
    line-plain c.args.skipped c.in-Some.count c.front.result.now _ c.args.reader.now c.args.unread.now c.requires c.front.ensures.bytes c.front.ensures.front c.in-Some.ensures

pub pass_line-requires-clause-ended : goal.pass_line-requires-clause-ended
pass_line-requires-clause-ended g c =
    line-ends c.args.skipped c.in-Some.count c.front.result.now _ c.args.reader.now c.args.unread.now c.requires c.front.ensures.bytes c.front.ensures.front c.in-Some.ensures

pub returns-in-Some-clause-past : goal.returns-in-Some-clause-past
returns-in-Some-clause-past g c =
    reads-ended_line c.args.skipped c.in-Some.count c.front.result.now _ c.args.reader.now c.args.unread.now c.requires c.front.ensures.bytes c.front.ensures.front c.in-Some.ensures
    _ _ c.begin_next_line.new.self c.pass_line.new.self c.pass_line.ensures.passes c.begin_next_line.ensures c.stays_within.ensures

pub returns-in-Some-clause-begun : goal.returns-in-Some-clause-begun
returns-in-Some-clause-begun g c = λ so.
    begun-line c.args.skipped c.in-Some.count c.front.result.now _ c.args.reader.now c.args.unread.now c.requires c.front.ensures.bytes c.front.ensures.front c.in-Some.ensures
    _ _ c.begin_next_line.new.self c.pass_line.new.self c.pass_line.ensures.passes c.begin_next_line.ensures

pub returns-in-None-clause-past : goal.returns-in-None-clause-past
returns-in-None-clause-past g c =
    reads-led _ _ c.args.skipped _ c.args.reader.now c.go_on.new.self c.args.unread.now c.take_front.new.unread c.requires c.take_front.ensures.passes c.stays_within-in-None.ensures c.go_on.ensures

pub returns-in-Some-clause-taken : goal.returns-in-Some-clause-taken
returns-in-Some-clause-taken g c = line_taken _ _ _ c.args.unread.now c.pass_line.new.self c.pass_line.ensures.passes

pub returns-in-None-clause-taken : goal.returns-in-None-clause-taken
returns-in-None-clause-taken g c =
    front_taken _ _ c.args.skipped _ c.args.unread.now c.take_front.new.unread c.requires.front c.requires.some c.take_front.ensures.passes
