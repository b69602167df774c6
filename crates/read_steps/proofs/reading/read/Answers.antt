use Rattle.std.proofs.Common.{sym}
use Rattle.read_lines.proofs.LinesTaken.{TakesAs-undropped}
use Rattle.read_steps.proofs.reading.read.Goals as goal

pub returns-then-is_read_alone : goal.returns-then-is_read_alone
returns-then-is_read_alone c =
    let done = c.read_alone in
    TakesAs-undropped c.args.byte c.args.composer.now c.args.reader.now done.new.reader c.args.unread.now done.new.unread done.result
    (sym (c.is_read_alone.ensures.kept c.if-is_read_alone.true)) done.ensures
