use Rattle.std.proofs.Common.{Ok, rules}
use Rattle.read_lines.proofs.LinesTaken.{TakesAs-undropped}
use Rattle.read_steps.proofs.bytes.read_on_line.Goals as goal

pub returns : goal.returns
returns c =
    let done = c.read_plain in
    TakesAs-undropped c.args.byte c.args.composer.now c.args.reader.now done.new.reader c.args.unread.now c.args.unread.now (Ok done.result) (search rules) (done.ensures _ _ c.requires.none_half)
