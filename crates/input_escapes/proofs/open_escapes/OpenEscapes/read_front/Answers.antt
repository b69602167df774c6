use Rattle.input_escapes.proofs.EscapeFronts.{ReadsFront-more, ReadsFront-none}
use Rattle.input_escapes.proofs.open_escapes.OpenEscapes.read_front.Goals as goal

pub loop-count-init : goal.loop-count-init
loop-count-init c = ReadsFront-none c.args.bytes.now c.args.self.now

pub loop-count-preserved : goal.loop-count-preserved
loop-count-preserved c =
    ReadsFront-more c.args.bytes.now c.loop-count.count c.args.self.now _ _ c.loop-count.invariant c.loop-count-test.true
    (rw c.if-not-read_on.false at c.read_on.ensures)
