use Rattle.std.proofs.Common.{sym, ◌∙◌, length-take-le}
use Rattle.input_arguments.proofs.HeldBytes.{TakesFront-more, room-more}
use Rattle.input_arguments.proofs.arguments.ArgumentTexts.take_front.Goals as goal

pub take_byte-requires : goal.take_byte-requires
take_byte-requires c =
    room-more c.args.most c.args.bytes.now c.loop-count.count c.args.self.now _ _ c.loop-count.invariant c.loop-count-test.true c.requires
    (length-take-le c.loop-count.count c.args.bytes.now c.loop-count.invariant.few)

pub loop-count-preserved : goal.loop-count-preserved
loop-count-preserved c =
    TakesFront-more c.args.most c.args.bytes.now c.loop-count.count c.args.self.now _ _ c.loop-count.invariant c.loop-count-test.true
    (sym c.is_argument_byte.ensures ∙ c.if-not-is_argument_byte.false) (c.are_fewer.ensures.fewer c.if-not-are_fewer.false) c.take_byte.ensures
