use Rattle.input_escapes.proofs.ConditionFronts.{TakesFront-ended, TakesFront-more, TakesFront-none, front-room}
use Rattle.input_escapes.proofs.open_escapes.OpenEscapes.take_front.Goals as goal

pub loop-count-init : goal.loop-count-init
loop-count-init c = TakesFront-none c.args.bytes.now c.args.self.now

pub take_on-requires : goal.take_on-requires
take_on-requires c = front-room c.args.bytes.now c.loop-count.count c.args.self.now _ c.loop-count.invariant c.loop-count-test.true c.requires

pub returns-then-not-take_on : goal.returns-then-not-take_on
returns-then-not-take_on c =
    TakesFront-ended c.args.bytes.now c.loop-count.count _ c.args.self.now _ _ _ c.loop-count.invariant c.if-not-take_on.true c.take_on.ensures

pub loop-count-preserved : goal.loop-count-preserved
loop-count-preserved c =
    TakesFront-more c.args.bytes.now c.loop-count.count c.args.self.now _ _ _ c.loop-count.invariant c.loop-count-test.true c.if-not-take_on.false c.take_on.ensures
