use Rattle.std.proofs.Common.{arith}
use Rattle.input_ahead.proofs.GivenFronts.{GivesFront-more, GivesFront-none, room-behind}
use Rattle.input_ahead.proofs.input_ahead.InputAhead.give_front.Goals as goal

pub loop-count-init : goal.loop-count-init
loop-count-init g c = record { gives = GivesFront-none c.args.self.now c.args.escapes.now; few = omega arith }

pub give_byte-requires : goal.give_byte-requires
give_byte-requires g c =
    room-behind c.args.self.now c.loop-count.self c.loop-count.self c.args.escapes.now c.loop-count.escapes c.loop-count.escapes c.loop-count.count c.loop-count.invariant.gives c.requires

pub loop-count-preserved : goal.loop-count-preserved
loop-count-preserved g c = record {
  gives =
      GivesFront-more c.args.self.now c.loop-count.self c.give_byte.new.self c.args.escapes.now c.loop-count.escapes c.give_byte.new.escapes c.loop-count.count c.loop-count.invariant.gives
      c.give_byte.result c.if-not-give_byte.false c.give_byte.ensures;
  few = omega (arith, c.loop-count-test.true);
}
