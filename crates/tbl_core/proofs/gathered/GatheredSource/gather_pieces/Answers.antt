use Rattle.std.proofs.Common.{arith}
use Rattle.tbl_core.proofs.GatheredBytes.{gathers_here, gathers_on}
use Rattle.tbl_core.proofs.gathered.GatheredSource.gather_pieces.Goals as goal

pub loop-init : goal.loop-init
loop-init g c = record { on = gathers_here _; many = omega arith }

pub loop-preserved : goal.loop-preserved
loop-preserved g c = record {
  on = gathers_on _ _ _ c.loop.invariant.on c.gather_piece.ensures.on;
  many = omega (arith, c.loop.invariant.many, c.gather_piece.ensures.some c.if-not-gather_piece.false);
}

pub returns-then-not-gather_piece-clause-on : goal.returns-then-not-gather_piece-clause-on
returns-then-not-gather_piece-clause-on g c = gathers_on _ _ _ c.loop.invariant.on c.gather_piece.ensures.on

pub returns-then-not-gather_piece-clause-many : goal.returns-then-not-gather_piece-clause-many
returns-then-not-gather_piece-clause-many g c = λ giving few.
    c.gather_piece.ensures.none c.if-not-gather_piece.true giving (omega (arith, few))

pub returns-clause-on : goal.returns-clause-on
returns-clause-on g c = c.loop.invariant.on

pub returns-clause-many : goal.returns-clause-many
returns-clause-many g c = λ giving few. absurd (omega (arith, few, c.loop.invariant.many, c.loop-test.false, c.loop.auto.counter-end))
