use Rattle.std.proofs.Common.{◌<◌, ◌≤◌, arith}
use Rattle.tbl_giving.proofs.CutsInFront.{no-sign, some-sign}
use Rattle.tbl_giving.proofs.cuts.sign_in_front.Goals as goal
use Rattle.tbl_tall.specs.Bands.{wholes_left}

pub returns-then-wholes_left-gt0 : goal.returns-then-wholes_left-gt0
returns-then-wholes_left-gt0 c =
    let some : 0 < wholes_left c.args.tall.now.band = omega (arith, c.if-wholes_left-gt0.true, c.wholes_left.ensures) in
    some-sign (wholes_left c.args.tall.now.band) some

pub returns : goal.returns
returns c =
    let none : wholes_left c.args.tall.now.band ≤ 0 = omega (arith, c.if-wholes_left-gt0.false, c.wholes_left.ensures) in
    no-sign (wholes_left c.args.tall.now.band) none
