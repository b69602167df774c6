use Rattle.std.proofs.Common.{◌≤◌, ℕ, List, length, arith}
use Rattle.test_pages.proofs.PartWidths.{part_width_le}
use Rattle.test_pages.proofs.titles.is_fit.Goals as goal

pub returns-clause-width : goal.returns-clause-width
returns-clause-width c fit =
    let t = c.args.title in
    let number : List ℕ = t.number.now in
    let few : length number ≤ 100 = omega arith in
    omega (arith, part_width_le number t.left.now few, part_width_le number t.centre.now few, part_width_le number t.right.now few)
