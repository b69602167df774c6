-- Where a line is reached behind a text.
use Rattle.std.proofs.Common.{◌≡◌, ℕ, zero, suc, ◌+◌, ◌≤◌, max, List, refl, sym, ◌∙◌, arith}
use Rattle.std.proofs.Math.Nat.{suc-mul}
use Rattle.tbl_lines.specs.PictureLines.{Cell}
use Rattle.tbl_lines.specs.RowsLeft.{given, one_less}
use Rattle.tbl_lines.proofs.RunsGiven.{given-none}
use Rattle.tbl_picture.specs.Walks.{IsNear, reached_by}

-- what is given behind it is the same, where nothing is given any more too
pub given-reached : (count place at width : ℕ) (cells : List Cell)
    → given (one_less count) (max at place + width) cells ≡ given (one_less count) (reached_by count place at width) cells
given-reached zero place at width cells = given-none (max at place + width) cells ∙ sym (given-none place cells)
given-reached (suc count) place at width cells = refl

-- no sum overflows where nothing of a column is given
pub near-less : (count place : ℕ) → IsNear count place → IsNear (one_less count) place
near-less zero place near = near
near-less (suc count) place near = omega (arith, near, suc-mul count 36893488147419103232)

-- nor as a line begins
pub near-begun : (count most : ℕ) → count ≤ most → most ≤ 4611686018427387904 → IsNear count 0
near-begun count most few small = omega (arith, few, small)
