-- Heights and widths in basic units: of lines, and of columns, of which no more than 2^33 are counted.
use Rattle.std.proofs.Common.{◌≡◌, ℕ, Option, Some, None, ap, pos, refl, arith, ◌*◌, min, option_map}
use Rattle.roff_pages.specs.Pages.Counted.{counted}
use Rattle.run_model.specs.Registers.{at_greatest, in_heights, in_units, place_told}
use Rattle.roff_num.specs.Ranges.{greatest_number}

-- a height is told as it is counted
pub told_counted : (n : ℕ) → at_greatest (in_heights (counted n)) ≡ at_greatest (in_heights n)
told_counted n = let same : min (40 * counted n) greatest_number ≡ min (40 * n) greatest_number = omega arith in ap pos same

-- so is a place
pub told_place : (place : Option ℕ) → place_told (option_map counted place) ≡ place_told place
told_place None = refl
told_place (Some lines) = told_counted lines

-- and so is a width
pub wide_counted : (n : ℕ) → at_greatest (in_units (counted n)) ≡ at_greatest (in_units n)
wide_counted n = let same : min (24 * counted n) greatest_number ≡ min (24 * n) greatest_number = omega arith in ap pos same
