use Rattle.roff_num.proofs.Digits.{AllDigits-take}
use Rattle.roff_num.proofs.numeral.split_decimals.Goals as goal

pub returns-in-Some-eq46-default-clause-digits : goal.returns-in-Some-eq46-default-clause-digits
returns-in-Some-eq46-default-clause-digits c = rw (c.split_at.ensures.front, c.digit_count.ensures) (AllDigits-take c.in-Some-eq46-default.fraction.now)
