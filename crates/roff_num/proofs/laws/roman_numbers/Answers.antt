use Rattle.roff_num.proofs.RomanValues.{roman_value-roman}
use Rattle.roff_num.proofs.laws.roman_numbers.Goals as goal

pub returns : goal.returns
returns c = roman_value-roman
