use Rattle.roff_num.proofs.Sizes.{in_range-large}
use Rattle.roff_num.proofs.numeral.value_of_whole.Goals as goal

pub returns-then-number-gt2147483648 : goal.returns-then-number-gt2147483648
returns-then-number-gt2147483648 c =
    in_range-large c.args.negative c.args.number c.args.unit.over c.args.unit.under c.requires.some c.requires.one_or_more c.if-number-gt2147483648.true
