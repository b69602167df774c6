-- What a proof unfolds to compute texts of numbers and values of expressions that are written out.
use Rattle.std.specs.Prelude.{⊤}
use Rattle.std.specs.Fmt.{digits}
use Rattle.roff_num.specs.Alphabetic.{backward, place, word}
use Rattle.roff_num.specs.Expressions.{folded_onto, operand_within, value_at}
use Rattle.roff_num.specs.Roman.{roman}

unfoldable pub numbers_on_literals : ⊤
unfolding folded_onto operand_within value_at digits backward place word roman
numbers_on_literals = tt
