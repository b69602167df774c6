use Rattle.std.proofs.Common.{◌≡◌, ◌++◌, replicate}
use Rattle.roff_num.proofs.format.push_zeros.Given as goal

abbrev pub invariant-loop : goal.invariant-loop
invariant-loop l = l.text.items ≡ l.fn.text.items ++ replicate l.counter 48
