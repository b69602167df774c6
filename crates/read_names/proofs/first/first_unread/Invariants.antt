use Rattle.std.proofs.Common.{◌≡◌}
use Rattle.read_names.proofs.FirstNames.{unread_at}
use Rattle.read_names.proofs.first.first_unread.Given as goal

abbrev pub invariant-loop-number : goal.invariant-loop-number
invariant-loop-number l = l.unread ≡ unread_at l.fn.limits l.number
