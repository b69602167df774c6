use Rattle.std.specs.Prelude.{reverse}
use Rattle.read_names.proofs.RemovedNames.{IsWithoutNames}
use Rattle.read_names.proofs.given.remove_names_given.Given as goal

abbrev pub invariant-loop-index : goal.invariant-loop-index
invariant-loop-index l = IsWithoutNames l.index (reverse l.fn.unread.input.arguments.whole) l.fn.unread l.unread
