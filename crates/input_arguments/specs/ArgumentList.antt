-- The arguments of a line, as a request gets them.
use Rattle.std.specs.Prelude.{ℕ, List}
use Rattle.roff_num.specs.Lists.{parts_ending}
use Rattle.input_arguments.specs.declared.arguments.ArgumentList.{ArgumentList}

-- the arguments in order
abbrev pub listed : ArgumentList → List (List ℕ)
listed l = parts_ending l.bytes.now 0 l.ends.now
