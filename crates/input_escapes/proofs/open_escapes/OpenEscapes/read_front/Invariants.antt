use Rattle.std.proofs.Common.{◌-◌, length}
use Rattle.input_escapes.specs.EscapeFronts.{ReadsFront}
use Rattle.input_escapes.proofs.open_escapes.OpenEscapes.read_front.Given as goal

abbrev pub invariant-loop-count : goal.invariant-loop-count
invariant-loop-count l = ReadsFront l.bytes l.count l.initial.self l.self

abbrev pub decreases-loop-count : goal.decreases-loop-count
decreases-loop-count l = length l.bytes - l.count
