use Rattle.std.proofs.Common.{◌≤◌, ◌-◌, length, take}
use Rattle.read_definitions.specs.CopiedLines.{Copies}
use Rattle.read_definitions.proofs.copied.copied_len.Given as goal

abbrev pub invariant-loop-count : goal.invariant-loop-count
invariant-loop-count l = (l.count ≤ length l.bytes) × Copies l.second l.begins (take l.count l.bytes) l.last

abbrev pub decreases-loop-count : goal.decreases-loop-count
decreases-loop-count l = length l.bytes - l.count
