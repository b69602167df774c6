use Rattle.std.proofs.Common.{◌≤◌, ◌-◌, length, take}
use Rattle.read_shortcuts.specs.Compared.{OfText}
use Rattle.read_shortcuts.proofs.compared.text_len.Given as goal

abbrev pub invariant-loop-count : goal.invariant-loop-count
invariant-loop-count l = (l.count ≤ length l.bytes) × OfText l.delimiter (take l.count l.bytes)

abbrev pub decreases-loop-count : goal.decreases-loop-count
decreases-loop-count l = length l.bytes - l.count
