use Rattle.std.proofs.Common.{◌≡◌, ◌==◌, count_by, take}
use Rattle.input_source.specs.Bytes.{newline}
use Rattle.input_source.proofs.bytes.newlines_among.Given as goal

abbrev pub invariant-loop-byte : goal.invariant-loop-byte
invariant-loop-byte l = l.newlines ≡ count_by (λ b. b == newline) (take l.byte-index l.bytes)
