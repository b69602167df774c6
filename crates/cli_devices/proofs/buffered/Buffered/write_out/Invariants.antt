use Rattle.std.proofs.Common.{◌≡◌, ◌-◌, length}
use Rattle.cli_devices.specs.Buffered.{KeepsGiven}
use Rattle.cli_devices.proofs.buffered.Buffered.write_out.Given as goal

-- the same bytes were given, and no write has failed
abbrev pub invariant-loop-self : goal.invariant-loop-self
invariant-loop-self g l =
    KeepsGiven g.W.BlockWrite.sunk l.fn.self l.self
    × ((g.W.BlockWrite.sunk l.self.writer).failures ≡ (g.W.BlockWrite.sunk l.fn.self.writer).failures)

abbrev pub decreases-loop-self : goal.decreases-loop-self
decreases-loop-self g l = length l.self.held.items - l.self.next
