use Rattle.std.proofs.Common.{◌≡◌, length, rules}
use Rattle.cli_devices.proofs.Holding.{some_written_past}
use Rattle.cli_devices.proofs.buffered.Buffered.write_through.Goals as goal

pub returns-then-piece-gt-HELD-clause-some : goal.returns-then-piece-gt-HELD-clause-some
returns-then-piece-gt-HELD-clause-some g c =
    let now = c.args.self.now in
    let empty : length now.held.items ≡ 0 = search rules in
    some_written_past (g.W.BlockWrite.sunk now.writer) (g.W.BlockWrite.sunk c.write_block.new.self) now.held.items c.args.piece.now now.next c.write_block.result empty c.write_block.ensures.some
