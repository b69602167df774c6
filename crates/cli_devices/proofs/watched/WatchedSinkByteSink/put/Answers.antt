use Rattle.std.proofs.Common.{◌≡◌, None, ◌∙◌, ap, not}
use Rattle.cli_devices.specs.Memory.{kept_by}
use Rattle.cli_devices.proofs.Overflows.{None-is_some, Fails-overflow, refused-longer}
use Rattle.cli_devices.proofs.watched.WatchedSinkByteSink.put.Goals as goal

pub returns-then-is_none : goal.returns-then-is_none
returns-then-is_none c =
    let keeps = c.put.ensures.keeps in
    let none : c.args.self.now.overflow ≡ None = None-is_some _ (c.is_none.ensures ∙ ap not c.if-is_none.true) in
    let short = refused-longer _ _ c.in-Err.fault c.args.piece.now c.room_left-room.result c.in-Err.ensures.keeps c.room_left-room.ensures in record {
      ok = tt;
      err = rw none (Fails-overflow _ _ _ _ (kept_by c.args.self.now.sink) _ _ _ c.room_left-room.ensures short keeps.room keeps.kept c.in-Err.ensures.puts.err.fault);
    }
