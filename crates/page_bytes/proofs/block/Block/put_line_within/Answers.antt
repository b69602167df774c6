use Rattle.std.proofs.Common.{◌≡◌, ◌<◌, ◌++◌, ℕ, List, ap, arith, length, replicate}
use Rattle.page_model.specs.Columns.{device_line, finished_of, printed}
use Rattle.page_bytes.proofs.block.Block.put_line_within.Goals as goal

pub returns-then-not-is_empty : goal.returns-then-not-is_empty
returns-then-not-is_empty g c =
    let line : List ℕ = device_line c.args.columns (printed (finished_of c.args.line)) ++ replicate c.args.after 10 in
    let some : 0 < length c.put_at_once-count.new.self = c.is_empty.ensures.some c.if-not-is_empty.true in
    let same : c.put_at_once-count.new.self ≡ line = c.put_at_once-count.ensures.held some in
    record {
      within = omega (arith, ap length same, c.put_at_once-count.ensures.few, c.if-room.true);
      fails = c.put_at_once-count.ensures.fails (omega (arith, c.if-count-gt0.false)) some;
    }
