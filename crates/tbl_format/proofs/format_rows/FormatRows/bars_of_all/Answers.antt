use Rattle.std.proofs.Common.{◌<◌, length, ◌∙◌, arith}
use Rattle.std.proofs.lemmas.List.{get_or_read}
use Rattle.tbl_format.proofs.FormatBlocks.{bars_of_all-read, count-all}
use Rattle.tbl_format.proofs.format_rows.FormatRows.bars_of_all.Goals as goal

pub index-requires : goal.index-requires
index-requires c =
    let old = c.self.inside in
    let inside = rw (← c.self.view_is) at c.requires in
    omega (arith, inside, count-all old.keys.items old.ends.items old.row_bars.items old.first, c.self.invariant.bars, old.row_bars.ok.0)

pub returns : goal.returns
returns c =
    let old = c.self.inside in
    let inside = rw (← c.self.view_is) at c.requires in
    let some : c.args.at < length old.ends.items = omega (arith, inside, count-all old.keys.items old.ends.items old.row_bars.items old.first) in
    let read = get_or_read old.row_bars.items c.args.at c.index.result.now (omega (arith, some, c.self.invariant.bars)) c.index.ensures 0 in
    rw (← c.self.view_is) (read ∙ bars_of_all-read old.keys.items old.ends.items old.row_bars.items old.first c.args.at some)
