use Rattle.std.proofs.Common.{◌≡◌, ◌<◌, length, ap, arith}
use Rattle.tbl_format.specs.Format.{Format}
use Rattle.tbl_format.specs.FormatRows.{KeptFormat}
use Rattle.tbl_format.proofs.FormatBlocks.{end-none, end-some}
use Rattle.tbl_format.proofs.format_rows.FormatRows.end.Goals as goal

pub returns-then-len-self : goal.returns-then-len-self
returns-then-len-self c =
    let old = c.self.inside in
    let none : old.first ≡ length old.ends.items = omega (arith, c.if-len-self.true, c.len.ensures, old.ends.ok.0) in
    rw (← c.self.view_is)
    (ap (λ (f : Format). let k : KeptFormat = record { format = f; key_room = old.key_room; column_room = old.column_room } in k)
    (end-none old.keys.items old.ends.items old.row_bars.items old.first old.asked.items old.front old.bars old.place none))

pub returns-else-len-self : goal.returns-else-len-self
returns-else-len-self c =
    let old = c.self.inside in
    let some : old.first < length old.ends.items = omega (arith, c.if-len-self.false, c.len.ensures, old.ends.ok.0, c.self.invariant.first) in
    rw (← c.self.view_is)
    (ap (λ (f : Format). let k : KeptFormat = record { format = f; key_room = old.key_room; column_room = old.column_room } in k)
    (end-some old.keys.items old.ends.items old.row_bars.items old.first old.asked.items old.front old.bars old.place some))
