use Rattle.std.proofs.Common.{◌≤◌, ◌≡◌, Bool, false, length, max, sym, ap, ◌∙◌, arith, if◌then◌else◌}
use Rattle.tbl_format.specs.Format.{Format, has_some, most_bars, with_asked}
use Rattle.tbl_format.specs.FormatRows.{KeptFormat}
use Rattle.tbl_format.proofs.FormatBlocks.{bars-asked, format_of}
use Rattle.tbl_format.proofs.KeysWith.{has_none-columns}
use Rattle.tbl_format.proofs.format_rows.FormatRows.ask_for_bars.Goals as goal

pub returns-then-columns-gt0 : goal.returns-then-columns-gt0
returns-then-columns-gt0 c =
    let old = c.self.inside in
    let row = rw (← c.self.view_is) at c.row_columns-columns.ensures.value in
    let within : c.row_columns-columns.result ≤ length old.asked.items = rw (← c.self.view_is) at c.row_columns-columns.ensures.few in
    rw (← c.self.view_is)
    (ap (λ (f : Format). let k : KeptFormat = record { format = f; key_room = old.key_room; column_room = old.column_room } in k)
    (bars-asked (format_of old.keys.items old.ends.items old.row_bars.items old.first old.asked.items old.front old.bars old.place) c.row_columns-columns.result c.with_bars.result c.index.result.now row c.if-columns-gt0.true within
    (c.with_bars.ensures ∙ ap (most_bars old.bars) c.index.ensures)))

pub returns-else-columns-gt0 : goal.returns-else-columns-gt0
returns-else-columns-gt0 c =
    let old = c.self.inside in
    let row = rw (← c.self.view_is) at c.row_columns-columns.ensures.value in
    let f = format_of old.keys.items old.ends.items old.row_bars.items old.first old.asked.items old.front old.bars old.place in
    let none : has_some f.row ≡ false = has_none-columns f.row c.self.invariant.row.cells (omega (arith, row, c.if-columns-gt0.false)) in
    rw (← c.self.view_is, c.max-self-inside.ensures)
    (ap (λ (t : Bool). let g : Format = if t then with_asked (most_bars f.bars) f else record f { front = max f.front f.bars } in
    let k : KeptFormat = record { format = g; key_room = old.key_room; column_room = old.column_room } in k) (sym none))
