use Rattle.std.proofs.Common.{◌≡◌, length, refl, ap, arith}
use Rattle.tbl_format.specs.Format.{Format}
use Rattle.tbl_format.specs.FormatRows.{KeptFormat}
use Rattle.tbl_format.proofs.FormatBlocks.{further-is}
use Rattle.tbl_format.proofs.format_rows.FormatRows.begin_further.Goals as goal

pub returns : goal.returns
returns c =
    let old = c.self.inside in
    let none = rw (← c.self.view_is) at c.requires in
    let len : c.len-self-inside.result ≡ length old.ends.items = omega (arith, c.len-self-inside.ensures, old.ends.ok.0) in
    rw (← c.self.view_is, len)
    (ap (λ (f : Format). let k : KeptFormat = record { format = f; key_room = old.key_room; column_room = old.column_room } in k)
    (further-is old.keys.items old.ends.items old.row_bars.items old.first old.asked.items old.front old.bars old.place _ c.self.invariant.first none refl))
