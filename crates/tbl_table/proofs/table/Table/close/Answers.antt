use Rattle.std.proofs.Common.{sym, ◌∙◌}
use Rattle.tbl_table.proofs.BlockCloses.{none-goes_on}
use Rattle.tbl_table.proofs.table.Table.close.Goals as goal

pub close_block-requires : goal.close_block-requires
close_block-requires c =
    let a = c.self.inside in
    record { pending = rw (← c.self.view_is) (none-goes_on a.text.pending (sym c.is_open.ensures ∙ c.if-is_open.false)) }
