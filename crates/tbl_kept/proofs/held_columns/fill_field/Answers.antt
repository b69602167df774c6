use Rattle.std.proofs.Common.{◌-◌, refl, sym, ap, ◌∙◌}
use Rattle.tbl_layout.specs.Columns.{in_columns}
use Rattle.tbl_layout.specs.declared.columns.Stands.{Stands}
use Rattle.tbl_kept.specs.RowsLaying.{held_at}
use Rattle.tbl_kept.proofs.RowsFilled.{block_stands-none, laid_by-none}
use Rattle.tbl_kept.proofs.RowsNext.{counted_if-nowhere, held_at-nowhere}
use Rattle.tbl_kept.proofs.held_columns.fill_field.Goals as goal

pub returns : goal.returns
returns c =
    let cell = c.args.cell in
    let columns = c.args.columns.now in
    let none = counted_if-nowhere cell.has_no_width _ (block_stands-none c.args.entry.kind cell.key c.args.entry c.in_default.not-Block) in
    record {
      entry = laid_by-none c.args.entry.kind c.args.bytes.now _ c.args.entry c.in_default.not-Block;
      columns = held_at-nowhere cell.from (cell.end - cell.from) columns
          ∙ ap (λ (s : Stands). held_at cell.from (in_columns (cell.end - cell.from) s) columns) (sym none);
      room = refl;
    }
