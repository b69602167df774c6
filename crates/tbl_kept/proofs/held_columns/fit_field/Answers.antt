use Rattle.std.proofs.Common.{◌-◌, ℕ, length, ap, ◌∙◌, arith}
use Rattle.std.specs.List.{slice_range}
use Rattle.tbl_layout.specs.Columns.{alone}
use Rattle.tbl_layout.specs.KeptEntries.{stands_of}
use Rattle.tbl_layout.specs.Spans.{lacks, spread_over}
use Rattle.tbl_text.proofs.BlockSlices.{length-slice_range}
use Rattle.tbl_kept.proofs.FieldsFitted.{fitted-counted, fitted-free, part-fitted}
use Rattle.tbl_kept.proofs.held_columns.fit_field.Goals as goal

pub returns-then-cell : goal.returns-then-cell
returns-then-cell c =
    let cell = c.args.cell in
    fitted-free c.args.bars c.args.asked.now cell.from (cell.end - cell.from) c.args.columns.now cell.has_no_width (stands_of cell.key c.args.entry)
    c.if-cell.true

pub returns-then-cell-gt1 : goal.returns-then-cell-gt1
returns-then-cell-gt1 c =
    let cell = c.args.cell in
    let asked = slice_range c.args.asked.now cell.from cell.end in
    let own = slice_range c.args.columns.now cell.from cell.end in
    let entry = stands_of cell.key c.args.entry in
    part-fitted c.args.bars c.args.asked.now cell.from (cell.end - cell.from) c.args.columns.now cell.end (alone entry) c.fit.new.columns
    (omega (arith, c.requires.order)) (λ one. omega (arith, one, c.if-cell-gt1.true))
    (c.fit.ensures ∙ ap (λ (width : ℕ). spread_over (lacks c.args.bars asked own width) (length own) 0 own) (c.alone.ensures ∙ ap alone c.stands.ensures))
    (length-slice_range c.args.columns.now cell.from cell.end c.requires.within)
    ∙ fitted-counted c.args.bars c.args.asked.now cell.from (cell.end - cell.from) c.args.columns.now cell.has_no_width entry
    c.if-cell.false
