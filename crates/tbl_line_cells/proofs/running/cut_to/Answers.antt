use Rattle.std.proofs.Common.{◌≡◌, Some, refl, sym}
use Rattle.tbl_layout.specs.declared.entry.EntryKind.TheVariants.{Split, Text}
use Rattle.tbl_line_cells.proofs.BlocksCut.{block-cut, block-first}
use Rattle.tbl_line_cells.proofs.TextsCut.{none-other, running-is, text-cut}
use Rattle.tbl_lines.specs.CellsLeft.{Left}
use Rattle.tbl_lines.specs.LinesLeft.{Shown}
use Rattle.tbl_line_cells.specs.LaidCells.{IsShown}
use Rattle.tbl_line_cells.proofs.running.cut_to.Goals as goal

pub returns-in-Text-clause-cut : goal.returns-in-Text-clause-cut
returns-in-Text-clause-cut c = λ s own is kept shown.
    let run = running-is c.args.bytes.now c.args.cell s c.args.running own is kept shown in
    text-cut c.args.bytes.now c.args.cell s c.args.running own is run c.args.room c.requires.lies (Text c.in-Text.field-0 c.in-Text.width)
    (sym c.in-Text.is) tt c.args.running.is_number run.number c.in-Text.width refl c.cut_text.result c.cut_text.ensures.cut

pub returns-in-Split-clause-cut : goal.returns-in-Split-clause-cut
returns-in-Split-clause-cut c = λ s own is kept shown.
    let run = running-is c.args.bytes.now c.args.cell s c.args.running own is kept shown in
    text-cut c.args.bytes.now c.args.cell s c.args.running own is run c.args.room c.requires.lies (Split c.in-Split.split)
    (sym c.in-Split.is) tt c.args.running.is_number run.number c.in-Split.split.width refl c.cut_text-in-Split.result
    c.cut_text-in-Split.ensures.cut

pub returns-in-Block-clause-cut : goal.returns-in-Block-clause-cut
returns-in-Block-clause-cut c = λ s own is kept shown.
    let run = running-is c.args.bytes.now c.args.cell s c.args.running own is kept shown in
    block-cut c.args.bytes.now c.args.cell s c.args.running own is run c.in-Block.field-0 c.in-Block.is c.args.room c.cut_block.result
    c.cut_block.ensures.cut

pub returns-in-Block-clause-first : goal.returns-in-Block-clause-first
returns-in-Block-clause-first c = λ s own is kept shown.
    let run = running-is c.args.bytes.now c.args.cell s c.args.running own is kept shown in
    block-first c.args.bytes.now c.args.cell s c.args.running own is run c.in-Block.field-0 c.in-Block.is c.args.room c.cut_block.result
    c.cut_block.ensures.cut

pub returns-in_default : goal.returns-in_default
returns-in_default c = record {
  cut = λ s own is kept shown. absurd (other s own is kept shown);
  first = λ s own is kept shown. absurd (other s own is kept shown);
  same = tt;
  escapes = refl;
} where
  other : (s : Shown) (own : Left) → IsShown c.args.bytes.now c.args.cell s → c.args.cell.runs_on ≡ Some c.args.running → s.runs_on ≡ Some own → ⊥
  other s own is kept shown =
      let run = running-is c.args.bytes.now c.args.cell s c.args.running own is kept shown in
      none-other c.args.cell.entry.kind run.kind c.in_default.not-Text c.in_default.not-Split c.in_default.not-Block
