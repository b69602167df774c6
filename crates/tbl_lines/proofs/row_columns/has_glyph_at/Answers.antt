use Rattle.std.proofs.Common.{suc, drop, sym, ap, subst, ◌∙◌, arith}
use Rattle.tbl_layout.specs.Entries.{up_to_last_glyph}
use Rattle.tbl_lines.specs.PictureLines.{Cell}
use Rattle.tbl_lines.specs.RowsLeft.{cell_left, first_cell, first_of, row_columns}
use Rattle.tbl_lines.specs.RowsWalked.{HasGlyph}
use Rattle.tbl_lines.specs.RowsLent.{lent_columns, lent_entries, lent_format}
use Rattle.tbl_lines.proofs.RowColumns.{column-lies, length-places, map-at}
use Rattle.tbl_lines.proofs.row_columns.has_glyph_at.Goals as goal

pub column_at-requires-clause-place : goal.column_at-requires-clause-place
column_at-requires-clause-place c =
    omega (arith, c.requires.within, length-places c.args.row.now.bytes.now (lent_entries c.args.row.now) c.args.places.now c.requires.cells.places)

pub has_glyph-requires-clause-lies : goal.has_glyph-requires-clause-lies
has_glyph-requires-clause-lies c =
    let row = c.args.row.now in
    let places = c.args.places.now in
    let all = row_columns row.bars.boxing (lent_format row) 0 (lent_columns row) (lent_entries row) places in
    (column-lies row.bytes.now row.bars.boxing (lent_format row) 0 c.args.at (lent_columns row) (lent_entries row) places c.column_at.result (drop (suc c.args.at) all)
    c.column_at.ensures c.requires.cells.lie c.requires.cells.narrow c.requires.cells.places).lies

pub has_glyph-requires-clause-within : goal.has_glyph-requires-clause-within
has_glyph-requires-clause-within c =
    let row = c.args.row.now in
    let places = c.args.places.now in
    let all = row_columns row.bars.boxing (lent_format row) 0 (lent_columns row) (lent_entries row) places in
    (column-lies row.bytes.now row.bars.boxing (lent_format row) 0 c.args.at (lent_columns row) (lent_entries row) places c.column_at.result (drop (suc c.args.at) all)
    c.column_at.ensures c.requires.cells.lie c.requires.cells.narrow c.requires.cells.places).within

pub returns-then-at-row-clause-yes : goal.returns-then-at-row-clause-yes
returns-then-at-row-clause-yes c = λ is.
    let row = c.args.row.now in
    let places = c.args.places.now in
    let all = row_columns row.bars.boxing (lent_format row) 0 (lent_columns row) (lent_entries row) places in
    let this = ap first_cell (map-at (cell_left row.bytes.now c.args.line) c.args.at all c.column_at.result c.column_at.ensures) in
    subst (λ (cell : Cell). HasGlyph (first_of cell)) (sym this) (c.has_glyph.ensures.yes is)

pub returns-then-at-row-clause-no : goal.returns-then-at-row-clause-no
returns-then-at-row-clause-no c = λ is.
    let row = c.args.row.now in
    let places = c.args.places.now in
    let all = row_columns row.bars.boxing (lent_format row) 0 (lent_columns row) (lent_entries row) places in
    let this = ap first_cell (map-at (cell_left row.bytes.now c.args.line) c.args.at all c.column_at.result c.column_at.ensures) in
    ap (λ (cell : Cell). up_to_last_glyph (first_of cell)) this ∙ c.has_glyph.ensures.no is

pub column_behind-requires-clause-place : goal.column_behind-requires-clause-place
column_behind-requires-clause-place c =
    omega (arith, c.requires.within, length-places c.args.row.now.bytes.now (lent_entries c.args.row.now) c.args.places.now c.requires.cells.places)

pub has_glyph-requires-else-at-row-clause-lies : goal.has_glyph-requires-else-at-row-clause-lies
has_glyph-requires-else-at-row-clause-lies c =
    let row = c.args.row.now in
    let places = c.args.places.now in
    let all = row_columns row.bars.boxing (lent_format row) 0 (lent_columns row) (lent_entries row) places in
    (column-lies row.bytes.now row.bars.boxing (lent_format row) 0 c.args.at (lent_columns row) (lent_entries row) places c.column_behind.result (drop (suc c.args.at) all)
    c.column_behind.ensures c.requires.cells.lie c.requires.cells.narrow c.requires.cells.places).lies

pub has_glyph-requires-else-at-row-clause-within : goal.has_glyph-requires-else-at-row-clause-within
has_glyph-requires-else-at-row-clause-within c =
    let row = c.args.row.now in
    let places = c.args.places.now in
    let all = row_columns row.bars.boxing (lent_format row) 0 (lent_columns row) (lent_entries row) places in
    (column-lies row.bytes.now row.bars.boxing (lent_format row) 0 c.args.at (lent_columns row) (lent_entries row) places c.column_behind.result (drop (suc c.args.at) all)
    c.column_behind.ensures c.requires.cells.lie c.requires.cells.narrow c.requires.cells.places).within

pub returns-else-at-row-clause-yes : goal.returns-else-at-row-clause-yes
returns-else-at-row-clause-yes c = λ is.
    let row = c.args.row.now in
    let places = c.args.places.now in
    let all = row_columns row.bars.boxing (lent_format row) 0 (lent_columns row) (lent_entries row) places in
    let this = ap first_cell (map-at (cell_left row.bytes.now c.args.line) c.args.at all c.column_behind.result c.column_behind.ensures) in
    subst (λ (cell : Cell). HasGlyph (first_of cell)) (sym this) (c.has_glyph-else-at-row.ensures.yes is)

pub returns-else-at-row-clause-no : goal.returns-else-at-row-clause-no
returns-else-at-row-clause-no c = λ is.
    let row = c.args.row.now in
    let places = c.args.places.now in
    let all = row_columns row.bars.boxing (lent_format row) 0 (lent_columns row) (lent_entries row) places in
    let this = ap first_cell (map-at (cell_left row.bytes.now c.args.line) c.args.at all c.column_behind.result c.column_behind.ensures) in
    ap (λ (cell : Cell). up_to_last_glyph (first_of cell)) this ∙ c.has_glyph-else-at-row.ensures.no is
