use Rattle.std.proofs.Common.{ℕ, List, length, refl, subst}
use Rattle.tbl_format.specs.Format.{FormatRow}
use Rattle.tbl_giving.proofs.CutsCounted.{CutsRow}
use Rattle.tbl_giving.proofs.CutsOnRows.{stands-laid}
use Rattle.tbl_giving.proofs.cuts.cut_on_line.Goals as goal
use Rattle.tbl_giving.proofs.cuts.cut_on_line.Goals.{After-lay_row, After-mark_cut-count}
use Rattle.tbl_layout.specs.declared.columns.Column.{Column}
use Rattle.tbl_lines.specs.CellsLeft.{Left, bars_at_end}
use Rattle.tbl_lines.specs.CutEntries.{all_with_cut}
use Rattle.tbl_lines.specs.LinesLeft.{row_cut}
use Rattle.tbl_lines.specs.PictureLines.{Sheet}
use Rattle.tbl_tall.specs.TallRows.{RowStands}

cuts : (c : After-lay_row) → CutsRow c.args.drawn.bytes.now c.args.drawn.bars c.args.drawn.width c.args.tall.now c.lay_row.new.self c.args.rows.now.columns
cuts c =
    let d = c.args.drawn in
    let cut : CutsRow d.bytes.now d.bars d.width c.args.tall.now c.lay_row.new.self c.columns.result.now = c.lay_row.ensures.cut in
    subst (λ (cs : List Column). CutsRow d.bytes.now d.bars d.width c.args.tall.now c.lay_row.new.self cs) c.columns.ensures cut

-- so it stands behind that
marked : (c : After-mark_cut-count) {format : FormatRow} {cells : List Left} {lines : ℕ} → let s : Sheet = record { bars = c.args.drawn.bars; width = c.args.drawn.width; columns = c.args.rows.now.columns } in
    RowStands c.args.drawn.bytes.now s c.args.tall.now format cells lines
    → RowStands c.args.drawn.bytes.now s c.mark_cut-count.new.self format (all_with_cut (row_cut s (bars_at_end (length s.columns) format) cells) cells) lines
marked c {format} {cells} {lines} stands =
    c.mark_cut-count.ensures.stands _ _ format cells lines _ (cuts (goal.at.After-mark_cut-count c).After-lay_row format cells lines stands)
    (stands-laid c.lay_row.ensures.same stands)

pub pass_line-requires : goal.pass_line-requires
pass_line-requires c =
    let r = c.requires.next in
    let s : Sheet = record { bars = c.args.drawn.bars; width = c.args.drawn.width; columns = c.args.rows.now.columns } in
    record {
      next = record {
        s = s;
        format = r.format;
        cells = all_with_cut (row_cut s (bars_at_end (length s.columns) r.format) r.cells) r.cells;
        more = r.more;
        stands = marked (goal.at.pass_line-requires c).After-mark_cut-count r.stands;
      };
    }

pub returns-clause-count : goal.returns-clause-count
returns-clause-count c = λ format cells lines stands.
    c.mark_cut-count.ensures.count _ _ (cuts (goal.at.returns-clause-count c).After-lay_row format cells lines stands)

pub returns-clause-stands : goal.returns-clause-stands
returns-clause-stands c = λ format cells more stands.
    c.pass_line.ensures.stands _ format _ more (marked (goal.at.returns-clause-stands c).After-mark_cut-count stands)

pub returns-clause-ended : goal.returns-clause-ended
returns-clause-ended c = λ format cells places stands.
    c.pass_line.ensures.ended _ format _ refl places (marked (goal.at.returns-clause-ended c).After-mark_cut-count stands)
