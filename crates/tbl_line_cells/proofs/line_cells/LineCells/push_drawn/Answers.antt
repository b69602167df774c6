use Rattle.std.proofs.Common.{Bool, None, Option, refl, sym, ap, subst}
use Rattle.tbl_lines.specs.CellsLeft.{Left}
use Rattle.tbl_line_cells.specs.LaidCells.{RunsAs, drawn_in, text_by}
use Rattle.tbl_line_cells.specs.LinesDrawn.{kept_line}
use Rattle.tbl_line_cells.proofs.LineLaid.{cell-so-far, or-false}
use Rattle.tbl_line_cells.proofs.line_cells.LineCells.push_drawn.Goals as goal

pub returns-clause-so_far : goal.returns-clause-so_far
returns-clause-so_far c = λ bytes s done fronts no_text no_run lies ends byte shows so_far.
    let cell = drawn_in c.args.column c.args.entry in
    cell-so-far bytes (kept_line c.args.self.now) _ cell s done fronts (record {
      drawn = record {
        shows = shows;
        text = sym (ap (λ (b : Bool). text_by b s.at s.rows) no_text);
        lies = lies;
        within = tt;
        narrow = c.requires.narrow;
        ends = ends;
      };
      byte = λ is. byte;
      running = subst (λ (o : Option Left). RunsAs bytes cell s None o) (sym no_run) tt;
    }) so_far c.push_reserved.ensures.items (sym (or-false c.args.self.now.has_running)) refl
