use Rattle.std.proofs.Common.{List, sym, subst}
use Rattle.tbl_format.specs.Format.{columns_of_keys}
use Rattle.tbl_lines.specs.CellsLeft.{Left}
use Rattle.tbl_lines.specs.LinesLeft.{OfRow}
use Rattle.tbl_tall.specs.Bands.{ShowBars}
use Rattle.tbl_line_cells.specs.LinesDrawn.{keys_in}
use Rattle.tbl_line_cells.proofs.FirstLines.{each-behind}
use Rattle.tbl_tall.proofs.band.Band.begin.Goals as goal

pub returns-clause-above : goal.returns-clause-above
returns-clause-above c = λ bytes lefts all.
    subst (λ (ls : List Left). ShowBars c.args.boxing (columns_of_keys (keys_in c.args.cells.now)) c.push_shown.new.shown.items
    (OfRow ls c.args.last_bars))
    (sym (each-behind 0 lefts)) (c.push_shown.ensures.shown bytes lefts all)
