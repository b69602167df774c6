use Rattle.std.proofs.Common.{◌≡◌, ap, ◌∙◌, arith}
use Rattle.page_model.specs.Columns.{added_columns, finished_of}
use Rattle.page_model.specs.Glyphs.{gaps_in}
use Rattle.roff_pages.proofs.Diverting.{text_width-printed}
use Rattle.roff_pages.proofs.line_width.width_of_line.Goals as goal

pub returns : goal.returns
returns c =
    let line = finished_of c.args.line in
    let found = c.width_and_gaps-width.ensures in
    let added : c.columns_added-added.result ≡ added_columns line.spare line.gaps (gaps_in line.text) =
    c.columns_added-added.ensures ∙ ap (added_columns line.spare line.gaps) found.gaps in
    omega (arith, c.min.ensures, c.saturating_add.ensures, c.from.ensures, c.from-2.ensures, c.from-3.ensures, found.width, added, text_width-printed line)
