use Rattle.std.proofs.Common.{◌≡◌, ◌≤◌, length, refl, sym, subst, ◌==◌}
use Rattle.tbl_format.specs.RowsServed.{all_rows}
use Rattle.tbl_giving.specs.LinesWalked.{CanGo, lines_to_come}
use Rattle.tbl_giving.specs.declared.line_by_line.Place.{Place}
use Rattle.tbl_lines.specs.PictureLines.{Sheet}
use Rattle.tbl_lines.specs.PictureLeft.{table_lines}
use Rattle.tbl_kept.specs.Rows.{elements_of}
use Rattle.tbl_giving.proofs.PartsStarted.{started-can, started-come, started-lines}
use Rattle.tbl_giving.proofs.line_by_line.LineByLine.start.Goals as goal

pub returns-clause-lines : goal.returns-clause-lines
returns-clause-lines c = λ bytes w places laid.
    let formats = all_rows c.args.format.now.format in
    let rows = c.args.rows.now in
    let bars = c.args.bars in
    let s : Sheet = record { bars = bars; width = c.args.width; columns = rows.columns } in
    let tall = c.start.new.self in
    let comes = c.start.ensures.comes bytes s refl refl places laid in
    subst (λ (p : Place). lines_to_come bytes formats rows (record { element = 0; place = p; tall = tall; bars = bars; width = c.args.width }) w
    ≡ table_lines s (elements_of bytes formats rows.elements)) (sym c.first_place-self-inside.ensures)
    (started-lines bytes formats rows bars c.args.width tall (bars.boxing.bars == 0) refl comes laid w)

pub returns-clause-can : goal.returns-clause-can
returns-clause-can c = λ bytes w places laid narrow wide ruled few.
    let formats = all_rows c.args.format.now.format in
    let rows = c.args.rows.now in
    let bars = c.args.bars in
    let s : Sheet = record { bars = bars; width = c.args.width; columns = rows.columns } in
    let tall = c.start.new.self in
    let comes = c.start.ensures.comes bytes s refl refl places laid in
    let t = bars.boxing.bars == 0 in
    let room : length rows.columns ≤ tall.room = rw c.start.ensures.room (rw (← c.self.view_is) at c.requires.room) in
    subst (λ (p : Place). CanGo bytes formats rows (record { element = 0; place = p; tall = tall; bars = bars; width = c.args.width }) w) (sym c.first_place-self-inside.ensures)
    (started-can bytes formats rows bars c.args.width tall t w
    (started-come bytes formats rows bars c.args.width tall t refl comes laid c.requires.lie narrow wide places ruled c.requires.some room c.start.ensures.come w.room few))
