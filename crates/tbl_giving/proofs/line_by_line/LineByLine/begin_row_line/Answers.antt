use Rattle.std.proofs.Common.{◌≡◌, List, length, suc, refl, sym, ap, subst, ◌∙◌, arith}
use Rattle.tbl_format.specs.RowsServed.{all_rows}
use Rattle.tbl_layout.specs.declared.columns.Column.{Column}
use Rattle.tbl_text.specs.declared.block_parts.BlockPlace.{BlockPlace}
use Rattle.tbl_picture.specs.Walks.{KeptWalk}
use Rattle.tbl_giving.specs.LinesWalked.{HasCome, KeptLineByLine, LineBegins, coming, kept_by}
use Rattle.tbl_giving.specs.declared.line_by_line.Place.TheVariants.{OnRow}
use Rattle.tbl_lines.proofs.RowColumns.{length-places}
use Rattle.tbl_giving.proofs.LayNext.{can-lay-row}
use Rattle.tbl_giving.proofs.LinesLaid.{LaysRow, before_line, row-begins}
use Rattle.tbl_tall.specs.LinesNext.{CanLayRow}
use Rattle.tbl_tall.specs.TallRows.{KeptTall}
use Rattle.tbl_giving.proofs.line_by_line.LineByLine.begin_row_line.Goals as goal
use Rattle.tbl_giving.proofs.line_by_line.LineByLine.begin_row_line.Goals.{After-self, After-lay_row}

come : (c : After-self) → HasCome c.args.bytes.now (all_rows c.args._format.now.format) c.args.rows.now (record (kept_by c.self.inside) { place = OnRow }) c.args.walk.now.room
come c =
    subst (λ (k : KeptLineByLine). HasCome c.args.bytes.now (all_rows c.args._format.now.format) c.args.rows.now (record k { place = OnRow }) c.args.walk.now.room)
    (sym c.self.view_is) c.requires.come

begins : (c : After-lay_row) → let old = record (kept_by c.self.inside) { place = OnRow } in
    let tall = c.lay_row.new.self in
    LineBegins c.args.bytes.now (all_rows c.args._format.now.format) c.args.rows.now old (record old { tall = tall }) c.args.walk.now (before_line tall.line c.args.walk.now)
begins c =
    let g = kept_by c.self.inside in
    let at = (goal.at.After-lay_row c).After-self in
    let here = come at in
    let x = coming c.args.bytes.now (all_rows c.args._format.now.format) c.args.rows.now (record g { place = OnRow }) in
    let s = here.stands in
    let laid = c.lay_row.ensures in
    let tall = c.lay_row.new.self in
    let lays : LaysRow c.args.bytes.now g.bars g.width g.tall tall c.columns.result.now = laid.draws in
    row-begins _ _ _ g _ tall (ap (λ (t : KeptTall). t.come) laid.same) (ap (λ (t : KeptTall). t.room) laid.same) c.args.walk.now refl
    (rw c.columns.ensures at laid.few) here laid.same
    ((subst (λ (cs : List Column). LaysRow c.args.bytes.now g.bars g.width g.tall tall cs) c.columns.ensures lays) s.format x.cells (suc s.more) s.stands)

pub lay_row-requires : goal.lay_row-requires
lay_row-requires c =
    let g = kept_by c.self.inside in
    record {
      next = subst (λ (cs : List Column). CanLayRow c.args.bytes.now (record { bars = g.bars; width = g.width; columns = cs }) g.tall) (sym c.columns.ensures)
          (can-lay-row _ _ _ g _ (come (goal.at.lay_row-requires c).After-self));
    }

pub begin_line_laid-requires : goal.begin_line_laid-requires
begin_line_laid-requires c =
    let under = (begins (goal.at.begin_line_laid-requires c).After-lay_row).can.under in
    let line = c.lay_row.new.self.line in
    omega (arith, under.few, length-places c.args.bytes.now line.entries line.places under.draws.places, ap (λ (ps : List BlockPlace). length ps) c.places.ensures)

pub returns-clause-begins : goal.returns-clause-begins
returns-clause-begins c =
    let old = record (kept_by c.self.inside) { place = OnRow } in
    let tall = c.lay_row.new.self in
    let w = c.args.walk.now in
    let walk : c.begin_line_laid.new.self ≡ before_line tall.line w =
    c.begin_line_laid.ensures ∙ ap (λ (ps : List BlockPlace). record (before_line tall.line w) { places = ps }) c.places.ensures in
    subst (λ (k : KeptLineByLine). LineBegins c.args.bytes.now (all_rows c.args._format.now.format) c.args.rows.now (record k { place = OnRow }) (record old { tall = tall }) w c.begin_line_laid.new.self) c.self.view_is
    (subst (λ (k : KeptWalk). LineBegins c.args.bytes.now (all_rows c.args._format.now.format) c.args.rows.now old (record old { tall = tall }) w k) (sym walk)
    (begins (goal.at.returns-clause-begins c).After-lay_row))
