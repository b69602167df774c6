use Rattle.std.proofs.Common.{◌≡◌, ◌≤◌, ℕ, List, false, length, refl, sym, subst, arith}
use Rattle.tbl_format.specs.RowsServed.{all_rows}
use Rattle.tbl_kept.specs.Rows.{elements_of}
use Rattle.tbl_kept.specs.TableText.{block_of}
use Rattle.tbl_lines.specs.CutEntries.{cut_entries}
use Rattle.tbl_lines.specs.PictureLines.{Sheet}
use Rattle.tbl_lines.proofs.CutEntries.{cut-few}
use Rattle.tbl_giving.specs.CutsCounted.{CanCount}
use Rattle.tbl_giving.proofs.FewTexts.{texts-few}
use Rattle.tbl_giving.proofs.PartsStarted.{all-high}
use Rattle.tbl_giving.proofs.RowsLying.{laid-lie}
use Rattle.tbl_giving.proofs.RowsRuled.{rules-placed}
use Rattle.tbl_giving.proofs.RowsWide.{rows-wide}
use Rattle.tbl_giving.proofs.UncutTables.{none-cut}
use Rattle.tbl_giving.proofs.giving.Giving.count_cut.Goals as goal

pub count_cut-requires : goal.count_cut-requires
count_cut-requires c =
    let t = c.args.text.now in
    let r = c.args.rows.now in
    let formats = all_rows c.args.format.now.format in
    let block = block_of t in
    let laid = c.requires in
    let a = c.self.inside in
    let s : Sheet = record { bars = c.args.bars; width = c.args.width; columns = r.columns } in
    let few : length r.columns ≤ a.walk.room = rw (← c.self.view_is) at laid.few in
    subst (λ (bytes : List ℕ). CanCount bytes formats s r a.line_by_line.tall.room) (sym c.block.ensures)
    (record {
      laid = laid.laid;
      lie = laid-lie block formats c.args.bars.boxing.is_inside r laid.laid;
      high = all-high block formats c.args.bars.boxing.is_inside r laid.laid;
      ruled = rules-placed s formats laid.places.rows laid.cells block (length r.columns) r.elements laid.laid.elements;
      places = laid.places;
      columns = refl;
      narrow = laid.narrow;
      wide = laid.wide;
      some = laid.some;
      few = omega (arith, few, c.self.invariant.lines);
      small = omega (arith, cut-few s (elements_of block formats r.elements), texts-few block formats r.elements, c.fields_stay_few.ensures);
    })

pub returns-clause-count : goal.returns-clause-count
returns-clause-count c =
    let r = c.args.rows.now in
    let formats = all_rows c.args.format.now.format in
    let s : Sheet = record { bars = c.args.bars; width = c.args.width; columns = r.columns } in
    subst (λ (bytes : List ℕ). c.count_cut.result ≡ cut_entries s (elements_of bytes formats r.elements)) c.block.ensures c.count_cut.ensures.count

pub returns-then-not-may_run_on-clause-count : goal.returns-then-not-may_run_on-clause-count
returns-then-not-may_run_on-clause-count c =
    let r = c.args.rows.now in
    let formats = all_rows c.args.format.now.format in
    let block = block_of c.args.text.now in
    let laid = c.requires in
    let s : Sheet = record { bars = c.args.bars; width = c.args.width; columns = r.columns } in
    let off : c.may_run_on.result ≡ false = c.if-not-may_run_on.true in
    sym (none-cut s (elements_of block formats r.elements)
    (rows-wide block formats (c.may_run_on.ensures off) (length r.columns) r.elements laid.laid.elements))
