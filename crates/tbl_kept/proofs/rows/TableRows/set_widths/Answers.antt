use Rattle.std.proofs.Common.{refl, ◌∙◌}
use Rattle.tbl_format.specs.RowsServed.{all_rows}
use Rattle.tbl_kept.proofs.RowsLaidOut.{RowsLaid-all, alone-filled, columns-all, count-all, elements_of-all, kept-barred, laid-widened, length-needed, length-widened, length-with_bars, within-filled}
use Rattle.tbl_kept.proofs.rows.TableRows.set_widths.Goals as goal

pub fill_blocks-requires-clause-kept : goal.fill_blocks-requires-clause-kept
fill_blocks-requires-clause-kept c =
    rw (c.set_bars.ensures, c.asked-asked.ensures.value)
    (kept-barred c.args.bytes.now (all_rows c.args.format.now.format) c.args.bars c.args.line_length c.args.format.now.format.asked c.args.self.now c.requires.kept)

pub fill_blocks-requires-clause-columns : goal.fill_blocks-requires-clause-columns
fill_blocks-requires-clause-columns c =
    rw (c.set_bars.ensures, c.asked-asked.ensures.value) (length-with_bars c.args.format.now.format.asked c.args.self.now.columns ∙ c.requires.columns)

pub fit_rows-requires-clause-kept : goal.fit_rows-requires-clause-kept
fit_rows-requires-clause-kept c =
    rw (c.set_needed.ensures, c.fill_blocks.ensures.value, c.set_bars.ensures, c.asked-asked.ensures.value)
    (within-filled c.args.bytes.now (all_rows c.args.format.now.format) c.args.bars c.args.line_length c.args.format.now.format.asked c.args.self.now c.requires.kept)

pub fit_rows-requires-clause-columns : goal.fit_rows-requires-clause-columns
fit_rows-requires-clause-columns c =
    rw (c.set_needed.ensures, c.fill_blocks.ensures.value, c.set_bars.ensures, c.asked-asked.ensures.value)
    (length-needed c.args.bytes.now (all_rows c.args.format.now.format) c.args.bars c.args.line_length c.args.format.now.format.asked c.args.self.now c.requires.kept
    ∙ c.requires.columns)

pub set_heights-requires-clause-within : goal.set_heights-requires-clause-within
set_heights-requires-clause-within c =
    rw (c.make_equal.ensures, c.fit_rows.ensures, c.set_needed.ensures, c.fill_blocks.ensures.value, c.set_bars.ensures, c.asked-asked.ensures.value)
    (within-filled c.args.bytes.now (all_rows c.args.format.now.format) c.args.bars c.args.line_length c.args.format.now.format.asked c.args.self.now c.requires.kept)

pub set_heights-requires-clause-columns : goal.set_heights-requires-clause-columns
set_heights-requires-clause-columns c =
    rw (c.make_equal.ensures, c.fit_rows.ensures, c.set_needed.ensures, c.fill_blocks.ensures.value, c.set_bars.ensures, c.asked-asked.ensures.value)
    (length-widened c.args.bytes.now (all_rows c.args.format.now.format) c.args.bars c.args.line_length c.args.format.now.format.asked c.args.self.now c.requires.kept
    ∙ c.requires.columns)

pub returns : goal.returns
returns c =
    let bytes = c.args.bytes.now in
    let formats = all_rows c.args.format.now.format in
    let bars = c.args.bars in
    let line_length = c.args.line_length in
    let asked = c.args.format.now.format.asked in
    let k = c.args.self.now in
    let kept = c.requires.kept in
    let columns = c.requires.columns in
    let same = rw (c.make_equal.ensures, c.fit_rows.ensures, c.set_needed.ensures, c.fill_blocks.ensures.value, c.set_bars.ensures, c.asked-asked.ensures.value) at c.set_heights.ensures in
    let is = same bytes (laid-widened bytes formats bars line_length asked k kept columns) (alone-filled bytes formats bars line_length asked k kept) in
    record {
      laid = rw is (RowsLaid-all bytes formats bars line_length asked k kept columns bars.boxing.is_inside);
      elements = rw is (elements_of-all bytes formats bars line_length asked k kept columns bars.boxing.is_inside);
      columns = rw is (columns-all bytes formats bars line_length asked k kept columns);
      count = rw is (count-all bytes formats bars line_length asked k kept bars.boxing.is_inside);
      rooms = rw is (record { entries = refl; elements = refl; columns = refl });
      room = c.fill_blocks.ensures.room;
    }
