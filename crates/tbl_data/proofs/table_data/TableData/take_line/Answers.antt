use Rattle.std.proofs.Common.{ap, map, ◌∙◌}
use Rattle.std.specs.List.{slice_range}
use Rattle.tbl_data.specs.OpenBlocks.{is_open}
use Rattle.tbl_data.specs.TableData.{table_by}
use Rattle.tbl_data.specs.declared.phase.Phase.TheVariants.{InData}
use Rattle.tbl_data.proofs.EndsKept.{ends-later}
use Rattle.tbl_data.proofs.LineSteps.{some-open, whole-closed, whole-open}
use Rattle.tbl_kept.specs.Joined.{ends_joined}
use Rattle.tbl_kept.specs.TableText.{block_of}
use Rattle.tbl_layout.specs.KeptEntries.{content_of}
use Rattle.tbl_data.proofs.table_data.TableData.take_line.Goals as goal

pub returns-in-Nothing-clause-table : goal.returns-in-Nothing-clause-table
returns-in-Nothing-clause-table c options sep =
    let d = c.args.self.now in
    let bytes = block_of c.args.text.now in
    c.take_data_line.ensures.made.table options sep
    ∙ whole-closed d.open (ends_joined c.args.text.now.pending) c.args.number (slice_range bytes c.args.from c.args.to) (map (content_of bytes) d.rows.row) (table_by InData options bytes d) c.in-Nothing.is

pub returns-in-Kept-clause-table : goal.returns-in-Kept-clause-table
returns-in-Kept-clause-table c options sep =
    let d = c.args.self.now in
    let bytes = block_of c.args.text.now in
    c.take_block_line.ensures.made.table options sep
    ∙ whole-open d.open (ends_joined c.args.text.now.pending) c.args.number (slice_range bytes c.args.from c.args.to) (map (content_of bytes) d.rows.row) (table_by InData options bytes d) (some-open d.open (ap is_open c.in-Kept.is))

pub returns-in-Dropped-clause-table : goal.returns-in-Dropped-clause-table
returns-in-Dropped-clause-table c options sep =
    let d = c.args.self.now in
    let bytes = block_of c.args.text.now in
    c.take_block_line-in-Dropped.ensures.made.table options sep
    ∙ whole-open d.open (ends_joined c.args.text.now.pending) c.args.number (slice_range bytes c.args.from c.args.to) (map (content_of bytes) d.rows.row) (table_by InData options bytes d) (some-open d.open (ap is_open c.in-Dropped.is))

pub returns-in-Nothing-clause-settled : goal.returns-in-Nothing-clause-settled
returns-in-Nothing-clause-settled c = c.take_data_line.ensures.made.settled (ends-later c.args.from c.args.to c.requires.order c.args.self.now c.requires.settled)

pub returns-in-Kept-clause-settled : goal.returns-in-Kept-clause-settled
returns-in-Kept-clause-settled c = c.take_block_line.ensures.made.settled (ends-later c.args.from c.args.to c.requires.order c.args.self.now c.requires.settled)

pub returns-in-Dropped-clause-settled : goal.returns-in-Dropped-clause-settled
returns-in-Dropped-clause-settled c = c.take_block_line-in-Dropped.ensures.made.settled (ends-later c.args.from c.args.to c.requires.order c.args.self.now c.requires.settled)
