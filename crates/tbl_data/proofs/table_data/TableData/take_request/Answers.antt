use Rattle.std.proofs.Common.{◌+◌, ◌-◌, refl, arith}
use Rattle.tbl_data.specs.LineTaken.{block_line_made}
use Rattle.tbl_data.proofs.LineSteps.{request-notes, text-told}
use Rattle.tbl_layout.specs.declared.data_lines.BlockLineKind.TheVariants.{Request}
use Rattle.tbl_data.proofs.table_data.TableData.take_request.Goals as goal

pub returns-clause-made : goal.returns-clause-made
returns-clause-made c =
    let d = c.args.self.now in
    let k = c.args.text.now in
    let line = c.args.line in
    let mid = c.extend_block.new.self in
    let made = c.extend_block.ensures.made k c.requires.lies c.requires.one_line c.requires.fits c.requires.behind in
    let few = request-notes k line mid.notes c.tell.new.notes c.tell.ensures.notes in
    text-told k line (line.to - line.from + 1) d mid c.requires.opened made c.tell.new.notes _ c.tell.ensures.notes (omega (arith, few))
    (block_line_made Request k line d) (record mid { notes = c.tell.new.notes }) refl refl (λ len. (tt, tt)) (λ options sep. refl)
