use Rattle.std.proofs.Common.{◌≡◌, ◌+◌, ◌-◌, ℕ, List, sym, ap, ◌∙◌, arith}
use Rattle.std.specs.List.{slice_range}
use Rattle.tbl_data.proofs.LineFields.{surplus-ends, surplus-fits, surplus-opens}
use Rattle.tbl_kept.specs.TableText.{block_of}
use Rattle.tbl_layout.specs.Data.{fields}
use Rattle.tbl_layout.specs.DataLines.{ends_in_block}
use Rattle.tbl_data.proofs.RowSteps.{row-opened, rules-in-front}
use Rattle.tbl_data.proofs.table_data.TableData.take_surplus.Goals as goal
use Rattle.tbl_data.proofs.table_data.TableData.take_surplus.Goals.{After-tell_surplus, After-ends_in_block}
use Rattle.tbl_data.specs.LineTaken.{RowFits, left_from}

ends : (c : After-ends_in_block) → ends_in_block (fields c.args.line.separator (left_from c.args.text.now c.args.line c.args.at)) ≡ c.ends_in_block.result
ends c =
    let bytes = c.block.ensures ∙ ap block_of c.tell_surplus.ensures.text in
    ap (λ (b : List ℕ). ends_in_block (fields c.args.line.separator (slice_range b c.args.at c.args.line.to))) (sym bytes) ∙ sym c.ends_in_block.ensures

fits : (c : After-tell_surplus) → RowFits (block_of c.args.text.now) (record c.args.self.now { notes = c.tell_surplus.new.notes })
fits c =
    surplus-fits c.args.text.now c.args.line c.args.at c.args.had_surplus _ c.requires.full c.requires.fits.served _ c.tell_surplus.ensures.notes c.requires.fits

pub returns-then-ends_in_block-clause-made : goal.returns-then-ends_in_block-clause-made
returns-then-ends_in_block-clause-made c =
    let at = goal.at.returns-then-ends_in_block-clause-made c in
    let new = c.open_block.ensures in
    let block = new.opens (block_of c.args.text.now) c.requires.lies.within (λ is. absurd (cc)) (fits at.After-tell_surplus) in
    surplus-opens c.args.text.now c.args.line c.args.at c.args.had_surplus _ c.requires.full c.requires.fits.served _ c.tell_surplus.ensures.notes
    (c.args.line.to - c.args.at + 1) _ (omega arith) (ends at.After-ends_in_block ∙ c.if-ends_in_block.true) block new.ends new.settled new.grown

pub returns-else-ends_in_block-clause-made : goal.returns-else-ends_in_block-clause-made
returns-else-ends_in_block-clause-made c =
    let at = goal.at.returns-else-ends_in_block-clause-made c in
    let new = c.end_row.ensures in
    surplus-ends c.args.text.now c.args.line c.args.at c.args.had_surplus _ c.requires.full c.requires.fits.served _ c.tell_surplus.ensures.notes
    (c.args.line.to - c.args.at + 1) _ (omega arith) (ends at.After-ends_in_block ∙ c.if-ends_in_block.false)
    (new.ends (block_of c.args.text.now) (fits at.After-tell_surplus)) (new.settled c.args.line.to) new.closed new.grown

pub end_row-requires-clause-opened : goal.end_row-requires-clause-opened
end_row-requires-clause-opened c = row-opened (block_of c.args.text.now) c.args.self.now c.requires.fits

pub end_row-requires-clause-rules : goal.end_row-requires-clause-rules
end_row-requires-clause-rules c = rules-in-front (block_of c.args.text.now) c.args.self.now c.requires.fits
