use Rattle.std.proofs.Common.{◌≡◌, ◌+◌, ◌-◌, ℕ, List, true, false, sym, ap, ◌∙◌, arith}
use Rattle.std.specs.List.{slice_range}
use Rattle.tbl_data.proofs.LineFields.{last-ends, last-opens}
use Rattle.tbl_kept.specs.TableText.{block_of}
use Rattle.tbl_layout.specs.DataLines.{opens_block}
use Rattle.tbl_data.proofs.RowSteps.{row-opened, rules-in-front}
use Rattle.tbl_data.proofs.table_data.TableData.take_last.Goals as goal

pub returns-then-opens_block-clause-made : goal.returns-then-opens_block-clause-made
returns-then-opens_block-clause-made c =
    let d = c.args.self.now in
    let k = c.args.text.now in
    let line = c.args.line in
    let opens : opens_block (slice_range (block_of k) c.args.at line.to) ≡ true =
    ap (λ (bytes : List ℕ). opens_block (slice_range bytes c.args.at line.to)) (sym c.block.ensures) ∙ sym c.opens_block.ensures ∙ c.if-opens_block.true in
    let count = line.to - c.args.at + 1 in
    last-opens k line c.args.at c.args.had_surplus d c.requires.cell c.requires.fits.served count c.open_block.new.self (omega arith) opens
    (c.open_block.ensures.opens (block_of k) c.requires.lies.within (λ is. c.requires.cell) c.requires.fits)
    c.open_block.ensures.ends c.open_block.ensures.settled c.open_block.ensures.grown

pub returns-clause-made : goal.returns-clause-made
returns-clause-made c =
    let d = c.args.self.now in
    let k = c.args.text.now in
    let line = c.args.line in
    let count = line.to - c.args.at + 1 in
    let opens : opens_block (slice_range (block_of k) c.args.at line.to) ≡ false =
    ap (λ (bytes : List ℕ). opens_block (slice_range bytes c.args.at line.to)) (sym c.block.ensures) ∙ sym c.opens_block.ensures ∙ c.if-opens_block.false in
    let taken = c.take_field.ensures.taken in
    last-ends k line c.args.at c.args.had_surplus d c.requires.cell c.requires.fits.served count c.take_field.new.self c.end_row.new.self (omega arith) opens taken
    (c.end_row.ensures.ends (block_of k) taken.fits) (c.end_row.ensures.settled line.to) c.end_row.ensures.closed c.end_row.ensures.grown

pub end_row-requires-clause-opened : goal.end_row-requires-clause-opened
end_row-requires-clause-opened c =
    row-opened (block_of c.args.text.now) c.take_field.new.self c.take_field.ensures.taken.fits

pub end_row-requires-clause-rules : goal.end_row-requires-clause-rules
end_row-requires-clause-rules c =
    rules-in-front (block_of c.args.text.now) c.take_field.new.self c.take_field.ensures.taken.fits
