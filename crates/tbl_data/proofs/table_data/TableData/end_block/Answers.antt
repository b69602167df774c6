use Rattle.std.proofs.Common.{◌≡◌, ◌+◌, ◌-◌, ◌<◌, ℕ, List, length, ap, arith, ◌∙◌}
use Rattle.std.specs.List.{slice_range}
use Rattle.tbl_data.proofs.LineSteps.{end-alone, end-fields, row-fits}
use Rattle.tbl_kept.specs.TableText.{block_of}
use Rattle.tbl_layout.proofs.Fields.{field_len, length-part}
use Rattle.tbl_data.proofs.RowSteps.{row-opened, rules-in-front}
use Rattle.tbl_data.proofs.table_data.TableData.end_block.Goals as goal

pub returns-then-end-line-clause-made : goal.returns-then-end-line-clause-made
returns-then-end-line-clause-made c =
    let d = c.args.self.now in
    let k = c.args.text.now in
    let line = c.args.line in
    let count = line.to - line.from + 1 in
    let len : c.field_len.result ≡ field_len line.separator (slice_range (block_of k) (line.from + 2) line.to) =
    c.field_len.ensures.value ∙ ap (λ (b : List ℕ). field_len line.separator (slice_range b (line.from + 2) line.to)) c.block.ensures in
    let fits = row-fits (block_of k) d c.requires.formats c.requires.fits in
    end-alone k line c.requires.lies d c.requires.fits c.requires.opened c.requires.two c.field_len.result len count c.end_row.new.self c.if-end-line.true
    (c.end_row.ensures.ends (block_of k) (record { kept = fits.kept; columns = fits.columns; served = fits.served; small = fits.small; whole = fits.whole; notes = fits.notes }))
    (c.end_row.ensures.settled line.to) c.end_row.ensures.closed c.end_row.ensures.grown

pub returns-clause-made : goal.returns-clause-made
returns-clause-made c =
    let d = c.args.self.now in
    let k = c.args.text.now in
    let line = c.args.line in
    let count = line.to - line.from + 1 in
    let at = line.from + 2 in
    let len : c.field_len.result ≡ field_len line.separator (slice_range (block_of k) at line.to) =
    c.field_len.ensures.value ∙ ap (λ (b : List ℕ). field_len line.separator (slice_range b at line.to)) c.block.ensures in
    let more : at + c.field_len.result < line.to = omega (arith, c.if-end-line.false, c.field_len.ensures.within, ap (λ (b : List ℕ). length (slice_range b at line.to)) c.block.ensures, length-part (block_of k) at line.to c.requires.two c.requires.lies.within) in
    end-fields k line c.requires.lies d c.requires.fits c.requires.opened c.requires.two c.field_len.result len count c.take_fields.new.self
    c.had_surplus-had_surplus.result c.had_surplus-had_surplus.ensures more (omega (arith, more)) c.take_fields.ensures.made

pub end_row-requires-clause-opened : goal.end_row-requires-clause-opened
end_row-requires-clause-opened c = row-opened (block_of c.args.text.now) c.args.self.now (row-fits (block_of c.args.text.now) c.args.self.now c.requires.formats c.requires.fits)

pub end_row-requires-clause-rules : goal.end_row-requires-clause-rules
end_row-requires-clause-rules c = rules-in-front (block_of c.args.text.now) c.args.self.now (row-fits (block_of c.args.text.now) c.args.self.now c.requires.formats c.requires.fits)
