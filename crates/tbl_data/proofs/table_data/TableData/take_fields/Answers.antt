use Rattle.std.proofs.Common.{◌≡◌, ◌+◌, ◌-◌, ◌<◌, ℕ, List, length, subst, sym, ap, ◌∙◌, arith}
use Rattle.std.specs.List.{slice_range}
use Rattle.tbl_data.specs.LineTaken.{Makes, TakesField, RowFits, cells_next, fields_made, last_made, left_from}
use Rattle.tbl_data.specs.declared.phase.Phase.TheVariants.{InData}
use Rattle.tbl_data.proofs.LineFields.{fields-end, fields-last, fields-next}
use Rattle.tbl_kept.specs.TableText.{KeptText, block_of}
use Rattle.tbl_layout.proofs.Fields.{field_len, length-part}
use Rattle.tbl_data.proofs.table_data.TableData.take_fields.Goals as goal
use Rattle.tbl_data.proofs.table_data.TableData.take_fields.Goals.{At-loop-text, After-field_len}

fits : (c : At-loop-text) → RowFits (block_of c.loop-text.text) c.loop-text.self
fits c = subst (λ (t : KeptText). RowFits (block_of t) c.loop-text.self) (sym c.loop-text.invariant.text) c.loop-text.invariant.so_far.fits

len : (c : After-field_len) → c.field_len.result ≡ field_len c.args.line.separator (left_from c.args.text.now c.args.line c.loop-text.at)
len c =
    let line = c.args.line in
    c.field_len.ensures.value ∙ ap (λ (b : List ℕ). field_len line.separator (slice_range b c.loop-text.at line.to)) (c.block.ensures ∙ ap block_of c.loop-text.invariant.text)

pub returns-then-end-line-clause-made : goal.returns-then-end-line-clause-made
returns-then-end-line-clause-made c =
    let line = c.args.line in
    let at = c.loop-text.at in
    let now = c.loop-text.self in
    fields-last c.loop-text.invariant.so_far c.requires.lies (len (goal.at.returns-then-end-line-clause-made c).After-field_len) c.if-end-line.true
    (subst (λ (t : KeptText). Makes t line (line.to - at + 1) (last_made t line at c.args.had_surplus now) InData now c.take_last.new.self)
    c.loop-text.invariant.text c.take_last.ensures.made)

pub take_field-requires-clause-fits : goal.take_field-requires-clause-fits
take_field-requires-clause-fits c = fits (goal.at.take_field-requires-clause-fits c).At-loop-text

pub loop-text-preserved : goal.loop-text-preserved
loop-text-preserved c =
    let line = c.args.line in
    let at = c.loop-text.at in
    let now = c.loop-text.self in
    let text = c.loop-text.invariant.text in
    let so_far = c.loop-text.invariant.so_far in
    let cell : length now.rows.row < cells_next now = omega (arith, c.loop-text-test.true, c.row_len.ensures, c.cells_next-cells.ensures, so_far.cells) in
    let more : at + c.field_len.result < line.to = omega (arith, c.if-end-line.false, c.field_len.ensures.within, ap (λ (b : List ℕ). length (slice_range b at line.to)) (c.block.ensures ∙ ap block_of text), length-part (block_of c.args.text.now) at line.to so_far.within c.requires.lies.within) in
    record {
      text = c.take_field.ensures.text ∙ text;
      so_far = fields-next so_far c.requires.lies (len (goal.at.loop-text-preserved c).After-field_len) cell more (omega (arith, c.requires.at.from, so_far.order))
          (subst (λ (t : KeptText). TakesField t line at (at + c.field_len.result) now c.take_field.new.self) text c.take_field.ensures.taken);
    }

pub take_surplus-requires-clause-fits : goal.take_surplus-requires-clause-fits
take_surplus-requires-clause-fits c = fits (goal.at.take_surplus-requires-clause-fits c).At-loop-text

pub returns-clause-made : goal.returns-clause-made
returns-clause-made c =
    let line = c.args.line in
    let at = c.loop-text.at in
    let now = c.loop-text.self in
    fields-end c.loop-text.invariant.so_far
    (subst (λ (t : KeptText). Makes t line (line.to - at + 1) (fields_made t line at c.args.had_surplus now) InData now c.take_surplus.new.self)
    c.loop-text.invariant.text c.take_surplus.ensures.made)
