use Rattle.std.proofs.Common.{◌≡◌, ◌+◌, ◌-◌, ℕ, refl, ap, arith, ◌∙◌}
use Rattle.tbl_data.specs.LineTaken.{block_line_made, left_from, more_notes, notes_kept}
use Rattle.tbl_data.proofs.LineSteps.{text-notes, text-told}
use Rattle.tbl_data.proofs.NotesTold.{items-within}
use Rattle.tbl_kept.specs.Joined.{ends_joined}
use Rattle.tbl_layout.specs.declared.data_lines.BlockLineKind.TheVariants.{Text}
use Rattle.tbl_text.specs.Items.{items}
use Rattle.tbl_text.specs.Measuring.{notes_from}
use Rattle.tbl_data.proofs.table_data.TableData.take_text.Goals as goal

pub returns-in-Kept-clause-made : goal.returns-in-Kept-clause-made
returns-in-Kept-clause-made c =
    let d = c.args.self.now in
    let k = c.args.text.now in
    let line = c.args.line in
    let mid = c.extend_block.new.self in
    let notes = notes_from 0 (items (left_from k line line.from)) in
    let kept = notes_kept (ends_joined k.pending) line.number 0 notes in
    let here : line.from - line.from ≡ 0 = omega arith in
    let told : c.tell_items.new.notes ≡ more_notes kept mid.notes =
    c.tell_items.ensures.notes ∙ ap (λ (p : ℕ). more_notes (notes_kept (ends_joined k.pending) line.number p notes) mid.notes) here in
    let made = c.extend_block.ensures.made k c.requires.lies c.requires.one_line c.requires.fits c.requires.behind in
    text-told k line (line.to - line.from + 1) d mid c.requires.opened made c.tell_items.new.notes kept told (omega (arith, c.tell_items.ensures.few))
    (block_line_made Text k line d) (record mid { notes = c.tell_items.new.notes; escapes = c.tell_items.new.escapes }) refl c.tell_items.ensures.room
    (λ len. items-within (ends_joined k.pending) line.number 0 len notes) (λ options sep. text-notes k line d options c.in-Kept.is c.requires.fits)
