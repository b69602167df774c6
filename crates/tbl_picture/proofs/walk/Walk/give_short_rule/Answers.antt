use Rattle.std.proofs.Common.{◌≡◌, ℕ, sym, ap, ◌∙◌}
use Rattle.tbl_layout.specs.Columns.{widest_entry}
use Rattle.tbl_layout.specs.declared.entry.EntryKind.{EntryKind}
use Rattle.tbl_layout.specs.declared.entry.EntryKind.TheVariants.{Short}
use Rattle.tbl_lines.specs.RowsLeft.{lines_left_by, repeated_lines}
use Rattle.tbl_picture.proofs.walk.Walk.give_short_rule.Goals as goal

pub give_repeated-requires-clause-repeats : goal.give_repeated-requires-clause-repeats
give_repeated-requires-clause-repeats c =
    let r = c.column-held.result in
    let kind : r.entry.kind ≡ Short = c.requires.kind r c.column-held.ensures in
    record {
      lines = λ bytes line.
          ap (λ (k : EntryKind). lines_left_by k bytes line r.column r.end r.entry r.place) kind
          ∙ ap (λ (b : ℕ). repeated_lines line b (widest_entry r.column.needs)) (sym c.sign_byte.ensures)
          ∙ ap (λ (n : ℕ). repeated_lines line c.sign_byte.result n) (sym c.widest_entry-count.ensures);
    }
