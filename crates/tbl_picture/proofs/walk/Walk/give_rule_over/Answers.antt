use Rattle.std.proofs.Common.{◌≡◌, ℕ, ◌-◌, sym, ap, ◌∙◌}
use Rattle.tbl_layout.specs.declared.entry.EntryKind.{EntryKind}
use Rattle.tbl_layout.specs.declared.entry.EntryKind.TheVariants.{Ruled}
use Rattle.tbl_lines.specs.RowsLeft.{lines_left_by, repeated_lines}
use Rattle.tbl_picture.proofs.walk.Walk.give_rule_over.Goals as goal

pub give_repeated-requires-clause-repeats : goal.give_repeated-requires-clause-repeats
give_repeated-requires-clause-repeats c =
    let r = c.column-held.result in
    let kind : r.entry.kind ≡ Ruled c.args.sign = c.requires.kind r c.column-held.ensures in
    record {
      lines = λ bytes line.
          ap (λ (k : EntryKind). lines_left_by k bytes line r.column r.end r.entry r.place) kind
          ∙ ap (λ (b : ℕ). repeated_lines line b (r.end - r.column.start)) (sym c.sign_byte.ensures)
          ∙ ap (λ (n : ℕ). repeated_lines line c.sign_byte.result n) (sym c.rule_width.ensures);
    }
