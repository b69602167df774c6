use Rattle.std.proofs.Common.{◌≡◌, ℕ, ◌-◌, length, sym, ap, subst, ◌∙◌}
use Rattle.tbl_layout.specs.KeptEntries.{no_entry}
use Rattle.tbl_layout.specs.declared.data_lines.RuleSign.{RuleSign}
use Rattle.tbl_layout.specs.declared.entry.Entry.{Entry}
use Rattle.tbl_layout.specs.declared.entry.EntryKind.{EntryKind}
use Rattle.tbl_lines.specs.RowsLeft.{lines_left_by, repeated_lines}
use Rattle.tbl_picture.specs.Walks.{lent_row}
use Rattle.tbl_picture.proofs.ColumnSteps.{entry-there}
use Rattle.tbl_lines.proofs.GivenFields.{IsUnfilled, empty-on, unfilled-behind}
use Rattle.tbl_picture.proofs.walk.Walk.give_unfilled.Goals as goal

pub give_repeated-requires-clause-repeats : goal.give_repeated-requires-clause-repeats
give_repeated-requires-clause-repeats c =
    let r = c.any_column-held.result in
    record {
      lines = λ bytes line.
          ap (λ (k : EntryKind). lines_left_by k bytes line r.column r.end r.entry r.place) c.in-Ruled.is
          ∙ ap (λ (b : ℕ). repeated_lines line b (r.end - r.column.start)) (sym c.sign_byte.ensures)
          ∙ ap (λ (n : ℕ). repeated_lines line c.sign_byte.result n) (sym c.rule_width.ensures);
    }

pub pass_empty-requires-clause-empty : goal.pass_empty-requires-clause-empty
pass_empty-requires-clause-empty c = λ held at.
    let lent = c.args.row.now in
    let row = lent_row lent in
    let w = c.args.self.now in
    let there = c.any_column-held.result in
    let here = entry-there row w held no_entry at in
    let same : held.entry ≡ there.entry = sym here ∙ entry-there row w there no_entry c.any_column-held.ensures in
    let unfilled = subst IsUnfilled here (unfilled-behind lent.keys.now lent.last_bars lent.entries.now (length w.behind) c.requires.unfilled) in
    empty-on row.bytes w.line held unfilled
    (λ (sign : RuleSign) is. c.in_default.not-Ruled sign (sym (ap (λ (e : Entry). e.kind) same) ∙ is))
