use Rattle.std.proofs.Common.{◌≡◌, ℕ, get_or, length, sym, ap, ◌∙◌, arith}
use Rattle.tbl_layout.specs.KeptEntries.{no_entry}
use Rattle.tbl_layout.specs.declared.entry.Entry.{Entry}
use Rattle.tbl_picture.specs.Walks.{KeptWalk, lent_format, lent_row}
use Rattle.tbl_picture.proofs.ColumnSteps.{entry-there}
use Rattle.tbl_lines.proofs.GivenFields.{given-there}
use Rattle.tbl_picture.proofs.walk.Walk.kind.Goals as goal

pub returns : goal.returns
returns c = λ held at.
    let lent = c.args.row.now in
    let w = c.args.self.now in
    let view = ap (λ (k : KeptWalk). length k.behind) c.self.view_is in
    let same : c.len.result ≡ length w.behind = omega (arith, c.len.ensures, c.self.inside.behind.ok.0, view) in
    ap (λ (e : Entry). e.kind)
    (ap (λ (n : ℕ). get_or lent.entries.now n no_entry) same
    ∙ sym (given-there (lent_format lent) lent.entries.now (length w.behind) c.requires.given no_entry)
    ∙ entry-there (lent_row lent) w held no_entry at)
