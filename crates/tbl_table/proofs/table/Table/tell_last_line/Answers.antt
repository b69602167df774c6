use Rattle.std.proofs.Common.{◌++◌, ap, sym, ◌∙◌, append-nil, refl}
use Rattle.tbl_data.specs.TableRead.{TableRead}
use Rattle.tbl_options.specs.Notes.{told_of_all}
use Rattle.tbl_kept.specs.Joined.{behind_joined}
use Rattle.tbl_kept.specs.TableText.{KeptText}
use Rattle.tbl_table.specs.Kept.{table_of}
use Rattle.tbl_table.specs.Table.{is_bad, notes}
use Rattle.tbl_table.proofs.LastLines.{bad-last, done-by, is_bad-by, notes-by, whole-bad}
use Rattle.tbl_table.proofs.NotesKept.{told-longer}
use Rattle.tbl_table.proofs.OtherLines.{fault-read}
use Rattle.tbl_table.proofs.table.Table.tell_last_line.Goals as goal

pub invariant_of-self : goal.invariant_of-self
invariant_of-self c =
    let a = c.self.inside in
    let room = rw (← c.self.view_is) at c.requires.room in
    record {
      parts = rw c.complete.ensures (whole-bad c.self.invariant.parts c.in-Bad.is room);
      giving = c.give_nothing.ensures.nothing.can c.complete.new.self a.kept.rows a.kept.format;
      columns = c.give_nothing.ensures.room ∙ c.self.invariant.columns;
    }

pub returns-in-Bad : goal.returns-in-Bad
returns-in-Bad c =
    let a = c.self.inside in
    let reads = fault-read c.self.invariant.parts c.in-Bad.is in
    let t : TableRead = table_of a.phase a.options a.text a.kept in
    let new : TableRead = table_of a.phase a.options c.complete.new.self a.kept in
    let same = sym (bad-last t c.args.number a.text.line c.in-Bad.is (done-by a reads.alone reads.fits.closed)) in
    rw (← c.self.view_is)
    (record {
      answer = is_bad-by new a.phase refl ∙ sym (is_bad-by t a.phase refl) ∙ ap is_bad same;
      told = notes-by new t.notes
          (ap (λ (k : KeptText). told_of_all k.settled a.kept.notes.notes) c.complete.ensures
          ∙ told-longer a.text.settled (behind_joined a.text.pending a.text.line) a.kept.notes.notes reads.fits.notes)
          ∙ sym (notes-by t t.notes refl) ∙ ap notes same;
      bytes = rw c.complete.ensures (append-nil (a.text.read ++ a.text.line));
      limits = refl;
    })
