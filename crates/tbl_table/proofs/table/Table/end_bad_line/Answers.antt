use Rattle.std.proofs.Common.{[], ◌∷◌, ◌++◌, ◌∙◌}
use Rattle.input_source.specs.Bytes.{newline}
use Rattle.tbl_kept.specs.Joined.{behind_joined}
use Rattle.tbl_kept.specs.TableText.{text_ended}
use Rattle.tbl_table.proofs.NotesKept.{told-longer}
use Rattle.tbl_table.proofs.OtherLines.{bad-fits, bad-read}
use Rattle.tbl_table.proofs.table.Table.end_bad_line.Goals as goal

pub invariant_of-self : goal.invariant_of-self
invariant_of-self c =
    let a = c.self.inside in
    let room = rw (← c.self.view_is) at c.requires.room in
    let is = rw (← c.self.view_is) at c.requires.phase in
    record {
      parts = rw c.end_line.ensures (bad-fits c.self.invariant.parts is room);
      giving = c.give_nothing.ensures.nothing.can c.end_line.new.self a.kept.rows a.kept.format;
      columns = c.give_nothing.ensures.room ∙ c.self.invariant.columns;
    }

pub returns : goal.returns
returns c =
    let a = c.self.inside in
    let fits = c.self.invariant.parts in
    let is = rw (← c.self.view_is) at c.requires.phase in
    let more = behind_joined a.text.pending a.text.line ++ newline ∷ [] in
    rw (← c.self.view_is, c.end_line.ensures)
    (λ i. record {
      limits = a.limits;
      reading = bad-read fits a.options is i;
      told = told-longer a.text.settled more a.kept.notes.to_tell fits.messages.telling i;
      to_come = c.give_nothing.ensures.nothing.coming (text_ended a.text) a.kept.rows a.kept.format i;
    })
