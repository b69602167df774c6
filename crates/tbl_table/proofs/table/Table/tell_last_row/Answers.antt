use Rattle.std.proofs.Common.{◌≡◌, ◌-◌, [], ◌++◌, append-nil, length, length-append, refl, sym, ap, ◌∙◌, arith, if◌then◌else◌}
use Rattle.tbl_data.specs.TableRead.{TableRead}
use Rattle.tbl_data.specs.declared.table_data.TableData.{TableData}
use Rattle.tbl_options.specs.Notes.{told_of_all}
use Rattle.tbl_kept.specs.Joined.{goes_on}
use Rattle.tbl_kept.specs.Rows.{entries_of}
use Rattle.tbl_kept.specs.TableText.{KeptText, block_of, text_whole}
use Rattle.tbl_table.specs.Begun.{begun_in}
use Rattle.tbl_table.specs.Kept.{table_of}
use Rattle.tbl_table.specs.Passing.{without_rows}
use Rattle.tbl_table.proofs.BegunLines.{count_is}
use Rattle.tbl_table.proofs.FormatLines.{whole-len}
use Rattle.tbl_table.proofs.LastLines.{is_bad-by, notes-by}
use Rattle.tbl_table.proofs.LastRows.{cut-by, last-bad, last-columns, last-fits, last-notes, slice-whole}
use Rattle.tbl_table.proofs.LineEnds.{LineTaken, all-kept, block-len, one-fault, one-read, take-behind, take-fits, take-settled, whole-most}
use Rattle.tbl_table.proofs.TableFits.{behind-len, few-formats}
use Rattle.tbl_table.proofs.table.Table.tell_last_row.Goals.{After-take_line-self-inside}
use Rattle.tbl_table.proofs.table.Table.tell_last_row.Goals as goal

pub take_line-self-inside-requires : goal.take_line-self-inside-requires
take_line-self-inside-requires c =
    let a = c.self.inside in
    let fits = c.self.invariant.parts in
    let is = rw (← c.self.view_is) at c.requires.phase in
    let room = rw (← c.self.view_is) at c.requires.room in
    let from = c.open_start-from.result in
    let to = c.end_of_line-to.result in
    let from_is : from ≡ length a.text.settled = c.open_start-from.ensures in
    let to_is : to ≡ length (block_of a.text) - (if goes_on a.text.line then 1 else 0) = c.end_of_line-to.ensures in
    let some = rw (← c.self.view_is) at c.requires.line in
    let all = all-kept fits is in
    let one = one-read fits is in
    let len = block-len fits is in
    let most = whole-most a.text.pending a.text.line in
    let cut = cut-by (goes_on a.text.line) in
    let read = length-append a.text.read a.text.line in
    record {
      order = omega (arith, from_is, to_is, len, cut, some, behind-len a.text.pending a.text.line);
      start = sym from_is;
      within = omega (arith, to_is);
      small = omega (arith, to_is, len, whole-len fits, room, read, fits.rooms.small);
      one_line = slice-whole fits is from to from_is;
      fits = take-fits fits is;
      behind = rw from_is (take-behind fits is);
      settled = rw from_is (take-settled fits is);
      formats = few-formats fits;
      few = omega (arith, fits.rooms.entries, fits.rooms.small);
      entries = omega (arith, from_is, to_is, cut, len, most, fits.rows.entries, all (entries_of a.kept.rows), one, fits.rooms.entries, room, read);
      elements = omega (arith, fits.rows.elements, fits.rooms.elements, fits.bytes.few, one, all (length a.kept.rows.elements));
      notes = omega (arith, from_is, to_is, cut, len, most, fits.messages.few, one-fault fits is, fits.rooms.notes, room, read);
    }

-- the last line is taken
line : (c : After-take_line-self-inside)
    → LineTaken c.self.inside c.open_start-from.result c.end_of_line-to.result c.args.number c.take_line-self-inside.result c.take_line-self-inside.new.self
line c =
    let made = c.take_line-self-inside.ensures in
    record {
      fits = c.self.invariant.parts;
      is = rw (← c.self.view_is) at c.requires.phase;
      from_is = c.open_start-from.ensures;
      table = made.table c.self.inside.options refl;
      behind = made.fits;
      ends = made.ends;
      settled = made.settled;
      entries = made.entries;
      notes = made.notes;
      to_tell = made.to_tell;
      rooms = made.rooms;
    }

pub drop_rows-requires : goal.drop_rows-requires
drop_rows-requires c =
    let some = rw (← c.self.view_is) at c.requires.line in
    last-columns (line (goal.at.drop_rows-requires c).After-take_line-self-inside) c.end_of_line-to.ensures some

pub invariant_of-self : goal.invariant_of-self
invariant_of-self c =
    let room = rw (← c.self.view_is) at c.requires.room in
    let some = rw (← c.self.view_is) at c.requires.line in
    let p = c.take_line-self-inside.result in
    let mid : TableData = c.take_line-self-inside.new.self in
    let text_is : c.complete.new.self ≡ text_whole c.self.inside.text = c.complete.ensures ∙ ap text_whole c.take_line-self-inside.ensures.text in
    let dropped : c.drop_rows.new.kept ≡ without_rows mid = c.drop_rows.ensures in
    let counts = rw dropped at c.count.ensures.value in
    let begun : c.at_start-self-inside.result ≡ begun_in p mid.format.format [] =
    c.at_start-self-inside.ensures mid.format.format (count_is mid.format.format c.count.result counts) in
    record {
      parts = rw (text_is, begun, dropped)
          (last-fits (line (goal.at.invariant_of-self c).After-take_line-self-inside) c.end_of_line-to.ensures some room);
      giving = c.give_nothing.ensures.nothing.can c.complete.new.self c.drop_rows.new.kept.rows c.drop_rows.new.kept.format;
      columns = c.give_nothing.ensures.room ∙ c.self.invariant.columns;
    }

pub returns : goal.returns
returns c =
    let a = c.self.inside in
    let some = rw (← c.self.view_is) at c.requires.line in
    let here = line (goal.at.returns c).After-take_line-self-inside in
    let mid : TableData = c.take_line-self-inside.new.self in
    let text_is : c.complete.new.self ≡ text_whole a.text = c.complete.ensures ∙ ap text_whole c.take_line-self-inside.ensures.text in
    let p = c.take_line-self-inside.result in
    let new : TableRead = table_of p a.options c.complete.new.self c.drop_rows.new.kept in
    rw (← c.self.view_is)
    (record {
      answer = is_bad-by new p refl ∙ last-bad here c.end_of_line-to.ensures some;
      told = notes-by new (told_of_all (block_of a.text) mid.notes.notes)
          (ap (λ (k : KeptText). told_of_all k.settled c.drop_rows.new.kept.notes.notes) text_is
          ∙ ap (λ (d : TableData). told_of_all (block_of a.text) d.notes.notes) c.drop_rows.ensures)
          ∙ last-notes here c.end_of_line-to.ensures some;
      bytes = rw text_is (append-nil (a.text.read ++ a.text.line));
      limits = refl;
    })
