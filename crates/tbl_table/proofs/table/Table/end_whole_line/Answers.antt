use Rattle.std.proofs.Common.{List, ℕ, [], length, length-append, ◌≡◌, refl, sym, ap, ◌∙◌, arith}
use Rattle.tbl_data.specs.declared.table_data.TableData.{TableData}
use Rattle.tbl_kept.specs.Rows.{entries_of}
use Rattle.tbl_kept.specs.TableText.{text_ended}
use Rattle.tbl_table.specs.Begun.{begun_in}
use Rattle.tbl_table.proofs.BegunLines.{count_is}
use Rattle.tbl_table.proofs.FormatLines.{whole-len}
use Rattle.tbl_table.proofs.LineEnds.{LineTaken, all-kept, block-len, block-line, end-fits, end-read, end-told, one-read, take-behind, take-fits, take-settled, whole-most}
use Rattle.tbl_table.proofs.TableFits.{few-formats}
use Rattle.tbl_table.proofs.table.Table.end_whole_line.Goals.{After-take_line-self-inside}
use Rattle.tbl_table.proofs.table.Table.end_whole_line.Goals as goal

pub take_line-self-inside-requires : goal.take_line-self-inside-requires
take_line-self-inside-requires c =
    let a = c.self.inside in
    let fits = c.self.invariant.parts in
    let room = rw (← c.self.view_is) at c.requires.room in
    let is = rw (← c.self.view_is) at c.requires.phase in
    let from_is = c.open_start-from.ensures in
    let to_is = ap (λ (b : List ℕ). length b) c.block-to.ensures in
    let all = all-kept fits is in
    let len = block-len fits is in
    let most = whole-most a.text.pending a.text.line in
    let read = length-append a.text.read a.text.line in
    record {
      order = omega (arith, from_is, to_is, len);
      start = sym from_is;
      within = omega (arith, to_is);
      small = omega (arith, to_is, len, whole-len fits, room, read, fits.rooms.small);
      one_line = rw (from_is, block-line fits is (length c.block-to.result.now) to_is) fits.bytes.one_line;
      fits = take-fits fits is;
      behind = rw from_is (take-behind fits is);
      settled = rw from_is (take-settled fits is);
      formats = few-formats fits;
      few = omega (arith, fits.rooms.entries, fits.rooms.small);
      entries = omega (arith, from_is, to_is, len, fits.rows.entries, all (entries_of a.kept.rows), fits.rooms.entries, most, room, read);
      elements = omega (arith, fits.rows.elements, fits.rooms.elements, fits.bytes.few, one-read fits is, all (length a.kept.rows.elements));
      notes = omega (arith, from_is, to_is, len, fits.messages.few, fits.rooms.notes, most, room, read);
    }

-- the line is taken
line : (c : After-take_line-self-inside)
    → LineTaken c.self.inside c.open_start-from.result (length c.block-to.result.now) c.args.number c.take_line-self-inside.result c.take_line-self-inside.new.self
line c =
    let made = c.take_line-self-inside.ensures in
    record {
      fits = c.self.invariant.parts;
      is = rw (← c.self.view_is) at c.requires.phase;
      from_is = c.open_start-from.ensures;
      table = made.table c.self.inside.options refl;
      behind = made.fits;
      ends = made.ends;
      settled = made.settled;
      entries = made.entries;
      notes = made.notes;
      to_tell = made.to_tell;
      rooms = made.rooms;
    }

pub invariant_of-self : goal.invariant_of-self
invariant_of-self c =
    let room = rw (← c.self.view_is) at c.requires.room in
    let new : TableData = c.take_line-self-inside.new.self in
    let text_is : c.end_line.new.self ≡ text_ended c.self.inside.text = c.end_line.ensures ∙ ap text_ended c.take_line-self-inside.ensures.text in
    let begun : c.at_start-self-inside.result ≡ begun_in c.take_line-self-inside.result new.format.format [] =
    c.at_start-self-inside.ensures new.format.format (count_is new.format.format c.count.result c.count.ensures.value) in
    record {
      parts = rw (text_is, begun)
          (end-fits (line (goal.at.invariant_of-self c).After-take_line-self-inside) (ap (λ (b : List ℕ). length b) c.block-to.ensures) room);
      giving = c.give_nothing.ensures.nothing.can c.end_line.new.self new.rows new.format;
      columns = c.give_nothing.ensures.room ∙ c.self.invariant.columns;
    }

pub returns : goal.returns
returns c =
    let a = c.self.inside in
    let room = rw (← c.self.view_is) at c.requires.room in
    let here = line (goal.at.returns c).After-take_line-self-inside in
    let new : TableData = c.take_line-self-inside.new.self in
    let text_is : c.end_line.new.self ≡ text_ended a.text = c.end_line.ensures ∙ ap text_ended c.take_line-self-inside.ensures.text in
    let to_is = ap (λ (b : List ℕ). length b) c.block-to.ensures in
    rw (← c.self.view_is, text_is)
    (λ i. record {
      limits = a.limits;
      reading = end-read here to_is room i;
      told = end-told here to_is room i;
      to_come = c.give_nothing.ensures.nothing.coming (text_ended a.text) new.rows new.format i;
    })
