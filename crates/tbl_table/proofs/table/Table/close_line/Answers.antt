use Rattle.std.proofs.Common.{◌≡◌, ℕ, true, List, [], length, length-append, refl, sym, ap, subst, ◌∙◌, arith, is_some}
use Rattle.tbl_format.specs.KeyCounts.{StandsOnLine}
use Rattle.tbl_kept.specs.Joined.{behind_joined}
use Rattle.tbl_kept.specs.Rows.{entries_of}
use Rattle.tbl_kept.specs.TableText.{KeptText, text_closed}
use Rattle.tbl_table.specs.Table.{closed}
use Rattle.tbl_table.proofs.BlockCloses.{close-fits, close-read, close-told, closed-counted, line-before, line-closes, may-tell-some, mid-can, mid-formats, no-head}
use Rattle.tbl_table.proofs.LineEnds.{LineTaken, all-kept, one-read, take-behind, take-fits, take-settled}
use Rattle.tbl_table.proofs.TableFits.{few-formats, open-by}
use Rattle.tbl_table.proofs.table.Table.close_line.Goals.{After-take_line-self-inside}
use Rattle.tbl_table.proofs.table.Table.close_line.Goals as goal

pub take_line-self-inside-requires : goal.take_line-self-inside-requires
take_line-self-inside-requires c =
    let a = c.self.inside in
    let fits = c.self.invariant.parts in
    let some : is_some a.text.pending ≡ true = rw (← c.self.view_is) at c.requires.open in
    let is = open-by a.phase a.text.settled a.text.pending a.kept fits.by_phase some in
    let from_is : c.open_start-from.result ≡ length a.text.settled = c.open_start-from.ensures in
    let to_is : c.line_start-to.result ≡ length (text_closed a.text).settled = c.line_start-to.ensures.value in
    let len = length-append a.text.settled (behind_joined a.text.pending []) in
    let may = may-tell-some a.text.pending some in
    let all = all-kept fits is in
    record {
      order = omega (arith, from_is, to_is, len);
      start = sym from_is;
      within = c.line_start-to.ensures.within;
      small = omega (arith, to_is, fits.bytes.block, fits.bytes.few, fits.rooms.small, len);
      one_line = line-before a.text c.open_start-from.result c.line_start-to.result from_is to_is fits.bytes.one_line;
      fits = take-fits fits is;
      behind = rw from_is (take-behind fits is);
      settled = rw from_is (take-settled fits is);
      formats = few-formats fits;
      few = omega (arith, fits.rooms.entries, fits.rooms.small);
      entries = omega (arith, from_is, to_is, len, may, fits.rows.entries, all (entries_of a.kept.rows), fits.rooms.entries, fits.bytes.few);
      elements = omega (arith, fits.rows.elements, fits.rooms.elements, fits.bytes.few, one-read fits is, all (length a.kept.rows.elements));
      notes = omega (arith, from_is, to_is, len, may, fits.messages.few, fits.rooms.notes, fits.bytes.few);
    }

some : (c : After-take_line-self-inside) → is_some c.self.inside.text.pending ≡ true
some c = rw (← c.self.view_is) at c.requires.open

-- the line that goes on is taken
line : (c : After-take_line-self-inside)
    → LineTaken c.self.inside c.open_start-from.result c.line_start-to.result 0 c.take_line-self-inside.result c.take_line-self-inside.new.self
line c =
    let a = c.self.inside in
    let fits = c.self.invariant.parts in
    let made = c.take_line-self-inside.ensures in
    record {
      fits = fits;
      is = open-by a.phase a.text.settled a.text.pending a.kept fits.by_phase (some c);
      from_is = c.open_start-from.ensures;
      table = made.table a.options refl;
      behind = made.fits;
      ends = made.ends;
      settled = made.settled;
      entries = made.entries;
      notes = made.notes;
      to_tell = made.to_tell;
      rooms = made.rooms;
    }

pub end_block-requires : goal.end_block-requires
end_block-requires c =
    let here = (goal.at.end_block-requires c).After-take_line-self-inside in
    let to_is = c.line_start-to.ensures.value in
    record { small = mid-formats (line here) (some here) to_is; can = mid-can (line here) (some here) to_is }

pub on_line-self-inside-requires : goal.on_line-self-inside-requires
on_line-self-inside-requires c =
    let here = (goal.at.on_line-self-inside-requires c).After-take_line-self-inside in
    let fits = c.self.invariant.parts in
    let to_is = c.line_start-to.ensures.value in
    let closing = line-closes (line here) (some here) to_is c.end_block.new.kept c.end_block.ensures.done c.end_block.ensures.none in
    let counted = closed-counted (line here) (some here) to_is closing in
    let text_is : c.close.new.self ≡ text_closed c.self.inside.text = c.close.ensures ∙ ap text_closed c.take_line-self-inside.ensures.text in
    let line_is : c.line.result.now ≡ c.self.inside.text.line = c.line.ensures ∙ ap (λ (t : KeptText). t.line) text_is in
    record {
      phase = no-head c.take_line-self-inside.result _ _ c.take_line-self-inside.ensures.fits;
      is = record { row = c.count.ensures.row; place = subst (StandsOnLine 0) c.count.ensures.value.place counted.stands };
      few = omega (arith, c.count.ensures.value.columns, counted.asked, ap (λ (xs : List ℕ). length xs) line_is, fits.bytes.most, fits.bytes.few, fits.rooms.small);
    }

pub invariant_of-self : goal.invariant_of-self
invariant_of-self c =
    let here = (goal.at.invariant_of-self c).After-take_line-self-inside in
    let new = c.end_block.new.kept in
    let to_is = c.line_start-to.ensures.value in
    let closing = line-closes (line here) (some here) to_is new c.end_block.ensures.done c.end_block.ensures.none in
    let text_is : c.close.new.self ≡ text_closed c.self.inside.text = c.close.ensures ∙ ap text_closed c.take_line-self-inside.ensures.text in
    let line_is : c.line.result.now ≡ c.self.inside.text.line = c.line.ensures ∙ ap (λ (t : KeptText). t.line) text_is in
    let value = rw line_is at (c.on_line-self-inside.ensures.value new.format.format c.count.ensures.value) in
    let few = rw (line_is, ← c.count.ensures.value.columns) at c.on_line-self-inside.ensures.few in
    record {
      parts = rw text_is (close-fits (line here) (some here) to_is closing c.on_line-self-inside.result value few);
      giving = c.give_nothing.ensures.nothing.can c.close.new.self new.rows new.format;
      columns = c.give_nothing.ensures.room ∙ c.self.invariant.columns;
    }

pub returns : goal.returns
unfolding closed
returns c =
    let a = c.self.inside in
    let here = (goal.at.returns c).After-take_line-self-inside in
    let new = c.end_block.new.kept in
    let to_is = c.line_start-to.ensures.value in
    let closing = line-closes (line here) (some here) to_is new c.end_block.ensures.done c.end_block.ensures.none in
    let text_is : c.close.new.self ≡ text_closed a.text = c.close.ensures ∙ ap text_closed c.take_line-self-inside.ensures.text in
    rw (← c.self.view_is, text_is)
    (λ i. record {
      limits = a.limits;
      reading = close-read (line here) (some here) to_is closing i;
      told = close-told (line here) (some here) to_is closing i;
      to_come = c.give_nothing.ensures.nothing.coming (text_closed a.text) new.rows new.format i;
    })
