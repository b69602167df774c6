-- A text block that is open ends with the table: the parts hold together, and give the table that is closed.
use Rattle.std.proofs.Common.{◌≡◌, ◌==◌, ℕ, ◌+◌, ◌-◌, ◌<◌, ◌≤◌, All, Bool, true, false, List, [], ◌++◌, length, map, take, drop, Option, Some, None, refl, sym, ap, subst, ◌∙◌, arith, append-nil, append_assoc, length-append, is_some, drop_at}
use Rattle.std.proofs.lemmas.List.Elements.{All-drop, All-take}
use Rattle.std.specs.List.{slice_range, AllByRecursion}
use Rattle.input_source.specs.Bytes.{newline}
use Rattle.tbl_data.specs.DataRead.{closed_block, whole_line}
use Rattle.tbl_data.specs.TableData.{DataFits, ElementEnds, EndsBy, FitsBehind, OpenBehind, SameRooms, table_by}
use Rattle.tbl_data.specs.TableRead.{RowBegun, TableRead}
use Rattle.tbl_data.specs.declared.phase.Phase.{Phase}
use Rattle.tbl_data.specs.declared.phase.Phase.TheVariants.{AtHead, Bad, InData, InFormat}
use Rattle.tbl_data.specs.declared.table_data.OpenBlock.{OpenBlock}
use Rattle.tbl_data.specs.declared.table_data.OpenBlock.TheVariants.{Dropped, Kept, Nothing as NoBlock}
use Rattle.tbl_data.specs.declared.table_data.TableData.{TableData}
use Rattle.tbl_format.specs.Cells.{cell_count}
use Rattle.tbl_format.specs.FormatRows.{KeptFormat}
use Rattle.tbl_options.specs.Notes.{NotesWithin, told_of_all}
use Rattle.tbl_format.specs.RowsServed.{all_rows, row_at}
use Rattle.tbl_options.specs.declared.notes.KeptNote.{KeptNote}
use Rattle.tbl_options.specs.declared.options.Options.{Options}
use Rattle.tbl_kept.specs.Joined.{Joined, behind_joined, ends_joined}
use Rattle.tbl_kept.specs.Rows.{entries_of}
use Rattle.tbl_kept.specs.TableNotes.{KeptNotes}
use Rattle.tbl_kept.proofs.KeptFields.{AreOpened-kept}
use Rattle.tbl_kept.specs.TableText.{KeptText, block_of, text_closed}
use Rattle.tbl_layout.specs.KeptEntries.{content_of}
use Rattle.tbl_table.specs.Begun.{FewKeys, begun_in}
use Rattle.tbl_table.specs.Kept.{PartsFit, block_open, reading_of, row_open, table_of}
use Rattle.tbl_table.specs.MayTell.{line_may_tell}
use Rattle.tbl_table.specs.Reading.{Reading}
use Rattle.tbl_data.specs.OpenBlocks.{is_open}
use Rattle.tbl_table.specs.Steps.{BlockEnds, CanEnd}
use Rattle.tbl_table.specs.Table.{closed, closed_line}
use Rattle.tbl_table.specs.declared.begun.Begun.{Begun}
use Rattle.tbl_table.specs.declared.table.Table.TheInside.{Inside}
use Rattle.tbl_table.proofs.DataGrows.{Lies-behind, behind-less, none-begun, table-more}
use Rattle.tbl_table.proofs.DataLies.{lies-kept}
use Rattle.tbl_table.proofs.LineEnds.{LineTaken, all-kept, fault-most, new-counted, new-elements, new-rooms, one-fault, one-read, phase-fits, read-most, slice-last, table-taken}
use Rattle.tbl_table.proofs.NotesKept.{NotesWithin-more, told-longer}
use Rattle.tbl_table.proofs.TableFits.{FewKeys-more, IsCounted, KeysFit-by, behind-append, kept-most, rooms-same}

-- none is open
pub none-open : (block : OpenBlock) → is_open block ≡ false → block ≡ NoBlock
none-open NoBlock is = refl
none-open Kept is = absurd (cc)
none-open (Dropped had_surplus) is = absurd (cc)

pub no-open : (block : OpenBlock) → block ≡ NoBlock → is_open block ≡ true → ⊥
no-open NoBlock is some = absurd (cc)
no-open Kept is some = absurd (cc)
no-open (Dropped had_surplus) is some = absurd (cc)

pub one-open : (block : OpenBlock) → is_open block ≡ true → block_open block ≡ 1
one-open NoBlock is = absurd (cc)
one-open Kept is = refl
one-open (Dropped had_surplus) is = refl

-- one that is open is open in the data
pub open-behind : (p : Phase) (bytes : List ℕ) (d : TableData) → FitsBehind p bytes d → is_open d.open ≡ true → p ≡ InData
open-behind AtHead bytes d fits some = absurd fits
open-behind InFormat bytes d fits some = absurd (no-open d.open fits.closed some)
open-behind InData bytes d fits some = refl
open-behind Bad bytes d fits some = absurd (no-open d.open fits.closed some)

-- what its end asks for, where there is room
pub can-end : (bytes : List ℕ) (d : TableData) → DataFits bytes d → length d.rows.elements < d.rows.element_room → entries_of d.rows < 4294967296
    → CanEnd d
can-end bytes d fits room few = record {
  room = room;
  serves = fits.served.serves;
  rules = omega (arith, fits.served.first);
  columns = fits.columns;
  short = subst (λ (n : ℕ). length d.rows.row ≤ cell_count (row_at (all_rows d.format.format) d.keys).keys n) fits.columns fits.kept.short;
  few = few;
  opened = AreOpened-kept bytes (row_at (all_rows d.format.format) d.keys) 0 d.rows.row fits.kept.row;
}

-- what is kept of a table that is closed
pub record Closes (p : Phase) (bytes : List ℕ) (old new : TableData) : Type 0 where
  pub table : (options : Options) → table_by p options bytes new ≡ closed_block (table_by p options bytes old).begun (table_by p options bytes old)
  pub fits : FitsBehind p bytes new
  pub lies : AllByRecursion (ElementEnds (length bytes)) new.rows.elements
  pub closed : new.open ≡ NoBlock
  pub entries : entries_of new.rows ≤ entries_of old.rows
  pub elements : length new.rows.elements ≤ length old.rows.elements + block_open old.open
  pub notes : new.notes ≡ old.notes
  pub format : new.format ≡ old.format
  pub rooms : SameRooms old new

same-rooms : (d : TableData) → SameRooms d d
same-rooms d = record { entries = refl; elements = refl; columns = refl; notes = refl; keys = refl; asked = refl; escapes = refl }

closes-none : (p : Phase) (bytes : List ℕ) (d : TableData) → FitsBehind p bytes d → EndsBy (length bytes) d → d.open ≡ NoBlock → Closes p bytes d d
closes-none p bytes d fits ends closed = record {
  table = λ options. ap (λ (begun : Option RowBegun). closed_block begun (table_by p options bytes d)) (sym (none-begun d.open (map (content_of bytes) d.rows.row) closed));
  fits = fits;
  lies = ends.elements;
  closed = closed;
  entries = omega arith;
  elements = omega arith;
  notes = refl;
  format = refl;
  rooms = same-rooms d;
}

pub closes-data : (bytes : List ℕ) (old new : TableData) → DataFits bytes old → is_open old.open ≡ true → BlockEnds old new → Closes InData bytes old new
closes-data bytes old new fits some ends =
    let fits-new = ends.fits bytes fits in
    record {
      table = λ options. ends.table options bytes fits;
      fits = fits-new;
      lies = lies-kept bytes (all_rows new.format.format) new.rows fits-new.kept.all;
      closed = ends.closed;
      entries = ends.entries;
      elements = omega (arith, ends.elements, one-open old.open some);
      notes = ends.notes;
      format = ends.format;
      rooms = ends.rooms;
    }

closes-by : (b : Bool) (p : Phase) (bytes : List ℕ) (old new : TableData) → is_open old.open ≡ b → FitsBehind p bytes old → EndsBy (length bytes) old
    → (is_open old.open ≡ true → BlockEnds old new) → (is_open old.open ≡ false → new ≡ old) → Closes p bytes old new
closes-by false p bytes old new is fits ends done none =
    subst (λ (d : TableData). Closes p bytes old d) (sym (none is)) (closes-none p bytes old fits ends (none-open old.open is))
closes-by true AtHead bytes old new is fits ends done none = absurd fits
closes-by true InFormat bytes old new is fits ends done none = absurd (no-open old.open fits.closed is)
closes-by true InData bytes old new is fits ends done none = closes-data bytes old new fits is (done is)
closes-by true Bad bytes old new is fits ends done none = absurd (no-open old.open fits.closed is)

closes : (p : Phase) (bytes : List ℕ) (old new : TableData) → FitsBehind p bytes old → EndsBy (length bytes) old
    → (is_open old.open ≡ true → BlockEnds old new) → (is_open old.open ≡ false → new ≡ old) → Closes p bytes old new
closes p bytes old new fits ends done none = closes-by (is_open old.open) p bytes old new refl fits ends done none

pub no-behind : (bytes : List ℕ) (place : ℕ) (d : TableData) → d.open ≡ NoBlock → OpenBehind bytes place d.open d.rows.row
no-behind bytes place d closed = subst (λ (o : OpenBlock). OpenBehind bytes place o d.rows.row) (sym closed) tt

-- the line that goes on, closed
pub closed-as : (pending : Option Joined) (t : TableRead) → is_some pending ≡ true
    → whole_line (ends_joined pending) 0 (behind_joined pending []) t ≡ closed_line pending t
closed-as None t some = absurd (cc)
closed-as (Some j) t some = ap (λ (line : List ℕ). whole_line j.ends 0 line t) (append-nil j.bytes)

pub may-tell-some : (pending : Option Joined) → is_some pending ≡ true → line_may_tell pending ≡ length (behind_joined pending []) + 1
may-tell-some None some = absurd (cc)
may-tell-some (Some j) some = omega (arith, length-append j.bytes [])

row-some : (pending : Option Joined) (block : OpenBlock) → is_some pending ≡ true → row_open pending block ≡ 1
row-some None block some = absurd (cc)
row-some (Some j) block some = refl

-- of a line that goes on the last one has no newline either
own-line : (pending : Option Joined) (line : List ℕ) → All (λ b. (b == newline) ≡ false) (behind_joined pending line) → All (λ b. (b == newline) ≡ false) line
own-line None line all = all
own-line (Some j) line all =
    subst (λ (xs : List ℕ). All (λ b. (b == newline) ≡ false) xs) (drop_at j.bytes line (length j.bytes) refl)
    (All-drop (λ b. (b == newline) ≡ false) (length j.bytes) (j.bytes ++ line) all)

-- none goes on
pub none-goes_on : (pending : Option Joined) → is_some pending ≡ false → pending ≡ None
none-goes_on None is = refl
none-goes_on (Some j) is = absurd (cc)

-- a line that goes on stands in front of the one that is begun
pub line-before : (text : KeptText) (from to : ℕ) → from ≡ length text.settled → to ≡ length (text_closed text).settled
    → All (λ b. (b == newline) ≡ false) (behind_joined text.pending text.line) → All (λ b. (b == newline) ≡ false) (slice_range (block_of text) from to)
line-before text from to from_is to_is all =
    let whole = behind_joined text.pending text.line in
    subst (λ (xs : List ℕ). All (λ b. (b == newline) ≡ false) (take (to - from) xs))
    (sym (ap (λ (n : ℕ). drop n (block_of text)) from_is ∙ drop_at text.settled whole (length text.settled) refl))
    (All-take (λ b. (b == newline) ≡ false) (to - from) whole all)

-- behind a line of the data no first line is read
pub no-head : (p : Phase) (bytes : List ℕ) (d : TableData) → FitsBehind p bytes d → p ≡ AtHead → ⊥
no-head AtHead bytes d fits is = fits
no-head InFormat bytes d fits is = absurd (cc)
no-head InData bytes d fits is = absurd (cc)
no-head Bad bytes d fits is = absurd (cc)

-- where a line goes on
module _ {a : Inside} {from to : ℕ} {p : Phase} {mid : TableData} (line : LineTaken a from to 0 p mid) (some : is_some a.text.pending ≡ true) (to_is : to ≡ length (text_closed a.text).settled) where
  abbrev front : List ℕ
  front = (text_closed a.text).settled

  abbrev before : TableRead
  before = table_of a.phase a.options a.text a.kept

  whole-is : behind_joined a.text.pending a.text.line ≡ behind_joined a.text.pending [] ++ a.text.line
  whole-is = behind-append a.text.pending [] a.text.line

  block-is : block_of a.text ≡ front ++ a.text.line
  block-is =
      ap (λ (xs : List ℕ). a.text.settled ++ xs) whole-is ∙ sym (append_assoc a.text.settled (behind_joined a.text.pending []) a.text.line)

  mid-ends : EndsBy (length front) mid
  mid-ends = subst (λ (n : ℕ). EndsBy n mid) to_is line.settled

  mid-fits : FitsBehind p front mid
  mid-fits = behind-less front a.text.line mid mid-ends p (subst (λ (bytes : List ℕ). FitsBehind p bytes mid) block-is line.behind)

  line-len : to - from ≡ length (behind_joined a.text.pending [])
  line-len = omega (arith, line.from_is, to_is, length-append a.text.settled (behind_joined a.text.pending []))

  slice-is : slice_range (block_of a.text) from to ≡ behind_joined a.text.pending []
  slice-is =
      let settled = a.text.settled in
      let whole = behind_joined a.text.pending [] in
      ap (λ (n : ℕ). slice_range (block_of a.text) n to) line.from_is
      ∙ ap (λ (n : ℕ). slice_range (block_of a.text) (length settled) n) (to_is ∙ length-append settled whole)
      ∙ ap (λ (xs : List ℕ). slice_range (settled ++ xs) (length settled) (length settled + length whole)) whole-is
      ∙ slice-last settled whole a.text.line

  table-mid : table_by p a.options front mid ≡ closed_line a.text.pending before
  table-mid =
      sym (table-more front a.text.line mid p a.options (Lies-behind front a.text.line mid p mid-fits mid-ends.elements))
      ∙ ap (λ (bytes : List ℕ). table_by p a.options bytes mid) (sym block-is)
      ∙ table-taken line
      ∙ ap (λ (bytes : List ℕ). whole_line (ends_joined a.text.pending) 0 bytes before) slice-is
      ∙ closed-as a.text.pending before some

  mid-counted : IsCounted a.limits (length a.text.read) mid.format.format
  mid-counted = new-counted line (length a.text.read) (omega arith)

  -- what the block's end asks for
  pub mid-formats : length (all_rows mid.format.format) < 4294967296
  mid-formats =
      omega (arith, mid-counted.rows.few, mid-counted.keys, line.fits.bytes.few, line.fits.rooms.small, length-append mid.format.format.earlier mid.format.format.rows)

  pub mid-can : is_open mid.open ≡ true → CanEnd mid
  mid-can opened =
      let fits = line.fits in
      let all = all-kept fits line.is in
      let held : DataFits front mid =
      subst (λ (q : Phase). FitsBehind q front mid) (open-behind p front mid mid-fits opened) mid-fits in
      can-end front mid held
      (omega (arith, new-elements line, one-open mid.open opened, all (length a.kept.rows.elements), fits.rows.elements, one-read fits line.is, fits.bytes.few, (new-rooms line).elements))
      (omega (arith, line.entries, line-len, may-tell-some a.text.pending some, fits.rows.entries, all (entries_of a.kept.rows), fits.bytes.few, fits.rooms.small))

  -- it is closed
  pub line-closes : (new : TableData) → (is_open mid.open ≡ true → BlockEnds mid new) → (is_open mid.open ≡ false → new ≡ mid) → Closes p front mid new
  line-closes new done none = closes p front mid new mid-fits mid-ends done none

  module _ {new : TableData} (closing : Closes p front mid new) where
    pub closed-counted : IsCounted a.limits (length a.text.read) new.format.format
    closed-counted = subst (λ (k : KeptFormat). IsCounted a.limits (length a.text.read) k.format) (sym closing.format) mid-counted

    pub close-fits : (next : Begun) → next ≡ begun_in p new.format.format a.text.line
        → FewKeys (length new.format.format.asked + length a.text.line) (length a.text.line) next
        → PartsFit a.limits p next (text_closed a.text) new
    close-fits next next_is few =
        let fits = line.fits in
        let all = all-kept fits line.is in
        let one = one-read fits line.is in
        let may = may-tell-some a.text.pending some in
        let len = length a.text.line in
        record {
          rooms = rooms-same closing.rooms (new-rooms line);
          bytes = record {
            few = fits.bytes.few;
            most = fits.bytes.most;
            block = omega (arith, fits.bytes.block, length-append front []);
            one_line = own-line a.text.pending a.text.line fits.bytes.one_line;
          };
          keys = KeysFit-by next_is
              (FewKeys-more (length new.format.format.asked + len) (a.limits.columns + len) len len next (omega (arith, closed-counted.columns)) (omega arith) few) closed-counted;
          rows = record {
            entries = omega (arith, kept-most p (entries_of new.rows), all (entries_of a.kept.rows), closing.entries, line.entries, line-len, may, fits.rows.entries, one, read-most p);
            elements = omega (arith, kept-most p (length new.rows.elements), all (length a.kept.rows.elements), closing.elements, ap block_open closing.closed, new-elements line, fits.rows.elements, row-some a.text.pending a.kept.open some, one, read-most p);
          };
          messages = record {
            few = omega (arith, ap (λ (k : KeptNotes). length k.notes) closing.notes, line.notes, line-len, may, fits.messages.few, one-fault fits line.is, fault-most p);
            telling =
                subst (λ (ns : List KeptNote). NotesWithin (length front) ns) (sym (ap (λ (k : KeptNotes). k.to_tell) closing.notes ∙ line.to_tell))
                (NotesWithin-more (length a.text.settled) (length front) a.kept.notes.to_tell (omega (arith, length-append a.text.settled (behind_joined a.text.pending []))) fits.messages.telling);
          };
          by_phase = phase-fits p front new closing.fits closing.lies (no-behind front (length front) new closing.closed);
        }

    pub close-read : reading_of p a.options (text_closed a.text) new
        ≡ (let whole = closed_line a.text.pending before in
        record (reading_of a.phase a.options a.text a.kept) { table = closed_block whole.begun whole })
    close-read =
        ap (λ (t : TableRead). let r : Reading = record (reading_of a.phase a.options a.text a.kept) { table = t } in r)
        (closing.table a.options ∙ ap (λ (t : TableRead). closed_block t.begun t) table-mid)

    pub close-told : told_of_all front new.notes.to_tell ≡ told_of_all a.text.settled a.kept.notes.to_tell
    close-told =
        ap (λ (ns : List KeptNote). told_of_all front ns) (ap (λ (k : KeptNotes). k.to_tell) closing.notes ∙ line.to_tell)
        ∙ told-longer a.text.settled (behind_joined a.text.pending []) a.kept.notes.to_tell line.fits.messages.telling
