-- A whole line of the data is done: the parts hold together, and give the table behind it.
use Rattle.std.proofs.Common.{◌≡◌, ℕ, ◌+◌, ◌-◌, ◌<◌, ◌≤◌, ◌⊎◌, inl, inr, List, [], ◌∷◌, ◌++◌, length, map, take, drop, get_or, Option, Some, None, refl, sym, ap, subst, ◌∙◌, arith, append-nil, append_assoc, length-append, drop_at, take_at}
use Rattle.std.proofs.lemmas.List.{length-map}
use Rattle.std.proofs.Math.Seq.{get_or-append_seam}
use Rattle.std.proofs.Math.ListN.{get_or-append}
use Rattle.std.specs.List.{slice_range, AllByRecursion}
use Rattle.input_source.specs.Bytes.{newline}
use Rattle.tbl_data.specs.DataRead.{whole_line, with_whole}
use Rattle.tbl_data.specs.TableData.{DataFits, ElementEnds, EndsBy, FitsBehind, LastEndsAt, OpenBehind, OpenEndsAt, SameRooms, begun_by, table_by}
use Rattle.tbl_data.specs.TableRead.{TableRead}
use Rattle.tbl_data.specs.declared.phase.Phase.{Phase}
use Rattle.tbl_data.specs.declared.phase.Phase.TheVariants.{AtHead, Bad, InData, InFormat}
use Rattle.tbl_data.specs.declared.table_data.OpenBlock.{OpenBlock}
use Rattle.tbl_data.specs.declared.table_data.OpenBlock.TheVariants.{Dropped, Kept, Nothing as NoBlock}
use Rattle.tbl_data.specs.declared.table_data.TableData.{TableData}
use Rattle.tbl_format.specs.Format.{Format, further}
use Rattle.tbl_format.specs.FormatLaws.{Further}
use Rattle.tbl_options.specs.Notes.{NotesWithin, told_of_all}
use Rattle.tbl_format.specs.RowsServed.{all_rows, row_at}
use Rattle.tbl_format.specs.declared.limits.TblLimits.{TblLimits}
use Rattle.tbl_options.specs.declared.notes.KeptNote.{KeptNote}
use Rattle.tbl_format.proofs.FormatReading.{keys_of-append}
use Rattle.tbl_kept.specs.Joined.{Joined, behind_joined, ends_joined}
use Rattle.tbl_kept.specs.Rows.{element_of, entries_of}
use Rattle.tbl_kept.specs.TableText.{KeptText, block_of, text_ended}
use Rattle.tbl_layout.specs.Entries.{Content}
use Rattle.tbl_layout.specs.KeptEntries.{content_of}
use Rattle.tbl_layout.specs.declared.entry.Entry.{Entry}
use Rattle.tbl_table.specs.Begun.{begun_in}
use Rattle.tbl_table.specs.Kept.{DataReads, HasRooms, PartsFit, PhaseFits, block_open, data_read, kept_in, reading_of, table_of}
use Rattle.tbl_table.specs.MayTell.{fault_may_come, line_may_tell}
use Rattle.tbl_table.specs.Steps.{ended_with}
use Rattle.tbl_table.specs.declared.begun.Begun.{Begun}
use Rattle.tbl_table.specs.declared.table.Table.TheInside.{Inside}
use Rattle.tbl_table.proofs.DataGrows.{DataFits-more, Lies-behind, Lies-data, behind-more, table-more}
use Rattle.tbl_table.proofs.DataLies.{fields-kept, lies-kept, lies-longer}
use Rattle.tbl_table.proofs.FormatLines.{KeysFit-start, longer-settled, text-ends}
use Rattle.tbl_table.proofs.NotesKept.{NotesWithin-more, told-longer}
use Rattle.tbl_table.proofs.TableFits.{IsCounted, counted-keys, counted-longer, ended-read, kept-most, rooms-same}
use Rattle.tbl_table.proofs.WholeLines.{Makes, makes-whole, one_begun}

-- a whole line that is taken, and what it has made of what is kept
pub record LineTaken (a : Inside) (from to number : ℕ) (p : Phase) (new : TableData) : Type 0 where
  pub fits : PartsFit a.limits a.phase a.begun a.text a.kept
  pub is : a.phase ≡ InData
  pub from_is : from ≡ length a.text.settled
  pub table : table_by p a.options (block_of a.text) new
      ≡ with_whole (begun_by a.kept.open (map (content_of (block_of a.text)) a.kept.rows.row)) (ends_joined a.text.pending) number (slice_range (block_of a.text) from to)
      (table_by InData a.options (block_of a.text) a.kept)
  pub behind : FitsBehind p (block_of a.text) new
  pub ends : OpenEndsAt to new.open new.rows.row
  pub settled : EndsBy to new
  pub entries : entries_of new.rows ≤ entries_of a.kept.rows + (to - from) + 1
  pub notes : length new.notes.notes ≤ length a.kept.notes.notes + (to - from) + 1
  pub to_tell : new.notes.to_tell ≡ a.kept.notes.to_tell
  pub rooms : SameRooms a.kept new

-- a line lies at the end of what is done
pub slice-last : (settled line more : List ℕ) → slice_range (settled ++ (line ++ more)) (length settled) (length settled + length line) ≡ line
slice-last settled line more =
    let n : length settled + length line - length settled ≡ length line = omega arith in
    ap (λ (k : ℕ). take k (drop (length settled) (settled ++ (line ++ more)))) n
    ∙ ap (λ (xs : List ℕ). take (length line) xs) (drop_at settled (line ++ more) (length settled) refl)
    ∙ take_at line more (length line) refl

-- a block that is open stands behind the same newline where the bytes grow
pub behind-grows : (bytes more : List ℕ) (from : ℕ) (block : OpenBlock) (row : List Entry) → from ≤ length bytes → OpenBehind bytes from block row
    → OpenBehind (bytes ++ more) from block row
behind-grows bytes more from NoBlock row within behind = tt
behind-grows bytes more from (Dropped had_surplus) row within behind = tt
behind-grows bytes more from Kept row within behind = record {
  some = behind.some;
  newline = get_or-append bytes more 0 (from - 1) (omega (arith, within, behind.some)) ∙ behind.newline;
  ends = behind.ends;
}

-- and behind the newline of its last line
last-moved : (a b : ℕ) (row : List Entry) → a ≡ b → LastEndsAt a row → LastEndsAt b row
last-moved a b row is ends = subst (λ (n : ℕ). LastEndsAt n row) is ends

pub behind-ends : (front : List ℕ) (to : ℕ) (block : OpenBlock) (row : List Entry) → to ≡ length front → OpenEndsAt to block row
    → OpenBehind (front ++ newline ∷ []) (length (front ++ newline ∷ [])) block row
behind-ends front to NoBlock row is ends = tt
behind-ends front to (Dropped had_surplus) row is ends = tt
behind-ends front to Kept row is ends =
    let len : length (front ++ newline ∷ []) ≡ length front + 1 = length-append front (newline ∷ []) in
    let last : length (front ++ newline ∷ []) - 1 ≡ length front = omega (arith, len) in
    record {
      some = omega (arith, len);
      newline = ap (λ (n : ℕ). get_or (front ++ newline ∷ []) n 0) last ∙ get_or-append_seam front newline [] 0;
      ends = last-moved to (length (front ++ newline ∷ []) - 1) row (is ∙ sym last) ends;
    }

-- how many rows are begun
begun-open : (block : OpenBlock) (contents : List Content) → one_begun (begun_by block contents) ≡ block_open block
begun-open NoBlock contents = refl
begun-open Kept contents = refl
begun-open (Dropped had_surplus) contents = refl

-- no more bytes than may tell something
pub whole-most : (pending : Option Joined) (line : List ℕ) → length (behind_joined pending line) ≤ line_may_tell pending + length line
whole-most None line = omega arith
whole-most (Some j) line = omega (arith, length-append j.bytes line)

-- a further format is counted as the one before it
counted-further : (l : TblLimits) (len : ℕ) (f : Format) → IsCounted l len f → IsCounted l len (further f)
counted-further l len f is = record {
  keys = omega (arith, is.keys, keys_of-append f.earlier f.rows);
  asked = is.asked;
  columns = is.columns;
  rows = record {
    few = omega (arith, is.rows.few, keys_of-append f.earlier f.rows, length-append f.earlier f.rows);
    wide = λ some. is.rows.wide (omega (arith, some, length-append f.earlier f.rows));
  };
  ended = tt;
  stands = tt;
  made = Further f is.made;
}

counted-by : (l : TblLimits) (len : ℕ) (f g : Format) → IsCounted l len f → (g ≡ f) ⊎ (g ≡ further f) → IsCounted l len g
counted-by l len f g is (inl same) = subst (λ (h : Format). IsCounted l len h) (sym same) is
counted-by l len f g is (inr more) = subst (λ (h : Format). IsCounted l len h) (sym more) (counted-further l len f is)

pub read-most : (p : Phase) → data_read p ≤ 1
read-most AtHead = omega arith
read-most InFormat = omega arith
read-most InData = omega arith
read-most Bad = omega arith

pub fault-most : (p : Phase) → fault_may_come p ≤ 1
fault-most AtHead = omega arith
fault-most InFormat = omega arith
fault-most InData = omega arith
fault-most Bad = omega arith

pub phase-fits : (p : Phase) (bytes : List ℕ) (d : TableData) → FitsBehind p bytes d → AllByRecursion (ElementEnds (length bytes)) d.rows.elements
    → OpenBehind bytes (length bytes) d.open d.rows.row → PhaseFits p bytes None d
phase-fits AtHead bytes d fits lies behind = absurd fits
phase-fits InFormat bytes d fits lies behind = record { alone = refl; fits = fits }
phase-fits InData bytes d fits lies behind = record { fits = fits; behind = behind }
phase-fits Bad bytes d fits lies behind = record { alone = refl; lies = lies; fits = fits }

module _ {l : TblLimits} {phase : Phase} {begun : Begun} {text : KeptText} {d : TableData} (fits : PartsFit l phase begun text d) (is : phase ≡ InData) where
  pub data-reads : DataReads text.settled d
  data-reads = subst (λ (p : Phase). PhaseFits p text.settled text.pending d) is fits.by_phase

  pub one-read : data_read phase ≡ 1
  one-read = ap data_read is

  pub one-fault : fault_may_come phase ≡ 1
  one-fault = ap fault_may_come is

  pub all-kept : (n : ℕ) → kept_in phase n ≡ n
  all-kept n = ap (λ (q : Phase). kept_in q n) is

  -- what the line is asked for
  pub take-fits : DataFits (block_of text) d
  take-fits = DataFits-more text.settled (behind_joined text.pending text.line) d data-reads.fits

  pub take-behind : OpenBehind (block_of text) (length text.settled) d.open d.rows.row
  take-behind = behind-grows text.settled (behind_joined text.pending text.line) (length text.settled) d.open d.rows.row (omega arith) data-reads.behind

  pub take-settled : EndsBy (length text.settled) d
  take-settled = record {
    elements = lies-kept text.settled (all_rows d.format.format) d.rows data-reads.fits.kept.all;
    row = fields-kept text.settled (row_at (all_rows d.format.format) d.keys) 0 d.rows.row data-reads.fits.kept.row;
    notes = data-reads.fits.notes;
  }

  pub block-len : length (block_of text) ≡ length text.settled + length (behind_joined text.pending text.line)
  block-len = length-append text.settled (behind_joined text.pending text.line)

  pub block-line : (end : ℕ) → end ≡ length (block_of text) → slice_range (block_of text) (length text.settled) end ≡ behind_joined text.pending text.line
  block-line end end_is =
      let whole = behind_joined text.pending text.line in
      ap (λ (k : ℕ). slice_range (block_of text) (length text.settled) k) (end_is ∙ block-len)
      ∙ ap (λ (xs : List ℕ). slice_range (text.settled ++ xs) (length text.settled) (length text.settled + length whole)) (sym (append-nil whole))
      ∙ slice-last text.settled whole []

-- the line is done
module _ {a : Inside} {from to number : ℕ} {p : Phase} {new : TableData} (line : LineTaken a from to number p new) where
  -- the table behind it, in all bytes
  pub table-taken : table_by p a.options (block_of a.text) new
      ≡ whole_line (ends_joined a.text.pending) number (slice_range (block_of a.text) from to) (table_of a.phase a.options a.text a.kept)
  table-taken =
      let made = whole_line (ends_joined a.text.pending) number (slice_range (block_of a.text) from to) in
      let more = behind_joined a.text.pending a.text.line in
      line.table
      ∙ ap made (table-more a.text.settled more a.kept InData a.options (Lies-data a.text.settled more a.kept (data-reads line.fits line.is).fits))
      ∙ ap (λ (q : Phase). made (table_by q a.options a.text.settled a.kept)) (sym line.is)

  makes-taken : Makes (table_of a.phase a.options a.text a.kept) (table_by p a.options (block_of a.text) new)
  makes-taken =
      subst (Makes (table_of a.phase a.options a.text a.kept)) (sym table-taken)
      (makes-whole (ends_joined a.text.pending) number (slice_range (block_of a.text) from to) (table_of a.phase a.options a.text a.kept))

  pub new-counted : (len : ℕ) → length a.text.read ≤ len → IsCounted a.limits len new.format.format
  new-counted len more =
      counted-by a.limits len a.kept.format.format new.format.format
      (counted-longer (counted-keys line.fits.keys) more) makes-taken.format

  pub new-elements : length new.rows.elements + block_open new.open ≤ length a.kept.rows.elements + 1
  new-elements =
      omega (
        arith,
        makes-taken.few,
        length-map new.rows.elements (element_of (block_of a.text) (all_rows new.format.format)),
        length-map a.kept.rows.elements (element_of a.text.settled (all_rows a.kept.format.format)),
        begun-open new.open (map (content_of (block_of a.text)) new.rows.row),
      )

  pub new-rooms : HasRooms a.limits a.text.text_room new
  new-rooms = rooms-same line.rooms line.fits.rooms

  -- its newline comes
  module _ (to_is : to ≡ length (block_of a.text)) (room : length (a.text.read ++ a.text.line) < a.limits.text) where
    line-len : to - from ≡ length (behind_joined a.text.pending a.text.line)
    line-len = omega (arith, line.from_is, to_is, block-len line.fits line.is)

    same-bytes : (text_ended a.text).settled ≡ block_of a.text ++ newline ∷ []
    same-bytes = sym (append_assoc a.text.settled (behind_joined a.text.pending a.text.line) (newline ∷ []))

    ends-block : EndsBy (length (block_of a.text)) new
    ends-block = subst (λ (n : ℕ). EndsBy n new) to_is line.settled

    lies-new : AllByRecursion (ElementEnds (length (block_of a.text ++ newline ∷ []))) new.rows.elements
    lies-new =
        lies-longer (length (block_of a.text)) (length (block_of a.text ++ newline ∷ [])) new.rows.elements
        (omega (arith, length-append (block_of a.text) (newline ∷ []))) ends-block.elements

    end-phase : PhaseFits p (block_of a.text ++ newline ∷ []) None new
    end-phase =
        phase-fits p (block_of a.text ++ newline ∷ []) new (behind-more (block_of a.text) (newline ∷ []) new p line.behind) lies-new
        (behind-ends (block_of a.text) to new.open new.rows.row to_is line.ends)

    pub end-fits : PartsFit a.limits p (begun_in p new.format.format []) (text_ended a.text) new
    end-fits =
        let fits = line.fits in
        let all = all-kept fits line.is in
        let read = ended-read a.text in
        let one = one-read fits line.is in
        record {
          rooms = new-rooms;
          bytes = text-ends fits room;
          keys = KeysFit-start a.limits (text_ended a.text).read p new.format.format (new-counted (length (text_ended a.text).read) (omega (arith, read)));
          rows = record {
            entries = omega (arith, kept-most p (entries_of new.rows), all (entries_of a.kept.rows), line.entries, line-len, fits.rows.entries, one, read-most p, whole-most a.text.pending a.text.line, read);
            elements = omega (arith, kept-most p (length new.rows.elements), all (length a.kept.rows.elements), new-elements, fits.rows.elements, one, read-most p, read);
          };
          messages = record {
            few = omega (arith, line.notes, line-len, fits.messages.few, one-fault fits line.is, fault-most p, whole-most a.text.pending a.text.line, read);
            telling =
                subst (λ (ns : List KeptNote). NotesWithin (length (text_ended a.text).settled) ns) (sym line.to_tell)
                (NotesWithin-more (length a.text.settled) (length (text_ended a.text).settled) a.kept.notes.to_tell (longer-settled fits) fits.messages.telling);
          };
          by_phase = subst (λ (bytes : List ℕ). PhaseFits p bytes None new) (sym same-bytes) end-phase;
        }

    pub end-read : reading_of p a.options (text_ended a.text) new
        ≡ ended_with (whole_line (ends_joined a.text.pending) number (behind_joined a.text.pending a.text.line) (table_of a.phase a.options a.text a.kept))
        (reading_of a.phase a.options a.text a.kept)
    end-read =
        ap (λ (t : TableRead). ended_with t (reading_of a.phase a.options a.text a.kept))
        (ap (λ (bytes : List ℕ). table_by p a.options bytes new) same-bytes
        ∙ table-more (block_of a.text) (newline ∷ []) new p a.options (Lies-behind (block_of a.text) (newline ∷ []) new p line.behind ends-block.elements)
        ∙ table-taken
        ∙ ap (λ (bytes : List ℕ). whole_line (ends_joined a.text.pending) number bytes (table_of a.phase a.options a.text a.kept))
        (ap (λ (n : ℕ). slice_range (block_of a.text) n to) line.from_is ∙ block-line line.fits line.is to to_is))

    pub end-told : told_of_all (text_ended a.text).settled new.notes.to_tell ≡ told_of_all a.text.settled a.kept.notes.to_tell
    end-told =
        ap (λ (ns : List KeptNote). told_of_all (text_ended a.text).settled ns) line.to_tell
        ∙ told-longer a.text.settled (behind_joined a.text.pending a.text.line ++ newline ∷ []) a.kept.notes.to_tell line.fits.messages.telling
