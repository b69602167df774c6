-- The parts of a table hold together in front of its first line, and behind more bytes of a line.
use Rattle.std.proofs.Common.{◌≡◌, ◌==◌, ℕ, ◌+◌, ◌-◌, ◌<◌, ◌≤◌, All, true, false, List, [], ◌∷◌, ◌++◌, length, Option, Some, None, refl, sym, subst, ◌∙◌, arith, append_assoc, length-append, is_some}
use Rattle.std.proofs.lemmas.List.Elements.{All-append, All-nil}
use Rattle.input_escapes.specs.EscapeTexts.{KeptEscapes}
use Rattle.input_source.specs.Bytes.{newline}
use Rattle.tbl_data.specs.TableData.{FormatFits, SameRooms}
use Rattle.tbl_data.specs.declared.phase.Phase.{Phase}
use Rattle.tbl_data.specs.declared.phase.Phase.TheVariants.{AtHead, Bad, InData, InFormat}
use Rattle.tbl_data.specs.declared.table_data.TableData.{TableData}
use Rattle.tbl_format.specs.Format.{Format, columns_of_keys}
use Rattle.tbl_format.specs.FormatLaws.{IsRead, NoByte}
use Rattle.tbl_format.specs.FormatRows.{key_count}
use Rattle.tbl_format.specs.KeyCounts.{StandsOnLine}
use Rattle.tbl_options.specs.Notes.{NotesWithin}
use Rattle.tbl_format.specs.RowsServed.{all_rows}
use Rattle.tbl_format.specs.declared.limits.TblLimits.{TblLimits}
use Rattle.tbl_options.specs.declared.notes.Cause.TheVariants.{BadFormat}
use Rattle.tbl_options.specs.declared.notes.KeptNote.{KeptNote}
use Rattle.tbl_format.proofs.StepPlaces.{stands-longer}
use Rattle.tbl_kept.specs.Joined.{Joined, behind_joined}
use Rattle.tbl_kept.specs.TableText.{KeptText, no_text, text_ended}
use Rattle.tbl_kept.proofs.RowsKeeping.{RowBegunKept-first, RowsKept-none}
use Rattle.tbl_table.specs.Begun.{FewKeys, begun_in}
use Rattle.tbl_table.specs.Kept.{EndFits, FormatReads, HasKeys, HasRooms, KeysFit, PartsFit, PhaseFits, kept_in}
use Rattle.tbl_table.specs.MayTell.{fault_may_come}
use Rattle.tbl_table.specs.Steps.{data_refused, emptied, is_front}
use Rattle.tbl_table.specs.declared.begun.Begun.{Begun}
use Rattle.tbl_table.specs.declared.begun.Begun.TheVariants.{Front, Keys, Nothing}
use Rattle.tbl_table.proofs.DataLies.{lies-kept}
use Rattle.tbl_table.proofs.NotesKept.{NotesWithin-append}

-- what was read is longer by a line and its newline, where the line is done
pub ended-read : (text : KeptText) → length (text_ended text).read ≡ length text.read + length text.line + 1
ended-read text = omega (arith, length-append (text.read ++ text.line) (newline ∷ []), length-append text.read text.line)

-- more keys may be counted than there are
pub FewKeys-more : (most more len longer : ℕ) (begun : Begun) → most ≤ more → len ≤ longer → FewKeys most len begun → FewKeys more longer begun
FewKeys-more most more len longer (Front inside) le on few = tt
FewKeys-more most more len longer (Keys start count) le on few = record {
  starts = omega (arith, on, few.starts);
  is = record { row = few.is.row; place = stands-longer count.place (len - start) (longer - start) (omega (arith, on)) few.is.place };
  few = omega (arith, le, few.few);
}
FewKeys-more most more len longer Nothing le on few = tt

pub few-start : (most : ℕ) (phase : Phase) (f : Format) → columns_of_keys f.row ≤ length f.asked → length f.asked ≤ most → StandsOnLine 0 f.place
    → FewKeys most 0 (begun_in phase f [])
few-start most AtHead f row few stands = tt
few-start most InFormat f row few stands = record { starts = omega arith; is = record { row = row; place = stands }; few = few }
few-start most InData f row few stands = tt
few-start most Bad f row few stands = tt

pub front-fault : (phase : Phase) → is_front phase ≡ true → fault_may_come phase ≡ 1
front-fault AtHead is = refl
front-fault InFormat is = refl
front-fault InData is = refl
front-fault Bad is = absurd (cc)

pub front-kept : (phase : Phase) (n : ℕ) → is_front phase ≡ true → kept_in phase n ≡ n
front-kept AtHead n is = refl
front-kept InFormat n is = refl
front-kept InData n is = refl
front-kept Bad n is = absurd (cc)

pub kept-most : (phase : Phase) (n : ℕ) → kept_in phase n ≤ n
kept-most AtHead n = omega arith
kept-most InFormat n = omega arith
kept-most InData n = omega arith
kept-most Bad n = omega arith

pub some-none : (pending : Option Joined) → pending ≡ None → is_some pending ≡ true → ⊥
some-none None is some = absurd (cc)
some-none (Some j) is some = absurd (cc)

pub open-by : (phase : Phase) (settled : List ℕ) (pending : Option Joined) (d : TableData) → PhaseFits phase settled pending d → is_some pending ≡ true
    → phase ≡ InData
open-by AtHead settled pending d fits some = absurd (some-none pending fits.alone some)
open-by InFormat settled pending d fits some = absurd (some-none pending fits.alone some)
open-by InData settled pending d fits some = refl
open-by Bad settled pending d fits some = absurd (some-none pending fits.alone some)

pub behind-len : (pending : Option Joined) (line : List ℕ) → length (behind_joined pending line) ≡ length (behind_joined pending []) + length line
behind-len None line = omega arith
behind-len (Some j) line = omega (arith, length-append j.bytes line, length-append j.bytes [])

pub behind-append : (pending : Option Joined) (line more : List ℕ) → behind_joined pending (line ++ more) ≡ behind_joined pending line ++ more
behind-append None line more = refl
behind-append (Some j) line more = sym (append_assoc j.bytes line more)

-- what the format is, where all of it is counted
pub record IsCounted (l : TblLimits) (len : ℕ) (g : Format) : Type 0 where
  pub keys : key_count g ≤ len
  pub asked : length g.asked ≤ len
  pub columns : length g.asked ≤ l.columns
  pub rows : HasKeys g
  pub ended : EndFits g.place g
  pub stands : StandsOnLine 0 g.place
  pub made : IsRead g

pub counted-longer : {l : TblLimits} {len more : ℕ} {g : Format} → IsCounted l len g → len ≤ more → IsCounted l more g
counted-longer is less = record {
  keys = omega (arith, less, is.keys);
  asked = omega (arith, less, is.asked);
  columns = is.columns;
  rows = is.rows;
  ended = is.ended;
  stands = is.stands;
  made = is.made;
}

pub counted-keys : {l : TblLimits} {read line : List ℕ} {phase : Phase} {begun : Begun} {f : Format} → KeysFit l read line phase begun f → IsCounted l (length read) f
counted-keys fits = record {
  keys = fits.keys;
  asked = fits.asked;
  columns = fits.columns;
  rows = fits.rows;
  ended = fits.ended;
  stands = fits.stands;
  made = fits.made;
}

pub KeysFit-by : {l : TblLimits} {read line : List ℕ} {phase : Phase} {begun : Begun} {f : Format} → begun ≡ begun_in phase f line
    → FewKeys (l.columns + length line) (length line) begun → IsCounted l (length read) f → KeysFit l read line phase begun f
KeysFit-by is few counted = record {
  is = is;
  few = few;
  keys = counted.keys;
  asked = counted.asked;
  columns = counted.columns;
  rows = counted.rows;
  ended = counted.ended;
  stands = counted.stands;
  made = counted.made;
}

-- the rooms stay
pub rooms-by : {l : TblLimits} {room : ℕ} {old new : TableData} → HasRooms l room old → new.rows.entry_room ≡ old.rows.entry_room
    → new.rows.element_room ≡ old.rows.element_room → new.rows.column_room ≡ old.rows.column_room → new.notes.note_room ≡ old.notes.note_room
    → new.format.key_room ≡ old.format.key_room → new.format.column_room ≡ old.format.column_room → HasRooms l room new
rooms-by rooms entries elements columns notes keys asked = record {
  text = rooms.text;
  keys = keys ∙ rooms.keys;
  asked = asked ∙ rooms.asked;
  entries = entries ∙ rooms.entries;
  elements = elements ∙ rooms.elements;
  columns = columns ∙ rooms.columns;
  notes = notes ∙ rooms.notes;
  small = rooms.small;
  narrow = rooms.narrow;
  wide = rooms.wide;
}

pub rooms-same : {l : TblLimits} {room : ℕ} {old new : TableData} → SameRooms old new → HasRooms l room old → HasRooms l room new
rooms-same same rooms = rooms-by rooms same.entries same.elements same.columns same.notes same.keys same.asked

-- where options or a format are read
pub front-reads : (phase : Phase) (settled : List ℕ) (pending : Option Joined) (d : TableData) → is_front phase ≡ true → PhaseFits phase settled pending d
    → FormatReads settled pending d
front-reads AtHead settled pending d is fits = record { alone = fits.alone; fits = fits.fits }
front-reads InFormat settled pending d is fits = fits
front-reads InData settled pending d is fits = absurd (cc)
front-reads Bad settled pending d is fits = absurd (cc)

-- the messages lie within the bytes
pub notes-within : (phase : Phase) (settled : List ℕ) (pending : Option Joined) (d : TableData) → PhaseFits phase settled pending d
    → NotesWithin (length settled) d.notes.notes
notes-within AtHead settled pending d fits = fits.fits.notes
notes-within InFormat settled pending d fits = fits.fits.notes
notes-within InData settled pending d fits = fits.fits.notes
notes-within Bad settled pending d fits = fits.fits.notes

-- messages are told, or a text was read
abbrev pub telling : List KeptNote → KeptEscapes → TableData → TableData
telling to_tell escapes d = record d { notes = record d.notes { to_tell = to_tell }; escapes = escapes }

module _ (settled : List ℕ) (pending : Option Joined) (d : TableData) (to_tell : List KeptNote) (escapes : KeptEscapes) where
  telling-format : FormatFits settled d → FormatFits settled (telling to_tell escapes d)
  telling-format fits =
      record { kept = fits.kept; closed = fits.closed; none = fits.none; columns = fits.columns; first = fits.first; rules = fits.rules; notes = fits.notes }

  pub telling-phase : (phase : Phase) → (phase ≡ AtHead → to_tell ≡ []) → PhaseFits phase settled pending d → PhaseFits phase settled pending (telling to_tell escapes d)
  telling-phase AtHead none fits = record {
    no_bytes = fits.no_bytes;
    alone = fits.alone;
    no_keys = fits.no_keys;
    no_rows = fits.no_rows;
    no_notes = fits.no_notes;
    untold = none refl;
    fits = telling-format fits.fits;
  }
  telling-phase InFormat none fits = record { alone = fits.alone; fits = telling-format fits.fits }
  telling-phase InData none fits = record {
    fits = record {
      kept = fits.fits.kept;
      block = fits.fits.block;
      columns = fits.fits.columns;
      served = fits.fits.served;
      whole = fits.fits.whole;
      notes = fits.fits.notes;
    };
    behind = fits.behind;
  }
  telling-phase Bad none fits =
      record { alone = fits.alone; lies = fits.lies; fits = record { closed = fits.fits.closed; notes = fits.fits.notes } }

head-untold : (phase : Phase) (settled : List ℕ) (pending : Option Joined) (d : TableData) → PhaseFits phase settled pending d → phase ≡ AtHead
    → (d.notes.notes ≡ []) × (d.notes.to_tell ≡ [])
head-untold phase settled pending d fits is =
    let nothing = subst (λ (p : Phase). PhaseFits p settled pending d) is fits in (nothing.no_notes, nothing.untold)

module _ {l : TblLimits} {phase : Phase} {begun : Begun} {text : KeptText} {d : TableData} (fits : PartsFit l phase begun text d) where
  -- some messages are to tell
  telling-fits : (to_tell : List KeptNote) (escapes : KeptEscapes) → NotesWithin (length text.settled) to_tell → (phase ≡ AtHead → to_tell ≡ [])
      → PartsFit l phase begun text (telling to_tell escapes d)
  telling-fits to_tell escapes within none = record {
    rooms = rooms-by fits.rooms refl refl refl refl refl refl;
    bytes = fits.bytes;
    keys = fits.keys;
    rows = record { entries = fits.rows.entries; elements = fits.rows.elements };
    messages = record { few = fits.messages.few; telling = within };
    by_phase = telling-phase text.settled text.pending d to_tell escapes phase none fits.by_phase;
  }

  -- all of them
  pub tell-fits : PartsFit l phase begun text (record d { notes = record d.notes { to_tell = d.notes.notes } })
  tell-fits =
      telling-fits d.notes.notes d.escapes (notes-within phase text.settled text.pending d fits.by_phase)
      (λ is. (head-untold phase text.settled text.pending d fits.by_phase is).0)

  -- few keys are counted
  pub few-keys : FewKeys 4611686018427387904 (length text.line) begun
  few-keys =
      FewKeys-more (l.columns + length text.line) 4611686018427387904 (length text.line) (length text.line) begun
      (omega (arith, fits.bytes.most, fits.rooms.small, fits.rooms.narrow)) (omega arith) fits.keys.few

  pub few-bytes : length text.line < 4611686018427387904
  few-bytes = omega (arith, fits.bytes.most, fits.rooms.small)

  -- few rows are counted
  pub few-formats : length (all_rows d.format.format) < 4294967296
  few-formats =
      omega (arith, fits.keys.rows.few, fits.keys.keys, fits.bytes.few, fits.rooms.small, length-append d.format.format.earlier d.format.format.rows)

  -- more bytes of the line
  pub push-fits : (more : List ℕ) (new : Begun) → length (text.read ++ text.line) + length more ≤ l.text + 4 → All (λ b. (b == newline) ≡ false) more
      → new ≡ begun_in phase d.format.format (text.line ++ more) → FewKeys (l.columns + length text.line + length more) (length text.line + length more) new
      → PartsFit l phase new (record text { line = text.line ++ more }) d
  push-fits more new room none is few =
      let longer = length-append text.line more in
      record {
        rooms = fits.rooms;
        bytes = record {
          few = fits.bytes.few;
          most = omega (arith, room, longer, length-append text.read text.line);
          block = fits.bytes.block;
          one_line =
              subst (λ (bytes : List ℕ). All (λ b. (b == newline) ≡ false) bytes) (sym (behind-append text.pending text.line more))
              (All-append (λ b. (b == newline) ≡ false) (behind_joined text.pending text.line) more fits.bytes.one_line none);
        };
        keys = KeysFit-by is
            (FewKeys-more (l.columns + length text.line + length more) (l.columns + length (text.line ++ more)) (length text.line + length more) (length (text.line ++ more)) new
            (omega (arith, longer)) (omega (arith, longer)) few) (counted-keys fits.keys);
        rows = fits.rows;
        messages = fits.messages;
        by_phase = fits.by_phase;
      }

  -- of the data nothing is known in front of its end
  data-begun : (p : Phase) (f : Format) (line other : List ℕ) → p ≡ InData → begun_in p f line ≡ begun_in p f other
  data-begun AtHead f line other is = cc
  data-begun InFormat f line other is = cc
  data-begun InData f line other is = refl
  data-begun Bad f line other is = cc

  pub push-data : (more : List ℕ) → phase ≡ InData → length (text.read ++ text.line) + length more ≤ l.text → All (λ b. (b == newline) ≡ false) more
      → PartsFit l phase begun (record text { line = text.line ++ more }) d
  push-data more is room none =
      push-fits more begun (omega (arith, room)) none (fits.keys.is ∙ data-begun phase d.format.format text.line (text.line ++ more) is)
      (FewKeys-more (l.columns + length text.line) (l.columns + length text.line + length more) (length text.line) (length text.line + length more) begun (omega arith) (omega arith) fits.keys.few)

  -- it lacks the end of its format
  pub refuse-fits : (number : ℕ) → is_front phase ≡ true
      → PartsFit l Bad Nothing text
      (let e = data_refused number d in record e { notes = record e.notes { to_tell = e.notes.notes } })
  refuse-fits number front =
      let reads = front-reads phase text.settled text.pending d front fits.by_phase in
      let note : KeptNote = record { line = number; cause = BadFormat } in
      let within = NotesWithin-append (length text.settled) d.notes.notes note tt reads.fits.notes in
      record {
        rooms = rooms-by fits.rooms refl refl refl refl refl refl;
        bytes = fits.bytes;
        keys = KeysFit-by refl tt (counted-keys fits.keys);
        rows = record { entries = omega (arith, fits.rows.entries); elements = omega (arith, fits.rows.elements) };
        messages = record {
          few = omega (arith, fits.messages.few, front-fault phase front, length-append d.notes.notes (note ∷ []));
          telling = within;
        };
        by_phase = record {
          alone = reads.alone;
          lies = lies-kept text.settled (all_rows d.format.format) d.rows reads.fits.kept.all;
          fits = record { closed = reads.fits.closed; notes = within };
        };
      }

-- a table without a line
pub start-fits : (l : TblLimits) (text : ℕ) (d : TableData) → HasRooms l text (emptied d)
    → PartsFit l AtHead (Front false) (no_text text) (emptied d)
start-fits l text d rooms = record {
  rooms = rooms;
  bytes = record { few = omega arith; most = omega arith; block = omega arith; one_line = All-nil (λ b. (b == newline) ≡ false) };
  keys = record { is = refl; few = tt; keys = omega arith; asked = omega arith; columns = omega arith; rows = record { few = omega arith; wide = λ some. absurd (omega (arith, some)) }; ended = tt; stands = tt; made = NoByte };
  rows = record { entries = omega arith; elements = omega arith };
  messages = record { few = omega arith; telling = tt };
  by_phase = record {
    no_bytes = refl;
    alone = refl;
    no_keys = refl;
    no_rows = refl;
    no_notes = refl;
    untold = refl;
    fits = record {
      kept = RowBegunKept-first [] [] (emptied d).rows 0 refl (RowsKept-none [] [] d.rows.entry_room d.rows.element_room d.rows.column_room);
      closed = refl;
      none = refl;
      columns = omega arith;
      first = refl;
      rules = refl;
      notes = tt;
    };
  };
}
