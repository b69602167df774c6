-- A line of the format has ended: the parts hold together, and give the table behind it.
use Rattle.std.proofs.Common.{◌≡◌, ◌==◌, ℕ, ◌+◌, ◌-◌, ◌<◌, ◌≤◌, false, List, [], ◌∷◌, ◌++◌, length, map, drop, Option, None, refl, sym, ap, subst, ◌∙◌, arith, append-nil, length-append, drop_at}
use Rattle.std.proofs.lemmas.List.Elements.{All-nil}
use Rattle.std.specs.List.{slice_range}
use Rattle.tbl_format.proofs.Parts.{slice_range-rest}
use Rattle.tbl_format.proofs.RowsHeld.{read-held}
use Rattle.input_source.specs.Bytes.{newline}
use Rattle.tbl_data.specs.TableData.{FitsBehind, FormatFits, OpenBehind, begun_by}
use Rattle.tbl_data.specs.TableRead.{TableRead}
use Rattle.tbl_data.specs.declared.phase.Phase.{Phase}
use Rattle.tbl_data.specs.declared.table_data.OpenBlock.{OpenBlock}
use Rattle.tbl_data.specs.declared.table_data.TableData.{TableData}
use Rattle.tbl_format.specs.Format.{Format}
use Rattle.tbl_options.specs.Notes.{NotesWithin, told_of_all}
use Rattle.tbl_format.specs.RowsServed.{all_rows}
use Rattle.tbl_format.specs.declared.format.FormatPlace.{FormatPlace}
use Rattle.tbl_format.specs.declared.format.FormatPlace.TheVariants.{AtEnd, AtFault, InRows}
use Rattle.tbl_format.specs.declared.limits.TblLimits.{TblLimits}
use Rattle.tbl_options.specs.declared.message.Told.{Told}
use Rattle.tbl_options.specs.declared.notes.Cause.TheVariants.{BadFormat}
use Rattle.tbl_options.specs.declared.options.Options.{Options}
use Rattle.tbl_kept.specs.Joined.{Joined, behind_joined}
use Rattle.tbl_kept.specs.Rows.{elements_of, entries_of}
use Rattle.tbl_kept.specs.TableNotes.{KeptNotes}
use Rattle.tbl_kept.specs.TableText.{KeptText, block_of, text_ended}
use Rattle.tbl_layout.specs.KeptEntries.{content_of}
use Rattle.tbl_table.specs.Begun.{begun_in}
use Rattle.tbl_table.specs.Kept.{EndFits, FormatReads, HasRooms, KeysFit, NotesFit, PartsFit, PhaseFits, RowsFit, TextFits, block_open, kept_in, reading_of}
use Rattle.tbl_table.specs.Steps.{data_behind, ended_with, phase_behind}
use Rattle.tbl_table.specs.Table.{behind_format}
use Rattle.tbl_table.specs.declared.begun.Begun.{Begun}
use Rattle.tbl_table.specs.declared.table.Table.TheInside.{Inside}
use Rattle.tbl_table.proofs.DataGrows.{FormatFits-more, Lies-format}
use Rattle.tbl_table.proofs.DataLies.{body-more, lies-kept}
use Rattle.tbl_table.proofs.FormatEnds.{Extends}
use Rattle.tbl_table.proofs.FormatTaken.{Fits-behind, made, made-same, read_on, table-behind}
use Rattle.tbl_table.proofs.TableFits.{IsCounted, KeysFit-by, behind-len, counted-longer, ended-read, few-start, rooms-by}

pub KeysFit-start : (l : TblLimits) (read : List ℕ) (p : Phase) (g : Format) → IsCounted l (length read) g → KeysFit l read [] p (begun_in p g []) g
KeysFit-start l read p g is =
    KeysFit-by refl (few-start (l.columns + 0) p g (read-held g is.made).row.short (omega (arith, is.columns)) is.stands) is

pub format-behind : (place : FormatPlace) (number : ℕ) (notes : KeptNotes) (g : Format) (d : TableData) → (data_behind place number (read_on g notes d)).format.format ≡ g
format-behind (InRows part) number notes g d = refl
format-behind AtEnd number notes g d = refl
format-behind AtFault number notes g d = refl

pub untold-behind : (place : FormatPlace) (number : ℕ) (notes : KeptNotes) (g : Format) (d : TableData)
    → (data_behind place number (read_on g notes d)).notes.to_tell ≡ notes.to_tell
untold-behind (InRows part) number notes g d = refl
untold-behind AtEnd number notes g d = refl
untold-behind AtFault number notes g d = refl

-- the keys of a line that is done
pub keys-line : (text : KeptText) (from : ℕ) → text.pending ≡ None → from ≡ length (text.settled ++ behind_joined text.pending [])
    → slice_range (block_of (text_ended text)) from (length (block_of (text_ended text))) ≡ text.line ++ newline ∷ []
keys-line text from none is =
    let block = block_of (text_ended text) in
    let start : from ≡ length text.settled =
    is ∙ ap (λ (p : Option Joined). length (text.settled ++ behind_joined p [])) none ∙ ap (λ (xs : List ℕ). length xs) (append-nil text.settled) in
    let whole : block ≡ text.settled ++ (text.line ++ newline ∷ []) =
    append-nil (text_ended text).settled ∙ ap (λ (p : Option Joined). text.settled ++ (behind_joined p text.line ++ newline ∷ [])) none in
    slice_range-rest block from
    ∙ ap (λ (k : ℕ). drop k block) start
    ∙ ap (λ (xs : List ℕ). drop (length text.settled) xs) whole
    ∙ drop_at text.settled (text.line ++ newline ∷ []) (length text.settled) refl

module _ {l : TblLimits} {phase : Phase} {begun : Begun} {text : KeptText} {d : TableData} (fits : PartsFit l phase begun text d) where
  -- behind the newline of a line that is done
  pub whole-len : length text.settled + length (behind_joined text.pending text.line) ≤ length text.read + length text.line
  whole-len = omega (arith, behind-len text.pending text.line, fits.bytes.block, length-append text.settled (behind_joined text.pending []))

  pub text-ends : length (text.read ++ text.line) < l.text → TextFits l (text_ended text).settled None [] (text_ended text).read
  text-ends room = record {
    few = omega (arith, room, ended-read text, length-append text.read text.line);
    most = omega (arith, room, ended-read text, length-append text.read text.line);
    block = omega (arith, ended-read text, whole-len, length-append (text_ended text).settled [], length-append text.settled (behind_joined text.pending text.line ++ newline ∷ []), length-append (behind_joined text.pending text.line) (newline ∷ []));
    one_line = All-nil (λ b. (b == newline) ≡ false);
  }

  pub longer-settled : length text.settled ≤ length (text_ended text).settled
  longer-settled = omega (arith, length-append text.settled (behind_joined text.pending text.line ++ newline ∷ []))

-- keys of a line that has ended are read, or the options and the keys behind them
pub record KeysTaken (a : Inside) (notes : KeptNotes) (g : Format) : Type 0 where
  pub fits : PartsFit a.limits a.phase a.begun a.text a.kept
  pub reads : FormatReads a.text.settled a.text.pending a.kept
  pub all : (n : ℕ) → kept_in a.phase n ≡ n
  pub is : Extends a.kept.format.format g
  pub wider : length a.kept.format.format.asked ≤ length g.asked
  pub room : length (a.text.read ++ a.text.line) < a.limits.text
  pub counted : IsCounted a.limits (length a.text.read + length a.text.line + 1) g
  pub few : length notes.notes ≤ length a.text.read + length a.text.line + 1
  pub within : NotesWithin (length (text_ended a.text).settled) notes.notes
  pub to_tell : NotesWithin (length (text_ended a.text).settled) notes.to_tell
  pub same : notes.note_room ≡ a.kept.notes.note_room

module _ {a : Inside} {notes : KeptNotes} {g : Format} (keys : KeysTaken a notes g) (number : ℕ) where
  abbrev behind : FormatPlace → TableData
  behind place = data_behind place number (read_on g notes a.kept)

  -- of what was read there are as many bytes as before, and some more
  rooms-behind : (place : FormatPlace) → HasRooms a.limits a.text.text_room (behind place)
  rooms-behind (InRows part) = rooms-by keys.fits.rooms refl refl refl keys.same refl refl
  rooms-behind AtEnd = rooms-by keys.fits.rooms refl refl refl keys.same refl refl
  rooms-behind AtFault = rooms-by keys.fits.rooms refl refl refl keys.same refl refl

  grown : FormatFits (text_ended a.text).settled a.kept
  grown = FormatFits-more a.text.settled (behind_joined a.text.pending a.text.line ++ newline ∷ []) a.kept keys.reads.fits

  few-entries : entries_of a.kept.rows + 1 ≤ length (text_ended a.text).read
  few-entries = omega (arith, keys.fits.rows.entries, keys.all (entries_of a.kept.rows), ended-read a.text)

  few-elements : length a.kept.rows.elements + block_open a.kept.open + 1 ≤ length (text_ended a.text).read
  few-elements =
      omega (arith, keys.fits.rows.elements, keys.all (length a.kept.rows.elements), ap block_open keys.reads.fits.closed, ended-read a.text)

  rows-behind : (place : FormatPlace) → RowsFit None (text_ended a.text).read (phase_behind place) (behind place)
  rows-behind (InRows part) = record { entries = omega (arith, few-entries); elements = omega (arith, few-elements) }
  rows-behind AtEnd = record { entries = omega (arith, few-entries); elements = omega (arith, few-elements) }
  rows-behind AtFault = record { entries = omega (arith, few-entries); elements = omega (arith, few-elements) }

  notes-behind : (place : FormatPlace) → NotesFit (text_ended a.text).settled None (text_ended a.text).read (phase_behind place) (behind place)
  notes-behind (InRows part) = record { few = omega (arith, keys.few, ended-read a.text); telling = keys.to_tell }
  notes-behind AtEnd = record { few = omega (arith, keys.few, ended-read a.text); telling = keys.to_tell }
  notes-behind AtFault = record {
    few = omega (arith, keys.few, ended-read a.text, length-append notes.notes (record { line = number; cause = BadFormat } ∷ []));
    telling = keys.to_tell;
  }

  fits-behind : (place : FormatPlace) → EndFits place g → FitsBehind (phase_behind place) (text_ended a.text).settled (behind place)
  fits-behind place ended = Fits-behind (text_ended a.text).settled a.kept g notes grown keys.is keys.wider keys.within place number ended

  phase-behind : (place : FormatPlace) → EndFits place g → PhaseFits (phase_behind place) (text_ended a.text).settled None (behind place)
  phase-behind (InRows part) ended = record { alone = refl; fits = fits-behind (InRows part) ended }
  phase-behind AtEnd ended = record {
    fits = fits-behind AtEnd ended;
    behind = subst (λ (o : OpenBlock). OpenBehind (text_ended a.text).settled (length (text_ended a.text).settled) o a.kept.rows.row) (sym keys.reads.fits.closed) tt;
  }
  phase-behind AtFault ended = record {
    alone = refl;
    lies = lies-kept (text_ended a.text).settled (all_rows a.kept.format.format) a.kept.rows grown.kept.all;
    fits = fits-behind AtFault ended;
  }

  pub keys-fits : PartsFit a.limits (phase_behind g.place) (begun_in (phase_behind g.place) g []) (text_ended a.text) (behind g.place)
  keys-fits = record {
    rooms = rooms-behind g.place;
    bytes = text-ends keys.fits keys.room;
    keys =
        subst (KeysFit a.limits (text_ended a.text).read [] (phase_behind g.place) (begun_in (phase_behind g.place) g [])) (sym (format-behind g.place number notes g a.kept))
        (KeysFit-start a.limits (text_ended a.text).read (phase_behind g.place) g (counted-longer keys.counted (omega (arith, ended-read a.text))));
    rows = rows-behind g.place;
    messages = notes-behind g.place;
    by_phase = phase-behind g.place keys.counted.ended;
  }

  -- the table behind it
  module _ (options : Options) (said : List Told) (says : told_of_all (text_ended a.text).settled notes.notes ≡ said) where
    abbrev front_read : TableRead
    front_read =
        made a.phase options g (a.kept.keys - a.kept.rules - length a.kept.format.format.earlier) a.text.pending
        (begun_by a.kept.open (map (content_of a.text.settled) a.kept.rows.row)) (elements_of a.text.settled (all_rows a.kept.format.format) a.kept.rows.elements) said

    pub keys-read : reading_of (phase_behind g.place) options (text_ended a.text) (behind g.place)
        ≡ ended_with (behind_format g.place number front_read) (reading_of a.phase a.options a.text a.kept)
    keys-read =
        let more = behind_joined a.text.pending a.text.line ++ newline ∷ [] in
        let lies = Lies-format a.text.settled more a.kept keys.reads.fits in
        ap (λ (t : TableRead). ended_with t (reading_of a.phase a.options a.text a.kept))
        (table-behind (text_ended a.text).settled a.kept g notes grown keys.is keys.wider keys.within a.phase options a.text.pending keys.reads.alone said says g.place number
        ∙ ap (λ (t : TableRead). behind_format g.place number t)
        (made-same a.phase options g _ _ a.text.pending a.text.pending _ _ _ _ said said refl refl lies.begun
        (body-more a.text.settled more (all_rows a.kept.format.format) a.kept.rows.elements lies.lies) refl))
