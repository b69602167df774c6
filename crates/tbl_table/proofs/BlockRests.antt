-- A text block that is open ends where no line goes on: the parts hold together, and give the table that is closed.
use Rattle.std.proofs.Common.{◌≡◌, ℕ, Bool, true, false, List, length, map, Option, Some, None, refl, sym, ap, subst, ◌∙◌, arith}
use Rattle.tbl_data.specs.DataRead.{closed_block}
use Rattle.tbl_data.specs.TableData.{table_by}
use Rattle.tbl_data.specs.TableRead.{RowBegun, TableRead}
use Rattle.tbl_data.specs.declared.phase.Phase.{Phase}
use Rattle.tbl_data.specs.declared.phase.Phase.TheVariants.{AtHead, Bad, InData, InFormat}
use Rattle.tbl_data.specs.declared.table_data.OpenBlock.{OpenBlock}
use Rattle.tbl_data.specs.declared.table_data.OpenBlock.TheVariants.{Nothing as NoBlock}
use Rattle.tbl_data.specs.declared.table_data.TableData.{TableData}
use Rattle.tbl_format.specs.FormatRows.{KeptFormat}
use Rattle.tbl_options.specs.Notes.{NotesWithin}
use Rattle.tbl_format.specs.declared.limits.TblLimits.{TblLimits}
use Rattle.tbl_options.specs.declared.options.Options.{Options}
use Rattle.tbl_kept.specs.Joined.{Joined}
use Rattle.tbl_kept.specs.Rows.{entries_of}
use Rattle.tbl_kept.specs.TableNotes.{KeptNotes}
use Rattle.tbl_kept.specs.TableText.{KeptText}
use Rattle.tbl_layout.specs.KeptEntries.{content_of}
use Rattle.tbl_table.specs.Kept.{KeysFit, PartsFit, PhaseFits, block_open, reading_of, row_open, table_of}
use Rattle.tbl_table.specs.Reading.{Reading}
use Rattle.tbl_data.specs.OpenBlocks.{is_open}
use Rattle.tbl_table.specs.Steps.{BlockEnds, CanEnd}
use Rattle.tbl_table.specs.Table.{closed}
use Rattle.tbl_table.specs.declared.begun.Begun.{Begun}
use Rattle.tbl_table.proofs.DataGrows.{none-begun}
use Rattle.tbl_table.proofs.LineEnds.{all-kept, data-reads, one-read}
use Rattle.tbl_table.proofs.TableFits.{kept-most, rooms-same}
use Rattle.tbl_table.proofs.BlockCloses.{can-end, closes-data, no-behind, no-open, none-open}

-- one that is open is open in the data
open-phase : (p : Phase) (settled : List ℕ) (pending : Option Joined) (d : TableData) → PhaseFits p settled pending d → is_open d.open ≡ true → p ≡ InData
open-phase AtHead settled pending d fits some = absurd (no-open d.open fits.fits.closed some)
open-phase InFormat settled pending d fits some = absurd (no-open d.open fits.fits.closed some)
open-phase InData settled pending d fits some = refl
open-phase Bad settled pending d fits some = absurd (no-open d.open fits.fits.closed some)

row-none : (pending : Option Joined) (block : OpenBlock) → pending ≡ None → row_open pending block ≡ block_open block
row-none None block none = refl
row-none (Some j) block none = absurd (cc)

-- where no line goes on
module _ {l : TblLimits} {phase : Phase} {begun : Begun} {text : KeptText} {d : TableData} (fits : PartsFit l phase begun text d) where
  pub rest-data : is_open d.open ≡ true → phase ≡ InData
  rest-data some = open-phase phase text.settled text.pending d fits.by_phase some

  pub rest-can : is_open d.open ≡ true → CanEnd d
  rest-can some =
      let is = rest-data some in
      can-end text.settled d (data-reads fits is).fits
      (omega (
        arith,
        fits.rows.elements,
        fits.rooms.elements,
        fits.bytes.few,
        one-read fits is,
        all-kept fits is (length d.rows.elements),
      ))
      (omega (arith, fits.rows.entries, all-kept fits is (entries_of d.rows), fits.bytes.few, fits.rooms.small))

  -- what the end of a block has made
  pub record Rests (new : TableData) : Type 0 where
    pub parts : PartsFit l phase begun text new
    pub table : (options : Options) → table_by phase options text.settled new
        ≡ closed_block (table_by phase options text.settled d).begun (table_by phase options text.settled d)
    pub notes : new.notes ≡ d.notes

  rests-none : d.open ≡ NoBlock → Rests d
  rests-none closed = record {
    parts = fits;
    table = λ options. ap (λ (b : Option RowBegun). closed_block b (table_by phase options text.settled d)) (sym (none-begun d.open (map (content_of text.settled) d.rows.row) closed));
    notes = refl;
  }

  rests-some : (new : TableData) → text.pending ≡ None → is_open d.open ≡ true → BlockEnds d new → Rests new
  rests-some new none some ends =
      let is = rest-data some in
      let closing = closes-data text.settled d new (data-reads fits is).fits some ends in
      record {
        parts = record {
          rooms = rooms-same closing.rooms fits.rooms;
          bytes = fits.bytes;
          keys = subst (λ (k : KeptFormat). KeysFit l text.read text.line phase begun k.format) (sym closing.format) fits.keys;
          rows = record {
            entries = omega (arith, kept-most phase (entries_of new.rows), all-kept fits is (entries_of d.rows), closing.entries, fits.rows.entries);
            elements = omega (arith, kept-most phase (length new.rows.elements), all-kept fits is (length d.rows.elements), closing.elements, row-none text.pending d.open none, row-none text.pending new.open none, ap block_open closing.closed, fits.rows.elements);
          };
          messages = record {
            few = omega (arith, ap (λ (k : KeptNotes). length k.notes) closing.notes, fits.messages.few);
            telling = subst (λ (k : KeptNotes). NotesWithin (length text.settled) k.to_tell) (sym closing.notes) fits.messages.telling;
          };
          by_phase = subst (λ (q : Phase). PhaseFits q text.settled text.pending new) (sym is)
              (record { fits = closing.fits; behind = no-behind text.settled (length text.settled) new closing.closed });
        };
        table = λ options.
            subst (λ (q : Phase). table_by q options text.settled new ≡ closed_block (table_by q options text.settled d).begun (table_by q options text.settled d)) (sym is)
            (closing.table options);
        notes = closing.notes;
      }

  rests-by : (b : Bool) (new : TableData) → is_open d.open ≡ b → text.pending ≡ None → (is_open d.open ≡ true → BlockEnds d new) → (is_open d.open ≡ false → new ≡ d) → Rests new
  rests-by false new is none done same = subst (λ (e : TableData). Rests e) (sym (same is)) (rests-none (none-open d.open is))
  rests-by true new is none done same = rests-some new none is (done is)

  pub rests : (new : TableData) → text.pending ≡ None → (is_open d.open ≡ true → BlockEnds d new) → (is_open d.open ≡ false → new ≡ d) → Rests new
  rests new none done same = rests-by (is_open d.open) new refl none done same

  pub rest-read : (options : Options) (new : TableData) → text.pending ≡ None → Rests new
      → reading_of phase options text new ≡ record (reading_of phase options text d) { table = closed (table_of phase options text d) }
  unfolding closed
  rest-read options new none rest =
      let before = table_by phase options text.settled d in
      let after = table_by phase options text.settled new in
      let with_pending = λ (p : Option Joined) (t : TableRead). let u : TableRead = record t { pending = p } in u in
      ap (λ (t : TableRead). let r : Reading = record { table = t; read = text.read; line = text.line } in r)
      (ap (λ (p : Option Joined). with_pending p after) none
      ∙ rest.table options
      ∙ ap (λ (p : Option Joined). closed (with_pending p before)) (sym none))
