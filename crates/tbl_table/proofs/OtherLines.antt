-- A line behind a fault has ended, or a line of the data that goes on.
use Rattle.std.proofs.Common.{◌≡◌, ◌==◌, ℕ, ◌+◌, ◌-◌, ◌<◌, ◌≤◌, All, false, List, [], ◌∷◌, ◌++◌, length, take, Option, Some, None, refl, sym, ap, subst, ◌∙◌, arith, append-nil, length-append, length-take}
use Rattle.std.proofs.Math.Seq.{take-append-add}
use Rattle.std.proofs.lemmas.List.Elements.{All-take}
use Rattle.input_source.specs.Bytes.{newline}
use Rattle.tbl_data.specs.TableData.{table_by}
use Rattle.tbl_data.specs.TableRead.{TableRead}
use Rattle.tbl_data.specs.declared.phase.Phase.{Phase}
use Rattle.tbl_data.specs.declared.phase.Phase.TheVariants.{Bad, InData}
use Rattle.tbl_data.specs.declared.table_data.TableData.{TableData}
use Rattle.tbl_format.specs.declared.limits.TblLimits.{TblLimits}
use Rattle.tbl_options.specs.declared.options.Options.{Options}
use Rattle.tbl_kept.specs.Joined.{Joined, behind_joined}
use Rattle.tbl_kept.specs.TableText.{KeptText, text_ended, text_joined}
use Rattle.tbl_table.specs.Begun.{FewKeys, begun_in}
use Rattle.tbl_table.specs.Kept.{FaultRead, PartsFit, PhaseFits, reading_of, row_open, table_of}
use Rattle.tbl_table.specs.MayTell.{line_may_tell}
use Rattle.tbl_table.specs.Steps.{ended_with}
use Rattle.tbl_table.specs.declared.begun.Begun.{Begun}
use Rattle.tbl_table.specs.declared.begun.Begun.TheVariants.{Nothing}
use Rattle.tbl_table.proofs.DataGrows.{BadFits-more, Lies-bad, table-more}
use Rattle.tbl_table.proofs.DataLies.{lies-longer}
use Rattle.tbl_table.proofs.FormatLines.{longer-settled, text-ends}
use Rattle.tbl_table.proofs.LineEnds.{data-reads}
use Rattle.tbl_table.proofs.NotesKept.{NotesWithin-more}
use Rattle.tbl_table.proofs.TableFits.{KeysFit-by, behind-len, counted-keys, counted-longer, ended-read}

-- a joined line but its last byte
pub joined-cut : (pending : Option Joined) (line : List ℕ) → 0 < length line
    → take (length (behind_joined pending line) - 1) (behind_joined pending line) ≡ behind_joined pending (take (length line - 1) line)
joined-cut None line some = refl
joined-cut (Some j) line some =
    let n : length (j.bytes ++ line) - 1 ≡ length j.bytes + (length line - 1) = omega (arith, length-append j.bytes line, some) in
    ap (λ (k : ℕ). take k (j.bytes ++ line)) n ∙ take-append-add j.bytes line (length line - 1)

may-tell-less : (pending : Option Joined) (line : List ℕ) → 0 < length line
    → length (behind_joined pending (take (length line - 1) line)) + 1 ≤ line_may_tell pending + length line
may-tell-less None line some = omega (arith, some, length-take (length line - 1) line)
may-tell-less (Some j) line some =
    omega (arith, some, length-take (length line - 1) line, length-append j.bytes (take (length line - 1) line))

module _ {l : TblLimits} {phase : Phase} {begun : Begun} {text : KeptText} {d : TableData} (fits : PartsFit l phase begun text d) where
  pub fault-read : phase ≡ Bad → FaultRead text.settled text.pending d
  fault-read is = subst (λ (p : Phase). PhaseFits p text.settled text.pending d) is fits.by_phase

  pub begun-none : (p : Phase) → phase ≡ p → begun_in p d.format.format text.line ≡ Nothing → begun ≡ Nothing
  begun-none p is none = fits.keys.is ∙ ap (λ (q : Phase). begun_in q d.format.format text.line) is ∙ none

  pub begun-start : (p : Phase) → phase ≡ p → begun_in p d.format.format text.line ≡ Nothing → begun_in p d.format.format [] ≡ Nothing
      → begun ≡ begun_in phase d.format.format []
  begun-start p is none start = begun-none p is none ∙ sym start ∙ ap (λ (q : Phase). begun_in q d.format.format []) (sym is)

  pub few-none : (most : ℕ) → begun ≡ Nothing → FewKeys most 0 begun
  few-none most none = subst (λ (b : Begun). FewKeys most 0 b) (sym none) tt

  -- a line behind a fault is done
  pub bad-fits : phase ≡ Bad → length (text.read ++ text.line) < l.text → PartsFit l phase begun (text_ended text) d
  bad-fits is room =
      let reads = fault-read is in
      let more = behind_joined text.pending text.line ++ newline ∷ [] in
      let longer = longer-settled fits in
      record {
        rooms = fits.rooms;
        bytes = text-ends fits room;
        keys = KeysFit-by (begun-start Bad is refl refl) (few-none (l.columns + 0) (begun-none Bad is refl)) (counted-longer (counted-keys fits.keys) (omega (arith, ended-read text)));
        rows = record {
          entries = omega (arith, fits.rows.entries, ended-read text);
          elements = omega (arith, fits.rows.elements, ended-read text, ap (λ (p : Option Joined). row_open p d.open) reads.alone);
        };
        messages = record {
          few = omega (arith, fits.messages.few, ended-read text);
          telling = NotesWithin-more (length text.settled) (length (text_ended text).settled) d.notes.to_tell longer fits.messages.telling;
        };
        by_phase = subst (λ (p : Phase). PhaseFits p (text_ended text).settled None d) (sym is)
            (record {
              alone = refl;
              lies = lies-longer (length text.settled) (length (text_ended text).settled) d.rows.elements longer reads.lies;
              fits = BadFits-more text.settled more d reads.fits;
            });
      }

  pub bad-read : (options : Options) → phase ≡ Bad → reading_of phase options (text_ended text) d
      ≡ ended_with (table_of phase options text d) (reading_of phase options text d)
  bad-read options is =
      let reads = fault-read is in
      let more = behind_joined text.pending text.line ++ newline ∷ [] in
      let with_pending = λ (p : Option Joined) (t : TableRead). let u : TableRead = record t { pending = p } in u in
      ap (λ (t : TableRead). ended_with t (reading_of phase options text d))
      (ap (with_pending None) (table-more text.settled more d phase options (Lies-bad text.settled more d reads.fits reads.lies))
      ∙ ap (λ (p : Option Joined). with_pending p (table_by phase options text.settled d)) (sym reads.alone))

  -- a line goes on
  pub join-fits : phase ≡ InData → (number : ℕ) → 0 < length text.line → length (text.read ++ text.line) < l.text
      → PartsFit l phase begun (text_joined number text) d
  join-fits is number some room =
      let reads = data-reads fits is in
      let bytes = behind_joined text.pending (take (length text.line - 1) text.line) in
      let few = may-tell-less text.pending text.line some in
      record {
        rooms = fits.rooms;
        bytes = record {
          few = omega (arith, room, ended-read text, length-append text.read text.line);
          most = omega (arith, room, ended-read text, length-append text.read text.line);
          block = omega (arith, ended-read text, fits.bytes.block, length-append text.settled (behind_joined text.pending []), length-append text.settled (bytes ++ []), length-append bytes [], behind-len text.pending (take (length text.line - 1) text.line), length-take (length text.line - 1) text.line);
          one_line =
              subst (λ (xs : List ℕ). All (λ b. (b == newline) ≡ false) xs) (joined-cut text.pending text.line some ∙ sym (append-nil bytes))
              (All-take (λ b. (b == newline) ≡ false) (length (behind_joined text.pending text.line) - 1) (behind_joined text.pending text.line) fits.bytes.one_line);
        };
        keys = KeysFit-by (begun-start InData is refl refl) (few-none (l.columns + 0) (begun-none InData is refl)) (counted-longer (counted-keys fits.keys) (omega (arith, ended-read text)));
        rows = record {
          entries = omega (arith, fits.rows.entries, few, ended-read text);
          elements = omega (arith, fits.rows.elements, ended-read text);
        };
        messages = record { few = omega (arith, fits.messages.few, few, ended-read text); telling = fits.messages.telling };
        by_phase = subst (λ (p : Phase). PhaseFits p text.settled (text_joined number text).pending d) (sym is) (record { fits = reads.fits; behind = reads.behind });
      }
