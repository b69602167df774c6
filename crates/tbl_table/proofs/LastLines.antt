-- The parts of a table whose last line has no newline.
use Rattle.std.proofs.Common.{◌≡◌, ◌==◌, ℕ, suc, ◌+◌, ◌<◌, ◌≤◌, false, List, [], ◌∷◌, ◌++◌, length, map, take, drop, Option, Some, None, refl, sym, ap, subst, ◌∙◌, arith, append-nil, length-append, IfSome, unwrap_or}
use Rattle.std.proofs.lemmas.List.Elements.{All-nil}
use Rattle.input_source.specs.Bytes.{newline}
use Rattle.tbl_data.specs.TableData.{FormatFits}
use Rattle.tbl_data.specs.TableRead.{TableRead, with_notes, RowBegun}
use Rattle.tbl_data.specs.declared.phase.Phase.{Phase}
use Rattle.tbl_data.specs.declared.phase.Phase.TheVariants.{Bad, InFormat}
use Rattle.tbl_data.specs.declared.table_data.OpenBlock.TheVariants.{Nothing as NoBlock}
use Rattle.tbl_data.specs.declared.table_data.TableData.{TableData}
use Rattle.tbl_format.specs.Format.{Format, format_read, letters_left_out, no_format}
use Rattle.tbl_options.specs.Notes.{NotesWithin, told_of_all}
use Rattle.tbl_options.specs.Options.{options_end}
use Rattle.tbl_format.specs.RowsServed.{all_rows}
use Rattle.tbl_format.specs.declared.format.FormatPlace.{FormatPlace}
use Rattle.tbl_format.specs.declared.format.FormatPlace.TheVariants.{AtEnd, AtFault, InRows}
use Rattle.tbl_format.specs.declared.limits.TblLimits.{TblLimits}
use Rattle.tbl_options.specs.declared.message.Told.{Told}
use Rattle.tbl_options.specs.declared.notes.Cause.TheVariants.{BadFormat}
use Rattle.tbl_options.specs.declared.notes.KeptNote.{KeptNote}
use Rattle.tbl_format.proofs.LeftOut.{letters-newline}
use Rattle.tbl_kept.specs.Joined.{Joined, behind_joined}
use Rattle.tbl_kept.specs.Rows.{entries_of}
use Rattle.tbl_kept.specs.TableNotes.{KeptNotes}
use Rattle.tbl_kept.specs.TableText.{KeptText, block_of, text_whole}
use Rattle.tbl_layout.specs.KeptEntries.{content_of}
use Rattle.tbl_table.specs.Begun.{begun_in}
use Rattle.tbl_table.specs.Kept.{FormatReads, PartsFit, PhaseFits, TextFits, block_open, data_read, kept_in, row_open, table_of}
use Rattle.tbl_table.specs.MayTell.{fault_may_come}
use Rattle.tbl_table.specs.Steps.{fault_noted, head_letters, options_told, phase_at_last}
use Rattle.tbl_table.specs.Table.{behind_format, closed, closed_line, format_line, head_line, head_place, is_bad, is_bad_phase, left_out_notes, line_in, line_read, notes, with_options}
use Rattle.tbl_data.specs.DataRead.{closed_block}
use Rattle.tbl_table.specs.declared.begun.Begun.{Begun}
use Rattle.tbl_table.specs.declared.table.Table.TheInside.{Inside}
use Rattle.tbl_table.proofs.BegunLines.{options_end-within}
use Rattle.tbl_table.proofs.DataGrows.{BadFits-more, FormatFits-more, none-begun}
use Rattle.tbl_table.proofs.DataLies.{lies-kept, lies-longer}
use Rattle.tbl_table.proofs.FormatLines.{KeysFit-start, whole-len}
use Rattle.tbl_table.proofs.NotesKept.{NotesWithin-append, NotesWithin-more, told-more, told_of_letters}
use Rattle.tbl_table.proofs.OtherLines.{begun-start, begun-none, fault-read, few-none}
use Rattle.tbl_table.proofs.TableFits.{IsCounted, KeysFit-by, counted-keys, counted-longer, kept-most, rooms-by}

module _ {l : TblLimits} {phase : Phase} {begun : Begun} {text : KeptText} {d : TableData} (fits : PartsFit l phase begun text d) where
  pub whole-longer : length text.settled ≤ length (block_of text)
  whole-longer = omega (arith, length-append text.settled (behind_joined text.pending text.line))

  pub whole-read : length (text_whole text).read ≡ length text.read + length text.line
  whole-read = length-append text.read text.line

  -- all bytes are of complete lines
  pub whole-bytes : length (text.read ++ text.line) ≤ l.text → TextFits l (block_of text) None [] (text_whole text).read
  whole-bytes room = record {
    few = room;
    most = omega (arith, room);
    block = omega (arith, whole-len fits, whole-read, length-append text.settled (behind_joined text.pending text.line), length-append (block_of text) []);
    one_line = All-nil (λ b. (b == newline) ≡ false);
  }

  counted-whole : IsCounted l (length (text_whole text).read) d.format.format
  counted-whole = counted-longer (counted-keys fits.keys) (omega (arith, whole-read))

  -- a line of the options or the format
  module _ (reads : FormatReads text.settled text.pending d) (all : (n : ℕ) → kept_in phase n ≡ n) (kept : KeptNotes) (number : ℕ) (room : length (text.read ++ text.line) ≤ l.text) (few : length kept.notes ≤ length text.read + length text.line) (within : NotesWithin (length (block_of text)) kept.notes) (to_tell : NotesWithin (length (block_of text)) kept.to_tell) (same : kept.note_room ≡ d.notes.note_room) where
    grown : FormatFits (block_of text) d
    grown = FormatFits-more text.settled (behind_joined text.pending text.line) d reads.fits

    noted-fits : (p : Phase) (noted : KeptNotes) → data_read p ≡ 0 → noted.note_room ≡ d.notes.note_room
        → length noted.notes + fault_may_come p ≤ length text.read + length text.line + 1 → NotesWithin (length (block_of text)) noted.to_tell
        → PhaseFits p (block_of text) None (record d { notes = noted })
        → PartsFit l p (begun_in p d.format.format []) (text_whole text) (record d { notes = noted })
    noted-fits p noted none rooms less telling by_phase =
        let shut : block_open d.open ≡ 0 = ap block_open reads.fits.closed in
        record {
          rooms = rooms-by fits.rooms refl refl refl rooms refl refl;
          bytes = whole-bytes room;
          keys = KeysFit-start l (text_whole text).read p d.format.format counted-whole;
          rows = record {
            entries = omega (arith, fits.rows.entries, kept-most p (entries_of d.rows), all (entries_of d.rows), none, whole-read);
            elements = omega (arith, fits.rows.elements, kept-most p (length d.rows.elements), all (length d.rows.elements), none, shut, whole-read);
          };
          messages = record { few = omega (arith, less, whole-read); telling = telling };
          by_phase = by_phase;
        }

    format-fits : FormatFits (block_of text) (record d { notes = kept })
    format-fits =
        record { kept = grown.kept; closed = grown.closed; none = grown.none; columns = grown.columns; first = grown.first; rules = grown.rules; notes = within }

    whole-format : PartsFit l InFormat (begun_in InFormat d.format.format []) (text_whole text) (record d { notes = kept })
    whole-format = noted-fits InFormat kept refl same (omega (arith, few)) to_tell (record { alone = refl; fits = format-fits })

    -- behind keys that are reported by where their reading stands
    pub whole-keys : (place : FormatPlace)
        → PartsFit l (phase_at_last place) (begun_in (phase_at_last place) d.format.format []) (text_whole text) (record d { notes = fault_noted place number kept })
    whole-keys (InRows part) = whole-format
    whole-keys AtEnd = whole-format
    whole-keys AtFault =
        let note : KeptNote = record { line = number; cause = BadFormat } in
        noted-fits Bad (fault_noted AtFault number kept) refl same (omega (arith, few, length-append kept.notes (note ∷ []))) to_tell
        (record {
          alone = refl;
          lies = lies-kept (block_of text) (all_rows d.format.format) d.rows grown.kept.all;
          fits = record { closed = grown.closed; notes = NotesWithin-append (length (block_of text)) kept.notes note tt within };
        })

  -- behind a fault
  pub whole-bad : phase ≡ Bad → length (text.read ++ text.line) ≤ l.text → PartsFit l phase begun (text_whole text) d
  whole-bad is room =
      let reads = fault-read fits is in
      record {
        rooms = fits.rooms;
        bytes = whole-bytes room;
        keys = KeysFit-by (begun-start fits Bad is refl refl) (few-none fits (l.columns + 0) (begun-none fits Bad is refl)) counted-whole;
        rows = record {
          entries = omega (arith, fits.rows.entries, whole-read);
          elements = omega (arith, fits.rows.elements, whole-read, ap (λ (p : Option Joined). row_open p d.open) reads.alone);
        };
        messages = record {
          few = omega (arith, fits.messages.few, whole-read);
          telling = NotesWithin-more (length text.settled) (length (block_of text)) d.notes.to_tell whole-longer fits.messages.telling;
        };
        by_phase = subst (λ (p : Phase). PhaseFits p (block_of text) None d) (sym is)
            (record {
              alone = refl;
              lies = lies-longer (length text.settled) (length (block_of text)) d.rows.elements whole-longer reads.lies;
              fits = BadFits-more text.settled (behind_joined text.pending text.line) d reads.fits;
            });
      }

-- of a table only its phase says whether it was reported
pub is_bad-by : (t : TableRead) (p : Phase) → t.phase ≡ p → is_bad t ≡ is_bad_phase p
unfolding is_bad
is_bad-by t p is = ap is_bad_phase is

pub notes-by : (t : TableRead) (said : List Told) → t.notes ≡ said → notes t ≡ said
unfolding notes
notes-by t said is = is

-- a table in which no line goes on and no block is open, closed
pub done-line : (p : Option Joined) (t : TableRead) → p ≡ None → closed_line p t ≡ t
done-line None t none = refl
done-line (Some j) t none = absurd (cc)

done-block : (begun : Option RowBegun) (t : TableRead) → begun ≡ None → closed_block begun t ≡ t
done-block None t none = refl
done-block (Some row) t none = absurd (cc)

-- no line goes on in a table, and no block is open
pub record IsDone (t : TableRead) : Type 0 where
  pub alone : t.pending ≡ None
  pub closed : t.begun ≡ None

pub done-by : (a : Inside) → a.text.pending ≡ None → a.kept.open ≡ NoBlock → IsDone (table_of a.phase a.options a.text a.kept)
done-by a alone closed = record { alone = alone; closed = none-begun a.kept.open (map (content_of a.text.settled) a.kept.rows.row) closed }

pub closed-same : (t : TableRead) → IsDone t → closed t ≡ t
unfolding closed
closed-same t done =
    ap (λ (u : TableRead). closed_block u.begun u) (done-line t.pending t done.alone) ∙ done-block t.begun t done.closed

-- what the last line of keys makes of the table
behind-done : (place : FormatPlace) (n : ℕ) (t : TableRead) → IsDone t → IsDone (behind_format place n t)
behind-done (InRows part) n t done = record { alone = done.alone; closed = done.closed }
behind-done AtEnd n t done = record { alone = done.alone; closed = done.closed }
behind-done AtFault n t done = record { alone = refl; closed = refl }

behind-bad : (place : FormatPlace) (n : ℕ) (t : TableRead) → is_bad_phase (phase_at_last place) ≡ is_bad_phase (behind_format place n t).phase
behind-bad (InRows part) n t = refl
behind-bad AtEnd n t = refl
behind-bad AtFault n t = refl

bad-keys : (place : FormatPlace) (n : ℕ) (t : TableRead) → IsDone t → is_bad_phase (phase_at_last place) ≡ is_bad (closed (behind_format place n t))
bad-keys place n t done =
    let u = behind_format place n t in
    behind-bad place n t ∙ sym (is_bad-by u u.phase refl) ∙ ap is_bad (sym (closed-same u (behind-done place n t done)))

-- a table with keys and their messages
abbrev read_further : ℕ → List ℕ → TableRead → TableRead
read_further n ks t = record (with_notes (left_out_notes n t.format ks) t) { format = format_read t.format ks }

pub bad-format : (n : ℕ) (line : List ℕ) (t : TableRead) → IsDone t
    → is_bad_phase (phase_at_last (format_read t.format (line ++ newline ∷ [])).place) ≡ is_bad (closed (format_line n line t))
bad-format n line t done =
    let ks = line ++ newline ∷ [] in
    bad-keys (format_read t.format ks).place n (read_further n ks t) (record { alone = done.alone; closed = done.closed })

bad-first : (n : ℕ) (line : List ℕ) (t : TableRead) → IsDone t → t.format ≡ no_format
    → is_bad_phase (phase_at_last (format_read no_format (line ++ newline ∷ [])).place) ≡ is_bad (closed (format_line n line t))
bad-first n line t done no_keys =
    let ks = line ++ newline ∷ [] in
    ap (λ (f : Format). is_bad_phase (phase_at_last (format_read f ks).place)) (sym no_keys) ∙ bad-format n line t done

-- and a first line
pub bad-head : (end : Option ℕ) (n : ℕ) (line : List ℕ) (t : TableRead) → IsDone t → t.format ≡ no_format
    → is_bad_phase (phase_at_last (head_place end line)) ≡ is_bad (closed (head_line end n line t))
bad-head None n line t done no_keys = bad-first n line t done no_keys
bad-head (Some end) n line t done no_keys =
    bad-first n (drop (suc end) line) (with_options n (take end line) t)
    (record { alone = done.alone; closed = done.closed }) no_keys

-- and its messages
module _ (block : List ℕ) (kept : KeptNotes) where
  behind-told : (place : FormatPlace) (n : ℕ) (t : TableRead) → told_of_all block kept.notes ≡ t.notes
      → told_of_all block (fault_noted place n kept).notes ≡ (behind_format place n t).notes
  behind-told (InRows part) n t says = says
  behind-told AtEnd n t says = says
  behind-told AtFault n t says = told-more block kept.notes (record { line = n; cause = BadFormat }) t.notes says

  told-keys : (place : FormatPlace) (n : ℕ) (t : TableRead) → IsDone t → told_of_all block kept.notes ≡ t.notes
      → told_of_all block (fault_noted place n kept).notes ≡ notes (closed (behind_format place n t))
  told-keys place n t done says =
      let u = behind_format place n t in
      behind-told place n t says ∙ sym (notes-by u u.notes refl) ∙ ap notes (sym (closed-same u (behind-done place n t done)))

  pub told-format : (n : ℕ) (line : List ℕ) (t : TableRead) → IsDone t
      → told_of_all block kept.notes ≡ t.notes ++ told_of_letters n (letters_left_out t.format line)
      → told_of_all block (fault_noted (format_read t.format (line ++ newline ∷ [])).place n kept).notes ≡ notes (closed (format_line n line t))
  told-format n line t done says =
      let ks = line ++ newline ∷ [] in
      let said = says ∙ ap (λ (ls : List ℕ). t.notes ++ told_of_letters n ls) (sym (letters-newline t.format line)) in
      told-keys (format_read t.format ks).place n (read_further n ks t) (record { alone = done.alone; closed = done.closed }) said

  told-first : (n : ℕ) (line : List ℕ) (t : TableRead) → IsDone t → t.format ≡ no_format
      → told_of_all block kept.notes ≡ t.notes ++ told_of_letters n (letters_left_out t.format line)
      → told_of_all block (fault_noted (format_read no_format (line ++ newline ∷ [])).place n kept).notes ≡ notes (closed (format_line n line t))
  told-first n line t done no_keys says =
      let ks = line ++ newline ∷ [] in
      ap (λ (f : Format). told_of_all block (fault_noted (format_read f ks).place n kept).notes) (sym no_keys) ∙ told-format n line t done says

  pub told-head : (end : Option ℕ) (n : ℕ) (line : List ℕ) (t : TableRead) → IsDone t → t.format ≡ no_format
      → told_of_all block kept.notes ≡ (t.notes ++ options_told end n line) ++ told_of_letters n (head_letters end t.format line)
      → told_of_all block (fault_noted (head_place end line) n kept).notes ≡ notes (closed (head_line end n line t))
  told-head None n line t done no_keys says =
      told-first n line t done no_keys (says ∙ ap (λ (ts : List Told). ts ++ told_of_letters n (letters_left_out t.format line)) (append-nil t.notes))
  told-head (Some end) n line t done no_keys says =
      told-first n (drop (suc end) line) (with_options n (take end line) t)
      (record { alone = done.alone; closed = done.closed }) no_keys says

-- a line, by what is read
pub line-by : (t : TableRead) (p : Phase) (n : ℕ) (line : List ℕ) → t.phase ≡ p → line_read n line t ≡ line_in p n line t
unfolding line_read
line-by t p n line is = ap (λ (q : Phase). line_in q n line t) is

pub bad-last : (t : TableRead) (n : ℕ) (line : List ℕ) → t.phase ≡ Bad → IsDone t → closed (line_read n line t) ≡ t
bad-last t n line is done = ap closed (line-by t Bad n line is) ∙ closed-same t done

-- the block of a first line alone
pub head-whole : (text : KeptText) → text.settled ≡ [] → text.pending ≡ None → block_of text ≡ text.line
head-whole text empty none =
    ap (λ (xs : List ℕ). xs ++ behind_joined text.pending text.line) empty ∙ ap (λ (p : Option Joined). behind_joined p text.line) none

-- the options end within their line
pub end-within : (end : Option ℕ) (line : List ℕ) → end ≡ options_end line → IfSome end (λ e. e ≤ length line)
end-within None line is = tt
end-within (Some end) line is = omega (arith, options_end-within false 0 end line (sym is))

pub end-less : (end : Option ℕ) (line : List ℕ) → end ≡ options_end line → IfSome end (λ e. e < length line)
end-less None line is = tt
end-less (Some end) line is = omega (arith, options_end-within false 0 end line (sym is))

pub end-few : (end : Option ℕ) (line : List ℕ) → end ≡ options_end line → unwrap_or end 0 ≤ length line
end-few None line is = omega arith
end-few (Some end) line is = omega (arith, options_end-within false 0 end line (sym is))
