-- Whole lines of the data, by what they are.
use Rattle.std.proofs.Common.{◌≡◌, ◌≢◌, ℕ, ◌+◌, ◌-◌, ◌<◌, ◌≤◌, ◌^◌, Bool, true, false, List, [], ◌∷◌, ◌++◌, length, map, take, drop, Option, Some, refl, sym, ap, subst, ◌∙◌, arith, append-nil, length-append, if◌then◌else◌, is_some, nat_lt, option_map}
use Rattle.std.specs.List.{slice_range}
use Rattle.tbl_data.specs.DataRead.{behind_block, cells, closed_block, field_notes, fields_with_block, item_notes, keyed, serving, with_block_line, with_fields, with_line, with_row, with_text, with_whole}
use Rattle.tbl_data.specs.LineTaken.{EndsRow, Grows, LineLies, Makes, RowFits, block_line_made, contents_in, fields_made, left_from, made_by, more_notes, notes_kept, row_begun, text_made}
use Rattle.tbl_data.specs.OpenBlocks.{had_surplus, is_open}
use Rattle.tbl_data.specs.TableData.{DataFits, ElementEnds, EndsBy, OpenEndsAt, OpenFits, SameRooms, begun_by, table_by}
use Rattle.tbl_data.specs.TableRead.{RowBegun, TableRead, with_notes}
use Rattle.tbl_data.specs.declared.data_line.DataLine.{DataLine}
use Rattle.tbl_data.specs.declared.phase.Phase.{Phase}
use Rattle.tbl_data.specs.declared.phase.Phase.TheVariants.{InData, InFormat}
use Rattle.tbl_data.specs.declared.table_data.OpenBlock.{OpenBlock}
use Rattle.tbl_data.specs.declared.table_data.OpenBlock.TheVariants.{Dropped, Kept, Nothing}
use Rattle.tbl_data.specs.declared.table_data.TableData.{TableData}
use Rattle.tbl_data.proofs.BlockSteps.{begun-contents, begun-kept, begun-some, begun-surplus, row-unfilled}
use Rattle.tbl_data.proofs.EndsKept.{all-append, notes-end, within-append}
use Rattle.tbl_data.proofs.FieldSteps.{content-of, outcome}
use Rattle.tbl_data.proofs.LineFields.{fields-alone, fields-first, makes-as, some-fields}
use Rattle.tbl_data.proofs.NotesTold.{items-told}
use Rattle.tbl_data.proofs.RowSteps.{entries_in-append, table-notes}
use Rattle.tbl_format.specs.Format.{FormatRow, further}
use Rattle.tbl_options.specs.Notes.{NotesWithin, told_of_all}
use Rattle.tbl_format.specs.RowsServed.{all_rows}
use Rattle.tbl_options.specs.declared.message.Told.{Told}
use Rattle.tbl_options.specs.declared.notes.Cause.TheVariants.{RequestInTextBlock}
use Rattle.tbl_options.specs.declared.notes.KeptNote.{KeptNote}
use Rattle.tbl_options.specs.declared.options.Options.{Options}
use Rattle.tbl_kept.proofs.RowsKeeping.{RowBegunKept-command, RowBegunKept-first, RowBegunKept-rule, elements_of-command, elements_of-rule}
use Rattle.tbl_kept.specs.Joined.{ends_joined, line_at}
use Rattle.tbl_kept.specs.Rows.{RowsKept, Command as OneCommand, Rule as OneRule, elements_of, with_command, with_rule}
use Rattle.tbl_kept.specs.TableNotes.{KeptNotes}
use Rattle.tbl_kept.specs.TableText.{KeptText, block_of}
use Rattle.tbl_layout.proofs.Fields.{field_len, length-part, rest-part}
use Rattle.tbl_layout.specs.Data.{fields}
use Rattle.tbl_layout.specs.DataLines.{block_line_kind, ends_in_block, len_of_fields, line_kind, without_opening}
use Rattle.tbl_layout.specs.Entries.{Content, Element}
use Rattle.tbl_layout.specs.KeptEntries.{content_of}
use Rattle.tbl_layout.specs.declared.entry.Entry.{Entry}
use Rattle.tbl_layout.specs.declared.data_lines.BlockLineKind.TheVariants.{End, Text}
use Rattle.tbl_layout.specs.declared.data_lines.LineKind.{LineKind}
use Rattle.tbl_layout.specs.declared.data_lines.RuleSign.{RuleSign}
use Rattle.tbl_layout.specs.declared.data_lines.LineKind.TheVariants.{Command, Formats, Row, Rule}
use Rattle.tbl_text.specs.Items.{items}
use Rattle.tbl_text.specs.Measuring.{notes_from}

-- between two lines all is known that is known between two fields
pub row-fits : (bytes : List ℕ) (d : TableData) → length (all_rows d.format.format) < 2 ^ 32 → DataFits bytes d → RowFits bytes d
row-fits bytes d small fits =
    record { kept = fits.kept; columns = fits.columns; served = fits.served; small = small; whole = fits.whole; notes = fits.notes }

-- no field is kept where no block is open
pub none-kept : (k : KeptText) (d : TableData) → DataFits (block_of k) d → d.open ≡ Nothing → d.rows.row ≡ []
none-kept k d fits closed = subst (λ (o : OpenBlock). OpenFits o d.rows.row) closed fits.block

-- a row
pub row-line : {k : KeptText} {line : DataLine} {kind : LineKind} {d new : TableData} → kind ≡ Row → d.rows.row ≡ []
    → Makes k line (line.to - line.from + 1) (fields_made k line line.from false d) InData d new
    → Makes k line (line.to - line.from + 1) (made_by kind k line) InData d new
row-line {k} {line} {kind} {d} {new} is none made =
    let count = line.to - line.from + 1 in
    let here : line.from - line.from ≡ 0 = omega arith in
    let text = left_from k line line.from in
    makes-as k line count count (fields_made k line line.from false d) (made_by kind k line) InData d new (omega arith)
    (λ options same.
    let t = table_by InData options (block_of k) d in
    ap (λ (p : ℕ). with_fields (ends_joined k.pending) line.number p (fields line.separator text) (contents_in k d) false t) here
    ∙ ap (λ (es : List Entry). with_fields (ends_joined k.pending) line.number 0 (fields line.separator text) (map (content_of (block_of k)) es) false t) none
    ∙ ap (λ (s : ℕ). with_fields (ends_joined k.pending) line.number 0 (fields s text) [] false t) (sym same)
    ∙ sym (ap (λ (x : LineKind). made_by x k line t) is))
    made

-- a line that another one is known to be
pub kind-line : {k : KeptText} {line : DataLine} {kind other : LineKind} {most : ℕ} {phase : Phase} {d new : TableData} → kind ≡ other
    → Makes k line 0 (made_by other k line) phase d new → Makes k line most (made_by kind k line) phase d new
kind-line {k} {line} {kind} {other} {most} {phase} {d} {new} is made =
    makes-as k line 0 most (made_by other k line) (made_by kind k line) phase d new (omega arith)
    (λ options same. sym (ap (λ (x : LineKind). made_by x k line (table_by InData options (block_of k) d)) is)) made

-- a further format
module _ (k : KeptText) (line : DataLine) (d : TableData) (fits : DataFits (block_of k) d) (closed : d.open ≡ Nothing) where
  abbrev pub with_further : ℕ → TableData
  with_further keys = record d { format = record d.format { format = further d.format.format }; keys = keys; rules = 0 }

  same-rows : all_rows (further d.format.format) ≡ all_rows d.format.format
  same-rows = append-nil (all_rows d.format.format)

  none-before : d.rows.row ≡ []
  none-before = none-kept k d fits closed

  pub formats-follow : (keys : ℕ) → keys ≡ length (all_rows d.format.format) → Makes k line 0 (made_by Formats k line) InFormat d (with_further keys)
  formats-follow keys is = record {
    table = λ options same.
        let t = table_by InData options (block_of k) d in
        let next : keys - 0 - length (all_rows d.format.format) ≡ 0 = omega (arith, is) in
        ap (λ (rows : List FormatRow). record t { phase = InFormat; format = further t.format; next_row = keys - 0 - length (all_rows d.format.format); body = elements_of (block_of k) rows d.rows.elements }) same-rows
        ∙ ap (λ (n : ℕ). record t { phase = InFormat; format = further t.format; next_row = n }) next;
    fits = record {
      kept = RowBegunKept-first (block_of k) (all_rows (further d.format.format)) d.rows keys none-before
          (subst (λ (rows : List FormatRow). RowsKept (block_of k) rows d.rows) (sym same-rows) fits.kept.all);
      closed = closed;
      none = none-before;
      columns = omega (arith, fits.columns);
      first = is;
      rules = refl;
      notes = fits.notes;
    };
    ends = subst (λ (o : OpenBlock). OpenEndsAt line.to o d.rows.row) (sym closed) tt;
    settled = λ ends. record { elements = ends.elements; row = ends.row; notes = ends.notes };
    grown = record { entries = omega arith; elements = omega arith; notes = omega arith; to_tell = refl; rooms = record { entries = refl; elements = refl; columns = refl; notes = refl; keys = refl; asked = refl; escapes = refl } };
  }

  -- a rule
  abbrev pub ruled : RuleSign → TableData
  ruled sign = record d { rows = with_rule sign d.rows }

  pub rule-kept : (sign : RuleSign) → Makes k line 0 (made_by (Rule sign) k line) InData d (ruled sign)
  rule-kept sign = record {
    table = λ options same.
        let t = table_by InData options (block_of k) d in
        ap (λ (body : List Element). record t { body = body }) (elements_of-rule (block_of k) (all_rows d.format.format) d.rows sign);
    fits = record {
      kept = RowBegunKept-rule (block_of k) (all_rows d.format.format) d.rows d.keys sign fits.kept;
      block = fits.block;
      columns = fits.columns;
      served = fits.served;
      whole = fits.whole;
      notes = fits.notes;
    };
    ends = subst (λ (o : OpenBlock). OpenEndsAt line.to o d.rows.row) (sym closed) tt;
    settled = λ ends. record { elements = all-append (ElementEnds line.to) d.rows.elements (OneRule sign) ends.elements tt; row = ends.row; notes = ends.notes };
    grown = record {
      entries = omega (arith, entries_in-append d.rows.elements (OneRule sign ∷ []));
      elements = omega (arith, length-append d.rows.elements (OneRule sign ∷ []));
      notes = omega arith;
      to_tell = refl;
      rooms = record { entries = refl; elements = refl; columns = refl; notes = refl; keys = refl; asked = refl; escapes = refl };
    };
  }

  -- a command
  abbrev pub with_one : TableData
  with_one = record d { rows = with_command line.from line.to d.rows }

  pub command-kept : line.from ≤ line.to → line.to ≤ length (block_of k) → Makes k line 0 (made_by Command k line) InData d with_one
  command-kept order within = record {
    table = λ options same.
        let t = table_by InData options (block_of k) d in
        ap (λ (body : List Element). record t { body = body }) (elements_of-command (block_of k) (all_rows d.format.format) d.rows line.from line.to);
    fits = record {
      kept = RowBegunKept-command (block_of k) (all_rows d.format.format) d.rows d.keys line.from line.to order within fits.kept;
      block = fits.block;
      columns = fits.columns;
      served = fits.served;
      whole = fits.whole;
      notes = fits.notes;
    };
    ends = subst (λ (o : OpenBlock). OpenEndsAt line.to o d.rows.row) (sym closed) tt;
    settled = λ ends. record { elements = all-append (ElementEnds line.to) d.rows.elements (OneCommand line.from line.to) ends.elements (omega arith); row = ends.row; notes = ends.notes };
    grown = record {
      entries = omega (arith, entries_in-append d.rows.elements (OneCommand line.from line.to ∷ []));
      elements = omega (arith, length-append d.rows.elements (OneCommand line.from line.to ∷ []));
      notes = omega arith;
      to_tell = refl;
      rooms = record { entries = refl; elements = refl; columns = refl; notes = refl; keys = refl; asked = refl; escapes = refl };
    };
  }

-- a line of a block with messages behind it
module _ (k : KeptText) (line : DataLine) (most : ℕ) (d mid : TableData) (some : d.open ≢ Nothing) (made : Makes k line 0 (text_made k line) InData d mid) (notes : KeptNotes) (kept : List KeptNote) (told : notes ≡ more_notes kept mid.notes) (few : length notes.notes ≤ length mid.notes.notes + most) where
  abbrev text : List ℕ
  text = left_from k line line.from

  abbrev row : RowBegun
  row = row_begun d.open (contents_in k d)

  -- with the row that has the line more
  abbrev longer : Options → TableRead
  longer options = record (table_by InData options (block_of k) d) { begun = Some (with_text text row) }

  longer-is : (options : Options) → text_made k line (table_by InData options (block_of k) d) ≡ longer options
  longer-is options =
      ap (λ (b : Option RowBegun). record (table_by InData options (block_of k) d) { begun = option_map (with_text text) b }) (begun-some d.open (contents_in k d) some)

  pub text-told : (make : TableRead → TableRead) (new : TableData) → new ≡ record mid { notes = notes; escapes = new.escapes } → new.escapes.room ≡ mid.escapes.room
      → ((len : ℕ) → NotesWithin len kept)
      → ((options : Options) → options.separator ≡ line.separator → with_notes (told_of_all (block_of k) kept) (longer options) ≡ make (table_by InData options (block_of k) d))
      → Makes k line most make InData d new
  text-told make new is room on-line same = subst (Makes k line most make InData d) (sym is) (record {
    table = λ options sep.
        table-notes InData options (block_of k) (record mid { escapes = new.escapes }) kept notes told
        ∙ ap (with_notes (told_of_all (block_of k) kept)) (made.table options sep ∙ longer-is options)
        ∙ same options sep;
    fits = record {
      kept = made.fits.kept;
      block = made.fits.block;
      columns = made.fits.columns;
      served = made.fits.served;
      whole = made.fits.whole;
      notes = subst (λ (n : KeptNotes). NotesWithin (length (block_of k)) n.notes) (sym told) (within-append (length (block_of k)) mid.notes.notes kept made.fits.notes (on-line (length (block_of k))));
    };
    ends = made.ends;
    settled = λ ends. let before = made.settled ends in record { elements = before.elements; row = before.row; notes = notes-end line.to mid.notes notes kept told (on-line line.to) before.notes };
    grown = record {
      entries = omega (arith, made.grown.entries);
      elements = made.grown.elements;
      notes = omega (arith, made.grown.notes, few);
      to_tell = ap (λ (n : KeptNotes). n.to_tell) told ∙ made.grown.to_tell;
      rooms = record {
        entries = made.grown.rooms.entries;
        elements = made.grown.rooms.elements;
        columns = made.grown.rooms.columns;
        notes = ap (λ (n : KeptNotes). n.note_room) told ∙ made.grown.rooms.notes;
        keys = made.grown.rooms.keys;
        asked = made.grown.rooms.asked;
        escapes = room ∙ made.grown.rooms.escapes;
      };
    };
  })

-- what is told of a line of a block that is kept
pub text-notes : (k : KeptText) (line : DataLine) (d : TableData) (options : Options) → d.open ≡ Kept → DataFits (block_of k) d
    → with_notes (told_of_all (block_of k) (notes_kept (ends_joined k.pending) line.number 0 (notes_from 0 (items (left_from k line line.from)))))
    (record (table_by InData options (block_of k) d) { begun = Some (with_text (left_from k line line.from) (row_begun d.open (contents_in k d))) })
    ≡ block_line_made Text k line d (table_by InData options (block_of k) d)
text-notes k line d options is fits =
    let text = left_from k line line.from in
    let ends = ends_joined k.pending in
    let row = row_begun d.open (contents_in k d) in
    let t = record (table_by InData options (block_of k) d) { begun = Some (with_text text row) } in
    let some : is_some row.block ≡ true = begun-kept d.open (block_of k) d.rows.row fits.block (row-unfilled (block_of k) d fits) is in
    ap (λ (ts : List Told). with_notes ts t) (items-told ends line.number 0 (block_of k) (items text))
    ∙ sym (ap (λ (b : Bool). with_notes (if b then item_notes ends line.number 0 (items text) else []) t) some)

-- what is told of a request in a block
pub request-notes : (k : KeptText) (line : DataLine) (kept : KeptNotes) (notes : KeptNotes)
    → notes ≡ more_notes (record { line = line_at (ends_joined k.pending) 0 line.number; cause = RequestInTextBlock } ∷ []) kept
    → length notes.notes ≤ length kept.notes + 1
request-notes k line kept notes told =
    omega (arith, ap (λ (n : KeptNotes). length n.notes) told, length-append kept.notes (record { line = line_at (ends_joined k.pending) 0 line.number; cause = RequestInTextBlock } ∷ []))

-- fields make the same of a table of which a row is begun
outcome-begun : (opens has had : Bool) (line : ℕ) (contents : List Content) (t : TableRead) (begun : Option RowBegun)
    → outcome opens contents has had line (record t { begun = begun }) ≡ outcome opens contents has had line t
outcome-begun true has had line contents t begun = refl
outcome-begun false has had line contents t begun = refl

fields-begun : (ends : List (ℕ × ℕ)) (n place : ℕ) (all : List (List ℕ)) (in_front : List Content) (had : Bool) (t : TableRead) (begun : Option RowBegun)
    → with_fields ends n place all in_front had (record t { begun = begun }) ≡ with_fields ends n place all in_front had t
fields-begun ends n place all in_front had t begun =
    let room = cells t - length in_front in
    let texts = take room (without_opening all) in
    let fields = keyed (serving t) (length in_front) texts in
    outcome-begun (ends_in_block all) (nat_lt room (length all)) had (line_at ends (place + len_of_fields texts - 1) n)
    (in_front ++ map content-of fields) (with_notes (field_notes ends n place fields) t) begun

-- rooms go by no block
rooms-of : (d : TableData) (o : OpenBlock) (new : TableData) → SameRooms (record d { «open» = o }) new → SameRooms d new
rooms-of d o new same =
    record { entries = same.entries; elements = same.elements; columns = same.columns; notes = same.notes; keys = same.keys; asked = same.asked; escapes = same.escapes }

-- a block ends
module _ (k : KeptText) (line : DataLine) (lies : LineLies (block_of k) line) (d : TableData) (fits : DataFits (block_of k) d) (some : d.open ≢ Nothing) (two : line.from + 2 ≤ line.to) (len : ℕ) (is : len ≡ field_len line.separator (left_from k line (line.from + 2))) where
  abbrev pub ended : TableData
  ended = record d { «open» = Nothing }

  abbrev text_behind : List ℕ
  text_behind = left_from k line (line.from + 2)

  abbrev row_open : RowBegun
  row_open = row_begun d.open (contents_in k d)

  behind-end : drop 2 (left_from k line line.from) ≡ text_behind
  behind-end = rest-part (block_of k) line.from line.to lies.order lies.within 2

  same-contents : fields_with_block row_open ≡ contents_in k d
  same-contents = begun-contents d.open (block_of k) d.rows.row fits.block (row-unfilled (block_of k) d fits) some

  same-surplus : row_open.had_surplus ≡ had_surplus d.open
  same-surplus = begun-surplus d.open (block_of k) d.rows.row fits.block (row-unfilled (block_of k) d fits) some

  end-is : (options : Options) → options.separator ≡ line.separator
      → block_line_made End k line d (table_by InData options (block_of k) d)
      ≡ behind_block (ends_joined k.pending) line.number (fields line.separator text_behind) row_open (table_by InData options (block_of k) d)
  end-is options sep =
      ap (λ (s : ℕ). behind_block (ends_joined k.pending) line.number (fields s (drop 2 (left_from k line line.from))) row_open (table_by InData options (block_of k) d)) sep
      ∙ ap (λ (t : List ℕ). behind_block (ends_joined k.pending) line.number (fields line.separator t) row_open (table_by InData options (block_of k) d)) behind-end

  pub end-alone : (most : ℕ) (new : TableData) → line.from + 2 + len ≡ line.to → EndsRow (block_of k) ended new → (EndsBy line.to ended → EndsBy line.to new) → new.open ≡ Nothing → Grows 0 1 ended new
      → Makes k line most (block_line_made End k line d) InData d new
  end-alone most new end done settled closed grown = record {
    table = λ options sep.
        done.table options
        ∙ ap (λ (cs : List Content). with_row cs (table_by InData options (block_of k) d)) (sym same-contents)
        ∙ sym (end-is options sep
        ∙ ap (λ (fs : List (List ℕ)). behind_block (ends_joined k.pending) line.number fs row_open (table_by InData options (block_of k) d)) (fields-alone k line lies (line.from + 2) len two is end));
    fits = done.fits;
    ends = subst (λ (o : OpenBlock). OpenEndsAt line.to o new.rows.row) (sym closed) tt;
    settled = λ ends. settled (record { elements = ends.elements; row = ends.row; notes = ends.notes });
    grown = record { entries = omega (arith, grown.entries); elements = grown.elements; notes = omega (arith, grown.notes); to_tell = grown.to_tell; rooms = rooms-of d Nothing new grown.rooms };
  }

  pub end-fields : (most : ℕ) (new : TableData) (had : Bool) → had ≡ had_surplus d.open → line.from + 2 + len < line.to → line.to - (line.from + 2 + len + 1) + 1 ≤ most
      → Makes k line (line.to - (line.from + 2 + len + 1) + 1) (fields_made k line (line.from + 2 + len + 1) had ended) InData ended new
      → Makes k line most (block_line_made End k line d) InData d new
  end-fields most new had surplus more few made =
      let at = line.from + 2 + len in
      let next = some-fields line.separator (left_from k line (at + 1)) in
      let ends = ends_joined k.pending in
      let n = line.number in
      let first = slice_range (block_of k) (line.from + 2) at in
      let place : at + 1 - line.from ≡ length first + 3 = omega (arith, length-part (block_of k) (line.from + 2) at (omega arith) (omega (arith, more, lies.within))) in
      record {
        table = λ options sep.
            let t = table_by InData options (block_of k) d in
            made.table options sep
            ∙ fields-begun ends n (at + 1 - line.from) (fields line.separator (left_from k line (at + 1))) (contents_in k d) had t (begun_by Nothing (contents_in k d))
            ∙ ap (λ (p : ℕ). with_fields ends n p (fields line.separator (left_from k line (at + 1))) (contents_in k d) had t) place
            ∙ ap (λ (cs : List Content). with_fields ends n (length first + 3) (fields line.separator (left_from k line (at + 1))) cs had t) (sym same-contents)
            ∙ ap (λ (b : Bool). with_fields ends n (length first + 3) (fields line.separator (left_from k line (at + 1))) (fields_with_block row_open) b t) (surplus ∙ sym same-surplus)
            ∙ ap (λ (fs : List (List ℕ)). with_fields ends n (length first + 3) fs (fields_with_block row_open) row_open.had_surplus t) next.is
            ∙ sym (end-is options sep
            ∙ ap (λ (fs : List (List ℕ)). behind_block ends n fs row_open t) (fields-first k line lies (line.from + 2) len two is more ∙ ap (λ (fs : List (List ℕ)). first ∷ fs) next.is));
        fits = made.fits;
        ends = made.ends;
        settled = λ ends. made.settled (record { elements = ends.elements; row = ends.row; notes = ends.notes });
        grown = record { entries = omega (arith, few, made.grown.entries); elements = made.grown.elements; notes = omega (arith, few, made.grown.notes); to_tell = made.grown.to_tell; rooms = rooms-of d Nothing new made.grown.rooms };
      }

-- a whole line, by the block that is open
pub whole-open : (o : OpenBlock) (ends : List (ℕ × ℕ)) (n : ℕ) (line : List ℕ) (contents : List Content) (t : TableRead) → o ≢ Nothing
    → with_block_line (block_line_kind line) ends n line (row_begun o contents) t ≡ with_whole (begun_by o contents) ends n line t
whole-open Nothing ends n line contents t some = absurd (some refl)
whole-open Kept ends n line contents t some = refl
whole-open (Dropped had) ends n line contents t some = refl

pub whole-closed : (o : OpenBlock) (ends : List (ℕ × ℕ)) (n : ℕ) (line : List ℕ) (contents : List Content) (t : TableRead) → o ≡ Nothing
    → with_line (line_kind line) ends n line t ≡ with_whole (begun_by o contents) ends n line t
whole-closed o ends n line contents t is = sym (ap (λ (x : OpenBlock). with_whole (begun_by x contents) ends n line t) is)

pub some-open : (o : OpenBlock) → is_open o ≡ true → o ≢ Nothing
some-open Nothing is none = absurd (cc)
some-open Kept is none = absurd (cc)
some-open (Dropped had) is none = absurd (cc)

-- a block ends with the table
pub closed-open : (bytes : List ℕ) (d : TableData) (t : TableRead) → DataFits bytes d → d.open ≢ Nothing
    → with_row (map (content_of bytes) d.rows.row) t ≡ closed_block (begun_by d.open (map (content_of bytes) d.rows.row)) t
closed-open bytes d t fits some =
    let contents = map (content_of bytes) d.rows.row in
    ap (λ (cs : List Content). with_row cs t) (sym (begun-contents d.open bytes d.rows.row fits.block (row-unfilled bytes d fits) some))
    ∙ sym (ap (λ (b : Option RowBegun). closed_block b t) (begun-some d.open contents some))
