-- What is kept of the data fits behind keys of the format, and gives the table behind them.
use Rattle.std.proofs.Common.{◌≡◌, ℕ, ◌+◌, ◌-◌, ◌<◌, ◌≤◌, List, ◌++◌, length, map, drop, Option, None, refl, sym, ap, subst, ◌∙◌, arith, append_assoc, length-append, length-drop, replicate}
use Rattle.std.proofs.lemmas.List.{length-replicate}
use Rattle.tbl_data.specs.TableData.{BadFits, DataFits, FitsBehind, FormatFits, OpenFits, begun_by, table_by}
use Rattle.tbl_data.specs.TableRead.{RowBegun, TableRead}
use Rattle.tbl_data.specs.declared.phase.Phase.{Phase}
use Rattle.tbl_data.specs.declared.phase.Phase.TheVariants.{Bad, InData, InFormat}
use Rattle.tbl_data.specs.declared.table_data.OpenBlock.{OpenBlock}
use Rattle.tbl_data.specs.declared.table_data.TableData.{TableData}
use Rattle.tbl_format.specs.Format.{Format, FormatRow}
use Rattle.tbl_format.specs.FormatRows.{keeping}
use Rattle.tbl_options.specs.Notes.{NotesWithin, told_of_all}
use Rattle.tbl_format.specs.RowsServed.{all_rows}
use Rattle.tbl_format.specs.declared.format.FormatPlace.{FormatPlace}
use Rattle.tbl_format.specs.declared.format.FormatPlace.TheVariants.{AtEnd, AtFault, InRows}
use Rattle.tbl_options.specs.declared.message.Told.{Told}
use Rattle.tbl_options.specs.declared.notes.Cause.TheVariants.{BadFormat}
use Rattle.tbl_options.specs.declared.options.Options.{Options}
use Rattle.tbl_kept.specs.Joined.{Joined}
use Rattle.tbl_kept.specs.Rows.{KeptRows, RowsKept, elements_of, no_column, with_columns}
use Rattle.tbl_kept.specs.TableNotes.{KeptNotes}
use Rattle.tbl_layout.specs.Entries.{Element}
use Rattle.tbl_layout.specs.KeptEntries.{content_of}
use Rattle.tbl_layout.specs.RuleKeys.{rule_rows}
use Rattle.tbl_data.proofs.RuleRows.{rule_rows-fewer}
use Rattle.tbl_kept.proofs.RowsKeeping.{RowBegunKept-first, RowsKept-columns, RowsKept-formats, elements_of-formats}
use Rattle.tbl_table.specs.Kept.{EndFits, IsWhole}
use Rattle.tbl_table.specs.Steps.{data_behind, phase_behind}
use Rattle.tbl_table.specs.Table.{behind_format}
use Rattle.tbl_table.proofs.DataGrows.{none-begun}
use Rattle.tbl_table.proofs.FormatEnds.{Extends}
use Rattle.tbl_table.proofs.NotesKept.{NotesWithin-append, told-more}

-- the rows of all formats, behind more of the last one
pub all-extend : (f g : Format) (is : Extends f g) → all_rows g ≡ all_rows f ++ is.more
all-extend f g is =
    ap (λ (rows : List FormatRow). rows ++ g.rows) is.earlier
    ∙ ap (λ (rows : List FormatRow). f.earlier ++ rows) is.rows
    ∙ sym (append_assoc f.earlier f.rows is.more)

-- with keys and messages more
abbrev pub read_on : Format → KeptNotes → TableData → TableData
read_on g notes d = record d { format = keeping d.format g; notes = notes }

module _ (bytes : List ℕ) (d : TableData) (g : Format) (notes : KeptNotes) (fits : FormatFits bytes d) (is : Extends d.format.format g) (wider : length d.format.format.asked ≤ length g.asked) (within : NotesWithin (length bytes) notes.notes) where
  formats-kept : RowsKept bytes (all_rows g) d.rows
  formats-kept =
      subst (λ (rows : List FormatRow). RowsKept bytes rows d.rows) (sym (all-extend d.format.format g is))
      (RowsKept-formats bytes (all_rows d.format.format) is.more d.rows fits.kept.all)

  pub body-on : elements_of bytes (all_rows g) d.rows.elements ≡ elements_of bytes (all_rows d.format.format) d.rows.elements
  body-on =
      ap (λ (rows : List FormatRow). elements_of bytes rows d.rows.elements) (all-extend d.format.format g is)
      ∙ elements_of-formats bytes (all_rows d.format.format) is.more d.rows fits.kept.all

  first-on : d.keys ≡ length g.earlier
  first-on = fits.first ∙ ap (λ (rows : List FormatRow). length rows) (sym is.earlier)

  count-columns : length (with_columns (length g.asked) d.rows).columns ≡ length g.asked
  count-columns =
      omega (
        arith,
        fits.columns,
        wider,
        length-append d.rows.columns (replicate (length g.asked - length d.rows.columns) no_column),
        length-replicate (length g.asked - length d.rows.columns) no_column,
      )

  pub Fits-rows : FormatFits bytes (read_on g notes d)
  Fits-rows = record {
    kept = RowBegunKept-first bytes (all_rows g) d.rows d.keys fits.none formats-kept;
    closed = fits.closed;
    none = fits.none;
    columns = omega (arith, fits.columns, wider);
    first = first-on;
    rules = fits.rules;
    notes = within;
  }

  pub Fits-end : (line : ℕ) → IsWhole g → DataFits bytes (data_behind AtEnd line (read_on g notes d))
  Fits-end line whole =
      let rows : KeptRows = with_columns (length g.asked) d.rows in
      let left = drop (length g.earlier) (all_rows g) in
      let rules = rule_rows left in
      let some : length left ≡ length (all_rows g) - length g.earlier = length-drop (length g.earlier) (all_rows g) in
      let count : length (all_rows g) ≡ length g.earlier + length g.rows = length-append g.earlier g.rows in
      let fewer : rules < length left = rule_rows-fewer left (omega (arith, some, count, whole.some)) in
      let back : length g.earlier + rules - rules ≡ length g.earlier = omega arith in
      let kept : RowsKept bytes (all_rows g) rows = RowsKept-columns bytes (all_rows g) d.rows (length g.asked) formats-kept in
      record {
        kept = RowBegunKept-first bytes (all_rows g) rows (length g.earlier + rules) fits.none kept;
        block = subst (λ (o : OpenBlock). OpenFits o d.rows.row) (sym fits.closed) fits.none;
        columns = count-columns;
        served = record {
          first = omega arith;
          serves = omega (arith, fewer, some, count, whole.some);
          skipped = ap (λ (n : ℕ). rule_rows (drop n (all_rows g))) back;
        };
        whole = whole.none;
        notes = within;
      }

  pub Fits-fault : (line : ℕ) → BadFits bytes (data_behind AtFault line (read_on g notes d))
  Fits-fault line = record {
    closed = fits.closed;
    notes = NotesWithin-append (length bytes) notes.notes (record { line = line; cause = BadFormat }) tt within;
  }

  -- behind keys, by where their reading stands
  pub Fits-behind : (place : FormatPlace) (line : ℕ) → EndFits place g → FitsBehind (phase_behind place) bytes (data_behind place line (read_on g notes d))
  Fits-behind (InRows part) line ends = Fits-rows
  Fits-behind AtEnd line ends = Fits-end line ends
  Fits-behind AtFault line ends = Fits-fault line

-- a table by its fields
abbrev pub made : Phase → Options → Format → ℕ → Option Joined → Option RowBegun → List Element → List Told → TableRead
made phase options f next_row pending begun body notes = record {
  phase = phase;
  options = options;
  format = f;
  next_row = next_row;
  pending = pending;
  begun = begun;
  body = body;
  notes = notes;
}

module _ (phase : Phase) (options : Options) (f : Format) where
  pub made-same : (n n' : ℕ) (p p' : Option Joined) (b b' : Option RowBegun) (es es' : List Element) (ts ts' : List Told) → n ≡ n' → p ≡ p' → b ≡ b' → es ≡ es'
      → ts ≡ ts' → made phase options f n p b es ts ≡ made phase options f n' p' b' es' ts'
  made-same n n' p p' b b' es es' ts ts' next pending begun body notes =
      ap (λ (x : ℕ). made phase options f x p b es ts) next
      ∙ ap (λ (x : Option Joined). made phase options f n' x b es ts) pending
      ∙ ap (λ (x : Option RowBegun). made phase options f n' p' x es ts) begun
      ∙ ap (λ (x : List Element). made phase options f n' p' b' x ts) body
      ∙ ap (λ (x : List Told). made phase options f n' p' b' es' x) notes

-- the table behind them
module _ (bytes : List ℕ) (d : TableData) (g : Format) (notes : KeptNotes) (fits : FormatFits bytes d) (is : Extends d.format.format g) (wider : length d.format.format.asked ≤ length g.asked) (within : NotesWithin (length bytes) notes.notes) (phase : Phase) (options : Options) (pending : Option Joined) (alone : pending ≡ None) (said : List Told) (says : told_of_all bytes notes.notes ≡ said) where
  -- before them, with this format and these messages
  abbrev pub front_made : TableRead
  front_made =
      made phase options g (d.keys - d.rules - length d.format.format.earlier) pending (begun_by d.open (map (content_of bytes) d.rows.row))
      (elements_of bytes (all_rows d.format.format) d.rows.elements) said

  body-is : elements_of bytes (all_rows g) d.rows.elements ≡ elements_of bytes (all_rows d.format.format) d.rows.elements
  body-is = body-on bytes d g notes fits is wider within

  next-same : d.keys - d.rules - length g.earlier ≡ d.keys - d.rules - length d.format.format.earlier
  next-same = ap (λ (rows : List FormatRow). d.keys - d.rules - length rows) is.earlier

  pub table-behind : (place : FormatPlace) (line : ℕ)
      → table_by (phase_behind place) options bytes (data_behind place line (read_on g notes d)) ≡ behind_format place line front_made
  table-behind (InRows part) line = made-same InFormat options g _ _ _ _ _ _ _ _ _ _ next-same (sym alone) refl body-is says
  table-behind AtEnd line = made-same InData options g _ _ _ _ _ _ _ _ _ _ (omega arith) (sym alone) refl body-is says
  table-behind AtFault line =
      made-same Bad options g _ _ _ _ _ _ _ _ _ _ next-same refl (none-begun d.open (map (content_of bytes) d.rows.row) fits.closed) body-is
      (told-more bytes notes.notes (record { line = line; cause = BadFormat }) said says)
