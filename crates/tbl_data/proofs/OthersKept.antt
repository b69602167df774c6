-- A field that is no text, as it is kept in the row that is begun.
use Rattle.std.proofs.Common.{◌≡◌, ◌≢◌, ℕ, ◌-◌, ◌<◌, ◌≤◌, List, [], length, refl, sym, ap, ◌∙◌, arith}
use Rattle.std.specs.List.{slice_range}
use Rattle.tbl_data.specs.DataRead.{notes_by_kind}
use Rattle.tbl_data.specs.LineTaken.{LineLies, RowFits, TakesField, cells_next, key_next}
use Rattle.tbl_data.specs.declared.data_line.DataLine.{DataLine}
use Rattle.tbl_data.specs.declared.table_data.OpenBlock.TheVariants.{Nothing}
use Rattle.tbl_data.specs.declared.table_data.TableData.{TableData}
use Rattle.tbl_data.proofs.FieldsKept.{more-none, takes-entry}
use Rattle.tbl_data.proofs.OtherFields.{other-content, other-lies, other-untold}
use Rattle.tbl_kept.specs.Joined.{ends_joined}
use Rattle.tbl_kept.specs.Rows.{with_entry}
use Rattle.tbl_kept.specs.TableText.{KeptText, block_of}
use Rattle.tbl_layout.specs.DataLines.{kind_under}
use Rattle.tbl_layout.specs.Entries.{content_by_kind}
use Rattle.tbl_layout.specs.KeptEntries.{Lies, kept_kind, rule_entry}
use Rattle.tbl_layout.specs.declared.data_lines.FieldKind.{FieldKind}
use Rattle.tbl_layout.specs.declared.data_lines.FieldKind.TheVariants.{Text}

module _ (k : KeptText) (line : DataLine) (at end : ℕ) (d : TableData) (kind : FieldKind) (order : at ≤ end) (lies : LineLies (block_of k) line) (on-line : end ≤ line.to) where
  abbrev field : List ℕ
  field = slice_range (block_of k) at end

  pub takes-other : kind_under (key_next d) field ≡ kind → kind ≢ Text → RowFits (block_of k) d → d.open ≡ Nothing → length d.rows.row < cells_next d
      → TakesField k line at end d (record d { rows = with_entry (rule_entry at (end - at) (kept_kind kind)) d.rows })
  takes-other is other fits closed cell =
      let e = rule_entry at (end - at) (kept_kind kind) in
      let to : e.to ≡ end = omega (arith, order) in
      let lies-there : Lies (block_of k) e = record { order = omega arith; within = omega (arith, to, on-line, lies.within) } in
      let new = record d { rows = with_entry e d.rows } in
      takes-entry k line at end d e (record {
        content = other-content kind other (block_of k) at e.to field ∙ sym (ap (λ (x : FieldKind). content_by_kind x field) is);
        kept = other-lies kind other (block_of k) (key_next d) e lies-there;
        to = to;
        on_line = on-line;
        closed = closed;
        cell = cell;
        fits = fits;
      }) d.notes [] (record {
        is = more-none d.notes;
        all = other-untold kind other (ends_joined k.pending) line.number (at - line.from) field
            ∙ sym (ap (λ (x : FieldKind). notes_by_kind x (ends_joined k.pending) line.number (at - line.from) field) is);
        within = λ len. tt;
        few = omega arith;
      }) new refl refl
