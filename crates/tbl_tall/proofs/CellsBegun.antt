-- A cell that begins with its row, as it is kept.
use Rattle.std.proofs.Common.{◌≡◌, ℕ, ◌+◌, Bool, false, List, get_or, refl, sym, ap, subst, ◌∙◌}
use Rattle.tbl_format.specs.Format.{FormatRow}
use Rattle.tbl_format.specs.RowsServed.{row_at}
use Rattle.tbl_format.specs.declared.format.FormatKey.{FormatKey}
use Rattle.tbl_format.specs.declared.format.Key.{Key}
use Rattle.tbl_kept.proofs.AllLaid.{cell-laid}
use Rattle.tbl_kept.proofs.CellHeights.{field-seen}
use Rattle.tbl_kept.specs.Rows.{ElementLaid, KeptElement, Row as RowKept, fields_of}
use Rattle.tbl_layout.specs.Entries.{Above, Block, Content, Repeated, Ruled, Short, Text, field_at, is_entry, key_at}
use Rattle.tbl_layout.specs.Heights.{lines_in}
use Rattle.tbl_layout.specs.KeptEntries.{IsLaid, IsLaidBy, Lies, all_entries, content_of, no_entry}
use Rattle.tbl_layout.specs.declared.entry.Entry.{Entry}
use Rattle.tbl_layout.specs.declared.entry.EntryKind.{EntryKind}
use Rattle.tbl_layout.specs.declared.entry.EntryKind.TheVariants.{Above as AboveKind, Block as BlockKind, Repeated as RepeatedKind, Ruled as RuledKind, Short as ShortKind, Split as SplitKind, Text as TextKind}
use Rattle.tbl_lines.specs.CellsLeft.{nothing_left, own_field}
use Rattle.tbl_lines.specs.RowsLeft.{block_text}
use Rattle.tbl_line_cells.proofs.CellsKept.{nothing-laid, nothing-lies}
use Rattle.tbl_line_cells.specs.KeptCells.{GoesOnBy, IsLeft, lead_by}
use Rattle.tbl_tall.specs.LinesOver.{lines_kept}
use Rattle.tbl_tall.specs.RowsNext.{begun_kept}
use Rattle.tbl_text.specs.BlockPlaces.{IsWithin}
use Rattle.tbl_text.specs.declared.block_parts.BlockPlace.{BlockPlace}
use Rattle.tbl_text.specs.declared.block_parts.BlockPlace.TheVariants.{AtEnd}

-- an empty cell
pub nothing-is : (bytes : List ℕ) (k : FormatKey)
    → IsLeft bytes (record { key = k; entry = no_entry; lead = 0; place = AtEnd; rows = 0; is_used = false; stop = 0; is_cut = false }) (nothing_left k)
nothing-is bytes k = record {
  key = refl;
  field = refl;
  lead = refl;
  rows = refl;
  used = refl;
  stop = refl;
  cut = refl;
  lies = nothing-lies bytes;
  within = tt;
  place = refl;
  laid = nothing-laid bytes k.key;
}

-- a field that is laid lies in the table's bytes
lies-by : (kind : EntryKind) (bytes : List ℕ) (key : Key) (e : Entry) → IsLaidBy kind bytes key e → Lies bytes e
lies-by (TextKind glyphs width) bytes key e laid = record { order = laid.order; within = laid.within }
lies-by (SplitKind s) bytes key e laid = record { order = laid.order; within = laid.within }
lies-by (BlockKind b) bytes key e laid = laid.lies
lies-by (RuledKind sign) bytes key e laid = laid
lies-by ShortKind bytes key e laid = laid
lies-by (RepeatedKind byte) bytes key e laid = laid
lies-by AboveKind bytes key e laid = laid

-- its own field has as many lines
own-lines : (key : Key) (field : Content) → lines_in key (own_field field) ≡ lines_in key field
own-lines key Above = refl
own-lines key (Text text) = refl
own-lines key (Block measure lines) = refl
own-lines key (Ruled sign) = refl
own-lines key Short = refl
own-lines key (Repeated b) = refl

-- and something stands in it where something stands in the field
own-used : (field : Content) → is_entry (own_field field) ≡ is_entry field
own-used Above = refl
own-used (Text text) = refl
own-used (Block measure lines) = refl
own-used (Ruled sign) = refl
own-used Short = refl
own-used (Repeated b) = refl

module _ (bytes : List ℕ) (formats : List FormatRow) (columns : ℕ) (is_inside : Bool) (keys rules height : ℕ) (entries : List Entry)
    (es : List KeptElement) (cell : ℕ) (k : FormatKey) (e own : Entry) (place : BlockPlace) (more lead : ℕ) (is_used : Bool) where
  pub begun-is : ElementLaid bytes formats columns (RowKept keys rules height entries) → k.key ≡ key_at (row_at formats keys) cell
      → e ≡ get_or (all_entries (row_at formats keys) entries) cell no_entry → content_of bytes own ≡ own_field (content_of bytes e)
      → (Lies bytes e → Lies bytes own) → ((key : Key) → IsLaid bytes key e → IsLaid bytes key own)
      → more ≡ lines_kept bytes formats is_inside (RowKept keys rules height entries) cell 0 es
      → ((key : Key) → IsLaid bytes key own → lead ≡ lead_by more k.standing (lines_in key (content_of bytes own)) (height + more))
      → (Lies bytes own → GoesOnBy own.kind bytes own place 0) → IsWithin (block_text bytes own) place
      → ((key : Key) → IsLaid bytes key own → is_used ≡ is_entry (content_of bytes own))
      → IsLeft bytes (record { key = k; entry = own; lead = lead; place = place; rows = 0; is_used = is_used; stop = 0; is_cut = false })
      (begun_kept bytes formats is_inside (RowKept keys rules height entries) es cell k)
  begun-is laid letter is field lies_own laid_own over led goes within used =
      let format = row_at formats keys in
      let seen : field_at (fields_of bytes format entries) cell ≡ content_of bytes e
      = field-seen bytes format.bars format.keys entries cell ∙ ap (content_of bytes) (sym is) in
      let here : IsLaid bytes k.key e
      = subst (λ (key : Key). IsLaid bytes key e) (sym letter)
      (subst (λ (x : Entry). IsLaid bytes (key_at format cell) x) (sym is) (cell-laid bytes format entries cell laid.laid)) in
      let own_here : IsLaid bytes k.key own = laid_own k.key here in
      let lies : Lies bytes own = lies_own (lies-by e.kind bytes k.key e here) in
      record {
        key = refl;
        field = field ∙ ap own_field (sym seen);
        lead = led k.key own_here
            ∙ ap (λ (c : Content). lead_by more k.standing (lines_in k.key c) (height + more)) field
            ∙ ap (λ (n : ℕ). lead_by more k.standing n (height + more)) (own-lines k.key (content_of bytes e))
            ∙ ap (λ (c : Content). lead_by more k.standing (lines_in k.key c) (height + more)) (sym seen)
            ∙ ap (λ (n : ℕ). lead_by n k.standing (lines_in k.key (field_at (fields_of bytes format entries) cell)) (height + n)) over;
        rows = refl;
        used = used k.key own_here ∙ ap is_entry field ∙ own-used (content_of bytes e) ∙ ap is_entry (sym seen);
        stop = refl;
        cut = refl;
        lies = lies;
        within = within;
        place = goes lies;
        laid = own_here;
      }
