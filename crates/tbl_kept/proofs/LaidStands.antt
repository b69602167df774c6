-- How fields that are laid out stand in their columns: as the texts and blocks that they are.
use Rattle.std.proofs.Common.{◌≡◌, ℕ, suc, ◌-◌, List, [], ◌∷◌, ◌++◌, map, drop, refl, sym, ap, subst, ◌∙◌, ◌==◌}
use Rattle.std.specs.List.{AllByRecursion, slice_range}
use Rattle.tbl_format.specs.Format.{FormatRow}
use Rattle.tbl_format.specs.RowsServed.{row_at}
use Rattle.tbl_format.specs.declared.format.Asked.{Asked}
use Rattle.tbl_format.specs.declared.format.FormatKey.{FormatKey}
use Rattle.tbl_format.specs.declared.format.Key.{Key}
use Rattle.tbl_format.specs.declared.format.Key.TheVariants.{Left}
use Rattle.tbl_layout.specs.Columns.{alone, counted, in_columns, row_stands, stands}
use Rattle.tbl_layout.specs.Entries.{key_at}
use Rattle.tbl_layout.specs.KeptEntries.{IsLaid, IsLaidBy, content_by, content_of, stands_by, stands_of}
use Rattle.tbl_layout.specs.Spans.{Wide, all_fitted, all_wide, if_wide, wide_entries}
use Rattle.tbl_layout.specs.declared.bars.Bars.{Bars}
use Rattle.tbl_layout.specs.declared.columns.Column.{Column}
use Rattle.tbl_layout.specs.declared.columns.Stands.{Stands}
use Rattle.tbl_layout.specs.declared.entry.Entry.{Entry}
use Rattle.tbl_layout.specs.declared.entry.EntryKind.{EntryKind}
use Rattle.tbl_layout.specs.declared.entry.EntryKind.TheVariants.{Above as AboveKind, Block as BlockKind, Repeated as RepeatedKind, Ruled as RuledKind, Short as ShortKind, Split as SplitKind, Text as TextKind}
use Rattle.tbl_layout.proofs.RowStands.{wide-completed}
use Rattle.tbl_layout.proofs.Spreading.{all_fitted-append}
use Rattle.tbl_layout.proofs.TextStands.{text-stands}
use Rattle.tbl_kept.specs.Rows.{AreLaid, Command, ElementLaid, KeptElement, Row, Rule, elements_of}
use Rattle.tbl_kept.specs.RowsLaying.{fitted_rows}
use Rattle.tbl_kept.proofs.CellSteps.{first_key, first_key-at}
use Rattle.tbl_kept.proofs.ColumnsHeld.{rest-next}

-- a field
pub laid-stands : (kind : EntryKind) (bytes : List ℕ) (key : Key) (e : Entry) → kind ≡ e.kind → IsLaidBy kind bytes key e
    → stands_of key e ≡ stands key (content_by kind bytes e.from e.to)
laid-stands (TextKind glyphs width) bytes key e is laid =
    ap (stands_of key) laid.is ∙ text-stands key e.from (slice_range bytes e.from e.to)
laid-stands (SplitKind s) bytes key e is laid =
    ap (stands_of key) laid.is ∙ text-stands key e.from (slice_range bytes e.from e.to)
laid-stands (BlockKind b) bytes key e is laid = ap (λ (kind : EntryKind). stands_by key kind (e.from == e.to)) laid.is
laid-stands (RuledKind sign) bytes key e is laid = ap (λ (kind : EntryKind). stands_by key kind (e.from == e.to)) (sym is)
laid-stands ShortKind bytes key e is laid = ap (λ (kind : EntryKind). stands_by key kind (e.from == e.to)) (sym is)
laid-stands (RepeatedKind byte) bytes key e is laid = ap (λ (kind : EntryKind). stands_by key kind (e.from == e.to)) (sym is)
laid-stands AboveKind bytes key e is laid = ap (λ (kind : EntryKind). stands_by key kind (e.from == e.to)) (sym is)

module _ (bytes : List ℕ) (format : FormatRow) where
  -- one under the key of its cell
  under-key : (cell : ℕ) (keys : List FormatKey) (e : Entry) → drop cell format.keys ≡ keys → IsLaid bytes (key_at format cell) e
      → stands_of (first_key keys) e ≡ stands (first_key keys) (content_of bytes e)
  under-key cell keys e is laid =
      let key : key_at format cell ≡ first_key keys = first_key-at format.keys cell ∙ ap first_key is in
      laid-stands e.kind bytes (first_key keys) e refl (subst (λ (k : Key). IsLaid bytes k e) key laid)

  -- all of a row, in the columns of the table
  rows-stand : (from cell : ℕ) (keys : List FormatKey) (entries : List Entry) → drop cell format.keys ≡ keys → AreLaid bytes format cell entries
      → row_stands stands_of from keys entries ≡ row_stands stands from keys (map (content_of bytes) entries)
  rows-stand from cell keys [] is laid = refl
  rows-stand from cell [] (e ∷ entries) is laid =
      ap (λ (s : Stands). s ∷ row_stands stands_of (suc from) [] entries) (under-key cell [] e is laid.0)
      ∙ ap (λ (ss : List Stands). stands Left (content_of bytes e) ∷ ss)
      (rows-stand (suc from) (suc cell) [] entries (rest-next format.keys [] cell is) laid.1)
  rows-stand from cell (k ∷ keys) (e ∷ entries) is laid =
      ap (λ (s : Stands). in_columns (k.end - from) (counted k s) ++ row_stands stands_of k.end keys entries)
      (under-key cell (k ∷ keys) e is laid.0)
      ∙ ap (λ (ss : List Stands). in_columns (k.end - from) (counted k (stands k.key (content_of bytes e))) ++ ss)
      (rows-stand k.end (suc cell) keys entries (rest-next format.keys (k ∷ keys) cell is) laid.1)

  pub row-laid-stands : (entries : List Entry) → AreLaid bytes format 0 entries
      → row_stands stands_of 0 format.keys entries ≡ row_stands stands 0 format.keys (map (content_of bytes) entries)
  row-laid-stands entries laid = rows-stand 0 0 format.keys entries refl laid

  -- and those that go over several columns
  rows-wide : (from cell : ℕ) (keys : List FormatKey) (entries : List Entry) → drop cell format.keys ≡ keys → AreLaid bytes format cell entries
      → wide_entries stands_of from keys entries ≡ wide_entries stands from keys (map (content_of bytes) entries)
  rows-wide from cell keys [] is laid = refl
  rows-wide from cell [] (e ∷ entries) is laid = refl
  rows-wide from cell (k ∷ keys) (e ∷ entries) is laid =
      ap (λ (s : Stands). if_wide from (k.end - from) (alone (counted k s)) ++ wide_entries stands_of k.end keys entries)
      (under-key cell (k ∷ keys) e is laid.0)
      ∙ ap (λ (ws : List Wide). if_wide from (k.end - from) (alone (counted k (stands k.key (content_of bytes e)))) ++ ws)
      (rows-wide k.end (suc cell) keys entries (rest-next format.keys (k ∷ keys) cell is) laid.1)

-- columns that have room for those of all rows
pub fitted-laid : (bytes : List ℕ) (formats : List FormatRow) (columns : ℕ) (bars : Bars) (asked : List Asked) (elements : List KeptElement)
    → AllByRecursion (ElementLaid bytes formats columns) elements → (cs : List Column)
    → fitted_rows formats bars asked elements cs ≡ all_fitted bars asked (all_wide (elements_of bytes formats elements)) cs
fitted-laid bytes formats columns bars asked [] laid cs = refl
fitted-laid bytes formats columns bars asked (Row keys rules height entries ∷ elements) laid cs =
    let format = row_at formats keys in
    let own = wide_entries stands 0 format.keys (map (content_of bytes) entries) in
    let more = all_wide (elements_of bytes formats elements) in
    ap (λ (ws : List Wide). fitted_rows formats bars asked elements (all_fitted bars asked ws cs)) (rows-wide bytes format 0 0 format.keys entries refl laid.0.laid)
    ∙ fitted-laid bytes formats columns bars asked elements laid.1 (all_fitted bars asked own cs)
    ∙ sym (all_fitted-append bars asked own more cs)
    ∙ ap (λ (ws : List Wide). all_fitted bars asked (ws ++ more) cs) (sym (wide-completed format (map (content_of bytes) entries)))
fitted-laid bytes formats columns bars asked (Rule sign ∷ elements) laid cs = fitted-laid bytes formats columns bars asked elements laid.1 cs
fitted-laid bytes formats columns bars asked (Command from to ∷ elements) laid cs = fitted-laid bytes formats columns bars asked elements laid.1 cs
