-- What is left of the cells of a row, by its fields as they are kept.
use Rattle.std.proofs.Common.{◌≡◌, ℕ, zero, suc, ◌+◌, ◌-◌, ◌<◌, max, Bool, true, false, not, List, [], ◌∷◌, ◌++◌, length, map, drop, get_or, refl, sym, ap, subst, ◌∙◌, arith, append_assoc, if◌then◌else◌, Option, None, Some, is_some}
use Rattle.std.specs.List.{slice_range}
use Rattle.std.proofs.lemmas.List.{drop_more, length-map}
use Rattle.tbl_format.specs.Cells.{same_cell}
use Rattle.tbl_format.specs.Format.{FormatRow}
use Rattle.tbl_format.specs.declared.format.FormatKey.{FormatKey}
use Rattle.tbl_format.specs.declared.format.Key.{Key}
use Rattle.tbl_layout.specs.Entries.{Content, Text, block_line, field_at, is_number, key_at}
use Rattle.tbl_layout.specs.Columns.{greatest}
use Rattle.tbl_layout.specs.Heights.{cell_above, cell_below, ending_from, if_above, is_above, lefts_from, lines_in}
use Rattle.tbl_layout.specs.KeptEntries.{IsLaid, IsLaidBy, all_entries, block_lines, content_by, content_of, lines_by, no_entry}
use Rattle.tbl_layout.specs.declared.entry.Entry.{Entry}
use Rattle.tbl_layout.specs.declared.entry.EntryKind.{EntryKind}
use Rattle.tbl_layout.specs.declared.entry.EntryKind.TheVariants.{Above as AboveKind, Block as BlockKind, Repeated as RepeatedKind, Ruled as RuledKind, Short as ShortKind, Split as SplitKind, Text as TextKind}
use Rattle.tbl_layout.proofs.UnderKeys.{contents-completed}
use Rattle.tbl_layout.proofs.UsedEntries.{split-some}
use Rattle.tbl_text.specs.BlockLines.{lines_of}
use Rattle.tbl_text.specs.BlockWords.{parts_of}
use Rattle.tbl_kept.specs.KeptHeights.{cells_of, seen}
use Rattle.tbl_kept.specs.Rows.{AreLaid}
use Rattle.tbl_kept.specs.RowsLaying.{goes_on}
use Rattle.tbl_kept.proofs.AllLaid.{cell-laid}

-- a place of a changed list
get_or-changed : {A B : Type 0} (f : A → B) (xs : List A) (at : ℕ) (none : A) → get_or (map f xs) at (f none) ≡ f (get_or xs at none)
get_or-changed f [] at none = refl
get_or-changed f (x ∷ xs) zero none = refl
get_or-changed f (x ∷ xs) (suc at) none = get_or-changed f xs at none

-- the field of a cell is what stands in it
pub field-seen : (bytes : List ℕ) (bars : ℕ) (keys : List FormatKey) (entries : List Entry) (cell : ℕ)
    → field_at (cells_of bytes bars keys entries) cell ≡ content_of bytes (get_or (all_entries (record { keys = keys; bars = bars }) entries) cell no_entry)
field-seen bytes bars keys entries cell =
    let format : FormatRow = record { keys = keys; bars = bars } in
    ap (λ (fields : List Content). get_or fields cell (Text [])) (sym (contents-completed bytes format entries))
    ∙ get_or-changed (content_of bytes) (all_entries format entries) cell no_entry

-- whether it is that of the cell above
pub above-content : (kind : EntryKind) (bytes : List ℕ) (from to : ℕ) → is_above (content_by kind bytes from to) ≡ goes_on kind
above-content (TextKind glyphs width) bytes from to = refl
above-content (SplitKind s) bytes from to = refl
above-content (BlockKind b) bytes from to = refl
above-content (RuledKind sign) bytes from to = refl
above-content ShortKind bytes from to = refl
above-content (RepeatedKind byte) bytes from to = refl
above-content AboveKind bytes from to = refl

pub above-seen : (bytes : List ℕ) (bars : ℕ) (keys : List FormatKey) (entries : List Entry) (cell : ℕ) (kind : EntryKind)
    → (get_or (all_entries (record { keys = keys; bars = bars }) entries) cell no_entry).kind ≡ kind
    → is_above (field_at (cells_of bytes bars keys entries) cell) ≡ goes_on kind
above-seen bytes bars keys entries cell kind is =
    let e = get_or (all_entries (record { keys = keys; bars = bars }) entries) cell no_entry in
    ap is_above (field-seen bytes bars keys entries cell) ∙ above-content e.kind bytes e.from e.to ∙ ap goes_on is

pub cell_above-by : (bytes : List ℕ) (bars : ℕ) (above keys : List FormatKey) (entries : List Entry) (cell : ℕ) (kind : EntryKind)
    → (get_or (all_entries (record { keys = keys; bars = bars }) entries) cell no_entry).kind ≡ kind
    → (if goes_on kind then same_cell above keys cell else None) ≡ cell_above above keys (cells_of bytes bars keys entries) cell
cell_above-by bytes bars above keys entries cell kind is =
    ap (λ (t : Bool). if t then same_cell above keys cell else None) (sym (above-seen bytes bars keys entries cell kind is))

pub cell_below-by : (bytes : List ℕ) (bars : ℕ) (keys below : List FormatKey) (entries : List Entry) (cell other : ℕ) (kind : EntryKind)
    → Some other ≡ same_cell below keys cell
    → (get_or (all_entries (record { keys = below; bars = bars }) entries) other no_entry).kind ≡ kind
    → (if goes_on kind then Some other else None) ≡ cell_below keys below (cells_of bytes bars below entries) cell
cell_below-by bytes bars keys below entries cell other kind same is =
    ap (λ (t : Bool). if t then Some other else None) (sym (above-seen bytes bars below entries other kind is))
    ∙ ap (if_above (cells_of bytes bars below entries)) same

-- the lines of a text
some-line : (key : Key) (text : List ℕ) → 0 < length text → 1 ≡ lines_in key (Text text)
some-line key [] some = absurd (omega (arith, some))
some-line key (b ∷ text) some = refl

-- those of all other fields
abbrev pub is_text : EntryKind → Bool
is_text (TextKind glyphs width) = true
is_text kind = false

pub lines-laid : (kind : EntryKind) (bytes : List ℕ) (key : Key) (e : Entry) → kind ≡ e.kind → IsLaidBy kind bytes key e
    → is_text kind ≡ false
    → (if goes_on kind then 0 else lines_by kind) ≡ lines_in key (content_by kind bytes e.from e.to)
lines-laid (TextKind glyphs width) bytes key e is laid other = absurd cc
lines-laid (SplitKind s) bytes key e is laid other =
    some-line key (slice_range bytes e.from e.to)
    (split-some (is_number key) e.from (slice_range bytes e.from e.to) s (is ∙ ap (λ (x : Entry). x.kind) laid.is))
lines-laid (BlockKind b) bytes key e is laid other =
    ap lines_by (is ∙ laid.is) ∙ sym (length-map (lines_of b.measure (parts_of (block_lines bytes e.from e.to))) block_line)
lines-laid (RuledKind sign) bytes key e is laid other = refl
lines-laid ShortKind bytes key e is laid other = refl
lines-laid (RepeatedKind byte) bytes key e is laid other = refl
lines-laid AboveKind bytes key e is laid other = refl

-- the cell above, and below, by whether the field goes on
pub cell_above-own : (bytes : List ℕ) (bars : ℕ) (above keys : List FormatKey) (entries : List Entry) (cell : ℕ) (e : Entry) (t : Bool)
    → e ≡ get_or (all_entries (record { keys = keys; bars = bars }) entries) cell no_entry → goes_on e.kind ≡ t
    → (if t then same_cell above keys cell else None) ≡ cell_above above keys (cells_of bytes bars keys entries) cell
cell_above-own bytes bars above keys entries cell e t is says =
    ap (λ (b : Bool). if b then same_cell above keys cell else None) (sym says)
    ∙ cell_above-by bytes bars above keys entries cell e.kind (ap (λ (x : Entry). x.kind) (sym is))

pub cell_below-own : (bytes : List ℕ) (bars : ℕ) (keys below : List FormatKey) (entries : List Entry) (cell other : ℕ) (e : Entry) (t : Bool)
    → Some other ≡ same_cell below keys cell
    → e ≡ get_or (all_entries (record { keys = below; bars = bars }) entries) other no_entry → goes_on e.kind ≡ t
    → (if t then Some other else None) ≡ cell_below keys below (cells_of bytes bars below entries) cell
cell_below-own bytes bars keys below entries cell other e t same is says =
    ap (λ (b : Bool). if b then Some other else None) (sym says)
    ∙ cell_below-by bytes bars keys below entries cell other e.kind same (ap (λ (x : Entry). x.kind) (sym is))

-- the lines of what stands in a cell
pub lines-own : (bytes : List ℕ) (bars : ℕ) (keys : List FormatKey) (entries : List Entry) (cell lines : ℕ) (e : Entry)
    → e ≡ get_or (all_entries (record { keys = keys; bars = bars }) entries) cell no_entry
    → AreLaid bytes (record { keys = keys; bars = bars }) 0 entries
    → ((key : Key) → IsLaid bytes key e → lines ≡ lines_in key (content_of bytes e))
    → lines ≡ lines_in (key_at (record { keys = keys; bars = bars }) cell) (field_at (cells_of bytes bars keys entries) cell)
lines-own bytes bars keys entries cell lines e is laid says =
    let format : FormatRow = record { keys = keys; bars = bars } in
    let key = key_at format cell in
    says key (subst (λ (x : Entry). IsLaid bytes key x) (sym is) (cell-laid bytes format entries cell laid))
    ∙ ap (λ (x : Entry). lines_in key (content_of bytes x)) is
    ∙ ap (lines_in key) (sym (field-seen bytes bars keys entries cell))

-- one cell, and those behind it
module _ (above : List FormatKey) (left : List ℕ) (between : ℕ) (format : FormatRow) (fields : List Content) where
  pub lefts-next : (items : List ℕ) (cell count x : ℕ) → cell < count → x ∷ [] ≡ lefts_from above left between format fields cell 1
      → (items ++ x ∷ []) ++ lefts_from above left between format fields (cell + 1) (count - (cell + 1))
      ≡ items ++ lefts_from above left between format fields cell (count - cell)
  lefts-next items cell count x more is =
      let n = count - (cell + 1) in
      let next : cell + 1 ≡ suc cell = omega arith in
      let all : suc n ≡ count - cell = omega (arith, more) in
      append_assoc items (x ∷ []) (lefts_from above left between format fields (cell + 1) n)
      ∙ ap (λ (m : ℕ). items ++ x ∷ lefts_from above left between format fields m n) next
      ∙ ap (λ (xs : List ℕ). items ++ (xs ++ lefts_from above left between format fields (suc cell) n)) is
      ∙ ap (λ (m : ℕ). items ++ lefts_from above left between format fields cell m) all

module _ (bytes : List ℕ) (bars : ℕ) (keys below : List FormatKey) (entries : List Entry) where
  pub high-next : (left : List ℕ) (cell height : ℕ) (found : Option ℕ) → cell < length left
      → found ≡ cell_below keys below (cells_of bytes bars below entries) cell
      → max (max height (if not (is_some found) then get_or left cell 0 else 0))
      (greatest (ending_from keys (seen bytes bars below entries) (cell + 1) (drop (cell + 1) left)))
      ≡ max height (greatest (ending_from keys (seen bytes bars below entries) cell (drop cell left)))
  high-next left cell height found more is =
      let rest = seen bytes bars below entries in
      let next : cell + 1 ≡ suc cell = omega arith in
      let behind = ap (λ (m : ℕ). greatest (ending_from keys rest m (drop (cell + 1) left))) next in
      let own = ap (λ (o : Option ℕ). if not (is_some o) then get_or left cell 0 else 0) is in
      let all = ap (λ (ns : List ℕ). greatest (ending_from keys rest cell ns)) (drop_more left cell 0 more) in
      omega (arith, behind, own, all)
