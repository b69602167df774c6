-- Rows of which no cell goes on with one above it: each is as high as the most lines of its fields.
use Rattle.std.proofs.Common.{◌≡◌, ℕ, zero, suc, ◌-◌, ◌≤◌, max, Bool, true, false, not, ◌||◌, List, [], ◌∷◌, ◌++◌, length, map, take, drop, get_or, refl, sym, ap, ◌∙◌, arith, if◌then◌else◌, Option, None, Some, is_some}
use Rattle.std.specs.List.{AllByRecursion, list_any, slice_range}
use Rattle.tbl_format.proofs.Elements.{each-append}
use Rattle.tbl_format.specs.Cells.{by_cells, cell_count, same_cell}
use Rattle.tbl_format.specs.Format.{FormatRow}
use Rattle.tbl_format.specs.RowsServed.{row_at}
use Rattle.tbl_format.specs.declared.format.Asked.{Asked}
use Rattle.tbl_format.specs.declared.format.FormatKey.{FormatKey}
use Rattle.tbl_format.specs.declared.format.Key.{Key}
use Rattle.tbl_format.specs.declared.format.Key.TheVariants.{Above, Alphabetic, Center, DoubleRule, Left, Numeric, Right, Rule as RuleKey, Spanned, WideNumeric}
use Rattle.tbl_layout.specs.Columns.{greatest}
use Rattle.tbl_layout.specs.Entries.{Command as SeenCommand, Content, Element as OneElement, Row as SeenRow, Rule as SeenRule, Text, field_at, key_at}
use Rattle.tbl_layout.specs.Heights.{NoneAbove, cell_above, ending_from, ends_in_front_of, height_in_front_of, heights_behind, if_above, is_above, left_of_cell, lefts, lefts_from, lines_in, rules_between}
use Rattle.tbl_layout.specs.KeptEntries.{IsLaidBy, all_entries, content_by, lines_by, no_entry, said_by_key}
use Rattle.tbl_layout.specs.RuleKeys.{in_front_of, kind_of_key}
use Rattle.tbl_layout.specs.Spans.{measure_of}
use Rattle.tbl_layout.specs.declared.bars.Bars.{Bars}
use Rattle.tbl_layout.specs.declared.data_lines.FieldKind.{FieldKind}
use Rattle.tbl_layout.specs.declared.entry.Entry.{Entry}
use Rattle.tbl_layout.specs.declared.entry.EntryKind.{EntryKind}
use Rattle.tbl_layout.specs.declared.entry.EntryKind.TheVariants.{Above as AboveKind, Block as BlockKind, Repeated as RepeatedKind, Ruled as RuledKind, Short as ShortKind, Split as SplitKind, Text as TextKind}
use Rattle.tbl_kept.specs.KeptHeights.{raised_behind}
use Rattle.tbl_kept.specs.Rows.{AreLaid, Command, ElementLaid, IsPlain, IsPlainTable, KeptElement, KeptRows, Row, RowLaid, RowsLaid, Rule, elements_of, fields_of, height_of, heights_of, rows_in_front}
use Rattle.tbl_kept.specs.RowsInside.{kept_in}
use Rattle.tbl_kept.specs.declared.rows.Element.{Element}
use Rattle.tbl_kept.specs.declared.rows.Element.TheVariants.{Command as OneCommand, Row as OneRow, Rule as OneRule}
use Rattle.tbl_kept.specs.RowsLaying.{AllCount, NoFormatsGoOn, NoKeysGoOn, NoneGoOn, goes_on, is_above_key, laid_by, laid_entries, laid_row}
use Rattle.tbl_kept.proofs.AllLaid.{cell-laid, highest_of, highest_of-more, under, under-low}
use Rattle.tbl_kept.proofs.CellHeights.{above-seen, field-seen, lines-laid}
use Rattle.tbl_kept.proofs.ColumnsHeld.{rest-next}
use Rattle.tbl_kept.proofs.HeightSteps.{get_or-first}
use Rattle.tbl_kept.proofs.RowsUnfilled.{each-drop, each-take}

-- a field goes on no more once it is laid out
laid-goes_on : (kind : EntryKind) (bytes : List ℕ) (measure : ℕ) (e : Entry) → goes_on e.kind ≡ false → goes_on (laid_by kind bytes measure e).kind ≡ false
laid-goes_on (TextKind glyphs width) bytes measure e none = none
laid-goes_on (SplitKind s) bytes measure e none = none
laid-goes_on (BlockKind b) bytes measure e none = refl
laid-goes_on (RuledKind sign) bytes measure e none = none
laid-goes_on ShortKind bytes measure e none = none
laid-goes_on (RepeatedKind byte) bytes measure e none = none
laid-goes_on AboveKind bytes measure e none = none

entries-go_on : (bytes : List ℕ) (bars : Bars) (line_length count : ℕ) (cells : List (List Asked)) (entries : List Entry) → NoneGoOn entries
    → NoneGoOn (laid_entries bytes bars line_length count cells entries)
entries-go_on bytes bars line_length count [] entries none = none
entries-go_on bytes bars line_length count (asked ∷ cells) [] none = tt
entries-go_on bytes bars line_length count (asked ∷ cells) (e ∷ entries) none = (
  laid-goes_on e.kind bytes (measure_of bars line_length count asked) e none.0,
  entries-go_on bytes bars line_length count cells entries none.1,
)

pub none_go_on-laid : (bytes : List ℕ) (bars : Bars) (line_length : ℕ) (asked : List Asked) (keys : List FormatKey) (entries : List Entry) → NoneGoOn entries
    → NoneGoOn (laid_row bytes bars line_length asked keys entries)
none_go_on-laid bytes bars line_length asked keys entries none =
    entries-go_on bytes bars line_length (length asked) (by_cells 0 keys asked) entries none

-- fields of which none goes on stay so where some of them change to such, and so does a part of them
pub none_go_on-changed : (entries part : List Entry) (from count : ℕ) → NoneGoOn entries → NoneGoOn part
    → NoneGoOn (take from entries ++ (part ++ drop count (drop from entries)))
none_go_on-changed entries part from count none new =
    let P : Entry → Type 0 = λ e. goes_on e.kind ≡ false in
    each-append P (take from entries) (part ++ drop count (drop from entries)) (each-take P from entries none)
    (each-append P part (drop count (drop from entries)) new (each-drop P count (drop from entries) (each-drop P from entries none)))

pub none_go_on-part : (entries : List Entry) (from to : ℕ) → NoneGoOn entries → NoneGoOn (slice_range entries from to)
none_go_on-part entries from to none =
    let P : Entry → Type 0 = λ e. goes_on e.kind ≡ false in
    each-take P (to - from) (drop from entries) (each-drop P from entries none)

-- keys of which none is `^` say of no field that it goes on
abbrev SaysNone : Option FieldKind → Type 0
SaysNone None = Unit {0}
SaysNone (Some kind) = goes_on (said_by_key kind).kind ≡ false

says-none : (key : Key) → is_above_key key ≡ false → SaysNone (kind_of_key key)
says-none RuleKey none = refl
says-none DoubleRule none = refl
says-none Above none = absurd cc
says-none Left none = tt
says-none Right none = tt
says-none Center none = tt
says-none Numeric none = tt
says-none WideNumeric none = tt
says-none Alphabetic none = tt
says-none Spanned none = tt

front-none : (kind : Option FieldKind) (entries : List Entry) → SaysNone kind → NoneGoOn entries → NoneGoOn (in_front_of said_by_key no_entry kind entries)
front-none (Some kind) entries says none = (says, none)
front-none None [] says none = tt
front-none None (e ∷ entries) says none = (refl, none)

under-none : (keys : List FormatKey) → NoKeysGoOn keys → NoneGoOn (under keys)
under-none [] none = tt
under-none (k ∷ keys) none = front-none (kind_of_key k.key) (under keys) (says-none k.key none.0) (under-none keys none.1)

at-none : (entries : List Entry) (cell : ℕ) → NoneGoOn entries → goes_on (get_or entries cell no_entry).kind ≡ false
at-none [] cell none = refl
at-none (e ∷ entries) zero none = none.0
at-none (e ∷ entries) (suc cell) none = at-none entries cell none.1

-- so no field of such a row is that of the cell above
module _ (bytes : List ℕ) (format : FormatRow) (entries : List Entry) (keys_none : NoKeysGoOn format.keys) (none : NoneGoOn entries) where
  abbrev all : List Entry
  all = all_entries format entries

  all-none : NoneGoOn all
  all-none =
      each-append (λ (e : Entry). goes_on e.kind ≡ false) entries (under (drop (length entries) format.keys)) none
      (under-none (drop (length entries) format.keys) (each-drop (λ (k : FormatKey). is_above_key k.key ≡ false) (length entries) format.keys keys_none))

  pub field-none : (cell : ℕ) → is_above (field_at (fields_of bytes format entries) cell) ≡ false
  field-none cell = above-seen bytes format.bars format.keys entries cell (get_or all cell no_entry).kind refl ∙ at-none all cell all-none

-- rows of which no cell goes on
abbrev pub HasNoneGoOn : KeptElement → Type 0
HasNoneGoOn (Row keys rules height entries) = NoneGoOn entries
HasNoneGoOn (Rule sign) = Unit {0}
HasNoneGoOn (Command from to) = Unit {0}

pub no-keys : (formats : List FormatRow) (at : ℕ) → NoFormatsGoOn formats → NoKeysGoOn (row_at formats at).keys
no-keys [] at none = tt
no-keys (row ∷ formats) zero none = none.0
no-keys (row ∷ formats) (suc at) none = no-keys formats at none.1

module _ (bytes : List ℕ) (formats : List FormatRow) (no_formats : NoFormatsGoOn formats) where
  pub none-above : (elements : List KeptElement) → AllByRecursion HasNoneGoOn elements → AllByRecursion NoneAbove (elements_of bytes formats elements)
  none-above [] none = tt
  none-above (Row keys rules height entries ∷ elements) none =
      (field-none bytes (row_at formats keys) entries (no-keys formats keys no_formats) none.0, none-above elements none.1)
  none-above (Rule sign ∷ elements) none = (tt, none-above elements none.1)
  none-above (Command from to ∷ elements) none = (tt, none-above elements none.1)

-- a cell of such a row goes on with none above it
module _ (fields : List Content) (none : (cell : ℕ) → is_above (field_at fields cell) ≡ false) where
  cell_above-none : (above keys : List FormatKey) (cell : ℕ) → cell_above above keys fields cell ≡ None
  cell_above-none above keys cell = ap (λ (t : Bool). if t then same_cell above keys cell else None) (none cell)

  if_above-none : (found : Option ℕ) → if_above fields found ≡ None
  if_above-none None = refl
  if_above-none (Some cell) = ap (λ (t : Bool). if t then Some cell else None) (none cell)

-- and none of those in front of such rows has one that goes on with it
ends-always : (elements : List OneElement) → AllByRecursion NoneAbove elements → (keys : List FormatKey) (cell : ℕ) → ends_in_front_of keys elements cell ≡ true
ends-always [] none keys cell = refl
ends-always (SeenRow rules format fields ∷ elements) none keys cell =
    ap (λ (o : Option ℕ). not (is_some o)) (if_above-none fields none.0 (same_cell format.keys keys cell))
ends-always (SeenRule sign ∷ elements) none keys cell = ends-always elements none.1 keys cell
ends-always (SeenCommand bytes ∷ elements) none keys cell = ends-always elements none.1 keys cell

-- the lines of a field, and one line at least
text-most : (key : Key) (text : List ℕ) → max 1 (lines_in key (Text text)) ≡ 1
text-most key [] = refl
text-most key (b ∷ text) = refl

lines-most : (kind : EntryKind) (bytes : List ℕ) (key : Key) (e : Entry) → kind ≡ e.kind → IsLaidBy kind bytes key e
    → max 1 (lines_in key (content_by kind bytes e.from e.to)) ≡ max 1 (lines_by kind)
lines-most (TextKind glyphs width) bytes key e is laid = text-most key (slice_range bytes e.from e.to)
lines-most (SplitKind s) bytes key e is laid = ap (λ (n : ℕ). max 1 n) (sym (lines-laid (SplitKind s) bytes key e is laid refl))
lines-most (BlockKind b) bytes key e is laid = ap (λ (n : ℕ). max 1 n) (sym (lines-laid (BlockKind b) bytes key e is laid refl))
lines-most (RuledKind sign) bytes key e is laid = refl
lines-most ShortKind bytes key e is laid = refl
lines-most (RepeatedKind byte) bytes key e is laid = refl
lines-most AboveKind bytes key e is laid = refl

-- a row is as high as the most lines of its fields
module _ (bytes : List ℕ) (format : FormatRow) (entries : List Entry) (none : (cell : ℕ) → is_above (field_at (fields_of bytes format entries) cell) ≡ false)
    (laid : AreLaid bytes format 0 entries) (rest : List OneElement) (rest_none : AllByRecursion NoneAbove rest)
    (above : List FormatKey) (left : List ℕ) (between : ℕ) where
  abbrev lines : ℕ → ℕ
  lines cell = lines_in (key_at format cell) (field_at (fields_of bytes format entries) cell)

  ends-with : (cell : ℕ)
      → (if ends_in_front_of format.keys rest cell then left_of_cell (cell_above above format.keys (fields_of bytes format entries) cell) left between (lines cell) else 0)
      ≡ lines cell
  ends-with cell =
      ap (λ (t : Bool). if t then left_of_cell (cell_above above format.keys (fields_of bytes format entries) cell) left between (lines cell) else 0)
      (ends-always rest rest_none format.keys cell)
      ∙ ap (λ (o : Option ℕ). left_of_cell o left between (lines cell)) (cell_above-none (fields_of bytes format entries) none above format.keys cell)

  lines-cell : (cell : ℕ) → max 1 (lines cell) ≡ max 1 (lines_by (get_or (all_entries format entries) cell no_entry).kind)
  lines-cell cell =
      let e = get_or (all_entries format entries) cell no_entry in
      ap (λ (c : Content). max 1 (lines_in (key_at format cell) c)) (field-seen bytes format.bars format.keys entries cell)
      ∙ lines-most e.kind bytes (key_at format cell) e refl (cell-laid bytes format entries cell laid)

  cells-high : (cell count : ℕ) (xs : List Entry) → drop cell (all_entries format entries) ≡ xs
      → max 1 (greatest (ending_from format.keys rest cell (lefts_from above left between format (fields_of bytes format entries) cell count)))
      ≡ max 1 (highest_of count xs)
  cells-high cell zero xs is = refl
  cells-high cell (suc count) xs is =
      let own : get_or (all_entries format entries) cell no_entry ≡ get_or xs 0 no_entry =
      sym (get_or-first (all_entries format entries) cell no_entry) ∙ ap (λ (es : List Entry). get_or es 0 no_entry) is in
      let first = lines-cell cell ∙ ap (λ (e : Entry). max 1 (lines_by e.kind)) own in
      omega (arith, ends-with cell, first, cells-high (suc cell) count (drop 1 xs) (rest-next (all_entries format entries) xs cell is))

  pub row-high : (count : ℕ) → length entries ≤ count
      → height_in_front_of format.keys rest (lefts_from above left between format (fields_of bytes format entries) 0 count) ≡ height_of entries
  row-high count short =
      cells-high 0 count (all_entries format entries) refl
      ∙ highest_of-more count entries (under (drop (length entries) format.keys)) short (under-low (drop (length entries) format.keys))

module _ (bytes : List ℕ) (formats : List FormatRow) (is_inside : Bool) (columns : ℕ) where
  abbrev here : ℕ → ℕ → List Entry → List FormatKey → List ℕ → ℕ → List ℕ
  here keys rules entries above left front =
      lefts columns above left (rules_between is_inside front (length (rows_in_front formats keys rules))) (row_at formats keys)
      (fields_of bytes (row_at formats keys) entries)

  abbrev high : ℕ → ℕ → List Entry → List FormatKey → List ℕ → ℕ → List KeptElement → ℕ
  high keys rules entries above left front elements =
      height_in_front_of (row_at formats keys).keys (elements_of bytes formats elements) (here keys rules entries above left front)

  row-height : (keys rules : ℕ) (entries : List Entry) (above : List FormatKey) (left : List ℕ) (front : ℕ) (elements : List KeptElement)
      → ((cell : ℕ) → is_above (field_at (fields_of bytes (row_at formats keys) entries) cell) ≡ false) → RowLaid bytes formats columns keys rules entries
      → AllByRecursion NoneAbove (elements_of bytes formats elements) → high keys rules entries above left front elements ≡ height_of entries
  row-height keys rules entries above left front elements none laid rest =
      row-high bytes (row_at formats keys) entries none laid.laid (elements_of bytes formats elements) rest above left
      (rules_between is_inside front (length (rows_in_front formats keys rules))) (cell_count (row_at formats keys).keys columns) laid.short

  -- so all rows have their heights already
  pub raised-alone : (elements : List KeptElement) (above : List FormatKey) (left : List ℕ) (front : ℕ)
      → AllByRecursion NoneAbove (elements_of bytes formats elements) → AllByRecursion (ElementLaid bytes formats columns) elements
      → AllByRecursion IsPlain elements → raised_behind bytes formats is_inside columns above left front elements ≡ elements
  raised-alone [] above left front none laid alone = refl
  raised-alone (Row keys rules height entries ∷ elements) above left front none laid alone =
      ap (λ (es : List KeptElement). Row keys rules (high keys rules entries above left front elements) entries ∷ es)
      (raised-alone elements (row_at formats keys).keys _ 0 none.1 laid.1 alone.1)
      ∙ ap (λ (h : ℕ). Row keys rules h entries ∷ elements)
      (row-height keys rules entries above left front elements none.0 laid.0 none.1 ∙ sym alone.0)
  raised-alone (Rule sign ∷ elements) above left front none laid alone =
      ap (λ (es : List KeptElement). Rule sign ∷ es) (raised-alone elements above left (suc front) none.1 laid.1 alone.1)
  raised-alone (Command from to ∷ elements) above left front none laid alone =
      ap (λ (es : List KeptElement). Command from to ∷ es) (raised-alone elements above left front none.1 laid.1 alone.1)

  -- and rows with the heights that they have in the table are as high as the most lines of their fields
  plain-behind : (elements : List KeptElement) (above : List FormatKey) (left : List ℕ) (front : ℕ)
      → AllByRecursion NoneAbove (elements_of bytes formats elements) → AllByRecursion (ElementLaid bytes formats columns) elements
      → heights_of elements ≡ heights_behind is_inside columns above left front (elements_of bytes formats elements) → AllByRecursion IsPlain elements
  plain-behind [] above left front none laid heights = tt
  plain-behind (Row keys rules height entries ∷ elements) above left front none laid heights =
      let own : height ≡ high keys rules entries above left front elements = ap (λ (hs : List ℕ). get_or hs 0 0) heights in (
        own ∙ row-height keys rules entries above left front elements none.0 laid.0 none.1,
        plain-behind elements (row_at formats keys).keys
            (map (λ (n : ℕ). n - high keys rules entries above left front elements) (here keys rules entries above left front)) 0 none.1 laid.1
            (ap (drop 1) heights),
      )
  plain-behind (Rule sign ∷ elements) above left front none laid heights = (tt, plain-behind elements above left (suc front) none.1 laid.1 heights)
  plain-behind (Command from to ∷ elements) above left front none laid heights = (tt, plain-behind elements above left front none.1 laid.1 heights)

pub plain-laid : (bytes : List ℕ) (formats : List FormatRow) (is_inside : Bool) (rows : KeptRows) → RowsLaid bytes formats is_inside rows
    → AllByRecursion NoneAbove (elements_of bytes formats rows.elements) → IsPlainTable rows
plain-laid bytes formats is_inside rows laid none = plain-behind bytes formats is_inside (length rows.columns) rows.elements [] [] 0 none laid.elements laid.heights

-- rows that lie among fields of which none goes on
pub rows-none : (fields : List Entry) (elements : List Element) → NoneGoOn fields → AllByRecursion HasNoneGoOn (map (kept_in fields) elements)
rows-none fields [] none = tt
rows-none fields (OneRow row ∷ elements) none = (none_go_on-part fields row.from row.to none, rows-none fields elements none)
rows-none fields (OneRule sign ∷ elements) none = (tt, rows-none fields elements none)
rows-none fields (OneCommand from to ∷ elements) none = (tt, rows-none fields elements none)

-- keys of which none is `^`
or-none : (a b : Bool) → (a || b) ≡ false → (a ≡ false) × (b ≡ false)
or-none false b none = (refl, none)
or-none true b none = absurd cc

pub no_keys-any : (keys : List FormatKey) → list_any (λ (k : FormatKey). is_above_key k.key) keys ≡ false → NoKeysGoOn keys
no_keys-any [] none = tt
no_keys-any (k ∷ keys) none =
    let parts = or-none (is_above_key k.key) (list_any (λ (x : FormatKey). is_above_key x.key) keys) none in (parts.0, no_keys-any keys parts.1)

-- and keys under which all counts
pub all_count-any : (keys : List FormatKey) → list_any (λ (k : FormatKey). k.has_no_width) keys ≡ false → AllCount keys
all_count-any [] none = tt
all_count-any (k ∷ keys) none =
    let parts = or-none k.has_no_width (list_any (λ (x : FormatKey). x.has_no_width) keys) none in (parts.0, all_count-any keys parts.1)
