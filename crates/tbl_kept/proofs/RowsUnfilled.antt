-- Rows in which no field is a block: they are laid out as they are.
use Rattle.std.proofs.Common.{◌≡◌, ℕ, zero, suc, ◌-◌, ◌<◌, Bool, true, false, List, [], ◌∷◌, ◌++◌, length, map, take, drop, replicate, refl, sym, ap, subst, ◌∙◌, arith, ◌==◌, if◌then◌else◌}
use Rattle.std.specs.List.{AllByRecursion, slice_range}
use Rattle.tbl_format.proofs.Elements.{each-append}
use Rattle.tbl_format.specs.Cells.{by_cells}
use Rattle.tbl_format.specs.Format.{FormatRow}
use Rattle.tbl_format.specs.RowsServed.{row_at}
use Rattle.tbl_format.specs.declared.format.Asked.{Asked}
use Rattle.tbl_format.specs.declared.format.FormatKey.{FormatKey}
use Rattle.tbl_format.specs.declared.format.Key.TheVariants.{Left}
use Rattle.tbl_layout.specs.Columns.{greatest, in_columns, needing, row_stands}
use Rattle.tbl_layout.specs.KeptEntries.{lines_by}
use Rattle.tbl_layout.specs.Spans.{measure_of}
use Rattle.tbl_layout.specs.declared.bars.Bars.{Bars}
use Rattle.tbl_layout.specs.declared.columns.Column.{Column}
use Rattle.tbl_layout.specs.declared.columns.Needs.{Needs}
use Rattle.tbl_layout.specs.declared.columns.Stands.{Stands}
use Rattle.tbl_layout.specs.declared.columns.Stands.TheVariants.{Nowhere}
use Rattle.tbl_layout.specs.declared.entry.BlockEntry.{BlockEntry}
use Rattle.tbl_layout.specs.declared.entry.Entry.{Entry}
use Rattle.tbl_layout.specs.declared.entry.EntryKind.{EntryKind}
use Rattle.tbl_layout.specs.declared.entry.EntryKind.TheVariants.{Above as AboveKind, Block as BlockKind, Repeated as RepeatedKind, Ruled as RuledKind, Short as ShortKind, Split as SplitKind, Text as TextKind}
use Rattle.tbl_kept.specs.Rows.{Command, ElementKept, KeptElement, KeptRows, Row, Rule, height_of, held_by}
use Rattle.tbl_kept.specs.RowsInside.{kept_in}
use Rattle.tbl_kept.specs.RowsLaying.{NoBlocks, all_held, all_laid, block_stands, holding_blocks, is_block, laid_element, laid_entries, laid_row}
use Rattle.tbl_kept.specs.declared.rows.Element.{Element}
use Rattle.tbl_kept.specs.declared.rows.Element.TheVariants.{Command as OneCommand, Row as OneRow, Rule as OneRule}
use Rattle.tbl_kept.proofs.ColumnsHeld.{needing-nowhere}
use Rattle.tbl_kept.proofs.RowsFilled.{block_stands-none, laid_by-none}
use Rattle.tbl_kept.proofs.RowsNext.{counted_if-nowhere}

-- what holds of each element of a list holds of each in a part of it
module _ {A : Type 0} (P : A → Type 0) where
  pub each-take : (n : ℕ) (xs : List A) → AllByRecursion P xs → AllByRecursion P (take n xs)
  each-take zero xs all = tt
  each-take (suc n) [] all = tt
  each-take (suc n) (x ∷ xs) all = (all.0, each-take n xs all.1)

  pub each-drop : (n : ℕ) (xs : List A) → AllByRecursion P xs → AllByRecursion P (drop n xs)
  each-drop zero xs all = all
  each-drop (suc n) [] all = tt
  each-drop (suc n) (x ∷ xs) all = each-drop n xs all.1

-- a field that isn't a block
not-block : (kind : EntryKind) → is_block kind ≡ false → (b : BlockEntry) → kind ≡ BlockKind b → ⊥
not-block kind none b is = let yes : is_block kind ≡ true = ap is_block is in absurd cc

lines_by-none : (kind : EntryKind) → is_block kind ≡ false → lines_by kind ≡ 1
lines_by-none (TextKind glyphs width) none = refl
lines_by-none (SplitKind s) none = refl
lines_by-none (BlockKind b) none = absurd cc
lines_by-none (RuledKind sign) none = refl
lines_by-none ShortKind none = refl
lines_by-none (RepeatedKind byte) none = refl
lines_by-none AboveKind none = refl

-- a row without one has a line
lines-none : (entries : List Entry) → NoBlocks entries → greatest (map (λ e. lines_by e.kind) entries) < 2
lines-none [] none = omega arith
lines-none (e ∷ entries) none = omega (arith, lines_by-none e.kind none.0, lines-none entries none.1)

height-none : (entries : List Entry) → NoBlocks entries → height_of entries ≡ 1
height-none entries none = omega (arith, lines-none entries none)

-- fields without one stay without where some of them change to such, and so does a part of them
pub no_blocks-changed : (entries part : List Entry) (from count : ℕ) → NoBlocks entries → NoBlocks part
    → NoBlocks (take from entries ++ (part ++ drop count (drop from entries)))
no_blocks-changed entries part from count none new =
    let P : Entry → Type 0 = λ e. is_block e.kind ≡ false in
    each-append P (take from entries) (part ++ drop count (drop from entries)) (each-take P from entries none)
    (each-append P part (drop count (drop from entries)) new (each-drop P count (drop from entries) (each-drop P from entries none)))

pub no_blocks-part : (entries : List Entry) (from to : ℕ) → NoBlocks entries → NoBlocks (slice_range entries from to)
no_blocks-part entries from to none =
    let P : Entry → Type 0 = λ e. is_block e.kind ≡ false in
    each-take P (to - from) (drop from entries) (each-drop P from entries none)

-- they are laid out as they are
laid-none : (bytes : List ℕ) (bars : Bars) (line_length count : ℕ) (cells : List (List Asked)) (entries : List Entry) → NoBlocks entries
    → entries ≡ laid_entries bytes bars line_length count cells entries
laid-none bytes bars line_length count [] entries none = refl
laid-none bytes bars line_length count (asked ∷ cells) [] none = refl
laid-none bytes bars line_length count (asked ∷ cells) (e ∷ entries) none =
    ap (λ (es : List Entry). e ∷ es) (laid-none bytes bars line_length count cells entries none.1)
    ∙ ap (λ (f : Entry). f ∷ laid_entries bytes bars line_length count cells entries)
    (laid_by-none e.kind bytes (measure_of bars line_length count asked) e (not-block e.kind none.0))

pub no_blocks-laid : (bytes : List ℕ) (bars : Bars) (line_length : ℕ) (asked : List Asked) (keys : List FormatKey) (entries : List Entry) → NoBlocks entries
    → NoBlocks (laid_row bytes bars line_length asked keys entries)
no_blocks-laid bytes bars line_length asked keys entries none =
    subst NoBlocks (laid-none bytes bars line_length (length asked) (by_cells 0 keys asked) entries none) none

-- and columns hold none of them as a block
module _ (rest : List Stands) (nothing : (columns : List Column) → columns ≡ held_by rest columns) where
  nowhere-held : (columns : List Column) → columns ≡ held_by (Nowhere ∷ rest) columns
  nowhere-held [] = refl
  nowhere-held (c ∷ columns) =
      ap (λ (n : Needs). record c { needs = n } ∷ columns) (sym (needing-nowhere c.needs))
      ∙ ap (λ (cs : List Column). record c { needs = needing c.needs Nowhere } ∷ cs) (nothing columns)

cell-held : (is_one : Bool) (count : ℕ) (rest : List Stands) → ((columns : List Column) → columns ≡ held_by rest columns) → (columns : List Column)
    → columns ≡ held_by ((if is_one then Nowhere ∷ [] else replicate count Nowhere) ++ rest) columns
cell-held true count rest nothing columns = nowhere-held rest nothing columns
cell-held false zero rest nothing columns = nothing columns
cell-held false (suc count) rest nothing columns =
    nowhere-held (replicate count Nowhere ++ rest) (cell-held false count rest nothing) columns

blocks-none : (from : ℕ) (keys : List FormatKey) (entries : List Entry) → NoBlocks entries → (columns : List Column)
    → columns ≡ held_by (row_stands block_stands from keys entries) columns
blocks-none from keys [] none columns = refl
blocks-none from [] (e ∷ entries) none columns =
    nowhere-held (row_stands block_stands (suc from) [] entries) (blocks-none (suc from) [] entries none.1) columns
    ∙ ap (λ (s : Stands). held_by (s ∷ row_stands block_stands (suc from) [] entries) columns)
    (sym (block_stands-none e.kind Left e (not-block e.kind none.0)))
blocks-none from (k ∷ keys) (e ∷ entries) none columns =
    cell-held (k.end - from == 1) (k.end - from) (row_stands block_stands k.end keys entries) (blocks-none k.end keys entries none.1) columns
    ∙ ap (λ (s : Stands). held_by (in_columns (k.end - from) s ++ row_stands block_stands k.end keys entries) columns)
    (sym (counted_if-nowhere k.has_no_width (block_stands k.key e) (block_stands-none e.kind k.key e (not-block e.kind none.0))))

-- rows that lie among fields without a block have none
abbrev HasNoBlock : KeptElement → Type 0
HasNoBlock (Row keys rules height entries) = NoBlocks entries
HasNoBlock (Rule sign) = Unit {0}
HasNoBlock (Command from to) = Unit {0}

rows-none : (fields : List Entry) (elements : List Element) → NoBlocks fields → AllByRecursion HasNoBlock (map (kept_in fields) elements)
rows-none fields [] none = tt
rows-none fields (OneRow row ∷ elements) none = (no_blocks-part fields row.from row.to none, rows-none fields elements none)
rows-none fields (OneRule sign ∷ elements) none = (tt, rows-none fields elements none)
rows-none fields (OneCommand from to ∷ elements) none = (tt, rows-none fields elements none)

-- so all rows are laid out already
all_held-none : (formats : List FormatRow) (elements : List KeptElement) (columns : List Column) → AllByRecursion HasNoBlock elements
    → columns ≡ all_held formats elements columns
all_held-none formats [] columns none = refl
all_held-none formats (Row keys rules height entries ∷ elements) columns none =
    blocks-none 0 (row_at formats keys).keys entries none.0 columns
    ∙ all_held-none formats elements (holding_blocks (row_at formats keys).keys entries columns) none.1
all_held-none formats (Rule sign ∷ elements) columns none = all_held-none formats elements columns none.1
all_held-none formats (Command from to ∷ elements) columns none = all_held-none formats elements columns none.1

module _ (bytes : List ℕ) (formats : List FormatRow) (bars : Bars) (line_length : ℕ) (asked : List Asked) (columns : ℕ) where
  element-none : (e : KeptElement) → HasNoBlock e → ElementKept bytes formats columns e → e ≡ laid_element bytes formats bars line_length asked e
  element-none (Row keys rules height entries) none kept =
      ap (λ (h : ℕ). Row keys rules h entries) (kept.low ∙ sym (height-none entries none))
      ∙ ap (λ (es : List Entry). Row keys rules (height_of es) es)
      (laid-none bytes bars line_length (length asked) (by_cells 0 (row_at formats keys).keys asked) entries none)
  element-none (Rule sign) none kept = refl
  element-none (Command from to) none kept = refl

  elements-none : (elements : List KeptElement) → AllByRecursion HasNoBlock elements → AllByRecursion (ElementKept bytes formats columns) elements
      → elements ≡ map (laid_element bytes formats bars line_length asked) elements
  elements-none [] none kept = refl
  elements-none (e ∷ elements) none kept =
      ap (λ (first : KeptElement). first ∷ elements) (element-none e none.0 kept.0)
      ∙ ap (λ (es : List KeptElement). laid_element bytes formats bars line_length asked e ∷ es) (elements-none elements none.1 kept.1)

  all_laid-none : (k : KeptRows) → AllByRecursion HasNoBlock k.elements → AllByRecursion (ElementKept bytes formats columns) k.elements
      → k ≡ all_laid bytes formats bars line_length asked k
  all_laid-none k none kept =
      let same = elements-none k.elements none kept in
      ap (λ (cs : List Column). record k { columns = cs }) (all_held-none formats k.elements k.columns none)
      ∙ ap (λ (es : List KeptElement). record k { elements = es; columns = all_held formats es k.columns }) same

  pub all_laid-unfilled : (k : KeptRows) (fields : List Entry) (elements : List Element) → k.elements ≡ map (kept_in fields) elements → NoBlocks fields
      → AllByRecursion (ElementKept bytes formats columns) k.elements → k ≡ all_laid bytes formats bars line_length asked k
  all_laid-unfilled k fields elements is none kept =
      all_laid-none k (subst (AllByRecursion HasNoBlock) (sym is) (rows-none fields elements none)) kept
