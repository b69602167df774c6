-- What columns hold once the blocks of all rows are filled.
use Rattle.std.proofs.Common.{◌≡◌, ℕ, zero, suc, ◌-◌, ◌≤◌, max, Bool, true, false, List, [], ◌∷◌, ◌++◌, length, map, drop, get_or, replicate, refl, sym, ap, subst, ◌∙◌, arith, ◌==◌, if◌then◌else◌}
use Rattle.std.specs.List.{AllByRecursion}
use Rattle.tbl_format.specs.Cells.{by_cells}
use Rattle.tbl_format.specs.Format.{FormatRow}
use Rattle.tbl_format.specs.RowsServed.{row_at}
use Rattle.tbl_format.specs.declared.format.Asked.{Asked}
use Rattle.tbl_format.specs.declared.format.FormatKey.{FormatKey}
use Rattle.tbl_format.specs.declared.format.Key.{Key}
use Rattle.tbl_format.specs.declared.format.Key.TheVariants.{Left}
use Rattle.tbl_layout.specs.Columns.{alone, columns_from, counted, entries_of, in_strip, left_of, needing, needs_of, right_of, row_stands, split_width, stands, with_bars}
use Rattle.tbl_layout.specs.KeptEntries.{content_of, stands_by, stands_of}
use Rattle.tbl_layout.specs.Spans.{measure_of}
use Rattle.tbl_layout.specs.declared.bars.Bars.{Bars}
use Rattle.tbl_layout.specs.declared.columns.Column.{Column}
use Rattle.tbl_layout.specs.declared.columns.Needs.{Needs}
use Rattle.tbl_layout.specs.declared.columns.Stands.{Stands}
use Rattle.tbl_layout.specs.declared.columns.Stands.TheVariants.{Nowhere}
use Rattle.tbl_layout.specs.declared.data_lines.RuleSign.{RuleSign}
use Rattle.tbl_layout.specs.declared.entry.BlockEntry.{BlockEntry}
use Rattle.tbl_layout.specs.declared.entry.Entry.{Entry}
use Rattle.tbl_layout.specs.declared.entry.EntryKind.{EntryKind}
use Rattle.tbl_layout.specs.declared.entry.EntryKind.TheVariants.{Above as AboveKind, Block as BlockKind, Repeated as RepeatedKind, Ruled as RuledKind, Short as ShortKind, Split as SplitKind, Text as TextKind}
use Rattle.tbl_layout.proofs.RowStands.{stands-completed}
use Rattle.tbl_kept.specs.Rows.{Command, ElementKept, KeptElement, Row, Rule, columns_holding, elements_of, fields_of, held_by, stands_in}
use Rattle.tbl_kept.specs.RowsLaying.{AreOpened, IsOpenedKind, all_held, block_stands, block_stands_by, counted_if, holding_blocks, laid_by, laid_element, laid_entries, laid_entry, laid_row}
use Rattle.tbl_kept.proofs.ColumnsHeld.{get_or-rest, needing-nowhere, needs-same, rest-next}
use Rattle.tbl_kept.proofs.KeptFields.{AreOpened-kept}
use Rattle.tbl_kept.proofs.LaidStands.{row-laid-stands}
use Rattle.tbl_kept.proofs.RowsFilled.{fields-laid, row-short}

-- needs with further entries, one after another, and those of two
abbrev with_all : Needs → List Stands → Needs
with_all n [] = n
with_all n (s ∷ entries) = with_all (needing n s) entries

abbrev both : Needs → Needs → Needs
both a b = record {
  alone = max a.alone b.alone;
  strip = max a.strip b.strip;
  left = max a.left b.left;
  right = max a.right b.right;
  split = max a.split b.split;
}

with_all-both : (n : Needs) (entries : List Stands) → with_all n entries ≡ both n (needs_of entries)
with_all-both n [] = needs-same n (both n (needs_of [])) (omega arith) (omega arith) (omega arith) (omega arith) (omega arith)
with_all-both n (s ∷ entries) =
    with_all-both (needing n s) entries
    ∙ needs-same (both (needing n s) (needs_of entries)) (both n (needs_of (s ∷ entries))) (omega arith) (omega arith) (omega arith) (omega arith) (omega arith)

-- an entry that needs what two others do
record Joins (a b both : Stands) : Type 0 where
  alone : alone both ≡ max (alone a) (alone b)
  strip : in_strip both ≡ max (in_strip a) (in_strip b)
  left : left_of both ≡ max (left_of a) (left_of b)
  right : right_of both ≡ max (right_of a) (right_of b)
  split : split_width both ≡ max (split_width a) (split_width b)

joins-first : (s : Stands) → Joins s Nowhere s
joins-first s = record { alone = omega arith; strip = omega arith; left = omega arith; right = omega arith; split = omega arith }

joins-second : (s : Stands) → Joins Nowhere s s
joins-second s = record { alone = omega arith; strip = omega arith; left = omega arith; right = omega arith; split = omega arith }

both-more : (a b s : Stands) (firsts bs ss : List Stands) → Joins a b s → both (needs_of firsts) (needs_of bs) ≡ needs_of ss
    → both (needs_of (a ∷ firsts)) (needs_of (b ∷ bs)) ≡ needs_of (s ∷ ss)
both-more a b s firsts bs ss joins rest =
    needs-same (both (needs_of (a ∷ firsts)) (needs_of (b ∷ bs))) (needs_of (s ∷ ss))
    (omega (arith, joins.alone, ap (λ (n : Needs). n.alone) rest)) (omega (arith, joins.strip, ap (λ (n : Needs). n.strip) rest))
    (omega (arith, joins.left, ap (λ (n : Needs). n.left) rest)) (omega (arith, joins.right, ap (λ (n : Needs). n.right) rest))
    (omega (arith, joins.split, ap (λ (n : Needs). n.split) rest))

-- a field that isn't filled, and its block once it is, need what the field that is laid out does
not_block : (kind : EntryKind) (key : Key) (e laid : Entry) → kind ≡ e.kind → block_stands_by kind key e ≡ Nowhere → laid ≡ e
    → Joins (stands_of key e) (block_stands key laid) (stands_of key laid)
not_block kind key e laid is none same =
    let nowhere : block_stands key e ≡ Nowhere = ap (λ (k : EntryKind). block_stands_by k key e) (sym is) ∙ none in
    subst (λ (l : Entry). Joins (stands_of key e) (block_stands key l) (stands_of key l)) (sym same)
    (subst (λ (s : Stands). Joins (stands_of key e) s (stands_of key e)) (sym nowhere) (joins-first (stands_of key e)))

field-joins : (kind : EntryKind) (bytes : List ℕ) (measure : ℕ) (key : Key) (e : Entry) → kind ≡ e.kind → IsOpenedKind kind
    → Joins (stands_of key e) (block_stands key (laid_by kind bytes measure e)) (stands_of key (laid_by kind bytes measure e))
field-joins (TextKind glyphs width) bytes measure key e is opened = not_block (TextKind glyphs width) key e e is refl refl
field-joins (SplitKind s) bytes measure key e is opened = not_block (SplitKind s) key e e is refl refl
field-joins (BlockKind b) bytes measure key e is opened =
    let none : stands_of key e ≡ Nowhere =
    ap (λ (kind : EntryKind). stands_by key kind (e.from == e.to)) (sym is)
    ∙ ap (λ (block : BlockEntry). stands_by key (BlockKind block) (e.from == e.to)) opened in
    let s = stands_of key (laid_by (BlockKind b) bytes measure e) in
    subst (λ (first : Stands). Joins first s s) (sym none) (joins-second s)
field-joins (RuledKind sign) bytes measure key e is opened = not_block (RuledKind sign) key e e is refl refl
field-joins ShortKind bytes measure key e is opened = not_block ShortKind key e e is refl refl
field-joins (RepeatedKind byte) bytes measure key e is opened = not_block (RepeatedKind byte) key e e is refl refl
field-joins AboveKind bytes measure key e is opened = not_block AboveKind key e e is refl refl

-- so do those of all columns
abbrev AllJoin : List Stands → List Stands → List Stands → Type 0
AllJoin firsts bs ss = (column : ℕ) → Joins (get_or firsts column Nowhere) (get_or bs column Nowhere) (get_or ss column Nowhere)

joins-more : (a b s : Stands) (firsts bs ss : List Stands) → Joins a b s → AllJoin firsts bs ss → AllJoin (a ∷ firsts) (b ∷ bs) (s ∷ ss)
joins-more a b s firsts bs ss joins rest zero = joins
joins-more a b s firsts bs ss joins rest (suc column) = rest column

joins-many : (count : ℕ) (firsts bs ss : List Stands) → AllJoin firsts bs ss
    → AllJoin (replicate count Nowhere ++ firsts) (replicate count Nowhere ++ bs) (replicate count Nowhere ++ ss)
joins-many zero firsts bs ss rest = rest
joins-many (suc count) firsts bs ss rest =
    joins-more Nowhere Nowhere Nowhere (replicate count Nowhere ++ firsts) (replicate count Nowhere ++ bs) (replicate count Nowhere ++ ss)
    (joins-first Nowhere) (joins-many count firsts bs ss rest)

counted-joins : (free : Bool) (a b s : Stands) → Joins a b s → Joins (counted_if free a) (counted_if free b) (counted_if free s)
counted-joins true a b s joins = joins-first Nowhere
counted-joins false a b s joins = joins

joins-by : (is_one : Bool) (count : ℕ) (a b s : Stands) (firsts bs ss : List Stands) → Joins a b s → AllJoin firsts bs ss
    → AllJoin ((if is_one then a ∷ [] else replicate count Nowhere) ++ firsts) ((if is_one then b ∷ [] else replicate count Nowhere) ++ bs)
    ((if is_one then s ∷ [] else replicate count Nowhere) ++ ss)
joins-by true count a b s firsts bs ss joins rest = joins-more a b s firsts bs ss joins rest
joins-by false count a b s firsts bs ss joins rest = joins-many count firsts bs ss rest

module _ (bytes : List ℕ) (bars : Bars) (line_length count : ℕ) where
  abbrev laid : List (List Asked) → List Entry → List Entry
  laid cells entries = laid_entries bytes bars line_length count cells entries

  joins-row : (from : ℕ) (keys : List FormatKey) (cells : List (List Asked)) (entries : List Entry) → length entries ≤ length cells → AreOpened entries
      → AllJoin (row_stands stands_of from keys entries) (row_stands block_stands from keys (laid cells entries)) (row_stands stands_of from keys (laid cells entries))
  joins-row from keys [] [] short opened = λ (column : ℕ). joins-first Nowhere
  joins-row from keys [] (e ∷ entries) short opened = absurd (omega (arith, short))
  joins-row from keys (asked ∷ cells) [] short opened = λ (column : ℕ). joins-first Nowhere
  joins-row from [] (asked ∷ cells) (e ∷ entries) short opened =
      let measure = measure_of bars line_length count asked in
      let new = laid_entry bytes measure e in
      joins-more (stands_of Left e) (block_stands Left new) (stands_of Left new) (row_stands stands_of (suc from) [] entries)
      (row_stands block_stands (suc from) [] (laid cells entries)) (row_stands stands_of (suc from) [] (laid cells entries))
      (field-joins e.kind bytes measure Left e refl opened.0)
      (joins-row (suc from) [] cells entries (omega (arith, short)) opened.1)
  joins-row from (k ∷ keys) (asked ∷ cells) (e ∷ entries) short opened =
      let measure = measure_of bars line_length count asked in
      let new = laid_entry bytes measure e in
      joins-by (k.end - from == 1) (k.end - from) (counted k (stands_of k.key e)) (counted k (block_stands k.key new)) (counted k (stands_of k.key new))
      (row_stands stands_of k.end keys entries) (row_stands block_stands k.end keys (laid cells entries))
      (row_stands stands_of k.end keys (laid cells entries))
      (counted-joins k.has_no_width (stands_of k.key e) (block_stands k.key new) (stands_of k.key new)
      (field-joins e.kind bytes measure k.key e refl opened.0))
      (joins-row k.end keys cells entries (omega (arith, short)) opened.1)

module _ (formats : List FormatRow) where
  -- the blocks of a row, in the columns of the table, and those of all rows in one of them
  abbrev blocks_of : ℕ → List Entry → List Stands
  blocks_of keys entries = row_stands block_stands 0 (row_at formats keys).keys entries

  abbrev blocks_in : ℕ → List KeptElement → List Stands
  blocks_in column [] = []
  blocks_in column (Row keys rules height entries ∷ elements) = get_or (blocks_of keys entries) column Nowhere ∷ blocks_in column elements
  blocks_in column (Rule sign ∷ elements) = blocks_in column elements
  blocks_in column (Command from to ∷ elements) = blocks_in column elements

  -- columns with all blocks, one by one
  abbrev each_held : List KeptElement → ℕ → List Column → List Column
  each_held elements column [] = []
  each_held elements column (c ∷ columns) =
      record c { needs = with_all c.needs (blocks_in column elements) } ∷ each_held elements (suc column) columns

  each_held-none : (column : ℕ) (columns : List Column) → columns ≡ each_held [] column columns
  each_held-none column [] = refl
  each_held-none column (c ∷ columns) = ap (λ (cs : List Column). c ∷ cs) (each_held-none (suc column) columns)

  module _ (keys rules height : ℕ) (entries : List Entry) (elements : List KeptElement) where
    first-block : (c : Column) (column : ℕ) (rest : List Stands) → drop column (blocks_of keys entries) ≡ rest
        → with_all (needing c.needs (get_or rest 0 Nowhere)) (blocks_in column elements)
        ≡ with_all c.needs (blocks_in column (Row keys rules height entries ∷ elements))
    first-block c column rest is =
        ap (λ (s : Stands). with_all (needing c.needs s) (blocks_in column elements)) (sym (get_or-rest (blocks_of keys entries) rest column is))

    each_held-row : (column : ℕ) (rest : List Stands) (columns : List Column) → drop column (blocks_of keys entries) ≡ rest
        → each_held elements column (held_by rest columns) ≡ each_held (Row keys rules height entries ∷ elements) column columns
    each_held-row column [] [] is = refl
    each_held-row column (s ∷ rest) [] is = refl
    each_held-row column [] (c ∷ columns) is =
        ap (λ (n : Needs). record c { needs = n } ∷ each_held elements (suc column) columns)
        (ap (λ (n : Needs). with_all n (blocks_in column elements)) (sym (needing-nowhere c.needs)) ∙ first-block c column [] is)
        ∙ ap (λ (cs : List Column). record c { needs = with_all c.needs (blocks_in column (Row keys rules height entries ∷ elements)) } ∷ cs)
        (each_held-row (suc column) [] columns (rest-next (blocks_of keys entries) [] column is))
    each_held-row column (s ∷ rest) (c ∷ columns) is =
        ap (λ (n : Needs). record c { needs = n } ∷ each_held elements (suc column) (held_by rest columns)) (first-block c column (s ∷ rest) is)
        ∙ ap (λ (cs : List Column). record c { needs = with_all c.needs (blocks_in column (Row keys rules height entries ∷ elements)) } ∷ cs)
        (each_held-row (suc column) rest columns (rest-next (blocks_of keys entries) (s ∷ rest) column is))

  each_held-command : (from to : ℕ) (elements : List KeptElement) (column : ℕ) (columns : List Column)
      → each_held elements column columns ≡ each_held (Command from to ∷ elements) column columns
  each_held-command from to elements column [] = refl
  each_held-command from to elements column (c ∷ columns) =
      ap (λ (cs : List Column). record c { needs = with_all c.needs (blocks_in column elements) } ∷ cs)
      (each_held-command from to elements (suc column) columns)

  each_held-rule : (sign : RuleSign) (elements : List KeptElement) (column : ℕ) (columns : List Column)
      → each_held elements column columns ≡ each_held (Rule sign ∷ elements) column columns
  each_held-rule sign elements column [] = refl
  each_held-rule sign elements column (c ∷ columns) =
      ap (λ (cs : List Column). record c { needs = with_all c.needs (blocks_in column elements) } ∷ cs)
      (each_held-rule sign elements (suc column) columns)

  all_held-each : (elements : List KeptElement) (columns : List Column) → all_held formats elements columns ≡ each_held elements 0 columns
  all_held-each [] columns = each_held-none 0 columns
  all_held-each (Row keys rules height entries ∷ elements) columns =
      all_held-each elements (holding_blocks (row_at formats keys).keys entries columns)
      ∙ each_held-row keys rules height entries elements 0 (blocks_of keys entries) columns refl
  all_held-each (Rule sign ∷ elements) columns = all_held-each elements columns ∙ each_held-rule sign elements 0 columns
  all_held-each (Command from to ∷ elements) columns = all_held-each elements columns ∙ each_held-command from to elements 0 columns

  -- they need what the entries of all rows do, once these are laid out
  module _ (bytes : List ℕ) (bars : Bars) (line_length : ℕ) (asked : List Asked) where
    abbrev laid_all : List KeptElement → List KeptElement
    laid_all elements = map (laid_element bytes formats bars line_length asked) elements

    needs-all : (column : ℕ) (elements : List KeptElement) → AllByRecursion (ElementKept bytes formats (length asked)) elements
        → both (needs_of (stands_in formats column elements)) (needs_of (blocks_in column (laid_all elements)))
        ≡ needs_of (entries_of column (elements_of bytes formats (laid_all elements)))
    needs-all column [] kept = needs-same _ _ (omega arith) (omega arith) (omega arith) (omega arith) (omega arith)
    needs-all column (Row keys rules height entries ∷ elements) kept =
        let format = row_at formats keys in
        let cells = by_cells 0 format.keys asked in
        let short : length entries ≤ length cells = row-short bytes formats bars line_length asked keys rules height entries kept.0 in
        let fields = laid_row bytes bars line_length asked format.keys entries in
        let same : get_or (row_stands stands_of 0 format.keys fields) column Nowhere
        ≡ get_or (row_stands stands 0 format.keys (fields_of bytes format fields)) column Nowhere =
        ap (λ (ss : List Stands). get_or ss column Nowhere)
        (row-laid-stands bytes format fields (fields-laid bytes bars line_length (length asked) format 0 cells entries short kept.0.kept))
        ∙ sym (stands-completed format (map (content_of bytes) fields) column) in
        both-more _ _ _ _ _ _
        (subst (λ (s : Stands). Joins (get_or (row_stands stands_of 0 format.keys entries) column Nowhere) (get_or (blocks_of keys fields) column Nowhere) s) same
        (joins-row bytes bars line_length (length asked) 0 format.keys cells entries short (AreOpened-kept bytes format 0 entries kept.0.kept) column))
        (needs-all column elements kept.1)
    needs-all column (Rule sign ∷ elements) kept = needs-all column elements kept.1
    needs-all column (Command from to ∷ elements) kept = needs-all column elements kept.1

    each-from : (elements : List KeptElement) → AllByRecursion (ElementKept bytes formats (length asked)) elements → (column : ℕ) (all : List Asked)
        → each_held (laid_all elements) column (with_bars all (columns_holding formats elements column (length all)))
        ≡ columns_from (elements_of bytes formats (laid_all elements)) column all
    each-from elements kept column [] = refl
    each-from elements kept column (a ∷ all) =
        ap (λ (n : Needs). record { needs = n; bars = a.bars; width = 0; start = 0 }
        ∷ each_held (laid_all elements) (suc column) (with_bars all (columns_holding formats elements (suc column) (length all))))
        (with_all-both (needs_of (stands_in formats column elements)) (blocks_in column (laid_all elements)) ∙ needs-all column elements kept)
        ∙ ap (λ (cs : List Column). record { needs = needs_of (entries_of column (elements_of bytes formats (laid_all elements))); bars = a.bars; width = 0; start = 0 } ∷ cs)
        (each-from elements kept (suc column) all)

    pub all_held-from : (elements : List KeptElement) → AllByRecursion (ElementKept bytes formats (length asked)) elements
        → all_held formats (laid_all elements) (with_bars asked (columns_holding formats elements 0 (length asked)))
        ≡ columns_from (elements_of bytes formats (laid_all elements)) 0 asked
    all_held-from elements kept =
        all_held-each (laid_all elements) (with_bars asked (columns_holding formats elements 0 (length asked)))
        ∙ each-from elements kept 0 asked
