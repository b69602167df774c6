-- What is kept of a table's rows stays as it is behind each step of its reading.
use Rattle.std.proofs.Common.{◌≡◌, ℕ, suc, ◌+◌, ◌-◌, ◌<◌, ◌≤◌, Bool, List, [], ◌∷◌, ◌++◌, length, map, take, drop, replicate, refl, sym, ap, subst, ◌∙◌, arith, length-append, length-drop}
use Rattle.std.specs.List.{AllByRecursion, slice_range}
use Rattle.std.proofs.lemmas.List.{drop-append-le, length-replicate, map-append, take-append-le}
use Rattle.tbl_format.specs.Cells.{cell_count}
use Rattle.tbl_format.specs.Format.{FormatRow}
use Rattle.tbl_format.specs.FormatRows.{AreWithin}
use Rattle.tbl_format.specs.RowsServed.{row_at}
use Rattle.tbl_layout.specs.Columns.{row_stands}
use Rattle.tbl_layout.specs.Entries.{Command as OneCommand, Content, Row as OneRow, Rule as OneRule, completed, key_at}
use Rattle.tbl_layout.specs.Heights.{heights}
use Rattle.tbl_layout.specs.KeptEntries.{IsKept, content_of, stands_of, with_end}
use Rattle.tbl_layout.specs.declared.columns.Column.{Column}
use Rattle.tbl_layout.specs.declared.data_lines.RuleSign.{RuleSign}
use Rattle.tbl_layout.specs.declared.entry.Entry.{Entry}
use Rattle.tbl_format.proofs.Elements.{each-append}
use Rattle.tbl_kept.specs.Rows.{AreKept, AreLaid, Command, ElementKept, ElementLaid, IsRuleRow, KeptElement, KeptRows, Row, RowBegunKept, RowsKept, RowsLaid, Rule, columns_holding, element_of, elements_of, fields_of, held_by, last_changed, no_column, no_rows, rows_in_front, with_block_end, with_columns, with_command, with_entry, with_row, with_rule}
use Rattle.tbl_kept.specs.RowsGrowing.{BlockGrows, with_line}
use Rattle.tbl_kept.proofs.ColumnsHeld.{columns_holding-behind, columns_holding-command, columns_holding-formats, columns_holding-more, columns_holding-rule, holding-row, length-columns_holding, row_at-more}
use Rattle.tbl_kept.proofs.KeptFields.{AreKept-front, AreKept-last, AreKept-more, IsKept-block_end, IsLaid-more, content_of-block_end, content_of-laid-more, last_changed-last, more-within, part-more}

-- what holds of each element, by what it says
each : {A : Type 0} (P Q : A → Type 0) → ((x : A) → P x → Q x) → (xs : List A) → AllByRecursion P xs → AllByRecursion Q xs
each P Q says [] all = tt
each P Q says (x ∷ xs) all = (says x all.0, each P Q says xs all.1)

-- two functions that are the same on each element
map-same : {A B : Type 0} (f g : A → B) (P : A → Type 0) → ((x : A) → P x → f x ≡ g x) → (xs : List A) → AllByRecursion P xs → map f xs ≡ map g xs
map-same f g P same [] all = refl
map-same {A} {B} f g P same (x ∷ xs) all =
    ap (λ (y : B). y ∷ map f xs) (same x all.0) ∙ ap (λ (ys : List B). g x ∷ ys) (map-same f g P same xs all.1)

-- no row is kept of nothing
pub RowsKept-none : (bytes : List ℕ) (formats : List FormatRow) (entries elements columns : ℕ)
    → RowsKept bytes formats (no_rows entries elements columns)
RowsKept-none bytes formats entries elements columns = record { elements = tt; columns = refl }

-- bytes behind those of the table change no row
module _ (bytes more : List ℕ) (formats : List FormatRow) where
  element-kept-more : (columns : ℕ) (e : KeptElement) → ElementKept bytes formats columns e → ElementKept (bytes ++ more) formats columns e
  element-kept-more columns (Row keys rules height entries) kept = record {
    serves = kept.serves;
    in_front = kept.in_front;
    ruled = kept.ruled;
    cells = record { cells = kept.cells.cells; short = kept.cells.short };
    short = kept.short;
    kept = AreKept-more bytes more (row_at formats keys) 0 entries kept.kept;
    low = kept.low;
  }
  element-kept-more columns (Rule sign) kept = tt
  element-kept-more columns (Command from to) kept = record { order = kept.order; within = more-within bytes more to kept.within }

  pub RowsKept-more : (k : KeptRows) → RowsKept bytes formats k → RowsKept (bytes ++ more) formats k
  RowsKept-more k kept = record {
    elements = each (ElementKept bytes formats (length k.columns)) (ElementKept (bytes ++ more) formats (length k.columns))
        (element-kept-more (length k.columns)) k.elements kept.elements;
    columns = kept.columns;
  }

  pub RowBegunKept-more : (keys : ℕ) (k : KeptRows) → RowBegunKept bytes formats keys k → RowBegunKept (bytes ++ more) formats keys k
  RowBegunKept-more keys k begun = record {
    all = RowsKept-more k begun.all;
    row = AreKept-more bytes more (row_at formats keys) 0 k.row begun.row;
    short = begun.short;
  }

  -- and none that is laid out
  fields-laid-more : (format : FormatRow) (cell : ℕ) (entries : List Entry) → AreLaid bytes format cell entries
      → AreLaid (bytes ++ more) format cell entries
  fields-laid-more format cell [] laid = tt
  fields-laid-more format cell (e ∷ entries) laid =
      (IsLaid-more bytes more (key_at format cell) e laid.0, fields-laid-more format (suc cell) entries laid.1)

  contents-laid-more : (format : FormatRow) (cell : ℕ) (entries : List Entry) → AreLaid bytes format cell entries
      → map (content_of (bytes ++ more)) entries ≡ map (content_of bytes) entries
  contents-laid-more format cell [] laid = refl
  contents-laid-more format cell (e ∷ entries) laid =
      ap (λ (c : Content). c ∷ map (content_of (bytes ++ more)) entries) (content_of-laid-more bytes more (key_at format cell) e laid.0)
      ∙ ap (λ (cs : List Content). content_of bytes e ∷ cs) (contents-laid-more format (suc cell) entries laid.1)

  element-laid-more : (columns : ℕ) (e : KeptElement) → ElementLaid bytes formats columns e → ElementLaid (bytes ++ more) formats columns e
  element-laid-more columns (Row keys rules height entries) laid = record {
    serves = laid.serves;
    in_front = laid.in_front;
    ruled = laid.ruled;
    cells = record { cells = laid.cells.cells; short = laid.cells.short };
    short = laid.short;
    laid = fields-laid-more (row_at formats keys) 0 entries laid.laid;
  }
  element-laid-more columns (Rule sign) laid = tt
  element-laid-more columns (Command from to) laid = record { order = laid.order; within = more-within bytes more to laid.within }

  element_of-laid-more : (columns : ℕ) (e : KeptElement) → ElementLaid bytes formats columns e
      → element_of (bytes ++ more) formats e ≡ element_of bytes formats e
  element_of-laid-more columns (Row keys rules height entries) laid =
      ap (λ (fields : List Content). OneRow (rows_in_front formats keys rules) (row_at formats keys) (completed (row_at formats keys) fields)) (contents-laid-more (row_at formats keys) 0 entries laid.laid)
  element_of-laid-more columns (Rule sign) laid = refl
  element_of-laid-more columns (Command from to) laid = ap OneCommand (part-more bytes more from to laid.within)

  pub elements_of-laid-more : (is_inside : Bool) (k : KeptRows) → RowsLaid bytes formats is_inside k
      → elements_of (bytes ++ more) formats k.elements ≡ elements_of bytes formats k.elements
  elements_of-laid-more is_inside k laid =
      map-same (element_of (bytes ++ more) formats) (element_of bytes formats) (ElementLaid bytes formats (length k.columns))
      (element_of-laid-more (length k.columns)) k.elements laid.elements

  pub RowsLaid-more : (is_inside : Bool) (k : KeptRows) → RowsLaid bytes formats is_inside k → RowsLaid (bytes ++ more) formats is_inside k
  RowsLaid-more is_inside k laid =
      let same = elements_of-laid-more is_inside k laid in
      record {
        elements = each (ElementLaid bytes formats (length k.columns)) (ElementLaid (bytes ++ more) formats (length k.columns))
            (element-laid-more (length k.columns)) k.elements laid.elements;
        heights = laid.heights ∙ ap (heights is_inside (length k.columns)) (sym same);
      }

-- rows of formats behind those that are known change no row
pub rows_in_front-more : (formats more : List FormatRow) (keys rules : ℕ) → keys < length formats → rules ≤ keys
    → rows_in_front (formats ++ more) keys rules ≡ rows_in_front formats keys rules
rows_in_front-more formats more keys rules serves few =
    ap (λ (rows : List FormatRow). take rules rows) (drop-append-le (keys - rules) formats more (omega (arith, serves)))
    ∙ take-append-le rules (drop (keys - rules) formats) more (omega (arith, serves, few, length-drop (keys - rules) formats))

module _ (bytes : List ℕ) (formats more : List FormatRow) where
  element-kept-formats : (columns : ℕ) (e : KeptElement) → ElementKept bytes formats columns e → ElementKept bytes (formats ++ more) columns e
  element-kept-formats columns (Row keys rules height entries) kept = record {
    serves = omega (arith, kept.serves, length-append formats more);
    in_front = kept.in_front;
    ruled = subst (AllByRecursion IsRuleRow) (sym (rows_in_front-more formats more keys rules kept.serves kept.in_front)) kept.ruled;
    cells = subst (λ (row : FormatRow). AreWithin columns row.keys) (sym (row_at-more bytes formats more columns keys kept.serves)) kept.cells;
    short = subst (λ (row : FormatRow). length entries ≤ cell_count row.keys columns) (sym (row_at-more bytes formats more columns keys kept.serves)) kept.short;
    kept = subst (λ (row : FormatRow). AreKept bytes row 0 entries) (sym (row_at-more bytes formats more columns keys kept.serves)) kept.kept;
    low = kept.low;
  }
  element-kept-formats columns (Rule sign) kept = tt
  element-kept-formats columns (Command from to) kept = record { order = kept.order; within = kept.within }

  element_of-formats : (columns : ℕ) (e : KeptElement) → ElementKept bytes formats columns e
      → element_of bytes (formats ++ more) e ≡ element_of bytes formats e
  element_of-formats columns (Row keys rules height entries) kept =
      ap (λ (row : FormatRow). OneRow (rows_in_front (formats ++ more) keys rules) row (fields_of bytes row entries))
      (row_at-more bytes formats more columns keys kept.serves)
      ∙ ap (λ (front : List FormatRow). OneRow front (row_at formats keys) (fields_of bytes (row_at formats keys) entries))
      (rows_in_front-more formats more keys rules kept.serves kept.in_front)
  element_of-formats columns (Rule sign) kept = refl
  element_of-formats columns (Command from to) kept = refl

  pub RowsKept-formats : (k : KeptRows) → RowsKept bytes formats k → RowsKept bytes (formats ++ more) k
  RowsKept-formats k kept = record {
    elements = each (ElementKept bytes formats (length k.columns)) (ElementKept bytes (formats ++ more) (length k.columns))
        (element-kept-formats (length k.columns)) k.elements kept.elements;
    columns = kept.columns ∙ sym (columns_holding-formats bytes formats more (length k.columns) k.elements kept.elements 0 (length k.columns));
  }

  pub elements_of-formats : (k : KeptRows) → RowsKept bytes formats k
      → elements_of bytes (formats ++ more) k.elements ≡ elements_of bytes formats k.elements
  elements_of-formats k kept =
      map-same (element_of bytes (formats ++ more)) (element_of bytes formats) (ElementKept bytes formats (length k.columns))
      (element_of-formats (length k.columns)) k.elements kept.elements

module _ (bytes : List ℕ) (formats : List FormatRow) (k : KeptRows) where
  -- a row begins
  pub RowBegunKept-first : (keys : ℕ) → k.row ≡ [] → RowsKept bytes formats k → RowBegunKept bytes formats keys k
  RowBegunKept-first keys none kept = record {
    all = kept;
    row = subst (λ (row : List Entry). AreKept bytes (row_at formats keys) 0 row) (sym none) tt;
    short = omega (arith, ap length none);
  }

  -- one field more
  pub RowsKept-entry : (e : Entry) → RowsKept bytes formats k → RowsKept bytes formats (with_entry e k)
  RowsKept-entry e kept = record { elements = kept.elements; columns = kept.columns }

  pub RowBegunKept-entry : (keys : ℕ) (e : Entry) → length k.row < cell_count (row_at formats keys).keys (length k.columns)
      → IsKept bytes (key_at (row_at formats keys) (length k.row)) e → RowBegunKept bytes formats keys k
      → RowBegunKept bytes formats keys (with_entry e k)
  RowBegunKept-entry keys e more is begun =
      let at : length k.row ≡ 0 + length k.row = omega arith in
      record {
        all = RowsKept-entry e begun.all;
        row = AreKept-last bytes (row_at formats keys) 0 k.row e begun.row
            (subst (λ (n : ℕ). IsKept bytes (key_at (row_at formats keys) n) e) at is);
        short = omega (arith, more, length-append k.row (e ∷ []));
      }

  pub contents-entry : (e : Entry)
      → map (content_of bytes) (with_entry e k).row ≡ map (content_of bytes) k.row ++ content_of bytes e ∷ []
  contents-entry e = map-append (content_of bytes) k.row (e ∷ [])

  -- a block that is the last field has a line more
  pub RowsKept-block_end : (to : ℕ) → RowsKept bytes formats k → RowsKept bytes formats (with_block_end to k)
  RowsKept-block_end to kept = record { elements = kept.elements; columns = kept.columns }

  module _ (front : List Entry) (e : Entry) (to : ℕ) (is : k.row ≡ front ++ e ∷ []) where
    row-block_end : (with_block_end to k).row ≡ front ++ with_end to e ∷ []
    row-block_end = ap (λ (row : List Entry). last_changed (with_end to) row) is ∙ last_changed-last (with_end to) front e

    pub RowBegunKept-block_end : (keys : ℕ) → BlockGrows bytes e to → RowBegunKept bytes formats keys k
        → RowBegunKept bytes formats keys (with_block_end to k)
    RowBegunKept-block_end keys grows begun =
        let format = row_at formats keys in
        let before : AreKept bytes format 0 front =
        AreKept-front bytes format 0 front e (subst (λ (row : List Entry). AreKept bytes format 0 row) is begun.row) in
        record {
          all = RowsKept-block_end to begun.all;
          row = subst (λ (row : List Entry). AreKept bytes format 0 row) (sym row-block_end)
              (AreKept-last bytes format 0 front (with_end to e) before (IsKept-block_end bytes (key_at format (0 + length front)) e to grows));
          short = omega (arith, begun.short, ap length row-block_end, ap length is, length-append front (e ∷ []), length-append front (with_end to e ∷ []));
        }

    pub contents-block_end : BlockGrows bytes e to
        → map (content_of bytes) (with_block_end to k).row
        ≡ map (content_of bytes) front ++ with_line (slice_range bytes (e.to + 1) to) (content_of bytes e) ∷ []
    contents-block_end grows =
        ap (λ (row : List Entry). map (content_of bytes) row) row-block_end
        ∙ map-append (content_of bytes) front (with_end to e ∷ [])
        ∙ ap (λ (c : Content). map (content_of bytes) front ++ c ∷ []) (content_of-block_end bytes e to grows)

  -- the row that is begun is whole
  pub RowsKept-row : (keys rules : ℕ) → keys < length formats → rules ≤ keys → AllByRecursion IsRuleRow (rows_in_front formats keys rules)
      → AreWithin (length k.columns) (row_at formats keys).keys → RowBegunKept bytes formats keys k → RowsKept bytes formats (with_row keys rules (row_at formats keys) k)
  RowsKept-row keys rules serves in_front ruled cells begun =
      let entries = row_stands stands_of 0 (row_at formats keys).keys k.row in
      let columns : held_by entries k.columns ≡ columns_holding formats (k.elements ++ Row keys rules 1 k.row ∷ []) 0 (length k.columns) =
      ap (λ (cs : List Column). held_by entries cs) begun.all.columns
      ∙ holding-row formats k.elements keys rules 1 k.row (length k.columns) 0 entries refl in
      let same : length (held_by entries k.columns) ≡ length k.columns =
      ap length columns ∙ length-columns_holding formats (k.elements ++ Row keys rules 1 k.row ∷ []) 0 (length k.columns) in
      let all : AllByRecursion (ElementKept bytes formats (length k.columns)) (k.elements ++ Row keys rules 1 k.row ∷ []) =
      each-append (ElementKept bytes formats (length k.columns)) k.elements (Row keys rules 1 k.row ∷ []) begun.all.elements
      (record { serves = serves; in_front = in_front; ruled = ruled; cells = cells; short = begun.short; kept = begun.row; low = refl }, tt) in
      record {
        elements = subst (λ (n : ℕ). AllByRecursion (ElementKept bytes formats n) (k.elements ++ Row keys rules 1 k.row ∷ [])) (sym same) all;
        columns = columns ∙ ap (λ (n : ℕ). columns_holding formats (k.elements ++ Row keys rules 1 k.row ∷ []) 0 n) (sym same);
      }

  pub elements_of-row : (keys rules : ℕ) → elements_of bytes formats (with_row keys rules (row_at formats keys) k).elements
      ≡ elements_of bytes formats k.elements
      ++ OneRow (rows_in_front formats keys rules) (row_at formats keys) (fields_of bytes (row_at formats keys) k.row) ∷ []
  elements_of-row keys rules = map-append (element_of bytes formats) k.elements (Row keys rules 1 k.row ∷ [])

  -- a command
  pub RowsKept-command : (from to : ℕ) → from ≤ to → to ≤ length bytes → RowsKept bytes formats k
      → RowsKept bytes formats (with_command from to k)
  RowsKept-command from to order within kept = record {
    elements = each-append (ElementKept bytes formats (length k.columns)) k.elements (Command from to ∷ []) kept.elements
        (record { order = order; within = within }, tt);
    columns = kept.columns ∙ sym (columns_holding-command formats k.elements from to 0 (length k.columns));
  }

  pub RowBegunKept-command : (keys from to : ℕ) → from ≤ to → to ≤ length bytes → RowBegunKept bytes formats keys k
      → RowBegunKept bytes formats keys (with_command from to k)
  RowBegunKept-command keys from to order within begun =
      record { all = RowsKept-command from to order within begun.all; row = begun.row; short = begun.short }

  pub elements_of-command : (from to : ℕ) → elements_of bytes formats (with_command from to k).elements
      ≡ elements_of bytes formats k.elements ++ OneCommand (slice_range bytes from to) ∷ []
  elements_of-command from to = map-append (element_of bytes formats) k.elements (Command from to ∷ [])

  -- a rule
  pub RowsKept-rule : (sign : RuleSign) → RowsKept bytes formats k → RowsKept bytes formats (with_rule sign k)
  RowsKept-rule sign kept = record {
    elements = each-append (ElementKept bytes formats (length k.columns)) k.elements (Rule sign ∷ []) kept.elements (tt, tt);
    columns = kept.columns ∙ sym (columns_holding-rule formats k.elements sign 0 (length k.columns));
  }

  pub RowBegunKept-rule : (keys : ℕ) (sign : RuleSign) → RowBegunKept bytes formats keys k → RowBegunKept bytes formats keys (with_rule sign k)
  RowBegunKept-rule keys sign begun = record { all = RowsKept-rule sign begun.all; row = begun.row; short = begun.short }

  pub elements_of-rule : (sign : RuleSign)
      → elements_of bytes formats (with_rule sign k).elements ≡ elements_of bytes formats k.elements ++ OneRule sign ∷ []
  elements_of-rule sign = map-append (element_of bytes formats) k.elements (Rule sign ∷ [])

  -- more columns
  length-columns : (count : ℕ) → length (with_columns count k).columns ≡ length k.columns + (count - length k.columns)
  length-columns count = omega (arith, length-append k.columns (replicate (count - length k.columns) no_column), length-replicate (count - length k.columns) no_column)

  element-wider : (few many : ℕ) → few ≤ many → (e : KeptElement) → ElementKept bytes formats few e → ElementKept bytes formats many e
  element-wider few many less (Row keys rules height entries) kept =
      record {
        serves = kept.serves;
        in_front = kept.in_front;
        ruled = kept.ruled;
        cells = record { cells = kept.cells.cells; short = omega (arith, kept.cells.short, less) };
        short = omega (arith, kept.short, less);
        kept = kept.kept;
        low = kept.low;
      }
  element-wider few many less (Rule sign) kept = tt
  element-wider few many less (Command from to) kept = record { order = kept.order; within = kept.within }

  pub RowsKept-columns : (count : ℕ) → RowsKept bytes formats k → RowsKept bytes formats (with_columns count k)
  RowsKept-columns count kept =
      let old = length k.columns in
      let more = count - length k.columns in
      let all = length (with_columns count k).columns in
      let first : old ≡ 0 + old = omega arith in
      record {
        elements = each (ElementKept bytes formats old) (ElementKept bytes formats all)
            (element-wider old all (omega (arith, length-columns count))) k.elements kept.elements;
        columns = ap (λ (cs : List Column). cs ++ replicate more no_column) kept.columns
            ∙ ap (λ (cs : List Column). columns_holding formats k.elements 0 old ++ cs)
            (sym (columns_holding-behind formats bytes old k.elements kept.elements (0 + old) more (omega arith)))
            ∙ sym (columns_holding-more formats k.elements 0 old more all (length-columns count));
      }
