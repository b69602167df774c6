-- The rows of a table, one laid out, and all.
use Rattle.std.proofs.Common.{◌≡◌, ℕ, suc, ◌+◌, ◌<◌, Bool, List, [], ◌∷◌, length, map, drop, get_or, set, refl, sym, ap, subst, ◌∙◌}
use Rattle.std.specs.List.{AllByRecursion, slice_range}
use Rattle.std.proofs.lemmas.List.{length-map}
use Rattle.tbl_format.specs.Format.{FormatRow}
use Rattle.tbl_format.specs.RowsServed.{row_at}
use Rattle.tbl_format.specs.declared.format.Asked.{Asked}
use Rattle.tbl_layout.specs.Columns.{columns_from, equalled, placed, row_stands, with_bars, with_equal, with_widths}
use Rattle.tbl_layout.specs.Entries.{Element as OneElement}
use Rattle.tbl_layout.specs.Heights.{heights}
use Rattle.tbl_layout.specs.Spans.{all_fitted, all_wide, columns_laid, filled}
use Rattle.tbl_layout.specs.declared.bars.Bars.{Bars}
use Rattle.tbl_layout.specs.declared.columns.Column.{Column}
use Rattle.tbl_layout.specs.declared.columns.Stands.{Stands}
use Rattle.tbl_layout.specs.declared.entry.Entry.{Entry}
use Rattle.tbl_layout.proofs.Spreading.{length-all_fitted}
use Rattle.tbl_kept.specs.KeptHeights.{raised}
use Rattle.tbl_kept.specs.Rows.{Command, ElementKept, ElementLaid, IsPlain, KeptElement, KeptRows, Row, RowsKept, RowsLaid, Rule, SameRoom, columns_holding, elements_of, height_of, held_by}
use Rattle.tbl_kept.specs.RowsInside.{LieBetween, kept_in}
use Rattle.tbl_kept.specs.RowsLaying.{ElementWithin, all_held, all_laid, block_stands, blocks_held, fitted_rows, holding_blocks, laid_at, laid_element, laid_row, wide_in}
use Rattle.tbl_kept.specs.declared.rows.Element.{Element}
use Rattle.tbl_kept.specs.declared.rows.Element.TheVariants.{Row as OneRow}
use Rattle.tbl_kept.specs.declared.rows.KeptRow.{KeptRow}
use Rattle.tbl_kept.proofs.BlocksHeld.{all_held-from}
use Rattle.tbl_kept.proofs.LaidStands.{fitted-laid}
use Rattle.tbl_kept.proofs.RowPlaces.{LieBetween-at, RowChanged, drop-further, kept-at, kept-set}
use Rattle.tbl_kept.proofs.RowsFilled.{all-laid, elements_of-laid}
use Rattle.tbl_kept.proofs.RowsRaised.{RowsLaid-raised, length-with_heights, with_heights-elements}

-- one row, by its fields and the columns
module _ (fields others part : List Entry) (elements : List Element) (start at : ℕ) (row : KeptRow) (none : Element) (columns new_columns : List Column) where
  pub row-laid : (entry_room element_room column_room height : ℕ) (bytes : List ℕ) (formats : List FormatRow) (bars : Bars) (line_length : ℕ) (asked : List Asked)
      → at < length elements → get_or elements at none ≡ OneRow row
      → LieBetween 0 elements start → RowChanged fields others part row.from row.to → height ≡ height_of part
      → part ≡ laid_row bytes bars line_length asked (row_at formats row.keys).keys (slice_range fields row.from row.to)
      → new_columns ≡ holding_blocks (row_at formats row.keys).keys part columns
      → record {
        elements = map (kept_in others) (set elements at (OneRow (record row { height = height })));
        row = drop start others;
        columns = new_columns;
        entry_room = entry_room;
        element_room = element_room;
        column_room = column_room;
      } ≡ laid_at bytes formats bars line_length asked at (record {
        elements = map (kept_in fields) elements;
        row = drop start fields;
        columns = columns;
        entry_room = entry_room;
        element_room = element_room;
        column_room = column_room;
      })
  row-laid entry_room element_room column_room height bytes formats bars line_length asked more is lie changed high laid held =
      let between = LieBetween-at 0 start at elements row none more is lie in
      let slice = slice_range fields row.from row.to in
      let rows_with : List KeptElement → List Entry → List Column → KeptRows =
      λ els r cs. record { elements = els; row = r; columns = cs; entry_room = entry_room; element_room = element_room; column_room = column_room } in
      let kept = map (kept_in fields) elements in
      let change : KeptElement → KeptElement = laid_element bytes formats bars line_length asked in
      let same : get_or kept at (Command 0 0) ≡ Row row.keys row.rules row.height slice = kept-at fields elements at none (OneRow row) (Command 0 0) more is in
      let element : Row row.keys row.rules height part ≡ change (get_or kept at (Command 0 0)) =
      ap (λ (h : ℕ). Row row.keys row.rules h part) high
      ∙ ap (λ (es : List Entry). Row row.keys row.rules (height_of es) es) laid
      ∙ ap change (sym same) in
      let stands : new_columns ≡ blocks_held formats (change (get_or kept at (Command 0 0))) columns =
      held ∙ ap (λ (e : KeptElement). blocks_held formats e columns) element in
      ap (λ (els : List KeptElement). rows_with els (drop start others) new_columns) (kept-set row height fields others part changed 0 start at elements none more is lie
      ∙ ap (λ (e : KeptElement). set kept at e) element)
      ∙ ap (λ (r : List Entry). rows_with (set kept at (change (get_or kept at (Command 0 0)))) r new_columns)
      (drop-further others fields row.to start between.last changed.behind)
      ∙ ap (λ (cs : List Column). rows_with (set kept at (change (get_or kept at (Command 0 0)))) (drop start fields) cs) stands

-- how many columns there are stays
pub length-with_bars : (asked : List Asked) (columns : List Column) → length (with_bars asked columns) ≡ length columns
length-with_bars [] columns = refl
length-with_bars (a ∷ asked) [] = refl
length-with_bars (a ∷ asked) (c ∷ columns) = ap (λ (n : ℕ). suc n) (length-with_bars asked columns)

length-with_widths : (asked : List Asked) (columns : List Column) → length (with_widths asked columns) ≡ length columns
length-with_widths [] columns = refl
length-with_widths (a ∷ asked) [] = refl
length-with_widths (a ∷ asked) (c ∷ columns) = ap (λ (n : ℕ). suc n) (length-with_widths asked columns)

length-with_equal : (width : ℕ) (asked : List Asked) (columns : List Column) → length (with_equal width asked columns) ≡ length columns
length-with_equal width [] columns = refl
length-with_equal width (a ∷ asked) [] = refl
length-with_equal width (a ∷ asked) (c ∷ columns) = ap (λ (n : ℕ). suc n) (length-with_equal width asked columns)

pub length-placed : (place : ℕ) (gaps : List ℕ) (columns : List Column) → length (placed place gaps columns) ≡ length columns
length-placed place [] columns = refl
length-placed place (gap ∷ gaps) [] = refl
length-placed place (gap ∷ gaps) (c ∷ columns) = ap (λ (n : ℕ). suc n) (length-placed (place + gap + c.width) gaps columns)

pub length-held_by : (entries : List Stands) (columns : List Column) → length (held_by entries columns) ≡ length columns
length-held_by [] columns = refl
length-held_by (s ∷ entries) [] = refl
length-held_by (s ∷ entries) (c ∷ columns) = ap (λ (n : ℕ). suc n) (length-held_by entries columns)

module _ (formats : List FormatRow) where
  pub length-blocks_held : (e : KeptElement) (columns : List Column) → length (blocks_held formats e columns) ≡ length columns
  length-blocks_held (Row keys rules height entries) columns = length-held_by (row_stands block_stands 0 (row_at formats keys).keys entries) columns
  length-blocks_held (Rule sign) columns = refl
  length-blocks_held (Command from to) columns = refl

  length-all_held : (elements : List KeptElement) (columns : List Column) → length (all_held formats elements columns) ≡ length columns
  length-all_held [] columns = refl
  length-all_held (e ∷ elements) columns = length-all_held elements (blocks_held formats e columns) ∙ length-blocks_held e columns

  length-fitted_rows : (bars : Bars) (asked : List Asked) (elements : List KeptElement) (columns : List Column)
      → length (fitted_rows formats bars asked elements columns) ≡ length columns
  length-fitted_rows bars asked [] columns = refl
  length-fitted_rows bars asked (e ∷ elements) columns =
      length-fitted_rows bars asked elements (all_fitted bars asked (wide_in formats e) columns)
      ∙ length-all_fitted bars asked (wide_in formats e) columns

-- a row of the formats serves each row that is laid out
module _ (bytes : List ℕ) (formats : List FormatRow) (bars : Bars) (line_length : ℕ) (asked : List Asked) where
  rows-within : (columns : ℕ) (elements : List KeptElement) → AllByRecursion (ElementKept bytes formats columns) elements
      → AllByRecursion (ElementWithin formats) (map (laid_element bytes formats bars line_length asked) elements)
  rows-within columns [] kept = tt
  rows-within columns (Row keys rules height entries ∷ elements) kept = (kept.0.serves, rows-within columns elements kept.1)
  rows-within columns (Rule sign ∷ elements) kept = (tt, rows-within columns elements kept.1)
  rows-within columns (Command from to ∷ elements) kept = (tt, rows-within columns elements kept.1)

  -- and each is as high as the most lines of its fields
  rows-alone : (elements : List KeptElement) → AllByRecursion IsPlain (map (laid_element bytes formats bars line_length asked) elements)
  rows-alone [] = tt
  rows-alone (Row keys rules height entries ∷ elements) = (refl, rows-alone elements)
  rows-alone (Rule sign ∷ elements) = (tt, rows-alone elements)
  rows-alone (Command from to ∷ elements) = (tt, rows-alone elements)

  -- all rows, and the columns with their widths
  module _ (k : KeptRows) (kept : RowsKept bytes formats k) where
    abbrev pub barred : KeptRows
    barred = record k { columns = with_bars asked k.columns }

    abbrev pub filled_rows : KeptRows
    filled_rows = all_laid bytes formats bars line_length asked barred

    abbrev pub widened : KeptRows → KeptRows
    widened r = record r { columns = equalled asked (fitted_rows formats bars asked r.elements (with_widths asked r.columns)) }

    pub kept-barred : AllByRecursion (ElementKept bytes formats (length barred.columns)) k.elements
    kept-barred =
        subst (λ (n : ℕ). AllByRecursion (ElementKept bytes formats n) k.elements) (sym (length-with_bars asked k.columns)) kept.elements

    pub within-filled : AllByRecursion (ElementWithin formats) filled_rows.elements
    within-filled = rows-within (length k.columns) k.elements kept.elements

    pub length-filled : length filled_rows.columns ≡ length k.columns
    length-filled = length-all_held formats filled_rows.elements barred.columns ∙ length-with_bars asked k.columns

    pub length-needed : length (with_widths asked filled_rows.columns) ≡ length k.columns
    length-needed = length-with_widths asked filled_rows.columns ∙ length-filled

    pub alone-filled : AllByRecursion IsPlain filled_rows.elements
    alone-filled = rows-alone k.elements

    -- with the heights that they have in the table
    abbrev pub raised_rows : Bool → KeptRows
    raised_rows is_inside = record (widened filled_rows) {
      elements = raised bytes formats is_inside (length (widened filled_rows).columns) filled_rows.elements;
    }

    pub count-all : (is_inside : Bool) → length (raised_rows is_inside).elements ≡ length k.elements
    count-all is_inside =
        length-with_heights _ filled_rows.elements ∙ length-map k.elements (laid_element bytes formats bars line_length asked)

    pub length-widened : length (widened filled_rows).columns ≡ length k.columns
    length-widened =
        length-with_equal _ asked (fitted_rows formats bars asked filled_rows.elements (with_widths asked filled_rows.columns))
        ∙ length-fitted_rows formats bars asked filled_rows.elements (with_widths asked filled_rows.columns)
        ∙ length-needed

    module _ (same : length k.columns ≡ length asked) where
      kept-asked : AllByRecursion (ElementKept bytes formats (length asked)) k.elements
      kept-asked = subst (λ (n : ℕ). AllByRecursion (ElementKept bytes formats n) k.elements) same kept.elements

      laid-asked : AllByRecursion (ElementLaid bytes formats (length asked)) filled_rows.elements
      laid-asked = all-laid bytes formats bars line_length asked k.elements kept-asked

      pub laid-widened : AllByRecursion (ElementLaid bytes formats (length (widened filled_rows).columns)) filled_rows.elements
      laid-widened =
          subst (λ (n : ℕ). AllByRecursion (ElementLaid bytes formats n) filled_rows.elements) (sym (length-widened ∙ same)) laid-asked

      pub RowsLaid-all : (is_inside : Bool) → RowsLaid bytes formats is_inside (raised_rows is_inside)
      RowsLaid-all is_inside =
          RowsLaid-raised bytes formats is_inside (raised_rows is_inside) (length (widened filled_rows).columns) filled_rows.elements refl laid-widened refl

      elements_of-filled : elements_of bytes formats filled_rows.elements ≡ filled bars line_length asked (elements_of bytes formats k.elements)
      elements_of-filled = elements_of-laid bytes formats bars line_length asked k.elements

      pub elements_of-all : (is_inside : Bool)
          → elements_of bytes formats (raised_rows is_inside).elements ≡ filled bars line_length asked (elements_of bytes formats k.elements)
      elements_of-all is_inside = with_heights-elements bytes formats _ filled_rows.elements ∙ elements_of-filled

      held-all : filled_rows.columns ≡ columns_from (elements_of bytes formats filled_rows.elements) 0 asked
      held-all =
          ap (λ (cs : List Column). all_held formats filled_rows.elements (with_bars asked cs))
          (kept.columns ∙ ap (λ (n : ℕ). columns_holding formats k.elements 0 n) same)
          ∙ all_held-from formats bytes bars line_length asked k.elements kept-asked

      pub columns-all : (widened filled_rows).columns ≡ columns_laid bars line_length asked (elements_of bytes formats k.elements)
      columns-all =
          ap (λ (cs : List Column). equalled asked cs) (fitted-laid bytes formats (length asked) bars asked filled_rows.elements laid-asked (with_widths asked filled_rows.columns))
          ∙ ap (λ (cs : List Column). equalled asked (all_fitted bars asked (all_wide (elements_of bytes formats filled_rows.elements)) (with_widths asked cs))) held-all
          ∙ ap (λ (all : List OneElement). equalled asked (all_fitted bars asked (all_wide all) (with_widths asked (columns_from all 0 asked)))) elements_of-filled

-- rows that are laid out stay so in as many columns
pub RowsLaid-as_many : (bytes : List ℕ) (formats : List FormatRow) (is_inside : Bool) (k : KeptRows) (columns : List Column) → length k.columns ≡ length columns
    → RowsLaid bytes formats is_inside k → RowsLaid bytes formats is_inside (record k { columns = columns })
RowsLaid-as_many bytes formats is_inside k columns same laid = record {
  elements = subst (λ (n : ℕ). AllByRecursion (ElementLaid bytes formats n) k.elements) same laid.elements;
  heights = laid.heights ∙ ap (λ (n : ℕ). heights is_inside n (elements_of bytes formats k.elements)) same;
}

-- rows of which columns alone changed
pub rows-same : (old new : KeptRows) (columns : List Column) → new.elements ≡ old.elements → new.row ≡ old.row → new.columns ≡ columns → SameRoom old new
    → new ≡ record old { columns = columns }
rows-same old new columns elements row is rooms =
    ap (λ (els : List KeptElement). record new { elements = els }) elements
    ∙ ap (λ (r : List Entry). record new { elements = old.elements; row = r }) row
    ∙ ap (λ (cs : List Column). record new { elements = old.elements; row = old.row; columns = cs }) is
    ∙ ap (λ (n : ℕ). record new { elements = old.elements; row = old.row; columns = columns; entry_room = n }) rooms.entries
    ∙ ap (λ (n : ℕ). record old { columns = columns; element_room = n; column_room = new.column_room }) rooms.elements
    ∙ ap (λ (n : ℕ). record old { columns = columns; column_room = n }) rooms.columns
