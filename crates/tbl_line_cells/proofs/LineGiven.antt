-- A line of cells, as a row that is given.
use Rattle.std.proofs.Common.{◌≡◌, ℕ, zero, suc, ◌<◌, ◌≤◌, Bool, true, false, List, [], ◌∷◌, ◌++◌, length, map, drop, max, refl, sym, ap, ◌∙◌, arith, if◌then◌else◌, codes, append-nil}
use Rattle.std.specs.List.{AllByRecursion}
use Rattle.std.proofs.lemmas.List.{length-map}
use Rattle.input_source.specs.Bytes.{newline}
use Rattle.tbl_format.specs.Format.{FormatRow}
use Rattle.tbl_format.specs.declared.format.FormatKey.{FormatKey}
use Rattle.tbl_format.specs.declared.format.Key.{Key}
use Rattle.tbl_format.specs.declared.format.Key.TheVariants.{Left}
use Rattle.tbl_layout.specs.Entries.{Run, up_to_last_glyph}
use Rattle.tbl_layout.specs.KeptEntries.{Lies, all_entries, no_entry, said_by_key}
use Rattle.tbl_layout.specs.RuleKeys.{under_keys}
use Rattle.tbl_layout.specs.declared.bars.Bars.{Bars}
use Rattle.tbl_layout.specs.declared.columns.Column.{Column}
use Rattle.tbl_layout.specs.declared.entry.Entry.{Entry}
use Rattle.tbl_layout.specs.declared.entry.EntryKind.{EntryKind}
use Rattle.tbl_layout.specs.declared.entry.EntryKind.TheVariants.{Above, Block, Repeated, Ruled, Short, Split, Text}
use Rattle.tbl_lines.specs.LinesLeft.{Shown, shown_cell}
use Rattle.tbl_lines.specs.PictureLines.{Cell, at_column, bars_between, end_of, line_of, with_fronts, written}
use Rattle.tbl_lines.specs.RowsLeft.{cell_left, cell_of_front, end_by, first_of, from_line, key_of, row_columns}
use Rattle.tbl_lines.specs.RowsLent.{fronts_of}
use Rattle.tbl_lines.specs.RowsWalked.{AreNarrow, PlacesLie}
use Rattle.tbl_lines.specs.declared.fronts.Front.{Front}
use Rattle.tbl_lines.specs.declared.row_columns.RowColumn.{RowColumn}
use Rattle.tbl_lines.proofs.FrontCells.{map-fronts}
use Rattle.tbl_lines.proofs.RowCells.{get-at}
use Rattle.tbl_lines.proofs.RowColumns.{drop-next}
use Rattle.tbl_options.specs.declared.options.Boxing.{Boxing}
use Rattle.tbl_text.specs.declared.block_parts.BlockPlace.{BlockPlace}
use Rattle.tbl_line_cells.specs.LaidCells.{EndsItself, on_line, row_column, runs_at}
use Rattle.tbl_line_cells.specs.LinesDrawn.{AreDrawn, AreSingle, CutSoFar, Draws, KeptLine, as_row, if_any, laid_keys, laid_row}
use Rattle.tbl_line_cells.specs.declared.laid_cells.LaidCell.{LaidCell}

abbrev pub columns_in : List LaidCell → List Column
columns_in cells = map (λ (c : LaidCell). c.column) cells

abbrev keys_in : List LaidCell → List Key
keys_in cells = map (λ (c : LaidCell). c.key) cells

abbrev pub entries_in : List LaidCell → List Entry
entries_in cells = map (λ (c : LaidCell). c.entry) cells

abbrev pub places_in : List LaidCell → List BlockPlace
places_in cells = map (λ (c : LaidCell). c.place) cells

-- its keys
single-keys : (from : ℕ) (cells : List LaidCell) → AreSingle from (laid_keys from cells)
single-keys from [] = tt
single-keys from (c ∷ cells) = (refl, refl, single-keys (suc from) cells)

length-keys : (from : ℕ) (cells : List LaidCell) → length (laid_keys from cells) ≡ length cells
length-keys from [] = refl
length-keys from (c ∷ cells) = omega (arith, length-keys (suc from) cells)

keys-are : (from : ℕ) (cells : List LaidCell) → map (λ (k : FormatKey). k.key) (laid_keys from cells) ≡ keys_in cells
keys-are from [] = refl
keys-are from (c ∷ cells) = ap (λ (ks : List Key). c.key ∷ ks) (keys-are (suc from) cells)

nothing-left : {A : Type 0} (n : ℕ) (xs : List A) → n ≡ length xs → drop n xs ≡ []
nothing-left zero [] is = refl
nothing-left (suc n) [] is = refl
nothing-left zero (x ∷ xs) is = absurd (omega (arith, is))
nothing-left (suc n) (x ∷ xs) is = nothing-left n xs (omega (arith, is))

-- no key stands behind the last cell
all-filled : (cells : List LaidCell)
    → all_entries (record { keys = laid_keys 0 cells; bars = 0 }) (entries_in cells) ≡ entries_in cells
all-filled cells =
    let entries = entries_in cells in
    let many : length entries ≡ length (laid_keys 0 cells) = length-map cells (λ (c : LaidCell). c.entry) ∙ sym (length-keys 0 cells) in
    ap (λ (ks : List FormatKey). entries ++ under_keys said_by_key no_entry ks) (nothing-left (length entries) (laid_keys 0 cells) many)
    ∙ append-nil entries

-- what holds of each cell
lie-all : (bytes : List ℕ) (cells : List LaidCell) (done : List Shown) → AreDrawn bytes cells done → AllByRecursion (Lies bytes) (entries_in cells)
lie-all bytes [] done all = tt
lie-all bytes (c ∷ cells) [] all = absurd all
lie-all bytes (c ∷ cells) (s ∷ done) all = (all.0.lies, lie-all bytes cells done all.1)

places-all : (bytes : List ℕ) (cells : List LaidCell) (done : List Shown) → AreDrawn bytes cells done
    → PlacesLie bytes (entries_in cells) (places_in cells)
places-all bytes [] done all = tt
places-all bytes (c ∷ cells) [] all = absurd all
places-all bytes (c ∷ cells) (s ∷ done) all = (all.0.within, places-all bytes cells done all.1)

narrow-all : (bytes : List ℕ) (cells : List LaidCell) (done : List Shown) → AreDrawn bytes cells done → AreNarrow (columns_in cells)
narrow-all bytes [] done all = tt
narrow-all bytes (c ∷ cells) [] all = absurd all
narrow-all bytes (c ∷ cells) (s ∷ done) all = (all.0.narrow, narrow-all bytes cells done all.1)

-- the cells of the row
no-end : (k : EntryKind) (bars : ℕ) (c : Column) (columns : List Column) (entries : List Entry) → EndsItself k
    → end_by bars k c columns entries ≡ 0
no-end (Text glyphs width) bars c columns entries ends = refl
no-end (Split s) bars c columns entries ends = refl
no-end (Block b) bars c columns entries ends = refl
no-end (Ruled sign) bars c columns entries ends = absurd ends
no-end Short bars c columns entries ends = refl
no-end (Repeated b) bars c columns entries ends = refl
no-end Above bars c columns entries ends = refl

cells-are : (bytes : List ℕ) (boxing : Boxing) (format : FormatRow) (column : ℕ) (cells : List LaidCell) (done : List Shown)
    → AreDrawn bytes cells done
    → drop column (map (λ (k : FormatKey). k.key) format.keys) ≡ keys_in cells
    → row_columns boxing format column (columns_in cells) (entries_in cells) (places_in cells) ≡ map row_column cells
cells-are bytes boxing format column [] done all keys = refl
cells-are bytes boxing format column (c ∷ cells) [] all keys = absurd all
cells-are bytes boxing format column (c ∷ cells) (s ∷ done) all keys =
    let own = map (λ (k : FormatKey). k.key) format.keys in
    let cell : Key → ℕ → RowColumn = λ key end. record { column = c.column; key = key; entry = c.entry; place = c.place; end = end } in
    let rest = row_columns boxing format (suc column) (columns_in cells) (entries_in cells) (places_in cells) in
    let key : key_of format.keys column ≡ c.key = get-at column own c.key (keys_in cells) Left keys in
    let end = no-end c.entry.kind (bars_between boxing format (suc column)) c.column (columns_in cells) (entries_in cells) all.0.ends in
    ap (λ (n : ℕ). cell (key_of format.keys column) n ∷ rest) end
    ∙ ap (λ (k : Key). cell k 0 ∷ rest) key
    ∙ ap (λ (rs : List RowColumn). row_column c ∷ rs)
    (cells-are bytes boxing format (suc column) cells done all.1 (drop-next column own c.key (keys_in cells) keys))

-- what they show
shown-all : (bytes : List ℕ) (cells : List LaidCell) (done : List Shown) → AreDrawn bytes cells done
    → map on_line (map (cell_left bytes 0) (map row_column cells)) ≡ map on_line (map shown_cell done)
shown-all bytes [] [] all = refl
shown-all bytes [] (s ∷ done) all = absurd all
shown-all bytes (c ∷ cells) [] all = absurd all
shown-all bytes (c ∷ cells) (s ∷ done) all =
    ap (λ (d : Cell). d ∷ map on_line (map (cell_left bytes 0) (map row_column cells))) all.0.shows
    ∙ ap (λ (ds : List Cell). on_line (shown_cell s) ∷ ds) (shown-all bytes cells done all.1)

-- a line is what is on it
one-written : (runs : List Run) (at place : ℕ) (cells others : List Cell) → ((p : ℕ) → written 0 p cells ≡ written 0 p others)
    → at_column at place runs ++ written 0 (end_of at place runs) cells ≡ written 0 place (runs_at runs at ∷ others)
one-written [] at place cells others same = same place
one-written (run ∷ runs) at place cells others same =
    ap (λ (rest : List Run). at_column at place (run ∷ runs) ++ rest) (same (end_of at place (run ∷ runs)))

on-written : (place : ℕ) (cells : List Cell) → written 0 place cells ≡ written 0 place (map on_line cells)
on-written place [] = refl
on-written place (c ∷ cells) = one-written (first_of c) c.at place cells (map on_line cells) (λ p. on-written p cells)

same-line : (cells others : List Cell) → map on_line cells ≡ map on_line others → line_of 0 cells ≡ line_of 0 others
same-line cells others same =
    ap (λ (runs : List Run). codes "\\&" ++ (up_to_last_glyph runs ++ newline ∷ []))
    (on-written 0 cells ∙ ap (written 0 0) same ∙ sym (on-written 0 others))

same-behind : (fronts cells others shows : List Cell) → map on_line fronts ≡ map on_line others → map on_line cells ≡ map on_line shows
    → map on_line (with_fronts fronts cells) ≡ map on_line (with_fronts others shows)
same-behind fronts cells others shows front same =
    map-fronts on_line fronts cells
    ∙ ap (λ (fs : List Cell). with_fronts fs (map on_line cells)) front
    ∙ ap (with_fronts (map on_line others)) same
    ∙ sym (map-fronts on_line others shows)

-- what stands in front of them
fronts-each : (fronts : List Front)
    → map on_line (map (from_line 0) (map cell_of_front fronts)) ≡ map (λ (f : Front). on_line (cell_of_front f)) fronts
fronts-each [] = refl
fronts-each (f ∷ fronts) = ap (λ (ds : List Cell). on_line (cell_of_front f) ∷ ds) (fronts-each fronts)

fronts-all : (any : Bool) (fronts : List Front) (cells : List Cell) → map (λ (f : Front). on_line (cell_of_front f)) fronts ≡ map on_line cells
    → map on_line (map (from_line 0) (if any then map cell_of_front fronts else [])) ≡ map on_line (if any then cells else [])
fronts-all true fronts cells same = fronts-each fronts ∙ same
fronts-all false fronts cells same = refl

-- the line can be given, and is what its cells show behind what stands in front of them
pub row-draws : (bytes : List ℕ) (bars : Bars) (width : ℕ) (line : KeptLine) (done : List Shown) (fronts : List Cell) → CutSoFar bytes line done fronts
    → length line.fronts ≡ suc (max 1 (length line.cells)) → length line.cells < 4294967296
    → Draws bytes bars width (as_row line) (line_of 0 (with_fronts (if_any bars fronts) (map shown_cell done)))
row-draws bytes bars width line done fronts so_far many few =
    let cells = line.cells in
    let columns_many = length-map cells (λ (c : LaidCell). c.column) in
    let format : FormatRow = record { keys = laid_keys 0 cells; bars = 0 } in
    let row = row_columns bars.boxing format 0 (columns_in cells) (entries_in cells) (places_in cells) in
    record {
      keys = single-keys 0 cells;
      filled = all-filled cells;
      as_many_keys = length-keys 0 cells ∙ sym columns_many;
      as_many_entries = length-map cells (λ (c : LaidCell). c.entry) ∙ sym columns_many;
      lie = lie-all bytes cells done so_far.cells;
      places = places-all bytes cells done so_far.cells;
      narrow = narrow-all bytes cells done so_far.cells;
      few = omega (arith, few, columns_many);
      fronts = record { count = many ∙ ap (λ (n : ℕ). suc (max 1 n)) (sym columns_many); some = so_far.front.some };
      text =
          same-line (with_fronts (fronts_of (laid_row bytes bars width (as_row line)) 0) (map (cell_left bytes 0) row))
          (with_fronts (if_any bars fronts) (map shown_cell done))
          (same-behind (fronts_of (laid_row bytes bars width (as_row line)) 0) (map (cell_left bytes 0) row) (if_any bars fronts)
          (map shown_cell done) (fronts-all bars.has_any line.fronts fronts so_far.front.in_front)
          (ap (λ (rs : List RowColumn). map on_line (map (cell_left bytes 0) rs))
          (cells-are bytes bars.boxing format 0 cells done so_far.cells (keys-are 0 cells))
          ∙ shown-all bytes cells done so_far.cells));
    }

-- all cells are in the row
no-cells : {A : Type 0} (n : ℕ) (xs : List A) → length xs ≤ n → drop n xs ≡ []
no-cells zero [] few = refl
no-cells (suc n) [] few = refl
no-cells zero (x ∷ xs) few = absurd (omega (arith, few))
no-cells (suc n) (x ∷ xs) few = no-cells n xs (omega (arith, few))

whole : {A : Type 0} (f : List LaidCell → List A) (xs all : List A) (at : ℕ) (cells : List LaidCell) → length cells ≤ at → f [] ≡ []
    → xs ++ f (drop at cells) ≡ all → xs ≡ all
whole f xs all at cells few none is =
    sym (append-nil xs)
    ∙ ap (λ (ys : List _). xs ++ ys) (sym none)
    ∙ ap (λ (cs : List LaidCell). xs ++ f cs) (sym (no-cells at cells few))
    ∙ is

pub row-filled : (old : KeptLine) (columns : List Column) (keys : List FormatKey) (entries : List Entry) (places : List BlockPlace) (at : ℕ)
    → length old.cells ≤ at → columns ++ columns_in (drop at old.cells) ≡ columns_in old.cells
    → keys ++ laid_keys at (drop at old.cells) ≡ laid_keys 0 old.cells → entries ++ entries_in (drop at old.cells) ≡ entries_in old.cells
    → places ++ places_in (drop at old.cells) ≡ places_in old.cells
    → record old { columns = columns; keys = keys; entries = entries; places = places } ≡ as_row old
row-filled old columns keys entries places at few columns_are keys_are entries_are places_are =
    let cells = old.cells in
    let row : List Column → List FormatKey → List Entry → List BlockPlace → KeptLine
    = λ cs ks es ps. record old { columns = cs; keys = ks; entries = es; places = ps } in
    ap (λ (cs : List Column). row cs keys entries places) (whole columns_in columns (columns_in cells) at cells few refl columns_are)
    ∙ ap (λ (ks : List FormatKey). row (columns_in cells) ks entries places)
    (whole (laid_keys at) keys (laid_keys 0 cells) at cells few refl keys_are)
    ∙ ap (λ (es : List Entry). row (columns_in cells) (laid_keys 0 cells) es places)
    (whole entries_in entries (entries_in cells) at cells few refl entries_are)
    ∙ ap (λ (ps : List BlockPlace). row (columns_in cells) (laid_keys 0 cells) (entries_in cells) ps)
    (whole places_in places (places_in cells) at cells few refl places_are)
