-- The lines of a row of which no cell goes on with one above it or below it: it has a key for each of its cells.
use Rattle.std.proofs.Common.{◌≡◌, ℕ, zero, suc, ◌+◌, ◌-◌, ◌<◌, ◌≤◌, nat_lt, Bool, true, false, List, [], ◌∷◌, ◌++◌, length, take, drop, get_or, map, Option, None, refl, sym, ap, subst, ◌∙◌, arith, if◌then◌else◌, length-append, length-drop, ltb-false, ltb-true, append-nil}
use Rattle.tbl_format.specs.Cells.{AreCells, by_cells}
use Rattle.tbl_format.specs.Format.{FormatRow, columns_of_keys}
use Rattle.tbl_format.specs.FormatRows.{AreWithin}
use Rattle.tbl_format.specs.declared.format.FormatKey.{FormatKey}
use Rattle.tbl_format.specs.declared.format.Key.{Key}
use Rattle.tbl_format.specs.declared.format.Key.TheVariants.{Left as LeftKey}
use Rattle.tbl_format.proofs.CellColumns.{columns_behind, columns_of-behind}
use Rattle.tbl_layout.specs.Entries.{Above, Block, Content, Element, Repeated, Ruled, Short, Text, field_at, key_at}
use Rattle.tbl_layout.specs.Heights.{cell_above}
use Rattle.tbl_layout.specs.Spans.{as_one, cells_of}
use Rattle.tbl_layout.specs.Widths.{edge_bars, inner_bars}
use Rattle.tbl_layout.specs.declared.columns.Column.{Column}
use Rattle.tbl_options.specs.declared.options.Boxing.{Boxing}
use Rattle.tbl_lines.specs.CellsLeft.{Left, all_keys, bars_at_end, begun, cell_by, cells_from as left_from, keys_behind, lines_over}
use Rattle.tbl_lines.specs.PictureLeft.{row_lines}
use Rattle.tbl_lines.specs.PictureLines.{Cell, Sheet, all_between, bars_at, bars_between, bars_by, bars_of, cell_of, cells_from, fronts, joined_sign, lines_from, right_bars, row_cells, with_fronts}
use Rattle.tbl_format.specs.FormatLaws.{bars_among}
use Rattle.tbl_lines.specs.RowsAlone.{HaveWidth, alone_at, alone_from}
use Rattle.tbl_lines.proofs.CellsLent.{length-cells_of}
use Rattle.tbl_lines.proofs.PlainLines.{lines-alone}

-- what is said of columns, in the cells of all keys: behind those of the format each cell has one column
singles-behind : {A : Type 0} (m from bars : ℕ) (xs : List A) → length xs ≡ m → by_cells from (keys_behind m bars from) xs ≡ map (λ (x : A). x ∷ []) xs
singles-behind zero from bars [] many = refl
singles-behind zero from bars (x ∷ xs) many = absurd (omega (arith, many))
singles-behind (suc m) from bars [] many = absurd (omega (arith, many))
singles-behind {A = A} (suc m) from bars (x ∷ xs) many =
    let one : from + 1 - from ≡ 1 = omega arith in
    let next : from + 1 ≡ suc from = omega arith in
    let cells : ℕ → ℕ → List (List A) = λ n end. take n (x ∷ xs) ∷ by_cells end (keys_behind m 0 (suc from)) (drop n (x ∷ xs)) in
    ap (λ (n : ℕ). cells n (from + 1)) one
    ∙ ap (cells 1) next
    ∙ ap (λ (rest : List (List A)). (x ∷ []) ∷ rest) (singles-behind m (suc from) 0 xs (omega (arith, many)))

end-behind : (from : ℕ) (keys : List FormatKey) → AreCells from keys → from ≤ columns_behind from keys
end-behind from [] cells = omega arith
end-behind from (k ∷ keys) cells = omega (arith, cells.0, end-behind k.end keys cells.1)

all-behind : {A : Type 0} (from : ℕ) (keys : List FormatKey) (m bars : ℕ) (xs : List A) → AreCells from keys
    → columns_behind from keys + m ≡ from + length xs
    → by_cells from (keys ++ keys_behind m bars (columns_behind from keys)) xs ≡ by_cells from keys xs
all-behind from [] m bars xs cells many = singles-behind m from bars xs (omega (arith, many))
all-behind {A = A} from (k ∷ keys) m bars xs cells many =
    ap (λ (rest : List (List A)). take (k.end - from) xs ∷ rest)
    (all-behind k.end keys m bars (drop (k.end - from) xs) cells.1
    (omega (arith, many, cells.0, length-drop (k.end - from) xs, end-behind k.end keys cells.1)))

pub cells-all : (columns : List Column) (format : FormatRow) → AreWithin (length columns) format.keys
    → cells_of (all_keys (length columns) format) columns ≡ cells_of format.keys columns
cells-all columns format lie =
    let own = columns_of-behind format.keys in
    let m = length columns - columns_of_keys format.keys in
    ap (λ (n : ℕ). map as_one (by_cells 0 (format.keys ++ keys_behind m format.bars n) columns)) own
    ∙ ap (map as_one) (all-behind 0 format.keys m format.bars columns lie.cells (omega (arith, own, lie.short)))

pub length-behind : (m bars column : ℕ) → length (keys_behind m bars column) ≡ m
length-behind zero bars column = refl
length-behind (suc m) bars column = ap suc (length-behind m 0 (suc column))

length-all : (columns : List Column) (format : FormatRow) → AreWithin (length columns) format.keys
    → length (cells_of (all_keys (length columns) format) columns) ≡ length (all_keys (length columns) format)
length-all columns format lie =
    let m = length columns - columns_of_keys format.keys in
    ap length (cells-all columns format lie)
    ∙ length-cells_of format.keys columns lie
    ∙ omega (
      arith,
      length-append format.keys (keys_behind m format.bars (columns_of_keys format.keys)),
      length-behind m format.bars (columns_of_keys format.keys),
    )

-- they say the same of each cell
key-none : (m bars column cell : ℕ) → get_or (map (λ (k : FormatKey). k.key) (keys_behind m bars column)) cell LeftKey ≡ LeftKey
key-none zero bars column cell = refl
key-none (suc m) bars column zero = refl
key-none (suc m) bars column (suc cell) = key-none m 0 (suc column) cell

key-all : (keys : List FormatKey) (m bars column cell : ℕ)
    → get_or (map (λ (k : FormatKey). k.key) (keys ++ keys_behind m bars column)) cell LeftKey
    ≡ get_or (map (λ (k : FormatKey). k.key) keys) cell LeftKey
key-all [] m bars column cell = key-none m bars column cell
key-all (k ∷ keys) m bars column zero = refl
key-all (k ∷ keys) m bars column (suc cell) = key-all keys m bars column cell

bars-none : (m column cell : ℕ) → bars_among (keys_behind m 0 column) 0 cell ≡ 0
bars-none zero column zero = refl
bars-none zero column (suc cell) = refl
bars-none (suc m) column zero = refl
bars-none (suc m) column (suc cell) = bars-none m (suc column) cell

bars-some : (keys : List FormatKey) (m bars column cell : ℕ) → bars_among (keys ++ keys_behind (suc m) bars column) 0 cell ≡ bars_among keys bars cell
bars-some [] m bars column zero = refl
bars-some [] m bars column (suc cell) = bars-none m (suc column) cell
bars-some (k ∷ keys) m bars column zero = refl
bars-some (k ∷ keys) m bars column (suc cell) = bars-some keys m bars column cell

bars-by : (t : Bool) (keys : List FormatKey) (m bars column cell : ℕ) → (t ≡ true → 0 < m) → (t ≡ false → m ≡ 0)
    → bars_among (keys ++ keys_behind m bars column) (if t then 0 else bars) cell ≡ bars_among keys bars cell
bars-by true keys zero bars column cell some none = absurd (omega (arith, some refl))
bars-by true keys (suc m) bars column cell some none = bars-some keys m bars column cell
bars-by false keys zero bars column cell some none = ap (λ (ks : List FormatKey). bars_among ks bars cell) (append-nil keys)
bars-by false keys (suc m) bars column cell some none = absurd (omega (arith, none refl))

-- formats that say the same of each cell have the same cells
module _ (boxing : Boxing) (one other : FormatRow) (fields : List Content) (bars : (cell : ℕ) → bars_of one cell ≡ bars_of other cell)
    (keys : (cell : ℕ) → key_at one cell ≡ key_at other cell) where
  same-cells : (cell : ℕ) (columns : List Column) → cells_from boxing cell columns one fields ≡ cells_from boxing cell columns other fields
  same-cells cell [] = refl
  same-cells cell (c ∷ columns) =
      let f = field_at fields cell in
      let next = field_at fields (suc cell) in
      let rest = cells_from boxing (suc cell) columns one fields in
      ap (λ (n : ℕ). cell_of (inner_bars boxing n) (key_at one cell) c columns next f ∷ rest) (bars (suc cell))
      ∙ ap (λ (key : Key). cell_of (bars_between boxing other (suc cell)) key c columns next f ∷ rest) (keys cell)
      ∙ ap (λ (cells : List Cell). cell_of (bars_between boxing other (suc cell)) (key_at other cell) c columns next f ∷ cells) (same-cells (suc cell) columns)

  same-between : (cell : ℕ) (columns : List Column) → all_between boxing cell columns one fields ≡ all_between boxing cell columns other fields
  same-between cell [] = refl
  same-between cell (c ∷ []) = refl
  same-between cell (c ∷ d ∷ columns) =
      let joined = joined_sign (field_at fields cell) (field_at fields (suc cell)) in
      ap (λ (n : ℕ). bars_by joined (inner_bars boxing n) c d ∷ all_between boxing (suc cell) (d ∷ columns) one fields) (bars (suc cell))
      ∙ ap (λ (cells : List Cell). bars_by joined (bars_between boxing other (suc cell)) c d ∷ cells) (same-between (suc cell) (d ∷ columns))

  same-fronts : (s : Sheet) → s.bars.boxing ≡ boxing → fronts s one fields ≡ fronts s other fields
  same-fronts s is =
      let b = s.bars.boxing in
      let all : ℕ → List Cell → ℕ → List Cell = λ left between right.
      if s.bars.has_any then bars_at 0 (edge_bars b left) ∷ between ++ right_bars s.width (edge_bars b right) ∷ [] else [] in
      ap (λ (n : ℕ). all n (all_between b 0 s.columns one fields) (bars_of one (length s.columns))) (bars 0)
      ∙ ap (λ (between : List Cell). all (bars_of other 0) between (bars_of one (length s.columns)))
      (subst (λ (x : Boxing). all_between x 0 s.columns one fields ≡ all_between x 0 s.columns other fields) (sym is) (same-between 0 s.columns))
      ∙ ap (λ (n : ℕ). all (bars_of other 0) (all_between b 0 s.columns other fields) n) (bars (length s.columns))

-- and have a width, if those of the format do
width-behind : (m bars column : ℕ) → HaveWidth (keys_behind m bars column)
width-behind zero bars column = tt
width-behind (suc m) bars column = (refl, width-behind m 0 (suc column))

pub width-all : (keys : List FormatKey) (m bars column : ℕ) → HaveWidth keys → HaveWidth (keys ++ keys_behind m bars column)
width-all [] m bars column plain = width-behind m bars column
width-all (k ∷ keys) m bars column plain = (plain.0, width-all keys m bars column plain.1)

-- a row with all its keys
module _ (s : Sheet) (format : FormatRow) (fields : List Content) (lie : AreWithin (length s.columns) format.keys) (some : 0 < length s.columns) where
  abbrev pub count : ℕ
  count = length s.columns

  abbrev pub full : FormatRow
  full = record { keys = all_keys count format; bars = bars_at_end count format }

  pub full-bars : (cell : ℕ) → bars_of full cell ≡ bars_of format cell
  full-bars cell =
      bars-by (nat_lt (columns_of_keys format.keys) count) format.keys (count - columns_of_keys format.keys) format.bars (columns_of_keys format.keys) cell
      (λ is. omega (arith, ltb-true (columns_of_keys format.keys) count is))
      (λ is. omega (arith, ltb-false (columns_of_keys format.keys) count is))

  full-keys : (cell : ℕ) → key_at full cell ≡ key_at format cell
  full-keys cell = key-all format.keys (count - columns_of_keys format.keys) format.bars (columns_of_keys format.keys) cell

  full-cells : row_cells s full fields ≡ row_cells s format fields
  full-cells =
      let boxing = s.bars.boxing in
      let columns = cells_of format.keys s.columns in
      let by : List Column → List Cell = λ cs. with_fronts (fronts (record s { columns = cs }) full fields) (cells_from boxing 0 cs full fields) in
      let row : Sheet = record s { columns = columns } in
      ap by (cells-all s.columns format lie)
      ∙ ap (λ (fs : List Cell). with_fronts fs (cells_from boxing 0 columns full fields))
      (same-fronts boxing full format fields full-bars full-keys row refl)
      ∙ ap (with_fronts (fronts row format fields)) (same-cells boxing full format fields full-bars full-keys 0 columns)

  by-keys : (keys : List FormatKey) → HaveWidth keys → all_keys count format ≡ keys → (lines line : ℕ)
      → row_lines s (bars_at_end count format) lines (alone_from line 0 keys fields)
      ≡ lines_from line lines (row_cells s (record { keys = keys; bars = bars_at_end count format }) fields)
  by-keys [] plain is lines line =
      let none : length (all_keys count format) ≡ 0 = ap length is in
      absurd (omega (
        arith,
        none,
        some,
        lie.short,
        ap length (cells-all s.columns format lie),
        length-all s.columns format lie,
        length-cells_of format.keys s.columns lie,
        ap columns_of_keys (no-keys format.keys (keys_behind (count - columns_of_keys format.keys) format.bars (columns_of_keys format.keys)) is),
      )) where
        no-keys : (xs ys : List FormatKey) → xs ++ ys ≡ [] → xs ≡ []
        no-keys [] ys is = refl
        no-keys (x ∷ xs) ys is = absurd (cc)
  by-keys (k ∷ keys) plain is lines line =
      lines-alone s k keys (bars_at_end count format) fields plain
      (subst (λ (ks : List FormatKey). length (cells_of ks s.columns) ≡ length ks) is (length-all s.columns format lie)) lines line

  pub row-alone : HaveWidth format.keys → (lines line : ℕ) → row_lines s (bars_at_end count format) lines (alone_from line 0 (all_keys count format) fields)
      ≡ lines_from line lines (row_cells s format fields)
  row-alone plain lines line =
      by-keys (all_keys count format) (width-all format.keys (count - columns_of_keys format.keys) format.bars (columns_of_keys format.keys) plain) refl lines line ∙ ap (lines_from line lines) full-cells

-- the cells of a row of which none goes on with one above, and none of the next row with one of its own
alone-begun : (k : FormatKey) (f : Content) (height : ℕ) → begun k f height 0 ≡ alone_at 0 k f
alone-begun k (Text bytes) height = refl
alone-begun k (Block measure lines) height = refl
alone-begun k (Ruled sign) height = refl
alone-begun k Short height = refl
alone-begun k (Repeated b) height = refl
alone-begun k Above height = refl

pub cells-alone : (keys : List FormatKey) (above : List Left) (heights : List ℕ) (elements : List Element) (format : FormatRow) (fields : List Content)
    → ((cell : ℕ) → cell_above keys format.keys fields cell ≡ None) → ((cell : ℕ) → lines_over format.keys cell 0 (drop 1 heights) elements ≡ 0)
    → (cell : ℕ) (own : List FormatKey) → left_from keys above heights elements format fields cell own ≡ alone_from 0 cell own fields
cells-alone keys above heights elements format fields up down cell [] = refl
cells-alone keys above heights elements format fields up down cell (k ∷ own) =
    let f = field_at fields cell in
    let height = get_or heights 0 0 in
    let rest = left_from keys above heights elements format fields (suc cell) own in
    ap (λ (o : Option ℕ). cell_by o above (begun k f height (lines_over format.keys cell 0 (drop 1 heights) elements)) ∷ rest) (up cell)
    ∙ ap (λ (more : ℕ). begun k f height more ∷ rest) (down cell)
    ∙ ap (λ (c : Left). c ∷ rest) (alone-begun k f height)
    ∙ ap (λ (cells : List Left). alone_at 0 k f ∷ cells) (cells-alone keys above heights elements format fields up down (suc cell) own)
