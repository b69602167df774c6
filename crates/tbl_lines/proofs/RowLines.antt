-- The lines of a row that begins are those of its fields in the table.
use Rattle.std.proofs.Common.{◌≡◌, ℕ, zero, suc, ◌+◌, ◌-◌, ◌≤◌, max, Bool, true, false, List, [], ◌∷◌, ◌++◌, length, drop, get_or, map, codes, Option, Some, None, refl, sym, ap, ◌∙◌, arith, if◌then◌else◌, drop-drop}
use Rattle.std.specs.List.{AllByRecursion}
use Rattle.std.proofs.lemmas.List.{drop-map}
use Rattle.tbl_format.specs.Format.{FormatRow}
use Rattle.tbl_kept.specs.Rows.{AreLaid, RowLaid, fields_of, height_of}
use Rattle.tbl_format.specs.RowsServed.{row_at}
use Rattle.tbl_layout.specs.Columns.{greatest}
use Rattle.tbl_layout.specs.Entries.{Content, field_at, up_to_last_glyph, Run, Text, key_at}
use Rattle.tbl_layout.specs.KeptEntries.{IsLaid, all_entries, content_by, content_of, lines_by}
use Rattle.tbl_layout.specs.declared.columns.Column.{Column}
use Rattle.tbl_layout.specs.declared.entry.Entry.{Entry}
use Rattle.tbl_layout.specs.declared.entry.EntryKind.{EntryKind}
use Rattle.tbl_layout.specs.declared.entry.EntryKind.TheVariants.{Above as AboveKind, Block as BlockKind, Repeated as RepeatedKind, Ruled as RuledKind, Short as ShortKind, Split as SplitKind, Text as TextKind}
use Rattle.tbl_options.specs.declared.options.Boxing.{Boxing}
use Rattle.tbl_layout.specs.declared.bars.Bars.{Bars}
use Rattle.tbl_lines.specs.PictureLines.{Cell, all_between, at_column, bars_at, bars_at_edge, bars_between, bars_by, cell_of, cells_from, end_of, fronts, height as row_height, joined_sign, joint, line_of, lines_from, right_bars, row_cells, rule_end, with_fronts, written}
use Rattle.tbl_lines.specs.RowsLeft.{all_between_by, cell_left, from_line, fronts_by, joined_first, joined_kinds, row_columns, rule_end_by}
use Rattle.tbl_lines.specs.RowsLent.{WalkedRow, first_place, fronts_of, line_cells, walked}
use Rattle.tbl_layout.specs.declared.data_lines.RuleSign.{RuleSign}
use Rattle.input_source.specs.Bytes.{newline}
use Rattle.tbl_lines.proofs.AllEntries.{fields-all}
use Rattle.tbl_kept.proofs.AllLaid.{all-high, all-laid, all-short}
use Rattle.tbl_lines.proofs.CellsLent.{length-cells_of}
use Rattle.tbl_lines.proofs.RowColumns.{drop-next}
use Rattle.tbl_lines.proofs.RowCells.{CellSame, cell-same, drop-past, get-at, get-past, ruled-same}

-- the same cells, and behind them such as have no line
abbrev SameLines : List Cell → List Cell → Type 0
SameLines [] [] = Unit {0}
SameLines [] (d ∷ ds) = ⊥
SameLines (c ∷ cs) [] = (c.lines ≡ []) × (c.below ≡ []) × SameLines cs []
SameLines (c ∷ cs) (d ∷ ds) = (c ≡ d) × SameLines cs ds

-- nothing stands on them
written-none : (line place : ℕ) (c : Cell) (cells : List Cell) → c.lines ≡ [] → c.below ≡ [] → written line place (c ∷ cells) ≡ written line place cells
written-none line place c cells none none_below =
    let f : List (List Run) → List Run → List Run = λ lines below. let text = get_or lines line below in at_column c.at place text ++ written line (end_of c.at place text) cells in
    ap (λ (lines : List (List Run)). f lines c.below) none ∙ ap (f []) none_below

-- cells behind the same one
written-first : (line place : ℕ) (c : Cell) (cs ds : List Cell) → ((p : ℕ) → written line p cs ≡ written line p ds)
    → written line place (c ∷ cs) ≡ written line place (c ∷ ds)
written-first line place c cs ds same =
    let text = get_or c.lines line c.below in
    ap (λ (rest : List Run). at_column c.at place text ++ rest) (same (end_of c.at place text))

-- and with what stands in front of them
written-same : (fs cs ds : List Cell) → SameLines cs ds → (line place : ℕ) → written line place (with_fronts fs cs) ≡ written line place (with_fronts fs ds)
written-same [] [] [] same line place = refl
written-same [] [] (d ∷ ds) same line place = absurd same
written-same [] (c ∷ cs) [] same line place = written-none line place c cs same.0 same.1 ∙ written-same [] cs [] same.2 line place
written-same [] (c ∷ cs) (d ∷ ds) same line place =
    written-first line place c cs ds (written-same [] cs ds same.1 line)
    ∙ ap (λ (x : Cell). written line place (x ∷ ds)) same.0
written-same (f ∷ fs) [] [] same line place = refl
written-same (f ∷ fs) [] (d ∷ ds) same line place = absurd same
written-same (f ∷ fs) (c ∷ cs) [] same line place =
    written-first line place f (c ∷ with_fronts fs cs) (with_fronts fs [])
    (λ (p : ℕ). written-none line p c (with_fronts fs cs) same.0 same.1 ∙ written-same fs cs [] same.2 line p)
written-same (f ∷ fs) (c ∷ cs) (d ∷ ds) same line place =
    written-first line place f (c ∷ with_fronts fs cs) (c ∷ with_fronts fs ds)
    (λ (p : ℕ). written-first line p c (with_fronts fs cs) (with_fronts fs ds) (written-same fs cs ds same.1 line))
    ∙ ap (λ (x : Cell). written line place (f ∷ x ∷ with_fronts fs ds)) same.0

lines-same : (line count : ℕ) (cs ds : List Cell) → ((n place : ℕ) → written n place cs ≡ written n place ds)
    → lines_from line count cs ≡ lines_from line count ds
lines-same line zero cs ds same = refl
lines-same line (suc count) cs ds same =
    ap (λ (runs : List Run). (codes "\\&" ++ (up_to_last_glyph runs ++ newline ∷ [])) ++ lines_from (suc line) count cs) (same line 0)
    ∙ ap (λ (rest : List ℕ). line_of line ds ++ rest) (lines-same (suc line) count cs ds same)

highest-same : (cs ds : List Cell) → SameLines cs ds → greatest (map (λ c. length c.lines) cs) ≡ greatest (map (λ c. length c.lines) ds)
highest-same [] [] same = refl
highest-same [] (d ∷ ds) same = absurd same
highest-same (c ∷ cs) [] same =
    let none : length c.lines ≡ 0 = ap length same.0 in omega (arith, none, highest-same cs [] same.2)
highest-same (c ∷ cs) (d ∷ ds) same =
    let one : length c.lines ≡ length d.lines = ap (λ (x : Cell). length x.lines) same.0 in omega (arith, one, highest-same cs ds same.1)

-- what stands in front of cells makes no row higher
abbrev AreLow : List Cell → Type 0
AreLow fronts = AllByRecursion (λ f. length f.lines ≤ 1) fronts

highest-fronts : (fs cs : List Cell) → AreLow fs
    → max 1 (greatest (map (λ c. length c.lines) (with_fronts fs cs))) ≡ max 1 (greatest (map (λ c. length c.lines) cs))
highest-fronts [] cs low = refl
highest-fronts (f ∷ fs) [] low = omega (arith, low.0, highest-fronts fs [] low.1)
highest-fronts (f ∷ fs) (c ∷ cs) low = omega (arith, low.0, highest-fronts fs cs low.1)

bars-low : (n at : ℕ) → length (bars_at at n).lines ≤ 1
bars-low zero at = omega arith
bars-low (suc n) at = omega arith

between-low : (sign : Option RuleSign) (n : ℕ) (c d : Column) → length (bars_by sign n c d).lines ≤ 1
between-low sign zero c d = omega arith
between-low None (suc n) c d = omega arith
between-low (Some sign) (suc n) c d = omega arith

all-low : (b : Boxing) (format : FormatRow) (k n at : ℕ) (columns : List Column) (entries : List Entry)
    → AreLow (all_between_by b format k columns entries ++ bars_at at n ∷ [])
all-low b format k n at [] entries = (bars-low n at, tt)
all-low b format k n at (c ∷ []) entries = (bars-low n at, tt)
all-low b format k n at (c ∷ d ∷ columns) entries =
    (between-low (joined_first entries) (bars_between b format (suc k)) c d, all-low b format (suc k) n at (d ∷ columns) (drop 1 entries))

low-if : (t : Bool) (fs : List Cell) → AreLow fs → AreLow (if t then fs else [])
low-if true fs low = low
low-if false fs low = tt

fronts-low : (bars : Bars) (width : ℕ) (format : FormatRow) (columns : List Column) (entries : List Entry)
    → AreLow (fronts_by bars width format columns entries)
fronts-low bars width format columns entries =
    let b = bars.boxing in
    let left = bars_at_edge b format 0 in
    let right = bars_at_edge b format (length columns) in
    low-if bars.has_any (bars_at 0 left ∷ all_between_by b format 0 columns entries ++ right_bars width right ∷ [])
    (bars-low left 0, all-low b format 0 right (width - right) columns entries)

-- from its first line on
from-first : (cells : List Cell) → map (from_line 0) cells ≡ cells
from-first [] = refl
from-first (c ∷ cells) = ap (λ (ds : List Cell). c ∷ ds) (from-first cells)

-- whether two fields are the same rule
joined-last : (k : EntryKind) (bytes : List ℕ) (from to : ℕ) → joined_sign (content_by k bytes from to) (Text []) ≡ None
joined-last (TextKind glyphs width) bytes from to = refl
joined-last (SplitKind s) bytes from to = refl
joined-last (BlockKind b) bytes from to = refl
joined-last (RuledKind other) bytes from to = refl
joined-last ShortKind bytes from to = refl
joined-last (RepeatedKind b) bytes from to = refl
joined-last AboveKind bytes from to = refl

joined-two : (k : EntryKind) (bytes : List ℕ) (e f : Entry) → joined_sign (content_by k bytes e.from e.to) (content_of bytes f) ≡ joined_kinds k f.kind
joined-two (TextKind glyphs width) bytes e f = refl
joined-two (SplitKind s) bytes e f = refl
joined-two (BlockKind b) bytes e f = refl
joined-two (RuledKind sign) bytes e f = ap (λ (t : Bool). if t then Some sign else None) (ruled-same sign f.kind bytes f.from f.to)
joined-two ShortKind bytes e f = refl
joined-two (RepeatedKind b) bytes e f = refl
joined-two AboveKind bytes e f = refl

module _ (boxing : Boxing) (bytes : List ℕ) (format : FormatRow) (all_entries : List Entry) where
  abbrev fields : List Content
  fields = map (content_of bytes) all_entries

  past-same : (cell : ℕ) (columns : List Column) → drop cell all_entries ≡ [] → SameLines (cells_from boxing cell columns format fields) []
  past-same cell [] past = tt
  past-same cell (c ∷ columns) past =
      let none : field_at fields cell ≡ Text [] =
      get-past cell fields (Text []) (drop-map (content_of bytes) cell all_entries ∙ ap (map (content_of bytes)) past) in (
        ap (λ (f : Content). (cell_of (bars_between boxing format (suc cell)) (key_at format cell) c columns (field_at fields (suc cell)) f).lines) none,
        ap (λ (f : Content). (cell_of (bars_between boxing format (suc cell)) (key_at format cell) c columns (field_at fields (suc cell)) f).below) none,
        past-same (suc cell) columns (drop-past cell all_entries past),
      )

  -- a field of the row, and where a rule ends in front of it
  content-at : (cell : ℕ) (e : Entry) (entries : List Entry) → drop cell all_entries ≡ e ∷ entries → field_at fields cell ≡ content_of bytes e
  content-at cell e entries at =
      get-at cell fields (content_of bytes e) (map (content_of bytes) entries) (Text [])
      (drop-map (content_of bytes) cell all_entries ∙ ap (map (content_of bytes)) at)

  ends-same : (bars cell : ℕ) (c : Column) (columns : List Column) (entries : List Entry) → drop cell all_entries ≡ entries
      → (sign : RuleSign) → rule_end bars sign c columns (field_at fields cell) ≡ rule_end_by bars sign c columns entries
  ends-same bars cell c [] entries at sign = refl
  ends-same bars cell c (d ∷ columns) [] at sign =
      ap (rule_end bars sign c (d ∷ columns))
      (get-past cell fields (Text []) (drop-map (content_of bytes) cell all_entries ∙ ap (map (content_of bytes)) at))
  ends-same bars cell c (d ∷ columns) (e ∷ entries) at sign =
      ap (rule_end bars sign c (d ∷ columns)) (content-at cell e entries at)
      ∙ ap (λ (t : Bool). if t then joint bars c d else c.start + c.width) (ruled-same sign e.kind bytes e.from e.to)

  field-at : (cell : ℕ) (c : Column) (columns : List Column) (e : Entry) (entries : List Entry)
      → drop (suc cell) all_entries ≡ entries → IsLaid bytes (key_at format cell) e
      → CellSame (bars_between boxing format (suc cell)) bytes c columns (key_at format cell) e (field_at fields (suc cell)) entries
  field-at cell c columns e entries behind laid =
      cell-same (bars_between boxing format (suc cell)) bytes c columns (key_at format cell) e (field_at fields (suc cell)) entries e.kind refl laid
      (ends-same (bars_between boxing format (suc cell)) (suc cell) c columns entries behind)

  cells-same : (cell : ℕ) (columns : List Column) (entries : List Entry) → drop cell all_entries ≡ entries
      → length entries ≤ length columns → AreLaid bytes format cell entries
      → SameLines (cells_from boxing cell columns format fields) (map (cell_left bytes 0) (row_columns boxing format cell columns entries (map first_place entries)))
  cells-same cell [] [] at_entries short laid = tt
  cells-same cell [] (e ∷ entries) at_entries short laid = absurd (omega (arith, short))
  cells-same cell (c ∷ columns) [] at_entries short laid = past-same cell (c ∷ columns) at_entries
  cells-same cell (c ∷ columns) (e ∷ entries) at_entries short laid =
      let behind = drop-next cell all_entries e entries at_entries in (
        ap (cell_of (bars_between boxing format (suc cell)) (key_at format cell) c columns (field_at fields (suc cell))) (content-at cell e entries at_entries)
            ∙ (field-at cell c columns e entries behind laid.0).cell,
        cells-same (suc cell) columns entries behind (omega (arith, short)) laid.1,
      )

  rows-high : (cell : ℕ) (columns : List Column) (entries : List Entry) → drop cell all_entries ≡ entries
      → length entries ≤ length columns → AreLaid bytes format cell entries
      → max 1 (greatest (map (λ c. length c.lines) (map (cell_left bytes 0) (row_columns boxing format cell columns entries (map first_place entries)))))
      ≡ max 1 (greatest (map (λ e. lines_by e.kind) entries))
  rows-high cell [] [] at_entries short laid = refl
  rows-high cell [] (e ∷ entries) at_entries short laid = absurd (omega (arith, short))
  rows-high cell (c ∷ columns) [] at_entries short laid = refl
  rows-high cell (c ∷ columns) (e ∷ entries) at_entries short laid =
      let behind = drop-next cell all_entries e entries at_entries in
      omega (
        arith,
        (field-at cell c columns e entries behind laid.0).high,
        rows-high (suc cell) columns entries behind (omega (arith, short)) laid.1,
      )

  -- what stands between cells
  joined-same : (cell : ℕ) (entries : List Entry) → drop cell all_entries ≡ entries
      → joined_sign (field_at fields cell) (field_at fields (suc cell)) ≡ joined_first entries
  joined-same cell [] at =
      ap (λ (f : Content). joined_sign f (field_at fields (suc cell)))
      (get-past cell fields (Text []) (drop-map (content_of bytes) cell all_entries ∙ ap (map (content_of bytes)) at))
  joined-same cell (e ∷ []) at =
      let behind = drop-next cell all_entries e [] at in
      ap (λ (f : Content). joined_sign f (field_at fields (suc cell))) (content-at cell e [] at)
      ∙ ap (joined_sign (content_of bytes e))
      (get-past (suc cell) fields (Text []) (drop-map (content_of bytes) (suc cell) all_entries ∙ ap (map (content_of bytes)) behind))
      ∙ joined-last e.kind bytes e.from e.to
  joined-same cell (e ∷ f ∷ entries) at =
      let behind = drop-next cell all_entries e (f ∷ entries) at in
      ap (λ (x : Content). joined_sign x (field_at fields (suc cell))) (content-at cell e (f ∷ entries) at)
      ∙ ap (joined_sign (content_of bytes e)) (content-at (suc cell) f entries behind)
      ∙ joined-two e.kind bytes e f

  all-between-same : (cell : ℕ) (columns : List Column) (entries : List Entry) → drop cell all_entries ≡ entries
      → all_between boxing cell columns format fields ≡ all_between_by boxing format cell columns entries
  all-between-same cell [] entries at = refl
  all-between-same cell (c ∷ []) entries at = refl
  all-between-same cell (c ∷ d ∷ columns) entries at =
      let next : suc cell ≡ cell + 1 = omega arith in
      let behind : drop (suc cell) all_entries ≡ drop 1 entries =
      ap (λ (n : ℕ). drop n all_entries) next ∙ sym (drop-drop 1 cell all_entries) ∙ ap (λ (es : List Entry). drop 1 es) at in
      let bars = bars_between boxing format (suc cell) in
      ap (λ (sign : Option RuleSign). bars_by sign bars c d ∷ all_between boxing (suc cell) (d ∷ columns) format fields) (joined-same cell entries at)
      ∙ ap (λ (xs : List Cell). bars_by (joined_first entries) bars c d ∷ xs) (all-between-same (suc cell) (d ∷ columns) (drop 1 entries) behind)

fronts-same : (bars : Bars) (width : ℕ) (bytes : List ℕ) (format : FormatRow) (columns : List Column) (entries : List Entry)
    → fronts (record { bars = bars; width = width; columns = columns }) format (map (content_of bytes) entries)
    ≡ fronts_by bars width format columns entries
fronts-same bars width bytes format columns entries =
    let b = bars.boxing in
    let all : List Cell → List Cell = λ xs.
    if bars.has_any then bars_at 0 (bars_at_edge b format 0) ∷ xs ++ right_bars width (bars_at_edge b format (length columns)) ∷ [] else [] in
    ap all (all-between-same b bytes format entries 0 columns entries refl)

-- a row that begins: how high it is, and its lines
module _ (bytes : List ℕ) (formats : List FormatRow) (bars : Bars) (width : ℕ) (columns : List Column) (keys rules height : ℕ) (entries : List Entry)
    (laid : RowLaid bytes formats (length columns) keys rules entries) (high : height ≡ height_of entries) where
  abbrev row_now : WalkedRow
  row_now = walked bytes formats bars width columns keys height entries

  abbrev format_now : FormatRow
  format_now = row_at formats keys

  abbrev stand : List Entry
  stand = all_entries format_now entries

  abbrev cells_by : List Content → List Cell
  cells_by fields = row_cells (record { bars = bars; width = width; columns = columns }) format_now fields

  abbrev cells_of_row : List Cell
  cells_of_row = cells_by (map (content_of bytes) stand)

  abbrev cells_of_fields : List Cell
  cells_of_fields = cells_from bars.boxing 0 row_now.columns format_now (map (content_of bytes) stand)

  abbrev fields_of_row : List Cell
  fields_of_row = map (cell_left bytes 0) (row_columns bars.boxing format_now 0 row_now.columns stand (map first_place stand))

  stand-short : length stand ≤ length row_now.columns
  stand-short = omega (arith, all-short format_now entries, laid.short, length-cells_of format_now.keys columns laid.cells)

  stand-laid : AreLaid bytes format_now 0 stand
  stand-laid = all-laid bytes format_now entries laid.laid

  same-cells : cells_by (fields_of bytes format_now entries) ≡ cells_of_row
  same-cells = ap cells_by (fields-all bytes format_now entries)

  same-fields : SameLines cells_of_fields fields_of_row
  same-fields = cells-same bars.boxing bytes format_now stand 0 row_now.columns stand refl stand-short stand-laid

  same-fronts : fronts (record { bars = bars; width = width; columns = row_now.columns }) format_now (map (content_of bytes) stand)
      ≡ fronts_by bars width format_now row_now.columns stand
  same-fronts = fronts-same bars width bytes format_now row_now.columns stand

  stand-high : row_height cells_of_row ≡ height
  stand-high =
      let low = fronts-low bars width format_now row_now.columns stand in
      omega (
        arith,
        high,
        all-high format_now entries,
        ap (λ (fs : List Cell). greatest (map (λ c. length c.lines) (with_fronts fs cells_of_fields))) same-fronts,
        highest-fronts (fronts_by bars width format_now row_now.columns stand) cells_of_fields low,
        highest-same cells_of_fields fields_of_row same-fields,
        rows-high bars.boxing bytes format_now stand 0 row_now.columns stand refl stand-short stand-laid,
      )

  stand-begun : lines_from 0 (row_height cells_of_row) cells_of_row ≡ lines_from 0 (height - 0) (line_cells row_now 0 (map first_place stand))
  stand-begun =
      let high : row_height cells_of_row ≡ height - 0 = omega (arith, stand-high) in
      ap (λ (n : ℕ). lines_from 0 n cells_of_row) high
      ∙ ap (λ (fs : List Cell). lines_from 0 (height - 0) (with_fronts fs cells_of_fields)) (same-fronts ∙ sym (from-first (fronts_by bars width format_now row_now.columns stand)))
      ∙ lines-same 0 (height - 0) (with_fronts (fronts_of row_now 0) cells_of_fields) (line_cells row_now 0 (map first_place stand))
      (written-same (fronts_of row_now 0) cells_of_fields fields_of_row same-fields)

  pub row-high : row_height (cells_by (fields_of bytes format_now entries)) ≡ height
  row-high = ap row_height same-cells ∙ stand-high

  pub lines-begun : (let cells = cells_by (fields_of bytes format_now entries) in
      lines_from 0 (row_height cells) cells ≡ lines_from 0 (height - 0) (line_cells row_now 0 (map first_place stand)))
  lines-begun = ap (λ (cells : List Cell). lines_from 0 (row_height cells) cells) same-cells ∙ stand-begun
