-- The lines of a row of which no cell goes on with one above it or below it, by its keys and its fields.
use Rattle.std.proofs.Common.{◌≡◌, ℕ, zero, suc, ◌+◌, ◌-◌, Bool, true, false, List, [], ◌∷◌, ◌++◌, length, drop, map, codes, Option, Some, None, refl, sym, ap, subst, ◌∙◌, arith, if◌then◌else◌}
use Rattle.std.proofs.lemmas.List.{drop-map}
use Rattle.input_source.specs.Bytes.{newline}
use Rattle.tbl_format.specs.Format.{FormatRow}
use Rattle.tbl_format.specs.declared.format.FormatKey.{FormatKey}
use Rattle.tbl_format.specs.declared.format.Key.{Key}
use Rattle.tbl_format.specs.declared.format.Key.TheVariants.{Left as LeftKey}
use Rattle.tbl_layout.specs.DataLines.{is_same_sign}
use Rattle.tbl_layout.specs.Entries.{Above, Block, Content, Repeated, Ruled, Run, Short, Text, field_at, key_at, up_to_last_glyph}
use Rattle.tbl_layout.specs.Spans.{cells_of}
use Rattle.tbl_layout.specs.Widths.{edge_bars, inner_bars}
use Rattle.tbl_layout.specs.declared.columns.Column.{Column}
use Rattle.tbl_layout.specs.declared.data_lines.RuleSign.{RuleSign}
use Rattle.tbl_options.specs.declared.options.Boxing.{Boxing}
use Rattle.tbl_lines.specs.CellsLeft.{Left, behind_line, own_field}
use Rattle.tbl_lines.specs.LinesLeft.{Shown, bars_there, between, crossed_or_not, end_by, in_order, joined_here, line_by, row_fronts, row_line, row_shown, rule_of, same_sign, shown, shown_cell}
use Rattle.tbl_lines.specs.PictureLeft.{row_lines}
use Rattle.tbl_lines.specs.PictureLines.{Cell, Sheet, all_between, bars_at, bars_at_edge, bars_between, bars_by, cell_of, cells_from, fronts, joined_sign, joint, line_of, lines_from, right_bars, row_cells, rule_end, with_fronts}
use Rattle.tbl_format.specs.FormatLaws.{bars_among}
use Rattle.tbl_lines.specs.RowsAlone.{HaveWidth, alone_at, alone_from}
use Rattle.tbl_lines.proofs.CutLines.{NoneRunOn, all_cut-none, shown-none}
use Rattle.tbl_lines.proofs.PlainRows.{AllSame, AreNew, SameOn, behind-alone, cell-on, fronts-on, new-shown, same-order, same-text, written-on}
use Rattle.tbl_lines.proofs.RowCells.{get-at}
use Rattle.tbl_lines.proofs.RowColumns.{drop-next, drop-none}

-- the bars in front of a key, and behind the last one
bars-at : (keys : List FormatKey) (last cell : ℕ) (k : FormatKey) (rest : List FormatKey) → drop cell keys ≡ k ∷ rest → bars_among keys last cell ≡ k.bars
bars-at [] last cell k rest at = absurd (let none = sym (drop-none cell) ∙ at in cc)
bars-at (x ∷ keys) last zero k rest at =
    let same : x ≡ k = cc in
    ap (λ (one : FormatKey). one.bars) same
bars-at (x ∷ keys) last (suc cell) k rest at = bars-at keys last cell k rest at

pub bars-last : (keys : List FormatKey) (last : ℕ) → bars_among keys last (length keys) ≡ last
bars-last [] last = refl
bars-last (k ∷ keys) last = bars-last keys last

-- the rule that two cells show on a line, both
pub joined-first : (f g : Content) → same_sign (rule_of (own_field f)) (rule_of (own_field g)) ≡ joined_sign f g
joined-first (Text bytes) g = refl
joined-first (Block measure lines) g = refl
joined-first (Ruled sign) (Text bytes) = refl
joined-first (Ruled sign) (Block measure lines) = refl
joined-first (Ruled sign) (Ruled other) = refl
joined-first (Ruled sign) Short = refl
joined-first (Ruled sign) (Repeated b) = refl
joined-first (Ruled sign) Above = refl
joined-first Short g = refl
joined-first (Repeated b) g = refl
joined-first Above g = refl

pub joined-late : (line : ℕ) (k : FormatKey) (f : Content) (other : Left) → joined_here (alone_at (suc line) k f) other ≡ None
joined-late line k (Text bytes) other = refl
joined-late line k (Block measure lines) other = refl
joined-late line k (Ruled sign) other = refl
joined-late line k Short other = refl
joined-late line k (Repeated b) other = refl
joined-late line k Above other = refl

module _ (bars : ℕ) (c d : Column) (columns : List Column) where
  end-if : (t : Bool) (sign : RuleSign) → end_by (if t then Some sign else None) bars c d ≡ (if t then joint bars c d else c.start + c.width)
  end-if true sign = refl
  end-if false sign = refl

  ends-first : (sign : RuleSign) (g : Content) → end_by (same_sign (Some sign) (rule_of (own_field g))) bars c d ≡ rule_end bars sign c (d ∷ columns) g
  ends-first sign (Text bytes) = refl
  ends-first sign (Block measure lines) = refl
  ends-first sign (Ruled other) = end-if (is_same_sign sign other) sign
  ends-first sign Short = refl
  ends-first sign (Repeated b) = refl
  ends-first sign Above = refl

  ends-on : (line : ℕ) (k l : FormatKey) (f g : Content) (sign : RuleSign) → line ≡ 0 → f ≡ Ruled sign
      → end_by (joined_here (alone_at line k f) (alone_at line l g)) bars c d ≡ rule_end bars sign c (d ∷ columns) g
  ends-on line k l f g sign first is =
      ap (λ (n : ℕ). end_by (joined_here (alone_at n k f) (alone_at n l g)) bars c d) first
      ∙ ap (λ (x : Content). end_by (joined_here (alone_at 0 k x) (alone_at 0 l g)) bars c d) is
      ∙ ends-first sign g

  -- bars between two cells
  crossed-first : (joined : Option RuleSign) (n : ℕ) → SameOn 0 (crossed_or_not joined n c d) (bars_by joined n c d)
  crossed-first joined zero = same-text 0 (crossed_or_not joined 0 c d) (bars_by joined 0 c d) refl refl
  crossed-first None (suc n) = same-text 0 (crossed_or_not None (suc n) c d) (bars_by None (suc n) c d) refl refl
  crossed-first (Some sign) (suc n) = same-text 0 (crossed_or_not (Some sign) (suc n) c d) (bars_by (Some sign) (suc n) c d) refl refl

  crossed-late : (line : ℕ) (joined : Option RuleSign) (n : ℕ) → SameOn (suc line) (crossed_or_not None n c d) (bars_by joined n c d)
  crossed-late line joined zero = same-text (suc line) (crossed_or_not None 0 c d) (bars_by joined 0 c d) refl refl
  crossed-late line None (suc n) = same-text (suc line) (crossed_or_not None (suc n) c d) (bars_by None (suc n) c d) refl refl
  crossed-late line (Some sign) (suc n) = same-text (suc line) (crossed_or_not None (suc n) c d) (bars_by (Some sign) (suc n) c d) refl refl

  crossed-on : (line : ℕ) (k l : FormatKey) (f g : Content) (n : ℕ)
      → SameOn line (crossed_or_not (joined_here (alone_at line k f) (alone_at line l g)) n c d) (bars_by (joined_sign f g) n c d)
  crossed-on zero k l f g n =
      subst (λ (joined : Option RuleSign). SameOn 0 (crossed_or_not joined n c d) (bars_by (joined_sign f g) n c d)) (sym (joined-first f g))
      (crossed-first (joined_sign f g) n)
  crossed-on (suc line) k l f g n =
      subst (λ (joined : Option RuleSign). SameOn (suc line) (crossed_or_not joined n c d) (bars_by (joined_sign f g) n c d))
      (sym (joined-late line k f (alone_at (suc line) l g)))
      (crossed-late line (joined_sign f g) n)

edge-on : (line at n : ℕ) → SameOn line (bars_there at n) (bars_at at n)
edge-on line at zero = same-text line (bars_there at 0) (bars_at at 0) refl refl
edge-on line at (suc n) = same-text line (bars_there at (suc n)) (bars_at at (suc n)) refl refl

-- all cells, and what stands in front of them
module _ (boxing : Boxing) (format : FormatRow) (fields : List Content) (line : ℕ) where
  abbrev left : ℕ → List FormatKey → List Left
  left cell keys = alone_from line cell keys fields

  bars-same : (cell : ℕ) (k : FormatKey) (keys : List FormatKey) → drop cell format.keys ≡ k ∷ keys
      → bars_between boxing format cell ≡ inner_bars boxing k.bars
  bars-same cell k keys at = ap (inner_bars boxing) (bars-at format.keys format.bars cell k keys at)

  key-same : (cell : ℕ) (k : FormatKey) (keys : List FormatKey) → drop cell format.keys ≡ k ∷ keys → key_at format cell ≡ k.key
  key-same cell k keys at =
      get-at cell (map (λ (k : FormatKey). k.key) format.keys) k.key (map (λ (k : FormatKey). k.key) keys) LeftKey
      (drop-map (λ (k : FormatKey). k.key) cell format.keys ∙ ap (map (λ (k : FormatKey). k.key)) at)

  first-on : (cell : ℕ) (k : FormatKey) (keys : List FormatKey) (c : Column) (columns : List Column) (end : ℕ) → k.has_no_width ≡ false
      → drop cell format.keys ≡ k ∷ keys
      → ((sign : RuleSign) → line ≡ 0 → field_at fields cell ≡ Ruled sign
      → end ≡ rule_end (bars_between boxing format (suc cell)) sign c columns (field_at fields (suc cell)))
      → SameOn line (shown_cell (shown (alone_at line k (field_at fields cell)) c end))
      (cell_of (bars_between boxing format (suc cell)) (key_at format cell) c columns (field_at fields (suc cell)) (field_at fields cell))
  first-on cell k keys c columns end plain at ends =
      let bars = bars_between boxing format (suc cell) in
      let next = field_at fields (suc cell) in
      subst (λ (key : Key). SameOn line (shown_cell (shown (alone_at line k (field_at fields cell)) c end)) (cell_of bars key c columns next (field_at fields cell)))
      (sym (key-same cell k keys at))
      (cell-on bars k plain c columns next end line (field_at fields cell) ends)

  pub cells-on : (cell : ℕ) (keys : List FormatKey) (columns : List Column) → HaveWidth keys → drop cell format.keys ≡ keys
      → length columns ≡ length keys
      → AllSame line (map shown_cell (row_shown boxing (left cell keys) columns)) (cells_from boxing cell columns format fields)
  cells-on cell [] [] plain at many = tt
  cells-on cell [] (c ∷ columns) plain at many = absurd (omega (arith, many))
  cells-on cell (k ∷ keys) [] plain at many = absurd (omega (arith, many))
  cells-on cell (k ∷ []) (c ∷ []) plain at many = (first-on cell k [] c [] (c.start + c.width) plain.0 at (λ sign first is. refl), tt)
  cells-on cell (k ∷ []) (c ∷ d ∷ columns) plain at many = absurd (omega (arith, many))
  cells-on cell (k ∷ l ∷ keys) (c ∷ []) plain at many = absurd (omega (arith, many))
  cells-on cell (k ∷ l ∷ keys) (c ∷ d ∷ columns) plain at many =
      let behind = drop-next cell format.keys k (l ∷ keys) at in
      let f = field_at fields cell in
      let g = field_at fields (suc cell) in
      let joined = joined_here (alone_at line k f) (alone_at line l g) in (
        first-on cell k (l ∷ keys) c (d ∷ columns) (end_by joined (inner_bars boxing l.bars) c d) plain.0 at
            (λ sign first is.
            ap (λ (n : ℕ). end_by joined n c d) (sym (bars-same (suc cell) l keys behind))
            ∙ ends-on (bars_between boxing format (suc cell)) c d columns line k l f g sign first is),
        cells-on (suc cell) (l ∷ keys) (d ∷ columns) plain.1 behind (omega (arith, many)),
      )

  between-on : (cell : ℕ) (keys : List FormatKey) (columns : List Column) (xs ys : List Cell) → drop cell format.keys ≡ keys
      → length columns ≡ length keys → AllSame line xs ys
      → AllSame line (between boxing (left cell keys) columns ++ xs) (all_between boxing cell columns format fields ++ ys)
  between-on cell [] [] xs ys at many rest = rest
  between-on cell [] (c ∷ columns) xs ys at many rest = absurd (omega (arith, many))
  between-on cell (k ∷ keys) [] xs ys at many rest = absurd (omega (arith, many))
  between-on cell (k ∷ []) (c ∷ []) xs ys at many rest = rest
  between-on cell (k ∷ []) (c ∷ d ∷ columns) xs ys at many rest = absurd (omega (arith, many))
  between-on cell (k ∷ l ∷ keys) (c ∷ []) xs ys at many rest = absurd (omega (arith, many))
  between-on cell (k ∷ l ∷ keys) (c ∷ d ∷ columns) xs ys at many rest =
      let behind = drop-next cell format.keys k (l ∷ keys) at in
      let f = field_at fields cell in
      let g = field_at fields (suc cell) in
      let bars = inner_bars boxing l.bars in (
        subst (λ (n : ℕ). SameOn line (crossed_or_not (joined_here (alone_at line k f) (alone_at line l g)) bars c d) (bars_by (joined_sign f g) n c d))
            (sym (bars-same (suc cell) l keys behind))
            (crossed-on c.start c d columns line k l f g bars),
        between-on (suc cell) (l ∷ keys) (d ∷ columns) xs ys behind (omega (arith, many)) rest,
      )

  new-row : (cell : ℕ) (keys : List FormatKey) (columns : List Column) → AreNew (row_shown boxing (left cell keys) columns)
  new-row cell [] columns = tt
  new-row cell (k ∷ keys) [] = tt
  new-row cell (k ∷ []) (c ∷ columns) =
      let own = alone_at line k (field_at fields cell) in (new-shown own.field own c (c.start + c.width) refl, tt)
  new-row cell (k ∷ l ∷ keys) (c ∷ []) =
      let own = alone_at line k (field_at fields cell) in (new-shown own.field own c (c.start + c.width) refl, tt)
  new-row cell (k ∷ l ∷ keys) (c ∷ d ∷ columns) =
      let own = alone_at line k (field_at fields cell) in
      let next = alone_at line l (field_at fields (suc cell)) in (
        new-shown own.field own c (end_by (joined_here own next) (inner_bars boxing l.bars) c d) refl,
        new-row (suc cell) (l ∷ keys) (d ∷ columns),
      )

  none-row : (cell : ℕ) (keys : List FormatKey) (columns : List Column) → HaveWidth keys → NoneRunOn (row_shown boxing (left cell keys) columns)
  none-row cell [] columns plain = tt
  none-row cell (k ∷ keys) [] plain = tt
  none-row cell (k ∷ []) (c ∷ columns) plain =
      let own = alone_at line k (field_at fields cell) in (shown-none own.field own c (c.start + c.width) plain.0, tt)
  none-row cell (k ∷ l ∷ keys) (c ∷ []) plain =
      let own = alone_at line k (field_at fields cell) in (shown-none own.field own c (c.start + c.width) plain.0, tt)
  none-row cell (k ∷ l ∷ keys) (c ∷ d ∷ columns) plain =
      let own = alone_at line k (field_at fields cell) in
      let next = alone_at line l (field_at fields (suc cell)) in (
        shown-none own.field own c (end_by (joined_here own next) (inner_bars boxing l.bars) c d) plain.0,
        none-row (suc cell) (l ∷ keys) (d ∷ columns) plain.1,
      )

-- the keys of the cells
pub keys-alone : (line cell : ℕ) (keys : List FormatKey) (fields : List Content) → map (λ c. c.key) (alone_from line cell keys fields) ≡ keys
keys-alone line cell [] fields = refl
keys-alone line cell (k ∷ keys) fields = ap (λ (rest : List FormatKey). k ∷ rest) (keys-alone line (suc cell) keys fields)

all-if : (t : Bool) (line : ℕ) (xs ys : List Cell) → AllSame line xs ys → AllSame line (if t then xs else []) (if t then ys else [])
all-if true line xs ys same = same
all-if false line xs ys same = tt

-- a row with a key for each of its cells
module _ (s : Sheet) (k : FormatKey) (keys : List FormatKey) (last : ℕ) (fields : List Content)
    (plain : HaveWidth (k ∷ keys)) (many : length (cells_of (k ∷ keys) s.columns) ≡ length (k ∷ keys)) where
  abbrev pub format : FormatRow
  format = record { keys = k ∷ keys; bars = last }

  abbrev columns : List Column
  columns = cells_of (k ∷ keys) s.columns

  abbrev boxing : Boxing
  boxing = s.bars.boxing

  abbrev pub cells : ℕ → List Left
  cells line = alone_from line 0 (k ∷ keys) fields

  right-same : bars_at_edge boxing format (length columns) ≡ edge_bars boxing last
  right-same = ap (bars_at_edge boxing format) many ∙ ap (edge_bars boxing) (bars-last (k ∷ keys) last)

  fronts-same : (line : ℕ) → AllSame line (row_fronts s last (cells line) columns) (fronts (record s { columns = columns }) format fields)
  fronts-same line =
      let right = edge_bars boxing last in
      let left = edge_bars boxing k.bars in
      let mine = bars_there 0 left ∷ between boxing (cells line) columns ++ bars_there (s.width - right) right ∷ [] in
      let others : ℕ → List Cell = λ n. bars_at 0 left ∷ all_between boxing 0 columns format fields ++ right_bars s.width n ∷ [] in
      all-if s.bars.has_any line mine (others (bars_at_edge boxing format (length columns)))
      (subst (λ (n : ℕ). AllSame line mine (others n)) (sym right-same) (
        edge-on line 0 left,
        between-on boxing format fields line 0 (k ∷ keys) columns (bars_there (s.width - right) right ∷ []) (right_bars s.width right ∷ []) refl many
            (edge-on line (s.width - right) right, tt),
      ))

  pub line-alone : (line : ℕ) → row_line s last (cells line) ≡ line_of line (row_cells s format fields)
  line-alone line =
      let shown_here = row_shown boxing (cells line) columns in
      let these = row_fronts s last (cells line) columns in
      let those = fronts (record s { columns = columns }) format fields in
      let by : List Column → List ℕ = λ cs. line_by s (row_fronts s last (cells line) cs) (row_shown boxing (cells line) cs) in
      let bytes : List Run → List ℕ = λ runs. codes "\\&" ++ (up_to_last_glyph runs ++ newline ∷ []) in
      ap by (ap (λ (ks : List FormatKey). cells_of ks s.columns) (keys-alone line 0 (k ∷ keys) fields))
      ∙ ap (λ (all : List Shown). line_of 0 (with_fronts these (map shown_cell (in_order [] all))))
      (all_cut-none s these shown_here (none-row boxing format fields line 0 (k ∷ keys) columns plain))
      ∙ ap (λ (all : List Shown). line_of 0 (with_fronts these (map shown_cell all))) (same-order shown_here (new-row boxing format fields line 0 (k ∷ keys) columns))
      ∙ ap bytes
      (written-on line (with_fronts these (map shown_cell shown_here)) (with_fronts those (cells_from boxing 0 columns format fields))
      (fronts-on line these those (map shown_cell shown_here) (cells_from boxing 0 columns format fields) (fronts-same line)
      (cells-on boxing format fields line 0 (k ∷ keys) columns plain refl many)) 0)

  -- and all its lines from one on
  pub lines-alone : (count line : ℕ) → row_lines s last count (cells line) ≡ lines_from line count (row_cells s format fields)
  lines-alone zero line = refl
  lines-alone (suc count) line =
      ap (λ (first : List ℕ). first ++ row_lines s last count (map behind_line (cells line))) (line-alone line)
      ∙ ap (λ (left : List Left). line_of line (row_cells s format fields) ++ row_lines s last count left) (behind-alone line 0 (k ∷ keys) fields)
      ∙ ap (λ (rest : List ℕ). line_of line (row_cells s format fields) ++ rest) (lines-alone count (suc line))
