-- A row that comes, as its cells and the lines of rules in front of it are kept.
use Rattle.std.proofs.Common.{◌≡◌, ℕ, suc, ◌+◌, ◌-◌, ◌<◌, ◌≤◌, true, ◌&&◌, List, ◌∷◌, drop, length, map, sym, ap, subst, ◌∙◌, arith, is_some}
use Rattle.tbl_format.specs.Format.{FormatRow, columns_of_keys}
use Rattle.tbl_format.specs.FormatRows.{AreWithin}
use Rattle.tbl_format.specs.RowsServed.{row_at}
use Rattle.tbl_format.specs.declared.format.FormatKey.{FormatKey}
use Rattle.tbl_kept.proofs.HeightSteps.{length-in_front}
use Rattle.tbl_kept.specs.Rows.{Command as CommandKept, KeptElement, KeptRows, Row as RowKept, elements_of, fields_of, rows_in_front}
use Rattle.tbl_kept.specs.RowsLaying.{element_at}
use Rattle.tbl_layout.specs.Entries.{Element, Row}
use Rattle.tbl_layout.specs.declared.columns.Column.{Column}
use Rattle.tbl_lines.specs.CellsLeft.{Left, all_keys, all_stopped, bars_at_end, cells_next}
use Rattle.tbl_lines.specs.LinesLeft.{OfRow, overs}
use Rattle.tbl_lines.specs.PictureLines.{Sheet, boxed_from}
use Rattle.tbl_options.specs.declared.options.Boxing.{Boxing}
use Rattle.tbl_tall.proofs.CellsNext.{all-at, all-drop, fronts-lie, get-drop}
use Rattle.tbl_tall.proofs.KeysCover.{Cover, cover-all}
use Rattle.tbl_tall.proofs.RowsBegun.{RowKeeps, cells-come, keeps-comes}
use Rattle.tbl_tall.proofs.RowsComing.{keys-kept, step-row}
use Rattle.tbl_tall.proofs.StopsSet.{stops-have}
use Rattle.tbl_tall.specs.Bands.{BandFits, GoThrough, ShowBars}
use Rattle.tbl_line_cells.specs.LinesDrawn.{keys_in}
use Rattle.tbl_line_cells.specs.KeptCells.{AllLeft, behind_rules}
use Rattle.tbl_tall.specs.LinesOver.{heights_kept}
use Rattle.tbl_tall.specs.RowsNext.{HasKeys, LeftAbove, RowIsAt, RulesThen, StandsBelow, boxed_behind, cell_kept, cells_by, drawn_on, rules_in_front}
use Rattle.tbl_tall.specs.TallRows.{Comes, ElementLies, KeptTall, RowLies, RowsLie}
use Rattle.tbl_tall.specs.declared.next_cells.RowComing.{RowComing}

-- the cells of a row are filled, and the lines of rules in front of it are set
pub record IsFilled (bytes : List ℕ) (formats : List FormatRow) (boxing : Boxing) (rows : KeptRows) (row : RowComing) (rules : ℕ) (told t : KeptTall)
    (keys : List FormatKey) (lefts : List Left) : Type 0 where
  pub left : AllLeft bytes t.cells (all_stopped (length rows.columns) (row_at formats row.keys).keys
      (elements_of bytes formats (drop (suc row.at) rows.elements)) 0
      (cells_by (cell_kept bytes formats boxing.is_inside keys lefts (element_at rows.elements row.at)
      (drop (suc row.at) rows.elements)) 0 (all_keys (length rows.columns) (row_at formats row.keys))))
  pub has : HasKeys t.cells (all_keys (length rows.columns) (row_at formats row.keys))
  pub through : (cells : List Left) (columns : List Column) → AllLeft bytes t.cells cells → length columns ≡ columns_of_keys (keys_in t.cells)
      → GoThrough t.band.through (overs 0 cells columns)
  pub below : (cells : List Left) → AllLeft bytes t.cells cells → ShowBars boxing (columns_of_keys (keys_in t.cells)) t.band.below
      (OfRow (map (behind_rules (t.band.wholes + t.band.count)) cells) t.last)
  pub as_many : length t.band.through ≡ columns_of_keys (keys_in t.cells)
  pub wholes : t.band.wholes ≡ rules_in_front (boxing.is_inside && is_some row.above) rules row.rules
  pub most : t.band.wholes ≤ rules + 1
  pub first : t.band.first ≡ row.keys - row.rules
  pub count : t.band.count ≡ row.rules
  pub none : t.band.at ≡ 0
  pub above : t.band.above ≡ told.band.above
  pub high : t.lines_left ≡ row.height
  pub last : t.last ≡ bars_at_end (length rows.columns) (row_at formats row.keys)
  pub room : t.room ≡ told.room

module _ (bytes : List ℕ) (formats : List FormatRow) (boxing : Boxing) (rows : KeptRows) (s : Sheet) (row : RowComing) (rules : ℕ) (told t : KeptTall)
    (up : LeftAbove) (all : List Element) (lie : RowsLie formats rows) (at : row.at < length rows.elements)
    (is : RowIsAt rows.elements row) (stand : StandsBelow (drawn_on s bytes formats boxing rows) told up)
    (filled : IsFilled bytes formats boxing rows row rules told t up.keys up.cells) (few : rules < 2305843009213693952) (few_keys : row.rules < 4294967296)
    (some : 0 < length rows.columns) (enough : length rows.columns ≤ told.room) (small : told.room < 4294967296)
    (within : row.keys < 18446744073709551616) where
  abbrev n : ℕ
  n = length s.columns

  abbrev es : List KeptElement
  es = drop (suc row.at) rows.elements

  abbrev own : KeptElement
  own = RowKept row.keys row.rules row.height is.entries

  abbrev format : FormatRow
  format = row_at formats row.keys

  abbrev wholes : ℕ
  wholes = rules_in_front (boxing.is_inside && is_some row.above) rules row.rules

  abbrev cells_of : ℕ → KeptElement → List Left
  cells_of m e = all_stopped m format.keys (elements_of bytes formats es) 0
      (cells_by (cell_kept bytes formats boxing.is_inside up.keys up.cells e es) 0 (all_keys m format))

  abbrev cells : List Left
  cells = cells_of n own

  same : length rows.columns ≡ n
  same = ap (λ (cs : List Column). length cs) (sym stand.columns)

  there : element_at rows.elements row.at ≡ own
  there = get-drop rows.elements row.at own (CommandKept 0 0) es is.is

  lies : RowLies formats (length rows.columns) row.keys row.rules
  lies = subst (λ (e : KeptElement). ElementLies formats (length rows.columns) e) there
      (all-at (ElementLies formats (length rows.columns)) rows.elements row.at (CommandKept 0 0) at lie)

  in-front : length (rows_in_front formats row.keys row.rules) ≡ row.rules
  in-front = length-in_front formats row.keys row.rules lies.serves lies.in_front

  kept : AllLeft bytes t.cells cells
  kept = subst (λ (e : KeptElement). AllLeft bytes t.cells (cells_of n e)) there
      (subst (λ (m : ℕ). AllLeft bytes t.cells (cells_of m (element_at rows.elements row.at))) same filled.left)

  cover : Cover (length rows.columns) t.cells
  cover = cover-all (length rows.columns) format t.cells lies.cells filled.has

  shown-below : ShowBars s.bars.boxing n t.band.below (OfRow (map (behind_rules (wholes + row.rules)) cells) (bars_at_end n format))
  shown-below =
      let lines : t.band.wholes + t.band.count ≡ wholes + row.rules = omega (arith, filled.wholes, filled.count) in
      let last : t.last ≡ bars_at_end n format = filled.last ∙ ap (λ (m : ℕ). bars_at_end m format) same in
      subst (λ (b : Boxing). ShowBars b n t.band.below (OfRow (map (behind_rules (wholes + row.rules)) cells) (bars_at_end n format))) (sym stand.boxed)
      (subst (λ (m : ℕ). ShowBars boxing m t.band.below (OfRow (map (behind_rules (wholes + row.rules)) cells) (bars_at_end n format))) (cover.all ∙ same)
      (subst (λ (m : ℕ). ShowBars boxing (columns_of_keys (keys_in t.cells)) t.band.below (OfRow (map (behind_rules m) cells) (bars_at_end n format))) lines
      (subst (λ (m : ℕ). ShowBars boxing (columns_of_keys (keys_in t.cells)) t.band.below
      (OfRow (map (behind_rules (t.band.wholes + t.band.count)) cells) m)) last (filled.below cells kept))))

  shown-above : ShowBars s.bars.boxing n t.band.above up.line
  shown-above = subst (λ (xs : List ℕ). ShowBars s.bars.boxing n xs up.line) (sym filled.above) stand.shown

  as-many : length t.band.through ≡ n
  as-many = filled.as_many ∙ cover.all ∙ same

  fits : BandFits formats t.band
  fits = record {
    some = omega (arith, as-many, same, some);
    few = omega (arith, as-many, same, enough, small);
    boundaries = omega (arith, shown-above.boundaries, as-many);
    boundaries_below = omega (arith, shown-below.boundaries, as-many);
    given = omega (arith, filled.none);
    rows = omega (arith, filled.first, filled.count, lies.serves, lies.in_front);
    places = omega (arith, filled.first, filled.count, lies.in_front, within);
    small = omega (arith, filled.most, filled.count, few, few_keys);
  }

  keeps : RowKeeps bytes formats s t cells format wholes (row.keys - row.rules) row.rules row.height up.line
  keeps = record {
    left = kept;
    keys = stops-have n format.keys (elements_of bytes formats es) 0
        (cells_by (cell_kept bytes formats boxing.is_inside up.keys up.cells own es) 0 (all_keys n format)) (all_keys n format)
        (keys-kept bytes formats boxing.is_inside up.keys up.cells own es (all_keys n format));
    fits = fits;
    as_many = as-many;
    through = filled.through cells s.columns kept (sym (cover.all ∙ same));
    below = shown-below;
    shown = shown-above;
    none = filled.none;
    wholes = filled.wholes;
    first = filled.first;
    count = filled.count;
    high = filled.high;
    last = filled.last ∙ ap (λ (m : ℕ). bars_at_end m format) same;
    fit = stand.fit;
    within = subst (λ (m : ℕ). AreWithin m format.keys) same lies.cells;
    some = omega (arith, same, some);
    room = omega (arith, same, enough, filled.room);
  }

  pub filled-comes : RulesThen rules all (boxed_behind bytes formats boxing (is_some row.above) rules (drop row.at rows.elements))
      → Comes bytes formats s t (heights_kept (drop row.at rows.elements))
      (cells_next n up.keys up.cells (heights_kept (drop row.at rows.elements)) all) up.line all
  filled-comes then_come =
      let here = subst (λ (xs : List KeptElement). RulesThen rules all (boxed_behind bytes formats boxing (is_some row.above) rules xs)) is.is then_come in
      let fields = fields_of bytes format is.entries in
      let then_row : RulesThen wholes all (Row (rows_in_front formats row.keys row.rules) format fields ∷ boxed_from boxing true (elements_of bytes formats es))
      = step-row bytes formats boxing (is_some row.above) rules all row.keys row.rules row.height is.entries es in-front here in
      let fronts = fronts-lie formats (length rows.columns) es (all-drop (ElementLies formats (length rows.columns)) rows.elements (suc row.at) lie) in
      let next = cells-come bytes formats boxing n wholes row.keys row.rules row.height is.entries es up.keys up.cells all fronts then_row in
      subst (λ (xs : List KeptElement). Comes bytes formats s t (heights_kept xs) (cells_next n up.keys up.cells (heights_kept xs) all) up.line all) (sym is.is)
      (subst (λ (cs : List Left). Comes bytes formats s t (row.height ∷ heights_kept es) cs up.line all) (sym next)
      (keeps-comes bytes formats s t cells row.keys row.rules row.height wholes fields (boxed_from boxing true (elements_of bytes formats es))
      (heights_kept es) up.line all keeps in-front then_row))
