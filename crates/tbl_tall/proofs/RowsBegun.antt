-- The row that comes next, as it is kept when the one above has ended.
use Rattle.std.proofs.Common.{◌≡◌, ℕ, zero, suc, ◌+◌, ◌-◌, ◌<◌, ◌≤◌, max, Bool, true, false, List, [], ◌∷◌, drop, length, map, take, refl, sym, ap, subst, ◌∙◌, arith, if◌then◌else◌, nat_lt}
use Rattle.std.specs.List.{AllByRecursion}
use Rattle.tbl_format.specs.Format.{FormatRow}
use Rattle.tbl_format.specs.FormatRows.{AreWithin}
use Rattle.tbl_format.specs.RowsServed.{row_at, no_keys}
use Rattle.tbl_format.specs.declared.format.FormatKey.{FormatKey}
use Rattle.tbl_kept.specs.Rows.{KeptElement, Row as RowKept, elements_of, fields_of, rows_in_front}
use Rattle.tbl_layout.specs.Entries.{Content, Element, Row}
use Rattle.tbl_layout.specs.declared.bars.Bars.{Bars}
use Rattle.tbl_layout.specs.declared.entry.Entry.{Entry}
use Rattle.tbl_lines.specs.CellsLeft.{Left, all_keys, all_stopped, bars_at_end, cells_next, goes_on, keys_behind, nothing_left}
use Rattle.tbl_lines.specs.LinesLeft.{Beside, Nothing, OfRow, Over, overs}
use Rattle.tbl_lines.specs.PictureLeft.{through_rule, through_rules}
use Rattle.tbl_lines.specs.PictureLines.{Sheet, boxed_from}
use Rattle.tbl_options.specs.declared.options.Boxing.{Boxing}
use Rattle.tbl_line_cells.proofs.FirstLines.{each-behind}
use Rattle.tbl_tall.proofs.RowsComing.{cells-one, foreseen}
use Rattle.tbl_tall.proofs.StopsSet.{stops-boxed}
use Rattle.tbl_tall.specs.Bands.{BandFits, BandStands, GoThrough, KeptBand, ShowBars, keys_left, rest_shown}
use Rattle.tbl_line_cells.specs.KeptCells.{AllLeft, behind_rules}
use Rattle.tbl_tall.specs.LinesOver.{HasInFront, heights_kept}
use Rattle.tbl_tall.specs.RowsNext.{RulesThen, cell_kept, cells_by}
use Rattle.tbl_tall.specs.TallRows.{BarsFit, Comes, HaveKeys, KeptTall, row_below}

-- lines of rules of which none was given stand below the line whose bars are kept
pub band-begins : (formats : List FormatRow) (bars : Bars) (columns : ℕ) (b : KeptBand) (all : List Over) (above below : Beside) → BandFits formats b
    → length b.through ≡ columns → GoThrough b.through all → ShowBars bars.boxing columns b.below below → ShowBars bars.boxing columns b.above above
    → b.at ≡ 0 → BandStands formats bars columns b all above below
band-begins formats bars columns b all above below fits many through shown_below shown none = record {
  fits = fits;
  as_many = many;
  through = through;
  below_shown = shown_below;
  met = λ boundary few.
      ap (λ (n : ℕ). max n (rest_shown formats bars.boxing columns b all below b.at boundary)) (shown.shown boundary few);
  held = λ boundary few given more free. absurd (omega (arith, given, none));
}

-- behind some rules and behind others
pub through-more : (some others : ℕ) (cells : List Left) → through_rules others (through_rules some cells) ≡ through_rules (some + others) cells
through-more zero others cells =
    let same : others ≡ zero + others = omega arith in
    ap (λ (n : ℕ). through_rules n cells) same
through-more (suc some) others cells =
    let same : suc (some + others) ≡ suc some + others = omega arith in
    through-more some others (map through_rule cells) ∙ ap (λ (n : ℕ). through_rules n cells) same

-- what is kept of a row that comes, below some cells
pub record RowKeeps (bytes : List ℕ) (formats : List FormatRow) (s : Sheet) (t : KeptTall) (cells : List Left) (format : FormatRow) (rules from many lines : ℕ)
    (up : Beside) : Type 0 where
  pub left : AllLeft bytes t.cells cells
  pub keys : HaveKeys cells (all_keys (length s.columns) format)
  pub fits : BandFits formats t.band
  pub as_many : length t.band.through ≡ length s.columns
  pub through : GoThrough t.band.through (overs 0 cells s.columns)
  pub below : ShowBars s.bars.boxing (length s.columns) t.band.below (OfRow (map (behind_rules (rules + many)) cells) (bars_at_end (length s.columns) format))
  pub shown : ShowBars s.bars.boxing (length s.columns) t.band.above up
  pub none : t.band.at ≡ 0
  pub wholes : t.band.wholes ≡ rules
  pub first : t.band.first ≡ from
  pub count : t.band.count ≡ many
  pub high : t.lines_left ≡ lines
  pub last : t.last ≡ bars_at_end (length s.columns) format
  pub fit : BarsFit s up
  pub within : AreWithin (length s.columns) format.keys
  pub some : 0 < length s.columns
  pub room : length s.columns ≤ t.room

left-of : (formats : List FormatRow) (b : KeptBand) (first count : ℕ) → b.at ≡ 0 → b.first ≡ first → b.count ≡ count
    → keys_left formats b ≡ take count (drop first formats)
left-of formats b first count none is many =
    let front : b.count - (b.at - b.wholes) ≡ count = omega (arith, none, many) in
    let begin : b.first + (b.at - b.wholes) ≡ first = omega (arith, none, is) in
    ap (λ (n : ℕ). take n (drop (b.first + (b.at - b.wholes)) formats)) front ∙ ap (λ (n : ℕ). take count (drop n formats)) begin

-- it comes first behind as many rules
pub keeps-comes : (bytes : List ℕ) (formats : List FormatRow) (s : Sheet) (t : KeptTall) (cells : List Left) (keys rules height wholes : ℕ) (fields : List Content)
    (rest : List Element) (heights : List ℕ) (above : Beside) (all : List Element)
    → RowKeeps bytes formats s t cells (row_at formats keys) wholes (keys - rules) rules height above
    → length (rows_in_front formats keys rules) ≡ rules
    → RulesThen wholes all (Row (rows_in_front formats keys rules) (row_at formats keys) fields ∷ rest)
    → Comes bytes formats s t (height ∷ heights) cells above all
keeps-comes bytes formats s t cells keys rules height wholes fields rest heights above all keeps many then_row =
    let n = length s.columns in
    let f = foreseen then_row in
    let format = row_at formats keys in
    let in_front = rows_in_front formats keys rules in
    let below : row_below n cells all ≡ OfRow (map (behind_rules (wholes + rules)) cells) (bars_at_end n format)
    = f.below n cells
    ∙ ap (λ (cs : List Left). OfRow cs (bars_at_end n format))
    (ap (λ (m : ℕ). through_rules m (through_rules wholes cells)) many ∙ through-more wholes rules cells ∙ each-behind (wholes + rules) cells) in
    record {
      left = keeps.left;
      keys = subst (λ (row : FormatRow). HaveKeys cells (all_keys n row)) (sym f.format) keeps.keys;
      band = subst (λ (line : Beside). BandStands formats s.bars n t.band (overs 0 cells s.columns) above line) (sym below)
          (band-begins formats s.bars n t.band (overs 0 cells s.columns) above _ keeps.fits keeps.as_many keeps.through keeps.below keeps.shown keeps.none);
      wholes = omega (arith, keeps.wholes, keeps.none, f.wholes);
      rules = left-of formats t.band (keys - rules) rules keeps.none keeps.first keeps.count ∙ sym f.keys;
      height = keeps.high ∙ sym (f.height (height ∷ heights));
      last = keeps.last ∙ ap (bars_at_end n) (sym f.format);
      fit = keeps.fit;
      within = subst (λ (row : FormatRow). AreWithin n row.keys) (sym f.format) keeps.within;
      some = keeps.some;
      room = keeps.room;
    }

-- and with the cells that the definition tells
pub cells-come : (bytes : List ℕ) (formats : List FormatRow) (boxing : Boxing) (columns wholes keys rules height : ℕ) (entries : List Entry)
    (es : List KeptElement) (above : List FormatKey) (lefts : List Left) (all : List Element)
    → AllByRecursion (HasInFront formats) es
    → RulesThen wholes all (Row (rows_in_front formats keys rules) (row_at formats keys) (fields_of bytes (row_at formats keys) entries)
    ∷ boxed_from boxing true (elements_of bytes formats es))
    → cells_next columns above lefts (height ∷ heights_kept es) all
    ≡ all_stopped columns (row_at formats keys).keys (elements_of bytes formats es) 0
    (cells_by (cell_kept bytes formats boxing.is_inside above lefts (RowKept keys rules height entries) es) 0 (all_keys columns (row_at formats keys)))
cells-come bytes formats boxing columns wholes keys rules height entries es above lefts all fronts then_row =
    let format = row_at formats keys in
    let own = elements_of bytes formats es in
    (foreseen then_row).cells columns above lefts (height ∷ heights_kept es)
    ∙ ap (λ (cells : List Left). all_stopped columns format.keys (boxed_from boxing true own) 0 cells)
    (cells-one bytes formats boxing keys rules height entries es fronts above lefts 0 (all_keys columns format))
    ∙ stops-boxed columns format.keys boxing true own 0
    (cells_by (cell_kept bytes formats boxing.is_inside above lefts (RowKept keys rules height entries) es) 0 (all_keys columns format))

-- where no row comes
nothing-goes : (count bars column : ℕ) → AllByRecursion (λ (l : Left). goes_on l ≡ false) (map nothing_left (keys_behind count bars column))
nothing-goes zero bars column = tt
nothing-goes (suc count) bars column = (refl, nothing-goes count 0 (suc column))

pub none-goes : (columns : ℕ) → AllByRecursion (λ (l : Left). goes_on l ≡ false) (map nothing_left (keys_behind columns 0 0))
none-goes columns = nothing-goes columns 0 0

nothing-bars : (count bars column : ℕ) → map (λ (c : Left). c.key.bars) (map nothing_left (keys_behind count bars column)) ≡ map (λ (k : FormatKey). k.bars) (keys_behind count bars column)
nothing-bars zero bars column = refl
nothing-bars (suc count) bars column = ap (λ (ns : List ℕ). bars ∷ ns) (nothing-bars count 0 (suc column))

nothing-ends : (count bars column : ℕ) → map (λ (c : Left). c.key.end) (map nothing_left (keys_behind count bars column)) ≡ map (λ (k : FormatKey). k.end) (keys_behind count bars column)
nothing-ends zero bars column = refl
nothing-ends (suc count) bars column = ap (λ (ns : List ℕ). (column + 1) ∷ ns) (nothing-ends count 0 (suc column))

abbrev none_by : Bool → ℕ
none_by t = if t then 0 else 0

nothing-last : (t : Bool) → none_by t ≡ 0
nothing-last true = refl
nothing-last false = refl

pub record NothingKeeps (bytes : List ℕ) (formats : List FormatRow) (s : Sheet) (t : KeptTall) (rules : ℕ) (up : Beside) : Type 0 where
  pub left : AllLeft bytes t.cells (map nothing_left (keys_behind (length s.columns) 0 0))
  pub fits : BandFits formats t.band
  pub as_many : length t.band.through ≡ length s.columns
  pub through : GoThrough t.band.through (overs 0 (map nothing_left (keys_behind (length s.columns) 0 0)) s.columns)
  pub below : ShowBars s.bars.boxing (length s.columns) t.band.below Nothing
  pub shown : ShowBars s.bars.boxing (length s.columns) t.band.above up
  pub none : t.band.at ≡ 0
  pub wholes : t.band.wholes ≡ rules
  pub first : t.band.first ≡ 0
  pub count : t.band.count ≡ 0
  pub high : t.lines_left ≡ 0
  pub last : t.last ≡ 0
  pub fit : BarsFit s up
  pub some : 0 < length s.columns
  pub room : length s.columns ≤ t.room

pub nothing-comes : (bytes : List ℕ) (formats : List FormatRow) (s : Sheet) (t : KeptTall) (wholes : ℕ) (keys : List FormatKey) (lefts : List Left)
    (heights : List ℕ) (above : Beside) (all : List Element) → NothingKeeps bytes formats s t wholes above → RulesThen wholes all []
    → Comes bytes formats s t heights (cells_next (length s.columns) keys lefts heights all) above all
nothing-comes bytes formats s t wholes keys lefts heights above all keeps then_none =
    let n = length s.columns in
    let f = foreseen then_none in
    let cells = map nothing_left (keys_behind n 0 0) in
    let same : n - 0 ≡ n = omega arith in
    let own : HaveKeys cells (all_keys n no_keys) = record {
      bars = nothing-bars n 0 0 ∙ ap (λ (m : ℕ). map (λ (k : FormatKey). k.bars) (keys_behind m 0 0)) (sym same);
      ends = nothing-ends n 0 0 ∙ ap (λ (m : ℕ). map (λ (k : FormatKey). k.end) (keys_behind m 0 0)) (sym same);
    } in
    subst (λ (cs : List Left). Comes bytes formats s t heights cs above all) (sym (f.cells n keys lefts heights)) (record {
      left = keeps.left;
      keys = subst (λ (row : FormatRow). HaveKeys cells (all_keys n row)) (sym f.format) own;
      band = subst (λ (line : Beside). BandStands formats s.bars n t.band (overs 0 cells s.columns) above line) (sym (f.below n cells))
          (band-begins formats s.bars n t.band (overs 0 cells s.columns) above Nothing keeps.fits keeps.as_many keeps.through keeps.below keeps.shown keeps.none);
      wholes = omega (arith, keeps.wholes, keeps.none, f.wholes);
      rules = left-of formats t.band 0 0 keeps.none keeps.first keeps.count ∙ sym f.keys;
      height = keeps.high ∙ sym (f.height heights);
      last = keeps.last ∙ sym (nothing-last (nat_lt 0 n)) ∙ ap (bars_at_end n) (sym f.format);
      fit = keeps.fit;
      within = subst (λ (row : FormatRow). AreWithin n row.keys) (sym f.format) (record { cells = tt; short = omega arith });
      some = keeps.some;
      room = keeps.room;
    })
