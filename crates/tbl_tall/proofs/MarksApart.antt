-- Whether something was cut of cells is no matter for the bars that they show, nor for the lines of rules that they go through.
use Rattle.std.proofs.Common.{◌≡◌, ℕ, zero, suc, ◌+◌, ◌-◌, ◌≤◌, max, Bool, true, false, ◌==◌, List, [], ◌∷◌, length, map, get_or, Option, Some, None, refl, sym, ap, subst, ◌∙◌}
use Rattle.tbl_format.specs.Cells.{cell_behind}
use Rattle.tbl_format.specs.Format.{FormatRow}
use Rattle.tbl_format.specs.declared.format.FormatKey.{FormatKey}
use Rattle.tbl_layout.specs.Entries.{Above, Block, Command, Content, Element, Repeated, Row, Rule, Ruled, Short, Text}
use Rattle.tbl_layout.specs.declared.bars.Bars.{Bars}
use Rattle.tbl_layout.specs.declared.columns.Column.{Column}
use Rattle.tbl_lines.specs.CellsLeft.{Left, all_keys, bars_at_end, behind_line, goes_on, rest_by}
use Rattle.tbl_lines.specs.LinesLeft.{Beside, OfRow, Over, bars_at_cell, bars_in_front, overs, shown_bars}
use Rattle.tbl_lines.specs.PictureLeft.{through_rule, through_rules}
use Rattle.tbl_lines.specs.PictureLines.{Sheet}
use Rattle.tbl_options.specs.declared.options.Boxing.{Boxing}
use Rattle.tbl_line_cells.specs.KeptCells.{AllLeft}
use Rattle.tbl_line_cells.specs.declared.cells.CellLeft.{CellLeft}
use Rattle.tbl_tall.proofs.BandSteps.{overs-self, stands-alike}
use Rattle.tbl_tall.proofs.BandsAlike.{among-alike, overs-map, through_by}
use Rattle.tbl_tall.proofs.RowsGoOn.{keys-stay}
use Rattle.tbl_tall.specs.Bands.{AlikeOvers, BandStands, KeptBand, ShowSame, rest_shown}
use Rattle.tbl_tall.specs.CutsMarked.{AreAlike, bare}
use Rattle.tbl_tall.specs.TallRows.{Comes, KeptTall, RowStands, next_format, row_below}

-- cells are alike with it or without
pub alike-marked : (f : Left → Left) → ((l : Left) → bare l ≡ bare (f l)) → (cells : List Left) → AreAlike cells (map f cells)
alike-marked f same [] = refl
alike-marked f same (c ∷ cells) =
    ap (λ (l : Left). l ∷ map bare cells) (same c) ∙ ap (λ (ls : List Left). bare (f c) ∷ ls) (alike-marked f same cells)

rest-bare : (f : Content) (l : Left) → bare (rest_by f l) ≡ rest_by f (bare l)
rest-bare (Block measure lines) l = refl
rest-bare (Text bytes) l = refl
rest-bare (Ruled sign) l = refl
rest-bare Short l = refl
rest-bare (Repeated b) l = refl
rest-bare Above l = refl

by-bare : (up is_here : Bool) (l : Left) → bare (through_by up is_here l) ≡ through_by up is_here (bare l)
by-bare false is_here l = refl
by-bare true true l = rest-bare l.field l
by-bare true false l = refl

through-bare : (l : Left) → bare (through_rule l) ≡ through_rule (bare l)
through-bare l = by-bare (goes_on l) (l.lead == 0) l

behind-bare : (l : Left) → bare (behind_line l) ≡ behind_line (bare l)
behind-bare l = by-bare true (l.lead == 0) l

-- behind a line they are alike still
module _ (f : Left → Left) (same : (l : Left) → bare (f l) ≡ f (bare l)) where
  map-bare : (cells : List Left) → map bare (map f cells) ≡ map f (map bare cells)
  map-bare [] = refl
  map-bare (c ∷ cells) =
      ap (λ (l : Left). l ∷ map bare (map f cells)) (same c) ∙ ap (λ (ls : List Left). f (bare c) ∷ ls) (map-bare cells)

  alike-map : (xs ys : List Left) → AreAlike xs ys → AreAlike (map f xs) (map f ys)
  alike-map xs ys same_cells = map-bare xs ∙ ap (λ (ls : List Left). map f ls) same_cells ∙ sym (map-bare ys)

pub alike-through : (xs ys : List Left) → AreAlike xs ys → AreAlike (map through_rule xs) (map through_rule ys)
alike-through = alike-map through_rule through-bare

pub alike-behind : (xs ys : List Left) → AreAlike xs ys → AreAlike (map behind_line xs) (map behind_line ys)
alike-behind = alike-map behind_line behind-bare

pub alike-rules : (rules : ℕ) (xs ys : List Left) → AreAlike xs ys → AreAlike (through_rules rules xs) (through_rules rules ys)
alike-rules zero xs ys same = same
alike-rules (suc rules) xs ys same = alike-rules rules (map through_rule xs) (map through_rule ys) (alike-through xs ys same)

-- the bars that a line of a row shows
keys-bare : (cells : List Left) → map (λ (c : Left). c.key) (map bare cells) ≡ map (λ (c : Left). c.key) cells
keys-bare [] = refl
keys-bare (c ∷ cells) = ap (λ (ks : List FormatKey). c.key ∷ ks) (keys-bare cells)

front-bare : (boxing : Boxing) (last : ℕ) (cells : List Left) (cell : ℕ)
    → bars_in_front boxing last (map bare cells) cell ≡ bars_in_front boxing last cells cell
front-bare boxing last [] zero = refl
front-bare boxing last (own ∷ cells) zero = refl
front-bare boxing last [] (suc cell) = refl
front-bare boxing last (own ∷ []) (suc zero) = refl
front-bare boxing last (own ∷ []) (suc (suc cell)) = refl
front-bare boxing last (own ∷ next ∷ cells) (suc zero) = refl
front-bare boxing last (own ∷ next ∷ cells) (suc (suc cell)) = front-bare boxing last (next ∷ cells) (suc cell)

at-bare : (boxing : Boxing) (last : ℕ) (cells : List Left) (at : Option ℕ) → bars_at_cell boxing last (map bare cells) at ≡ bars_at_cell boxing last cells at
at-bare boxing last cells None = refl
at-bare boxing last cells (Some cell) = front-bare boxing last cells cell

shown-bare : (boxing : Boxing) (columns last : ℕ) (cells : List Left) (boundary : ℕ)
    → shown_bars boxing columns (OfRow (map bare cells) last) boundary ≡ shown_bars boxing columns (OfRow cells last) boundary
shown-bare boxing columns last cells boundary =
    ap (λ (ks : List FormatKey). bars_at_cell boxing last (map bare cells) (cell_behind ks boundary)) (keys-bare cells)
    ∙ at-bare boxing last cells (cell_behind (map (λ (c : Left). c.key) cells) boundary)

pub row-same : (boxing : Boxing) (columns last : ℕ) (xs ys : List Left) → AreAlike xs ys → ShowSame boxing columns (OfRow xs last) (OfRow ys last)
row-same boxing columns last xs ys same = λ boundary few.
    sym (shown-bare boxing columns last xs boundary)
    ∙ ap (λ (ls : List Left). shown_bars boxing columns (OfRow ls last) boundary) same
    ∙ shown-bare boxing columns last ys boundary

pub below-same : (boxing : Boxing) (columns : ℕ) (xs ys : List Left) → AreAlike xs ys → (elements : List Element)
    → ShowSame boxing columns (row_below columns xs elements) (row_below columns ys elements)
below-same boxing columns xs ys same [] = λ boundary few. refl
below-same boxing columns xs ys same (Row rules format fields ∷ elements) =
    row-same boxing columns (bars_at_end columns format) (through_rules (length rules) xs) (through_rules (length rules) ys)
    (alike-rules (length rules) xs ys same)
below-same boxing columns xs ys same (Rule sign ∷ elements) =
    below-same boxing columns (map through_rule xs) (map through_rule ys) (alike-through xs ys same) elements
below-same boxing columns xs ys same (Command bytes ∷ elements) = below-same boxing columns xs ys same elements

-- the columns that they go through
pub overs-same : (xs ys : List Left) (columns : List Column) → AreAlike xs ys → AlikeOvers (overs 0 xs columns) (overs 0 ys columns)
overs-same xs ys columns same =
    let x = overs-map bare (λ l. refl) (λ l. refl) xs columns in
    let y = overs-map bare (λ l. refl) (λ l. refl) ys columns in
    let z : AlikeOvers (overs 0 (map bare xs) columns) (overs 0 ys columns) =
    subst (λ (ls : List Left). AlikeOvers (overs 0 ls columns) (overs 0 ys columns)) (sym same) y in
    record {
      free = λ column. sym (x.free column) ∙ z.free column;
      within = λ boundary. sym (x.within boundary) ∙ z.within boundary;
    }

-- a band stands above any line that shows the same
pub stands-below : (formats : List FormatRow) (bars : Bars) (columns : ℕ) (b : KeptBand) (all : List Over) (above below beside : Beside)
    → BandStands formats bars columns b all above below → ShowSame bars.boxing columns below beside → BandStands formats bars columns b all above beside
stands-below formats bars columns b all above below beside stands same =
    let boxing = bars.boxing in
    let rest : (boundary : ℕ) → boundary ≤ columns
    → rest_shown formats boxing columns b all below b.at boundary ≡ rest_shown formats boxing columns b all beside b.at boundary
    = λ boundary few. among-alike formats boxing columns b.wholes b.first all all (overs-self all) below beside boundary (same boundary few)
    (b.wholes + b.count - b.at) b.at in
    record {
      fits = stands.fits;
      as_many = stands.as_many;
      through = stands.through;
      below_shown = record {
        boundaries = stands.below_shown.boundaries;
        shown = λ boundary few. stands.below_shown.shown boundary few ∙ same boundary few;
      };
      met = λ boundary few.
          subst (λ (n : ℕ). max (get_or b.above boundary 0) n ≡ max (shown_bars boxing columns above boundary) n) (rest boundary few)
          (stands.met boundary few);
      held = λ boundary few on more out.
          subst (λ (n : ℕ). n ≤ get_or b.above boundary 0) (rest boundary few) (stands.held boundary few on more out);
    }

-- what comes is what came, where something is cut of its cells
module _ (bytes : List ℕ) (s : Sheet) (t : KeptTall) (cells : List CellLeft) (f : Left → Left) (key : (l : Left) → (f l).key ≡ l.key)
    (lefts : List Left) (same : AreAlike lefts (map f lefts)) (left : AllLeft bytes cells (map f lefts)) where
  pub comes-marked : (formats : List FormatRow) (heights : List ℕ) (above : Beside) (elements : List Element)
      → Comes bytes formats s t heights lefts above elements → Comes bytes formats s (record t { cells = cells }) heights (map f lefts) above elements
  comes-marked formats heights above elements comes =
      let n = length s.columns in
      let all = overs 0 lefts s.columns in
      let other = overs 0 (map f lefts) s.columns in
      record {
        left = left;
        keys = keys-stay f key lefts (all_keys n (next_format elements)) comes.keys;
        band = stands-below formats s.bars n t.band other above (row_below n lefts elements) (row_below n (map f lefts) elements)
            (stands-alike formats s.bars n t.band all other above above (row_below n lefts elements) comes.band
            (overs-same lefts (map f lefts) s.columns same) (λ boundary few. refl))
            (below-same s.bars.boxing n lefts (map f lefts) same elements);
        wholes = comes.wholes;
        rules = comes.rules;
        height = comes.height;
        last = comes.last;
        fit = comes.fit;
        within = comes.within;
        some = comes.some;
        room = comes.room;
      }

  pub stands-marked : (format : FormatRow) (lines : ℕ) → RowStands bytes s t format lefts lines
      → RowStands bytes s (record t { cells = cells }) format (map f lefts) lines
  stands-marked format lines stands = record {
    left = left;
    keys = keys-stay f key lefts (all_keys (length s.columns) format) stands.keys;
    height = stands.height;
    last = stands.last;
    within = stands.within;
    some = stands.some;
    room = stands.room;
    first = λ is.
        let one = stands.first is in
        let shown = row-same s.bars.boxing (length s.columns) (bars_at_end (length s.columns) format) lefts (map f lefts) same in
        record { boundaries = one.boundaries; shown = λ boundary few. one.shown boundary few ∙ shown boundary few };
  }
