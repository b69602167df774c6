-- Lines of rules show bars by where they rule alone, and by whether cells go through them, whatever stands in these.
use Rattle.std.proofs.Common.{◌≡◌, ℕ, zero, suc, ◌-◌, max, Bool, true, false, not, ◌&&◌, ◌||◌, ◌==◌, List, [], ◌∷◌, ◌++◌, length, map, take, drop, get_or, nat_lt, replicate, refl, sym, ap, ◌∙◌, if◌then◌else◌}
use Rattle.std.proofs.lemmas.List.{map-append}
use Rattle.tbl_format.specs.Format.{FormatRow}
use Rattle.tbl_layout.specs.Entries.{Above, Block, Content, Repeated, Ruled, Short, Text}
use Rattle.tbl_layout.specs.Spans.{as_one}
use Rattle.tbl_layout.specs.declared.bars.Bars.{Bars}
use Rattle.tbl_layout.specs.declared.columns.Column.{Column}
use Rattle.tbl_options.specs.declared.options.Boxing.{Boxing}
use Rattle.tbl_lines.specs.CellsLeft.{Left, goes_on, rest_by}
use Rattle.tbl_lines.specs.LinesLeft.{Beside, Free, OfRules, Over, Through, bars_met, has_column, is_free, is_within, over_at, overs, overs_from, overs_of, own_bars, rules_boundary, rules_column, rules_edge, shown_bars, sign_at}
use Rattle.tbl_lines.specs.PictureLeft.{through_rule}
use Rattle.tbl_lines.specs.PictureLines.{OfKeys, RuleLine, Whole, sign_over}
use Rattle.tbl_tall.specs.Bands.{AlikeLines, AlikeOvers, Keys, Wholes, line_among, lines_among}

pub alike-self : (line : RuleLine) → AlikeLines line line
alike-self (Whole sign) = Wholes
alike-self (OfKeys format) = Keys

edge-alike : (line other : RuleLine) (o p : Over) → AlikeLines line other → is_free o ≡ is_free p → rules_edge line o ≡ rules_edge other p
edge-alike _ _ o p Wholes same = same
edge-alike _ _ o p Keys same = refl

has-alike : (line other : RuleLine) (column : ℕ) → AlikeLines line other → has_column line column ≡ has_column other column
has-alike _ _ column Wholes = refl
has-alike _ _ column Keys = refl

own-alike : (boxing : Boxing) (count : ℕ) (line other : RuleLine) (boundary : ℕ) → AlikeLines line other
    → own_bars boxing count line boundary ≡ own_bars boxing count other boundary
own-alike boxing count _ _ boundary Wholes = refl
own-alike boxing count _ _ boundary Keys = refl

module _ (boxing : Boxing) (count : ℕ) (line other : RuleLine) (all overs_other : List Over) (lines : AlikeLines line other)
    (cells : AlikeOvers all overs_other) where
  column-alike : (column : ℕ) → rules_column line all column ≡ rules_column other overs_other column
  column-alike column =
      ap (λ (b : Bool). b && has_column line column) (cells.free column)
      ∙ ap (λ (b : Bool). is_free (over_at overs_other column) && b) (has-alike line other column lines)

  pub rules-alike : (boundary : ℕ) → rules_boundary count line all boundary ≡ rules_boundary count other overs_other boundary
  rules-alike zero = edge-alike line other (over_at all 0) (over_at overs_other 0) lines (cells.free 0)
  rules-alike (suc column) =
      let by : Bool → Bool → Bool → Bool = λ e b n. if suc column == count then e else (b || n) in
      ap (λ (e : Bool). by e (rules_column line all column) (rules_column line all (suc column)))
      (edge-alike line other (over_at all column) (over_at overs_other column) lines (cells.free column))
      ∙ ap (λ (b : Bool). by (rules_edge other (over_at overs_other column)) b (rules_column line all (suc column))) (column-alike column)
      ∙ ap (λ (b : Bool). by (rules_edge other (over_at overs_other column)) (rules_column other overs_other column) b) (column-alike (suc column))

  -- a line of rules shows the same bars, where the lines behind do
  pub shown-alike : (behind beside : Beside) (boundary : ℕ) → shown_bars boxing count behind boundary ≡ shown_bars boxing count beside boundary
      → shown_bars boxing count (OfRules line all behind) boundary ≡ shown_bars boxing count (OfRules other overs_other beside) boundary
  shown-alike behind beside boundary same =
      let by : Bool → Bool → ℕ → ℕ → ℕ = λ r w own rest. if r || w then 0 else max own rest in
      let own = own_bars boxing count line boundary in
      let shown = shown_bars boxing count behind boundary in
      ap (λ (r : Bool). by r (is_within (over_at all boundary)) own shown) (rules-alike boundary)
      ∙ ap (λ (w : Bool). by (rules_boundary count other overs_other boundary) w own shown) (cells.within boundary)
      ∙ ap (λ (n : ℕ). by (rules_boundary count other overs_other boundary) (is_within (over_at overs_other boundary)) n shown)
      (own-alike boxing count line other boundary lines)
      ∙ ap (λ (n : ℕ). by (rules_boundary count other overs_other boundary) (is_within (over_at overs_other boundary))
      (own_bars boxing count other boundary) n) same

-- so many bars meet on two lines of rules, where the lines above and below show the same
module _ (bars : Bars) (count : ℕ) (line other : RuleLine) (all overs_other : List Over) (lines : AlikeLines line other)
    (cells : AlikeOvers all overs_other) where
  pub met-alike : (above below above_other below_other : Beside) (boundary : ℕ)
      → shown_bars bars.boxing count above boundary ≡ shown_bars bars.boxing count above_other boundary
      → shown_bars bars.boxing count below boundary ≡ shown_bars bars.boxing count below_other boundary
      → bars_met bars count line all above below boundary ≡ bars_met bars count other overs_other above_other below_other boundary
  met-alike above below above_other below_other boundary up down =
      let by : Bool → Bool → ℕ → ℕ → ℕ → ℕ = λ w r own a b.
      if not bars.has_any || w then 0 else if r then max a b else max own (max a b) in
      let own = own_bars bars.boxing count line boundary in
      let a = shown_bars bars.boxing count above boundary in
      let b = shown_bars bars.boxing count below boundary in
      let w' = is_within (over_at overs_other boundary) in
      let r' = rules_boundary count other overs_other boundary in
      let own' = own_bars bars.boxing count other boundary in
      ap (λ (w : Bool). by w (rules_boundary count line all boundary) own a b) (cells.within boundary)
      ∙ ap (λ (r : Bool). by w' r own a b) (rules-alike bars.boxing count line other all overs_other lines cells boundary)
      ∙ ap (λ (n : ℕ). by w' r' n a b) (own-alike bars.boxing count line other boundary lines)
      ∙ ap (λ (n : ℕ). by w' r' own' n b) up
      ∙ ap (λ (n : ℕ). by w' r' own' (shown_bars bars.boxing count above_other boundary) n) down

-- lines of a band
pub among-alike : (formats : List FormatRow) (boxing : Boxing) (columns wholes first : ℕ) (all other : List Over) (cells : AlikeOvers all other)
    (below beside : Beside) (boundary : ℕ) (same : shown_bars boxing columns below boundary ≡ shown_bars boxing columns beside boundary) (left at : ℕ)
    → shown_bars boxing columns (lines_among formats wholes first all at left below) boundary
    ≡ shown_bars boxing columns (lines_among formats wholes first other at left beside) boundary
among-alike formats boxing columns wholes first all other cells below beside boundary same zero at = same
among-alike formats boxing columns wholes first all other cells below beside boundary same (suc left) at =
    let line = line_among formats wholes first at in
    shown-alike boxing columns line line all other (alike-self line) cells
    (lines_among formats wholes first all (suc at) left below) (lines_among formats wholes first other (suc at) left beside) boundary
    (among-alike formats boxing columns wholes first all other cells below beside boundary same left (suc at))

-- a rule is drawn over a column through which no cell goes
pub sign-free : (line : RuleLine) (over : Over) (column : ℕ) → is_free over ≡ true → sign_at line over column ≡ sign_over line column
sign-free line Free column free = refl
sign-free line (Through is_first cell one) column free = absurd (cc)

-- a cell behind a line of rules has its key and its rows still
rest-rows : (f : Content) (l : Left) → (rest_by f l).rows ≡ l.rows
rest-rows (Block measure lines) l = refl
rest-rows (Text bytes) l = refl
rest-rows (Ruled sign) l = refl
rest-rows Short l = refl
rest-rows (Repeated b) l = refl
rest-rows Above l = refl

rest-key : (f : Content) (l : Left) → (rest_by f l).key ≡ l.key
rest-key (Block measure lines) l = refl
rest-key (Text bytes) l = refl
rest-key (Ruled sign) l = refl
rest-key Short l = refl
rest-key (Repeated b) l = refl
rest-key Above l = refl

abbrev pub through_by : Bool → Bool → Left → Left
through_by up is_here l = if up then (if is_here then rest_by l.field l else record l { lead = l.lead - 1 }) else l

through-by-rows : (up is_here : Bool) (l : Left) → (through_by up is_here l).rows ≡ l.rows
through-by-rows false is_here l = refl
through-by-rows true true l = rest-rows l.field l
through-by-rows true false l = refl

through-by-key : (up is_here : Bool) (l : Left) → (through_by up is_here l).key ≡ l.key
through-by-key false is_here l = refl
through-by-key true true l = rest-key l.field l
through-by-key true false l = refl

pub through-rows : (l : Left) → (through_rule l).rows ≡ l.rows
through-rows l = through-by-rows (goes_on l) (l.lead == 0) l

pub through-key : (l : Left) → (through_rule l).key ≡ l.key
through-key l = through-by-key (goes_on l) (l.lead == 0) l

-- whether columns are free, and whether boundaries stand within a cell, one by one
frees-from : (first : Bool) (own : Left) (c : Column) (n : ℕ) → map is_free (overs_from first own c n) ≡ replicate n false
frees-from first own c zero = refl
frees-from first own c (suc n) = ap (λ (rest : List Bool). false ∷ rest) (frees-from false own c n)

frees-none : (n : ℕ) → map is_free (replicate n Free) ≡ replicate n true
frees-none zero = refl
frees-none (suc n) = ap (λ (rest : List Bool). true ∷ rest) (frees-none n)

abbrev pub within_flags : Bool → ℕ → List Bool
within_flags up zero = []
within_flags up (suc n) = false ∷ replicate n up

withins-later : (own : Left) (c : Column) (n : ℕ) → map is_within (overs_from false own c n) ≡ replicate n true
withins-later own c zero = refl
withins-later own c (suc n) = ap (λ (rest : List Bool). true ∷ rest) (withins-later own c n)

withins-first : (own : Left) (c : Column) (n : ℕ) → map is_within (overs_from true own c n) ≡ within_flags true n
withins-first own c zero = refl
withins-first own c (suc n) = ap (λ (rest : List Bool). false ∷ rest) (withins-later own c n)

withins-free : (n : ℕ) → map is_within (replicate n Free) ≡ replicate n false
withins-free zero = refl
withins-free (suc n) = ap (λ (rest : List Bool). false ∷ rest) (withins-free n)

withins-none : (n : ℕ) → map is_within (replicate n Free) ≡ within_flags false n
withins-none zero = refl
withins-none (suc n) = ap (λ (rest : List Bool). false ∷ rest) (withins-free n)

abbrev overs_by : Bool → Left → List Column → List Over
overs_by up own columns = if up then overs_from true own (as_one columns) (length columns) else replicate (length columns) Free

frees-by : (up : Bool) (own : Left) (columns : List Column) → map is_free (overs_by up own columns) ≡ replicate (length columns) (not up)
frees-by true own columns = frees-from true own (as_one columns) (length columns)
frees-by false own columns = frees-none (length columns)

withins-by : (up : Bool) (own : Left) (columns : List Column) → map is_within (overs_by up own columns) ≡ within_flags up (length columns)
withins-by true own columns = withins-first own (as_one columns) (length columns)
withins-by false own columns = withins-none (length columns)

pub frees-of : (own : Left) (columns : List Column) → map is_free (overs_of own columns) ≡ replicate (length columns) (not (goes_on own))
frees-of own columns = frees-by (goes_on own) own columns

pub withins-of : (own : Left) (columns : List Column) → map is_within (overs_of own columns) ≡ within_flags (goes_on own) (length columns)
withins-of own columns = withins-by (goes_on own) own columns

-- as they are read one by one
pub free-read : (all : List Over) (column : ℕ) → is_free (over_at all column) ≡ get_or (map is_free all) column true
free-read [] zero = refl
free-read [] (suc column) = refl
free-read (o ∷ all) zero = refl
free-read (o ∷ all) (suc column) = free-read all column

pub within-read : (all : List Over) (boundary : ℕ) → is_within (over_at all boundary) ≡ get_or (map is_within all) boundary false
within-read [] zero = refl
within-read [] (suc boundary) = refl
within-read (o ∷ all) zero = refl
within-read (o ∷ all) (suc boundary) = within-read all boundary

pub alike-read : (all other : List Over) → map is_free all ≡ map is_free other → map is_within all ≡ map is_within other → AlikeOvers all other
alike-read all other free within = record {
  free = λ column. free-read all column ∙ ap (λ (f : List Bool). get_or f column true) free ∙ sym (free-read other column);
  within = λ boundary. within-read all boundary ∙ ap (λ (f : List Bool). get_or f boundary false) within ∙ sym (within-read other boundary);
}

-- cells of the same columns and rows go through the same
module _ (f : Left → Left) (key : (l : Left) → (f l).key ≡ l.key) (rows : (l : Left) → (f l).rows ≡ l.rows) where
  frees-map : (cells : List Left) (from : ℕ) (columns : List Column)
      → map is_free (overs from (map f cells) columns) ≡ map is_free (overs from cells columns)
  frees-map [] from columns = refl
  frees-map (own ∷ cells) from columns =
      let next = f own in
      let by : ℕ → List Bool = λ end. map is_free (overs_of next (take (end - from) columns) ++ overs end (map f cells) (drop (end - from) columns)) in
      let front = take (own.key.end - from) columns in
      let behind = drop (own.key.end - from) columns in
      let rest = overs own.key.end (map f cells) behind in
      ap by (ap (λ k. k.end) (key own))
      ∙ map-append is_free (overs_of next front) rest
      ∙ ap (λ (bs : List Bool). bs ++ map is_free rest)
      (frees-of next front ∙ ap (λ (n : ℕ). replicate (length front) (not (nat_lt 0 n))) (rows own) ∙ sym (frees-of own front))
      ∙ ap (λ (bs : List Bool). map is_free (overs_of own front) ++ bs) (frees-map cells own.key.end behind)
      ∙ sym (map-append is_free (overs_of own front) (overs own.key.end cells behind))

  withins-map : (cells : List Left) (from : ℕ) (columns : List Column)
      → map is_within (overs from (map f cells) columns) ≡ map is_within (overs from cells columns)
  withins-map [] from columns = refl
  withins-map (own ∷ cells) from columns =
      let next = f own in
      let by : ℕ → List Bool = λ end. map is_within (overs_of next (take (end - from) columns) ++ overs end (map f cells) (drop (end - from) columns)) in
      let front = take (own.key.end - from) columns in
      let behind = drop (own.key.end - from) columns in
      let rest = overs own.key.end (map f cells) behind in
      ap by (ap (λ k. k.end) (key own))
      ∙ map-append is_within (overs_of next front) rest
      ∙ ap (λ (bs : List Bool). bs ++ map is_within rest)
      (withins-of next front ∙ ap (λ (n : ℕ). within_flags (nat_lt 0 n) (length front)) (rows own) ∙ sym (withins-of own front))
      ∙ ap (λ (bs : List Bool). map is_within (overs_of own front) ++ bs) (withins-map cells own.key.end behind)
      ∙ sym (map-append is_within (overs_of own front) (overs own.key.end cells behind))

  pub overs-map : (cells : List Left) (columns : List Column) → AlikeOvers (overs 0 (map f cells) columns) (overs 0 cells columns)
  overs-map cells columns =
      alike-read (overs 0 (map f cells) columns) (overs 0 cells columns) (frees-map cells 0 columns) (withins-map cells 0 columns)

-- cells behind a line of rules go through the next one as they went through it
pub overs-alike : (cells : List Left) (columns : List Column) → AlikeOvers (overs 0 (map through_rule cells) columns) (overs 0 cells columns)
overs-alike = overs-map through_rule through-key through-rows
