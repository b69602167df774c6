-- The bars of a line of rules, step by step.
use Rattle.std.proofs.Common.{◌≡◌, ℕ, suc, ◌+◌, ◌-◌, ◌<◌, ◌≤◌, max, Bool, true, false, ◌||◌, List, [], ◌∷◌, ◌++◌, length, get_or, inl, inr, refl, sym, ap, ◌∙◌, arith, if◌then◌else◌}
use Rattle.std.proofs.lemmas.Bool.{cases_lt}
use Rattle.std.proofs.lemmas.List.{get_or-append_right, get_or_append_left}
use Rattle.tbl_format.specs.Format.{FormatRow}
use Rattle.tbl_layout.specs.declared.bars.Bars.{Bars}
use Rattle.tbl_options.specs.declared.options.Boxing.{Boxing}
use Rattle.tbl_lines.specs.LinesLeft.{Beside, OfRules, Over, bars_met, is_within, over_at, own_bars, rules_boundary, shown_bars}
use Rattle.tbl_lines.specs.PictureLines.{RuleLine}
use Rattle.tbl_tall.specs.Bands.{AlikeLines, AlikeOvers, BandFits, BandStands, KeptBand, ShowSame, band_line, lines_among, lines_behind, passed_bars, rest_shown}
use Rattle.tbl_tall.proofs.BandsAlike.{alike-self, among-alike, rules-alike, shown-alike}

-- what a line of rules shows, by whether it rules a boundary, and whether that stands within a cell; and how many bars meet there
abbrev pub shown_by : Bool → Bool → ℕ → ℕ → ℕ
shown_by r w own rest = if r || w then 0 else max own rest

abbrev pub met_by : Bool → Bool → ℕ → ℕ → ℕ → ℕ
met_by w r own above rest = if w then 0 else if r then max above rest else max own (max above rest)

none-shown : (r w : Bool) (own rest : ℕ) → r ≡ true → shown_by r w own rest ≡ 0
none-shown true w own rest is = refl
none-shown false w own rest is = absurd (cc)

none-within : (r w : Bool) (own rest : ℕ) → w ≡ true → shown_by r w own rest ≡ 0
none-within true w own rest is = refl
none-within false true own rest is = refl
none-within false false own rest is = absurd (cc)

more-shown : (r w : Bool) (own rest : ℕ) → r ≡ false → w ≡ false → shown_by r w own rest ≡ max own rest
more-shown true w own rest is out = absurd (cc)
more-shown false true own rest is out = absurd (cc)
more-shown false false own rest is out = refl

module _ (formats : List FormatRow) (boxing : Boxing) (columns : ℕ) (b : KeptBand) (all : List Over) (below : Beside) (boundary : ℕ) where
  abbrev rest_at : ℕ → ℕ
  rest_at at = rest_shown formats boxing columns b all below at boundary

  abbrev ruled_at : ℕ → Bool
  ruled_at at = rules_boundary columns (band_line formats b at) all boundary

  abbrev inside : Bool
  inside = is_within (over_at all boundary)

  abbrev own_at : ℕ → ℕ
  own_at at = own_bars boxing columns (band_line formats b at) boundary

  -- the lines from one on show what that one does, above the others
  pub rest-line : (at : ℕ) → at < b.wholes + b.count → rest_at at ≡ shown_by (ruled_at at) inside (own_at at) (rest_at (at + 1))
  rest-line at more =
      let left : b.wholes + b.count - at ≡ suc (b.wholes + b.count - (at + 1)) = omega (arith, more) in
      let next : suc at ≡ at + 1 = omega arith in
      let behind : ℕ → ℕ = λ m. shown_bars boxing columns (lines_among formats b.wholes b.first all m (b.wholes + b.count -
      (at + 1)) below) boundary in
      ap (λ (n : ℕ). shown_bars boxing columns (lines_among formats b.wholes b.first all at n below) boundary) left
      ∙ ap (λ (m : ℕ). shown_by (ruled_at at) inside (own_at at) (behind m)) next

  -- along lines that don't rule a boundary, which is not within a cell
  module _ (out : inside ≡ false) (start most : ℕ) where
    pub stretch-ruled : (at : ℕ) → at < b.wholes + b.count → ruled_at at ≡ true → max most (rest_at at) ≡ rest_at start → most ≡ rest_at start
    stretch-ruled at more ruled so_far =
        omega (arith, so_far, rest-line at more, none-shown (ruled_at at) inside (own_at at) (rest_at (at + 1)) ruled)

    pub stretch-next : (at own : ℕ) → at < b.wholes + b.count → ruled_at at ≡ false → own ≡ own_at at → max most (rest_at at) ≡ rest_at start
        → max (max own most) (rest_at (at + 1)) ≡ rest_at start
    stretch-next at own more free is so_far =
        omega (arith, so_far, is, rest-line at more, more-shown (ruled_at at) inside (own_at at) (rest_at (at + 1)) free out)

met-crossed : (w r : Bool) (own above rest : ℕ) → w ≡ false → r ≡ true → met_by w r own above rest ≡ max above rest
met-crossed true r own above rest out is = absurd (cc)
met-crossed false true own above rest out is = refl
met-crossed false false own above rest out is = absurd (cc)

met-open : (w r : Bool) (own above rest : ℕ) → w ≡ false → r ≡ false → met_by w r own above rest ≡ max own (max above rest)
met-open true r own above rest out is = absurd (cc)
met-open false true own above rest out is = absurd (cc)
met-open false false own above rest out is = refl

-- how many bars meet on the line that comes next, or stand there
module _ {formats : List FormatRow} {bars : Bars} {columns : ℕ} {b : KeptBand} {all : List Over} {above below : Beside} {boundary : ℕ}
    (stands : BandStands formats bars columns b all above below) (next : b.at < b.wholes + b.count) (few : boundary ≤ columns) where
  abbrev kept : ℕ
  kept = get_or b.above boundary 0

  abbrev up : ℕ
  up = shown_bars bars.boxing columns above boundary

  abbrev rest : ℕ → ℕ
  rest at = rest_shown formats bars.boxing columns b all below at boundary

  abbrev ruled : Bool
  ruled = rules_boundary columns (band_line formats b b.at) all boundary

  abbrev cut : Bool
  cut = is_within (over_at all boundary)

  abbrev own : ℕ
  own = own_bars bars.boxing columns (band_line formats b b.at) boundary

  abbrev meets : ℕ
  meets = bars_met (record bars { has_any = true }) columns (band_line formats b b.at) all above (lines_behind formats b all
      (b.at + 1) below) boundary

  pub meets-ruled : cut ≡ false → ruled ≡ true → max (rest (b.at + 1)) kept ≡ meets
  meets-ruled out is =
      omega (
        arith,
        stands.met boundary few,
        rest-line formats bars.boxing columns b all below boundary b.at next,
        none-shown ruled cut own (rest (b.at + 1)) is,
        met-crossed cut ruled own up (rest (b.at + 1)) out is,
      )

  pub meets-held : cut ≡ false → ruled ≡ false → 0 < b.at → rules_boundary columns (band_line formats b (b.at - 1)) all boundary ≡ false
      → kept ≡ meets
  meets-held out free some before =
      omega (
        arith,
        stands.met boundary few,
        stands.held boundary few some next before,
        rest-line formats bars.boxing columns b all below boundary b.at next,
        more-shown ruled cut own (rest (b.at + 1)) free out,
        met-open cut ruled own up (rest (b.at + 1)) out free,
      )

  pub meets-free : cut ≡ false → ruled ≡ false → max (rest b.at) kept ≡ meets
  meets-free out free =
      omega (
        arith,
        stands.met boundary few,
        rest-line formats bars.boxing columns b all below boundary b.at next,
        more-shown ruled cut own (rest (b.at + 1)) free out,
        met-open cut ruled own up (rest (b.at + 1)) out free,
      )

-- behind the line
passed-met : (r w : Bool) (own up rest : ℕ) → max (if r then 0 else met_by w r own up rest) rest ≡ max (shown_by r w own up) rest
passed-met true w own up rest = refl
passed-met false true own up rest = refl
passed-met false false own up rest = omega arith

passed-held : (r w : Bool) (own up rest : ℕ) → r ≡ false → (w ≡ true → rest ≡ 0) → rest ≤ (if r then 0 else met_by w r own up rest)
passed-held true w own up rest free none = absurd (cc)
passed-held false true own up rest free none = omega (arith, none refl)
passed-held false false own up rest free none = omega arith

module _ (formats : List FormatRow) (bars : Bars) (columns : ℕ) (b : KeptBand) (all : List Over) (above below : Beside)
    (stands : BandStands formats bars columns b all above below) (next : b.at < b.wholes + b.count) (xs : List ℕ)
    (many : length xs ≡ length b.through + 1)
    (are : (boundary : ℕ) → boundary ≤ columns → get_or xs boundary 0
    ≡ passed_bars bars columns (band_line formats b b.at) all above (lines_behind formats b all (b.at + 1) below) boundary) where
  abbrev passed : KeptBand
  passed = record b { above = xs; at = b.at + 1 }

  passed-fits : BandFits formats passed
  passed-fits = record {
    some = stands.fits.some;
    few = stands.fits.few;
    boundaries = many;
    boundaries_below = stands.fits.boundaries_below;
    given = omega (arith, next);
    rows = stands.fits.rows;
    places = stands.fits.places;
    small = stands.fits.small;
  }

  here-ruled : (boundary : ℕ) → rules_boundary columns (band_line formats passed (b.at + 1 - 1)) all boundary ≡ false
      → rules_boundary columns (band_line formats b b.at) all boundary ≡ false
  here-ruled boundary free =
      let same : b.at ≡ b.at + 1 - 1 = omega arith in
      ap (λ (at : ℕ). rules_boundary columns (band_line formats b at) all boundary) same ∙ free

  pub passed-stands : BandStands formats bars columns passed all (OfRules (band_line formats b b.at) all above) below
  passed-stands = record {
    fits = passed-fits;
    as_many = stands.as_many;
    through = stands.through;
    below_shown = stands.below_shown;
    met = λ boundary few.
        let r = rules_boundary columns (band_line formats b b.at) all boundary in
        let w = is_within (over_at all boundary) in
        let own = own_bars bars.boxing columns (band_line formats b b.at) boundary in
        let rest = rest_shown formats bars.boxing columns b all below (b.at + 1) boundary in
        ap (λ (n : ℕ). max n rest) (are boundary few) ∙ passed-met r w own (shown_bars bars.boxing columns above boundary) rest;
    held = λ boundary few some more free.
        let r = rules_boundary columns (band_line formats b b.at) all boundary in
        let w = is_within (over_at all boundary) in
        let own = own_bars bars.boxing columns (band_line formats b b.at) boundary in
        let rest = rest_shown formats bars.boxing columns b all below (b.at + 1) boundary in
        let none : w ≡ true → rest ≡ 0 = λ is.
        rest-line formats bars.boxing columns b all below boundary (b.at + 1) more
        ∙ none-within (rules_boundary columns (band_line formats b (b.at + 1)) all boundary) w
        (own_bars bars.boxing columns (band_line formats b (b.at + 1)) boundary)
        (rest_shown formats bars.boxing columns b all below (b.at + 1 + 1) boundary) is in
        omega (arith, are boundary few, passed-held r w own (shown_bars bars.boxing columns above boundary) rest (here-ruled boundary free) none);
  }

-- told of other cells that go through the same columns, and of a line above that shows the same bars
pub stands-alike : (formats : List FormatRow) (bars : Bars) (columns : ℕ) (b : KeptBand) (all other : List Over) (above beside below : Beside)
    → BandStands formats bars columns b all above below → AlikeOvers all other → ShowSame bars.boxing columns above beside
    → BandStands formats bars columns b other beside below
stands-alike formats bars columns b all other above beside below stands cells same =
    let boxing = bars.boxing in
    let rest : (boundary : ℕ) → rest_shown formats boxing columns b all below b.at boundary ≡ rest_shown formats boxing columns b other below b.at
    boundary
    = λ boundary. among-alike formats boxing columns b.wholes b.first all other cells below below boundary refl (b.wholes + b.count - b.at) b.at in
    record {
      fits = stands.fits;
      as_many = stands.as_many;
      through = record {
        free = λ column. stands.through.free column ∙ cells.free column;
        within = λ boundary. stands.through.within boundary ∙ cells.within boundary;
      };
      below_shown = stands.below_shown;
      met = λ boundary few. omega (arith, stands.met boundary few, rest boundary, same boundary few);
      held = λ boundary few some more free.
          let line = band_line formats b (b.at - 1) in
          omega (
            arith,
            rest boundary,
            stands.held boundary few some more (rules-alike boxing columns line line all other (alike-self line) cells boundary ∙ free),
          );
    }

pub overs-self : (all : List Over) → AlikeOvers all all
overs-self all = record { free = λ column. refl; within = λ boundary. refl }

-- and behind the line as it is
pub pass-stands : (formats : List FormatRow) (bars : Bars) (columns : ℕ) (b : KeptBand) (all other : List Over) (line : RuleLine)
    (above below : Beside)
    (xs : List ℕ) → BandStands formats bars columns b all above below → b.at < b.wholes + b.count → length xs ≡ length b.through + 1
    → ((boundary : ℕ) → boundary ≤ columns → get_or xs boundary 0
    ≡ passed_bars bars columns (band_line formats b b.at) all above (lines_behind formats b all (b.at + 1) below) boundary)
    → AlikeOvers all other → AlikeLines line (band_line formats b b.at)
    → BandStands formats bars columns (record b { above = xs; at = b.at + 1 }) other (OfRules line all above) below
pass-stands formats bars columns b all other line above below xs stands next many are cells lines =
    stands-alike formats bars columns (record b { above = xs; at = b.at + 1 }) all other (OfRules (band_line formats b b.at) all above)
    (OfRules line all above) below (passed-stands formats bars columns b all above below stands next xs many are) cells
    (λ boundary few. sym (shown-alike bars.boxing columns line (band_line formats b b.at) all all lines (overs-self all) above above boundary refl))

-- one boundary more
pub counts-next : (f : ℕ → ℕ) (xs : List ℕ) (v n : ℕ) → length xs ≡ n → v ≡ f n → ((boundary : ℕ) → boundary < n → get_or xs boundary 0 ≡ f boundary)
    → (boundary : ℕ) → boundary < n + 1 → get_or (xs ++ v ∷ []) boundary 0 ≡ f boundary
counts-next f xs v n many is before boundary few = elim (cases_lt boundary n) [
  | inl less ↦ get_or_append_left xs (v ∷ []) 0 boundary (omega (arith, less, many)) ∙ before boundary less
  | inr past ↦
      let none : boundary - n ≡ 0 = omega (arith, past, few) in
      let here : n ≡ boundary = omega (arith, past, few) in
      get_or-append_right xs (v ∷ []) n boundary 0 many past ∙ ap (λ (i : ℕ). get_or (v ∷ []) i 0) none ∙ is ∙ ap f here
]
