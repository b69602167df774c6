-- What stands on a line of rules through which no cell goes shows the marks of the plain one.
use Rattle.std.proofs.Common.{◌≡◌, ℕ, zero, suc, ◌+◌, ◌-◌, ◌<◌, ◌≤◌, Bool, false, List, [], ◌∷◌, ◌++◌, length, map, replicate, Option, None, Some, refl, sym, ap, subst, ◌∙◌, arith, if◌then◌else◌, ◌==◌, append-nil}
use Rattle.std.proofs.lemmas.List.{length-replicate}
use Rattle.input_source.specs.Bytes.{blank}
use Rattle.tbl_layout.specs.Columns.{bar_place, bars_end}
use Rattle.tbl_layout.specs.DataLines.{sign_byte}
use Rattle.tbl_layout.specs.Entries.{before_glyphs, up_to_last_glyph}
use Rattle.tbl_layout.specs.declared.columns.Column.{Column}
use Rattle.tbl_layout.specs.declared.data_lines.RuleSign.{RuleSign}
use Rattle.tbl_layout.specs.declared.data_lines.RuleSign.TheVariants.{Double, Single}
use Rattle.tbl_lines.specs.LinesLeft.{Beside, Free, Over, Shown, all_shown, bars_met, bars_there, drawn_at, edge, front_between, fronts_between, if_drawn, if_ruled, is_within, over_at, over_shown, rules_edge, shown_cell}
use Rattle.tbl_lines.specs.PictureLines.{Cell, Mark, Neighbour, OfKeys, RuleLine, Sheet, Whole, bar, crossing, edge_byte, edge_mark, last_mark, met_behind, one_run, parts_from, places_mark, repeated, ruled_places, sign_in_front, sign_over, with_fronts}
use Rattle.tbl_lines.proofs.RulesDrawn.{AllShow, AreGlyphs, Shows, ShowsNone, ShowsRuns, glyphs-append}

-- a byte that is no blank, so many times
glyphs-by : (bytes : List ℕ) (columns : ℕ) (rest : List ℕ)
    → before_glyphs (record { bytes = bytes; to_glyph = bytes; columns = columns }) rest ≡ bytes ++ rest
glyphs-by bytes columns [] = sym (append-nil bytes)
glyphs-by bytes columns (b ∷ rest) = refl

repeated-glyphs : (b count : ℕ) → (b == blank) ≡ false → AreGlyphs (repeated b count ∷ []) (replicate count b)
repeated-glyphs b count some =
    let bytes = replicate count b in
    let only = repeated b count ∷ [] in
    record {
      given = λ more.
          let rest = up_to_last_glyph more in
          ap (λ (t : Bool). before_glyphs (record { bytes = bytes; to_glyph = if t then [] else bytes; columns = count }) rest) some
          ∙ glyphs-by bytes count rest;
      wide = omega (arith, length-replicate count b);
    }

sign-some : (sign : RuleSign) → (sign_byte sign == blank) ≡ false
sign-some Single = refl
sign-some Double = refl

edge-some : (line : RuleLine) → (edge_byte line == blank) ≡ false
edge-some (Whole sign) = refl
edge-some (OfKeys format) = refl

-- an edge
edge-is : (line : RuleLine) (at n : ℕ) → edge (rules_edge line Free) at (suc n) ≡ one_run at (repeated (edge_byte line) (suc n))
edge-is (Whole sign) at n = refl
edge-is (OfKeys format) at n = refl

pub edge-shows : (line : RuleLine) (at n : ℕ) → Shows (edge (rules_edge line Free) at n) (edge_mark line at n)
edge-shows line at zero = ShowsNone refl refl
edge-shows line at (suc n) =
    subst (λ (c : Cell). Shows c (edge_mark line at (suc n))) (sym (edge-is line at n))
    (ShowsRuns (repeated (edge_byte line) (suc n)) [] refl refl (repeated-glyphs (edge_byte line) (suc n) (edge-some line)))

-- what stands over a column
abbrev pub over_column : Option RuleSign → ℕ → ℕ → Shown
over_column None from to = drawn_at from bar 0
over_column (Some sign) from to = drawn_at from (sign_byte sign) (to - from)

drawn-is : (sign : Option RuleSign) (from to : ℕ) → if_drawn sign from to ≡ over_column sign from to ∷ []
drawn-is None from to = refl
drawn-is (Some sign) from to = refl

over-shows : (sign : Option RuleSign) (from to : ℕ) → Shows (shown_cell (over_column sign from to)) (last_mark sign from to)
over-shows None from to = ShowsRuns (repeated bar 0) [] refl refl (repeated-glyphs bar 0 refl)
over-shows (Some sign) from to =
    ShowsRuns (repeated (sign_byte sign) (to - from)) [] refl refl (repeated-glyphs (sign_byte sign) (to - from) (sign-some sign))

-- and between two
ruled-shows : (sign : RuleSign) (n : ℕ) (c d : Column)
    → Shows (if_ruled (Some sign) (c.start + c.width) n c d (bars_end c d)) (ruled_places sign (c.start + c.width) n c d)
ruled-shows sign n c d =
    let b = sign_byte sign in
    let from = c.start + c.width in
    let at = bar_place n c d in
    let front = repeated b (at - from) ∷ [] in
    let behind = repeated b (bars_end c d - (at + n)) ∷ [] in
    ShowsRuns (repeated b (at - from)) (repeated crossing n ∷ behind) refl refl
    (glyphs-append front (repeated crossing n ∷ behind) (replicate (at - from) b) (replicate n crossing ++ replicate (bars_end c d - (at + n)) b)
    (repeated-glyphs b (at - from) (sign-some sign))
    (glyphs-append (repeated crossing n ∷ []) behind (replicate n crossing) (replicate (bars_end c d - (at + n)) b) (repeated-glyphs crossing n refl)
    (repeated-glyphs b (bars_end c d - (at + n)) (sign-some sign))))

bars-show : (n : ℕ) (c d : Column) → Shows (bars_there (bar_place n c d) n) (record { at = bar_place n c d; bytes = replicate n bar })
bars-show zero c d = ShowsNone refl refl
bars-show (suc n) c d = ShowsRuns (repeated bar (suc n)) [] refl refl (repeated-glyphs bar (suc n) refl)

between-by : (sign next : Option RuleSign) (n : ℕ) (c d : Column) → (sign ≡ None → next ≡ None)
    → Shows (if_ruled sign (c.start + c.width) n c d (bars_end c d)) (places_mark sign next n c d)
between-by (Some sign) next n c d none = ruled-shows sign n c d
between-by None next n c d none =
    subst (λ (other : Option RuleSign). Shows (bars_there (bar_place n c d) n) (places_mark None other n c d)) (sym (none refl)) (bars-show n c d)

pub unruled-next : (line : RuleLine) (column : ℕ) → sign_over line column ≡ None → sign_in_front line (suc column) ≡ None
unruled-next (Whole sign) column none = absurd (cc)
unruled-next (OfKeys format) column none = refl

-- along all columns
module _ (s : Sheet) (line : RuleLine) (over under : Neighbour) where
  abbrev met : ℕ → ℕ
  met column = met_behind s.bars line over under column

  abbrev front_free : ℕ → ℕ → Column → Column → Cell
  front_free column n c d = if_ruled (sign_over line column) (c.start + c.width) n c d (bars_end c d)

  abbrev pub fronts_free : ℕ → List Column → List Cell
  fronts_free column [] = []
  fronts_free column (c ∷ []) = []
  fronts_free column (c ∷ d ∷ columns) = front_free column (met column) c d ∷ fronts_free (suc column) (d ∷ columns)

  abbrev pub shown_free : ℕ → ℕ → ℕ → List Column → List Shown
  shown_free column from to [] = []
  shown_free column from to (c ∷ []) = over_column (sign_over line column) from to ∷ []
  shown_free column from to (c ∷ d ∷ columns) =
      over_column (sign_over line column) from (c.start + c.width) ∷ shown_free (suc column) (bars_end c d) to (d ∷ columns)

  abbrev pub cells_free : Cell → Cell → ℕ → ℕ → ℕ → List Column → List Cell
  cells_free front last column from to columns =
      with_fronts (front ∷ fronts_free column columns ++ last ∷ []) (map shown_cell (shown_free column from to columns))

  pub all-show : (front last : Cell) (m end : Mark) (column from to : ℕ) (c : Column) (columns : List Column) → Shows front m → Shows last end
      → AllShow (cells_free front last column from to (c ∷ columns)) (m ∷ parts_from s.bars line over under column from to (c ∷ columns) ++ end ∷ [])
  all-show front last m end column from to c [] first behind = (first, (over-shows (sign_over line column) from to, (behind, tt)))
  all-show front last m end column from to c (d ∷ columns) first behind = (
    first,
    (
      over-shows (sign_over line column) from (c.start + c.width),
      all-show (front_free column (met column) c d) last (places_mark (sign_over line column) (sign_in_front line (suc column)) (met column) c d) end
          (suc column) (bars_end c d) to d columns
          (between-by (sign_over line column) (sign_in_front line (suc column)) (met column) c d (unruled-next line column)) behind,
    ),
  )

  module _ (all : List Over) (free : (column : ℕ) → over_at all column ≡ Free) where
    pub shown-are : (column from to : ℕ) (columns : List Column) → all_shown line all column from to columns ≡ shown_free column from to columns
    shown-are column from to [] = refl
    shown-are column from to (c ∷ []) =
        ap (λ (o : Over). over_shown line column o from to) (free column) ∙ drawn-is (sign_over line column) from to
    shown-are column from to (c ∷ d ∷ columns) =
        let end = c.start + c.width in
        let others = all_shown line all (suc column) (bars_end c d) to (d ∷ columns) in
        ap (λ (o : Over). over_shown line column o from end ++ others) (free column)
        ∙ ap (λ (first : List Shown). first ++ others) (drawn-is (sign_over line column) from end)
        ∙ ap (λ (rest : List Shown). over_column (sign_over line column) from end ∷ rest) (shown-are (suc column) (bars_end c d) to (d ∷ columns))

    pub fronts-are : (above below : Beside)
        → ((column : ℕ) → suc column < length s.columns → bars_met s.bars (length s.columns) line all above below (suc column) ≡ met column)
        → (column : ℕ) (columns : List Column) → column + length columns ≤ length s.columns
        → fronts_between s line all above below column columns ≡ fronts_free column columns
    fronts-are above below met_is column [] few = refl
    fronts-are above below met_is column (c ∷ []) few = refl
    fronts-are above below met_is column (c ∷ d ∷ columns) few =
        let n = bars_met s.bars (length s.columns) line all above below (suc column) in
        let others = fronts_between s line all above below (suc column) (d ∷ columns) in
        ap (λ (o : Over). if is_within o then others else front_between line column (over_at all column) o n c d ∷ others) (free (suc column))
        ∙ ap (λ (o : Over). front_between line column o Free n c d ∷ others) (free column)
        ∙ ap (λ (k : ℕ). front_free column k c d ∷ others) (met_is column (omega (arith, few)))
        ∙ ap (λ (rest : List Cell). front_free column (met column) c d ∷ rest)
        (fronts-are above below met_is (suc column) (d ∷ columns) (omega (arith, few)))
