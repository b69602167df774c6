-- What stands in front of the columns of a row: how much it is, one of it, and what it is on further lines.
use Rattle.std.proofs.Common.{◌≡◌, ◌≢◌, ℕ, zero, suc, ◌+◌, ◌*◌, ◌-◌, ◌<◌, ◌≤◌, max, Bool, true, false, List, [], ◌∷◌, ◌++◌, length, drop, get_or, map, refl, sym, ap, subst, ◌∙◌, arith, length-append, Option, Some, None, if◌then◌else◌, ltb-true, ltb-false, drop-drop}
use Rattle.std.specs.Option.{MatchOption}
use Rattle.tbl_format.specs.Format.{FormatRow}
use Rattle.tbl_options.specs.declared.options.Boxing.{Boxing}
use Rattle.tbl_layout.specs.DataLines.{sign_byte}
use Rattle.tbl_layout.specs.Entries.{Run, up_to_last_glyph}
use Rattle.tbl_layout.specs.declared.bars.Bars.{Bars}
use Rattle.tbl_layout.specs.declared.columns.Column.{Column}
use Rattle.tbl_layout.specs.declared.data_lines.RuleSign.{RuleSign}
use Rattle.tbl_layout.specs.declared.data_lines.RuleSign.TheVariants.{Double, Single}
use Rattle.tbl_layout.specs.KeptEntries.{no_entry}
use Rattle.tbl_layout.specs.declared.entry.Entry.{Entry}
use Rattle.tbl_layout.specs.declared.entry.EntryKind.{EntryKind}
use Rattle.tbl_layout.specs.declared.entry.EntryKind.TheVariants.{Above, Block, Repeated, Ruled, Short, Split, Text}
use Rattle.tbl_lines.specs.PictureLines.{Cell, bar, bars_at, bars_at_edge, bars_between, bars_by, crossed_at, crossing, repeated, right_bars, with_fronts}
use Rattle.tbl_lines.specs.RowsLeft.{all_between_by, behind_first, cell_of_front, first_cell, first_of, from_line, fronts_by, is_there, joined_first, joined_kinds, ruled_runs}
use Rattle.tbl_lines.specs.RowsWalked.{HasBars, HasGlyph, front_count}
use Rattle.tbl_lines.specs.RowsLent.{HasFronts, WalkedRow, fronts_given, fronts_of, row_fronts_of}
use Rattle.tbl_lines.specs.declared.fronts.Front.{Front}
use Rattle.tbl_lines.specs.declared.fronts.Front.TheVariants.{Bars as SomeBars, Crossed, Nothing as NoFront, Ruled as RuledFront}
use Rattle.tbl_lines.proofs.RowColumns.{drop-none}
use Rattle.tbl_lines.proofs.RunsGiven.{glyph-before, glyph-behind}

-- how many there are
between-count : (b : Boxing) (format : FormatRow) (k : ℕ) (columns : List Column) (entries : List Entry)
    → suc (length (all_between_by b format k columns entries)) ≡ max 1 (length columns)
between-count b format k [] entries = refl
between-count b format k (c ∷ []) entries = refl
between-count b format k (c ∷ d ∷ columns) entries = omega (arith, between-count b format (suc k) (d ∷ columns) (drop 1 entries))

-- where there is one the picture may have bars
some-if : (t : Bool) (xs : List Cell) (at : ℕ) → at < length (if t then xs else []) → t ≡ true
some-if true xs at some = refl
some-if false xs at some = absurd (omega (arith, some))

-- between two columns
drop-one : (n : ℕ) (entries : List Entry) → drop n (drop 1 entries) ≡ drop (suc n) entries
drop-one zero [] = refl
drop-one (suc n) [] = refl
drop-one n (e ∷ entries) = refl

between-at : (b : Boxing) (format : FormatRow) (k : ℕ) (columns : List Column) (entries : List Entry) (rest : List Cell) (n : ℕ) (d : Column)
    → suc n < length columns
    → drop n (all_between_by b format k columns entries ++ rest)
    ≡ bars_by (joined_first (drop n entries)) (bars_between b format (suc (k + n))) (get_or columns n d) (get_or columns (suc n) d)
    ∷ drop (suc n) (all_between_by b format k columns entries ++ rest)
between-at b format k [] entries rest n d few = absurd (omega (arith, few))
between-at b format k (x ∷ []) entries rest n d few = absurd (omega (arith, few))
between-at b format k (x ∷ y ∷ columns) entries rest zero d few =
    let same : k ≡ k + 0 = omega arith in
    ap (λ (i : ℕ). bars_by (joined_first entries) (bars_between b format (suc i)) x y
    ∷ (all_between_by b format (suc k) (y ∷ columns) (drop 1 entries) ++ rest)) same
between-at b format k (x ∷ y ∷ columns) entries rest (suc n) d few =
    let same : suc k + n ≡ k + suc n = omega arith in
    let behind = drop (suc n) (all_between_by b format (suc k) (y ∷ columns) (drop 1 entries) ++ rest) in
    let one : List Entry → ℕ → Cell = λ es i.
    bars_by (joined_first es) (bars_between b format (suc i)) (get_or (y ∷ columns) n d) (get_or columns n d) in
    between-at b format (suc k) (y ∷ columns) (drop 1 entries) rest n d (omega (arith, few))
    ∙ ap (λ (es : List Entry). one es (suc k + n) ∷ behind) (drop-one n entries)
    ∙ ap (λ (i : ℕ). one (drop (suc n) entries) i ∷ behind) same

-- behind the last one
at-last : (xs : List Cell) (x : Cell) (n : ℕ) → n ≡ length xs → drop n (xs ++ x ∷ []) ≡ x ∷ drop (suc n) (xs ++ x ∷ [])
at-last [] x zero is = refl
at-last [] x (suc n) is = absurd (omega (arith, is))
at-last (y ∷ xs) x zero is = absurd (omega (arith, is))
at-last (y ∷ xs) x (suc n) is = at-last xs x n (omega (arith, is))

module _ (bars : Bars) (width : ℕ) (format : FormatRow) (columns : List Column) (entries : List Entry) where
  abbrev at-left : Cell
  at-left = bars_at 0 (bars_at_edge bars.boxing format 0)

  abbrev at-right : Cell
  at-right = right_bars width (bars_at_edge bars.boxing format (length columns))

  abbrev all : List Cell
  all = at-left ∷ all_between_by bars.boxing format 0 columns entries ++ at-right ∷ []

  abbrev these : List Cell
  these = fronts_by bars width format columns entries

  pub any-some : (at : ℕ) → at < length these → bars.has_any ≡ true
  any-some at some = some-if bars.has_any all at some

  module _ (any : bars.has_any ≡ true) where
    fronts-are : these ≡ all
    fronts-are = ap (λ (t : Bool). if t then all else []) any

    -- as many as columns, and one more
    pub front-count : length these ≡ front_count columns
    front-count =
        omega (
          arith,
          ap length fronts-are,
          between-count bars.boxing format 0 columns entries,
          length-append (all_between_by bars.boxing format 0 columns entries) (at-right ∷ []),
        )

    -- behind each field of a row there is one more
    pub many-fronts : (n : ℕ) → suc n ≤ length entries → length entries ≤ length columns → suc n < length these
    many-fronts n few short = omega (arith, few, short, front-count)

    -- one of them: in front of the first column
    pub front-begins : these ≡ at-left ∷ drop 1 these
    front-begins = fronts-are ∙ ap (λ (xs : List Cell). at-left ∷ drop 1 xs) (sym fronts-are)

    past-edge : (at : ℕ) → at ≢ 0 → length columns ≤ at → at < front_count columns → drop at all ≡ at-right ∷ drop (suc at) all
    past-edge zero other past few = absurd (other refl)
    past-edge (suc n) other past few =
        at-last (all_between_by bars.boxing format 0 columns entries) at-right n
        (omega (arith, past, few, between-count bars.boxing format 0 columns entries))

    pub front-edge : (at : ℕ) → at ≢ 0 → length columns ≤ at → at < front_count columns → drop at these ≡ at-right ∷ drop (suc at) these
    front-edge at other past few =
        ap (drop at) fronts-are ∙ past-edge at other past few ∙ ap (λ (xs : List Cell). at-right ∷ drop (suc at) xs) (sym fronts-are)

    -- and between two
    pub front-between : (n : ℕ) (d : Column) → suc n < length columns
        → drop (suc n) these
        ≡ bars_by (joined_first (drop n entries)) (bars_between bars.boxing format (suc n)) (get_or columns n d) (get_or columns (suc n) d)
        ∷ drop (suc (suc n)) these
    front-between n d few =
        let same : 0 + n ≡ n = omega arith in
        let behind : List Cell → List Cell = λ xs. drop (suc (suc n)) xs in
        let one : ℕ → Cell = λ i.
        bars_by (joined_first (drop n entries)) (bars_between bars.boxing format (suc i)) (get_or columns n d) (get_or columns (suc n) d) in
        ap (drop (suc n)) fronts-are
        ∙ between-at bars.boxing format 0 columns entries (at-right ∷ []) n d few
        ∙ ap (λ (i : ℕ). one i ∷ behind all) same
        ∙ ap (λ (xs : List Cell). one n ∷ behind xs) (sym fronts-are)

-- what stands in front of the cells of a row, by its keys or given: where there is one the picture may have bars
module _ (row : WalkedRow) where
  abbrev by_keys : List Cell
  by_keys = fronts_by row.bars row.width row.format row.columns row.entries

  some-given : (given : Option (List Cell)) (at : ℕ) → at < length (fronts_given row.bars given by_keys) → row.bars.has_any ≡ true
  some-given None at some = any-some row.bars row.width row.format row.columns row.entries at some
  some-given (Some fronts) at some = some-if row.bars.has_any fronts at some

  pub any-front : (at : ℕ) → at < length (row_fronts_of row) → row.bars.has_any ≡ true
  any-front at some = some-given row.fronts at some

  -- as many as columns, and one more
  count-given : row.bars.has_any ≡ true → (given : Option (List Cell)) → MatchOption given (Unit {0}) (λ fronts. length fronts ≡ front_count row.columns)
      → length (fronts_given row.bars given by_keys) ≡ front_count row.columns
  count-given any None count = front-count row.bars row.width row.format row.columns row.entries any
  count-given any (Some fronts) count = ap (λ (t : Bool). length (if t then fronts else [])) any ∙ count

  pub count-fronts : HasFronts row → row.bars.has_any ≡ true → length (row_fronts_of row) ≡ front_count row.columns
  count-fronts has any = count-given any row.fronts has

  -- those that are given
  pub fronts-given : (fronts : List Cell) → row.bars.has_any ≡ true → row.fronts ≡ Some fronts → row_fronts_of row ≡ fronts
  fronts-given fronts any is =
      ap (λ (given : Option (List Cell)). fronts_given row.bars given by_keys) is
      ∙ ap (λ (t : Bool). if t then fronts else []) any

  -- where the picture has no bars there is none
  none-given : row.bars.has_any ≡ false → (given : Option (List Cell)) → fronts_given row.bars given by_keys ≡ []
  none-given none None =
      let b = row.bars.boxing in
      let right = bars_at_edge b row.format (length row.columns) in
      let all = bars_at 0 (bars_at_edge b row.format 0)
      ∷ all_between_by b row.format 0 row.columns row.entries ++ right_bars row.width right ∷ [] in
      ap (λ (t : Bool). if t then all else []) none
  none-given none (Some fronts) = ap (λ (t : Bool). if t then fronts else []) none

  pub no-fronts : (line : ℕ) → row.bars.has_any ≡ false → fronts_of row line ≡ []
  no-fronts line none = ap (map (from_line line)) (none-given none row.fronts)

-- on further lines
from-next : (line : ℕ) (c : Cell) → behind_first (from_line line c) ≡ from_line (suc line) c
from-next line c =
    let same : line + 1 ≡ suc line = omega arith in
    ap (λ (lines : List (List Run)). record { at = c.at; lines = lines; below = c.below })
    (drop-drop 1 line c.lines ∙ ap (λ (n : ℕ). drop n c.lines) same)

pub fronts-next : (line : ℕ) (cells : List Cell) → map behind_first (map (from_line line) cells) ≡ map (from_line (suc line)) cells
fronts-next line [] = refl
fronts-next line (c ∷ cells) =
    ap (λ (d : Cell). d ∷ map behind_first (map (from_line line) cells)) (from-next line c)
    ∙ ap (λ (ds : List Cell). from_line (suc line) c ∷ ds) (fronts-next line cells)

pub map-fronts : (f : Cell → Cell) (fronts cells : List Cell) → map f (with_fronts fronts cells) ≡ with_fronts (map f fronts) (map f cells)
map-fronts f [] cells = refl
map-fronts f (x ∷ fronts) [] = ap (λ (ds : List Cell). f x ∷ ds) (map-fronts f fronts [])
map-fronts f (x ∷ fronts) (c ∷ cells) = ap (λ (ds : List Cell). f x ∷ f c ∷ ds) (map-fronts f fronts cells)

-- how many cells are left with them
pub length-fronts : (fronts cells : List Cell) → length (with_fronts fronts cells) ≡ length fronts + length cells
length-fronts [] cells = omega arith
length-fronts (f ∷ fronts) [] = omega (arith, length-fronts fronts [])
length-fronts (f ∷ fronts) (c ∷ cells) = omega (arith, length-fronts fronts cells)

-- some bars have a glyph on each line
bars-glyph : (n at line : ℕ) → 0 < n → HasGlyph (first_of (from_line line (bars_at at n)))
bars-glyph zero at line some = absurd (omega (arith, some))
bars-glyph (suc n) at zero some = omega arith
bars-glyph (suc n) at (suc line) some = omega arith

crossed-glyph : (n at line : ℕ) (sign : RuleSign) (end : ℕ) → 0 < n → HasGlyph (first_of (from_line line (crossed_at at n sign end)))
crossed-glyph zero at line sign end some = absurd (omega (arith, some))
crossed-glyph (suc n) at zero sign end some =
    glyph-before (repeated crossing (suc n) ∷ []) (repeated (sign_byte sign) (end - (at + suc n)) ∷ []) (omega arith)
crossed-glyph (suc n) at (suc line) sign end some =
    subst (λ (lines : List (List Run)). HasGlyph (get_or lines 0 (repeated bar (suc n) ∷ []))) (sym (drop-none line)) (omega arith)

-- a rule has one on each line, if it has a byte
rule-glyph : (sign : RuleSign) (k : ℕ) → 0 < k → HasGlyph (repeated (sign_byte sign) k ∷ [])
rule-glyph sign zero some = absurd (omega (arith, some))
rule-glyph Single (suc k) some = omega arith
rule-glyph Double (suc k) some = omega arith

three-glyphs : (sign : RuleSign) (j k n : ℕ) → 0 < j + k + n
    → HasGlyph (repeated (sign_byte sign) j ∷ repeated crossing k ∷ repeated (sign_byte sign) n ∷ [])
three-glyphs sign j k (suc n) some =
    glyph-behind (repeated (sign_byte sign) j ∷ repeated crossing k ∷ []) (repeated (sign_byte sign) (suc n) ∷ [])
    (rule-glyph sign (suc n) (omega arith))
three-glyphs sign j (suc k) zero some =
    glyph-behind (repeated (sign_byte sign) j ∷ []) (repeated crossing (suc k) ∷ repeated (sign_byte sign) 0 ∷ [])
    (glyph-before (repeated crossing (suc k) ∷ []) (repeated (sign_byte sign) 0 ∷ []) (omega arith))
three-glyphs sign (suc j) zero zero some =
    glyph-before (repeated (sign_byte sign) (suc j) ∷ []) (repeated crossing 0 ∷ repeated (sign_byte sign) 0 ∷ [])
    (rule-glyph sign (suc j) (omega arith))
three-glyphs sign zero zero zero some = absurd (omega (arith, some))

three-glyphless : (sign : RuleSign) (j k n : ℕ) → j + k + n ≡ 0
    → up_to_last_glyph (repeated (sign_byte sign) j ∷ repeated crossing k ∷ repeated (sign_byte sign) n ∷ []) ≡ []
three-glyphless Single zero zero zero none = refl
three-glyphless Double zero zero zero none = refl
three-glyphless sign (suc j) k n none = absurd (omega (arith, none))
three-glyphless sign zero (suc k) n none = absurd (omega (arith, none))
three-glyphless sign zero zero (suc n) none = absurd (omega (arith, none))

on-each : (line at : ℕ) (below : List Run) → first_of (from_line line (record { at = at; lines = []; below = below })) ≡ below
on-each line at below = ap (λ (lines : List (List Run)). get_or lines 0 below) (drop-none line)

module _ (from at count end line : ℕ) (sign : RuleSign) (lies : (from ≤ at) × (at + count ≤ end)) where
  abbrev rule_there : Front
  rule_there = RuledFront from sign at count end

  ruled-glyph : from < end → HasGlyph (first_of (from_line line (cell_of_front rule_there)))
  ruled-glyph some =
      subst HasGlyph (sym (on-each line from (ruled_runs sign from at count end)))
      (three-glyphs sign (at - from) count (end - (at + count)) (omega (arith, lies.0, lies.1, some)))

  ruled-glyphless : end ≤ from → up_to_last_glyph (first_of (from_line line (cell_of_front rule_there))) ≡ []
  ruled-glyphless none =
      ap up_to_last_glyph (on-each line from (ruled_runs sign from at count end))
      ∙ three-glyphless sign (at - from) count (end - (at + count)) (omega (arith, lies.0, lies.1, none))

-- whether what stands there has a glyph on a line
pub front-glyph : (f : Front) (line : ℕ) → HasBars f → is_there f ≡ true → HasGlyph (first_of (from_line line (cell_of_front f)))
front-glyph NoFront line has is = absurd (cc)
front-glyph (SomeBars at n) line has is = bars-glyph n at line has
front-glyph (Crossed at n sign end) line has is = crossed-glyph n at line sign end has
front-glyph (RuledFront from sign at count end) line has is = ruled-glyph from at count end line sign has (ltb-true from end is)

pub front-glyphless : (f : Front) (line : ℕ) → HasBars f → is_there f ≡ false → up_to_last_glyph (first_of (from_line line (cell_of_front f))) ≡ []
front-glyphless NoFront line has is = ap (λ (lines : List (List Run)). up_to_last_glyph (get_or lines 0 [])) (drop-none line)
front-glyphless (SomeBars at n) line has is = absurd (cc)
front-glyphless (Crossed at n sign end) line has is = absurd (cc)
front-glyphless (RuledFront from sign at count end) line has is = ruled-glyphless from at count end line sign has (ltb-false from end is)

-- which of them, or of the cells, stands at a place
with-none : (fs : List Cell) → with_fronts fs [] ≡ fs
with-none [] = refl
with-none (f ∷ fs) = ap (λ (xs : List Cell). f ∷ xs) (with-none fs)

pub with-past : (fs cs : List Cell) (n at : ℕ) → length cs ≤ length fs → n ≡ length cs + at → length cs ≤ at
    → drop n (with_fronts fs cs) ≡ drop at fs
with-past fs [] n at few is past =
    let same : n ≡ at = omega (arith, is) in ap (drop n) (with-none fs) ∙ ap (λ (i : ℕ). drop i fs) same
with-past [] (c ∷ cs) n at few is past = absurd (omega (arith, few))
with-past (f ∷ fs) (c ∷ cs) n zero few is past = absurd (omega (arith, past))
with-past (f ∷ fs) (c ∷ cs) n (suc at) few is past =
    let same : n ≡ suc (suc (length cs + at)) = omega (arith, is) in
    ap (λ (i : ℕ). drop i (f ∷ c ∷ with_fronts fs cs)) same
    ∙ with-past fs cs (length cs + at) at (omega (arith, few)) refl (omega (arith, past))

begins-with : (f : Cell) (fs cs : List Cell) → first_cell (with_fronts (f ∷ fs) cs) ≡ f
begins-with f fs [] = refl
begins-with f fs (c ∷ cs) = refl

pub with-even : (fs cs : List Cell) (n at : ℕ) → length cs < length fs → n ≡ 2 * at → at ≤ length cs
    → first_cell (drop n (with_fronts fs cs)) ≡ first_cell (drop at fs)
with-even [] cs n at few is within = absurd (omega (arith, few))
with-even (f ∷ fs) cs n zero few is within =
    let same : n ≡ 0 = omega (arith, is) in
    ap (λ (i : ℕ). first_cell (drop i (with_fronts (f ∷ fs) cs))) same ∙ begins-with f fs cs
with-even (f ∷ fs) [] n (suc at) few is within = absurd (omega (arith, within))
with-even (f ∷ fs) (c ∷ cs) n (suc at) few is within =
    let same : n ≡ suc (suc (2 * at)) = omega (arith, is) in
    ap (λ (i : ℕ). first_cell (drop i (f ∷ c ∷ with_fronts fs cs))) same
    ∙ with-even fs cs (2 * at) at (omega (arith, few)) refl (omega (arith, within))

pub with-odd : (fs cs : List Cell) (n at : ℕ) → length cs < length fs → n ≡ 2 * at + 1 → at < length cs
    → first_cell (drop n (with_fronts fs cs)) ≡ first_cell (drop at cs)
with-odd [] cs n at few is within = absurd (omega (arith, few))
with-odd (f ∷ fs) [] n at few is within = absurd (omega (arith, within))
with-odd (f ∷ fs) (c ∷ cs) n zero few is within =
    let same : n ≡ 1 = omega (arith, is) in ap (λ (i : ℕ). first_cell (drop i (f ∷ c ∷ with_fronts fs cs))) same
with-odd (f ∷ fs) (c ∷ cs) n (suc at) few is within =
    let same : n ≡ suc (suc (2 * at + 1)) = omega (arith, is) in
    ap (λ (i : ℕ). first_cell (drop i (f ∷ c ∷ with_fronts fs cs))) same
    ∙ with-odd fs cs (2 * at + 1) at (omega (arith, few)) refl (omega (arith, within))

-- two fields, of which the second one may be missing
joined-one : (k : EntryKind) → joined_kinds k (Text 0 0) ≡ None
joined-one (Text glyphs width) = refl
joined-one (Split split) = refl
joined-one (Block block) = refl
joined-one (Ruled sign) = refl
joined-one Short = refl
joined-one (Repeated b) = refl
joined-one Above = refl

pub joined-at : (at : ℕ) (entries : List Entry)
    → joined_first (drop at entries) ≡ joined_kinds (get_or entries at no_entry).kind (get_or entries (suc at) no_entry).kind
joined-at at [] = ap joined_first (drop-none at)
joined-at zero (e ∷ []) = sym (joined-one e.kind)
joined-at zero (e ∷ f ∷ entries) = refl
joined-at (suc at) (e ∷ entries) = joined-at at entries
