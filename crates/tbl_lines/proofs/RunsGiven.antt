-- What is given of the runs of a line is the line up to its last glyph.
use Rattle.std.proofs.Common.{◌≡◌, ℕ, zero, suc, ◌-◌, ◌<◌, ◌≤◌, ◌⊎◌, inl, inr, List, [], ◌∷◌, ◌++◌, length, drop, map, get_or, refl, sym, ap, subst, ◌∙◌, arith, append_assoc, length-append, codes, append-nil}
use Rattle.std.specs.List.{flat_map}
use Rattle.std.proofs.lemmas.List.Concat.{flat_map-cons}
use Rattle.input_source.specs.Bytes.{newline}
use Rattle.tbl_layout.specs.Entries.{Run, before_glyphs, blanks, up_to_last_glyph}
use Rattle.tbl_lines.specs.PictureLines.{Cell, at_column, end_of, line_of, lines_from, written}
use Rattle.tbl_lines.specs.RowsLeft.{behind_first, first_of, given, given_of, if_given, one_less}
use Rattle.tbl_lines.specs.RowsWalked.{AreGlyphless, HasGlyph, LastHasGlyph}

-- all bytes of runs
abbrev pub all_of : List Run → List ℕ
all_of runs = flat_map (λ run. run.bytes) runs

-- bytes are none, or some
some-or-none : (bytes : List ℕ) → (bytes ≡ []) ⊎ (0 < length bytes)
some-or-none [] = inl refl
some-or-none (b ∷ bytes) = inr (omega arith)

pub before-some : (run : Run) (bytes : List ℕ) → 0 < length bytes → before_glyphs run bytes ≡ run.bytes ++ bytes
before-some run [] some = absurd (omega (arith, some))
before-some run (b ∷ bytes) some = refl

-- runs before such as have no glyph, and before such as have one
glyphs-none : (runs more : List Run) → up_to_last_glyph more ≡ [] → up_to_last_glyph (runs ++ more) ≡ up_to_last_glyph runs
glyphs-none [] more none = none
glyphs-none (run ∷ runs) more none = ap (before_glyphs run) (glyphs-none runs more none)

pub glyphs-some : (runs more : List Run) → HasGlyph more → up_to_last_glyph (runs ++ more) ≡ all_of runs ++ up_to_last_glyph more
glyphs-some [] more some = refl
glyphs-some (run ∷ runs) more some =
    let rest = all_of runs ++ up_to_last_glyph more in
    ap (before_glyphs run) (glyphs-some runs more some)
    ∙ before-some run rest (omega (arith, some, length-append (all_of runs) (up_to_last_glyph more)))
    ∙ sym (append_assoc run.bytes (all_of runs) (up_to_last_glyph more))
    ∙ ap (λ (front : List ℕ). front ++ up_to_last_glyph more) (sym (flat_map-cons (λ (r : Run). r.bytes) run runs))

-- so runs have a glyph where some of them have
pub glyph-behind : (runs more : List Run) → HasGlyph more → HasGlyph (runs ++ more)
glyph-behind runs more some =
    omega (arith, some, ap length (glyphs-some runs more some), length-append (all_of runs) (up_to_last_glyph more))

glyph-by : (runs more : List Run) → HasGlyph runs → (up_to_last_glyph more ≡ []) ⊎ (0 < length (up_to_last_glyph more)) → HasGlyph (runs ++ more)
glyph-by runs more some (inl none) = omega (arith, some, ap length (glyphs-none runs more none))
glyph-by runs more some (inr has) = glyph-behind runs more has

pub glyph-before : (runs more : List Run) → HasGlyph runs → HasGlyph (runs ++ more)
glyph-before runs more some = glyph-by runs more some (some-or-none (up_to_last_glyph more))

-- a text at its column
column-none : (at place : ℕ) (runs : List Run) → up_to_last_glyph runs ≡ [] → up_to_last_glyph (at_column at place runs) ≡ []
column-none at place [] none = refl
column-none at place (run ∷ runs) none = ap (before_glyphs (blanks (at - place))) none

pub column-some : (at place : ℕ) (runs : List Run) → HasGlyph runs → HasGlyph (at_column at place runs)
column-some at place [] some = some
column-some at place (run ∷ runs) some = glyph-behind (blanks (at - place) ∷ []) (run ∷ runs) some

-- cells of which none has a glyph
line-none : (place : ℕ) (cells : List Cell) → AreGlyphless cells → up_to_last_glyph (written 0 place cells) ≡ []
line-none place [] none = refl
line-none place (c ∷ cells) none =
    glyphs-none (at_column c.at place (first_of c)) (written 0 (end_of c.at place (first_of c)) cells)
    (line-none (end_of c.at place (first_of c)) cells none.1)
    ∙ column-none c.at place (first_of c) none.0

pub given-none : (place : ℕ) (cells : List Cell) → given 0 place cells ≡ []
given-none place [] = refl
given-none place (c ∷ cells) = given-none (end_of c.at place (first_of c)) cells

-- a line of which so many cells are given has a glyph, if one is given
line-some : (n place : ℕ) (cells : List Cell) → suc n ≤ length cells → LastHasGlyph (suc n) cells → HasGlyph (written 0 place cells)
line-some n place [] few last = absurd (omega (arith, few))
line-some zero place (c ∷ cells) few last =
    glyph-before (at_column c.at place (first_of c)) (written 0 (end_of c.at place (first_of c)) cells)
    (column-some c.at place (first_of c) last)
line-some (suc n) place (c ∷ cells) few last =
    glyph-behind (at_column c.at place (first_of c)) (written 0 (end_of c.at place (first_of c)) cells)
    (line-some n (end_of c.at place (first_of c)) cells (omega (arith, few)) last)

-- what is given of a line up to its last glyph
pub line-given : (n place : ℕ) (cells : List Cell) → n ≤ length cells → LastHasGlyph n cells → AreGlyphless (drop n cells)
    → given n place cells ≡ up_to_last_glyph (written 0 place cells)
line-given zero place cells few last none = given-none place cells ∙ sym (line-none place cells none)
line-given (suc n) place [] few last none = refl
line-given (suc zero) place (c ∷ cells) few last none =
    let runs = at_column c.at place (first_of c) in
    let end = end_of c.at place (first_of c) in
    ap (λ (rest : List ℕ). up_to_last_glyph runs ++ rest) (given-none end cells)
    ∙ append-nil (up_to_last_glyph runs)
    ∙ sym (glyphs-none runs (written 0 end cells) (line-none end cells none))
line-given (suc (suc n)) place (c ∷ cells) few last none =
    let runs = at_column c.at place (first_of c) in
    let end = end_of c.at place (first_of c) in
    ap (λ (rest : List ℕ). all_of runs ++ rest) (line-given (suc n) end cells (omega (arith, few)) last none)
    ∙ sym (glyphs-some runs (written 0 end cells) (line-some n end cells (omega (arith, few)) last))

-- the cells that are left behind one
pub last-behind : (n : ℕ) (c : Cell) (cells : List Cell) → LastHasGlyph n (c ∷ cells) → LastHasGlyph (one_less n) cells
last-behind zero c [] last = tt
last-behind zero c (d ∷ cells) last = tt
last-behind (suc zero) c [] last = tt
last-behind (suc zero) c (d ∷ cells) last = tt
last-behind (suc (suc n)) c cells last = last

-- lines from the next one on are those of the cells behind this line
line_at-behind : (line : ℕ) (lines : List (List Run)) (below : List Run) → get_or lines (suc line) below ≡ get_or (drop 1 lines) line below
line_at-behind line [] below = refl
line_at-behind line (runs ∷ lines) below = refl

written-behind : (line place : ℕ) (cells : List Cell) → written (suc line) place cells ≡ written line place (map behind_first cells)
written-behind line place [] = refl
written-behind line place (c ∷ cells) =
    let text = get_or c.lines (suc line) c.below in
    let f : List Run → List Run = λ text. at_column c.at place text ++ written line (end_of c.at place text) (map behind_first cells) in
    ap (λ (rest : List Run). at_column c.at place text ++ rest) (written-behind line (end_of c.at place text) cells)
    ∙ ap f (line_at-behind line c.lines c.below)

pub lines-behind : (line count : ℕ) (cells : List Cell) → lines_from (suc line) count cells ≡ lines_from line count (map behind_first cells)
lines-behind line zero cells = refl
lines-behind line (suc count) cells =
    ap (λ (runs : List Run). (codes "\\&" ++ (up_to_last_glyph runs ++ newline ∷ [])) ++ lines_from (suc (suc line)) count cells) (written-behind line 0 cells)
    ∙ ap (λ (rest : List ℕ). line_of line (map behind_first cells) ++ rest) (lines-behind (suc line) count cells)

-- a run before others, and the last one
pub given-before : (count : ℕ) (run : Run) (runs : List Run) → (count ≡ 1 → HasGlyph runs)
    → given_of count (run ∷ runs) ≡ if_given count run.bytes ++ given_of count runs
given-before zero run runs has = refl
given-before (suc zero) run runs has = before-some run (up_to_last_glyph runs) (has refl)
given-before (suc (suc n)) run runs has = flat_map-cons (λ (r : Run). r.bytes) run runs

abbrev pub last_given : ℕ → Run → List ℕ
last_given zero run = []
last_given (suc zero) run = run.to_glyph
last_given (suc (suc n)) run = run.bytes

pub given-last : (count : ℕ) (run : Run) → given_of count (run ∷ []) ≡ last_given count run
given-last zero run = refl
given-last (suc zero) run = refl
given-last (suc (suc n)) run = flat_map-cons (λ (r : Run). r.bytes) run [] ∙ append-nil run.bytes

-- two runs before others
pub given-two : (count : ℕ) (first second : Run) (runs : List Run) → HasGlyph runs
    → given_of count (first ∷ second ∷ runs) ≡ (if_given count first.bytes ++ if_given count second.bytes) ++ given_of count runs
given-two count first second runs has =
    given-before count first (second ∷ runs) (λ _. glyph-behind (second ∷ []) runs has)
    ∙ ap (λ (rest : List ℕ). if_given count first.bytes ++ rest) (given-before count second runs (λ _. has))
    ∙ sym (append_assoc (if_given count first.bytes) (if_given count second.bytes) (given_of count runs))

-- the last cell that is given has a glyph
pub glyph-first : (count : ℕ) (c : Cell) (cells : List Cell) → LastHasGlyph count (c ∷ cells) → count ≡ 1 → HasGlyph (first_of c)
glyph-first zero c cells last is = absurd (omega (arith, is))
glyph-first (suc zero) c cells last is = last
glyph-first (suc (suc n)) c cells last is = absurd (omega (arith, is))

-- where so many cells are left, the last of which has a glyph, and those behind which have none
pub last-at : (n : ℕ) (cells : List Cell) (c : Cell) (rest : List Cell) → drop n cells ≡ c ∷ rest → HasGlyph (first_of c) → LastHasGlyph (suc n) cells
last-at zero [] c rest is has = tt
last-at zero (d ∷ cells) c rest is has = let same : c ≡ d = cc in subst (λ (x : Cell). HasGlyph (first_of x)) same has
last-at (suc n) [] c rest is has = tt
last-at (suc n) (d ∷ cells) c rest is has = last-at n cells c rest is has

pub glyphless-more : (n : ℕ) (cells : List Cell) (c : Cell) → drop n cells ≡ c ∷ drop (suc n) cells → up_to_last_glyph (first_of c) ≡ []
    → AreGlyphless (drop (suc n) cells) → AreGlyphless (drop n cells)
glyphless-more n cells c is none all = subst AreGlyphless (sym is) (none, all)

pub last-none : (cells : List Cell) → LastHasGlyph 0 cells
last-none [] = tt
last-none (c ∷ cells) = tt
