-- Cells that show marks in order are written as these marks are drawn.
use Rattle.std.proofs.Common.{◌≡◌, ℕ, max, Bool, false, ◌+◌, ◌-◌, ◌<◌, ◌≤◌, ◌⊎◌, inl, inr, List, [], ◌∷◌, ◌++◌, length, get_or, replicate, refl, sym, ap, ◌∙◌, arith, append_assoc, length-append, if◌then◌else◌, ◌==◌, ne_eqb}
use Rattle.std.proofs.lemmas.List.{replicate-append-replicate}
use Rattle.std.proofs.lemmas.List.Sums.{sum_by-append}
use Rattle.input_source.specs.Bytes.{blank}
use Rattle.tbl_layout.specs.Entries.{Run, before_glyphs, blanks, columns_of, up_to_last_glyph}
use Rattle.tbl_lines.specs.PictureLines.{Cell, Mark, at_column, drawn, end_of, written}
use Rattle.tbl_lines.proofs.RunsGiven.{before-some}

-- runs that are glyphs alone, each a column wide
pub record AreGlyphs (runs : List Run) (bytes : List ℕ) : Type 0 where
  pub given : (more : List Run) → up_to_last_glyph (runs ++ more) ≡ bytes ++ up_to_last_glyph more
  pub wide : columns_of runs ≡ length bytes

pub glyphs-append : (xs ys : List Run) (first second : List ℕ) → AreGlyphs xs first → AreGlyphs ys second → AreGlyphs (xs ++ ys) (first ++ second)
glyphs-append xs ys first second front behind = record {
  given = λ more.
      ap up_to_last_glyph (append_assoc xs ys more)
      ∙ front.given (ys ++ more)
      ∙ ap (λ (rest : List ℕ). first ++ rest) (behind.given more)
      ∙ sym (append_assoc first second (up_to_last_glyph more));
  wide = omega (arith, sum_by-append (λ (run : Run). run.columns) xs ys, length-append first second, front.wide, behind.wide);
}

-- a cell whose first line shows a mark: nothing, or runs where the mark stands
pub data Shows (c : Cell) (m : Mark) : Type 0 where
  ShowsNone : get_or c.lines 0 c.below ≡ [] → m.bytes ≡ [] → Shows c m
  ShowsRuns : (run : Run) (runs : List Run) → get_or c.lines 0 c.below ≡ run ∷ runs → c.at ≡ m.at → AreGlyphs (run ∷ runs) m.bytes → Shows c m

abbrev pub AllShow : List Cell → List Mark → Type 0
AllShow [] [] = Unit {0}
AllShow [] (m ∷ marks) = ⊥
AllShow (c ∷ cells) [] = ⊥
AllShow (c ∷ cells) (m ∷ marks) = Shows c m × AllShow cells marks

-- marks of which each begins where the one before it ended, or further on
abbrev pub AreOrdered : ℕ → List Mark → Type 0
AreOrdered place [] = Unit {0}
AreOrdered place (m ∷ marks) = (place ≤ m.at) × AreOrdered (m.at + length m.bytes) marks

ordered-before : (place at : ℕ) (marks : List Mark) → place ≤ at → AreOrdered at marks → AreOrdered place marks
ordered-before place at [] before ordered = tt
ordered-before place at (m ∷ marks) before ordered = (omega (arith, before, ordered.0), ordered.1)

-- a mark without a byte, and one that has some
drawn-none : (m : Mark) (marks : List Mark) (place : ℕ) → m.bytes ≡ [] → drawn place (m ∷ marks) ≡ drawn place marks
drawn-none m marks place none =
    ap (λ (bytes : List ℕ). if length bytes == 0 then drawn place marks
    else replicate (m.at - place) blank ++ (bytes ++ drawn (m.at + length bytes) marks)) none

drawn-some : (m : Mark) (marks : List Mark) (place : ℕ) → 0 < length m.bytes
    → drawn place (m ∷ marks) ≡ replicate (m.at - place) blank ++ (m.bytes ++ drawn (m.at + length m.bytes) marks)
drawn-some m marks place some =
    let is : (length m.bytes == 0) ≡ false = ne_eqb (length m.bytes) 0 (λ is. omega (arith, is, some)) in
    ap (λ (t : Bool). if t then drawn place marks else replicate (m.at - place) blank ++ (m.bytes ++ drawn (m.at + length m.bytes) marks)) is

some-or-none : (bytes : List ℕ) → (bytes ≡ []) ⊎ (0 < length bytes)
some-or-none [] = inl refl
some-or-none (b ∷ bytes) = inr (omega arith)

-- blanks in front of what is drawn further on, if anything is
further-by : (m : Mark) (marks : List Mark) (place at : ℕ) → (m.bytes ≡ []) ⊎ (0 < length m.bytes) → AreOrdered at (m ∷ marks) → place ≤ at
    → (AreOrdered at marks → drawn place marks ≡ before_glyphs (blanks (at - place)) (drawn at marks))
    → drawn place (m ∷ marks) ≡ before_glyphs (blanks (at - place)) (drawn at (m ∷ marks))
further-by m marks place at (inl none) ordered before others =
    drawn-none m marks place none
    ∙ others (ordered-before at (m.at + length m.bytes) marks (omega (arith, ordered.0)) ordered.1)
    ∙ ap (before_glyphs (blanks (at - place))) (sym (drawn-none m marks at none))
further-by m marks place at (inr some) ordered before others =
    let rest = m.bytes ++ drawn (m.at + length m.bytes) marks in
    let behind = replicate (m.at - at) blank ++ rest in
    let far : at - place + (m.at - at) ≡ m.at - place = omega (arith, before, ordered.0) in
    let there : 0 < length behind = omega (
      arith,
      some,
      length-append (replicate (m.at - at) blank) rest,
      length-append m.bytes (drawn (m.at + length m.bytes) marks),
    ) in
    drawn-some m marks place some
    ∙ ap (λ (n : ℕ). replicate n blank ++ rest) (sym far)
    ∙ ap (λ (front : List ℕ). front ++ rest) (sym (replicate-append-replicate (at - place) (m.at - at) blank))
    ∙ append_assoc (replicate (at - place) blank) (replicate (m.at - at) blank) rest
    ∙ sym (before-some (blanks (at - place)) behind there)
    ∙ ap (before_glyphs (blanks (at - place))) (sym (drawn-some m marks at some))

drawn-further : (marks : List Mark) (place at : ℕ) → AreOrdered at marks → place ≤ at
    → drawn place marks ≡ before_glyphs (blanks (at - place)) (drawn at marks)
drawn-further [] place at ordered before = refl
drawn-further (m ∷ marks) place at ordered before =
    further-by m marks place at (some-or-none m.bytes) ordered before (λ are. drawn-further marks place at are before)

-- a mark behind blanks
mark-by : (m : Mark) (marks : List Mark) (place : ℕ) → (m.bytes ≡ []) ⊎ (0 < length m.bytes) → AreOrdered place (m ∷ marks)
    → before_glyphs (blanks (m.at - place)) (m.bytes ++ drawn (m.at + length m.bytes) marks) ≡ drawn place (m ∷ marks)
mark-by m marks place (inl none) ordered =
    let same : m.at + length m.bytes ≡ m.at = omega (arith, ap (λ (bytes : List ℕ). length bytes) none) in
    ap (λ (bytes : List ℕ). before_glyphs (blanks (m.at - place)) (bytes ++ drawn (m.at + length m.bytes) marks)) none
    ∙ ap (λ (n : ℕ). before_glyphs (blanks (m.at - place)) (drawn n marks)) same
    ∙ sym (drawn-further marks place m.at (ordered-before m.at (m.at + length m.bytes) marks (omega arith) ordered.1) ordered.0)
    ∙ sym (drawn-none m marks place none)
mark-by m marks place (inr some) ordered =
    let rest = m.bytes ++ drawn (m.at + length m.bytes) marks in
    before-some (blanks (m.at - place)) rest (omega (arith, some, length-append m.bytes (drawn (m.at + length m.bytes) marks)))
    ∙ sym (drawn-some m marks place some)

first-drawn : (c : Cell) (cells : List Cell) (m : Mark) (marks : List Mark) (place : ℕ) → Shows c m → AreOrdered place (m ∷ marks)
    → ((at : ℕ) → AreOrdered at marks → up_to_last_glyph (written 0 at cells) ≡ drawn at marks)
    → up_to_last_glyph (written 0 place (c ∷ cells)) ≡ drawn place (m ∷ marks)
first-drawn c cells m marks place (ShowsNone text none) ordered others =
    ap (λ (runs : List Run). up_to_last_glyph (at_column c.at place runs ++ written 0 (end_of c.at place runs) cells)) text
    ∙ others place (ordered-before place (m.at + length m.bytes) marks (omega (arith, ordered.0)) ordered.1)
    ∙ sym (drawn-none m marks place none)
first-drawn c cells m marks place (ShowsRuns run runs text at glyphs) ordered others =
    let front = blanks (m.at - place) in
    let end = m.at + length m.bytes in
    let wide : max m.at place + columns_of (run ∷ runs) ≡ end = omega (arith, ordered.0, glyphs.wide) in
    ap (λ (runs : List Run). up_to_last_glyph (at_column c.at place runs ++ written 0 (end_of c.at place runs) cells)) text
    ∙ ap (λ (n : ℕ). up_to_last_glyph (at_column n place (run ∷ runs) ++ written 0 (end_of n place (run ∷ runs)) cells)) at
    ∙ ap (λ (n : ℕ). before_glyphs front (up_to_last_glyph ((run ∷ runs) ++ written 0 n cells))) wide
    ∙ ap (before_glyphs front) (glyphs.given (written 0 end cells))
    ∙ ap (λ (rest : List ℕ). before_glyphs front (m.bytes ++ rest)) (others end ordered.1)
    ∙ mark-by m marks place (some-or-none m.bytes) ordered

pub written-drawn : (cells : List Cell) (marks : List Mark) (place : ℕ) → AllShow cells marks → AreOrdered place marks
    → up_to_last_glyph (written 0 place cells) ≡ drawn place marks
written-drawn [] [] place show ordered = refl
written-drawn [] (m ∷ marks) place show ordered = absurd show
written-drawn (c ∷ cells) [] place show ordered = absurd show
written-drawn (c ∷ cells) (m ∷ marks) place show ordered =
    first-drawn c cells m marks place show.0 ordered (λ at are. written-drawn cells marks at show.1 are)
