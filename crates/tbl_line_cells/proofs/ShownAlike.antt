-- Cells that are drawn alike on a line: what stands behind them is drawn alike too, and runs without a byte draw nothing.
use Rattle.std.proofs.Common.{◌≡◌, ℕ, ◌+◌, ◌-◌, max, List, [], ◌∷◌, ◌++◌, refl, ap, ◌∙◌, arith, codes}
use Rattle.std.proofs.lemmas.List.Sums.{sum_by-cons}
use Rattle.input_source.specs.Bytes.{newline}
use Rattle.tbl_layout.specs.DataLines.{sign_byte}
use Rattle.tbl_layout.specs.Entries.{Run, before_glyphs, blanks, columns_of, up_to_last_glyph}
use Rattle.tbl_layout.specs.declared.data_lines.RuleSign.TheVariants.{Single}
use Rattle.tbl_lines.specs.PictureLines.{Cell, at_column, crossing, end_of, line_of, one_run, repeated, with_fronts, written}
use Rattle.tbl_lines.specs.RowsLeft.{first_of}

-- on the first line of a row they end alike, and so does what is drawn up to the last glyph, whatever stands behind them
pub record AreDrawnAlike (c d : Cell) : Type 0 where
  pub end : (place : ℕ) → end_of c.at place (first_of c) ≡ end_of d.at place (first_of d)
  pub glyphs : (place : ℕ) (runs : List Run)
      → up_to_last_glyph (at_column c.at place (first_of c) ++ runs) ≡ up_to_last_glyph (at_column d.at place (first_of d) ++ runs)

abbrev pub AllDrawnAlike : List Cell → List Cell → Type 0
AllDrawnAlike [] [] = Unit {0}
AllDrawnAlike [] (d ∷ others) = ⊥
AllDrawnAlike (c ∷ cells) [] = ⊥
AllDrawnAlike (c ∷ cells) (d ∷ others) = AreDrawnAlike c d × AllDrawnAlike cells others

pub same-drawn : (c : Cell) → AreDrawnAlike c c
same-drawn c = record { end = λ place. refl; glyphs = λ place runs. refl }

pub all-same : (cells : List Cell) → AllDrawnAlike cells cells
all-same [] = tt
all-same (c ∷ cells) = (same-drawn c, all-same cells)

-- what is drawn behind some runs
up_to-behind : (runs left right : List Run) → up_to_last_glyph left ≡ up_to_last_glyph right
    → up_to_last_glyph (runs ++ left) ≡ up_to_last_glyph (runs ++ right)
up_to-behind [] left right same = same
up_to-behind (run ∷ runs) left right same = ap (λ (bytes : List ℕ). before_glyphs run bytes) (up_to-behind runs left right same)

written-alike : (place : ℕ) (cells others : List Cell) → AllDrawnAlike cells others
    → up_to_last_glyph (written 0 place cells) ≡ up_to_last_glyph (written 0 place others)
written-alike place [] [] alike = refl
written-alike place [] (d ∷ others) alike = absurd alike
written-alike place (c ∷ cells) [] alike = absurd alike
written-alike place (c ∷ cells) (d ∷ others) alike =
    alike.0.glyphs place (written 0 (end_of c.at place (first_of c)) cells)
    ∙ ap (λ (n : ℕ). up_to_last_glyph (at_column d.at place (first_of d) ++ written 0 n cells)) (alike.0.end place)
    ∙ up_to-behind (at_column d.at place (first_of d)) (written 0 (end_of d.at place (first_of d)) cells)
    (written 0 (end_of d.at place (first_of d)) others) (written-alike (end_of d.at place (first_of d)) cells others alike.1)

-- a line of cells that are drawn alike is the same
pub line-alike : (cells others : List Cell) → AllDrawnAlike cells others → line_of 0 cells ≡ line_of 0 others
line-alike cells others alike = ap (λ (bytes : List ℕ). codes "\\&" ++ (bytes ++ newline ∷ [])) (written-alike 0 cells others alike)

pub alike-with : (fronts others cells : List Cell) → AllDrawnAlike fronts others → AllDrawnAlike (with_fronts fronts cells) (with_fronts others cells)
alike-with [] [] cells alike = all-same cells
alike-with [] (d ∷ others) cells alike = absurd alike
alike-with (c ∷ fronts) [] cells alike = absurd alike
alike-with (c ∷ fronts) (d ∷ others) [] alike = (alike.0, alike-with fronts others [] alike.1)
alike-with (c ∷ fronts) (d ∷ others) (cell ∷ cells) alike = (alike.0, (same-drawn cell, alike-with fronts others cells alike.1))

-- a run of no byte draws nothing
empty-before : (bytes : List ℕ) → before_glyphs (repeated (sign_byte Single) 0) bytes ≡ bytes
empty-before [] = refl
empty-before (b ∷ bytes) = refl

-- the rule of no column at both sides of bars that it crosses
abbrev pub three_runs : ℕ → ℕ → ℕ → List Run
three_runs before count after = repeated (sign_byte Single) before ∷ repeated crossing count ∷ repeated (sign_byte Single) after ∷ []

pub three-columns : (before count after : ℕ) → columns_of (three_runs before count after) ≡ before + count + after
three-columns before count after = omega (
  arith,
  sum_by-cons (λ (run : Run). run.columns) (repeated (sign_byte Single) before) (repeated crossing count ∷ repeated (sign_byte Single) after ∷ []),
  sum_by-cons (λ (run : Run). run.columns) (repeated crossing count) (repeated (sign_byte Single) after ∷ []),
  sum_by-cons (λ (run : Run). run.columns) (repeated (sign_byte Single) after) [],
)

pub one-columns : (count : ℕ) → columns_of (repeated crossing count ∷ []) ≡ count
one-columns count = omega (arith, sum_by-cons (λ (run : Run). run.columns) (repeated crossing count) [])

three-glyphs : (gap : ℕ) (count : ℕ) (runs : List Run)
    → up_to_last_glyph (blanks gap ∷ three_runs 0 count 0 ++ runs) ≡ up_to_last_glyph (blanks gap ∷ repeated crossing count ∷ runs)
three-glyphs gap count runs =
    ap (λ (bytes : List ℕ). before_glyphs (blanks gap) bytes)
    (empty-before (before_glyphs (repeated crossing count) (before_glyphs (repeated (sign_byte Single) 0) (up_to_last_glyph runs)))
    ∙ ap (λ (bytes : List ℕ). before_glyphs (repeated crossing count) bytes) (empty-before (up_to_last_glyph runs)))

pub three-alike : (at count : ℕ) (c : Cell) → c.at ≡ at → first_of c ≡ three_runs 0 count 0 → AreDrawnAlike c (one_run at (repeated crossing count))
three-alike at count c place runs = record {
  end = λ from. ap (λ (n : ℕ). end_of n from (first_of c)) place ∙ ap (λ (rs : List Run). end_of at from rs) runs
      ∙ ap (λ (n : ℕ). max at from + n) (omega (arith, three-columns 0 count 0, one-columns count));
  glyphs = λ from more. ap (λ (n : ℕ). up_to_last_glyph (at_column n from (first_of c) ++ more)) place
      ∙ ap (λ (rs : List Run). up_to_last_glyph (at_column at from rs ++ more)) runs
      ∙ three-glyphs (at - from) count more;
}
