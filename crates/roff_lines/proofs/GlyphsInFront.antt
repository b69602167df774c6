-- The bytes of glyphs in front of a text.
use Rattle.std.proofs.Common.{◌≡◌, ℕ, zero, suc, ◌+◌, ◌<◌, ◌≤◌, true, false, inl, inr, List, [], ◌∷◌, ◌++◌, length, take, drop, slice_index_or, refl, sym, ap, ap₂, ◌∙◌, arith, ne_eqb, append_assoc, ◌==◌, nat_lt, drop-drop}
use Rattle.std.specs.List.{prefix_len}
use Rattle.std.specs.Simd.Lanes.{chunk}
use Rattle.std.proofs.Math.Seq.{drop-cons, take-add}
use Rattle.std.proofs.lemmas.Bool.Decides.{nat_tests}
use Rattle.std.proofs.lemmas.Bool.{cases_Bool}
use Rattle.std.proofs.lemmas.List.{take_more}
use Rattle.std.proofs.lemmas.List.Sums.{take_while-cons}
use Rattle.page_model.specs.Glyphs.{gap_blank, further_blank, glyph_blank, text_byte}
use Rattle.page_model.specs.Columns.{spread}
use Rattle.roff_lines.specs.GlyphsInFront.{glyphs_in_front}

-- a byte above the blank stands for none
pub eqb-above : (b c : ℕ) → c ≤ 32 → 32 < b → (b == c) ≡ false
eqb-above b c mark above = ne_eqb b c (λ e. absurd (omega arith))

-- a byte above the blank is its own text
pub text_byte-above : (b : ℕ) → 32 < b → text_byte b ≡ b
text_byte-above b above = grind (arith, nat_tests)

-- so it is written as itself
pub spread-glyph : (spare gaps i b : ℕ) (text : List ℕ) → 32 < b →
    spread spare gaps i (b ∷ text) ≡ b ∷ spread spare gaps i text
spread-glyph spare gaps i b text above =
    let mark = eqb-above b in
    rw (mark gap_blank (omega arith) above, mark further_blank (omega arith) above, mark glyph_blank (omega arith) above) refl

-- it is one of the glyphs in front
pub front-glyph : (b : ℕ) (bytes : List ℕ) → nat_lt 32 b ≡ true → glyphs_in_front (b ∷ bytes) ≡ b ∷ glyphs_in_front bytes
front-glyph b bytes e = take_while-cons (nat_lt 32) b bytes ∙ rw e refl

-- another byte ends them
pub front-blank : (b : ℕ) (bytes : List ℕ) → nat_lt 32 b ≡ false → glyphs_in_front (b ∷ bytes) ≡ []
front-blank b bytes e = rw e refl

-- those of a step, and of what is behind them
glyphs_in_front-behind : (n r : ℕ) (text : List ℕ) → r ≡ prefix_len (nat_lt 32) (take n text)
    → take r text ++ glyphs_in_front (drop r text) ≡ glyphs_in_front text
glyphs_in_front-behind zero r text counted = rw counted refl
glyphs_in_front-behind (suc n) r [] counted = rw counted refl
glyphs_in_front-behind (suc n) r (b ∷ text) counted =
    elim (cases_Bool (nat_lt 32 b)) [
      | inl e ↦
          let more : r ≡ suc (prefix_len (nat_lt 32) (take n text)) = counted ∙ rw e (omega arith) in
          rw (more, front-glyph b text e) (ap (λ bytes. b ∷ bytes) (glyphs_in_front-behind n (prefix_len (nat_lt 32) (take n text)) text refl))
      | inr e ↦ let none : r ≡ 0 = counted ∙ rw e refl in rw none refl
    ]

module _ (text : List ℕ) (count : ℕ) (so_far : take count text ++ glyphs_in_front (drop count text) ≡ glyphs_in_front text) where
  -- those of a step behind some
  pub glyphs_in_front-step : (n r : ℕ) → r ≡ prefix_len (nat_lt 32) (chunk count n text)
      → take (count + r) text ++ glyphs_in_front (drop (count + r) text) ≡ glyphs_in_front text
  glyphs_in_front-step n r counted =
      let rest : List ℕ = drop count text in
      ap₂ (λ (xs ys : List ℕ). xs ++ glyphs_in_front ys) (take-add count r text) (sym (drop-drop r count text))
      ∙ append_assoc (take count text) (take r rest) (glyphs_in_front (drop r rest))
      ∙ ap (λ (xs : List ℕ). take count text ++ xs) (glyphs_in_front-behind n r rest counted) ∙ so_far

  -- another glyph behind some
  pub glyphs_in_front-more : count < length text → 32 < slice_index_or text count 0
      → take (count + 1) text ++ glyphs_in_front (drop (count + 1) text) ≡ glyphs_in_front text
  glyphs_in_front-more within above =
      let b : ℕ = slice_index_or text count 0 in
      let rest : List ℕ = drop (count + 1) text in
      let high : nat_lt 32 b ≡ true = grind (arith, nat_tests) in
      let next : suc count ≡ count + 1 = omega arith in
      let split : drop count text ≡ b ∷ rest = drop-cons text count 0 within ∙ ap (λ m. b ∷ drop m text) next in
      ap (λ (xs : List ℕ). xs ++ glyphs_in_front rest) (take_more text count 0 within) ∙ append_assoc (take count text) (b ∷ []) (glyphs_in_front rest)
      ∙ ap (λ (xs : List ℕ). take count text ++ xs) (sym (ap glyphs_in_front split ∙ front-glyph b rest high)) ∙ so_far
