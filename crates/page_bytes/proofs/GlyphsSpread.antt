-- The glyphs in front of what is written of a text.
use Rattle.std.proofs.Common.{◌≡◌, ℕ, zero, suc, false, inl, inr, List, [], ◌∷◌, ◌++◌, take, drop, replicate, refl, sym, ap, ◌∙◌, append_assoc, ◌==◌, ◌||◌, nat_lt, ltb-true, take-append-drop}
use Rattle.std.proofs.lemmas.Bool.{cases_Bool}
use Rattle.page_model.specs.Glyphs.{gap_blank, further_blank, glyph_blank}
use Rattle.page_model.specs.Columns.{spread}
use Rattle.roff_lines.specs.GlyphsInFront.{glyphs_in_front}
use Rattle.roff_lines.proofs.GlyphsInFront.{front-blank, front-glyph, spread-glyph}

-- a byte that isn't above the blank is written as none above it
spread-blank : (spare gaps i b : ℕ) (text behind : List ℕ) → nat_lt 32 b ≡ false →
    glyphs_in_front (spread spare gaps i (b ∷ text) ++ behind) ≡ []
spread-blank spare gaps i b text behind e =
    elim (cases_Bool (b == gap_blank)) [
      | inl f ↦ rw f refl
      | inr f ↦ rw f (elim (cases_Bool (b == further_blank || b == glyph_blank)) [ inl g ↦ rw g refl | inr g ↦ rw (g, e) refl ])
    ]

-- the glyphs in front of what is written, newlines behind it, are those of the text
pub glyphs_in_front-spread : (spare gaps i newlines : ℕ) (text : List ℕ) →
    glyphs_in_front (spread spare gaps i text ++ replicate newlines 10) ≡ glyphs_in_front text
glyphs_in_front-spread spare gaps i zero [] = refl
glyphs_in_front-spread spare gaps i (suc n) [] = refl
glyphs_in_front-spread spare gaps i newlines (b ∷ text) =
    let behind : List ℕ = replicate newlines 10 in
    elim (cases_Bool (nat_lt 32 b)) [
      | inl e ↦
          let first = spread-glyph spare gaps i b text (ltb-true 32 b e) in
          rw (first, front-glyph b (spread spare gaps i text ++ behind) e, front-glyph b text e)
          (ap (λ bytes. b ∷ bytes) (glyphs_in_front-spread spare gaps i newlines text))
      | inr e ↦ spread-blank spare gaps i b text behind e ∙ sym (front-blank b text e)
    ]

-- the first n of these are written as they stand
spread-glyphs_in_front : (spare gaps i n : ℕ) (text rest : List ℕ) →
    spread spare gaps i (take n (glyphs_in_front text) ++ rest) ≡ take n (glyphs_in_front text) ++ spread spare gaps i rest
spread-glyphs_in_front spare gaps i zero text rest = refl
spread-glyphs_in_front spare gaps i (suc n) [] rest = refl
spread-glyphs_in_front spare gaps i (suc n) (b ∷ text) rest =
    elim (cases_Bool (nat_lt 32 b)) [
      | inl e ↦ rw (front-glyph b text e)
          (spread-glyph spare gaps i b (take n (glyphs_in_front text) ++ rest) (ltb-true 32 b e)
          ∙ ap (λ bytes. b ∷ bytes) (spread-glyphs_in_front spare gaps i n text rest))
      | inr e ↦ rw (front-blank b text e) refl
    ]

-- so what is written of a text is these, and what is written of the rest
pub take-append-spread : (spare gaps i n count : ℕ) (text behind : List ℕ) → take count text ≡ take n (glyphs_in_front text) →
    take count text ++ (spread spare gaps i (drop count text) ++ behind) ≡ spread spare gaps i text ++ behind
take-append-spread spare gaps i n count text behind front =
    let rest : List ℕ = drop count text in
    let whole : spread spare gaps i text ≡ take count text ++ spread spare gaps i rest =
    ap (spread spare gaps i) (sym (take-append-drop count text)) ∙ rw front (spread-glyphs_in_front spare gaps i n text rest) in
    rw (whole, append_assoc) refl
