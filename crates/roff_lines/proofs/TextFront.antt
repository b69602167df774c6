-- Bytes of a text line that are told, of so many in front.
use Rattle.std.proofs.Common.{◌≡◌, ℕ, zero, suc, ◌+◌, ◌-◌, ◌<◌, ◌≤◌, min, true, inl, inr, List, [], ◌∷◌, length, take, drop, slice_index_or, refl, sym, ap, subst, ◌∙◌, arith, nat_lt, drop-drop, get_or-take, length-drop, length-take, take-take, take_all}
use Rattle.std.specs.List.{AllByRecursion}
use Rattle.std.proofs.Math.Seq.{drop-cons, take-nil}
use Rattle.std.proofs.lemmas.Bool.{cases_Bool, cases_lt}
use Rattle.page_model.specs.Events.{History}
use Rattle.page_model.specs.Telling.{bytes_told}
use Rattle.roff_lines.specs.Env.Tells.{PlainlyTold, TellsFront, TellsOf, EndsGlyphs, EndsBlanks}
use Rattle.roff_lines.specs.GlyphsInFront.{glyphs_in_front}
use Rattle.roff_lines.specs.Env.Kept.{Kept, word_finishes}
use Rattle.roff_lines.specs.Env.Stands.{StandsPlain}
use Rattle.roff_lines.proofs.GlyphsInFront.{front-glyph, front-blank}
use Rattle.roff_lines.proofs.Tells.{TellsFront-append}
use Rattle.roff_lines.proofs.TextRuns.{QuietlyTold-told, Stands-told, most_told}

-- the rest of so many bytes is so many less of the rest
pub take-behind : (n count : ℕ) (bytes : List ℕ) → take (count - n) (drop n bytes) ≡ drop n (take count bytes)
take-behind zero count bytes = let same : count - 0 ≡ count = omega arith in ap (λ m. take m bytes) same
take-behind (suc n) zero bytes = let none : 0 - suc n ≡ 0 = omega arith in ap (λ m. take m (drop (suc n) bytes)) none
take-behind (suc n) (suc count) [] = take-nil (suc count - suc n)
take-behind (suc n) (suc count) (b ∷ bytes) =
    let same : suc count - suc n ≡ count - n = omega arith in
    ap (λ m. take m (drop n bytes)) same ∙ take-behind n count bytes

-- some are told, and then some of the rest
pub TellsOf-append : (count first second : ℕ) (bytes rest : List ℕ) (old mid new : Kept) → rest ≡ drop first bytes → TellsOf count bytes first old mid
    → TellsOf (count - first) rest second mid new → TellsOf count bytes (first + second) old new
TellsOf-append count first second bytes rest old mid new is_rest front behind =
    let text : List ℕ = take count bytes in
    let left : take (count - first) rest ≡ drop first text = ap (take (count - first)) is_rest ∙ take-behind first count bytes in
    let others : TellsFront (drop first text) (drop second (drop first text)) mid new =
    subst (λ xs. TellsFront xs (drop second xs) mid new) left behind in
    subst (λ xs. TellsFront text xs old new) (drop-drop second first text)
    (TellsFront-append text (drop first text) (drop second (drop first text)) old mid new front others)

-- what ends the rest ends them all
pub EndsGlyphs-behind : (count first second : ℕ) (bytes rest : List ℕ) (k : Kept) → rest ≡ drop first bytes
    → EndsGlyphs (drop second (take (count - first) rest)) k → EndsGlyphs (drop (first + second) (take count bytes)) k
EndsGlyphs-behind count first second bytes rest k is_rest ends =
    let text : List ℕ = take count bytes in
    let left : take (count - first) rest ≡ drop first text = ap (take (count - first)) is_rest ∙ take-behind first count bytes in
    subst (λ xs. EndsGlyphs xs k) (drop-drop second first text) (subst (λ xs. EndsGlyphs (drop second xs) k) left ends)

-- the glyphs in front of so many bytes
glyphs_in_front-take : (count : ℕ) (bytes : List ℕ) → glyphs_in_front (take count bytes) ≡ take count (glyphs_in_front bytes)
glyphs_in_front-take zero bytes = refl
glyphs_in_front-take (suc n) [] = refl
glyphs_in_front-take (suc n) (b ∷ bytes) =
    elim (cases_Bool (nat_lt 32 b)) [
      | inl e ↦ rw (front-glyph b (take n bytes) e, front-glyph b bytes e) (ap (λ xs. b ∷ xs) (glyphs_in_front-take n bytes))
      | inr e ↦ rw (front-blank b (take n bytes) e, front-blank b bytes e) refl
    ]

-- so many, of so many in front
take-min : (m n : ℕ) (xs : List ℕ) → take m (take n xs) ≡ take (min m n) xs
take-min m n xs =
    elim (cases_lt m n) [
      | inl less ↦ take-take m n xs (omega (arith, less)) ∙ ap (λ k. take k xs) (omega (arith, less))
      | inr few ↦ take_all m (take n xs) (omega (arith, few, length-take n xs)) ∙ ap (λ k. take k xs) (omega (arith, few))
    ]

-- what was counted of the glyphs in front, at most so many of so many bytes
module _ (bytes : List ℕ) (count room told : ℕ) (text : told ≤ length bytes) (taken : take told bytes ≡ take (min room count) (glyphs_in_front bytes)) where
  pub few-counted : told ≤ count
  few-counted = omega (arith, length-take told bytes, ap length taken, length-take (min room count) (glyphs_in_front bytes), text)

  pub taken-counted : take told (take count bytes) ≡ take room (glyphs_in_front (take count bytes))
  taken-counted =
      take-take told count bytes few-counted ∙ taken ∙ sym (take-min room count (glyphs_in_front bytes))
      ∙ ap (take room) (sym (glyphs_in_front-take count bytes))

-- what was told of so many bytes in front
module _ (count told : ℕ) (bytes : List ℕ) (old new : Kept) (text : count ≤ length bytes) (few : told ≤ count) (t : TellsOf count bytes told old new) where
  abbrev front : List ℕ
  front = take count bytes

  abbrev rest : List ℕ
  rest = drop told front

  long : length front ≡ count
  long = omega (arith, length-take count bytes, text)

  told-long : length front - length rest ≡ told
  told-long = omega (arith, length-drop told front, long, few)

  pub quiet-front : (line_cap : ℕ) (h : History) → StandsPlain line_cap h old → PlainlyTold line_cap (take told bytes) h
  quiet-front line_cap h s =
      subst (λ xs. PlainlyTold line_cap xs h) (ap (λ n. take n front) told-long ∙ take-take told count bytes few)
      (QuietlyTold-told front rest old new t line_cap h s)

  pub stands-front : (line_cap : ℕ) (h : History) → StandsPlain line_cap h old → StandsPlain line_cap (bytes_told (take told bytes) h) new
  stands-front line_cap h s =
      subst (λ xs. StandsPlain line_cap (bytes_told xs h) new) (ap (λ n. take n front) told-long ∙ take-take told count bytes few)
      (Stands-told front rest old new t line_cap h s)

  pub most-front : AllByRecursion (λ b. 31 < b) front → EndsGlyphs rest new → EndsBlanks rest new → (line_cap : ℕ) (h : History)
      → StandsPlain line_cap h old → told < count → PlainlyTold line_cap (take (told + 1) bytes) h → ⊥
  most-front printed glyphs blanks line_cap h s less quiet =
      let same : take (told + 1) bytes ≡ take (length front - length rest + 1) front =
      sym (take-take (told + 1) count bytes (omega (arith, less))) ∙ ap (λ n. take (n + 1) front) (sym told-long) in
      most_told front rest old new t printed glyphs blanks line_cap h s (omega (arith, told-long, long, less))
      (subst (λ xs. PlainlyTold line_cap xs h) same quiet)

-- a place among so many bytes in front
module _ (bytes : List ℕ) (place count : ℕ) (text : count ≤ length bytes) where
  module _ (within : place < count) where
    -- before it the byte of that place
    pub drop-place : slice_index_or bytes place 0 ∷ drop (place + 1) (take count bytes) ≡ drop place (take count bytes)
    drop-place =
        let front : List ℕ = take count bytes in
        let next : suc place ≡ place + 1 = omega arith in
        let split : drop place front ≡ slice_index_or front place 0 ∷ drop (place + 1) front =
        drop-cons front place 0 (omega (arith, within, text, length-take count bytes)) ∙ ap (λ m. slice_index_or front place 0 ∷ drop m front) next in
        sym (split ∙ ap (λ b. b ∷ drop (place + 1) front) (get_or-take count bytes place 0 within))

    pub EndsBlanks-place : (k : Kept) → (slice_index_or bytes place 0 ≡ 32 → word_finishes k ≡ true) → EndsBlanks (drop place (take count bytes)) k
    EndsBlanks-place k ends = subst (λ xs. EndsBlanks xs k) drop-place ends
