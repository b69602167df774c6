-- What a diversion keeps of a line's bytes.
use Rattle.std.proofs.Common.{◌≡◌, ℕ, zero, suc, ◌+◌, ◌-◌, ◌*◌, ◌/◌, ◌<◌, ◌≤◌, length, Bool, true, false, inl, inr, List, [], ◌∷◌, ◌++◌, take, drop, refl, sym, ap, ◌∙◌, arith, ne_eqb, append_assoc, not, nat_lt, ◌&&◌, ◌==◌, eqb-true, ltb-true, take-append-drop}
use Rattle.std.proofs.lemmas.Bool.{cases_Bool}
use Rattle.std.proofs.lemmas.List.Sums.{take_while-cons}
use Rattle.page_model.specs.Columns.{spaces, spread}
use Rattle.page_model.specs.Diverted.{escaped_byte, escaped}
use Rattle.page_bytes.specs.LineBytes.Fronts.{blanks_in_front}
use Rattle.page_bytes.specs.DivertedBytes.{TakesEscaped, is_plain, plain_in_front}
use Rattle.page_bytes.proofs.BlanksInFront.{blank_in_front}
use Rattle.roff_lines.proofs.GlyphsInFront.{spread-glyph}

-- what is kept of two texts, one after the other
pub escaped-append : (front back : List ℕ) → escaped (front ++ back) ≡ escaped front ++ escaped back
escaped-append [] back = refl
escaped-append (b ∷ front) back =
    ap (λ bytes. escaped_byte b ++ bytes) (escaped-append front back)
    ∙ sym (append_assoc (escaped_byte b) (escaped front) (escaped back))

-- a byte that is neither a blank nor a backslash is kept as it is
escaped-itself : (b : ℕ) (bytes : List ℕ) → (b == 32) ≡ false → (b == 92) ≡ false → escaped (b ∷ bytes) ≡ b ∷ escaped bytes
escaped-itself b bytes blank backslash = rw (blank, backslash) refl

-- what the tests of such a byte tell
plain_tests : (above backslash : Bool) → (above && not backslash) ≡ true → (above ≡ true) × (backslash ≡ false)
plain_tests true false e = (refl, refl)
plain_tests true true e = let wrong : false ≡ true = e in cc
plain_tests false backslash e = let wrong : false ≡ true = e in cc

-- so is one above the blank that is no backslash
escaped-plain : (b : ℕ) (bytes : List ℕ) → is_plain b ≡ true → escaped (b ∷ bytes) ≡ b ∷ escaped bytes
escaped-plain b bytes e =
    let tests = plain_tests (nat_lt 32 b) (b == 92) e in
    let above : 32 < b = ltb-true 32 b tests.0 in
    let blank : (b == 32) ≡ false = ne_eqb b 32 (λ is. absurd (omega arith)) in
    escaped-itself b bytes blank tests.1

-- it is one of those in front, and another byte ends them
front-plain : (b : ℕ) (bytes : List ℕ) → is_plain b ≡ true → plain_in_front (b ∷ bytes) ≡ b ∷ plain_in_front bytes
front-plain b bytes e = take_while-cons is_plain b bytes ∙ rw e refl

front-other : (b : ℕ) (bytes : List ℕ) → is_plain b ≡ false → plain_in_front (b ∷ bytes) ≡ []
front-other b bytes e = take_while-cons is_plain b bytes ∙ rw e refl

-- the first n of them are written as they stand, and kept so
escaped-plain_in_front : (spare gaps i n : ℕ) (text rest behind : List ℕ)
    → escaped (spread spare gaps i (take n (plain_in_front text) ++ rest) ++ behind)
    ≡ take n (plain_in_front text) ++ escaped (spread spare gaps i rest ++ behind)
escaped-plain_in_front spare gaps i zero text rest behind = refl
escaped-plain_in_front spare gaps i (suc n) [] rest behind = refl
escaped-plain_in_front spare gaps i (suc n) (b ∷ text) rest behind =
    let more : List ℕ = take n (plain_in_front text) ++ rest in
    elim (cases_Bool (is_plain b)) [
      | inl e ↦
          let above : 32 < b = ltb-true 32 b (plain_tests (nat_lt 32 b) (b == 92) e).0 in
          rw (front-plain b text e)
          (ap (λ bytes. escaped (bytes ++ behind)) (spread-glyph spare gaps i b more above)
          ∙ escaped-plain b (spread spare gaps i more ++ behind) e
          ∙ ap (λ bytes. b ∷ bytes) (escaped-plain_in_front spare gaps i n text rest behind))
      | inr e ↦ rw (front-other b text e) refl
    ]

-- so what is kept of a text is these, and what is kept of the rest
pub take-append-escaped : (spare gaps i n count : ℕ) (text behind : List ℕ) → take count text ≡ take n (plain_in_front text)
    → take count text ++ escaped (spread spare gaps i (drop count text) ++ behind) ≡ escaped (spread spare gaps i text ++ behind)
take-append-escaped spare gaps i n count text behind front =
    let rest : List ℕ = drop count text in
    let first : escaped (spread spare gaps i text ++ behind) ≡ escaped (spread spare gaps i (take count text ++ rest) ++ behind) =
    ap (λ bytes. escaped (spread spare gaps i bytes ++ behind)) (sym (take-append-drop count text)) in
    sym (first ∙ rw front (escaped-plain_in_front spare gaps i n text rest behind))

-- so are those of a text that stands as it is
tails : (b c : ℕ) (xs ys : List ℕ) → b ∷ xs ≡ c ∷ ys → xs ≡ ys
tails b c xs ys e = ap (drop 1) e

pub plain_kept : (n count : ℕ) (text behind : List ℕ) → take count text ≡ take n (plain_in_front text)
    → take count text ++ escaped (drop count text ++ behind) ≡ escaped (text ++ behind)
plain_kept n zero text behind front = refl
plain_kept n (suc count) [] behind front = refl
plain_kept zero (suc count) (b ∷ text) behind front = let wrong : b ∷ take count text ≡ [] = front in cc
plain_kept (suc n) (suc count) (b ∷ text) behind front =
    elim (cases_Bool (is_plain b)) [
      | inl e ↦
          let more : b ∷ take count text ≡ b ∷ take n (plain_in_front text) = front ∙ ap (take (suc n)) (front-plain b text e) in
          ap (λ bytes. b ∷ bytes) (plain_kept n count text behind (tails b b (take count text) (take n (plain_in_front text)) more))
          ∙ sym (escaped-plain b (text ++ behind) e)
      | inr e ↦ let wrong : b ∷ take count text ≡ [] = front ∙ ap (take (suc n)) (front-other b text e) in cc
    ]

-- blanks, and then bytes that are kept as they are, where nothing else is due
pub TakesEscaped-piece : (most blanks : ℕ) (due glyphs old left new : List ℕ) → length due ≡ 0 → blanks ≤ most / 2
    → spaces blanks ++ left ≡ old
    → length glyphs ≤ most - 2 * blanks → glyphs ++ escaped new ≡ escaped left → 0 < blanks + length glyphs
    → TakesEscaped most blanks glyphs (due ++ escaped old) (due ++ escaped new)
TakesEscaped-piece most blanks [] glyphs old left new none few first short rest some = record {
  whole =
      ap (λ (bytes : List ℕ). escaped (spaces blanks) ++ bytes) rest ∙ sym (escaped-append (spaces blanks) left) ∙ ap escaped first;
  within = omega (arith, few, short);
  some = λ room more. omega (arith, some);
}
TakesEscaped-piece most blanks (b ∷ due) glyphs old left new none few first short rest some = absurd (omega (arith, none))

-- a byte in front that is no backslash, where no blank is in front, is kept as it is
pub escaped-first : (b : ℕ) (front old new : List ℕ) → old ≡ b ∷ new → blanks_in_front old ≡ [] → (b == 92) ≡ false
    → front ≡ b ∷ [] → front ++ escaped new ≡ escaped old
escaped-first b front old new first none backslash is_front =
    let empty : blanks_in_front (b ∷ new) ≡ [] = ap blanks_in_front (sym first) ∙ none in
    elim (cases_Bool (b == 32)) [
      | inl e ↦ absurd (blank_in_front new (ap (λ c. blanks_in_front (c ∷ new)) (sym (eqb-true b 32 e)) ∙ empty))
      | inr e ↦
          ap (λ bytes. bytes ++ escaped new) is_front ∙ sym (ap escaped first ∙ escaped-itself b new e backslash)
    ]
