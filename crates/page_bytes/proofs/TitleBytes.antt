-- A title that is taken byte by byte.
use Rattle.std.proofs.Common.{◌≡◌, ℕ, zero, suc, ◌+◌, ◌-◌, ◌*◌, ◌^◌, min, List, [], ◌∷◌, ◌++◌, length, refl, sym, ap, ◌∙◌, arith, append_assoc, length-append}
use Rattle.page_model.specs.Columns.{spaces}
use Rattle.page_model.specs.Diverted.{diverted, escaped}
use Rattle.page_model.specs.Titles.{page_mark, part_text}
use Rattle.page_bytes.proofs.DivertedLength.{length-escaped_spaces}
use Rattle.page_bytes.proofs.Escaped.{escaped-append}

-- a piece of the first part that has one
pub piece_of_first : (n : ℕ) (glyphs old new rest : List ℕ) → spaces n ++ (glyphs ++ new) ≡ old
    → spaces n ++ (glyphs ++ (new ++ rest)) ≡ old ++ rest
piece_of_first n glyphs old new rest whole =
    sym (ap (λ (bytes : List ℕ). bytes ++ rest) (sym whole) ∙ append_assoc (spaces n) (glyphs ++ new) rest
    ∙ ap (λ (bytes : List ℕ). spaces n ++ bytes) (append_assoc glyphs new rest))

-- behind one that has none
pub piece_of_second : (n : ℕ) (glyphs first first_then old new rest : List ℕ) → first ≡ [] → first_then ≡ []
    → spaces n ++ (glyphs ++ new) ≡ old → spaces n ++ (glyphs ++ (first_then ++ (new ++ rest))) ≡ first ++ (old ++ rest)
piece_of_second n glyphs first first_then old new rest is_none is_none_then whole =
    rw (is_none, is_none_then) (piece_of_first n glyphs old new rest whole)

-- behind two that have none
pub piece_of_third : (n : ℕ) (glyphs first first_then second second_then old new : List ℕ) → first ≡ [] → first_then ≡ []
    → second ≡ [] → second_then ≡ [] → spaces n ++ (glyphs ++ new) ≡ old
    → spaces n ++ (glyphs ++ (first_then ++ (second_then ++ new))) ≡ first ++ (second ++ old)
piece_of_third n glyphs first first_then second second_then old new none none_then no_more no_more_then whole =
    rw (none, none_then, no_more, no_more_then) whole

pub none_of_three : (first second third : List ℕ) → first ≡ [] → second ≡ [] → third ≡ [] → first ++ (second ++ third) ≡ []
none_of_three first second third no_first no_second no_third = rw (no_first, no_second, no_third) refl

-- nothing of a part is left
pub none_of_part : (n : ℕ) (glyphs old new : List ℕ) → spaces n ++ (glyphs ++ new) ≡ old → n + length glyphs ≡ 0 → new ≡ [] → old ≡ []
none_of_part zero [] old new whole none end = sym whole ∙ end
none_of_part zero (b ∷ glyphs) old new whole none end = absurd (omega (arith, none))
none_of_part (suc n) glyphs old new whole none end = absurd (omega (arith, none))

-- how many bytes are kept of two texts
length-kept : (front back : List ℕ) → length (escaped (front ++ back)) ≡ length (escaped front) + length (escaped back)
length-kept front back = ap length (escaped-append front back) ∙ length-append (escaped front) (escaped back)

-- as many are kept of the page number's mark as of the number
pub mark_kept : (number rest : List ℕ) (b n count : ℕ) → b ≡ page_mark → n ≡ min (length (escaped number)) (2 ^ 64 - 1)
    → min (count + length (escaped (part_text number (b ∷ rest)))) (2 ^ 64 - 1)
    ≡ min (count + n + length (escaped (part_text number rest))) (2 ^ 64 - 1)
mark_kept number rest b n count is_mark is =
    let all : length (escaped (part_text number (b ∷ rest))) ≡ length (escaped number) + length (escaped (part_text number rest)) =
    ap (λ b. length (escaped (part_text number (b ∷ rest)))) is_mark ∙ length-kept number (part_text number rest) in
    omega (arith, all, is)

-- of a title: three bytes, two for each blank in front of a part, and what is kept of the parts
pub title_kept : (first second kept_left kept_centre kept_right : ℕ) (left centre right text : List ℕ)
    → left ++ ((spaces first ++ centre) ++ (spaces second ++ right)) ≡ text → kept_left ≡ min (length (escaped left)) (2 ^ 64 - 1)
    → kept_centre ≡ min (length (escaped centre)) (2 ^ 64 - 1) → kept_right ≡ min (length (escaped right)) (2 ^ 64 - 1)
    → min (3 + 2 * (first + second) + (kept_left + kept_centre + kept_right)) (2 ^ 64 - 1) ≡ min (length (diverted text)) (2 ^ 64 - 1)
title_kept first second kept_left kept_centre kept_right left centre right text whole is_left is_centre is_right =
    let behind : List ℕ = (spaces first ++ centre) ++ (spaces second ++ right) in
    let kept_behind : ℕ = 2 * first + length (escaped centre) + (2 * second + length (escaped right)) in
    let all : length (escaped text) ≡ length (escaped left) + kept_behind =
    ap (λ (bytes : List ℕ). length (escaped bytes)) (sym whole) ∙ omega (
      arith,
      length-kept left behind,
      length-kept (spaces first ++ centre) (spaces second ++ right),
      length-escaped_spaces first centre,
      length-escaped_spaces second right,
    ) in
    let ended = length-append {A = ℕ} (escaped text) (10 ∷ []) in
    omega (arith, all, ended, is_left, is_centre, is_right)
