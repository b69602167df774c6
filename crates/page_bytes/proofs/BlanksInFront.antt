-- The blanks in front of what is written of a text.
use Rattle.std.proofs.Common.{◌≡◌, ℕ, zero, suc, ◌+◌, ◌-◌, ◌≤◌, Bool, true, false, List, [], ◌∷◌, ◌++◌, length, take, refl, sym, ap, ◌∙◌, arith, append_assoc, append-nil, ◌==◌, ◌||◌, take_all}
use Rattle.std.proofs.lemmas.List.{length-replicate, replicate-append-replicate}
use Rattle.std.proofs.lemmas.List.Sums.{take_while-cons}
use Rattle.std.proofs.Math.Seq.{take-append_seam}
use Rattle.page_model.specs.Glyphs.{gap_blank, further_blank, glyph_blank}
use Rattle.page_model.specs.Columns.{spaces, added_columns, spread}
use Rattle.page_bytes.specs.LineBytes.Fronts.{blanks_in_front}

-- blanks before other bytes are the first of those in front
blanks_in_front-spaces : (n : ℕ) (bytes : List ℕ) → blanks_in_front (spaces n ++ bytes) ≡ spaces n ++ blanks_in_front bytes
blanks_in_front-spaces zero bytes = refl
blanks_in_front-spaces (suc n) bytes =
    take_while-cons (λ b. b == 32) 32 (spaces n ++ bytes) ∙ ap (λ more. 32 ∷ more) (blanks_in_front-spaces n bytes)

-- as many as may be taken are the first so many of those in front
pub as_many_blanks : (most count : ℕ) (behind bytes : List ℕ) → spaces count ++ behind ≡ bytes → count ≤ most → most ≤ count
    → spaces count ≡ take most (blanks_in_front bytes)
as_many_blanks most count behind bytes whole few full =
    let all : most ≡ length (spaces count) = omega (arith, length-replicate {A = ℕ} count 32) in
    rw (← whole, blanks_in_front-spaces count behind, all) (sym (take-append_seam (spaces count) (blanks_in_front behind)))

-- and so are those that no blank follows
pub all_blanks : (most count : ℕ) (behind bytes : List ℕ) → spaces count ++ behind ≡ bytes → count ≤ most
    → blanks_in_front behind ≡ [] → spaces count ≡ take most (blanks_in_front bytes)
all_blanks most count behind bytes whole few none =
    rw (← whole, blanks_in_front-spaces count behind, none, append-nil)
    (sym (take_all most (spaces count) (omega (arith, length-replicate {A = ℕ} count 32))))

-- a blank is one of those in front
pub blank_in_front : (bytes : List ℕ) → blanks_in_front (32 ∷ bytes) ≡ [] → ⊥
blank_in_front bytes none =
    let e : 32 ∷ blanks_in_front bytes ≡ [] = sym (take_while-cons (λ b. b == 32) 32 bytes) ∙ none in cc

-- a byte that stands for no blank is written as itself
spread-itself : (spare gaps i b : ℕ) (text : List ℕ) → b == gap_blank ≡ false → (b == further_blank || b == glyph_blank) ≡ false
    → spread spare gaps i (b ∷ text) ≡ b ∷ spread spare gaps i text
spread-itself spare gaps i b text gap blank = rw (gap, blank) refl

-- where no blank is in front, the first byte is written as itself, by what the tests of its kind tell
itself_by : (is_gap is_blank : Bool) (spare gaps i b : ℕ) (text behind : List ℕ) → (b == gap_blank) ≡ is_gap
    → (b == further_blank || b == glyph_blank) ≡ is_blank → blanks_in_front (spread spare gaps i (b ∷ text) ++ behind) ≡ []
    → spread spare gaps i (b ∷ text) ≡ b ∷ spread spare gaps i text
itself_by true is_blank spare gaps i b text behind gap blank none =
    let more = spaces (added_columns spare gaps (i + 1) - added_columns spare gaps i) ++ spread spare gaps (i + 1) text in
    let whole : spread spare gaps i (b ∷ text) ++ behind ≡ 32 ∷ (more ++ behind) = rw gap refl in
    absurd (blank_in_front (more ++ behind) (sym (ap blanks_in_front whole) ∙ none))
itself_by false true spare gaps i b text behind gap blank none =
    let whole : spread spare gaps i (b ∷ text) ++ behind ≡ 32 ∷ (spread spare gaps i text ++ behind) = rw (gap, blank) refl in
    absurd (blank_in_front (spread spare gaps i text ++ behind) (sym (ap blanks_in_front whole) ∙ none))
itself_by false false spare gaps i b text behind gap blank none = spread-itself spare gaps i b text gap blank

-- so the first byte of what is left is that of the text
pub first_byte : (spare gaps i b blanks : ℕ) (text rest behind : List ℕ) → text ≡ b ∷ rest
    → blanks_in_front (spaces blanks ++ (spread spare gaps i text ++ behind)) ≡ []
    → spaces blanks ++ (spread spare gaps i text ++ behind) ≡ b ∷ (spaces blanks ++ (spread spare gaps i rest ++ behind))
first_byte spare gaps i b zero text rest behind is_text none =
    let front : blanks_in_front (spread spare gaps i (b ∷ rest) ++ behind) ≡ [] =
    ap (λ bytes. blanks_in_front (spread spare gaps i bytes ++ behind)) (sym is_text) ∙ none in
    ap (λ bytes. spread spare gaps i bytes ++ behind) is_text
    ∙ ap (λ bytes. bytes ++ behind) (itself_by (b == gap_blank) (b == further_blank || b == glyph_blank) spare gaps i b rest behind refl refl front)
first_byte spare gaps i b (suc blanks) text rest behind is_text none =
    absurd (blank_in_front (spaces blanks ++ (spread spare gaps i text ++ behind)) none)

-- some of the blanks that are owed, and the others
pub some_blanks : (some all : ℕ) (bytes : List ℕ) → some ≤ all → spaces some ++ (spaces (all - some) ++ bytes) ≡ spaces all ++ bytes
some_blanks some all bytes few =
    let sum : some + (all - some) ≡ all = omega arith in
    let joined : spaces some ++ spaces (all - some) ≡ spaces all = replicate-append-replicate some (all - some) 32 ∙ ap spaces sum in
    sym (append_assoc (spaces some) (spaces (all - some)) bytes) ∙ ap (λ front. front ++ bytes) joined
