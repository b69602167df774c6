-- The listing of the words over `a` to `z`: of letters, in order, whole, each word once.
use Rattle.std.proofs.Common.{◌≡◌, ℕ, zero, suc, ◌+◌, ◌-◌, ◌*◌, ◌<◌, ◌≤◌, inl, inr, Bool, true, false, cond, eqb, List, [], ◌∷◌, ◌++◌, reverse, refl, ap, sym, subst, ◌∙◌, add-one, arith, length-append}
use Rattle.std.proofs.lemmas.Bool.Decides.{nat_tests}
use Rattle.std.proofs.lemmas.Bool.{cases_lt}
use Rattle.std.proofs.lemmas.List.{reverse-reverse}
use Rattle.std.proofs.lemmas.Grind.{reverse_onto}
use Rattle.std.proofs.Math.Nat.{eq-or-lt_of_le}
use Rattle.roff_num.specs.Alphabetic.{next, backward, word, IsOverLetters, StandsFirst, ComesBefore, place, place_backward}
use Rattle.roff_num.proofs.Letters.{backward-letter}

-- letters before letters are letters
IsOverLetters-append : (v w : List ℕ) → IsOverLetters v → IsOverLetters w → IsOverLetters (v ++ w)
IsOverLetters-append [] w all all' = all'
IsOverLetters-append (c ∷ v) w (letter, all) all' = (letter, IsOverLetters-append v w all all')

-- a text of letters is one when it is turned round
IsOverLetters-reverse : (w : List ℕ) → IsOverLetters w → IsOverLetters (reverse w)
IsOverLetters-reverse [] all = tt
IsOverLetters-reverse (c ∷ w) (letter, all) = rw (reverse_onto w c []) (IsOverLetters-append (reverse w) (c ∷ []) (IsOverLetters-reverse w all) (letter, tt))

-- the next word is of letters, too
IsOverLetters-moved : (last : Bool) (c : ℕ) (w carried : List ℕ) → eqb c 122 ≡ last → (97 ≤ c) × (c ≤ 122) → IsOverLetters w → IsOverLetters carried
    → IsOverLetters (cond last (97 ∷ carried) ((c + 1) ∷ w))
IsOverLetters-moved true c w carried e letter all all' = ((omega arith, omega arith), all')
IsOverLetters-moved false c w carried e letter all all' = let below : c < 122 = grind (arith, nat_tests) in ((omega arith, omega arith), all)

IsOverLetters-next : (w : List ℕ) → IsOverLetters w → IsOverLetters (next w)
IsOverLetters-next [] all = ((omega arith, omega arith), tt)
IsOverLetters-next (c ∷ w) all = IsOverLetters-moved (eqb c 122) c w (next w) refl all.0 all.1 (IsOverLetters-next w all.1)

IsOverLetters-backward : (n : ℕ) → IsOverLetters (backward n)
unfolding backward
IsOverLetters-backward zero = tt
IsOverLetters-backward (suc n) = IsOverLetters-next (backward n) (IsOverLetters-backward n)

-- the words of the listing are of letters
pub IsOverLetters-word : (n : ℕ) → IsOverLetters (word n)
unfolding word
IsOverLetters-word n = IsOverLetters-reverse (backward n) (IsOverLetters-backward n)

-- the alphabet's order, seen in what stands in front
StandsFirst-append : (v w x y : List ℕ) → StandsFirst v w → StandsFirst (v ++ x) (w ++ y)
StandsFirst-append [] w x y first = absurd first
StandsFirst-append (c ∷ v) [] x y first = absurd first
StandsFirst-append (c ∷ v) (d ∷ w) x y first = elim first [
  | inl lt ↦ inl lt
  | inr (same, rest) ↦ inr (same, StandsFirst-append v w x y rest)
]

-- the alphabet's order, seen in the last letter
StandsFirst-last : (v : List ℕ) (c d : ℕ) → c < d → StandsFirst (v ++ c ∷ []) (v ++ d ∷ [])
StandsFirst-last [] c d lt = inl lt
StandsFirst-last (b ∷ v) c d lt = inr (refl, StandsFirst-last v c d lt)

StandsFirst-trans : (u v w : List ℕ) → StandsFirst u v → StandsFirst v w → StandsFirst u w
StandsFirst-trans [] v w first then = absurd first
StandsFirst-trans (b ∷ u) [] w first then = absurd first
StandsFirst-trans (b ∷ u) (c ∷ v) [] first then = absurd then
StandsFirst-trans (b ∷ u) (c ∷ v) (d ∷ w) first then = elim first [
  | inl lt ↦ elim then [
    | inl lt' ↦ inl (omega arith)
    | inr (same, rest) ↦ inl (omega arith)
  ]
  | inr (same, rest) ↦ elim then [
    | inl lt' ↦ inl (omega arith)
    | inr (same', rest') ↦ inr (same ∙ same', StandsFirst-trans u v w rest rest')
  ]
]

ComesBefore-trans : (u v w : List ℕ) → ComesBefore u v → ComesBefore v w → ComesBefore u w
ComesBefore-trans u v w first then = elim first [
  | inl lt ↦ elim then [
    | inl lt' ↦ inl (omega arith)
    | inr (same, rest) ↦ inl (omega arith)
  ]
  | inr (same, rest) ↦ elim then [
    | inl lt' ↦ inl (omega arith)
    | inr (same', rest') ↦ inr (same ∙ same', StandsFirst-trans u v w rest rest')
  ]
]

-- one letter more behind two words
ComesBefore-letter : (v w : List ℕ) (c d : ℕ) → ComesBefore v w → ComesBefore (v ++ c ∷ []) (w ++ d ∷ [])
ComesBefore-letter v w c d first = elim first [
  | inl lt ↦ inl (simp length-append (omega arith))
  | inr (same, rest) ↦ inr (simp length-append (omega arith), StandsFirst-append v w (c ∷ []) (d ∷ []) rest)
]

-- the next word comes behind
ComesBefore-moved : (last : Bool) (c : ℕ) (w carried : List ℕ) → ComesBefore (reverse w) (reverse carried)
    → ComesBefore (reverse (c ∷ w)) (reverse (cond last (97 ∷ carried) ((c + 1) ∷ w)))
ComesBefore-moved true c w carried first =
    rw (reverse_onto w c [], reverse_onto carried 97 []) (ComesBefore-letter (reverse w) (reverse carried) c 97 first)
ComesBefore-moved false c w carried first =
    rw (reverse_onto w c [], reverse_onto w (c + 1) []) (inr (simp length-append, StandsFirst-last (reverse w) c (c + 1) (omega arith)))

ComesBefore-next : (w : List ℕ) → ComesBefore (reverse w) (reverse (next w))
ComesBefore-next [] = inl (omega arith)
ComesBefore-next (c ∷ w) = ComesBefore-moved (eqb c 122) c w (next w) (ComesBefore-next w)

-- an earlier word of the listing comes before a later one
pub ComesBefore-word : (m n : ℕ) → m < n → ComesBefore (word m) (word n)
unfolding word backward
ComesBefore-word m zero lt = absurd (omega arith)
ComesBefore-word m (suc n) lt =
    let le : m ≤ n = omega arith in
    elim (eq-or-lt_of_le le) [
      | inl same ↦ rw same (ComesBefore-next (backward n))
      | inr below ↦ ComesBefore-trans (word m) (word n) (word (suc n)) (ComesBefore-word m n below) (ComesBefore-next (backward n))
    ]

-- a word's place leads back to it
backward-place : (w : List ℕ) → IsOverLetters w → backward (place_backward w) ≡ w
unfolding backward
backward-place [] all = refl
backward-place (c ∷ w) ((low, high), all) =
    let place : 26 * place_backward w + (c - 96) ≡ 26 * place_backward w + (c - 97) + 1 = omega arith in
    let letter : 97 + (c - 97) ≡ c = omega arith in
    rw (place, backward-letter (place_backward w) (c - 97) (omega arith), letter, backward-place w all) refl

-- each word is listed
pub word-place : (w : List ℕ) → IsOverLetters w → word (place w) ≡ w
unfolding word place
word-place w all = rw (backward-place (reverse w) (IsOverLetters-reverse w all)) (reverse-reverse w)

-- the next word's place is the next one
place-moved : (last : Bool) (c : ℕ) (w carried : List ℕ) → eqb c 122 ≡ last → 97 ≤ c → c ≤ 122 → place_backward carried ≡ place_backward w + 1
    → place_backward (cond last (97 ∷ carried) ((c + 1) ∷ w)) ≡ place_backward (c ∷ w) + 1
place-moved true c w carried e low high more = let is_last : c ≡ 122 = grind (arith, nat_tests) in omega arith
place-moved false c w carried e low high more = omega arith

place_backward-next : (w : List ℕ) → IsOverLetters w → place_backward (next w) ≡ place_backward w + 1
place_backward-next [] all = refl
place_backward-next (c ∷ w) ((low, high), all) = place-moved (eqb c 122) c w (next w) refl low high (place_backward-next w all)

place_backward-backward : (n : ℕ) → place_backward (backward n) ≡ n
unfolding backward
place_backward-backward zero = refl
place_backward-backward (suc n) =
    place_backward-next (backward n) (IsOverLetters-backward n) ∙ ap (λ k. k + 1) (place_backward-backward n) ∙ add-one n

-- each is listed once
pub place-word : (n : ℕ) → place (word n) ≡ n
unfolding word place
place-word n = rw (reverse-reverse (backward n)) (place_backward-backward n)

-- no word comes before itself
StandsFirst-irrefl : (w : List ℕ) → ¬ StandsFirst w w
StandsFirst-irrefl [] first = first
StandsFirst-irrefl (c ∷ w) first = elim first [ inl lt ↦ absurd (omega arith) | inr (same, rest) ↦ StandsFirst-irrefl w rest ]

ComesBefore-irrefl : (w : List ℕ) → ¬ ComesBefore w w
ComesBefore-irrefl w first = elim first [ inl lt ↦ absurd (omega arith) | inr (same, rest) ↦ StandsFirst-irrefl w rest ]

-- so what comes before another word of the listing stands at an earlier place
lt-ComesBefore : (m n : ℕ) → ComesBefore (word m) (word n) → m < n
lt-ComesBefore m n first = elim (cases_lt m n) [
  | inl lt ↦ lt
  | inr le ↦ elim (eq-or-lt_of_le le) [
    | inl same ↦ absurd (ComesBefore-irrefl (word m) (rw same at first))
    | inr below ↦ absurd (ComesBefore-irrefl (word m) (ComesBefore-trans (word m) (word n) (word m) first (ComesBefore-word n m below)))
  ]
]

-- and nothing stands between two words that follow one another
pub word-between : (n : ℕ) (w : List ℕ) → IsOverLetters w → ComesBefore (word n) w → ¬ ComesBefore w (word (n + 1))
word-between n w all behind before =
    let listed : w ≡ word (place w) = sym (word-place w all) in
    let low : n < place w = lt-ComesBefore n (place w) (let P : List ℕ → Type 0 = λ v. ComesBefore (word n) v in subst P listed behind) in
    let high : place w < n + 1 = lt-ComesBefore (place w) (n + 1) (let P : List ℕ → Type 0 = λ v. ComesBefore v (word (n + 1)) in subst P listed before) in
    absurd (omega arith)
