-- A word of the listing, letter by letter from its last one.
use Rattle.std.proofs.Common.{◌≡◌, ℕ, zero, suc, ◌+◌, ◌-◌, ◌*◌, ◌/◌, ◌%◌, ◌<◌, ◌≤◌, List, [], ◌∷◌, ◌++◌, length, drop, set, refl, ap, sym, ◌∙◌, add-one, append_assoc, arith, length-set}
use Rattle.std.proofs.lemmas.Bool.Decides.{nat_tests}
use Rattle.std.proofs.lemmas.List.{drop-set}
use Rattle.std.proofs.lemmas.Grind.{reverse_onto}
use Rattle.roff_num.specs.Alphabetic.{next, backward, word}

-- a letter before `z` moves on
pub next-letter : (c : ℕ) (w : List ℕ) → c < 122 → next (c ∷ w) ≡ (c + 1) ∷ w
next-letter c w below = grind (arith, nat_tests)

-- the word behind another one
pub backward-suc : (n : ℕ) → backward (n + 1) ≡ next (backward n)
unfolding backward
backward-suc n = rw (add-one n) refl

-- the last letters behind `a`, one after another
backward-from : (q r : ℕ) → backward (26 * q + 1) ≡ 97 ∷ backward q → r < 26 → backward (26 * q + r + 1) ≡ (97 + r) ∷ backward q
backward-from q zero first lt =
    let place : 26 * q + 0 + 1 ≡ 26 * q + 1 = omega arith in
    ap backward place ∙ first
backward-from q (suc r) first lt =
    let place : 26 * q + suc r + 1 ≡ (26 * q + r + 1) + 1 = omega arith in
    let letter : 97 + suc r ≡ (97 + r) + 1 = omega arith in
    let before : backward (26 * q + r + 1) ≡ (97 + r) ∷ backward q = backward-from q r first (omega arith) in
    rw (place, backward-suc (26 * q + r + 1), before, next-letter (97 + r) (backward q) (omega arith), letter) refl

-- every 26 words the last letter is `a` again, and before it stands the next word
backward-first : (q : ℕ) → backward (26 * q + 1) ≡ 97 ∷ backward q
unfolding backward
backward-first zero = refl
backward-first (suc q) =
    let place : 26 * suc q + 1 ≡ (26 * q + 25 + 1) + 1 = omega arith in
    let before : backward (26 * q + 25 + 1) ≡ 122 ∷ backward q = backward-from q 25 (backward-first q) (omega arith) in
    rw (place, backward-suc (26 * q + 25 + 1), before) refl

-- the last letter of a word, and what stands before it
pub backward-letter : (q r : ℕ) → r < 26 → backward (26 * q + r + 1) ≡ (97 + r) ∷ backward q
backward-letter q r lt = backward-from q r (backward-first q) lt

-- the same of a word as it is read
pub word-letter : (q r : ℕ) → r < 26 → word (26 * q + r + 1) ≡ word q ++ (97 + r) ∷ []
unfolding word
word-letter q r lt = rw (backward-letter q r lt) (reverse_onto (backward q) (97 + r) [])

-- how many words have at most so many letters
abbrev pub count_up_to : ℕ → ℕ
count_up_to zero = 0
count_up_to (suc k) = 26 * count_up_to k + 26

-- the letters found so far end a word, and those that are left have room
pub record IsWordSoFar (size left start : ℕ) (letters : List ℕ) : Type 0 where
  pub sized : length letters ≡ 7
  pub within : start ≤ 7
  pub room : left ≤ count_up_to start
  pub found : word left ++ drop start letters ≡ word size

-- one letter more
pub IsWordSoFar-step : (size left start : ℕ) (letters : List ℕ) → IsWordSoFar size left start letters → 0 < left
    → IsWordSoFar size ((left - 1) / 26) (start - 1) (set letters (start - 1) (97 + (left - 1) % 26))
IsWordSoFar-step size left zero letters so_far more = absurd (omega (arith, so_far.room))
IsWordSoFar-step size left (suc k) letters so_far more =
    let q : ℕ = (left - 1) / 26 in
    let r : ℕ = (left - 1) % 26 in
    let here : k < length letters = omega (arith, so_far.within, so_far.sized) in
    let behind : suc k - 1 ≡ k = omega arith in
    let whole : 26 * q + r + 1 ≡ left = omega arith in
    let last : word left ≡ word q ++ (97 + r) ∷ [] = ap word (sym whole) ∙ word-letter q r (omega arith) in
    let letters' : drop k (set letters k (97 + r)) ≡ (97 + r) ∷ drop (k + 1) letters = drop-set letters k (97 + r) here in
    let joined : word q ++ (97 + r) ∷ drop (k + 1) letters ≡ word left ++ drop (k + 1) letters = sym (append_assoc (word q) ((97 + r) ∷ []) (drop (k + 1) letters)) ∙ ap (λ w. w ++ drop (k + 1) letters) (sym last) in
    rw behind (record {
      sized = length-set letters k (97 + r) ∙ so_far.sized;
      within = omega (arith, so_far.within);
      room = omega (arith, so_far.room);
      found = rw letters' (joined ∙ (rw (add-one k) so_far.found));
    })

-- none are left: they are the word
pub IsWordSoFar-end : (size left start : ℕ) (letters : List ℕ) → IsWordSoFar size left start letters → left ≤ 0 → drop start letters ≡ word size
unfolding word backward
IsWordSoFar-end size zero start letters so_far none = so_far.found
IsWordSoFar-end size (suc left) start letters so_far none = absurd (omega arith)
