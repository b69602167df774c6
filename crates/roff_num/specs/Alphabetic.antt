-- The words over `a` to `z`, listed by length and then by alphabet (manual, section 8: the format `a`).
use Rattle.std.specs.Prelude.{◌≡◌, ℕ, zero, suc, ◌+◌, ◌-◌, ◌*◌, ◌<◌, ◌≤◌, ◌⊎◌, List, [], ◌∷◌, length, reverse, if◌then◌else◌, ◌==◌}
use Rattle.std.specs.List.{AllByRecursion}

-- the next word of the listing, both written from their last letter: that letter moves on, but behind `z` comes `a`, and what stands before it moves on
abbrev pub next : List ℕ → List ℕ
next [] = 97 ∷ []
next (c ∷ word) =
    let carried = next word in
    if c == 122 then 97 ∷ carried else (c + 1) ∷ word

-- the n-th word, written from its last letter
unfoldable pub backward : ℕ → List ℕ
backward zero = []
backward (suc n) = next (backward n)

-- the n-th word; before the first one stands the empty text
unfoldable pub word : ℕ → List ℕ
word n = reverse (backward n)

-- a text of letters `a` to `z`
abbrev pub IsOverLetters : List ℕ → Type 0
IsOverLetters text = AllByRecursion (λ c. (97 ≤ c) × (c ≤ 122)) text

-- the alphabet's order of two words of one length
abbrev pub StandsFirst : List ℕ → List ℕ → Type 0
StandsFirst [] w = ⊥
StandsFirst (c ∷ v) [] = ⊥
StandsFirst (c ∷ v) (d ∷ w) = (c < d) ⊎ ((c ≡ d) × StandsFirst v w)

-- the order of the listing: by length and then by alphabet
abbrev pub ComesBefore : List ℕ → List ℕ → Type 0
ComesBefore v w = (length v < length w) ⊎ ((length v ≡ length w) × StandsFirst v w)

-- the place of a word written from its last letter: `a` counts 1 to `z` 26, and 26 times as much with each letter behind it
abbrev pub place_backward : List ℕ → ℕ
place_backward [] = 0
place_backward (c ∷ word) = 26 * place_backward word + (c - 96)

-- a word's place in the listing
unfoldable pub place : List ℕ → ℕ
place w = place_backward (reverse w)
