-- The bars in front of the keys of a row, and those behind the last, where its cells begin.
use Rattle.std.proofs.Common.{◌≡◌, ℕ, zero, suc, ◌<◌, ◌≤◌, List, [], ◌∷◌, ◌++◌, length, inl, inr, refl, sym, ap, subst, ◌∙◌, arith}
use Rattle.std.proofs.lemmas.Bool.{cases_lt}
use Rattle.tbl_format.specs.Cells.{start_of}
use Rattle.tbl_format.specs.Format.{columns_of_keys, last_changed}
use Rattle.tbl_format.specs.FormatLaws.{bars_among}
use Rattle.tbl_format.specs.declared.format.FormatKey.{FormatKey}
use Rattle.tbl_format.proofs.KeysWith.{length-last_changed, start_of-append, start_of-changed, start_of-last}

-- no key, and no bar
pub bars-none : (cell : ℕ) → bars_among [] 0 cell ≡ 0
bars-none zero = refl
bars-none (suc cell) = refl

-- bars in front of keys, behind the last, and further on
bars-front : (keys : List FormatKey) (last other cell : ℕ) → cell < length keys → bars_among keys last cell ≡ bars_among keys other cell
bars-front [] last other cell some = absurd (omega (arith, some))
bars-front (k ∷ keys) last other zero some = refl
bars-front (k ∷ keys) last other (suc cell) some = bars-front keys last other cell (omega (arith, some))

bars-last : (keys : List FormatKey) (last : ℕ) → bars_among keys last (length keys) ≡ last
bars-last [] last = refl
bars-last (k ∷ keys) last = bars-last keys last

bars-past : (keys : List FormatKey) (last cell : ℕ) → length keys < cell → bars_among keys last cell ≡ 0
bars-past [] last zero past = absurd (omega (arith, past))
bars-past [] last (suc cell) past = refl
bars-past (k ∷ keys) last zero past = absurd (omega (arith, past))
bars-past (k ∷ keys) last (suc cell) past = bars-past keys last cell (omega (arith, past))

bars-append : (keys : List FormatKey) (k : FormatKey) (cell : ℕ) → bars_among (keys ++ k ∷ []) 0 cell ≡ bars_among keys k.bars cell
bars-append [] k zero = refl
bars-append [] k (suc zero) = refl
bars-append [] k (suc (suc cell)) = refl
bars-append (q ∷ keys) k zero = refl
bars-append (q ∷ keys) k (suc cell) = bars-append keys k cell

-- there are no more of them than are asked for, which is said of the columns behind which cells begin: those behind the last key
pub last-held : (keys : List FormatKey) (last : ℕ) (most : ℕ → ℕ) → ((cell : ℕ) → bars_among keys last cell ≤ most (start_of keys cell))
    → last ≤ most (columns_of_keys keys)
last-held keys last most held =
    subst (λ (n : ℕ). last ≤ most n) (start_of-last keys) (omega (arith, held (length keys), bars-last keys last))

-- a key behind the others
pub append-most : (keys : List FormatKey) (k : FormatKey) (most : ℕ → ℕ) → ((cell : ℕ) → bars_among keys k.bars cell ≤ most (start_of keys cell))
    → (cell : ℕ) → bars_among (keys ++ k ∷ []) 0 cell ≤ most (start_of (keys ++ k ∷ []) cell)
append-most keys k most held cell =
    let bars = bars-append keys k cell in
    elim (cases_lt (length keys) cell) [
      | inl past ↦ omega (arith, bars, bars-past keys k.bars cell past)
      | inr within ↦ omega (arith, bars, held cell, ap most (start_of-append keys k cell within))
    ]

-- the last key changed, but for its bars
module _ (change : FormatKey → FormatKey) (same : (k : FormatKey) → (change k).bars ≡ k.bars) where
  bars-changed : (keys : List FormatKey) (last cell : ℕ) → bars_among (last_changed change keys) last cell ≡ bars_among keys last cell
  bars-changed [] last cell = refl
  bars-changed (k ∷ []) last zero = same k
  bars-changed (k ∷ []) last (suc cell) = refl
  bars-changed (k ∷ q ∷ keys) last zero = refl
  bars-changed (k ∷ q ∷ keys) last (suc cell) = bars-changed (q ∷ keys) last cell

  pub changed-most : (keys : List FormatKey) (last other : ℕ) (most : ℕ → ℕ) → ((cell : ℕ) → bars_among keys other cell ≤ most (start_of keys cell))
      → last ≤ most (columns_of_keys (last_changed change keys))
      → (cell : ℕ) → bars_among (last_changed change keys) last cell ≤ most (start_of (last_changed change keys) cell)
  changed-most keys last other most held behind cell =
      let new = last_changed change keys in
      let len = length-last_changed change keys in
      let bars = bars-changed keys last cell in
      elim (cases_lt cell (length keys)) [
        | inl some ↦ omega (arith, bars, bars-front keys last other cell some, held cell, ap most (start_of-changed change keys cell some))
        | inr rest ↦ elim (cases_lt (length keys) cell) [
          | inl past ↦ omega (arith, bars, bars-past keys last cell past)
          | inr within ↦
              let at : cell ≡ length new = omega (arith, rest, within, len) in
              let start : start_of new cell ≡ columns_of_keys new = ap (start_of new) at ∙ start_of-last new in
              let count : cell ≡ length keys = omega (arith, rest, within) in
              let is : bars_among keys last cell ≡ last = ap (bars_among keys last) count ∙ bars-last keys last in
              omega (arith, bars, is, behind, ap most start)
        ]
      ]

-- other bars behind the last key, where more is asked for
bars-more : (keys : List FormatKey) (bars last : ℕ) (old new : ℕ → ℕ) → ((cell : ℕ) → old cell ≤ new cell) → last ≤ new (length keys)
    → ((cell : ℕ) → bars_among keys bars cell ≤ old cell) → (cell : ℕ) → bars_among keys last cell ≤ new cell
bars-more [] bars last old new more is held zero = is
bars-more [] bars last old new more is held (suc cell) = omega arith
bars-more (k ∷ keys) bars last old new more is held zero = omega (arith, more 0, held 0)
bars-more (k ∷ keys) bars last old new more is held (suc cell) =
    bars-more keys bars last (λ (n : ℕ). old (suc n)) (λ (n : ℕ). new (suc n)) (λ n. more (suc n)) is (λ n. held (suc n)) cell

pub last-most : (keys : List FormatKey) (bars last : ℕ) (old new : ℕ → ℕ) → ((column : ℕ) → old column ≤ new column) → last ≤ new (columns_of_keys keys)
    → ((cell : ℕ) → bars_among keys bars cell ≤ old (start_of keys cell)) → (cell : ℕ) → bars_among keys last cell ≤ new (start_of keys cell)
last-most keys bars last old new more is held =
    bars-more keys bars last (λ (cell : ℕ). old (start_of keys cell)) (λ (cell : ℕ). new (start_of keys cell)) (λ cell. more (start_of keys cell))
    (subst (λ (n : ℕ). last ≤ new n) (sym (start_of-last keys)) is) held
