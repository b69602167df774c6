-- Columns of which all are done.
use Rattle.std.proofs.Common.{◌≡◌, ℕ, ◌≤◌, min, List, [], ◌++◌, length, take, drop, ap, ◌∙◌, arith, inl, inr, append-nil, take_all, take-append-drop}
use Rattle.std.proofs.lemmas.List.{drop_all}
use Rattle.std.proofs.lemmas.Bool.{cases_lt}

-- what goes on along two lists changes none behind the end of either
pub all_done : {X A : Type 0} (f : List X → List A → List A) → ((columns : List A) → f [] columns ≡ columns) → ((xs : List X) → f xs [] ≡ [])
    → (columns : List A) (xs : List X) (at : ℕ) → min (length columns) (length xs) ≤ at → take at columns ++ f (drop at xs) (drop at columns) ≡ columns
all_done {X} {A} f nothing_asked no_column columns xs at end = elim (cases_lt at (length xs)) [
  | inl more ↦
      let none : drop at columns ≡ [] = drop_all at columns (omega (arith, end, more)) in
      ap (λ (rest : List A). take at columns ++ f (drop at xs) rest) none
      ∙ ap (λ (rest : List A). take at columns ++ rest) (no_column (drop at xs))
      ∙ append-nil (take at columns)
      ∙ take_all at columns (omega (arith, end, more))
  | inr over ↦
      let none : drop at xs ≡ [] = drop_all at xs over in
      ap (λ (rest : List X). take at columns ++ f rest (drop at columns)) none
      ∙ ap (λ (rest : List A). take at columns ++ rest) (nothing_asked (drop at columns))
      ∙ take-append-drop at columns
]
