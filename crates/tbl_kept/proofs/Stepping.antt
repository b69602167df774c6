-- Steps along two lists, of which one changes.
use Rattle.std.proofs.Common.{◌≡◌, ℕ, ◌+◌, ◌<◌, max, List, [], ◌∷◌, ◌++◌, length, map, take, drop, get_or, set, sym, ap, subst, ◌∙◌, arith, append_assoc, drop-set-lt}
use Rattle.std.specs.List.{AllByRecursion}
use Rattle.std.proofs.lemmas.List.{drop_more, take_more_set}
use Rattle.tbl_layout.specs.Columns.{greatest}

-- the greatest of numbers, and of one more behind them
pub greatest-more : {A : Type 0} (f : A → ℕ) (items : List A) (last : A) → greatest (map f (items ++ last ∷ [])) ≡ max (greatest (map f items)) (f last)
greatest-more f [] last = omega arith
greatest-more f (x ∷ items) last = omega (arith, greatest-more f items last)

-- one element, and all behind it, are changed
pub next-map : {A : Type 0} (change : A → A) (items : List A) (at : ℕ) (a : A) → at < length items
    → take (at + 1) (set items at (change (get_or items at a))) ++ map change (drop (at + 1) (set items at (change (get_or items at a))))
    ≡ take at items ++ map change (drop at items)
next-map {A} change items at a more =
    let new = change (get_or items at a) in
    ap (λ (front : List A). front ++ map change (drop (at + 1) (set items at new))) (take_more_set items at new more)
    ∙ ap (λ (r : List A). (take at items ++ new ∷ []) ++ map change r) (drop-set-lt (at + 1) items at new (omega arith))
    ∙ append_assoc (take at items) (new ∷ []) (map change (drop (at + 1) items))
    ∙ ap (λ (r : List A). take at items ++ map change r) (sym (drop_more items at a more))

-- what holds of all that is left holds of the next, and of all behind it
pub next-all : {A : Type 0} (P : A → Type 0) (items : List A) (at : ℕ) (a : A) → at < length items → AllByRecursion P (drop at items)
    → P (get_or items at a) × AllByRecursion P (drop (at + 1) items)
next-all P items at a more all = subst (AllByRecursion P) (drop_more items at a more) all

-- and the element itself may have changed
pub next-all-set : {A : Type 0} (P : A → Type 0) (items : List A) (at : ℕ) (a new : A) → at < length items → AllByRecursion P (drop at items)
    → AllByRecursion P (drop (at + 1) (set items at new))
next-all-set P items at a new more all =
    subst (AllByRecursion P) (sym (drop-set-lt (at + 1) items at new (omega arith))) (next-all P items at a more all).1
