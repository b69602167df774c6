-- Sums over names, and what their entries become, behind what is set and taken away.
use Rattle.std.proofs.Common.{◌≡◌, ℕ, ◌+◌, inl, inr, List, [], ◌∷◌, get_or, drop, map, Some, None, refl, ap, ◌∙◌, arith, Option, option_map, sum_by}
use Rattle.std.proofs.lemmas.List.Sums.{sum_by-cons}
use Rattle.roff_store.specs.Named.{Named, EachOnce, entry_of, with_entry, without_entry}
use Rattle.roff_store.proofs.Entries.{bytes_eq_tells, without_entry-absent}

-- a number of an entry, if there is one
abbrev pub if_any : {X : Type 0} → (X → ℕ) → Option X → ℕ
if_any f None = 0
if_any f (Some x) = f x

module _ {E : Type 0} (f : E → ℕ) where
  abbrev part : List ℕ × E → ℕ
  part e = f e.1

  -- a sum without a name's entry
  pub sum-without : (name : List ℕ) (es : Named E) → EachOnce es
      → sum_by (λ e. f e.1) (without_entry name es) + if_any f (entry_of name es) ≡ sum_by (λ e. f e.1) es
  sum-without name [] once = refl
  sum-without name (e ∷ es) once =
      elim (bytes_eq_tells name e.0) [
        | inl is ↦ (
            let absent : without_entry name es ≡ es = without_entry-absent name es (rw is.1 once.0) in
            rw (is.0, absent) (omega (arith, sum_by-cons part e es)))
        | inr other ↦ (
            let others = sum-without name es once.1 in
            rw other.0 (omega (arith, others, sum_by-cons part e es, sum_by-cons part e (without_entry name es))))
      ]

  -- and with another one in its place
  pub sum-with : (name : List ℕ) (entry : E) (es : Named E) → EachOnce es
      → sum_by (λ e. f e.1) (with_entry name entry es) ≡ sum_by (λ e. f e.1) (without_entry name es) + f entry
  sum-with name entry [] once = refl
  sum-with name entry (e ∷ es) once =
      elim (bytes_eq_tells name e.0) [
        | inl is ↦ (
            let absent : without_entry name es ≡ es = without_entry-absent name es (rw is.1 once.0) in
            rw (is.0, absent) (omega (arith, sum_by-cons part (name, entry) es)))
        | inr other ↦ (
            let others = sum-with name entry es once.1 in
            rw other.0 (omega (arith, others, sum_by-cons part e (with_entry name entry es), sum_by-cons part e (without_entry name es))))
      ]

module _ {E F : Type 0} (f : E → F) where
  -- what stands behind a change of each entry
  pub map-without : (name : List ℕ) (es : Named E)
      → map (λ e. (e.0, f e.1)) (without_entry name es) ≡ without_entry name (map (λ e. (e.0, f e.1)) es)
  map-without name [] = refl
  map-without name (e ∷ es) = let others = map-without name es in grind arith

  pub entry-map : (name : List ℕ) (es : Named E) → entry_of name (map (λ e. (e.0, f e.1)) es) ≡ option_map f (entry_of name es)
  entry-map name [] = refl
  entry-map name (e ∷ es) = let others = entry-map name es in grind arith

  -- and each name stays once
  pub once-map : (es : Named E) → EachOnce es → EachOnce (map (λ e. (e.0, f e.1)) es)
  once-map [] once = tt
  once-map (e ∷ es) once = (entry-map e.0 es ∙ ap (option_map f) once.0, once-map es once.1)

  -- each entry changed
  abbrev pub renamed : (E → F) → Named E → Named F
  renamed h es = map {B = List ℕ × F} (λ e. (e.0, h e.1)) es

  -- a name's entry is set, and those of the others change by two functions that agree on them
  pub map-with : (g : E → F) (name : List ℕ) (entry : E) (es : Named E) → EachOnce es
      → renamed g (without_entry name es) ≡ renamed f (without_entry name es)
      → renamed g (with_entry name entry es) ≡ with_entry name (g entry) (renamed f es)
  map-with g name entry [] once same = refl
  map-with g name entry (e ∷ es) once same =
      elim (bytes_eq_tells name e.0) [
        | inl is ↦ (
            let absent : without_entry name es ≡ es = without_entry-absent name es (rw is.1 once.0) in
            let rest : renamed g es ≡ renamed f es = rw (is.0, absent) at same in
            rw is.0 (ap (λ (others : Named F). (name, g entry) ∷ others) rest))
        | inr other ↦ (
            let parts : renamed g (e ∷ without_entry name es) ≡ renamed f (e ∷ without_entry name es) = rw other.0 at same in
            let first : (e.0, g e.1) ≡ (e.0, f e.1) = ap (λ (l : Named F). get_or l 0 (e.0, g e.1)) parts in
            let others : renamed g (with_entry name entry es) ≡ with_entry name (g entry) (renamed f es) =
            map-with g name entry es once.1 (ap (λ (l : Named F). drop 1 l) parts) in
            rw other.0 (ap (λ (x : List ℕ × F). x ∷ renamed g (with_entry name entry es)) first
            ∙ ap (λ (l : Named F). (e.0, f e.1) ∷ l) others))
      ]
