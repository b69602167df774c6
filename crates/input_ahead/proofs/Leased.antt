-- Bodies that stand ahead, while what their leases give changes.
use Rattle.std.proofs.Common.{◌≡◌, ◌≢◌, ◌<◌, ◌+◌, ◌-◌, ℕ, zero, suc, cond, List, [], ◌∷◌, ◌++◌, length, map, drop, get_or, refl, sym, ap, ◌∙◌, arith, All, Some, None, is_some, IsSome, length-drop, Option, AllPairs, get_or-set_same, get_or-set_other}
use Rattle.std.proofs.lemmas.List.Elements.{All-tail}
use Rattle.std.proofs.lemmas.List.Sums.{sum_by-set}
use Rattle.input_model.specs.Input.{Ahead, ByteAhead, FreeAhead, EndAhead, ReturnAhead, DoAhead}
use Rattle.input_ahead.specs.InputAhead.Bodies.{leases_in, with_bodies}
use Rattle.input_ahead.specs.declared.input_ahead.EventOrBody.{EventOrBody}
use Rattle.input_ahead.specs.declared.input_ahead.EventOrBody.TheVariants.{Event, Body}
use Rattle.roff_store.specs.Texts.{Texts, kept, lease_bytes, lease_of, live, rest_of}
use Rattle.roff_store.specs.TextCalls.{Release, Take, after, bytes_given}

-- a lease that gives something lives
pub some-giving : (lease : Option (List ℕ)) → 0 < rest_of lease → IsSome lease
some-giving None gives = absurd (omega (arith, gives))
some-giving (Some bytes) gives = search

-- a place where something is lies inside
inside-some : (leases : List (Option (List ℕ))) (id : ℕ) → IsSome (get_or leases id None) → id < length leases
inside-some [] id lives = absurd (cc)
inside-some (lease ∷ leases) zero lives = omega arith
inside-some (lease ∷ leases) (suc id) lives = let n = inside-some leases id lives in omega (arith, n)

-- what a lease gives once it has given so many bytes
pub given-bytes : (count : ℕ) (lease : Option (List ℕ)) → lease_bytes (bytes_given count lease) ≡ drop count (lease_bytes lease)
given-bytes zero None = refl
given-bytes (suc count) None = refl
given-bytes count (Some bytes) = refl

pub given-rest : (count : ℕ) (lease : Option (List ℕ)) → rest_of (bytes_given count lease) ≡ rest_of lease - count
given-rest count None = omega arith
given-rest count (Some bytes) = length-drop count bytes

-- bodies give the same while their leases do
pub with_bodies-same : {E : Type 0} (t u : Texts) (items : List (Ahead (EventOrBody E)))
    → All (λ id. lease_of id u ≡ lease_of id t) (leases_in items) → with_bodies u items ≡ with_bodies t items
with_bodies-same t u [] same = refl
with_bodies-same {E} t u (ByteAhead b ∷ items) same =
    ap (λ (rest : List (Ahead E)). ByteAhead b ∷ rest) (with_bodies-same t u items same)
with_bodies-same {E} t u (FreeAhead b ∷ items) same =
    ap (λ (rest : List (Ahead E)). FreeAhead b ∷ rest) (with_bodies-same t u items same)
with_bodies-same {E} t u (EndAhead ∷ items) same =
    ap (λ (rest : List (Ahead E)). EndAhead ∷ rest) (with_bodies-same t u items same)
with_bodies-same {E} t u (ReturnAhead back ∷ items) same =
    ap (λ (rest : List (Ahead E)). ReturnAhead back ∷ rest) (with_bodies-same t u items same)
with_bodies-same {E} t u (DoAhead (Event event) ∷ items) same =
    ap (λ (rest : List (Ahead E)). DoAhead event ∷ rest) (with_bodies-same t u items same)
with_bodies-same {E} t u (DoAhead (Body id) ∷ items) same =
    let front : lease_of id.0 u ≡ lease_of id.0 t = same 0 0 (omega arith) in
    let others = All-tail (λ other. lease_of other u ≡ lease_of other t) id.0 (leases_in items) same in
    let behind = with_bodies-same t u items others in
    ap (λ (lease : Option (List ℕ)). map ByteAhead (lease_bytes lease) ++ with_bodies u items) front
    ∙ ap (λ (rest : List (Ahead E)). map ByteAhead (lease_bytes (lease_of id.0 t)) ++ rest) behind

-- where each stands once, those behind the first are others
pub others-behind : (id : ℕ) (ids : List ℕ) → AllPairs (λ (n later : ℕ). n ≢ later) (id ∷ ids)
    → All (λ other. other ≢ id) ids
others-behind id ids once k d within = λ same. once 0 (suc k) d (omega arith) (omega (arith, within)) (sym same)

-- and each of them stands once
pub once-behind : (id : ℕ) (ids : List ℕ) → AllPairs (λ (n later : ℕ). n ≢ later) (id ∷ ids)
    → AllPairs (λ (n later : ℕ). n ≢ later) ids
once-behind id ids once i j d before within = once (suc i) (suc j) d (omega (arith, before)) (omega (arith, within))

module _ (t : Texts) (id : ℕ) where
  -- any other lease gives what it gave
  pub other-passed : (count other : ℕ) → other ≢ id → lease_of other (after (Take id count) t) ≡ lease_of other t
  other-passed count other apart = get_or-set_other t.leases id other (bytes_given count (lease_of id t)) None apart

  pub other-released : (other : ℕ) → other ≢ id → lease_of other (after (Release id) t) ≡ lease_of other t
  other-released other apart = get_or-set_other t.leases id other None None apart

-- a lease that lives is one
living : (lease : Option (List ℕ)) → IsSome lease → ◌≡◌ {A = ℕ} (cond (is_some lease) 1 0) 1
living None some = absurd (cc)
living (Some bytes) some = refl

-- and stays one as it gives
living-given : (count : ℕ) (lease : Option (List ℕ)) → IsSome lease
    → ◌≡◌ {A = ℕ} (cond (is_some (bytes_given count lease)) 1 0) 1
living-given count None some = absurd (cc)
living-given count (Some bytes) some = refl

module _ (t : Texts) (id : ℕ) (lives : IsSome (lease_of id t)) where
  inside : id < length t.leases
  inside = inside-some t.leases id lives

  -- the lease gives what is behind the bytes taken
  pub lease-passed : (count : ℕ) → lease_of id (after (Take id count) t) ≡ bytes_given count (lease_of id t)
  lease-passed count = get_or-set_same t.leases id (bytes_given count (lease_of id t)) None inside

  -- what all leases give changes by what this one gives
  pub kept-passed : (count : ℕ)
      → kept (after (Take id count) t) + rest_of (lease_of id t) ≡ kept t + rest_of (bytes_given count (lease_of id t))
  kept-passed count = sum_by-set rest_of t.leases id (bytes_given count (lease_of id t)) None inside

  pub kept-released : kept (after (Release id) t) + rest_of (lease_of id t) ≡ kept t
  kept-released = omega (arith, sum_by-set rest_of t.leases id None None inside)

  -- as many leases live, until one ends
  pub live-passed : (count : ℕ) → live (after (Take id count) t) ≡ live t
  live-passed count =
      let lease = bytes_given count (lease_of id t) in
      let changed = sum_by-set (λ (x : Option (List ℕ)). cond (is_some x) 1 0) t.leases id lease None inside in
      omega (arith, changed, living (lease_of id t) lives, living-given count (lease_of id t) lives)

  pub live-released : live (after (Release id) t) + 1 ≡ live t
  live-released =
      let changed = sum_by-set (λ (x : Option (List ℕ)). cond (is_some x) 1 0) t.leases id None None inside in
      omega (arith, changed, living (lease_of id t) lives)
