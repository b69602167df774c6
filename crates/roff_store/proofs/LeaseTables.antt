-- A table of leases once one begins, gives something else, or ends.
use Rattle.std.proofs.Common.{◌≡◌, ◌≢◌, ℕ, zero, suc, ◌+◌, ◌<◌, List, [], ◌∷◌, ◌++◌, length, get_or, All, Some, None, IsSome, Option, refl, sym, ap, subst, ◌∙◌, arith, Vec, Global, length-append, set, AllPairs, vec_len, vec_capacity, get_or-set_other, get_or-set_same}
use Rattle.std.specs.Vec.{with_item}
use Rattle.std.proofs.lemmas.List.{get_or_append_left, get_or_push}
use Rattle.std.proofs.lemmas.List.Elements.{All-push}
use Rattle.std.proofs.lemmas.List.Quantifiers.{all_pairs_push}
use Rattle.roff_store.specs.declared.strand.Strand.{Strand}
use Rattle.roff_store.specs.declared.lease_table.LeaseTable.TheInside.{Inside}
use Rattle.roff_store.specs.LeaseTable.Kept.{IsSound, kept_by}
use Rattle.roff_store.specs.Leases.{Leases, living}
use Rattle.roff_store.proofs.Places.{lease-behind, lease-in, lease-out, same-length, set-none}

-- what holds of all but the last, and of the last
All-all_but : {X : Type 0} (P : X → Type 0) (xs : List X) (x : X) → All P (xs ++ x ∷ []) → All P xs
All-all_but P xs x all k d within =
    subst P (get_or_append_left xs (x ∷ []) d k within) (all k d (omega (arith, within, length-append xs (x ∷ []))))

All-last : {X : Type 0} (P : X → Type 0) (xs : List X) (x : X) → All P (xs ++ x ∷ []) → P x
All-last P xs x all = subst P (get_or_push xs x x (length xs) refl) (all (length xs) x (omega (arith, length-append xs (x ∷ []))))

AllPairs-all_but : {X : Type 0} (R : X → X → Type 0) (xs : List X) (x : X) → AllPairs R (xs ++ x ∷ []) → AllPairs R xs
AllPairs-all_but R xs x all i j d before within =
    let first = get_or_append_left xs (x ∷ []) d i (omega (arith, before, within)) in
    let second = get_or_append_left xs (x ∷ []) d j within in
    let both = all i j d before (omega (arith, within, length-append xs (x ∷ []))) in
    rw (← first, ← second) both

AllPairs-last : {X : Type 0} (R : X → X → Type 0) (xs : List X) (x : X) → AllPairs R (xs ++ x ∷ []) → All (λ y. R y x) xs
AllPairs-last {X} R xs x all k d within =
    let first = get_or_append_left xs (x ∷ []) d k within in
    let second = get_or_push xs x d (length xs) refl in
    let both = all k (length xs) d within (omega (arith, length-append xs (x ∷ []))) in
    subst (λ (y : X). R (get_or xs k d) y) second (subst (λ (y : X). R y (get_or (xs ++ x ∷ []) (length xs) d)) first both)

-- what is there has its place
pub inside-some : {X : Type 0} (xs : List (Option X)) (i : ℕ) (x : X) → get_or xs i None ≡ Some x → i < length xs
inside-some [] zero x is = cc
inside-some [] (suc i) x is = cc
inside-some (y ∷ xs) zero x is = omega arith
inside-some (y ∷ xs) (suc i) x is = let inside = inside-some xs i x is in omega (arith, inside)

-- the lease of a number that lives
pub record HasLease (leases : List (Option Strand)) (id : ℕ) : Type 0 where
  pub strand : Strand
  pub lives : get_or leases id None ≡ Some strand

lease-some : (leases : List (Option Strand)) (id : ℕ) (lease : Option Strand) → get_or leases id None ≡ lease → IsSome lease
    → HasLease leases id
lease-some leases id None is some = absurd (cc)
lease-some leases id (Some strand) is some = record { strand = strand; lives = is }

pub the-lease : (a : Inside) {t : Leases} → kept_by a ≡ t → (id : ℕ) → IsSome (get_or t.items id None) → HasLease a.leases.items id
the-lease a is id some =
    lease-some a.leases.items id (get_or a.leases.items id None) refl
    (subst (λ (x : Leases). IsSome (get_or x.items id None)) (sym is) some)

module _ {a : Inside} (sound : IsSound a) where
  -- the number of one that has ended serves again
  module _ (id : ℕ) (ended : Vec ℕ Global) (items : a.ended.items ≡ ended.items ++ id ∷ [])
      (len : vec_len ended + 1 ≡ vec_len a.ended) (capacity : vec_capacity ended ≡ vec_capacity a.ended) where
    pub known-again : id < vec_len a.leases
    known-again =
        All-last (λ (n : ℕ). n < vec_len a.leases) ended.items id
        (subst (All (λ (n : ℕ). n < vec_len a.leases)) items sound.known)

    pub dead-again : get_or a.leases.items id None ≡ None
    dead-again =
        All-last (λ (n : ℕ). get_or a.leases.items n None ≡ None) ended.items id
        (subst (All (λ (n : ℕ). get_or a.leases.items n None ≡ None)) items sound.dead)

    pub sound-again : (strand : Strand) → IsSound (record a { leases = with_item a.leases id (Some strand); ended = ended })
    sound-again strand =
        let once = subst (AllPairs (λ (n later : ℕ). n ≢ later)) items sound.once in
        let dead = All-all_but (λ (n : ℕ). get_or a.leases.items n None ≡ None) ended.items id
        (subst (All (λ (n : ℕ). get_or a.leases.items n None ≡ None)) items sound.dead) in
        record {
          known =
              All-all_but (λ (n : ℕ). n < vec_len a.leases) ended.items id
              (subst (All (λ (n : ℕ). n < vec_len a.leases)) items sound.known);
          dead = λ k d within.
              get_or-set_other a.leases.items id (get_or ended.items k d) (Some strand) None
              (AllPairs-last (λ (n later : ℕ). n ≢ later) ended.items id once k d within) ∙ dead k d within;
          once = AllPairs-all_but (λ (n later : ℕ). n ≢ later) ended.items id once;
          all =
              let long = same-length (lease-in a.leases.items id strand (omega (arith, known-again, a.leases.ok.0))) in
              let same = ap (λ l. length (living l)) (set-none a.leases.items id dead-again) in
              omega (arith, sound.all, len, long, same);
          within = sound.within;
          leases_reserved = sound.leases_reserved;
          ended_reserved = capacity ∙ sound.ended_reserved;
        }

  -- or a new one comes behind the others
  module _ (none : vec_len a.ended ≡ 0) (ended : Vec ℕ Global) (none_now : vec_len ended ≡ 0)
      (capacity_ended : vec_capacity ended ≡ vec_capacity a.ended) (leases : Vec (Option Strand) Global) (strand : Strand)
      (items : leases.items ≡ a.leases.items ++ Some strand ∷ [])
      (len : vec_len leases ≡ vec_len a.leases + 1) (capacity : vec_capacity leases ≡ vec_capacity a.leases) where
    pub sound-behind : length (living a.leases.items) < a.cap → IsSound (record a { leases = leases; ended = ended })
    sound-behind few = record {
      known = λ k d within. absurd (omega (arith, within, none_now, ended.ok.0));
      dead = λ k d within. absurd (omega (arith, within, none_now, ended.ok.0));
      once = λ i j d before within. absurd (omega (arith, within, none_now, ended.ok.0));
      all =
          let long = same-length (lease-behind a.leases.items strand) in
          let same = ap (λ l. length (living l)) items in
          omega (arith, sound.all, none, none_now, len, long, same);
      within = omega (arith, few, sound.all, none, len);
      leases_reserved = capacity ∙ sound.leases_reserved;
      ended_reserved = capacity_ended ∙ sound.ended_reserved;
    }

  module _ (id : ℕ) (was : Strand) (lives : get_or a.leases.items id None ≡ Some was) where
    inside : id < length a.leases.items
    inside = inside-some a.leases.items id was lives

    -- the numbers of those that have ended are other ones
    other : (k d : ℕ) → k < length a.ended.items → get_or a.ended.items k d ≢ id
    other k d within same =
        let none : get_or a.leases.items id None ≡ None = rw same at (sound.dead k d within) in
        let both : ◌≡◌ {A = Option Strand} None (Some was) = sym none ∙ lives in cc

    length-out : length (living a.leases.items) ≡ length (living (set a.leases.items id None)) + 1
    length-out = let long = same-length (lease-out a.leases.items id was lives) in omega (arith, long)

    -- one gives something else
    pub sound-put : (strand : Strand) → IsSound (record a { leases = with_item a.leases id (Some strand) })
    sound-put strand = record {
      known = sound.known;
      dead = λ k d within.
          get_or-set_other a.leases.items id (get_or a.ended.items k d) (Some strand) None (other k d within) ∙ sound.dead k d within;
      once = sound.once;
      all = let long = same-length (lease-in a.leases.items id strand inside) in omega (arith, sound.all, long, length-out);
      within = sound.within;
      leases_reserved = sound.leases_reserved;
      ended_reserved = sound.ended_reserved;
    }

    -- or it ends, and there is room for its number among those that have ended
    pub room-ended : vec_len a.ended < a.cap
    room-ended = omega (arith, sound.all, sound.within, length-out)

    pub sound-ended : (ended : Vec ℕ Global) → ended.items ≡ a.ended.items ++ id ∷ [] → vec_len ended ≡ vec_len a.ended + 1
        → vec_capacity ended ≡ vec_capacity a.ended → IsSound (record a { leases = with_item a.leases id None; ended = ended })
    sound-ended ended items len capacity = record {
      known = rw items (All-push (λ (n : ℕ). n < vec_len a.leases) a.ended.items id sound.known (omega (arith, inside, a.leases.ok.0)));
      dead = rw items (All-push (λ (n : ℕ). get_or (set a.leases.items id None) n None ≡ None) a.ended.items id
          (λ k d within.
          get_or-set_other a.leases.items id (get_or a.ended.items k d) None None (other k d within) ∙ sound.dead k d within)
          (get_or-set_same a.leases.items id None None inside));
      once = rw items (all_pairs_push (λ (n later : ℕ). n ≢ later) a.ended.items id sound.once other);
      all = omega (arith, sound.all, len, length-out);
      within = sound.within;
      leases_reserved = sound.leases_reserved;
      ended_reserved = capacity ∙ sound.ended_reserved;
    }
