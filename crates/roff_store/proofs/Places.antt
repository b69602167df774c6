-- Where the strands of a store stand: they are taken out and put in, in any order.
use Rattle.std.proofs.Common.{◌≡◌, ℕ, zero, suc, ◌<◌, ◌≤◌, true, false, inl, inr, List, [], ◌∷◌, ◌++◌, length, get_or, Option, Some, None, refl, sym, ap, subst, arith, length-append, set, remove, sum_by, IsPermutation, ◌==◌, append_assoc, get_or-set_same, length-set}
use Rattle.std.proofs.lemmas.Bool.{cases_eq}
use Rattle.std.proofs.lemmas.Bool.Decides.{nat_tests}
use Rattle.std.proofs.lemmas.List.Sorted.{IsPermutation-append_comm, IsPermutation-append_left, IsPermutation-append_right, IsPermutation-middle, IsPermutation-refl, IsPermutation-remove, IsPermutation-sym, IsPermutation-trans, length_permutation, sum_by-IsPermutation}
use Rattle.roff_store.specs.declared.strand.Strand.{Strand}
use Rattle.roff_store.specs.declared.text_store.Meaning.{Meaning}
use Rattle.roff_store.specs.declared.text_store.Meaning.TheVariants.{Body as BodyIn, Request as RequestOf}
use Rattle.roff_store.specs.Leases.{begun, living, strands_if}
use Rattle.roff_store.specs.Named.{Named, EachOnce, entry_of, with_entry, without_entry}
use Rattle.roff_store.specs.TextStore.Strands.{bodies, strands_of}
use Rattle.roff_store.proofs.Entries.{EachOnce-with_entry, bytes_eq_tells, entry_of-with_entry, without_entry-absent}

-- what is written twice, what is taken out behind that, and nothing written where nothing is
set-set : {X : Type 0} (xs : List X) (i : ℕ) (x y : X) → set (set xs i x) i y ≡ set xs i y
set-set [] i x y = refl
set-set (z ∷ zs) zero x y = refl
set-set (z ∷ zs) (suc i) x y = ap (λ l. z ∷ l) (set-set zs i x y)

remove-set : {X : Type 0} (xs : List X) (i : ℕ) (x : X) → remove (set xs i x) i ≡ remove xs i
remove-set [] i x = refl
remove-set (z ∷ zs) zero x = refl
remove-set (z ∷ zs) (suc i) x = ap (λ l. z ∷ l) (remove-set zs i x)

pub set-none : {X : Type 0} (xs : List (Option X)) (i : ℕ) → get_or xs i None ≡ None → set xs i None ≡ xs
set-none [] i none = refl
set-none (z ∷ zs) zero none = ap (λ x. x ∷ zs) (sym none)
set-none (z ∷ zs) (suc i) none = ap (λ l. z ∷ l) (set-none zs i none)

module _ {X : Type 0} where
  -- orders, with the lists told by them
  pub same-order : {xs : List X} → IsPermutation xs xs
  same-order {xs} = IsPermutation-refl xs

  pub back : {xs ys : List X} → IsPermutation xs ys → IsPermutation ys xs
  back {xs} {ys} order = IsPermutation-sym xs ys order

  pub onward : {xs ys zs : List X} → IsPermutation xs ys → IsPermutation ys zs → IsPermutation xs zs
  onward {xs} {ys} {zs} first later = IsPermutation-trans xs ys zs first later

  pub behind : (xs : List X) {ys zs : List X} → IsPermutation ys zs → IsPermutation (xs ++ ys) (xs ++ zs)
  behind xs {ys} {zs} order = IsPermutation-append_right xs ys zs order

  pub same-sum : (f : X → ℕ) {xs ys : List X} → IsPermutation xs ys → sum_by f ys ≡ sum_by f xs
  same-sum f {xs} {ys} order = sum_by-IsPermutation f xs ys order

  pub same-length : {xs ys : List X} → IsPermutation xs ys → length ys ≡ length xs
  same-length {xs} {ys} order = length_permutation xs ys order

  -- two parts change their places
  swap : (xs ys zs : List X) → IsPermutation (xs ++ (ys ++ zs)) (ys ++ (xs ++ zs))
  swap xs ys zs =
      subst (λ l. IsPermutation l (ys ++ (xs ++ zs))) (append_assoc xs ys zs)
      (subst (λ l. IsPermutation ((xs ++ ys) ++ zs) l) (append_assoc ys xs zs)
      (IsPermutation-append_left zs (xs ++ ys) (ys ++ xs) (IsPermutation-append_comm xs ys)))

  -- what is in front stays there beside others
  pub beside : (xs ys zs others : List X) → IsPermutation xs (ys ++ zs) → IsPermutation (xs ++ others) (ys ++ (zs ++ others))
  beside xs ys zs others same =
      subst (λ l. IsPermutation (xs ++ others) l) (append_assoc ys zs others)
      (IsPermutation-append_left others xs (ys ++ zs) same)

-- what a name stands for is taken out
pub name-out : (name : List ℕ) (names : Named Meaning) → EachOnce names
    → IsPermutation (bodies names) (strands_of (entry_of name names) ++ bodies (without_entry name names))
name-out name [] once = same-order
name-out name (e ∷ es) once =
    elim (bytes_eq_tells name e.0) [
      | inl is ↦ (
          let absent : without_entry name es ≡ es = without_entry-absent name es (rw is.1 once.0) in
          rw (is.0, absent) (IsPermutation-refl (strands_of (Some e.1) ++ bodies es)))
      | inr other ↦ rw other.0 (
          onward (behind (strands_of (Some e.1)) (name-out name es once.1))
          (swap (strands_of (Some e.1)) (strands_of (entry_of name es)) (bodies (without_entry name es))))
    ]

-- a name that is given an entry has it, and the others are those from before
entry-with : {E : Type 0} (name : List ℕ) (entry : E) (es : Named E) → entry_of name (with_entry name entry es) ≡ Some entry
entry-with name entry es =
    let with = entry_of-with_entry name name entry es in
    elim (bytes_eq_tells name name) [ inl same ↦ (rw same.0 at with) | inr other ↦ absurd (other.1 refl) ]

without-with : {E : Type 0} (name : List ℕ) (entry : E) (es : Named E)
    → without_entry name (with_entry name entry es) ≡ without_entry name es
without-with name entry [] =
    elim (bytes_eq_tells name name) [ inl same ↦ (rw same.0 refl) | inr other ↦ absurd (other.1 refl) ]
without-with name entry (e ∷ es) = let others = without-with name entry es in grind (arith, bytes_eq_tells)

-- and what it is to stand for is put in
pub name-in : (name : List ℕ) (meaning : Meaning) (names : Named Meaning) → EachOnce names
    → IsPermutation (strands_of (Some meaning) ++ bodies (without_entry name names)) (bodies (with_entry name meaning names))
name-in name meaning names once =
    back (rw (entry-with name meaning names, without-with name meaning names) at
    (name-out name (with_entry name meaning names) (EachOnce-with_entry name meaning names once)))

-- a text in the making is taken out, and put in
pub open-out : (others opens : List Strand) (id : ℕ) (text : Strand) → id < length opens → text ≡ get_or opens id text
    → IsPermutation (others ++ opens) (text ∷ (others ++ remove opens id))
open-out others opens id text inside is =
    onward (behind others (IsPermutation-remove opens id text inside is)) (IsPermutation-middle others text (remove opens id))

pub open-in : (others opens : List Strand) (id : ℕ) (text : Strand) → id < length opens
    → IsPermutation (text ∷ (others ++ remove opens id)) (others ++ set opens id text)
open-in others opens id text inside =
    subst (λ l. IsPermutation (text ∷ (others ++ l)) (others ++ set opens id text)) (remove-set opens id text)
    (back (open-out others (set opens id text) id text (rw (length-set opens id text) inside)
    (sym (get_or-set_same opens id text text inside))))

-- or begun behind the others
pub open-behind : (others opens : List Strand) (text : Strand)
    → IsPermutation (text ∷ (others ++ opens)) (others ++ (opens ++ text ∷ []))
open-behind others opens text =
    back (subst (λ l. IsPermutation l (text ∷ (others ++ opens))) (append_assoc others opens (text ∷ []))
    (IsPermutation-append_comm (others ++ opens) (text ∷ [])))

-- a lease that lives is taken out
pub lease-out : (leases : List (Option Strand)) (id : ℕ) (strand : Strand) → get_or leases id None ≡ Some strand
    → IsPermutation (living leases) (strand ∷ living (set leases id None))
lease-out [] id strand lives = absurd (let same : ◌≡◌ {A = Option Strand} None (Some strand) = lives in cc)
lease-out (lease ∷ leases) zero strand lives =
    subst (λ x. IsPermutation (strands_if x ++ living leases) (strand ∷ living leases)) (sym lives)
    (IsPermutation-refl (strand ∷ living leases))
lease-out (lease ∷ leases) (suc id) strand lives =
    onward (behind (strands_if lease) (lease-out leases id strand lives))
    (IsPermutation-middle (strands_if lease) strand (living (set leases id None)))

-- and put in, or begun behind the others
pub lease-in : (leases : List (Option Strand)) (id : ℕ) (strand : Strand) → id < length leases
    → IsPermutation (strand ∷ living (set leases id None)) (living (set leases id (Some strand)))
lease-in leases id strand inside =
    back (subst (λ l. IsPermutation (living (set leases id (Some strand))) (strand ∷ living l)) (set-set leases id (Some strand) None)
    (lease-out (set leases id (Some strand)) id strand (get_or-set_same leases id (Some strand) None inside)))

pub lease-behind : (leases : List (Option Strand)) (strand : Strand)
    → IsPermutation (strand ∷ living leases) (living (leases ++ Some strand ∷ []))
lease-behind [] strand = same-order
lease-behind (lease ∷ leases) strand =
    onward (back (IsPermutation-middle (strands_if lease) strand (living leases))) (behind (strands_if lease) (lease-behind leases strand))

-- under a number that none has
pub lease-begun : (leases : List (Option Strand)) (id : ℕ) (strand : Strand) → id ≤ length leases → get_or leases id None ≡ None
    → IsPermutation (strand ∷ living leases) (living (begun id strand leases))
lease-begun leases id strand known free =
    elim (cases_eq id (length leases)) [
      | inl last ↦ (
          let test : (id == length leases) ≡ true = grind (arith, nat_tests) in
          rw test (lease-behind leases strand))
      | inr other ↦ (
          let test : (id == length leases) ≡ false = grind (arith, nat_tests) in
          rw test (subst (λ l. IsPermutation (strand ∷ living l) (living (set leases id (Some strand)))) (set-none leases id free)
          (lease-in leases id strand (omega (arith, known, other)))))
    ]

-- how many strands there are at most
length-strands : (meaning : Option Meaning) → length (strands_of meaning) ≤ 1
length-strands None = omega arith
length-strands (Some (BodyIn strand)) = omega arith
length-strands (Some (RequestOf number)) = omega arith

pub length-bodies : (names : Named Meaning) → length (bodies names) ≤ length names
length-bodies [] = omega arith
length-bodies (e ∷ names) =
    omega (arith, length-append (strands_of (Some e.1)) (bodies names), length-strands (Some e.1), length-bodies names)
