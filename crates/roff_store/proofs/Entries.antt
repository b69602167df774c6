-- What a name has once an entry is given or taken away.
use Rattle.std.proofs.Common.{◌≡◌, ◌≢◌, ℕ, ◌+◌, true, false, cond, ◌⊎◌, List, [], ◌∷◌, ◌++◌, length, Some, None, is_some, refl, arith}
use Rattle.std.proofs.lemmas.Slice.Eq.{bytes_eq-Decides}
use Rattle.std.specs.Str.{bytes_eq}
use Rattle.roff_num.specs.Names.{name_of}
use Rattle.roff_store.specs.Named.{Named, entry_of, with_entry, without_entry, EachOnce}

-- a test of two names, with what it tells
pub bytes_eq_tells : (a b : List ℕ) → ((bytes_eq a b ≡ true) × (a ≡ b)) ⊎ ((bytes_eq a b ≡ false) × (a ≢ b))
bytes_eq_tells a b = let decides = bytes_eq-Decides a b in grind arith

-- a name of these bytes has these bytes
pub name_of-Some : (bytes name : List ℕ) → name_of bytes ≡ Some name → name ≡ bytes
name_of-Some bytes name h = grind arith

module _ {E : Type 0} where
  -- the name that is given an entry has it, and the others keep theirs
  pub entry_of-with_entry : (m n : List ℕ) (entry : E) (es : Named E)
      → entry_of m (with_entry n entry es) ≡ cond (bytes_eq m n) (Some entry) (entry_of m es)
  entry_of-with_entry m n entry [] = refl
  entry_of-with_entry m n entry (e ∷ es) =
      let others = entry_of-with_entry m n entry es in grind (arith, bytes_eq_tells, others)

  -- the name whose entry is taken away has none, and the others keep theirs
  pub entry_of-without_entry : (m n : List ℕ) (es : Named E)
      → entry_of m (without_entry n es) ≡ cond (bytes_eq m n) None (entry_of m es)
  entry_of-without_entry m n [] = grind arith
  entry_of-without_entry m n (e ∷ es) =
      let others = entry_of-without_entry m n es in grind (arith, bytes_eq_tells, others)

  -- a new name comes behind the others
  pub with_entry-new : (n : List ℕ) (entry : E) (es : Named E)
      → entry_of n es ≡ None → with_entry n entry es ≡ es ++ (n, entry) ∷ []
  with_entry-new n entry [] h = refl
  with_entry-new n entry (e ∷ es) h = let others = with_entry-new n entry es in grind (arith, others)

  -- taking away what isn't there changes nothing
  pub without_entry-absent : (n : List ℕ) (es : Named E) → entry_of n es ≡ None → without_entry n es ≡ es
  without_entry-absent n [] h = refl
  without_entry-absent n (e ∷ es) h = let others = without_entry-absent n es in grind (arith, others)

  -- how many names there are once an entry is given
  pub length-with_entry : (n : List ℕ) (entry : E) (es : Named E)
      → length (with_entry n entry es) ≡ cond (is_some (entry_of n es)) (length es) (length es + 1)
  length-with_entry n entry [] = refl
  length-with_entry n entry (e ∷ es) = let others = length-with_entry n entry es in grind (arith, others)

  -- no name has two entries once one is given
  pub EachOnce-with_entry : (n : List ℕ) (entry : E) (es : Named E) → EachOnce es → EachOnce (with_entry n entry es)
  EachOnce-with_entry n entry [] once = (refl, tt)
  EachOnce-with_entry n entry (e ∷ es) once =
      let others = EachOnce-with_entry n entry es once.1 in
      let front = entry_of-with_entry e.0 n entry es in
      elim (bytes_eq n e.0) as (λ b. bytes_eq n e.0 ≡ b → EachOnce (cond b ((n, entry) ∷ es) (e ∷ with_entry n entry es)))
      [ true ↦ (λ h. (grind (arith, bytes_eq_tells), once.1)) | false ↦ (λ h. (grind (arith, bytes_eq_tells), others)) ] refl

  -- nor once one is taken away
  pub EachOnce-without_entry : (n : List ℕ) (es : Named E) → EachOnce es → EachOnce (without_entry n es)
  EachOnce-without_entry n [] once = tt
  EachOnce-without_entry n (e ∷ es) once =
      let others = EachOnce-without_entry n es once.1 in
      let front = entry_of-without_entry e.0 n es in
      elim (bytes_eq n e.0) as (λ b. EachOnce (cond b (without_entry n es) (e ∷ without_entry n es)))
      [ true ↦ others | false ↦ (grind (arith, bytes_eq_tells), others) ]

  -- one name fewer, if it had an entry
  pub length-without_entry : (n : List ℕ) (es : Named E) → EachOnce es
      → length es ≡ length (without_entry n es) + cond (is_some (entry_of n es)) 1 0
  length-without_entry n [] once = refl
  length-without_entry n (e ∷ es) once =
      let others = length-without_entry n es once.1 in
      let absent = without_entry-absent n es in
      grind (arith, bytes_eq_tells)
