-- Bytes of the source, of which newlines may be some: what is counted of them.
use Rattle.std.proofs.Common.{◌≡◌, ◌==◌, ℕ, ◌+◌, Bool, true, false, List, [], ◌∷◌, ◌++◌, cond, count_by, if◌then◌else◌, length, refl, ap, arith, ◌∙◌}
use Rattle.std.proofs.lemmas.List.Sums.{sum_by-cons}
use Rattle.input_source.specs.Bytes.{newline}
use Rattle.input_model.specs.Input.{Input, counting, lines_taken}

-- a newline in front, if it is one, is counted
newlines_and : (before : ℕ) (is : Bool) (p : ℕ → Bool) (b : ℕ) (front : List ℕ) → p b ≡ is
    → (if is then before + 1 else before) + count_by p front ≡ before + count_by p (b ∷ front)
newlines_and before true p b front same =
    let split : count_by p (b ∷ front) ≡ 1 + count_by p front = sum_by-cons (λ c. cond (p c) 1 0) b front ∙ ap (λ t. cond t 1 0 + count_by p front) same in
    omega arith
newlines_and before false p b front same =
    let split : count_by p (b ∷ front) ≡ 0 + count_by p front = sum_by-cons (λ c. cond (p c) 1 0) b front ∙ ap (λ t. cond t 1 0 + count_by p front) same in
    omega arith

module _ {E : Type 0} where
  -- so many bytes are taken, and so many newlines among them
  abbrev pub counted : ℕ → ℕ → Input E → Input E
  counted count newlines i = record i { charge = i.charge + count; newlines = i.newlines + newlines }

  -- what is counted behind a byte doesn't depend on the line before
  counting_alike : (last : ℕ) (i : Input E) (line charge counted_charge newlines counted_newlines : ℕ) → charge ≡ counted_charge → newlines ≡ counted_newlines
      → counting last (record i { charge = charge; newlines = newlines; line = line }) ≡ counting last (record i { charge = counted_charge; newlines = counted_newlines })
  counting_alike last i line charge counted_charge newlines counted_newlines same same_newlines = rw (same, same_newlines) refl

  -- bytes are taken as if they were counted first, and then the last one taken
  pub lines_taken-last : (front : List ℕ) (last : ℕ) (i : Input E)
      → lines_taken (front ++ last ∷ []) i ≡ counting last (counted (length front) (count_by (λ b. b == newline) front) i)
  lines_taken-last [] last i = counting_alike last i i.line i.charge (i.charge + 0) i.newlines (i.newlines + 0) (omega arith) (omega arith)
  lines_taken-last (b ∷ front) last i =
      lines_taken-last front last (counting b i)
      ∙ counting_alike last i (i.newlines + 1) _ _ _ _ (omega arith) (newlines_and i.newlines (b == newline) (λ c. c == newline) b front refl)
