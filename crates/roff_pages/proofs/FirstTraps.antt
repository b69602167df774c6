-- The first trap that passes a test, and where it stands in turn.
use Rattle.std.proofs.Common.{◌≡◌, ℕ, suc, ◌<◌, ◌≤◌, Bool, true, false, List, [], ◌∷◌, ◌++◌, length, set, get_or, refl, sym, ap, ◌∙◌, ◌+◌, append_assoc, length-append, take, drop, take-append-drop, arith, inl, inr, ◌||◌, not}
use Rattle.std.specs.List.{list_any, remove}
use Rattle.std.proofs.lemmas.Bool.{cases_Bool, false≢true}
use Rattle.std.proofs.lemmas.List.Folds.{list_any-append}
use Rattle.page_model.specs.declared.trap.Trap.{Trap}
use Rattle.page_model.specs.Turning.{is_given, with_first, with_trap, without_first}
use Rattle.roff_pages.specs.Pages.FirstTraps.{NoneBefore, first_index}

-- it is found where one passes
pub found_any : (is_it : Trap → Bool) (traps : List Trap) → first_index is_it traps < length traps → list_any is_it traps ≡ true
found_any is_it [] h = absurd (omega arith)
found_any is_it (t ∷ traps) h =
    elim (cases_Bool (is_it t)) [
      | inl e ↦ rw e refl
      | inr e ↦
          let there : (suc (first_index is_it traps)) < length (t ∷ traps) = rw e at h in
          rw e (found_any is_it traps (omega arith))
    ]

-- and where none does, it stands behind all
pub found_none : (is_it : Trap → Bool) (traps : List Trap) → length traps ≤ first_index is_it traps → list_any is_it traps ≡ false
found_none is_it [] h = refl
found_none is_it (t ∷ traps) h =
    elim (cases_Bool (is_it t)) [
      | inl e ↦ let none : length (t ∷ traps) ≤ 0 = rw e at h in absurd (omega arith)
      | inr e ↦
          let there : length (t ∷ traps) ≤ suc (first_index is_it traps) = rw e at h in
          rw e (found_none is_it traps (omega arith))
    ]

-- it is changed at its place
changed_at : (is_it : Trap → Bool) (change : Trap → Trap) (traps : List Trap) (default : Trap) → first_index is_it traps < length traps
    → with_first is_it change traps ≡ set traps (first_index is_it traps) (change (get_or traps (first_index is_it traps) default))
changed_at is_it change [] default h = absurd (omega arith)
changed_at is_it change (t ∷ traps) default h =
    elim (cases_Bool (is_it t)) [
      | inl e ↦ rw e refl
      | inr e ↦
          let there : (suc (first_index is_it traps)) < length (t ∷ traps) = rw e at h in
          rw e (ap (λ traps. t ∷ traps) (changed_at is_it change traps default (omega arith)))
    ]

-- it is removed at its place
removed_at : (is_it : Trap → Bool) (traps : List Trap) → first_index is_it traps < length traps
    → without_first is_it traps ≡ remove traps (first_index is_it traps)
removed_at is_it [] h = absurd (omega arith)
removed_at is_it (t ∷ traps) h =
    elim (cases_Bool (is_it t)) [
      | inl e ↦ rw e refl
      | inr e ↦
          let there : (suc (first_index is_it traps)) < length (t ∷ traps) = rw e at h in
          rw e (ap (λ traps. t ∷ traps) (removed_at is_it traps (omega arith)))
    ]

-- where none passes nothing is changed, or removed
unchanged : (is_it : Trap → Bool) (change : Trap → Trap) (traps : List Trap) → length traps ≤ first_index is_it traps → with_first is_it change traps ≡ traps
unchanged is_it change [] h = refl
unchanged is_it change (t ∷ traps) h =
    elim (cases_Bool (is_it t)) [
      | inl e ↦ let none : length (t ∷ traps) ≤ 0 = rw e at h in absurd (omega arith)
      | inr e ↦
          let there : length (t ∷ traps) ≤ suc (first_index is_it traps) = rw e at h in
          rw e (ap (λ traps. t ∷ traps) (unchanged is_it change traps (omega arith)))
    ]

none_removed : (is_it : Trap → Bool) (traps : List Trap) → length traps ≤ first_index is_it traps → without_first is_it traps ≡ traps
none_removed is_it [] h = refl
none_removed is_it (t ∷ traps) h =
    elim (cases_Bool (is_it t)) [
      | inl e ↦ let none : length (t ∷ traps) ≤ 0 = rw e at h in absurd (omega arith)
      | inr e ↦
          let there : length (t ∷ traps) ≤ suc (first_index is_it traps) = rw e at h in
          rw e (ap (λ traps. t ∷ traps) (none_removed is_it traps (omega arith)))
    ]

-- the same, told the place in turn that was found
pub removed_there : (is_it : Trap → Bool) (traps : List Trap) (index : ℕ) → index ≡ first_index is_it traps → index < length traps
    → remove traps index ≡ without_first is_it traps
removed_there is_it traps index is within =
    ap (remove traps) is ∙ sym (removed_at is_it traps (omega arith))

pub nothing_removed : (is_it : Trap → Bool) (traps : List Trap) (index : ℕ) → index ≡ first_index is_it traps → length traps ≤ index
    → traps ≡ without_first is_it traps
nothing_removed is_it traps index is behind = sym (none_removed is_it traps (omega arith))

pub changed_there : (is_it : Trap → Bool) (change : Trap → Trap) (traps : List Trap) (index : ℕ) (found : Trap) → index ≡ first_index is_it traps → index < length traps
    → found ≡ get_or traps index found → set traps index (change found) ≡ with_first is_it change traps
changed_there is_it change traps index found is within at =
    ap (λ t. set traps index (change t)) at ∙ (ap (λ i. set traps i (change (get_or traps i found))) is ∙ sym (changed_at is_it change traps found (omega arith)))

pub nothing_changed : (is_it : Trap → Bool) (change : Trap → Trap) (traps : List Trap) (index : ℕ) → index ≡ first_index is_it traps → length traps ≤ index
    → traps ≡ with_first is_it change traps
nothing_changed is_it change traps index is behind = sym (unchanged is_it change traps (omega arith))

-- whether one passes, told the place in turn that was found
pub found_there : (is_it : Trap → Bool) (traps : List Trap) (index : ℕ) → index ≡ first_index is_it traps → index < length traps → false ≡ not (list_any is_it traps)
found_there is_it traps index is within = ap not (sym (found_any is_it traps (omega arith)))

pub not_found : (is_it : Trap → Bool) (traps : List Trap) (index : ℕ) → index ≡ first_index is_it traps → length traps ≤ index → true ≡ not (list_any is_it traps)
not_found is_it traps index is behind = ap not (sym (found_none is_it traps (omega arith)))

-- a trap is planted in place of the one that was found, or as the last
pub planted_there : (new : Trap) (traps : List Trap) (index : ℕ) → index ≡ first_index (is_given new.place) traps → index < length traps
    → set traps index new ≡ with_trap new traps
planted_there new traps index is within =
    rw (found_any (is_given new.place) traps (omega arith)) (
    ap (λ i. set traps i new) is ∙ sym (changed_at (is_given new.place) (λ t. new) traps new (omega arith)))

pub planted_last : (new : Trap) (traps : List Trap) (index : ℕ) → index ≡ first_index (is_given new.place) traps → length traps ≤ index
    → traps ++ new ∷ [] ≡ with_trap new traps
planted_last new traps index is behind = rw (found_none (is_given new.place) traps (omega arith)) refl

pub none_before-more : (is_it : Trap → Bool) (traps rest front others : List Trap) (count : ℕ) → NoneBefore is_it traps rest → front ≡ take count rest → others ≡ drop count rest
    → list_any is_it front ≡ false → NoneBefore is_it traps others
none_before-more is_it traps rest front others count before first behind none =
    let parts : rest ≡ front ++ others = sym (ap (λ front. front ++ others) first ∙ (ap (λ others. take count rest ++ others) behind ∙ take-append-drop count rest)) in
    record {
      front = before.front ++ front;
      is = before.is ∙ (ap (λ rest. before.front ++ rest) parts ∙ sym (append_assoc before.front front others));
      none = list_any-append is_it before.front front ∙ (ap (λ b. b || list_any is_it front) before.none ∙ none);
    }

passed : (is_it : Trap → Bool) (front rest : List Trap) → list_any is_it front ≡ false → first_index is_it (front ++ rest) ≡ length front + first_index is_it rest
passed is_it [] rest none = omega arith
passed is_it (t ∷ front) rest none =
    elim (cases_Bool (is_it t)) [
      | inl e ↦ let found : true ≡ false = rw e at none in absurd (false≢true (sym found))
      | inr e ↦
          let others : list_any is_it front ≡ false = rw e at none in
          rw e (omega (arith, passed is_it front rest others))
    ]

-- the first that passes is found in the rest
pub first_in_rest : (is_it : Trap → Bool) (traps rest : List Trap) → NoneBefore is_it traps rest
    → (length rest ≤ length traps) × (first_index is_it traps + length rest ≡ length traps + first_index is_it rest)
first_in_rest is_it traps rest before =
    let whole = ap (first_index is_it) before.is ∙ passed is_it before.front rest before.none in
    let long = ap length before.is ∙ length-append before.front rest in
    (omega (arith, long), omega (arith, whole, long))
