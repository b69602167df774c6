-- Where no limit is passed each count is within its own.
use Rattle.std.proofs.Common.{◌≡◌, ◌≤◌, ℕ, List, [], ◌∷◌, ◌++◌, Some, None, inl, inr, nat_lt}
use Rattle.std.proofs.lemmas.Bool.{cases_Bool}
use Rattle.roff_num.specs.declared.limit.Limit.{Limit}
use Rattle.roff_num.specs.LimitValues.{value_of}
use Rattle.roff_num.specs.declared.limits.Limits.{Limits}
use Rattle.run_model.specs.Run.Counts.{first_passed}
use Rattle.run_model.proofs.Readings.{within}

-- each count is within its own limit
abbrev pub AllWithin : Limits → List (Limit × ℕ) → Type 0
AllWithin l [] = Unit {0}
AllWithin l (c ∷ cs) = (c.1 ≤ value_of l c.0) × AllWithin l cs

-- so it is where no limit is passed
pub counts_within : (l : Limits) (cs : List (Limit × ℕ)) → first_passed l cs ≡ None → AllWithin l cs
counts_within l [] none = tt
counts_within l (c ∷ cs) none = elim (cases_Bool (nat_lt (value_of l c.0) c.1)) [
  | inl passes ↦ let wrong : Some c.0 ≡ None = rw passes at none in cc
  | inr goes ↦ (within (value_of l c.0) c.1 goes, counts_within l cs (rw goes at none))
]

-- so are the last ones
pub last_within : (l : Limits) (first last : List (Limit × ℕ)) → AllWithin l (first ++ last) → AllWithin l last
last_within l [] last all = all
last_within l (c ∷ first) last all = last_within l first last all.1
