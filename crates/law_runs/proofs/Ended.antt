-- A run has ended, or it goes on.
use Rattle.std.proofs.Common.{◌≡◌, ◌⊎◌, inl, inr, ℕ, zero, suc, Option, Some, None, refl, ◌∙◌, ap, IsSome}
use Rattle.roff_num.specs.declared.limits.Limits.{Limits}
use Rattle.run_model.specs.declared.status.Status.{Status}
use Rattle.run_model.specs.Run.{State, after, step, step_behind, told_after}
use Rattle.run_model.proofs.Leads.{told_step-ended}

-- a run has ended, or it hasn't
pub ended_or_not : (o : Option Status) → IsSome o ⊎ (o ≡ None)
ended_or_not None = inr refl
ended_or_not (Some status) = inl refl

-- not both
pub not-ended : (o : Option Status) → o ≡ None → IsSome o → ⊥
not-ended None none some = cc
not-ended (Some status) none some = cc

-- a run that has ended stays as it is
pub step-ended : (l : Limits) (s : State) → IsSome s.ended → step l s ≡ s
step-ended l s ended =
    elim s.ended as (λ o. IsSome o → elim o [ None ↦ step_behind l s.follows.text s | Some status ↦ s ] ≡ s) [
      | None ↦ λ none. absurd (cc)
      | Some status ↦ λ some. refl
    ] ended

-- and one that hasn't ended makes a step
pub step-going : (l : Limits) (s : State) → s.ended ≡ None → step l s ≡ step_behind l s.follows.text s
step-going l s going = rw going refl

-- a run that has ended stays as it is, however many steps are made
pub after-ended : (l : Limits) (n : ℕ) (s : State) → IsSome s.ended → after l n s ≡ s
after-ended l zero s ended = refl
after-ended l (suc n) s ended = rw (step-ended l s ended) (after-ended l n s ended)

pub told_after-ended : (l : Limits) (n : ℕ) (s : State) → IsSome s.ended → told_after l n s ≡ s
told_after-ended l zero s ended = refl
told_after-ended l (suc n) s ended = ap (told_after l n) (told_step-ended l s ended) ∙ told_after-ended l n s ended
