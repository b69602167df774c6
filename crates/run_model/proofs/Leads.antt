-- Runs of the definition: where some steps lead.
use Rattle.std.proofs.Common.{◌≡◌, ℕ, zero, suc, ◌+◌, ◌<◌, ◌≤◌, Bool, length, if◌then◌else◌, Option, None, Some, IsSome, zero-add, suc-add, refl, ap, subst, ◌∙◌, le-ltb, lt-ltb}
use Rattle.roff_num.specs.declared.limit.Limit.TheVariants.{Messages}
use Rattle.roff_num.specs.declared.limits.Limits.{Limits}
use Rattle.run_model.specs.declared.status.Status.{Status}
use Rattle.run_model.specs.Run.{State, Leads, ToldLeads, step, after, stopped_by, told_step, told_after, unless_untold}

-- steps one after another
pub after-add : (l : Limits) (m n : ℕ) (s : State) → after l (m + n) s ≡ after l n (after l m s)
after-add l zero n s = ap (λ k. after l k s) (zero-add n)
after-add l (suc m) n s = rw suc-add (after-add l m n (step l s))

pub Leads-trans : (l : Limits) (s t u : State) → Leads l s t → Leads l t u → Leads l s u
Leads-trans l s t u p q = record {
  steps = p.steps + q.steps;
  there = after-add l p.steps q.steps s ∙ (ap (after l q.steps) p.there ∙ q.there);
}

-- no step at all
pub Leads-refl : (l : Limits) (s : State) → Leads l s s
Leads-refl l s = record { steps = 0; there = refl }

-- one step more
pub Leads-step : (l : Limits) (s t : State) → Leads l s t → Leads l s (step l t)
Leads-step l s t p = Leads-trans l s t (step l t) p (record { steps = 1; there = refl })

-- one step more, to where it goes
pub Leads-to : (l : Limits) (s t u : State) → Leads l s t → step l t ≡ u → Leads l s u
Leads-to l s t u p there = subst (λ (v : State). Leads l s v) there (Leads-step l s t p)

-- steps whose messages are bounded, one after another
pub told_after-add : (l : Limits) (m n : ℕ) (s : State) → told_after l (m + n) s ≡ told_after l n (told_after l m s)
told_after-add l zero n s = ap (λ k. told_after l k s) (zero-add n)
told_after-add l (suc m) n s = rw suc-add (told_after-add l m n (told_step l s))

pub ToldLeads-trans : (l : Limits) (s t u : State) → ToldLeads l s t → ToldLeads l t u → ToldLeads l s u
ToldLeads-trans l s t u p q = record {
  steps = p.steps + q.steps;
  there = told_after-add l p.steps q.steps s ∙ (ap (told_after l q.steps) p.there ∙ q.there);
}

-- no such step at all
pub ToldLeads-refl : (l : Limits) (s : State) → ToldLeads l s s
ToldLeads-refl l s = record { steps = 0; there = refl }

-- one of them more, to where it goes
pub ToldLeads-to : (l : Limits) (s t u : State) → ToldLeads l s t → told_step l t ≡ u → ToldLeads l s u
ToldLeads-to l s t u p there = ToldLeads-trans l s t u p (record { steps = 1; there = there })

-- a step is made where its messages are within the limit
pub unless_untold-within : (l : Limits) (s done : State) → length done.messages ≤ l.messages → unless_untold l s done ≡ done
unless_untold-within l s done within =
    ap (λ (b : Bool). if b then stopped_by l Messages s else done) (le-ltb l.messages (length done.messages) within)

pub told_step-going : (l : Limits) (s : State) → s.ended ≡ None → told_step l s ≡ unless_untold l s (step l s)
told_step-going l s going =
    ap (λ (o : Option Status). elim o as (λ _. State) [ None ↦ unless_untold l s (step l s) | Some status ↦ s ]) going

pub told_step-within : (l : Limits) (s t : State) → s.ended ≡ None → step l s ≡ t → length t.messages ≤ l.messages → told_step l s ≡ t
told_step-within l s t going is within =
    told_step-going l s going ∙ (ap (unless_untold l s) is ∙ unless_untold-within l s t within)

-- and the run stops before it where they aren't
unless_untold-beyond : (l : Limits) (s done : State) → l.messages < length done.messages → unless_untold l s done ≡ stopped_by l Messages s
unless_untold-beyond l s done beyond =
    ap (λ (b : Bool). if b then stopped_by l Messages s else done) (lt-ltb l.messages (length done.messages) beyond)

pub told_step-beyond : (l : Limits) (s : State) → s.ended ≡ None → l.messages < length (step l s).messages → told_step l s ≡ stopped_by l Messages s
told_step-beyond l s going beyond =
    told_step-going l s going ∙ unless_untold-beyond l s (step l s) beyond

-- a run that has ended stays as it is
pub told_step-ended : (l : Limits) (s : State) → IsSome s.ended → told_step l s ≡ s
told_step-ended l s ended =
    elim s.ended as (λ o. IsSome o → elim o as (λ _. State) [ None ↦ unless_untold l s (step l s) | Some status ↦ s ] ≡ s) [
      | None ↦ λ none. absurd (cc)
      | Some status ↦ λ some. refl
    ] ended
