-- What a run wrote and reported is never taken back.
use Rattle.std.proofs.Common.{◌≡◌, ℕ, ◌+◌, zero, suc, inl, inr, List, [], ◌++◌, sym, ◌∙◌, ap, subst, add_comm, append-nil}
use Rattle.roff_num.specs.Lists.{IsBeginning}
use Rattle.roff_num.specs.declared.limits.Limits.{Limits}
use Rattle.law_runs.specs.Laws.{GoesOnTo, StepsOnlyAppend}
use Rattle.law_runs.specs.ResultLaws.{EachStateIsABeginning}
use Rattle.run_model.specs.Results.{last_state}
use Rattle.run_model.specs.Run.{State, initial, told_after, told_step, output, reported}
use Rattle.law_runs.proofs.Beginnings.{IsBeginning-same, IsBeginning-append, IsBeginning-trans}
use Rattle.law_runs.proofs.Endings.{told_after-more, steps_lead_to_the_last_state}
use Rattle.law_runs.proofs.Ended.{ended_or_not}
use Rattle.law_runs.proofs.StatusesTell.{IsTold, GoesOn-told, IsTold-run, IsTold-told_step}
use Rattle.law_runs.proofs.Told.{OnlyCuts-told_step}
use Rattle.run_model.proofs.Leads.{told_after-add, told_step-ended}

-- no step
GoesOnTo-same : (s : State) → GoesOnTo s s
GoesOnTo-same s = record { text = IsBeginning-same (output s); messages = IsBeginning-same (reported s) }

-- a step of a run that goes on: no message was the last one yet
reported-told_step : (l : Limits) (s : State) → s.last_message ≡ [] → IsBeginning (reported s) (reported (told_step l s))
reported-told_step l s quiet =
    let without : reported s ≡ s.messages = ap (λ (last : List ℕ). s.messages ++ last) quiet ∙ append-nil s.messages in
    let t : State = told_step l s in
    subst (λ (front : List ℕ). IsBeginning front (reported t)) (sym without)
    (IsBeginning-trans (OnlyCuts-told_step l s).messages (IsBeginning-append t.messages t.last_message))

-- a step
GoesOnTo-told_step : (l : Limits) (s : State) → IsTold l s → GoesOnTo s (told_step l s)
GoesOnTo-told_step l s told =
    elim (ended_or_not s.ended) [
      | inl ended ↦ subst (λ (t : State). GoesOnTo s t) (sym (told_step-ended l s ended)) (GoesOnTo-same s)
      | inr going ↦ record { text = (OnlyCuts-told_step l s).text; messages = reported-told_step l s (GoesOn-told l s going told).quiet }
    ]

-- so many steps
GoesOnTo-told_after : (l : Limits) (n : ℕ) (s : State) → IsTold l s → GoesOnTo s (told_after l n s)
GoesOnTo-told_after l zero s told = GoesOnTo-same s
GoesOnTo-told_after l (suc n) s told =
    let first = GoesOnTo-told_step l s told in
    let others = GoesOnTo-told_after l n (told_step l s) (IsTold-told_step l s told) in record {
      text = IsBeginning-trans first.text others.text;
      messages = IsBeginning-trans first.messages others.messages;
    }

-- steps only append
pub steps_only_append : StepsOnlyAppend
steps_only_append l start tape n more =
    subst (λ (t : State). GoesOnTo (told_after l n (initial l start tape)) t) (sym (told_after-add l n more (initial l start tape)))
    (GoesOnTo-told_after l more (told_after l n (initial l start tape)) (IsTold-run l start tape n))

-- so each state has a beginning of what the last one has
pub each_state_is_a_beginning : EachStateIsABeginning
each_state_is_a_beginning l start tape s leads =
    let enough : ℕ = (steps_lead_to_the_last_state l start tape).steps in
    let ends : told_after l (leads.steps + enough) (initial l start tape) ≡ last_state l start tape =
    ap (λ (i : ℕ). told_after l i (initial l start tape)) (add_comm leads.steps enough) ∙ told_after-more l start tape leads.steps in
    rw (leads.there, ends) at (steps_only_append l start tape leads.steps enough)
