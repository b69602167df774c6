-- A run that may be cut short beside the whole run, step by step, where the messages of both are bounded.
use Rattle.std.proofs.Common.{◌≡◌, inl, inr, List, ℕ, ◌≤◌, zero, suc, Some, nat_lt, if◌then◌else◌, length, refl, sym, ap, subst, IsSome, is_some}
use Rattle.roff_num.specs.declared.limit.Limit.TheVariants.{Messages}
use Rattle.roff_num.specs.declared.limits.Limits.{Limits}
use Rattle.run_model.specs.Run.{State, step, stopped_by, told_after, told_step, unless_untold}
use Rattle.run_model.specs.declared.status.Status.{Status}
use Rattle.run_model.specs.declared.status.Status.TheVariants.{Done}
use Rattle.input_source.specs.Tape.{Tape}
use Rattle.law_runs.specs.Laws.{OnlyCuts, over}
use Rattle.law_runs.proofs.Ended.{ended_or_not}
use Rattle.law_runs.proofs.RefusedSteps.{LeavesAll, last_step_leaves}
use Rattle.law_runs.proofs.StepsAppend.{OnlyCuts-if, OnlyCuts-same, OnlyCuts-step, OnlyCuts-trans}
use Rattle.law_runs.proofs.StepsOnlyCut.{Cut, Same, Short, Differ, Cut-step_over, Cut-stopped, above_monotone}
use Rattle.law_runs.proofs.Told.{OnlyCuts-told_step, within-told_step}
use Rattle.run_model.proofs.Leads.{told_step-ended, told_step-going, unless_untold-within}

module _ (Beside : Tape → Tape → Type 0) (IsCause : Status → Type 0) (small large : Limits) (differ : Differ Beside IsCause small large) (undone : (status : Status) → IsCause status → status ≡ Done → ⊥) where
  -- both are stopped before a step by the limit on messages, or the first one alone is, or the step ended it, or neither
  Cut-unless_untold : (s done whole : State) (tape : Tape) → Beside s.tape tape → length s.messages ≤ small.messages
      → (((status : Status) → done.ended ≡ Some status → (status ≡ Done → ⊥) → LeavesAll s done))
      → OnlyCuts (over tape s) whole → Cut Beside IsCause done whole
      → Cut Beside IsCause (unless_untold small s done) (unless_untold large (over tape s) whole)
  Cut-unless_untold s done whole tape beside within leaves appends (Same left beside_left same) =
      let size : ℕ = length done.messages in
      let same_size : length whole.messages ≡ size = ap (λ (t : State). length t.messages) same in
      let Goal : ℕ → Type 0 = λ most. Cut Beside IsCause (unless_untold small s done) (if nat_lt large.messages most then stopped_by large Messages (over tape s) else whole) in
      subst Goal (sym same_size)
      (Cut-stopped Beside IsCause small large differ Messages (λ l. nat_lt l.messages size) s done whole tape (above_monotone Messages size) beside appends
      (Same left beside_left same))
  Cut-unless_untold s done whole tape beside within leaves appends (Short status ended cause cuts) =
      let left = leaves status ended (undone status cause) in
      let still : length done.messages ≤ small.messages = subst (λ (told : List ℕ). length told ≤ small.messages) (sym left.messages) within in
      let first : OnlyCuts done (stopped_by large Messages (over tape s)) =
      OnlyCuts-same done (stopped_by large Messages (over tape s)) (sym left.history) (sym left.messages) in
      subst (λ (t : State). Cut Beside IsCause t (unless_untold large (over tape s) whole)) (sym (unless_untold-within small s done still))
      (Short status ended cause (OnlyCuts-if (nat_lt large.messages (length whole.messages)) first cuts))

  -- both make a step from the same state
  Cut-told_step_over : (s : State) (tape : Tape) → length s.messages ≤ small.messages → Beside s.tape tape
      → Cut Beside IsCause (told_step small s) (told_step large (over tape s))
  Cut-told_step_over s tape within beside =
      elim (ended_or_not s.ended) [
        | inl ended ↦
            subst (λ (t : State). Cut Beside IsCause t (told_step large (over tape s))) (sym (told_step-ended small s ended))
            (subst (λ (u : State). Cut Beside IsCause s u) (sym (told_step-ended large (over tape s) ended)) (Same tape beside refl))
        | inr going ↦
            subst (λ (t : State). Cut Beside IsCause t (told_step large (over tape s))) (sym (told_step-going small s going))
            (subst (λ (u : State). Cut Beside IsCause (unless_untold small s (step small s)) u) (sym (told_step-going large (over tape s) going))
            (Cut-unless_untold s (step small s) (step large (over tape s)) tape beside within (λ status. last_step_leaves small status s going)
            (OnlyCuts-step large (over tape s)) (Cut-step_over Beside IsCause small large differ s tape beside)))
      ]

  -- both make a step
  Cut-told_step : (s whole : State) → length s.messages ≤ small.messages → Cut Beside IsCause s whole
      → Cut Beside IsCause (told_step small s) (told_step large whole)
  Cut-told_step s whole within (Same tape beside same) =
      subst (λ (t : State). Cut Beside IsCause (told_step small s) (told_step large t)) (sym same) (Cut-told_step_over s tape within beside)
  Cut-told_step s whole within (Short status ended cause cuts) =
      let some : IsSome s.ended = ap is_some ended in
      subst (λ (t : State). Cut Beside IsCause t (told_step large whole)) (sym (told_step-ended small s some))
      (Short status ended cause (OnlyCuts-trans cuts (OnlyCuts-told_step large whole)))

  -- both make so many steps
  pub Cut-told_after : (n : ℕ) (s whole : State) → length s.messages ≤ small.messages → Cut Beside IsCause s whole
      → Cut Beside IsCause (told_after small n s) (told_after large n whole)
  Cut-told_after zero s whole within so_far = so_far
  Cut-told_after (suc n) s whole within so_far =
      Cut-told_after n (told_step small s) (told_step large whole) (within-told_step small s within) (Cut-told_step s whole within so_far)
