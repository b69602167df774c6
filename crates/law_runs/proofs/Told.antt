-- A run whose messages are bounded goes as it does without the bound, until a step would pass it, and then it stops.
use Rattle.std.proofs.Common.{◌≡◌, ◌⊎◌, inl, inr, ℕ, zero, suc, ◌<◌, ◌≤◌, nat_lt, List, [], ◌∷◌, length, length-append, Option, Some, None, arith, refl, sym, ◌∙◌, ap, subst}
use Rattle.std.proofs.lemmas.Bool.{cases_Bool}
use Rattle.std.proofs.lemmas.Bool.Decides.{nat_tests}
use Rattle.roff_num.specs.Lists.{IsBeginning}
use Rattle.roff_num.specs.declared.limit.Limit.{Limit}
use Rattle.roff_num.specs.declared.limit.Limit.TheVariants.{Messages}
use Rattle.roff_num.specs.declared.limits.Limits.{Limits}
use Rattle.roff_num.specs.declared.num.Num.{Num}
use Rattle.input_source.specs.Tape.{Tape}
use Rattle.run_model.specs.Run.{State, Leads, ToldLeads, after, initial, paged_state, step, stopped_by, told_after, told_step, unless_refused, with_registers}
use Rattle.run_model.specs.Run.Counts.{first_passed, names_counted}
use Rattle.run_model.specs.Starts.{history_given, with_given}
use Rattle.run_model.specs.declared.start.Start.{Start}
use Rattle.law_runs.specs.Laws.{OnlyCuts}
pub use Rattle.law_runs.specs.BoundedMessages.{ToldOrStopped, AllTold, StopsBefore}
use Rattle.law_runs.specs.BoundedMessages.{MessagesAreWithin, MessagesOnlyStop}
use Rattle.law_runs.proofs.Ended.{after-ended, ended_or_not, step-ended, told_after-ended}
use Rattle.law_runs.proofs.StepsAppend.{OnlyCuts-same, OnlyCuts-step}
use Rattle.run_model.proofs.Leads.{told_step-beyond, told_step-ended, told_step-within}

-- a beginning isn't longer
pub length-beginning : (xs ys : List ℕ) → IsBeginning xs ys → length xs ≤ length ys
length-beginning xs ys begins = omega (arith, ap length begins.split, length-append xs begins.rest)

-- messages only grow
pub messages-step : (l : Limits) (s : State) → length s.messages ≤ length (step l s).messages
messages-step l s = length-beginning s.messages (step l s).messages (OnlyCuts-step l s).messages

pub messages-after : (l : Limits) (n : ℕ) (s : State) → length s.messages ≤ length (after l n s).messages
messages-after l zero s = omega arith
messages-after l (suc n) s = omega (arith, messages-step l s, messages-after l n (step l s))

-- they are within a limit, or beyond it
pub within_or_beyond : (most size : ℕ) → (size ≤ most) ⊎ (most < size)
within_or_beyond most size =
    elim (cases_Bool (nat_lt most size)) [
      | inl passes ↦ inr (grind (arith, nat_tests))
      | inr stays ↦ inl (grind (arith, nat_tests))
    ]

-- a step whose messages are within the limit is made
pub told_step-step : (l : Limits) (s : State) → length (step l s).messages ≤ l.messages → told_step l s ≡ step l s
told_step-step l s within =
    elim (ended_or_not s.ended) [
      | inl ended ↦ told_step-ended l s ended ∙ sym (step-ended l s ended)
      | inr going ↦ told_step-within l s (step l s) going refl within
    ]

-- what holds where a step leads, and where the run stops before it, holds where one leads whose messages are bounded
pub told_step-holds : (P : State → Type 0) (l : Limits) (s : State) → P (step l s) → (s.ended ≡ None → P (stopped_by l Messages s)) → P (told_step l s)
told_step-holds P l s stepped stops =
    elim (ended_or_not s.ended) [
      | inl ended ↦ subst P (step-ended l s ended ∙ sym (told_step-ended l s ended)) stepped
      | inr going ↦ elim (within_or_beyond l.messages (length (step l s).messages)) [
        | inl within ↦ subst P (sym (told_step-step l s within)) stepped
        | inr beyond ↦ subst P (sym (told_step-beyond l s going beyond)) (stops going)
      ]
    ]

-- it only appends
pub OnlyCuts-told_step : (l : Limits) (s : State) → OnlyCuts s (told_step l s)
OnlyCuts-told_step l s =
    told_step-holds (λ (t : State). OnlyCuts s t) l s (OnlyCuts-step l s) (λ going. OnlyCuts-same s (stopped_by l Messages s) refl refl)

-- and its messages stay within the limit
pub within-told_step : (l : Limits) (s : State) → length s.messages ≤ l.messages → length (told_step l s).messages ≤ l.messages
within-told_step l s within =
    let Goal : State → Type 0 = λ t. length t.messages ≤ l.messages in
    elim (within_or_beyond l.messages (length (step l s).messages)) [
      | inl still ↦ subst Goal (sym (told_step-step l s still)) still
      | inr beyond ↦ elim (ended_or_not s.ended) [
        | inl ended ↦ subst Goal (sym (told_step-ended l s ended)) within
        | inr going ↦ subst Goal (sym (told_step-beyond l s going beyond)) within
      ]
    ]

-- several steps whose messages are within the limit are made
pub told_after-within : (l : Limits) (n : ℕ) (s : State) → length (after l n s).messages ≤ l.messages → told_after l n s ≡ after l n s
told_after-within l zero s within = refl
told_after-within l (suc n) s within =
    ap (told_after l n) (told_step-step l s (omega (arith, within, messages-after l n (step l s))))
    ∙ told_after-within l n (step l s) within

-- steps that lead to a state whose messages are within the limit lead there with the bound too
pub told_where_within : (l : Limits) (s t : State) → Leads l s t → length t.messages ≤ l.messages → ToldLeads l s t
told_where_within l s t leads within =
    let at_end : length (after l leads.steps s).messages ≤ l.messages =
    subst (λ (u : State). length u.messages ≤ l.messages) (sym leads.there) within in
    record { steps = leads.steps; there = told_after-within l leads.steps s at_end ∙ leads.there }

-- one step in front
ToldOrStopped-suc : (l : Limits) (n : ℕ) (s t : State) → ToldOrStopped l n (step l s) t → ToldOrStopped l (suc n) s t
ToldOrStopped-suc l n s t (AllTold within) = AllTold within
ToldOrStopped-suc l n s t (StopsBefore m few going within beyond) = StopsBefore (suc m) (omega (arith, few)) going within beyond

-- of a run that goes on, by its first step
told-first : (l : Limits) (n : ℕ) (s : State) → length s.messages ≤ l.messages → s.ended ≡ None
    → (length (step l s).messages ≤ l.messages → ToldOrStopped l n (step l s) (told_after l n (step l s))) → ToldOrStopped l (suc n) s (told_after l (suc n) s)
told-first l n s within going others =
    elim (within_or_beyond l.messages (length (step l s).messages)) [
      | inl still ↦ subst (λ (t : State). ToldOrStopped l (suc n) s (told_after l n t)) (sym (told_step-step l s still)) (ToldOrStopped-suc l n s _ (others still))
      | inr beyond ↦
          let stops : told_after l n (told_step l s) ≡ stopped_by l Messages s =
          ap (told_after l n) (told_step-beyond l s going beyond) ∙ told_after-ended l n (stopped_by l Messages s) refl in
          subst (λ (t : State). ToldOrStopped l (suc n) s t) (sym stops) (StopsBefore 0 (omega arith) going within beyond)
    ]

-- so it is with each number of steps
pub told_or_stopped : (l : Limits) (n : ℕ) (s : State) → length s.messages ≤ l.messages → ToldOrStopped l n s (told_after l n s)
told_or_stopped l zero s within = AllTold within
told_or_stopped l (suc n) s within =
    elim (ended_or_not s.ended) [
      | inl ended ↦
          let stays : after l (suc n) s ≡ s = after-ended l (suc n) s ended in
          let all : ToldOrStopped l (suc n) s (after l (suc n) s) = AllTold (subst (λ (t : State). length t.messages ≤ l.messages) (sym stays) within) in
          subst (λ (t : State). ToldOrStopped l (suc n) s t) (stays ∙ sym (told_after-ended l (suc n) s ended)) all
      | inr going ↦ told-first l n s within going (λ still. told_or_stopped l n (step l s) still)
    ]

-- so the messages stay within the limit
pub within-told : (l : Limits) (n : ℕ) (s t : State) → ToldOrStopped l n s t → length t.messages ≤ l.messages
within-told l n s t (AllTold within) = within
within-told l n s t (StopsBefore m few going within beyond) = within

-- a run that begins has told nothing
messages-unless_refused : (l : Limits) (r : Option Limit) (s done : State) → done.messages ≡ s.messages → (unless_refused l r s done).messages ≡ s.messages
messages-unless_refused l None s done same = same
messages-unless_refused l (Some limit) s done same = refl

messages-with_registers : (l : Limits) (given : List (ℕ × Num)) (s : State) → (with_registers l given s).messages ≡ s.messages
messages-with_registers l [] s = refl
messages-with_registers l (first ∷ others) s =
    let behind : State = record s { registers = with_given first s.registers; history = history_given first s.history } in
    messages-unless_refused l (first_passed l (names_counted behind.registers)) s _ (messages-with_registers l others behind)

pub nothing_told : (l : Limits) (start : Start) (tape : Tape) → length (initial l start tape).messages ≤ l.messages
nothing_told l start tape =
    let none : length (initial l start tape).messages ≡ 0 = ap length (messages-with_registers l start.registers.items (paged_state start tape)) in
    omega (arith, none)

-- no run passes the limit on messages
pub messages_are_within : MessagesAreWithin
messages_are_within l start tape n = within-told l n (initial l start tape) _ (told_or_stopped l n (initial l start tape) (nothing_told l start tape))

-- and it only stops runs
pub messages_only_stop : MessagesOnlyStop
messages_only_stop l start tape n = told_or_stopped l n (initial l start tape) (nothing_told l start tape)
