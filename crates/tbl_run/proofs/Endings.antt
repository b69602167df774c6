-- Each run ends, in one state alone, and each step before has a beginning of what that has.
use Rattle.std.proofs.Common.{◌≡◌, ◌∙◌, ℕ, zero, suc, ◌+◌, ◌<◌, Bool, true, false, List, [], ◌∷◌, ◌++◌, length, nat_lt, Option, Some, None, if◌then◌else◌, refl, sym, ap, subst, append_assoc, arith, IsSome}
use Rattle.roff_num.specs.Lists.{IsBeginning}
use Rattle.roff_num.specs.declared.limit.Limit.TheVariants.{Messages, Output}
use Rattle.run_model.specs.declared.status.Status.{Status}
use Rattle.run_model.specs.declared.status.Status.TheVariants.{Device, Limit as Limited}
use Rattle.input_source.specs.Tape.{Answer, Ended, Ending, Ends, Failed, Gives, OneByte, OneNote, Stopped, Tape}
use Rattle.tbl_format.specs.declared.limits.TblLimits.{TblLimits}
use Rattle.tbl_options.specs.Messages.{tbl_message_line}
use Rattle.tbl_options.specs.declared.message.Message.{Message}
use Rattle.tbl_options.specs.declared.message.Message.TheVariants.{LimitReached, ReadFailed}
use Rattle.tbl_core.proofs.Answering.{answers_given}
use Rattle.tbl_core.specs.Stages.{Answered, answered}
use Rattle.tbl_core.specs.Tables.{line_of}
use Rattle.tbl_core.specs.Yields.{at_start, yields}
use Rattle.tbl_run.proofs.Given.{fewer_behind_front, given, given_behind}
use Rattle.tbl_run.proofs.MessageLimit.{begins_itself, going_on}
use Rattle.tbl_run.specs.Laws.{EachStepIsABeginning, EveryRunEnds, GoesOnTo, NoOtherStateIsLast}
use Rattle.tbl_run.specs.Outcome.{Comes}
use Rattle.tbl_run.specs.Results.{tbl_last_state, turns}
use Rattle.tbl_run.specs.Run.{State, Written, done_with, ends_telling, initial, step, steps}

-- a run hasn't ended, or it has
not_both : (o : Option Status) → o ≡ None → IsSome o → ⊥
not_both None none some = cc
not_both (Some status) none some = cc

-- one that ended with a status has
pub has_status : (o : Option Status) (status : Status) → o ≡ Some status → IsSome o
has_status None status is = cc
has_status (Some other) status is = refl

-- how what is given ends is how the run does
ended_behind : (l : TblLimits) (line : ℕ) (e : Ending) (w : Written) → IsSome (done_with l line (Ends e) w).ended
ended_behind l line Ended w = refl
ended_behind l line Failed w = refl
ended_behind l line (Stopped limit) w = refl

-- what goes on from a beginning goes on from what that begins with
IsBeginning-trans : (xs ys zs : List ℕ) → IsBeginning xs ys → IsBeginning ys zs → IsBeginning xs zs
IsBeginning-trans xs ys zs first second = record {
  rest = first.rest ++ second.rest;
  split = second.split ∙ ap (λ (front : List ℕ). front ++ second.rest) first.split ∙ append_assoc xs first.rest second.rest;
}

GoesOnTo-trans : (u v w : Written) → GoesOnTo u v → GoesOnTo v w → GoesOnTo u w
GoesOnTo-trans u v w first second = record {
  text = IsBeginning-trans _ _ _ first.text second.text;
  messages = IsBeginning-trans _ _ _ first.messages second.messages;
}

GoesOnTo-same : (w : Written) → GoesOnTo w w
GoesOnTo-same w = record { text = begins_itself w.output; messages = begins_itself w.messages }

-- an answer only appends
telling_begins : (line : ℕ) (m : Message) (status : Status) (w : Written) → GoesOnTo w (ends_telling line m status w)
telling_begins line m status w = record { text = begins_itself w.output; messages = record { rest = tbl_message_line line m; split = refl } }

byte_begins : (fits : Bool) (line limit b : ℕ) (w : Written)
    → GoesOnTo w (if fits then record w { output = w.output ++ b ∷ [] } else ends_telling line (LimitReached Output limit) (Limited Output) w)
byte_begins true line limit b w = record { text = record { rest = b ∷ []; split = refl }; messages = begins_itself w.messages }
byte_begins false line limit b w = telling_begins line (LimitReached Output limit) (Limited Output) w

note_begins : (passes : Bool) (line limit : ℕ) (m : List ℕ) (w : Written)
    → GoesOnTo w (if passes then ends_telling line (LimitReached Messages limit) (Limited Messages) w else record w { messages = w.messages ++ m })
note_begins true line limit m w = telling_begins line (LimitReached Messages limit) (Limited Messages) w
note_begins false line limit m w = record { text = begins_itself w.output; messages = record { rest = m; split = refl } }

answer_begins : (l : TblLimits) (line : ℕ) (a : Answer) (w : Written) → GoesOnTo w (done_with l line a w)
answer_begins l line (Gives (OneByte b)) w = byte_begins (nat_lt (length w.output) l.output) line l.output b w
answer_begins l line (Gives (OneNote m)) w = note_begins (nat_lt l.messages (length (w.messages ++ m))) line l.messages m w
answer_begins l line (Ends Ended) w = record { text = begins_itself w.output; messages = begins_itself w.messages }
answer_begins l line (Ends Failed) w = telling_begins line ReadFailed Device w
answer_begins l line (Ends (Stopped limit)) w = record { text = begins_itself w.output; messages = begins_itself w.messages }

-- a run that goes on to its last state from one state does so from another
record LeadsOn (l : TblLimits) (line_length : ℕ) (n : ℕ) (first s : State) : Type 0 where
  more : ℕ
  is : turns l line_length n first ≡ turns l line_length more s

-- and comes to the last one by a step
record StepsTo (l : TblLimits) (line_length : ℕ) (first last : State) : Type 0 where
  count : ℕ
  goes_on : (steps l line_length count first).written.ended ≡ None
  is : step l line_length (steps l line_length count first) ≡ last

module _ (l : TblLimits) (line_length : ℕ) where
  -- a run that has ended stays as it is
  turns-ended : (n : ℕ) (s : State) → IsSome s.written.ended → turns l line_length n s ≡ s
  turns-ended zero s ended = refl
  turns-ended (suc n) s ended =
      elim s.written.ended as (λ o. IsSome o → elim o [ None ↦ turns l line_length n (step l line_length s) | Some status ↦ s ] ≡ s) [
        | None ↦ λ none. absurd (cc)
        | Some status ↦ λ some. refl
      ] ended

  -- and one that hasn't ended makes a step
  turns-going : (n : ℕ) (s : State) → s.written.ended ≡ None → turns l line_length (suc n) s ≡ turns l line_length n (step l line_length s)
  turns-going n s going = rw going refl

  -- the first step, and then the others
  steps-front : (n : ℕ) (s : State) → steps l line_length (suc n) s ≡ steps l line_length n (step l line_length s)
  steps-front zero s = refl
  steps-front (suc n) s = ap (step l line_length) (steps-front n s)

  -- a step of a run that goes on behind it
  step-unended : (s : State) → (step l line_length s).written.ended ≡ None → s.written.ended ≡ None
  step-unended s none =
      let next : Answered = answered l line_length s.stage in
      going_on l (line_of next.stage.at.standing) next.answer s.written none

  steps-unended : (n : ℕ) (s : State) → (steps l line_length n s).written.ended ≡ None → s.written.ended ≡ None
  steps-unended zero s none = none
  steps-unended (suc n) s none = steps-unended n s (step-unended (steps l line_length n s) none)

  step_begins : (s : State) → GoesOnTo s.written (step l line_length s).written
  step_begins s =
      let next : Answered = answered l line_length s.stage in
      answer_begins l (line_of next.stage.at.standing) next.answer s.written

  turns_begins : (n : ℕ) (s : State) → GoesOnTo s.written (turns l line_length n s).written
  turns_begins zero s = GoesOnTo-same s.written
  turns_begins (suc n) s = go s.written.ended refl (turns_begins n (step l line_length s))
    where
      go : (o : Option Status) → s.written.ended ≡ o → GoesOnTo (step l line_length s).written (turns l line_length n (step l line_length s)).written
          → GoesOnTo s.written (turns l line_length (suc n) s).written
      go None going later =
          subst (λ (x : State). GoesOnTo s.written x.written) (sym (turns-going n s going)) (GoesOnTo-trans _ _ _ (step_begins s) later)
      go (Some status) is later =
          subst (λ (x : State). GoesOnTo s.written x.written) (sym (turns-ended (suc n) s (has_status _ status is))) (GoesOnTo-same s.written)

  -- a run ends within so many steps, if fewer items are still given
  abbrev EndsWithin : ℕ → State → Type 0
  EndsWithin n s = length (given l line_length s.stage).items < n → IsSome (turns l line_length n s).written.ended

  ends_within : (n : ℕ) (s : State) → EndsWithin n s
  ends_within zero s few = absurd (omega (arith, few))
  ends_within (suc n) s few = by_ended s.written.ended refl (ends_within n (step l line_length s))
    where
      by_answer : (a : Answer) → (answered l line_length s.stage).answer ≡ a → EndsWithin n (step l line_length s) → IsSome (turns l line_length n (step l line_length s)).written.ended
      by_answer (Gives item) is later =
          let fewer = fewer_behind_front (given l line_length s.stage) item (sym (answers_given l line_length s.stage) ∙ is) in
          let behind : length (given l line_length (step l line_length s).stage).items + 1 ≡ length (given l line_length s.stage).items =
          ap (λ (t : Tape). length t.items + 1) (given_behind l line_length s.stage) ∙ fewer in
          later (omega (arith, few, behind))
      by_answer (Ends e) is later =
          let next : Answered = answered l line_length s.stage in
          let ended : IsSome (step l line_length s).written.ended =
          subst (λ (a : Answer). IsSome (done_with l (line_of next.stage.at.standing) a s.written).ended) (sym is)
          (ended_behind l (line_of next.stage.at.standing) e s.written) in
          subst (λ (x : State). IsSome x.written.ended) (sym (turns-ended n (step l line_length s) ended)) ended

      by_ended : (o : Option Status) → s.written.ended ≡ o → EndsWithin n (step l line_length s) → IsSome (turns l line_length (suc n) s).written.ended
      by_ended None going later = subst (λ (x : State). IsSome x.written.ended) (sym (turns-going n s going)) (by_answer _ refl later)
      by_ended (Some status) is later =
          let ended : IsSome s.written.ended = has_status _ status is in
          subst (λ (x : State). IsSome x.written.ended) (sym (turns-ended (suc n) s ended)) ended

  -- a run goes on from each step that it makes
  leads_on : (c n : ℕ) (first : State) → (steps l line_length c first).written.ended ≡ None → IsSome (turns l line_length n first).written.ended
      → LeadsOn l line_length n first (step l line_length (steps l line_length c first))
  leads_on c zero first going ended = absurd (not_both first.written.ended (steps-unended c first going) ended)
  leads_on zero (suc n) first going ended = record { more = n; is = turns-going n first going }
  leads_on (suc c) (suc n) first going ended =
      let on = turns-going n first (steps-unended (suc c) first going) in
      let front = steps-front c first in
      let rest = leads_on c n (step l line_length first) (subst (λ (x : State). x.written.ended ≡ None) front going)
      (subst (λ (x : State). IsSome x.written.ended) on ended) in
      subst (λ (x : State). LeadsOn l line_length (suc n) first (step l line_length x)) (sym front)
      (record { more = rest.more; is = on ∙ rest.is })

  -- a run that ends within so many does so by a step
  abbrev EndsByStep : ℕ → State → Type 0
  EndsByStep n first = first.written.ended ≡ None → IsSome (turns l line_length n first).written.ended
      → StepsTo l line_length first (turns l line_length n first)

  steps_to : (n : ℕ) (first : State) → EndsByStep n first
  steps_to zero first going ended = absurd (not_both first.written.ended going ended)
  steps_to (suc n) first going ended = go (step l line_length first).written.ended refl (steps_to n (step l line_length first))
    where
      on : turns l line_length (suc n) first ≡ turns l line_length n (step l line_length first)
      on = turns-going n first going

      go : (o : Option Status) → (step l line_length first).written.ended ≡ o → EndsByStep n (step l line_length first) → StepsTo l line_length first (turns l line_length (suc n) first)
      go None none later =
          let rest = later none (subst (λ (x : State). IsSome x.written.ended) on ended) in
          let front = steps-front rest.count first in record {
            count = suc rest.count;
            goes_on = subst (λ (x : State). x.written.ended ≡ None) (sym front) rest.goes_on;
            is = ap (step l line_length) front ∙ rest.is ∙ sym on;
          }
      go (Some status) is later = record {
        count = zero;
        goes_on = going;
        is = sym (turns-ended n (step l line_length first) (has_status _ status is)) ∙ sym on;
      }

  module _ (t : Tape) where
    -- as many steps as the last state takes at most
    abbrev enough : ℕ
    enough = length (yields l line_length at_start t).items + 1

    pub last_has_ended : IsSome (tbl_last_state l line_length t).written.ended
    last_has_ended =
        let fits : length (yields l line_length at_start t).items < enough = omega arith in
        ends_within enough (initial t) fits

    leads_to_last : (s : State) (come : Comes l line_length t s) → LeadsOn l line_length enough (initial t) (step l line_length s)
    leads_to_last s come =
        subst (λ (x : State). LeadsOn l line_length enough (initial t) (step l line_length x)) come.is
        (leads_on come.count enough (initial t) (subst (λ (x : State). x.written.ended ≡ None) (sym come.is) come.goes_on) last_has_ended)

    -- a step that has ended is the last
    pub ended-last : (s : State) → Comes l line_length t s → IsSome (step l line_length s).written.ended
        → step l line_length s ≡ tbl_last_state l line_length t
    ended-last s come ended = let on = leads_to_last s come in sym (on.is ∙ turns-ended on.more (step l line_length s) ended)

    -- and what a step has is a beginning of what that has
    pub step-beginning : (s : State) → Comes l line_length t s
        → GoesOnTo (step l line_length s).written (tbl_last_state l line_length t).written
    step-beginning s come =
        let on = leads_to_last s come in
        subst (λ (x : State). GoesOnTo (step l line_length s).written x.written) (sym on.is) (turns_begins on.more (step l line_length s))

    pub come-beginning : (s : State) → Comes l line_length t s → GoesOnTo s.written (tbl_last_state l line_length t).written
    come-beginning s come = GoesOnTo-trans _ _ _ (step_begins s) (step-beginning s come)

pub every_run_ends : EveryRunEnds
every_run_ends l line_length t =
    let ended = last_has_ended l line_length t in
    let run = steps_to l line_length (enough l line_length t) (initial t) refl ended in record {
      before = steps l line_length run.count (initial t);
      comes = record { count = run.count; is = refl; goes_on = run.goes_on };
      is = run.is;
      ended = ended;
    }

pub no_other_state_is_last : NoOtherStateIsLast
no_other_state_is_last l line_length t s end =
    sym end.is ∙ ended-last l line_length t end.before end.comes (subst (λ (x : State). IsSome x.written.ended) (sym end.is) end.ended)

pub each_step_is_a_beginning : EachStepIsABeginning
each_step_is_a_beginning l line_length t s come = step-beginning l line_length t s come
