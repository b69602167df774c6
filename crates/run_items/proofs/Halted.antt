-- A run is halted where the code couldn't do what an item means, or what is to be performed.
use Rattle.std.proofs.Common.{◌≡◌, ℕ, List, [], ◌∷◌, length, Option, Some, None, Err, inl, inr, refl, subst, sym, Bool, true, false, if◌then◌else◌, nat_lt}
use Rattle.roff_num.specs.declared.limit.Limit.{Limit}
use Rattle.roff_num.specs.declared.limits.Limits.{Limits}
use Rattle.input_source.specs.Tape.{Tape}
use Rattle.input_model.specs.Looking.{looked_then}
use Rattle.input_model.specs.declared.looked.Looked.{Looked}
use Rattle.input_model.specs.declared.looked.Looked.TheVariants.{Nothing, Byte, Closed}
use Rattle.run_events.specs.declared.halt.Halt.{Halt}
use Rattle.run_events.specs.declared.halt.Halt.TheVariants.{Limit as Limited, Refused, Over, Output, Messages}
use Rattle.run_items.specs.Outcome.{Beginning, Seen, IsLeftOf}
use Rattle.run_events.specs.Formatter.Performing.{HaltedAt, acting}
use Rattle.run_items.specs.Performing.{TakingDone}
use Rattle.run_items.specs.Halting.{Halts, line_told}
use Rattle.run_state.specs.declared.composer.Composer.{Composer as ComposerOf}
use Rattle.run_model.specs.Output.{PageHistory}
use Rattle.run_model.specs.Run.{State, ending_as, made, step, stopped_by, told_step, unless_refused, unless_untold, grown}
use Rattle.run_model.specs.Run.Counts.{first_passed}
use Rattle.run_model.specs.PageEvents.{PageEvent}
use Rattle.run_model.specs.declared.status.Status.TheVariants.{Done}
use Rattle.run_items.proofs.Bounded.{arrives, told_reached, told_step-quiet}
use Rattle.run_items.proofs.Halting.{rest_over}
use Rattle.roff_num.specs.declared.limit.Limit.TheVariants.{Messages as OnMessages}

-- a tape is what is left of itself behind a byte that was looked at
pub IsLeftOf-looked_then : (looked : Looked) (tape : Tape) → IsLeftOf tape (looked_then looked tape)
IsLeftOf-looked_then Nothing tape = inl refl
IsLeftOf-looked_then (Byte b) tape = inr refl
IsLeftOf-looked_then (Closed None) tape = inl refl
IsLeftOf-looked_then (Closed (Some b)) tape = inr refl

-- a halt that refused no item is told on the line of the last byte taken
pub line_told-taken : (halt : Halt) (line_before line : ℕ) → ((limit : Limit) → halt ≡ Refused limit → ⊥) → line_told halt line_before line ≡ line
line_told-taken (Limited limit) line_before line taken = refl
line_told-taken (Refused limit) line_before line taken = absurd (taken limit refl)
line_told-taken Output line_before line taken = refl
line_told-taken Over line_before line taken = refl
line_told-taken Messages line_before line taken = refl

-- what is left of the tape of either state, by whether a limit refuses the step
left-unless_refused : (l : Limits) (o : Option Limit) (left : Tape) (from done : State)
    → IsLeftOf left from.tape → IsLeftOf left done.tape → IsLeftOf left (unless_refused l o from done).tape
left-unless_refused l None left from done before behind = behind
left-unless_refused l (Some limit) left from done before behind = before

-- and behind a step whose messages may be too many
left-told : (l : Limits) (many : Bool) (left : Tape) (from done : State) → IsLeftOf left from.tape → IsLeftOf left done.tape
    → IsLeftOf left (if many then stopped_by l OnMessages from else done).tape
left-told l true left from done before behind = before
left-told l false left from done before behind = behind

left-told_step : (l : Limits) (left : Tape) (from : State) → IsLeftOf left from.tape → IsLeftOf left (step l from).tape → IsLeftOf left (told_step l from).tape
left-told_step l left from before behind =
    elim from.ended as (λ o. IsLeftOf left (elim o as (λ _. State) [ None ↦ unless_untold l from (step l from) | Some status ↦ from ]).tape) [
      | None ↦ left-told l (nat_lt l.messages (length (step l from).messages)) left from (step l from) before behind
      | Some status ↦ before
    ]

-- what the code could not do of events that are to be performed behind a state halts the run
pub halted_at : (l : Limits) (t : Beginning) (left : Tape) (line : ℕ) (start now : Seen) (done : State) → IsLeftOf left done.tape → done.last_message ≡ []
    → done.input.line ≡ line → (halt : Halt) → HaltedAt l t start now done halt → Halts l t left line halt start now
halted_at l t left line start now done left_behind quiet line_is (Limited limit) did = record {
  state = acting done (did.next ∷ did.to_do) did.history;
  reaches = did.reaches;
  goes_on = refl;
  stops = told_step-quiet l (acting done (did.next ∷ did.to_do) did.history) (stopped_by l limit (acting done (did.next ∷ did.to_do) did.history))
      now.err.room refl did.reaches.room did.stops refl;
  rest = left_behind;
  quiet = quiet;
  line_is = line_is;
}
halted_at l t left line start now done left_behind quiet line_is (Refused limit) did = absurd did
halted_at l t left line start now done left_behind quiet line_is Output did = record {
  state = acting done (did.next ∷ did.to_do) did.history;
  stops = did.stops;
  messages = did.messages;
  messages_stay = did.messages_stay;
  rest = left_behind;
  line_is = line_is;
}
halted_at l t left line start now done left_behind quiet line_is Over did =
    let over : State = ending_as Done (acting done did.to_do did.history) in record {
      state = over;
      reaches = arrives l t start now over did.reaches;
      ended = refl;
      rest = rest_over l t left over (told_reached l t start now over did.reaches) refl left_behind;
      fault = λ wrong. cc;
    }
halted_at l t left line start now done left_behind quiet line_is Messages did = absurd did

-- one step from a state leads to a taking's, unless a limit refuses it
module _ (l : Limits) (t : Beginning) (left : Tape) (line_before line : ℕ) (start now : Seen) (from done : State) (opens : step l from ≡ made l from done)
    (left_before : IsLeftOf left from.tape) (quiet_before : from.last_message ≡ []) (line_before_is : from.input.line ≡ line_before)
    (left_behind : IsLeftOf left done.tape) (quiet : done.last_message ≡ []) (line_is : done.input.line ≡ line) where
  -- what the code could not do of it halts the run
  pub did_halt : (events : List PageEvent) (h : PageHistory) (kept rest : List PageEvent) (halt : Halt) (es : ComposerOf)
      → TakingDone l t start now from done events h kept rest (Err halt) es
      → Halts l t left (line_told halt line_before line) halt start now
  did_halt events h kept rest (Refused limit) es did = inl (record {
    state = from;
    reaches = did.reaches;
    goes_on = did.goes_on;
    stops = did.stops;
    rest = left_before;
    quiet = quiet_before;
    line_is = line_before_is;
  })
  did_halt events h kept rest (Limited limit) es did = halted_at l t left line start now done left_behind quiet line_is (Limited limit) did
  did_halt events h kept rest Output es did = halted_at l t left line start now done left_behind quiet line_is Output did
  did_halt events h kept rest Over es did = halted_at l t left line start now done left_behind quiet line_is Over did
  did_halt events h kept rest Messages es did = record {
    is_device = refl;
    state = from;
    comes = did.comes;
    goes_on = did.goes_on;
    text = did.text;
    messages = did.messages;
    fault = did.fault;
    output_stays = did.output_stays;
    rest = left-told_step l left from left_before
        (subst (λ (s : State). IsLeftOf left s.tape) (sym opens) (left-unless_refused l (first_passed l (grown done)) left from done left_before left_behind));
  }
