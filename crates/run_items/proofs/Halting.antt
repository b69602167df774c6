-- How a run ends that is halted, and how that is told.
use Rattle.std.proofs.Common.{◌≡◌, ◌∙◌, ◌⊎◌, ℕ, true, List, [], ◌∷◌, Some, Result, Ok, Err, inl, inr, refl, subst, sym, ap, append-nil, IsSome}
use Rattle.roff_num.specs.declared.limit.Limit.{Limit}
use Rattle.roff_num.specs.declared.limits.Limits.{Limits}
use Rattle.roff_num.specs.LimitValues.{value_of}
use Rattle.input_source.specs.Tape.{Tape, Ended, Ending, Item, behind_front}
use Rattle.run_model.specs.declared.status.Status.TheVariants.{Device, Done, Limit as Limited}
use Rattle.run_model.specs.declared.message.Message.TheVariants.{LimitReached, WriteFailed}
use Rattle.run_model.specs.Messages.{message_line}
use Rattle.run_events.specs.declared.halt.Halt.{Halt}
use Rattle.run_events.specs.declared.halt.Halt.TheVariants.{Limit as ByLimit, Refused}
use Rattle.run_items.specs.Outcome.{AppendsBetween, Beginning, Seen, IsLeftOf, IsRest, Completes, OutputFails, OutputStops, MessagesFail, StartFails, StopsWriting, seen}
use Rattle.run_items.proofs.Bounded.{told_reached, told_step-failing, told_stopped}
use Rattle.run_model.specs.Results.{last_state}
use Rattle.run_model.specs.Run.{State, ToldLeads, initial, reported, stopped_by}
use Rattle.law_runs.specs.Statuses.{HasMet, Tells}
use Rattle.law_runs.proofs.Endings.{no_other_state_is_last}
use Rattle.law_runs.proofs.StatusesTell.{each_status_tells}
use Rattle.run_items.specs.Halting.{LimitStops, OutputStopsAt, StartStops, Halts}
use Rattle.page_bytes.specs.Sinks.{CountsFault, Sunk, Writes, Fails, Puts}
use Rattle.std.specs.Io.KnownBytes.{Appends}
use Rattle.page_bytes.proofs.Appending.{Appends-append, Appends-nothing}
use Rattle.run_model.proofs.Leads.{ToldLeads-refl, ToldLeads-to}
use Rattle.run_events.proofs.Performed.{between, faults_of_err}

-- what is left at a limit, by the status that names it
rest_told : (limit : Limit) (left : Tape) (s : State) → IsLeftOf left s.tape → IsRest (Limited limit) left s
rest_told limit left s (inl all) = inl all
rest_told limit left s (inr looked) = inr (tt, looked)

-- behind the end of a tape nothing is left but it
behind-met : (items : List Item) (ending : Ending) → items ≡ []
    → let t : Tape = record { items = items; ending = ending } in behind_front t ≡ t
behind-met [] ending none = refl
behind-met (item ∷ items) ending none = cc

-- what is left where the run's input had ended, or was left
rest_done : (left : Tape) (s : State) → HasMet Ended s.tape ⊎ (s.is_closed ≡ true) → IsLeftOf left s.tape → IsRest Done left s
rest_done left s (inl met) (inl all) = inl all
rest_done left s (inl met) (inr behind) = inl (behind ∙ behind-met s.tape.items s.tape.ending met.items)
rest_done left s (inr closed) (inl all) = inl all
rest_done left s (inr closed) (inr behind) = inr (closed, behind)

-- and where the last page ended, which it does behind that alone
pub rest_over : (l : Limits) (t : Beginning) (left : Tape) (s : State) → ToldLeads l (initial l t.start t.tape) s → s.ended ≡ Some Done
    → IsLeftOf left s.tape → IsRest Done left s
rest_over l t left s leads ended rest =
    let last : s ≡ last_state l t.start t.tape = no_other_state_is_last l t.start t.tape s leads (rw ended refl) in
    let told : Tells l Done s =
    subst (λ (s : State). Tells l Done s) (sym last) (each_status_tells l t.start t.tape Done (ap (λ (s : State). s.ended) (sym last) ∙ ended)) in
    rest_done left s told.0 rest

-- a limit stops the run, whether it took the item or not, or before its first step
abbrev pub AtLimit : Limits → Beginning → Tape → ℕ → Limit → Seen → Seen → Type 0
AtLimit l t left line limit before now = LimitStops l t left line limit before now ⊎ StartStops l t left line limit before now

pub limit_stops : (l : Limits) (t : Beginning) (left : Tape) (line : ℕ) (halt : Halt) (limit : Limit) (before now : Seen)
    → (halt ≡ ByLimit limit) ⊎ (halt ≡ Refused limit) → Halts l t left line halt before now → AtLimit l t left line limit before now
limit_stops l t left line halt limit before now (inl is) halts = inl (subst (λ (h : Halt). Halts l t left line h before now) is halts)
limit_stops l t left line halt limit before now (inr is) halts = subst (λ (h : Halt). Halts l t left line h before now) is halts

-- the message sink was given more
module _ (l : Limits) (t : Beginning) (left : Tape) (line : ℕ) (before : Seen) (failures : ℕ) (out old new : Sunk) where
  -- a limit stopped the run, and that was reported
  step_told : (limit : Limit) → LimitStops l t left line limit before (seen failures out old)
      → Writes old new (message_line line (LimitReached limit (value_of l limit)))
      → Completes l t left (Limited limit) before (seen failures out new)
  step_told limit stops told = record {
    state = stopped_by l limit stops.state;
    reaches = record {
      comes = ToldLeads-to l (initial l t.start t.tape) _ _ (told_reached l t before (seen failures out old) _ stops.reaches) stops.stops;
      text = stops.reaches.text;
      messages = rw stops.line_is (Appends-append _ _ _ _ _ (rw (stops.quiet, append-nil) at stops.reaches.messages) told.written);
      faults = faults_of_err before failures out old new told.failures stops.reaches.faults;
    };
    ended = refl;
    rest = rest_told limit left (stopped_by l limit stops.state) stops.rest;
    fault = λ wrong. cc;
  }

  -- or that could not be reported
  step_not_told : (limit : Limit) → LimitStops l t left line limit before (seen failures out old)
      → Fails old new (message_line line (LimitReached limit (value_of l limit)))
      → MessagesFail l t left Device before (seen failures out new)
  step_not_told limit stops told = record {
    is_device = refl;
    state = stops.state;
    comes = told_reached l t before (seen failures out old) _ stops.reaches;
    goes_on = stops.goes_on;
    text = stops.reaches.text;
    messages = rw (stops.stops, stops.quiet, stops.line_is, append-nil) (between _ _ _ _ _ (rw (stops.quiet, append-nil) at stops.reaches.messages) told.written);
    fault = rw (sym stops.reaches.faults.err) told.fault;
    output_stays = stops.reaches.faults.out;
    rest = subst (λ (s : State). IsLeftOf left s.tape) (sym stops.stops) stops.rest;
  }

  -- a limit refused what was given, and that was reported
  start_told : (limit : Limit) → StartStops l t left line limit before (seen failures out old)
      → Writes old new (message_line line (LimitReached limit (value_of l limit)))
      → Completes l t left (Limited limit) before (seen failures out new)
  start_told limit stops told =
      let last : State = stopped_by l limit stops.state in
      record {
        state = last;
        reaches = record {
          comes = subst (λ (s : State). ToldLeads l (initial l t.start t.tape) s) stops.stops (ToldLeads-refl l (initial l t.start t.tape));
          text = subst (λ (bytes : List ℕ). Appends before.out.contents out.contents bytes) (sym stops.text)
              (subst (λ (s : Sunk). Appends s.contents out.contents []) stops.out (Appends-nothing out.contents));
          messages = rw (stops.messages, stops.line_is) (subst (λ (s : Sunk). Appends s.contents new.contents (message_line line (LimitReached limit (value_of l limit)))) stops.err told.written);
          faults = faults_of_err before failures out old new told.failures
              (record { source = stops.source; out = ap (λ (s : Sunk). s.failures) stops.out; err = ap (λ (s : Sunk). s.failures) stops.err });
        };
        ended = refl;
        rest = inl (stops.rest ∙ sym stops.unread);
        fault = λ wrong. cc;
      }

  -- or that could not be reported
  start_not_told : (limit : Limit) → StartStops l t left line limit before (seen failures out old)
      → Fails old new (message_line line (LimitReached limit (value_of l limit)))
      → StartFails l t left Device before (seen failures out new)
  start_not_told limit stops told =
      let last : State = stopped_by l limit stops.state in
      let piece : List ℕ = message_line line (LimitReached limit (value_of l limit)) in
      let failed : State → Type 0 = λ s. AppendsBetween before.err.contents new.contents [] (reported s) in
      record {
        is_device = refl;
        refused = subst (λ (s : State). IsSome s.ended) (sym stops.stops) refl;
        text = subst (λ (s : Sunk). Appends s.contents out.contents []) stops.out (Appends-nothing out.contents);
        messages = subst failed (sym stops.stops)
            (rw (stops.messages, stops.line_is) (subst (λ (s : Sunk). AppendsBetween s.contents new.contents [] piece) stops.err
            (between _ _ _ [] piece (Appends-nothing old.contents) told.written)));
        fault = subst (λ (s : Sunk). CountsFault s.failures new.failures) stops.err told.fault;
        output_stays = ap (λ (s : Sunk). s.failures) stops.out;
        rest = stops.rest;
      }

  -- so a run ends that a limit stopped, where that was reported
  pub limit_told : (limit : Limit) → AtLimit l t left line limit before (seen failures out old)
      → Writes old new (message_line line (LimitReached limit (value_of l limit)))
      → Completes l t left (Limited limit) before (seen failures out new)
  limit_told limit (inl stops) told = step_told limit stops told
  limit_told limit (inr stops) told = start_told limit stops told

  -- and where it couldn't be
  pub limit_not_told : (limit : Limit) → AtLimit l t left line limit before (seen failures out old)
      → Fails old new (message_line line (LimitReached limit (value_of l limit)))
      → MessagesFail l t left Device before (seen failures out new) ⊎ StartFails l t left Device before (seen failures out new)
  limit_not_told limit (inl stops) told = inl (step_not_told limit stops told)
  limit_not_told limit (inr stops) told = inr (start_not_told limit stops told)

  -- the output failed in the step of the run whose messages are bounded
  failing : (s : State) → OutputStops l t before (seen failures out old) s → StopsWriting l t before (seen failures out new) s
  failing s stops = record {
    comes = told_stopped l t before (seen failures out old) s stops;
    goes_on = stops.goes_on;
    text = rw (told_step-failing l t before (seen failures out old) s stops) stops.text;
    fault = stops.fault;
  }

  -- the output failed, and the report was answered so
  pub output_reported : {F : Type 0} (r : Result (Unit {0}) F) → OutputStopsAt l t left line before (seen failures out old)
      → Puts old new (message_line line WriteFailed) r → OutputFails l t left Device before (seen failures out new)
  output_reported (Ok u) stops puts = record {
    is_device = refl;
    state = stops.state;
    stops = failing stops.state stops.stops;
    rest = stops.rest;
    messages = inl (rw stops.line_is (Appends-append _ _ _ _ _ stops.messages puts.ok.written), puts.ok.failures ∙ stops.messages_stay);
  }
  output_reported (Err e) stops puts = record {
    is_device = refl;
    state = stops.state;
    stops = failing stops.state stops.stops;
    rest = stops.rest;
    messages = inr (rw stops.line_is (between _ _ _ _ _ stops.messages puts.err.written), rw (sym stops.messages_stay) puts.err.fault);
  }
