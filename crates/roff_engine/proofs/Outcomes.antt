-- Each outcome of a run of the code beside the last state of the definition.
use Rattle.std.proofs.Common.{◌≡◌, inl, inr, List, [], ℕ, ◌++◌, Option, Some, refl, ◌∙◌, subst, append_assoc, arith}
use Rattle.std.specs.Io.KnownBytes.{Appends}
use Rattle.roff_num.specs.Faults.{Rises}
use Rattle.roff_num.specs.Lists.{IsBeginning}
use Rattle.roff_num.specs.declared.limits.Limits.{Limits}
use Rattle.run_items.specs.Outcome.{Seen, AppendsBetween, Completes, IsRest, OutputFails, MessagesFail, StartFails}
use Rattle.roff_engine.specs.Outcomes.{Gives, EachOutcomeGives}
use Rattle.run_model.specs.Results.{last_state, output_of, messages_of}
use Rattle.run_model.specs.Run.{State, initial, told_step, output, reported}
use Rattle.page_bytes.specs.Sinks.{AppendsFront, CountsFault}
use Rattle.run_model.specs.declared.status.Status.{Status}
use Rattle.run_model.specs.declared.start.Start.{Start}
use Rattle.input_source.specs.Tape.{Tape}
use Rattle.law_runs.proofs.Beginnings.{IsBeginning-same}
use Rattle.law_runs.proofs.Endings.{no_other_state_is_last}
use Rattle.run_model.proofs.Leads.{ToldLeads-refl, ToldLeads-to}
use Rattle.law_runs.proofs.RunsAppend.{each_state_is_a_beginning}

-- a beginning of a text was written
AppendsFront-beginning : (old new : Option (List ℕ)) (piece all : List ℕ) → Appends old new piece → IsBeginning piece all → AppendsFront old new all
AppendsFront-beginning old new piece all written begins = record { front = piece; back = begins.rest; split = begins.split; written = written }

-- what was written goes on from one beginning of a text and is a beginning of another
AppendsFront-between : (old new : Option (List ℕ)) (least most all : List ℕ) → AppendsBetween old new least most → IsBeginning most all → AppendsFront old new all
AppendsFront-between old new least most all between begins = record {
  front = least ++ between.front;
  back = between.back ++ begins.rest;
  split = begins.split ∙ rw between.split (simp append_assoc);
  written = between.written;
}

-- the run ended by itself, in the definition's last state
Gives-Completes : (l : Limits) (start : Start) (t left : Tape) (status : Status) (before now : Seen) → Completes l (record { start = start; tape = t }) left status before now → Gives l start t left status before now
Gives-Completes l start t left status before now run =
    let last : run.state ≡ last_state l start t = no_other_state_is_last l start t run.state run.reaches.comes (rw run.ended refl) in
    let text : Appends before.out.contents now.out.contents (output_of l start t) =
    subst (λ (s : State). Appends before.out.contents now.out.contents (output s)) last run.reaches.text in
    let messages : Appends before.err.contents now.err.contents (messages_of l start t) =
    subst (λ (s : State). Appends before.err.contents now.err.contents (reported s)) last run.reaches.messages in record {
      text = AppendsFront-beginning _ _ _ _ text (IsBeginning-same _);
      messages = λ well. AppendsFront-beginning _ _ _ _ messages (IsBeginning-same _);
      all = λ out_well err_well. record {
        text = text;
        messages = messages;
        ended = subst (λ (s : State). s.ended ≡ Some status) last run.ended;
        rest = subst (λ (s : State). IsRest status left s) last run.rest;
        fault = run.fault;
      };
    }

-- a count of one fault more rose
rises : (old new : ℕ) → CountsFault old new → Rises old new
rises old new counts = omega (arith, counts)

-- the output failed
Gives-OutputFails : (l : Limits) (start : Start) (t left : Tape) (status : Status) (before now : Seen) → OutputFails l (record { start = start; tape = t }) left status before now → Gives l start t left status before now
Gives-OutputFails l start t left status before now run =
    let s : State = run.state in
    let whole = each_state_is_a_beginning l start t (told_step l s) (ToldLeads-to l _ s _ run.stops.comes refl) in record {
      text = AppendsFront-between _ _ (output s) _ _ run.stops.text whole.text;
      messages = λ well. absurd (well (rises _ _ run.stops.fault));
      all = λ out_well err_well. absurd (out_well (rises _ _ run.stops.fault));
    }

-- the message sink failed
Gives-MessagesFail : (l : Limits) (start : Start) (t left : Tape) (status : Status) (before now : Seen) → MessagesFail l (record { start = start; tape = t }) left status before now → Gives l start t left status before now
Gives-MessagesFail l start t left status before now run =
    let s : State = run.state in
    let whole = each_state_is_a_beginning l start t (told_step l s) (ToldLeads-to l _ s _ run.comes refl) in record {
      text = AppendsFront-beginning _ _ (output s) _ run.text (each_state_is_a_beginning l start t s run.comes).text;
      messages = λ well. AppendsFront-between _ _ (reported s) _ _ run.messages whole.messages;
      all = λ out_well err_well. absurd (err_well (rises _ _ run.fault));
    }

-- the message sink failed before the first step
Gives-StartFails : (l : Limits) (start : Start) (t left : Tape) (status : Status) (before now : Seen) → StartFails l (record { start = start; tape = t }) left status before now → Gives l start t left status before now
Gives-StartFails l start t left status before now run =
    let first : State = initial l start t in
    let whole = each_state_is_a_beginning l start t first (ToldLeads-refl l first) in record {
      text = AppendsFront-beginning _ _ [] _ run.text (record { rest = output_of l start t; split = refl });
      messages = λ well. AppendsFront-between _ _ [] _ _ run.messages whole.messages;
      all = λ out_well err_well. absurd (err_well (rises _ _ run.fault));
    }

-- each outcome
pub each_outcome_gives : EachOutcomeGives
each_outcome_gives l start t left status before now (inl run) = Gives-Completes l start t left status before now run
each_outcome_gives l start t left status before now (inr (inl run)) = Gives-OutputFails l start t left status before now run
each_outcome_gives l start t left status before now (inr (inr (inl run))) = Gives-MessagesFail l start t left status before now run
each_outcome_gives l start t left status before now (inr (inr (inr run))) = Gives-StartFails l start t left status before now run
