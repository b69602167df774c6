-- Each outcome of a run of the code beside the last state of the definition.
use Rattle.std.proofs.Common.{◌≡◌, ◌∙◌, inl, inr, ℕ, List, ◌++◌, Option, Some, subst, append_assoc, arith}
use Rattle.std.specs.Io.KnownBytes.{Appends}
use Rattle.roff_num.specs.Faults.{Rises}
use Rattle.roff_num.specs.Lists.{IsBeginning}
use Rattle.page_bytes.specs.Devices.{AppendsBetween, Seen}
use Rattle.page_bytes.specs.Sinks.{AppendsFront, CountsFault}
use Rattle.run_model.specs.declared.status.Status.{Status}
use Rattle.input_source.specs.Tape.{Tape}
use Rattle.tbl_format.specs.declared.limits.TblLimits.{TblLimits}
use Rattle.tbl_run.proofs.Endings.{come-beginning, ended-last, has_status, step-beginning}
use Rattle.tbl_run.proofs.MessageLimit.{begins_itself}
use Rattle.tbl_run.specs.Outcome.{Completes, MessagesFail, OutputFails}
use Rattle.tbl_run.specs.Results.{EachOutcomeGives, Gives, tbl_last_state, tbl_messages_of, tbl_output_of}
use Rattle.tbl_run.specs.Run.{State, step}

-- a beginning of a text was written
front_of : (old new : Option (List ℕ)) (piece all : List ℕ) → Appends old new piece → IsBeginning piece all → AppendsFront old new all
front_of old new piece all written begins = record { front = piece; back = begins.rest; split = begins.split; written = written }

-- what was written goes on from one beginning of a text and is a beginning of another
front_between : (old new : Option (List ℕ)) (least most all : List ℕ) → AppendsBetween old new least most → IsBeginning most all → AppendsFront old new all
front_between old new least most all between begins = record {
  front = least ++ between.front;
  back = between.back ++ begins.rest;
  split = begins.split ∙ rw between.split (simp append_assoc);
  written = between.written;
}

-- a count of one fault more rose
rises : (old new : ℕ) → CountsFault old new → Rises old new
rises old new counts = omega (arith, counts)

module _ (l : TblLimits) (line_length : ℕ) (t left : Tape) (status : Status) (before now : Seen) where
  -- the run ended by itself, in the definition's last state
  completes_gives : Completes l line_length t left status before now → Gives l line_length t left status before now
  completes_gives run =
      let last : step l line_length run.state ≡ tbl_last_state l line_length t = ended-last l line_length t run.state run.comes
      (has_status _ status run.ended) in
      let text : Appends before.out.contents now.out.contents (tbl_output_of l line_length t) =
      subst (λ (s : State). Appends before.out.contents now.out.contents s.written.output) last run.text in
      let messages : Appends before.err.contents now.err.contents (tbl_messages_of l line_length t) =
      subst (λ (s : State). Appends before.err.contents now.err.contents s.written.messages) last run.messages in record {
        text = front_of _ _ _ _ text (begins_itself _);
        messages = λ well. front_of _ _ _ _ messages (begins_itself _);
        all = λ out_well err_well. record {
          text = text;
          messages = messages;
          ended = subst (λ (s : State). s.written.ended ≡ Some status) last run.ended;
          rest = subst (λ (s : State). left ≡ s.stage.tape) last run.rest;
          fault = run.fault;
        };
      }

  -- the output failed
  output_fails_gives : OutputFails l line_length t left status before now → Gives l line_length t left status before now
  output_fails_gives run =
      let whole = step-beginning l line_length t run.state run.comes in record {
        text = front_between _ _ run.state.written.output _ _ run.text whole.text;
        messages = λ well. absurd (well (rises _ _ run.fault));
        all = λ out_well err_well. absurd (out_well (rises _ _ run.fault));
      }

  -- the message sink failed
  messages_fail_gives : MessagesFail l line_length t left status before now → Gives l line_length t left status before now
  messages_fail_gives run =
      let whole = step-beginning l line_length t run.state run.comes in record {
        text = front_of _ _ run.state.written.output _ run.text (come-beginning l line_length t run.state run.comes).text;
        messages = λ well. front_between _ _ run.state.written.messages _ _ run.messages whole.messages;
        all = λ out_well err_well. absurd (err_well (rises _ _ run.fault));
      }

pub each_outcome_gives : EachOutcomeGives
each_outcome_gives l line_length t left status before now (inl run) = completes_gives l line_length t left status before now run
each_outcome_gives l line_length t left status before now (inr (inl run)) = output_fails_gives l line_length t left status before now run
each_outcome_gives l line_length t left status before now (inr (inr run)) = messages_fail_gives l line_length t left status before now run
