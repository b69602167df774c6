-- Arguments written in quotes, as a request gets them (manual, section 7.3).
use Rattle.std.specs.Prelude.{◌≡◌, ℕ, Bool, List, [], ◌∷◌, ◌++◌, All}
use Rattle.input_model.specs.Arguments.{no_arguments, kept}
use Rattle.input_source.specs.Bytes.{newline}
use Rattle.input_arguments.specs.Quoting.{quoted_line}
use Rattle.law_reading.specs.InterpolationLaws.{StandsForItself}
use Rattle.run_model.specs.Reading.{byte_taking}
use Rattle.run_model.specs.Reading.Arguments.{ended_by}
use Rattle.run_model.specs.Reading.Definitions.{lines_begun}
use Rattle.run_model.specs.Reading.Items.{PageInput, Taking, going_on}
use Rattle.run_model.specs.Registers.{Known}
use Rattle.run_model.specs.Requests.{Effect, request_effect, row_of}
use Rattle.run_model.specs.declared.request.LineReading.{LineReading}
use Rattle.run_model.specs.declared.request.LineReading.TheVariants.{ByLines}
use Rattle.run_model.specs.declared.line_state.LineState.{LineState}
use Rattle.run_model.specs.declared.line_state.LineState.TheVariants.{Collecting}
use Rattle.run_model.specs.declared.purpose.Purpose.TheVariants.{Arguments as InArguments}
use Rattle.run_model.specs.declared.request.Request.{Request}

-- what two effects mean together, one after the other
abbrev pub both : Effect → Effect → Effect
both first second = record {
  messages = first.messages ++ second.messages;
  changes = first.changes ++ second.changes;
  calls = first.calls ++ second.calls;
  events = first.events ++ second.events;
}

-- what several bytes do, one after another: the input and what is read behind them, and what they mean together
abbrev pub taking_all : Known → LineState → PageInput → List ℕ → Taking
taking_all k reading i [] = going_on i reading
taking_all k reading i (b ∷ bytes) =
    let t : Taking = byte_taking k reading i b in
    let others : Taking = taking_all k t.reading t.input bytes in record {
      input = others.input;
      reading = others.reading;
      effect = both t.effect others.effect;
    }

-- what the end of a request's line does that gave it these arguments, by how the line is read: it is obeyed, or lines are
-- defined or ignored from there on
abbrev pub given_taking : Known → Bool → Request → PageInput → LineReading → List (List ℕ) → Taking
given_taking k breaks request i (ByLines lines) as_given = lines_begun i lines as_given
given_taking k breaks request i (_) as_given = ended_by i request (request_effect k breaks request as_given)

-- Behind a request's name the line of some arguments in quotes does what the request does with those of them that are
-- kept, and none is held behind it.
abbrev pub RequestsGetQuotedArguments : Type 0
RequestsGetQuotedArguments =
    (k : Known) (breaks : Bool) (request : Request) (i : PageInput) (arguments : List (List ℕ)) →
    i.escapes ≡ [] → i.arguments ≡ no_arguments → All (All StandsForItself) arguments →
    taking_all k (Collecting (InArguments breaks request)) i (quoted_line arguments ++ newline ∷ [])
    ≡ given_taking k breaks request i (row_of request).line (kept arguments)
