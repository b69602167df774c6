-- What a state keeps behind what was read of an item, and behind the end of a phase.
--
-- Each function f of the run has its lemma Behind-f or Passed-f here.
use Rattle.std.proofs.Common.{◌≡◌, ℕ, ◌+◌, ◌*◌, Bool, true, false, List, ◌∷◌, ◌-◌, refl, arith, if◌then◌else◌, ◌==◌}
use Rattle.input_model.specs.Input.{Ahead, ByteAhead, FreeAhead, EndAhead, ReturnAhead, DoAhead}
use Rattle.input_escapes.specs.OpenEscape.{OpenEscape}
use Rattle.run_model.specs.Requests.{PageEvent}
use Rattle.run_model.specs.declared.request.Called.{Called}
use Rattle.run_model.specs.declared.request.Called.TheVariants.{Request as ARequest, Body as ABody, Nothing as Unknown}
use Rattle.roff_num.specs.ShortNames.{name_bytes}
use Rattle.input_model.specs.Input.Calls.{called_text}
use Rattle.input_model.specs.Input.Names.{body_named}
use Rattle.input_model.proofs.FewEvents.{few-called, few-more}
use Rattle.run_model.specs.Reading.Returns.{back_of, behind_return, gone_back_to, line_of}
use Rattle.run_model.specs.declared.line_state.LineState.{LineState}
use Rattle.run_model.specs.declared.line_state.LineState.TheVariants.{LineStart, Branch, Braced, Text as InText, Control, Name, Deciding, Skipping, Dropped, Told, Exiting, TitleFront, Title as InTitle, Collecting}
use Rattle.run_model.specs.Run.{State, known, byte_taken, escape_ends, ahead_taken, phase_ended, sprung_read}
use Rattle.run_model.specs.declared.phase.Phase.{Phase}
use Rattle.run_model.specs.declared.phase.Phase.TheVariants.{Reading, LastMacro, Closing}
use Rattle.run_model.specs.TurnsToCome.{begun, endings_of}
use Rattle.run_model.proofs.KeepingText.{Keeps, free_ahead-called}
use Rattle.run_model.proofs.KeepingNames.{KeepsTwoMore-same}
use Rattle.run_model.proofs.Keeping.{Keeps-taking, Keeps-interrupted, Keeps-escape_ended, Keeps-end_taking, Keeps-last_called}
use Rattle.run_model.proofs.Readings.{line_ends}

-- a state behind what was read of an item: the input is changed by reading alone, and what isn't read stays
pub record Behind (most : ℕ) (s t : State) : Type 0 where
  pub input : Keeps most s.input t.input t.reading
  pub tape : t.tape ≡ s.tape
  pub history : t.history ≡ s.history
  pub phase : t.phase ≡ s.phase
  pub is_closed : t.is_closed ≡ s.is_closed
  pub ended : t.ended ≡ s.ended
  pub last_message : t.last_message ≡ s.last_message

-- one of the same input, where the same is read
Behind-same : (s t : State) → t.input ≡ s.input → t.reading ≡ s.reading → t.tape ≡ s.tape → t.history ≡ s.history → t.phase ≡ s.phase
    → t.is_closed ≡ s.is_closed → t.ended ≡ s.ended → t.last_message ≡ s.last_message → Behind (2 * endings_of s.input.escapes + begun s.reading) s t
Behind-same s t input reading tape history phase is_closed ended last_message = record {
  input = rw (input, reading) (record { charge = refl; newlines = refl; line = refl; free = refl; few = λ room within few. few; escapes = omega arith });
  tape = tape;
  history = history;
  phase = phase;
  is_closed = is_closed;
  ended = ended;
  last_message = last_message;
}

-- a byte
pub Behind-byte_taken : (b : ℕ) (s : State) → Behind (2 * endings_of s.input.escapes + begun s.reading + 4) s (byte_taken b s)
Behind-byte_taken b s = record {
  input = Keeps-taking (known s) s.reading s.input b;
  tape = refl;
  history = refl;
  phase = refl;
  is_closed = refl;
  ended = refl;
  last_message = refl;
}

-- what is gone back to begins no turn
begun-gone_back_to : (back : ℕ) → begun (gone_back_to back) ≡ 0
begun-gone_back_to back = by_kind (back == 0) (back == 1) (back == 2)
  where
    by_kind : (start branch braced : Bool) → begun (if start then LineStart else if branch then Branch else if braced then Braced else InText (line_of (back - 3))) ≡ 0
    by_kind true branch braced = refl
    by_kind false true braced = refl
    by_kind false false true = refl
    by_kind false false false = refl

-- so no turn more is begun behind the end of a body
pub begun-behind_return : (back : ℕ) (reading : LineState) → begun (behind_return back reading) ≡ begun reading
begun-behind_return back LineStart = begun-gone_back_to back
begun-behind_return back Branch = begun-gone_back_to back
begun-behind_return back Braced = begun-gone_back_to back
begun-behind_return back (InText line) = begun-gone_back_to back
begun-behind_return back (Control breaks) = refl
begun-behind_return back (Name breaks first) = refl
begun-behind_return back (Collecting purpose) = refl
begun-behind_return back (Deciding keeps) = refl
begun-behind_return back (Skipping opened closed behind) = refl
begun-behind_return back Dropped = refl
begun-behind_return back (Told aborts) = refl
begun-behind_return back Exiting = refl
begun-behind_return back TitleFront = refl
begun-behind_return back (InTitle delimiter) = refl

-- a macro that sprang
pub Behind-sprung_read : (called : Called) (s : State) → Behind (2 * endings_of s.input.escapes + begun s.reading) s (sprung_read called s)
Behind-sprung_read (ABody name) s = record {
  input = record {
    charge = refl;
    newlines = refl;
    line = refl;
    free = free_ahead-called (called_text (body_named (name_bytes name) s.input)) (back_of s.reading) s.input.ahead;
    few = λ room within few. few-called room (called_text (body_named (name_bytes name) s.input)) (back_of s.reading) s.input.ahead (few-more room 5 s.input.ahead within few);
    escapes = omega (arith, begun-behind_return 0 s.reading);
  };
  tape = refl;
  history = refl;
  phase = refl;
  is_closed = refl;
  ended = refl;
  last_message = refl;
}
Behind-sprung_read (ARequest request) s = Behind-same s (sprung_read (ARequest request) s) refl refl refl refl refl refl refl refl
Behind-sprung_read Unknown s = Behind-same s (sprung_read Unknown s) refl refl refl refl refl refl refl refl

-- an item ahead of the source
pub Behind-ahead_taken : (item : Ahead PageEvent) (s : State) → Behind (2 * endings_of s.input.escapes + begun s.reading + 4) s (ahead_taken item s)
Behind-ahead_taken (ByteAhead b) s = Behind-byte_taken b s
Behind-ahead_taken (FreeAhead b) s = Behind-byte_taken b s
Behind-ahead_taken EndAhead s =
    record { input = KeepsTwoMore-same s.input s.reading; tape = refl; history = refl; phase = refl; is_closed = refl; ended = refl; last_message = refl }
Behind-ahead_taken (ReturnAhead back) s = record {
  input = record { charge = refl; newlines = refl; line = refl; free = refl; few = λ room within few. few; escapes = omega (arith, begun-behind_return back s.reading) };
  tape = refl;
  history = refl;
  phase = refl;
  is_closed = refl;
  ended = refl;
  last_message = refl;
}
Behind-ahead_taken (DoAhead event) s =
    record { input = Keeps-interrupted s.reading s.input; tape = refl; history = refl; phase = refl; is_closed = refl; ended = refl; last_message = refl }

-- what is half read
pub Behind-escape_ends : (s : State) (first : OpenEscape) (others : List OpenEscape) → s.input.escapes ≡ first ∷ others → Behind (2 * endings_of s.input.escapes + begun s.reading - 1) s (escape_ends s)
Behind-escape_ends s first others is = record {
  input = Keeps-escape_ended (known s) s.reading s.input first others is;
  tape = refl;
  history = refl;
  phase = refl;
  is_closed = refl;
  ended = refl;
  last_message = refl;
}

-- an unfinished line that ends with the input
pub Behind-line_ends : (s : State) → Behind (2 * endings_of s.input.escapes + begun s.reading + 4) s (line_ends s)
Behind-line_ends s = record {
  input = Keeps-end_taking (known s) s.reading s.input;
  tape = refl;
  history = refl;
  phase = refl;
  is_closed = refl;
  ended = refl;
  last_message = refl;
}

-- a state behind the end of a phase
pub record Passed (s t : State) : Type 0 where
  pub input : Keeps (2 * endings_of s.input.escapes + begun s.reading) s.input t.input t.reading
  pub tape : t.tape ≡ s.tape
  pub history : t.history ≡ s.history
  pub is_closed : t.is_closed ≡ s.is_closed
  pub last_message : t.last_message ≡ s.last_message

pub Passed-phase_ended : (phase : Phase) (s : State) → Passed s (phase_ended phase s)
Passed-phase_ended Reading s =
    let keeps = Keeps-last_called s.registers.last_macro s.input in record {
      input = record { charge = keeps.charge; newlines = keeps.newlines; line = keeps.line; free = keeps.free; few = keeps.few; escapes = omega (arith, keeps.escapes) };
      tape = refl;
      history = refl;
      is_closed = refl;
      last_message = refl;
    }
Passed-phase_ended LastMacro s = record {
  input = record { charge = refl; newlines = refl; line = refl; free = refl; few = λ room within few. few; escapes = omega arith };
  tape = refl;
  history = refl;
  is_closed = refl;
  last_message = refl;
}
Passed-phase_ended Closing s = record {
  input = record { charge = refl; newlines = refl; line = refl; free = refl; few = λ room within few. few; escapes = omega arith };
  tape = refl;
  history = refl;
  is_closed = refl;
  last_message = refl;
}
