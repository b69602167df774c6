-- Laws of the other branch of a condition, and of the results that are kept for it (manual, section 16).
use Rattle.std.specs.Prelude.{◌≡◌, ℕ, ◌+◌, ◌≤◌, Bool, false, not, List, [], ◌∷◌, ◌++◌, drop, length, map, All}
use Rattle.roff_num.specs.declared.limits.Limits.{Limits}
use Rattle.roff_num.specs.declared.short_name.ShortName.{ShortName}
use Rattle.roff_num.specs.ShortNames.{name_bytes}
use Rattle.input_source.specs.Bytes.{blank}
use Rattle.input_source.specs.Tape.{Tape, OneByte, items_then}
use Rattle.roff_store.specs.Named.{Named}
use Rattle.roff_store.specs.Texts.{Entry}
use Rattle.input_model.specs.Input.{Ahead, ByteAhead, lines_taken}
use Rattle.law_reading.specs.CallLaws.{BeginsLine, IsControl}
use Rattle.run_model.specs.Reading.Branches.{branch_of}
use Rattle.run_model.specs.Reading.ControlLines.{BelongsToName}
use Rattle.run_model.specs.Reading.Items.{PageInput}
use Rattle.run_model.specs.Requests.{called_by, row_of}
use Rattle.run_model.specs.Run.{State, after}
use Rattle.run_model.specs.Within.{IsWithin}
use Rattle.run_model.specs.PageEvents.{PageEvent}
use Rattle.run_model.specs.declared.request.Called.TheVariants.{Request as ARequest}
use Rattle.run_model.specs.declared.request.LineReading.TheVariants.{ByElse}
use Rattle.run_model.specs.declared.request.Request.{Request}

-- the front of a line that has the other branch, up to the blank behind its name
abbrev pub else_front : ℕ → ShortName → List ℕ
else_front control name = control ∷ name_bytes name ++ blank ∷ []

-- a line has the other branch: its name stands for the request that reads it
pub record HasElse (names : Named Entry) (control : ℕ) (name : ShortName) : Type 0 where
  pub begins : IsControl control
  pub is_name : All BelongsToName (name_bytes name)
  pub of_request : Request
  pub stands_for : called_by name names ≡ ARequest of_request
  pub reads_branch : (row_of of_request).line ≡ ByElse

-- whether the other branch is read, by the results that are kept, the newest first: that was that the condition isn't so
abbrev pub is_other_read : List (Bool × ℕ) → Bool
is_other_read results = elim results [ [] ↦ false | result ∷ others ↦ not result.0 ]

-- The other branch takes the newest result that is kept, which is kept no more: it is read from its beginning where that was that
-- the condition isn't so, and else it is skipped, also where none is kept.
abbrev pub ElseTakesTheNewestResult : Type 0
ElseTakesTheNewestResult =
    (l : Limits) (s : State) (control : ℕ) (name : ShortName) (rest : List (Ahead PageEvent)) →
    BeginsLine s → HasElse s.input.names control name → s.input.ahead ≡ map ByteAhead (else_front control name) ++ rest →
    IsWithin l s → s.input.charge + length (else_front control name) ≤ l.bytes →
    after l (length (else_front control name)) s
    ≡ record s {
      input = record s.input {
        ahead = rest;
        charge = s.input.charge + length (else_front control name);
        results = drop 1 s.input.results;
      };
      reading = branch_of (is_other_read s.input.results);
    }

-- and so it is where the line stands in the source itself, with nothing ahead of it
abbrev pub ElseOfTheSourceTakesTheNewestResult : Type 0
ElseOfTheSourceTakesTheNewestResult =
    (l : Limits) (s : State) (control : ℕ) (name : ShortName) (tape : Tape) →
    BeginsLine s → HasElse s.input.names control name → s.input.ahead ≡ [] →
    s.tape ≡ items_then (map OneByte (else_front control name)) tape →
    IsWithin l s → s.input.charge + length (else_front control name) ≤ l.bytes →
    let behind : PageInput = lines_taken (else_front control name) s.input in
    after l (length (else_front control name)) s
    ≡ record s {
      tape = tape;
      input = record behind { results = drop 1 behind.results };
      reading = branch_of (is_other_read s.input.results);
    }
