-- Laws of lines that tell a message with escapes in it (manual, sections 8 and 20).
use Rattle.std.specs.Prelude.{◌≡◌, ℕ, ◌+◌, ◌≤◌, Bool, true, false, List, [], ◌++◌, length, map, All, Some}
use Rattle.roff_num.specs.declared.limits.Limits.{Limits}
use Rattle.roff_num.specs.declared.short_name.ShortName.{ShortName}
use Rattle.roff_num.specs.ShortNames.{name_bytes}
use Rattle.roff_store.specs.Named.{Named}
use Rattle.roff_store.specs.Texts.{Entry}
use Rattle.input_source.specs.Tape.{Tape, OneByte, items_then}
use Rattle.input_escapes.specs.EscapeLaws.{copied}
use Rattle.input_model.specs.Input.{Ahead, ByteAhead, lines_taken}
use Rattle.law_escapes.specs.Parts.{AreParts, IsCopiedPart, Part, bytes_of, cost_of_texts, registers_behind, rewritten}
use Rattle.law_escapes.specs.TextsInCalls.{HasRoomForTexts}
use Rattle.law_reading.specs.CallLaws.{BeginsLine, IsControl}
use Rattle.input_source.specs.Bytes.{behind_blanks}
use Rattle.law_reading.specs.WordCalls.{call_with}
use Rattle.run_model.specs.Messages.{told_line}
use Rattle.run_model.specs.Reading.ControlLines.{BelongsToName}
use Rattle.run_model.specs.Reading.Items.{PageInput}
use Rattle.run_model.specs.Requests.{called_by, row_of}
use Rattle.run_model.specs.Run.{State, after, known}
use Rattle.run_model.specs.Within.{IsWithin}
use Rattle.run_model.specs.PageEvents.{PageEvent}
use Rattle.run_model.specs.declared.request.Called.TheVariants.{Request as ARequest}
use Rattle.run_model.specs.declared.request.LineReading.TheVariants.{ByMessage}
use Rattle.run_model.specs.declared.request.Request.{Request}
use Rattle.run_model.specs.declared.status.Status.TheVariants.{Aborted}

-- a line tells a message, one that ends the run or another one: its name stands for a request that does so
pub record ReadsMessage (aborts : Bool) (names : Named Entry) (control : ℕ) (name : ShortName) : Type 0 where
  pub begins : IsControl control
  pub is_name : All BelongsToName (name_bytes name)
  pub of_request : Request
  pub stands_for : called_by name names ≡ ARequest of_request
  pub reads_message : (row_of of_request).line ≡ ByMessage aborts

-- A message tells what is read as it is copied, each escape as its text. Each byte of the line and of those texts is a step, and
-- costs one; so does each text's end, and telling is a step of its own.
abbrev pub MessagesTellTheTextsRead : Type 0
MessagesTellTheTextsRead =
    (l : Limits) (s : State) (control : ℕ) (name : ShortName) (parts : List Part) (rest : List (Ahead PageEvent)) →
    BeginsLine s → ReadsMessage false s.input.names control name → AreParts false IsCopiedPart (known s) s.input parts →
    let line : List ℕ = call_with control name (bytes_of parts) in
    let read : List ℕ = rewritten (known s) s.input parts in
    let cost : ℕ = length line + cost_of_texts (known s) s.input parts in
    s.input.ahead ≡ map ByteAhead line ++ rest →
    let told : State =
    record s {
      registers = registers_behind s.registers parts;
      input = record s.input { ahead = rest; charge = s.input.charge + cost };
      messages = s.messages ++ told_line false (behind_blanks (copied read));
    } in
    HasRoomForTexts l s read → IsWithin l s → IsWithin l told → after l (cost + 1) s ≡ told

-- and so it is where the line stands in the source itself, with nothing ahead of it
abbrev pub MessagesOfTheSourceTellTheTextsRead : Type 0
MessagesOfTheSourceTellTheTextsRead =
    (l : Limits) (s : State) (control : ℕ) (name : ShortName) (parts : List Part) (tape : Tape) →
    BeginsLine s → ReadsMessage false s.input.names control name → AreParts false IsCopiedPart (known s) s.input parts →
    s.input.ahead ≡ [] →
    let line : List ℕ = call_with control name (bytes_of parts) in
    let read : List ℕ = rewritten (known s) s.input parts in
    let cost : ℕ = length line + cost_of_texts (known s) s.input parts in
    s.tape ≡ items_then (map OneByte line) tape →
    let behind : PageInput = record (lines_taken line s.input) { charge = s.input.charge + cost } in
    let told : State =
    record s {
      tape = tape;
      registers = registers_behind s.registers parts;
      input = behind;
      messages = s.messages ++ told_line false (behind_blanks (copied read));
    } in
    HasRoomForTexts l s read → IsWithin l s → IsWithin l told → after l (cost + 1) s ≡ told

-- a run ended by a message of this text, which it tells last: so much was taken, and nothing else happened
pub record EndsBy (s : State) (text : List ℕ) (cost : ℕ) (t : State) : Type 0 where
  pub ended : t.ended ≡ Some Aborted
  pub told_last : t.last_message ≡ told_line true text
  pub told_before : t.messages ≡ s.messages
  pub happened : t.history ≡ s.history
  pub taken : t.input.charge ≡ s.input.charge + cost

-- a message that ends the run does so with what is read as it is copied, and at the same cost
abbrev pub RunsEndWithTheTextsRead : Type 0
RunsEndWithTheTextsRead =
    (l : Limits) (s : State) (control : ℕ) (name : ShortName) (parts : List Part) (rest : List (Ahead PageEvent)) →
    BeginsLine s → ReadsMessage true s.input.names control name → AreParts false IsCopiedPart (known s) s.input parts →
    let line : List ℕ = call_with control name (bytes_of parts) in
    let read : List ℕ = rewritten (known s) s.input parts in
    let cost : ℕ = length line + cost_of_texts (known s) s.input parts in
    s.input.ahead ≡ map ByteAhead line ++ rest → s.input.charge + cost ≤ l.bytes → HasRoomForTexts l s read → IsWithin l s →
    EndsBy s (behind_blanks (copied read)) cost (after l (cost + 1) s) × ((after l (cost + 1) s).input.ahead ≡ rest)

-- and so it is where the line stands in the source itself, with nothing ahead of it
abbrev pub RunsEndWithTheTextsOfTheSource : Type 0
RunsEndWithTheTextsOfTheSource =
    (l : Limits) (s : State) (control : ℕ) (name : ShortName) (parts : List Part) (tape : Tape) →
    BeginsLine s → ReadsMessage true s.input.names control name → AreParts false IsCopiedPart (known s) s.input parts →
    s.input.ahead ≡ [] →
    let line : List ℕ = call_with control name (bytes_of parts) in
    let read : List ℕ = rewritten (known s) s.input parts in
    let cost : ℕ = length line + cost_of_texts (known s) s.input parts in
    s.tape ≡ items_then (map OneByte line) tape → s.input.charge + cost ≤ l.bytes → HasRoomForTexts l s read → IsWithin l s →
    EndsBy s (behind_blanks (copied read)) cost (after l (cost + 1) s) × ((after l (cost + 1) s).tape ≡ tape)
