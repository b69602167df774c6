-- Laws of the lines that set strings, or append to them, with escapes in their texts (manual, sections 7 and 8).
use Rattle.std.specs.Prelude.{◌≡◌, ℕ, ◌+◌, ◌≤◌, Bool, true, false, List, [], ◌++◌, length, map, All}
use Rattle.roff_num.specs.declared.limits.Limits.{Limits}
use Rattle.roff_num.specs.declared.short_name.ShortName.{ShortName}
use Rattle.roff_num.specs.ShortNames.{name_bytes}
use Rattle.input_source.specs.Tape.{Tape, OneByte, items_then}
use Rattle.roff_store.specs.Named.{Named}
use Rattle.roff_store.specs.Texts.{Entry}
use Rattle.input_escapes.specs.EscapeLaws.{copied}
use Rattle.input_model.specs.Input.{Ahead, ByteAhead, lines_taken}
use Rattle.input_model.specs.Input.Names.{stored}
use Rattle.law_escapes.specs.Parts.{AreParts, IsCopiedPart, Part, bytes_of, cost_of_texts, registers_behind, rewritten}
use Rattle.law_escapes.specs.TextsInCalls.{HasRoomForTexts}
use Rattle.law_reading.specs.CallLaws.{BeginsLine, IsControl}
use Rattle.law_reading.specs.DefinitionLaws.{with_definition}
use Rattle.law_reading.specs.StringLaws.{HasRoomForOne, IsOfWord, may_stand, string_line}
use Rattle.run_model.specs.Reading.ControlLines.{BelongsToName}
use Rattle.run_model.specs.Reading.Items.{PageInput}
use Rattle.run_model.specs.Registers.{Known}
use Rattle.run_model.specs.Requests.{called_by, row_of}
use Rattle.run_model.specs.Run.{State, after, known}
use Rattle.run_model.specs.Within.{IsWithin}
use Rattle.run_model.specs.PageEvents.{PageEvent}
use Rattle.run_model.specs.declared.request.Called.TheVariants.{Request as ARequest}
use Rattle.run_model.specs.declared.request.LineReading.TheVariants.{ByString}
use Rattle.run_model.specs.declared.request.Request.{Request}

-- a line sets a string, or puts a text behind one: its request does, where names stand for these, and the parts of the text are
-- copied, or are escapes whose texts are
pub record SetsTexts (names : Named Entry) (control : ℕ) (request : ShortName) (appends : Bool) (name : ShortName) (quoted : Bool)
    (k : Known) (i : PageInput) (text : List Part) : Type 0 where
  pub begins : IsControl control
  pub is_name_of_request : All BelongsToName (name_bytes request)
  pub of_request : Request
  pub stands_for : called_by request names ≡ ARequest of_request
  pub reads_string : (row_of of_request).line ≡ ByString appends
  pub is_name : All IsOfWord (name_bytes name)
  pub parts : AreParts false IsCopiedPart k i text
  pub stands : may_stand quoted (copied (rewritten k i text)) ≡ true

-- The string is the rest of the line as it is copied, with the text of each escape in its place, without the blanks in front of
-- it and one quote there, or that is put behind the string. Each byte of the line and of the texts is a step, and costs one; so
-- does each text's end.
abbrev pub StringsAreTheTextsRead : Type 0
StringsAreTheTextsRead =
    (l : Limits) (s : State) (control : ℕ) (request : ShortName) (appends : Bool) (name : ShortName) (blanks : ℕ) (quoted : Bool)
    (parts : List Part) (rest : List (Ahead PageEvent)) →
    BeginsLine s → SetsTexts s.input.names control request appends name quoted (known s) s.input parts →
    let line : List ℕ = string_line control request name blanks quoted (bytes_of parts) in
    let read : List ℕ = rewritten (known s) s.input parts in
    let cost : ℕ = length line + cost_of_texts (known s) s.input parts in
    s.input.ahead ≡ map ByteAhead line ++ rest →
    let behind : PageInput = record s.input { ahead = rest; charge = s.input.charge + cost } in
    let set : State =
    record s {
      registers = registers_behind s.registers parts;
      input = with_definition name appends (copied read) s.input.open_texts behind;
    } in
    stored s.input + length (copied read) ≤ l.store → HasRoomForOne l s name → HasRoomForTexts l s read → IsWithin l s →
    IsWithin l set → after l cost s ≡ set

-- and so it is where the line stands in the source itself, with nothing ahead of it
abbrev pub StringsOfTheSourceAreTheTextsRead : Type 0
StringsOfTheSourceAreTheTextsRead =
    (l : Limits) (s : State) (control : ℕ) (request : ShortName) (appends : Bool) (name : ShortName) (blanks : ℕ) (quoted : Bool)
    (parts : List Part) (tape : Tape) →
    BeginsLine s → SetsTexts s.input.names control request appends name quoted (known s) s.input parts → s.input.ahead ≡ [] →
    let line : List ℕ = string_line control request name blanks quoted (bytes_of parts) in
    let read : List ℕ = rewritten (known s) s.input parts in
    let cost : ℕ = length line + cost_of_texts (known s) s.input parts in
    s.tape ≡ items_then (map OneByte line) tape →
    let behind : PageInput = record (lines_taken line s.input) { charge = s.input.charge + cost } in
    let set : State =
    record s {
      tape = tape;
      registers = registers_behind s.registers parts;
      input = with_definition name appends (copied read) s.input.open_texts behind;
    } in
    stored s.input + length (copied read) ≤ l.store → HasRoomForOne l s name → HasRoomForTexts l s read → IsWithin l s →
    IsWithin l set → after l cost s ≡ set
