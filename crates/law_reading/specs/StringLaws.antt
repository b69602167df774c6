-- Laws of the lines that set strings, or append to them (manual, section 7).
use Rattle.std.specs.Prelude.{◌≡◌, ℕ, ◌+◌, ◌≤◌, Bool, true, false, List, [], ◌∷◌, ◌++◌, length, map, replicate, All, IsTrue, ◌||◌, not, if◌then◌else◌, ◌==◌}
use Rattle.roff_num.specs.declared.limits.Limits.{Limits}
use Rattle.roff_num.specs.declared.short_name.ShortName.{ShortName}
use Rattle.roff_num.specs.ShortNames.{name_bytes}
use Rattle.input_source.specs.Bytes.{backslash, blank, is_dropped, newline, quote}
use Rattle.input_source.specs.Tape.{Tape, OneByte, items_then}
use Rattle.roff_store.specs.Named.{Named}
use Rattle.roff_store.specs.Texts.{Entry}
use Rattle.input_escapes.specs.EscapeLaws.{copied, is_only_copied}
use Rattle.input_model.specs.Input.{Ahead, ByteAhead, lines_taken, pushed}
use Rattle.law_reading.specs.CallLaws.{BeginsLine, IsControl}
use Rattle.law_reading.specs.ConditionLaws.{is_whole}
use Rattle.law_reading.specs.DefinitionLaws.{HasRoomFor, IsOfLine, with_definition}
use Rattle.run_model.specs.Reading.ControlLines.{BelongsToName}
use Rattle.run_model.specs.Reading.Items.{PageInput}
use Rattle.run_model.specs.Requests.{called_by, row_of}
use Rattle.run_model.specs.Run.{State, after}
use Rattle.run_model.specs.Within.{IsWithin}
use Rattle.run_model.specs.PageEvents.{PageEvent}
use Rattle.run_model.specs.declared.request.Called.TheVariants.{Request as ARequest}
use Rattle.run_model.specs.declared.request.LineReading.TheVariants.{ByString}
use Rattle.run_model.specs.declared.request.Request.{Request}

-- a byte of a word: it stands for itself, and neither separates nor quotes
abbrev pub IsOfWord : ℕ → Type 0
IsOfWord b = IsTrue (not (b == blank || (b == quote || (b == backslash || (is_dropped b || b == newline)))))

-- the line of a request that sets a string of this name: behind the name stand a blank, so many more, and perhaps one quote, and
-- then the text
abbrev pub string_line : ℕ → ShortName → ShortName → ℕ → Bool → List ℕ → List ℕ
string_line control request name blanks quoted text =
    ((control ∷ name_bytes request) ++ ((blank ∷ name_bytes name) ++ (blank ∷ replicate blanks blank))) ++ (if quoted then quote ∷ text else text)
    ++ newline ∷ []

-- whether a text may stand behind those blanks: behind a quote any may, and else one that, as it is copied, begins with neither a
-- blank nor a quote
abbrev pub may_stand : Bool → List ℕ → Bool
may_stand true text = true
may_stand false [] = true
may_stand false (b ∷ text) = not (b == blank || b == quote)

-- a line sets a string, or puts a text behind one: its request does, where names stand for these, and the text has neither
-- interpolations nor comments, and no backslash that belongs to the newline
pub record SetsString (names : Named Entry) (control : ℕ) (request : ShortName) (appends : Bool) (name : ShortName) (quoted : Bool)
    (text : List ℕ) : Type 0 where
  pub begins : IsControl control
  pub is_name_of_request : All BelongsToName (name_bytes request)
  pub of_request : Request
  pub stands_for : called_by request names ≡ ARequest of_request
  pub reads_string : (row_of of_request).line ≡ ByString appends
  pub is_name : All IsOfWord (name_bytes name)
  pub bytes : All IsOfLine text
  pub only_copied : is_only_copied text ≡ true
  pub whole : is_whole text ≡ true
  pub stands : may_stand quoted (copied text) ≡ true

-- the limits have room for one more text in the making, and, as the name is read, for its bytes
pub record HasRoomForOne (l : Limits) (s : State) (name : ShortName) : Type 0 where
  pub making : length s.input.open_texts ≤ l.diversions
  pub named : pushed s.input + length (name_bytes name) ≤ l.stack

-- The string is the rest of the line as it is copied, without the blanks in front of it and one quote there, or that is put behind
-- the string. So many steps lead there as the line has bytes, each costs one, and behind it a line begins.
abbrev pub StringsAreTheRestsOfTheirLines : Type 0
StringsAreTheRestsOfTheirLines =
    (l : Limits) (s : State) (control : ℕ) (request : ShortName) (appends : Bool) (name : ShortName) (blanks : ℕ) (quoted : Bool)
    (text : List ℕ) (rest : List (Ahead PageEvent)) →
    BeginsLine s → SetsString s.input.names control request appends name quoted text →
    let line : List ℕ = string_line control request name blanks quoted text in
    s.input.ahead ≡ map ByteAhead line ++ rest →
    let behind : PageInput = record s.input { ahead = rest; charge = s.input.charge + length line } in
    let set : State = record s { input = with_definition name appends (copied text) s.input.open_texts behind } in
    HasRoomFor l s line (copied text) → HasRoomForOne l s name → IsWithin l s → IsWithin l set →
    after l (length line) s ≡ set

-- and so it is where the line stands in the source itself, with nothing ahead of it
abbrev pub StringsOfTheSourceAreTheRestsOfTheirLines : Type 0
StringsOfTheSourceAreTheRestsOfTheirLines =
    (l : Limits) (s : State) (control : ℕ) (request : ShortName) (appends : Bool) (name : ShortName) (blanks : ℕ) (quoted : Bool)
    (text : List ℕ) (tape : Tape) →
    BeginsLine s → SetsString s.input.names control request appends name quoted text → s.input.ahead ≡ [] →
    let line : List ℕ = string_line control request name blanks quoted text in
    s.tape ≡ items_then (map OneByte line) tape →
    let set : State = record s { tape = tape; input = with_definition name appends (copied text) s.input.open_texts (lines_taken line s.input) } in
    HasRoomFor l s line (copied text) → HasRoomForOne l s name → IsWithin l s → IsWithin l set →
    after l (length line) s ≡ set
