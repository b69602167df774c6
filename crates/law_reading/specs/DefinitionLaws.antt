-- Laws of what the lines of a definition enter, and of what is read behind them (manual, sections 7.1 and 20).
use Rattle.std.specs.Prelude.{◌≡◌, ℕ, ◌+◌, ◌≤◌, Bool, true, false, List, [], ◌∷◌, ◌++◌, length, map, All, IsTrue, Option, Some, None, ◌||◌, not, if◌then◌else◌, ◌==◌}
use Rattle.std.specs.List.{flat_map}
use Rattle.roff_num.specs.declared.limits.Limits.{Limits}
use Rattle.input_source.specs.Bytes.{is_dropped, newline}
use Rattle.input_escapes.specs.EscapeLaws.{copied, is_only_copied}
use Rattle.input_model.specs.Input.{Ahead, ByteAhead, lines_taken}
use Rattle.input_model.specs.Input.Names.{body_named, stored}
use Rattle.input_source.specs.Tape.{Tape, OneByte, items_then}
use Rattle.roff_store.specs.Named.{with_entry}
use Rattle.roff_store.specs.Texts.{Body}
use Rattle.law_reading.specs.ConditionLaws.{is_whole}
use Rattle.run_model.specs.Definitions.{end_mark, ends_mark}
use Rattle.law_reading.specs.InterpolationLaws.{StandsForItself}
use Rattle.run_model.specs.ItemsTaken.{TakesItems}
use Rattle.run_model.specs.Within.{IsWithin}
use Rattle.run_model.specs.Reading.DefinedLines.{behind_definition}
use Rattle.run_model.specs.Reading.Items.{PageInput, going_on}
use Rattle.run_model.specs.Registers.{Known}
use Rattle.run_model.specs.PageEvents.{PageEvent}
use Rattle.run_model.specs.Run.{State, known, taken_as, after}
use Rattle.roff_num.specs.ShortNames.{name_bytes}
use Rattle.run_model.specs.declared.line_state.LineState.TheVariants.{LineStart, Collecting}
use Rattle.run_model.specs.declared.purpose.Purpose.TheVariants.{Defining}
use Rattle.roff_num.specs.declared.short_name.ShortName.{ShortName}

-- whether a line ends a definition with this mark: the mark stands in front of it, and behind that the line ends, or a blank or
-- a tab comes
abbrev pub is_end : List ℕ → List ℕ → Bool
is_end [] [] = true
is_end [] (b ∷ line) = ends_mark b
is_end (m ∷ mark) [] = false
is_end (m ∷ mark) (b ∷ line) = if b == m then is_end mark line else false

-- a byte of a line: it isn't dropped, and doesn't end the line
abbrev pub IsOfLine : ℕ → Type 0
IsOfLine b = IsTrue (not (is_dropped b || b == newline))

-- a line of a definition's text: it has neither interpolations nor comments, its last byte isn't a backslash that belongs to
-- its newline, and as it is copied it doesn't end the definition
pub record IsTextLine (end : Option ShortName) (line : List ℕ) : Type 0 where
  pub bytes : All IsOfLine line
  pub only_copied : is_only_copied line ≡ true
  pub whole : is_whole line ≡ true
  pub goes_on : is_end (end_mark end) (copied line) ≡ false

-- some lines with their newlines, as they are read and as they are copied
abbrev pub bytes_of_lines : List (List ℕ) → List ℕ
bytes_of_lines lines = flat_map (λ line. line ++ newline ∷ []) lines

abbrev pub text_of_lines : List (List ℕ) → List ℕ
text_of_lines lines = flat_map (λ line. copied line ++ newline ∷ []) lines

-- the bytes of a definition behind its first line: those of its text, and the line that ends it
abbrev pub definition_bytes : Option ShortName → List (List ℕ) → List ℕ
definition_bytes end lines = bytes_of_lines lines ++ end_mark end ++ newline ∷ []

-- a run reads the first line of a definition's text: it takes items, and nothing is half read
pub record BeginsDefinition (s : State) (name : Option ShortName) (appends : Bool) (end : Option ShortName) : Type 0 where
  pub takes : TakesItems s
  pub reading : s.reading ≡ Collecting (Defining name appends end (Some 0))
  pub escapes : s.input.escapes ≡ []

-- these are the lines of its text, and the bytes of the mark that ends it stand for themselves
pub record AreItsLines (end : Option ShortName) (lines : List (List ℕ)) : Type 0 where
  pub texts : All (IsTextLine end) lines
  pub mark : All StandsForItself (end_mark end)

-- a text enters a name: it is put behind the body that the name has, or is its body from now on; these texts are still in the
-- making
abbrev pub with_definition : ShortName → Bool → List ℕ → List (List ℕ) → PageInput → PageInput
with_definition name appends text before i = record i {
  names = with_entry (name_bytes name) (Body ((if appends then body_named (name_bytes name) i else []) ++ text)) i.names;
  open_texts = before;
}

-- the limits have room for so many bytes more that are taken, and for a text beside all that is stored
pub record HasRoomFor (l : Limits) (s : State) (bytes text : List ℕ) : Type 0 where
  pub taken : s.input.charge + length bytes ≤ l.bytes
  pub stored_beside : stored s.input + length text ≤ l.store

-- what the newline of the line that ends a definition does behind it
abbrev pub behind_end : Option ShortName → State → State
behind_end end s = taken_as (behind_definition (known s) s.input end newline) s

-- The lines of a definition enter its name, with their newlines and as they are copied. So many steps lead there as the lines
-- and the one that ends them have bytes, and each costs one. Behind it the name of its mark is called.
abbrev pub DefinitionsEnterTheirLines : Type 0
DefinitionsEnterTheirLines =
    (l : Limits) (s : State) (name : ShortName) (appends : Bool) (end : Option ShortName) (before lines : List (List ℕ))
    (rest : List (Ahead PageEvent)) →
    BeginsDefinition s (Some name) appends end → s.input.open_texts ≡ before ++ [] ∷ [] → AreItsLines end lines →
    let bytes : List ℕ = definition_bytes end lines in
    let text : List ℕ = text_of_lines lines in
    s.input.ahead ≡ map ByteAhead bytes ++ rest →
    let behind : PageInput = record s.input { ahead = rest; charge = s.input.charge + length bytes } in
    let entered : State = record s { input = with_definition name appends text before behind } in
    HasRoomFor l s bytes text → IsWithin l s → IsWithin l (behind_end end entered) →
    after l (length bytes) s ≡ behind_end end entered

-- and so it is where they stand in the source itself, with nothing ahead of them
abbrev pub DefinitionsOfTheSourceEnterTheirLines : Type 0
DefinitionsOfTheSourceEnterTheirLines =
    (l : Limits) (s : State) (name : ShortName) (appends : Bool) (end : Option ShortName) (before lines : List (List ℕ))
    (tape : Tape) →
    BeginsDefinition s (Some name) appends end → s.input.open_texts ≡ before ++ [] ∷ [] → AreItsLines end lines →
    let bytes : List ℕ = definition_bytes end lines in
    let text : List ℕ = text_of_lines lines in
    s.input.ahead ≡ [] → s.tape ≡ items_then (map OneByte bytes) tape →
    let behind : PageInput = lines_taken bytes s.input in
    let entered : State = record s { tape = tape; input = with_definition name appends text before behind } in
    HasRoomFor l s bytes text → IsWithin l s → IsWithin l (behind_end end entered) →
    after l (length bytes) s ≡ behind_end end entered

-- lines that are ignored enter nothing
abbrev pub IgnoredLinesEnterNothing : Type 0
IgnoredLinesEnterNothing =
    (l : Limits) (s : State) (appends : Bool) (end : Option ShortName) (lines : List (List ℕ)) (rest : List (Ahead PageEvent)) →
    BeginsDefinition s None appends end → AreItsLines end lines →
    let bytes : List ℕ = definition_bytes end lines in
    s.input.ahead ≡ map ByteAhead bytes ++ rest →
    let passed : State = record s { input = record s.input { ahead = rest; charge = s.input.charge + length bytes } } in
    s.input.charge + length bytes ≤ l.bytes → IsWithin l s → IsWithin l (behind_end end passed) →
    after l (length bytes) s ≡ behind_end end passed

-- and so it is where they stand in the source itself, with nothing ahead of them
abbrev pub IgnoredLinesOfTheSourceEnterNothing : Type 0
IgnoredLinesOfTheSourceEnterNothing =
    (l : Limits) (s : State) (appends : Bool) (end : Option ShortName) (lines : List (List ℕ)) (tape : Tape) →
    BeginsDefinition s None appends end → AreItsLines end lines →
    let bytes : List ℕ = definition_bytes end lines in
    s.input.ahead ≡ [] → s.tape ≡ items_then (map OneByte bytes) tape →
    let passed : State = record s { tape = tape; input = lines_taken bytes s.input } in
    s.input.charge + length bytes ≤ l.bytes → IsWithin l s → IsWithin l (behind_end end passed) →
    after l (length bytes) s ≡ behind_end end passed

-- where no mark was named, two dots end a definition, and behind their line a line begins
abbrev pub LinesBeginBehindTwoDots : Type 0
LinesBeginBehindTwoDots = (k : Known) (i : PageInput) → behind_definition k i None newline ≡ going_on i LineStart
