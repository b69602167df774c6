-- Laws of definitions with escapes in their lines (manual, sections 7.1 and 8).
use Rattle.std.specs.Prelude.{◌≡◌, ℕ, ◌+◌, ◌≤◌, Bool, false, List, [], ◌∷◌, ◌++◌, length, map, fold, All, ⊤, Option, Some, None, ◌==◌}
use Rattle.roff_num.specs.declared.limits.Limits.{Limits}
use Rattle.roff_num.specs.declared.short_name.ShortName.{ShortName}
use Rattle.input_escapes.specs.EscapeLaws.{copied}
use Rattle.input_source.specs.Bytes.{blank, newline, tab}
use Rattle.input_source.specs.Tape.{Tape, OneByte, items_then}
use Rattle.input_model.specs.Input.{Ahead, ByteAhead, lines_taken}
use Rattle.input_model.specs.Input.Names.{stored}
use Rattle.law_escapes.specs.Parts.{AreParts, IsCopiedPart, Part, bytes_of, cost_of_texts, known_behind, registers_behind, rewritten}
use Rattle.law_escapes.specs.TextsInCalls.{HasRoomForTexts}
use Rattle.law_reading.specs.DefinitionLaws.{BeginsDefinition, bytes_of_lines, is_end, text_of_lines, with_definition}
use Rattle.law_reading.specs.InterpolationLaws.{StandsForItself}
use Rattle.run_model.specs.Definitions.{end_mark}
use Rattle.run_model.specs.Reading.DefinedLines.{behind_definition}
use Rattle.run_model.specs.Reading.Items.{PageInput}
use Rattle.run_model.specs.Registers.{AllRegisters, Known}
use Rattle.run_model.specs.Run.{State, after, known, taken_as}
use Rattle.run_model.specs.Within.{IsWithin}
use Rattle.run_model.specs.PageEvents.{PageEvent}
use Rattle.run_model.specs.declared.line_state.LineState.TheVariants.{LineStart}

-- what is known where a line of the source begins behind another one: a newline more was taken
abbrev pub with_newline : Known → Known
with_newline k = record k { newlines = k.newlines + 1 }

-- lines with the text of each escape in its place, where this is known behind a newline
abbrev pub lines_rewritten : (Known → Known) → Known → PageInput → List (List Part) → List (List ℕ)
lines_rewritten next k i [] = []
lines_rewritten next k i (line ∷ lines) = rewritten k i line ∷ lines_rewritten next (next (known_behind k line)) i lines

-- what the texts in them cost
abbrev pub cost_of_lines : (Known → Known) → Known → PageInput → List (List Part) → ℕ
cost_of_lines next k i [] = 0
cost_of_lines next k i (line ∷ lines) = cost_of_texts k i line + cost_of_lines next (next (known_behind k line)) i lines

-- such lines are a definition's text: as they are copied, with the texts in their places, none ends it
abbrev pub AreTextLines : (Known → Known) → Option ShortName → Known → PageInput → List (List Part) → Type 0
AreTextLines next end k i [] = ⊤
AreTextLines next end k i (line ∷ lines) =
    (AreParts false IsCopiedPart k i line × (is_end (end_mark end) (copied (rewritten k i line)) ≡ false))
    × AreTextLines next end (next (known_behind k line)) i lines

-- the parts of the line that ends it, up to the mark's end: as they are copied they are the mark
pub record AreCopiedMark (end : Option ShortName) (k : Known) (i : PageInput) (last : List Part) : Type 0 where
  pub may : AreParts false IsCopiedPart k i last
  pub is_mark : copied (rewritten k i last) ≡ end_mark end

-- what may stand behind the mark: a blank, a tab, or the newline of the line
pub data MayFollow : ℕ → Type 0 where
  ABlank : MayFollow blank
  ATab : MayFollow tab
  TheNewline : MayFollow newline

-- what is known behind some lines, where this is known behind a newline
abbrev pub known_behind_lines : (Known → Known) → Known → List (List Part) → Known
known_behind_lines next k [] = k
known_behind_lines next k (line ∷ lines) = known_behind_lines next (next (known_behind k line)) lines

-- the registers behind some lines, and parts of the line behind them
abbrev pub registers_behind_all : AllRegisters → List (List Part) → List Part → AllRegisters
registers_behind_all rs lines last = registers_behind (fold registers_behind rs lines) last

-- the bytes of lines, of parts of the line behind them, and of what stands behind these
abbrev pub lines_then : List (List Part) → List Part → List ℕ → List ℕ
lines_then lines last behind = bytes_of_lines (map bytes_of lines) ++ (bytes_of last ++ behind)

-- what is read of lines, and of parts of the line behind them
abbrev pub all_read : (Known → Known) → Known → PageInput → List (List Part) → List Part → List ℕ
all_read next k i lines last =
    bytes_of_lines (lines_rewritten next k i lines) ++ rewritten (known_behind_lines next k lines) i last

-- what the texts in them cost
abbrev pub cost_of_all : (Known → Known) → Known → PageInput → List (List Part) → List Part → ℕ
cost_of_all next k i lines last = cost_of_lines next k i lines + cost_of_texts (known_behind_lines next k lines) i last

-- what the byte behind the mark of the line that ends a definition does
abbrev pub behind_mark : Option ShortName → ℕ → State → State
behind_mark end b s = taken_as (behind_definition (known s) s.input end b) s

-- The lines of a definition enter its name as they are copied, with the text of each escape in its place, up to the first one
-- that begins with the mark as it is copied so. Each byte of the lines, of that one and of the texts is a step, and costs one;
-- so does each text's end. Behind the mark stands a blank, a tab, or the line's end: there the name of the mark is called.
abbrev pub DefinitionsEnterTheTextsRead : Type 0
DefinitionsEnterTheTextsRead =
    (l : Limits) (s : State) (name : ShortName) (appends : Bool) (end : Option ShortName) (before : List (List ℕ))
    (lines : List (List Part)) (last : List Part) (b : ℕ) (rest : List (Ahead PageEvent)) →
    BeginsDefinition s (Some name) appends end → s.input.open_texts ≡ before ++ [] ∷ [] → All StandsForItself (end_mark end) →
    let same : Known → Known = λ k. k in
    AreTextLines same end (known s) s.input lines → AreCopiedMark end (known_behind_lines same (known s) lines) s.input last →
    MayFollow b →
    let bytes : List ℕ = lines_then lines last (b ∷ []) in
    let text : List ℕ = text_of_lines (lines_rewritten same (known s) s.input lines) in
    let cost : ℕ = length bytes + cost_of_all same (known s) s.input lines last in
    s.input.ahead ≡ map ByteAhead bytes ++ rest →
    let behind : PageInput = record s.input { ahead = rest; charge = s.input.charge + cost } in
    let registers : AllRegisters = registers_behind_all s.registers lines last in
    let entered : State = record s { registers = registers; input = with_definition name appends text before behind } in
    let ended : State = behind_mark end b entered in
    s.input.charge + cost ≤ l.bytes → stored s.input + length text ≤ l.store →
    HasRoomForTexts l s (all_read same (known s) s.input lines last) → IsWithin l s → IsWithin l ended → after l cost s ≡ ended

-- and so it is where they stand in the source itself, with nothing ahead of them: each line is read behind one newline more
abbrev pub DefinitionsOfTheSourceEnterTheTextsRead : Type 0
DefinitionsOfTheSourceEnterTheTextsRead =
    (l : Limits) (s : State) (name : ShortName) (appends : Bool) (end : Option ShortName) (before : List (List ℕ))
    (lines : List (List Part)) (last : List Part) (b : ℕ) (tape : Tape) →
    BeginsDefinition s (Some name) appends end → s.input.open_texts ≡ before ++ [] ∷ [] → All StandsForItself (end_mark end) →
    AreTextLines with_newline end (known s) s.input lines →
    AreCopiedMark end (known_behind_lines with_newline (known s) lines) s.input last → MayFollow b → s.input.ahead ≡ [] →
    let bytes : List ℕ = lines_then lines last (b ∷ []) in
    let text : List ℕ = text_of_lines (lines_rewritten with_newline (known s) s.input lines) in
    let cost : ℕ = length bytes + cost_of_all with_newline (known s) s.input lines last in
    s.tape ≡ items_then (map OneByte bytes) tape →
    let behind : PageInput = record (lines_taken bytes s.input) { charge = s.input.charge + cost } in
    let registers : AllRegisters = registers_behind_all s.registers lines last in
    let entered : State =
    record s { tape = tape; registers = registers; input = with_definition name appends text before behind } in
    let ended : State = behind_mark end b entered in
    s.input.charge + cost ≤ l.bytes → stored s.input + length text ≤ l.store →
    HasRoomForTexts l s (all_read with_newline (known s) s.input lines last) → IsWithin l s → IsWithin l ended →
    after l cost s ≡ ended

-- what may stand behind the mark up to the line's end: nothing, or one of these bytes and any others
pub data IsBehindMark : List ℕ → Type 0 where
  Nothing : IsBehindMark []
  Rest : (b : ℕ) (bytes : List ℕ) → MayFollow b → All (λ c. (c == newline) ≡ false) (b ∷ bytes) → IsBehindMark (b ∷ bytes)

-- where no mark was named, all that stands behind the two dots on their line is dropped, at the cost of its bytes, and behind
-- that a line begins
abbrev pub RestsBehindTwoDotsAreDropped : Type 0
RestsBehindTwoDotsAreDropped =
    (l : Limits) (s : State) (name : ShortName) (appends : Bool) (before : List (List ℕ)) (lines : List (List Part))
    (last : List Part) (dropped : List ℕ) (rest : List (Ahead PageEvent)) →
    BeginsDefinition s (Some name) appends None → s.input.open_texts ≡ before ++ [] ∷ [] →
    let same : Known → Known = λ k. k in
    AreTextLines same None (known s) s.input lines → AreCopiedMark None (known_behind_lines same (known s) lines) s.input last →
    IsBehindMark dropped →
    let bytes : List ℕ = lines_then lines last (dropped ++ newline ∷ []) in
    let text : List ℕ = text_of_lines (lines_rewritten same (known s) s.input lines) in
    let cost : ℕ = length bytes + cost_of_all same (known s) s.input lines last in
    s.input.ahead ≡ map ByteAhead bytes ++ rest →
    let behind : PageInput = record s.input { ahead = rest; charge = s.input.charge + cost } in
    let begins : State =
    record s {
      registers = registers_behind_all s.registers lines last;
      input = with_definition name appends text before behind;
      reading = LineStart;
    } in
    stored s.input + length text ≤ l.store → HasRoomForTexts l s (all_read same (known s) s.input lines last) → IsWithin l s →
    IsWithin l begins → after l cost s ≡ begins

-- and so it is where they stand in the source itself, with nothing ahead of them
abbrev pub RestsOfTheSourceBehindTwoDotsAreDropped : Type 0
RestsOfTheSourceBehindTwoDotsAreDropped =
    (l : Limits) (s : State) (name : ShortName) (appends : Bool) (before : List (List ℕ)) (lines : List (List Part))
    (last : List Part) (dropped : List ℕ) (tape : Tape) →
    BeginsDefinition s (Some name) appends None → s.input.open_texts ≡ before ++ [] ∷ [] →
    AreTextLines with_newline None (known s) s.input lines →
    AreCopiedMark None (known_behind_lines with_newline (known s) lines) s.input last → IsBehindMark dropped →
    s.input.ahead ≡ [] →
    let bytes : List ℕ = lines_then lines last (dropped ++ newline ∷ []) in
    let text : List ℕ = text_of_lines (lines_rewritten with_newline (known s) s.input lines) in
    let cost : ℕ = length bytes + cost_of_all with_newline (known s) s.input lines last in
    s.tape ≡ items_then (map OneByte bytes) tape →
    let behind : PageInput = record (lines_taken bytes s.input) { charge = s.input.charge + cost } in
    let begins : State =
    record s {
      tape = tape;
      registers = registers_behind_all s.registers lines last;
      input = with_definition name appends text before behind;
      reading = LineStart;
    } in
    stored s.input + length text ≤ l.store → HasRoomForTexts l s (all_read with_newline (known s) s.input lines last) →
    IsWithin l s → IsWithin l begins → after l cost s ≡ begins
