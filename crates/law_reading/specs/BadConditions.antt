-- Laws of conditions that ask nothing, of texts that are cut, and of expressions that are no numbers (manual, section 16).
use Rattle.std.specs.Prelude.{◌≡◌, ℕ, ◌+◌, ◌≤◌, Bool, false, List, [], ◌∷◌, ◌++◌, length, map, bytes_eq, Option, Some, None, Err}
use Rattle.roff_num.specs.declared.limits.Limits.{Limits}
use Rattle.roff_num.specs.declared.num.NumFault.{NumFault}
use Rattle.roff_num.specs.declared.short_name.ShortName.{ShortName}
use Rattle.roff_num.specs.ShortNames.{name_bytes}
use Rattle.input_source.specs.Bytes.{newline}
use Rattle.input_source.specs.Tape.{Tape, OneByte, front, items_then}
use Rattle.input_escapes.specs.Conditions.{so_unless}
use Rattle.input_model.specs.Input.{Ahead, ByteAhead, lines_taken, pushed}
use Rattle.law_reading.specs.AskingLaws.{AreDelimited, EndsExpression, EndsIt, HasCondition, IsExpression, asking, asking_line, with_branch}
use Rattle.law_reading.specs.CallLaws.{BeginsLine}
use Rattle.law_reading.specs.CutNames.{CutsLine}
use Rattle.run_model.specs.Messages.{message_lines}
use Rattle.run_model.specs.Reading.Items.{PageInput}
use Rattle.run_model.specs.Run.{State, after}
use Rattle.run_model.specs.Within.{IsWithin}
use Rattle.run_model.specs.PageEvents.{PageEvent}
use Rattle.run_model.specs.declared.message.Message.TheVariants.{BadNumber}

-- a bad number was told, on this line of the input
abbrev pub with_bad_number : ℕ → State → State
with_bad_number line s = record s { messages = s.messages ++ message_lines line (BadNumber ∷ []) }

-- An expression that is no number is told to be a bad one, and is false, behind a `!` too: its branch is skipped. Steps and costs
-- are those of one that is a number.
abbrev pub BadNumbersAreToldAndFalse : Type 0
BadNumbersAreToldAndFalse =
    (l : Limits) (s : State) (control : ℕ) (name : ShortName) (keeps : Bool) (blanks : ℕ) (negated : Bool) (text : List ℕ)
    (fault : NumFault) (b : ℕ) (rest : List (Ahead PageEvent)) →
    BeginsLine s → HasCondition s.input.names control name keeps → IsExpression text (Err fault) → EndsIt b →
    let line : List ℕ = asking_line control name (asking blanks negated text) in
    s.input.ahead ≡ map ByteAhead line ++ ByteAhead b ∷ rest →
    let behind : PageInput = record s.input { ahead = ByteAhead b ∷ rest; charge = s.input.charge + length line } in
    let chosen : State = with_bad_number behind.line (with_branch keeps false behind s) in
    IsWithin l s → IsWithin l chosen → after l (length line + 2) s ≡ chosen

-- and so it is where the line stands in the source itself, with nothing ahead of it, and there is room for the expression
abbrev pub BadNumbersOfTheSourceAreToldAndFalse : Type 0
BadNumbersOfTheSourceAreToldAndFalse =
    (l : Limits) (s : State) (control : ℕ) (name : ShortName) (keeps : Bool) (blanks : ℕ) (negated : Bool) (text : List ℕ)
    (fault : NumFault) (tape : Tape) →
    BeginsLine s → HasCondition s.input.names control name keeps → IsExpression text (Err fault) → EndsExpression (front tape) →
    s.input.ahead ≡ [] →
    let asked : List ℕ = asking blanks negated text in
    let line : List ℕ = asking_line control name asked in
    s.tape ≡ items_then (map OneByte line) tape →
    let behind : PageInput = lines_taken line s.input in
    let chosen : State = with_bad_number behind.line (with_branch keeps false behind (record s { tape = tape })) in
    pushed s.input + length asked ≤ l.stack → IsWithin l s → IsWithin l chosen → after l (length line + 2) s ≡ chosen

-- a condition's line that asks nothing, up to its newline: its name, and perhaps blanks and a `!`
abbrev pub empty_condition : ℕ → ShortName → ℕ → Bool → List ℕ
empty_condition control name blanks negated = control ∷ name_bytes name ++ asking blanks negated []

-- What a newline cuts before anything was asked is false, behind a `!` too: the branch that the newline begins is skipped, and so
-- ends with it. One step ends what is asked, and one decides. Behind a name of one byte a blank has to stand.
abbrev pub EmptyConditionsAreFalse : Type 0
EmptyConditionsAreFalse =
    (l : Limits) (s : State) (control : ℕ) (name : ShortName) (keeps : Bool) (blanks : ℕ) (negated : Bool)
    (rest : List (Ahead PageEvent)) →
    BeginsLine s → HasCondition s.input.names control name keeps → 2 ≤ length (name_bytes name) + blanks →
    let line : List ℕ = empty_condition control name blanks negated in
    s.input.ahead ≡ map ByteAhead line ++ ByteAhead newline ∷ rest →
    let behind : PageInput = record s.input { ahead = ByteAhead newline ∷ rest; charge = s.input.charge + length line } in
    let chosen : State = with_branch keeps false behind s in
    IsWithin l s → IsWithin l chosen → after l (length line + 2) s ≡ chosen

-- and so it is where the line stands in the source itself, with nothing ahead of it
abbrev pub EmptyConditionsOfTheSourceAreFalse : Type 0
EmptyConditionsOfTheSourceAreFalse =
    (l : Limits) (s : State) (control : ℕ) (name : ShortName) (keeps : Bool) (blanks : ℕ) (negated : Bool) (tape : Tape) →
    BeginsLine s → HasCondition s.input.names control name keeps → 2 ≤ length (name_bytes name) + blanks → s.input.ahead ≡ [] →
    let line : List ℕ = empty_condition control name blanks negated in
    s.tape ≡ items_then (map OneByte line) tape → CutsLine (front tape) →
    let chosen : State = with_branch keeps false (lines_taken line s.input) (record s { tape = tape }) in
    pushed s.input + length (asking blanks negated []) ≤ l.stack → IsWithin l s → IsWithin l chosen →
    after l (length line + 2) s ≡ chosen

-- two texts behind delimiters, of which the second is cut, or the first, and then the second isn't there
abbrev pub cut_texts : ℕ → List ℕ → Option (List ℕ) → List ℕ
cut_texts delimiter first None = delimiter ∷ first
cut_texts delimiter first (Some second) = delimiter ∷ first ++ delimiter ∷ second

-- the second of them as it is compared: one that isn't there is empty
abbrev pub second_text : Option (List ℕ) → List ℕ
second_text None = []
second_text (Some second) = second

-- Texts that a newline cuts are compared as far as they stand: a first one that is cut is compared with nothing. One step ends what is
-- asked, and one decides; the newline is the first byte of the branch.
abbrev pub CutTextsAreCompared : Type 0
CutTextsAreCompared =
    (l : Limits) (s : State) (control : ℕ) (name : ShortName) (keeps : Bool) (blanks : ℕ) (negated : Bool) (delimiter : ℕ)
    (first : List ℕ) (second : Option (List ℕ)) (rest : List (Ahead PageEvent)) →
    BeginsLine s → HasCondition s.input.names control name keeps → AreDelimited delimiter first (second_text second) →
    let line : List ℕ = asking_line control name (asking blanks negated (cut_texts delimiter first second)) in
    s.input.ahead ≡ map ByteAhead line ++ ByteAhead newline ∷ rest →
    let so : Bool = so_unless negated (bytes_eq first (second_text second)) in
    let behind : PageInput = record s.input { ahead = ByteAhead newline ∷ rest; charge = s.input.charge + length line } in
    let chosen : State = with_branch keeps so behind s in
    IsWithin l s → IsWithin l chosen → after l (length line + 2) s ≡ chosen

-- and so it is where the line stands in the source itself, before a newline or at the end of all input, and there is room for them
abbrev pub CutTextsOfTheSourceAreCompared : Type 0
CutTextsOfTheSourceAreCompared =
    (l : Limits) (s : State) (control : ℕ) (name : ShortName) (keeps : Bool) (blanks : ℕ) (negated : Bool) (delimiter : ℕ)
    (first : List ℕ) (second : Option (List ℕ)) (tape : Tape) →
    BeginsLine s → HasCondition s.input.names control name keeps → AreDelimited delimiter first (second_text second) →
    s.input.ahead ≡ [] →
    let asked : List ℕ = asking blanks negated (cut_texts delimiter first second) in
    let line : List ℕ = asking_line control name asked in
    s.tape ≡ items_then (map OneByte line) tape → CutsLine (front tape) →
    let so : Bool = so_unless negated (bytes_eq first (second_text second)) in
    let chosen : State = with_branch keeps so (lines_taken line s.input) (record s { tape = tape }) in
    pushed s.input + length asked ≤ l.stack → IsWithin l s → IsWithin l chosen → after l (length line + 2) s ≡ chosen
