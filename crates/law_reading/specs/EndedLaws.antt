-- Laws of what the end of all input ends: a text line without its newline, a definition, and a branch that is skipped (manual,
-- section 20).
use Rattle.std.specs.Prelude.{◌≡◌, ℕ, ◌+◌, ◌≤◌, Bool, false, List, [], ◌∷◌, ◌++◌, length, map, replicate, Some, None, Option}
use Rattle.std.specs.List.{flat_map}
use Rattle.roff_num.specs.declared.limits.Limits.{Limits}
use Rattle.roff_num.specs.declared.short_name.ShortName.{ShortName}
use Rattle.input_source.specs.Bytes.{blank}
use Rattle.input_source.specs.Tape.{Tape, Ended, Ends, OneByte, front, items_then}
use Rattle.input_model.specs.Input.{lines_taken}
use Rattle.law_reading.specs.CallLaws.{BeginsLine}
use Rattle.law_reading.specs.ConditionLaws.{AreKept, MayEnd}
use Rattle.law_reading.specs.DefinitionLaws.{AreItsLines, BeginsDefinition, HasRoomFor, bytes_of_lines, text_of_lines}
use Rattle.law_reading.specs.TextLaws.{AllQuiet, IsTextOnLine, TextOnLine, all_performed, gap_and_word, text_events}
use Rattle.run_model.specs.Environments.{interrupted_line}
use Rattle.run_model.specs.ItemsTaken.{TakesItems}
use Rattle.run_model.specs.Messages.{message_lines}
use Rattle.run_model.specs.Reading.Branches.{branch_of, most_braces}
use Rattle.run_model.specs.Reading.Items.{PageInput}
use Rattle.run_model.specs.PageEvents.{PageEvent}
use Rattle.run_model.specs.Run.{State, after}
use Rattle.run_model.specs.TurnsToCome.{behind_all}
use Rattle.run_model.specs.Within.{IsWithin}
use Rattle.run_model.specs.declared.line_state.LineState.TheVariants.{LineStart}
use Rattle.run_model.specs.declared.message.Message.TheVariants.{DefinitionNotEnded}

-- the bytes of a text line without its newline
abbrev pub unfinished_bytes : TextOnLine → List ℕ
unfinished_bytes t =
    ((replicate t.leading blank ++ t.first ∷ t.word) ++ flat_map gap_and_word t.others) ++ replicate t.trailing blank

-- A text line without its newline at the end of all input tells what it tells with one, where lines go on the page and no macro
-- springs. A step is taken for each byte, one for each event, and one more for the end, which costs nothing.
abbrev pub UnfinishedTextLinesTellTheirWords : Type 0
UnfinishedTextLinesTellTheirWords =
    (l : Limits) (s : State) (t : TextOnLine) (tape : Tape) →
    BeginsLine s → interrupted_line s.history ≡ None → IsTextOnLine t → s.input.ahead ≡ [] →
    s.tape ≡ items_then (map OneByte (unfinished_bytes t)) tape → front tape ≡ Ends Ended →
    let events : List PageEvent = all_performed s.registers (text_events t) s.history in
    IsWithin l s → s.input.charge + length (unfinished_bytes t) ≤ l.bytes → AllQuiet l s.registers s.history events →
    after l (length (unfinished_bytes t) + length events + 1) s
    ≡ record s { tape = tape; input = lines_taken (unfinished_bytes t) s.input; history = behind_all s.registers events s.history }

-- A definition whose lines come to the end of all input is told not to be ended, and enters nothing: its text is dropped.
abbrev pub UnendedDefinitionsEnterNothing : Type 0
UnendedDefinitionsEnterNothing =
    (l : Limits) (s : State) (name : ShortName) (appends : Bool) (end : Option ShortName) (before lines : List (List ℕ))
    (tape : Tape) →
    BeginsDefinition s (Some name) appends end → s.input.open_texts ≡ before ++ [] ∷ [] → AreItsLines end lines →
    let bytes : List ℕ = bytes_of_lines lines in
    s.input.ahead ≡ [] → s.tape ≡ items_then (map OneByte bytes) tape → front tape ≡ Ends Ended →
    HasRoomFor l s bytes (text_of_lines lines) → IsWithin l s →
    let behind : PageInput = lines_taken bytes s.input in
    after l (length bytes + 1) s
    ≡ record s {
      tape = tape;
      input = record behind { open_texts = before };
      reading = LineStart;
      messages = s.messages ++ message_lines behind.line (DefinitionNotEnded ∷ []);
    }

-- A branch that is skipped up to the end of all input does nothing, where no line was interrupted that is to go on.
abbrev pub UnendedBranchesDoNothing : Type 0
UnendedBranchesDoNothing =
    (l : Limits) (s : State) (bytes : List ℕ) (tape : Tape) → TakesItems s → s.reading ≡ branch_of false → s.input.escapes ≡ [] →
    s.input.ahead ≡ [] → s.tape ≡ items_then (map OneByte bytes) tape → front tape ≡ Ends Ended →
    ((shorter more : List ℕ) → bytes ≡ shorter ++ more → MayEnd shorter → ⊥) → AreKept bytes → length bytes ≤ most_braces →
    interrupted_line s.history ≡ None → s.input.charge + length bytes ≤ l.bytes → IsWithin l s →
    after l (length bytes + 1) s ≡ record s { tape = tape; reading = LineStart; input = lines_taken bytes s.input }
