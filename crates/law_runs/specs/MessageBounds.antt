-- How much a run tells, where no limit on messages says it.
use Rattle.std.specs.Prelude.{◌≡◌, ℕ, ◌+◌, ◌*◌, ◌^◌, ◌<◌, ◌≤◌, ◌++◌, false, List, [], ◌∷◌, decimal, length}
use Rattle.input_model.specs.Arguments.{no_arguments, total_length}
use Rattle.roff_num.specs.declared.limits.Limits.{Limits}
use Rattle.run_model.specs.Messages.{message_line, told_line}
use Rattle.run_model.specs.Reading.Messages.{message_text_read}
use Rattle.run_model.specs.Results.{last_state}
use Rattle.run_model.specs.Run.{State, after, initial, told_after, told_step}
use Rattle.run_model.specs.declared.message.Message.{Message}
use Rattle.run_model.specs.declared.start.Start.{Start}
use Rattle.input_source.specs.Tape.{Tape, Item, Gives, OneByte, OneNote, behind_front, front}

-- the most bytes of a line that says what an item means, by the digits of the line's number
abbrev pub most_of_line : ℕ → ℕ
most_of_line digits = 36 + digits

-- What a step adds to the messages: nothing; or a line that says one message, which is short; or the text of a message that
-- was read, and a newline, and then nothing of it is held; or a note of the source, as it is, which is taken.
pub data TellsAtMost (s t : State) : Type 0 where
  NothingTold : t.messages ≡ s.messages → TellsAtMost s t
  LineTold : (m : Message) → length (message_line t.input.line m) ≤ most_of_line (length (decimal t.input.line))
      → t.messages ≡ s.messages ++ message_line t.input.line m → TellsAtMost s t
  TextTold : t.messages ≡ s.messages ++ told_line false (message_text_read s.input) → t.input.arguments ≡ no_arguments → TellsAtMost s t
  NoteTold : (message : List ℕ) → front s.tape ≡ Gives (OneNote message) → t.tape ≡ behind_front s.tape → t.messages ≡ s.messages ++ message
      → TellsAtMost s t

-- no step of a run tells more
abbrev pub EachStepTellsLittle : Type 0
EachStepTellsLittle =
    (l : Limits) (start : Start) (tape : Tape) (n : ℕ)
    → let s : State = told_after l n (initial l start tape) in TellsAtMost s (told_step l s)

-- the notes among some items
abbrev pub notes_of : List Item → List (List ℕ)
notes_of [] = []
notes_of (OneByte b ∷ items) = notes_of items
notes_of (OneNote message ∷ items) = message ∷ notes_of items

-- the most bytes that a turn tells, or holds of a text that is told later: those of a line whose number has ten digits, and two
abbrev pub most_of_turn : ℕ
most_of_turn = most_of_line 10 + 2

-- the most turns that a run may take by what it was charged and by how many notes it took
abbrev pub most_turns : ℕ → ℕ → ℕ
most_turns charge notes = 24 * charge + 4 * notes + 5

-- the most bytes that a run tells by what it was charged and by the notes that it took
abbrev pub most_told : ℕ → List (List ℕ) → ℕ
most_told charge notes = total_length notes + most_turns charge (length notes) * most_of_turn

-- What a run has told is so many bytes at the most for each that it was charged, beside the notes that it took of its source.
pub record TellsFew (tape : Tape) (s : State) : Type 0 where
  pub taken : List Item
  pub items : tape.items ≡ taken ++ s.tape.items
  pub messages : length s.messages ≤ most_told s.input.charge (notes_of taken)

-- So it is without a limit on messages, behind each number of steps.
abbrev pub MessagesAreFew : Type 0
MessagesAreFew = (l : Limits) (start : Start) (tape : Tape) (n : ℕ) → l.bytes < 2 ^ 32 → TellsFew tape (told_after l n (initial l start tape))

-- and behind a whole run
abbrev pub EachRunTellsFew : Type 0
EachRunTellsFew = (l : Limits) (start : Start) (tape : Tape) → l.bytes < 2 ^ 32 → TellsFew tape (last_state l start tape)

-- So a limit on messages that is no smaller than what a run may tell stops none: each step is made.
abbrev pub GreatLimitStopsNothing : Type 0
GreatLimitStopsNothing =
    (l : Limits) (start : Start) (tape : Tape) (n : ℕ) → l.bytes < 2 ^ 32 → most_told l.bytes (notes_of tape.items) ≤ l.messages
    → told_after l n (initial l start tape) ≡ after l n (initial l start tape)
