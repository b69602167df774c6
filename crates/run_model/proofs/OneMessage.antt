-- What is done with an item of the input tells one message at the most, and a short one.
use Rattle.std.proofs.Common.{◌≤◌, ◌+◌, ℕ, Bool, true, false, List, [], ◌∷◌, length, length-append, Option, Some, None, arith, decimal, if◌then◌else◌}
use Rattle.input_escapes.specs.declared.open_escape.Remark.{Remark}
use Rattle.input_escapes.specs.declared.open_escape.Remark.TheVariants.{LeftOut as EscapeLeftOut, UnknownCharacter as NoCharacter, BadNumber as NoNumber, BackwardMotion as MotionBack}
use Rattle.run_model.specs.Messages.{character_name, message_line, message_text, remark_message, remark_messages}
use Rattle.run_model.specs.Reading.Items.{PageInput, Taking}
use Rattle.run_model.specs.declared.line_state.LineState.{LineState}
use Rattle.run_model.specs.declared.line_state.LineState.TheVariants.{Collecting}
use Rattle.run_model.specs.declared.message.CharacterName.{CharacterName}
use Rattle.run_model.specs.declared.message.CharacterName.TheVariants.{Nothing, One, Two}
use Rattle.run_model.specs.declared.message.Message.{Message}
use Rattle.run_model.specs.declared.message.Message.TheVariants.{LimitReached, BadNumber, BadFormat, PageTooShort, BackwardMotion, LeftOut, UnknownCharacter, NoSuchEnvironment, DefinitionNotEnded, ReadFailed, WriteFailed}
use Rattle.run_model.specs.declared.purpose.Purpose.{Purpose}
use Rattle.run_model.specs.declared.purpose.Purpose.TheVariants.{Arguments as InArguments}
use Rattle.run_model.specs.declared.request.Request.{Request}
use Rattle.run_model.specs.declared.request.Request.TheVariants.{LeftOut as RequestLeftOut}
use Rattle.run_model.proofs.HeldBytes.{held_of}

-- two bytes, or fewer
abbrev pub AtMostTwo : List ℕ → Type 0
AtMostTwo [] = Unit {0}
AtMostTwo (a ∷ []) = Unit {0}
AtMostTwo (a ∷ b ∷ []) = Unit {0}
AtMostTwo (a ∷ b ∷ c ∷ others) = ⊥

abbrev pub IsShortName : CharacterName → Type 0
IsShortName Nothing = Unit {0}
IsShortName (One a) = Unit {0}
IsShortName (Two bytes) = AtMostTwo bytes

-- a message says some words, and two bytes at the most; that of a limit, with which a run ends, is none of these
abbrev pub IsShort : Message → Type 0
IsShort (LimitReached limit value) = ⊥
IsShort (LeftOut name) = AtMostTwo name
IsShort (UnknownCharacter name) = IsShortName name
IsShort (_) = Unit {0}

-- none, or one that is short
abbrev pub TellsOne : List Message → Type 0
TellsOne [] = Unit {0}
TellsOne (m ∷ []) = IsShort m
TellsOne (m ∷ n ∷ others) = ⊥

-- a request that is left out has a name of two bytes
abbrev pub IsNamed : Request → Type 0
IsNamed (RequestLeftOut name) = AtMostTwo name
IsNamed (_) = Unit {0}

-- and so has one whose arguments are collected
abbrev pub IsCollectedFor : Purpose → Type 0
IsCollectedFor (InArguments breaks request) = IsNamed request
IsCollectedFor (_) = Unit {0}

abbrev pub NamesRequest : LineState → Type 0
NamesRequest (Collecting purpose) = IsCollectedFor purpose
NamesRequest (_) = Unit {0}

-- One message at the most is meant, what is read on names a request of the table, if it names one, and so many bytes are held at the
-- most of the text or the argument that is being read.
abbrev pub Brief : ℕ → Taking → Type 0
Brief most t = TellsOne t.effect.messages × NamesRequest t.reading × (held_of t.input ≤ most)

-- so many are held at the most behind an item
abbrev pub most_held : PageInput → ℕ
most_held i = held_of i + 2

-- either of two, by a test
pub Brief-if : {most : ℕ} (b : Bool) (t u : Taking) → Brief most t → Brief most u → Brief most (if b then t else u)
Brief-if true t u first second = first
Brief-if false t u first second = second

-- the same where more may be held
pub Brief-more : {few most : ℕ} (t : Taking) → few ≤ most → Brief few t → Brief most t
Brief-more t more brief = (brief.0, brief.1, omega (arith, more, brief.2))

-- the name of a character is cut
pub short-character_name : (name : Option (List ℕ)) → IsShortName (character_name name)
short-character_name None = tt
short-character_name (Some []) = tt
short-character_name (Some (a ∷ [])) = tt
short-character_name (Some (a ∷ b ∷ others)) = tt

-- what is said of something that was read
pub short-remark : (remark : Remark) → IsShort (remark_message remark)
short-remark (EscapeLeftOut b) = tt
short-remark (NoCharacter name) = short-character_name name
short-remark NoNumber = tt
short-remark MotionBack = tt

pub one-remark : (remark : Option Remark) → TellsOne (remark_messages remark)
one-remark None = tt
one-remark (Some remark) = short-remark remark

-- the bytes of such a message
length-left_out : (name : List ℕ) → AtMostTwo name → length (message_text (LeftOut name)) ≤ 21
length-left_out [] short = omega arith
length-left_out (a ∷ []) short = omega arith
length-left_out (a ∷ b ∷ []) short = omega arith
length-left_out (a ∷ b ∷ c ∷ others) short = absurd short

length-two : (bytes : List ℕ) → AtMostTwo bytes → length (message_text (UnknownCharacter (Two bytes))) ≤ 21
length-two [] short = omega arith
length-two (a ∷ []) short = omega arith
length-two (a ∷ b ∷ []) short = omega arith
length-two (a ∷ b ∷ c ∷ others) short = absurd short

length-character : (name : CharacterName) → IsShortName name → length (message_text (UnknownCharacter name)) ≤ 21
length-character Nothing short = omega arith
length-character (One a) short = omega arith
length-character (Two bytes) short = length-two bytes short

pub length-short : (m : Message) → IsShort m → length (message_text m) ≤ 21
length-short (LimitReached limit value) short = absurd short
length-short BadNumber short = omega arith
length-short BadFormat short = omega arith
length-short PageTooShort short = omega arith
length-short BackwardMotion short = omega arith
length-short (LeftOut name) short = length-left_out name short
length-short (UnknownCharacter name) short = length-character name short
length-short NoSuchEnvironment short = omega arith
length-short DefinitionNotEnded short = omega arith
length-short ReadFailed short = omega arith
length-short WriteFailed short = omega arith

-- and of its line: beside the digits of the line's number they are 36 at the most
pub length-line : (line : ℕ) (m : Message) → length (message_text m) ≤ 21 → length (message_line line m) ≤ 36 + length (decimal line)
length-line line m short = rw (length-append, length-append, length-append, length-append) (omega (arith, short))
