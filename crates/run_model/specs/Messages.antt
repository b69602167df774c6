-- The messages of a run.
use Rattle.std.specs.Prelude.{ℕ, Bool, true, false, List, [], ◌∷◌, ◌++◌, codes, decimal, Option, Some, None}
use Rattle.roff_num.specs.LimitNames.{limit_name}
use Rattle.run_model.specs.declared.message.Message.{Message}
use Rattle.run_model.specs.declared.message.Message.TheVariants.{LimitReached, BadNumber, BadFormat, PageTooShort, BackwardMotion, LeftOut, UnknownCharacter, NoSuchEnvironment, DefinitionNotEnded, ReadFailed, WriteFailed}
use Rattle.run_model.specs.declared.message.CharacterName.{CharacterName}
use Rattle.run_model.specs.declared.message.CharacterName.TheVariants.{Nothing, One, Two}
use Rattle.input_source.specs.Bytes.{newline, backslash}
use Rattle.input_escapes.specs.declared.open_escape.Remark.{Remark}
use Rattle.input_escapes.specs.declared.open_escape.Remark.TheVariants.{LeftOut as EscapeLeftOut, UnknownCharacter as NoCharacter, BadNumber as NoNumber, BackwardMotion as MotionBack}

-- the name of a character, as far as it was read, cut to two bytes
abbrev pub character_name : Option (List ℕ) → CharacterName
character_name None = Nothing
character_name (Some []) = Nothing
character_name (Some (a ∷ [])) = One a
character_name (Some (a ∷ b ∷ others)) = Two (a ∷ b ∷ [])

-- its bytes
abbrev pub name_bytes : CharacterName → List ℕ
name_bytes Nothing = []
name_bytes (One a) = a ∷ []
name_bytes (Two bytes) = bytes

-- what a message says
abbrev pub message_text : Message → List ℕ
message_text (LimitReached limit value) =
    codes "limit " ++ limit_name limit ++ codes " (" ++ decimal value ++ codes ") reached"
message_text BadNumber = codes "bad number"
message_text BadFormat = codes "bad format"
message_text PageTooShort = codes "page length too small"
message_text BackwardMotion = codes "backward motion"
message_text (LeftOut name) = codes "left out: " ++ name
message_text (UnknownCharacter name) = codes "unknown character: " ++ name_bytes name
message_text NoSuchEnvironment = codes "no such environment"
message_text DefinitionNotEnded = codes "definition not ended"
message_text ReadFailed = codes "read failed"
message_text WriteFailed = codes "write failed"

-- a message as it is written: the command, the line of the input, what it says, and a newline
abbrev pub message_line : ℕ → Message → List ℕ
message_line line message = codes "nroff: line " ++ decimal line ++ codes ": " ++ message_text message ++ newline ∷ []

-- what is told of the text of a message: one without a byte that aborts the run is `User Abort`
abbrev pub text_told : Bool → List ℕ → List ℕ
text_told true [] = codes "User Abort"
text_told true (b ∷ text) = b ∷ text
text_told false text = text

-- the same as it is written: bare, and a newline
abbrev pub told_line : Bool → List ℕ → List ℕ
told_line aborts text = text_told aborts text ++ newline ∷ []

-- messages of one line, in order
abbrev pub message_lines : ℕ → List Message → List ℕ
message_lines line [] = []
message_lines line (m ∷ ms) = message_line line m ++ message_lines line ms

-- what is said of something that was read, as a message
abbrev pub remark_message : Remark → Message
remark_message (EscapeLeftOut b) = LeftOut (backslash ∷ b ∷ [])
remark_message (NoCharacter name) = UnknownCharacter (character_name name)
remark_message NoNumber = BadNumber
remark_message MotionBack = BackwardMotion

-- the same of what may be said
abbrev pub remark_messages : Option Remark → List Message
remark_messages None = []
remark_messages (Some remark) = remark_message remark ∷ []
