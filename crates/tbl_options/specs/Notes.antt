-- The messages of a table, as they are kept until they are told.
use Rattle.std.specs.Prelude.{ℕ, ◌≤◌, List, map, slice_range, take}
use Rattle.std.specs.List.{AllByRecursion}
use Rattle.tbl_options.specs.declared.message.Message.{Message}
use Rattle.tbl_options.specs.declared.message.Message.TheVariants.{BadFormat as BadFormatMessage, EntryCut as EntryCutMessage, LeftOut as LeftOutMessage, NotMeasured as NotMeasuredMessage, OptionIgnored as OptionIgnoredMessage, RequestInTextBlock as RequestInTextBlockMessage, TooManyFields as TooManyFieldsMessage}
use Rattle.tbl_options.specs.declared.message.Told.{Told}
use Rattle.tbl_options.specs.declared.notes.Cause.{Cause}
use Rattle.tbl_options.specs.declared.notes.Cause.TheVariants.{BadFormat, EntryCut, LeftOut, NotMeasured, OptionIgnored, RequestInTextBlock, TooManyFields}
use Rattle.tbl_options.specs.declared.notes.KeptNote.{KeptNote}

-- the message of an option that is ignored has 32 bytes of it at the most
abbrev pub ignored_message : List ℕ → Message
ignored_message word = OptionIgnoredMessage (record { items = take 32 word })

-- the message of what is left out of a format, by its letter
abbrev pub left_out_message : ℕ → Message
left_out_message letter = LeftOutMessage letter

-- what is reported; the option lies in this block
abbrev pub message_of : List ℕ → Cause → Message
message_of block BadFormat = BadFormatMessage
message_of block TooManyFields = TooManyFieldsMessage
message_of block (OptionIgnored from to) = ignored_message (slice_range block from to)
message_of block (LeftOut letter) = left_out_message letter
message_of block (NotMeasured b) = NotMeasuredMessage b
message_of block RequestInTextBlock = RequestInTextBlockMessage
message_of block EntryCut = EntryCutMessage

-- what is left out, as it is kept
abbrev pub left_out_note : ℕ → ℕ → KeptNote
left_out_note line letter = record { line = line; cause = LeftOut letter }

-- an entry that is cut
abbrev pub cut_note : ℕ → KeptNote
cut_note line = record { line = line; cause = EntryCut }

-- a message that names a line
abbrev pub told_at : ℕ → Message → Told
told_at line message = record { line = line; message = message }

abbrev pub told_of : List ℕ → KeptNote → Told
told_of block note = told_at note.line (message_of block note.cause)

abbrev pub told_of_all : List ℕ → List KeptNote → List Told
told_of_all block notes = map (told_of block) notes

-- the option lies within so many bytes
abbrev pub IsWithin : ℕ → Cause → Type 0
IsWithin len BadFormat = Unit {0}
IsWithin len TooManyFields = Unit {0}
IsWithin len (OptionIgnored from to) = (from ≤ to) × (to ≤ len)
IsWithin len (LeftOut letter) = Unit {0}
IsWithin len (NotMeasured b) = Unit {0}
IsWithin len RequestInTextBlock = Unit {0}
IsWithin len EntryCut = Unit {0}

abbrev pub NotesWithin : ℕ → List KeptNote → Type 0
NotesWithin len notes = AllByRecursion (λ note. IsWithin len note.cause) notes
