-- The messages about tables.
use Rattle.std.specs.Prelude.{ℕ, List, [], ◌∷◌, ◌++◌, codes, decimal, map}
use Rattle.roff_num.specs.LimitNames.{limit_name}
use Rattle.input_source.specs.Bytes.{newline}
use Rattle.input_source.specs.Tape.{Item, OneNote}
use Rattle.tbl_options.specs.declared.message.Message.{Message}
use Rattle.tbl_options.specs.declared.message.Message.TheVariants.{LimitReached, BadFormat, TableNotEnded, OptionIgnored, LeftOut, TooManyFields, NotMeasured, RequestInTextBlock, EntryCut, ReadFailed, WriteFailed}
use Rattle.tbl_options.specs.declared.message.Told.{Told}

-- what a message says
abbrev pub tbl_message_text : Message → List ℕ
tbl_message_text (LimitReached limit value) =
    codes "limit " ++ limit_name limit ++ codes " (" ++ decimal value ++ codes ") reached"
tbl_message_text BadFormat = codes "bad format"
tbl_message_text TableNotEnded = codes "table not ended"
tbl_message_text (OptionIgnored option) = codes "option ignored: " ++ option.items
tbl_message_text (LeftOut letter) = codes "left out: " ++ letter ∷ []
tbl_message_text TooManyFields = codes "too many fields"
tbl_message_text (NotMeasured byte) = codes "not measured: \\" ++ byte ∷ []
tbl_message_text RequestInTextBlock = codes "request in text block"
tbl_message_text EntryCut = codes "entry cut"
tbl_message_text ReadFailed = codes "read failed"
tbl_message_text WriteFailed = codes "write failed"

-- a message as it is written: the command, the line of the input, what it says, and a newline
abbrev pub tbl_message_line : ℕ → Message → List ℕ
tbl_message_line line message = codes "tbl: line " ++ decimal line ++ codes ": " ++ tbl_message_text message ++ newline ∷ []

-- the same as an item of a tape
abbrev pub told_item : Told → Item
told_item told = OneNote (tbl_message_line told.line told.message)

-- the same of several, in order
abbrev pub told_items : List Told → List Item
told_items = map told_item
