-- The items of a text of a table: what its bytes print, as the formatter reads them (Lesk, "Tbl"; Ossanna and Kernighan, "Troff
-- User's Manual", the list of escape sequences, sections 2.3, 7.2, 8, 10.1 and 11).
--
-- An item begins with nothing half read, and ends where nothing is half read any more: what was found then is what it is. What
-- is found above other readings is passed over. Bytes that are dropped as they are taken change no reading, and are items of
-- their own between items. At the text's end every reading ends.
use Rattle.std.specs.Prelude.{ℕ, zero, suc, pos, ◌+◌, Bool, true, false, not, List, [], ◌∷◌, fold, length, take, drop, Option, Some, None, if◌then◌else◌, ◌==◌}
use Rattle.roff_num.specs.Widths.{byte_width}
use Rattle.input_source.specs.Bytes.{blank, tab, backslash, is_dropped, is_silent}
use Rattle.input_escapes.specs.Characters.{character}
use Rattle.input_escapes.specs.Escapes.{escape_of}
use Rattle.input_escapes.specs.Nesting.{is_nothing}
use Rattle.input_escapes.specs.OpenEscape.{OpenEscape, Reads}
use Rattle.input_escapes.specs.OpenEscapes.{byte_read, reading_ended}
use Rattle.input_escapes.specs.Waiting.{is_ended_by}
use Rattle.input_escapes.specs.declared.escapes.Escape.{Escape as Kind}
use Rattle.input_escapes.specs.declared.escapes.Escape.TheVariants.{Prints, Blank as PrintsBlank, NoWidth, Tab, Interrupts, Brace, LeftOut, Text as BeginsText}
use Rattle.input_escapes.specs.declared.escapes.NameUse.{NameUse}
use Rattle.input_escapes.specs.declared.escapes.NameUse.TheVariants.{Register, Text as ReadsText, Argument, Character, Font, LeftOut as LeftOutName}
use Rattle.input_escapes.specs.declared.escapes.TextUse.TheVariants.{LeftOut as LeftOutText}
use Rattle.input_escapes.specs.declared.open_escape.Found.{Found}
use Rattle.input_escapes.specs.declared.open_escape.Found.TheVariants.{Escape, Asks, Motion, Measures}
use Rattle.input_escapes.specs.declared.open_escape.Surroundings.{Surroundings}
use Rattle.input_escapes.specs.declared.open_escape.Surroundings.TheVariants.{Text as InText}
use Rattle.tbl_text.specs.declared.items.What.{What}
use Rattle.tbl_text.specs.declared.items.What.TheVariants.{Blank, Byte, Glyph, Ampersand, NotMeasured, Nothing, Dropped}

-- an item of a text: its bytes, and what they are
pub record Item : Type 0 where
  pub bytes : List ℕ
  pub what : What

-- the columns of an item
abbrev pub columns : What → ℕ
columns Blank = 1
columns (Byte b) = byte_width b
columns (Glyph n) = n
columns Ampersand = 0
columns (NotMeasured b) = 0
columns Nothing = 0
columns Dropped = 0

-- whether it is a blank between words
abbrev pub is_blank : What → Bool
is_blank Blank = true
is_blank (_) = false

-- whether it is a glyph, with width or without
abbrev pub is_glyph : What → Bool
is_glyph Blank = false
is_glyph (Byte b) = true
is_glyph (Glyph n) = true
is_glyph Ampersand = true
is_glyph (NotMeasured b) = true
is_glyph Nothing = false
is_glyph Dropped = false

-- the byte that it prints, if it is a glyph of one byte
abbrev pub printed : What → Option ℕ
printed (Byte b) = Some b
printed (_) = None

-- the byte by which it is told that it isn't measured
abbrev pub note : What → Option ℕ
note (NotMeasured b) = Some b
note (_) = None

-- whether it is `\&`
abbrev pub is_ampersand : What → Bool
is_ampersand Ampersand = true
is_ampersand (_) = false

-- what a byte is that is no backslash; a tab is told as `\t`
abbrev pub byte_what : ℕ → What
byte_what b =
    if b == blank then Blank
    else if b == tab then NotMeasured 116
    else if is_dropped b then Dropped
    else if is_silent b then Nothing
    else Byte b

-- what an escape without a name is, by the byte behind its backslash and its row in the table of escapes
abbrev pub escape_what : ℕ → Kind → What
escape_what b (Prints byte) = Byte byte
escape_what b PrintsBlank = Glyph 1
escape_what b NoWidth = Ampersand
escape_what b Tab = NotMeasured 116
escape_what b Interrupts = NotMeasured b
escape_what b Brace = NotMeasured b
escape_what b LeftOut = NotMeasured b
escape_what b (BeginsText (LeftOutText letter)) = NotMeasured letter
escape_what b (_) = Nothing

-- what a character is, by its text, if one has the name
abbrev pub character_what : Option (List ℕ) → What
character_what (Some (b ∷ [])) = Byte b
character_what (Some text) = Glyph (length text)
character_what None = Nothing

-- what an escape with a name is
abbrev pub name_what : NameUse → Option (List ℕ) → What
name_what (Register step) name = NotMeasured 110
name_what ReadsText name = NotMeasured 42
name_what Argument name = NotMeasured 36
name_what (LeftOutName b) name = NotMeasured b
name_what Font name = Nothing
name_what Character (Some name) = character_what (character name)
name_what Character None = Nothing

-- what an escape is, by what was found where nothing is half read any more
abbrev pub found_what : Found → What
found_what (Escape b) = escape_what b (escape_of b)
found_what (Asks purpose name) = name_what purpose name
found_what (Motion columns remark) = NotMeasured 104
found_what (Measures width) = NotMeasured 119
found_what (_) = Nothing

-- each text begins at the beginning of a line
abbrev pub line_start : Surroundings
line_start = InText (pos 0)

-- whether what comes next ends the reading on top: a byte that stays, or the text's end
abbrev pub is_ended : Option ℕ → List OpenEscape → Bool
is_ended None half = not (is_nothing half)
is_ended (Some b) half = is_ended_by half (Some b)

-- readings end before what comes next, the innermost first, so many at most
abbrev pub ended : ℕ → Option ℕ → Reads → Reads
ended zero next read = read
ended (suc most) next read = if is_ended next read.1 then ended most next (reading_ended line_start read.1) else read

-- all that it ends: each reading ends in two steps at most
abbrev pub all_ended : Option ℕ → Reads → Reads
all_ended next read = ended (length read.1 + length read.1) next read

-- an escape as far as it is read: how many bytes it has, how many were looked at, and what the last of these found and left half
-- read
pub record Reading : Type 0 where
  pub len : ℕ
  pub seen : ℕ
  pub read : Reads

-- the same by its parts
abbrev pub reading : ℕ → ℕ → Found → List OpenEscape → Reading
reading len seen found half = record { len = len; seen = seen; read = (found, half) }

-- its backslash is read
abbrev pub begun : Reading
begun = record { len = 1; seen = 1; read = byte_read line_start [] backslash }

-- a byte is taken that isn't dropped, where this is half read: one that was whole before it is left
abbrev pub taken : Reading → ℕ → List OpenEscape → Reading
taken r b [] = r
taken r b half = record { len = r.seen + 1; seen = r.seen + 1; read = byte_read line_start half b }

-- a byte is met: an escape that is whole stays as it is
abbrev pub met : Reading → ℕ → Reading
met r b =
    if is_nothing r.read.1 then r
    else if is_dropped b then record r { seen = r.seen + 1 }
    else let before = all_ended (Some b) r.read in taken (record r { read = before }) b before.1

-- an escape of which this is read, behind these bytes, which are the last
abbrev pub whole : Reading → List ℕ → Reading
whole r text = let last = fold met r text in record last { read = all_ended None last.read }

-- the item that an escape is, of which so much is read in a text, behind these bytes
abbrev pub item_read : List ℕ → Reading → Item
item_read text r = record { bytes = take r.len text; what = found_what r.read.0 }

-- the first item of a text
abbrev pub first_item : ℕ → List ℕ → Item
first_item b text =
    if b == backslash then item_read (b ∷ text) (whole begun text)
    else record { bytes = b ∷ []; what = byte_what b }

-- the first items of a text, so many at most
abbrev pub first_items : ℕ → List ℕ → List Item
first_items zero text = []
first_items (suc most) [] = []
first_items (suc most) (b ∷ text) =
    let item = first_item b text in
    item ∷ first_items most (drop (length item.bytes) (b ∷ text))

-- the items of a text: no more than its bytes
abbrev pub items : List ℕ → List Item
items text = first_items (length text) text
