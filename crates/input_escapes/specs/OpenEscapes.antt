-- What is half read: backslashes, comments, conditions, and names, sizes and texts behind escapes (manual, sections 2.3,
-- 7.2, 8, 10.1, 11 and 16).
--
-- Units of copy mode are handed down from what stands above: a byte, or an escape that is kept.
use Rattle.std.specs.Prelude.{ℕ, ℤ, pos, Bool, true, false, ◌&&◌, ◌||◌, List, [], ◌∷◌, take, nat_le, Option, Some, None, if◌then◌else◌, ◌==◌}
use Rattle.roff_num.specs.declared.direction.Direction.TheVariants.{Up, Down}
use Rattle.input_source.specs.Bytes.{start_of_text, tab, newline, quote, dot, backslash}
use Rattle.input_escapes.specs.Conditions.{byte_of_condition, condition_ended, unit_of_condition}
use Rattle.input_escapes.specs.Escapes.{escape_of, is_copied}
pub use Rattle.input_escapes.specs.OpenEscape.{Reads}
use Rattle.input_escapes.specs.OpenEscape.{OpenEscape, Backslash, Comment, Name, Size, Delimited, Width, Condition, unit_bytes, names_in, widths_in}
use Rattle.input_escapes.specs.Measures.{columns_of, wider, byte_columns, escape_measures, name_measures, motion_of}
use Rattle.input_escapes.specs.declared.escapes.Escape.{Escape as Kind}
use Rattle.input_escapes.specs.declared.escapes.Escape.TheVariants.{Comment as BeginsComment, Size as BeginsSize, Name as BeginsName, Text as BeginsText, Width as BeginsWidth}
use Rattle.input_escapes.specs.declared.escapes.NameUse.{NameUse}
use Rattle.input_escapes.specs.declared.escapes.NameUse.TheVariants.{Register, Argument, Character}
use Rattle.input_escapes.specs.declared.escapes.TextUse.{TextUse}
use Rattle.input_escapes.specs.declared.escapes.TextUse.TheVariants.{Motion as OfMotion, LeftOut as LeftOutText}
use Rattle.input_escapes.specs.declared.open_escape.SizePart.{SizePart}
use Rattle.input_escapes.specs.declared.open_escape.SizePart.TheVariants.{Nothing as NoSize, Sign, Digit}
use Rattle.input_escapes.specs.declared.open_escape.NamePart.{NamePart}
use Rattle.input_escapes.specs.declared.open_escape.NamePart.TheVariants.{Nothing, Opened, First}
use Rattle.input_escapes.specs.declared.open_escape.CopyUnit.{CopyUnit}
use Rattle.input_escapes.specs.declared.open_escape.CopyUnit.TheVariants.{Byte, Kept}
use Rattle.input_escapes.specs.declared.open_escape.Found.{Found}
use Rattle.input_escapes.specs.declared.open_escape.Found.TheVariants.{GoesOn, Unit as GivesUnit, Holds, Escape, Asks, Motion, Measures, Tells}
use Rattle.input_escapes.specs.declared.open_escape.Remark.{Remark}
use Rattle.input_escapes.specs.declared.open_escape.Surroundings.{Surroundings}
use Rattle.input_escapes.specs.declared.measures.Measured.{Measured}
use Rattle.input_escapes.specs.declared.open_escape.Surroundings.TheVariants.{Text as InText, Arguments as InArguments, Copy as InCopy}

-- within so many names a further one isn't read
abbrev pub most_names : ℕ
most_names = 8

-- within so many texts that are measured a further one isn't measured
abbrev pub most_widths : ℕ
most_widths = 8

-- the place on the input line, in basic units: that of a text line, and 0 elsewhere
abbrev pub place_above : Surroundings → ℤ
place_above (InText place) = place
place_above InArguments = pos 0
place_above InCopy = pos 0

-- how a backslash is read above these, which stand above a text line, above arguments, or in copy mode: within names and
-- texts too deep to be measured in copy mode, within texts between delimiters and conditions as in arguments, and within
-- measured ones as in text
abbrev pub surroundings : Surroundings → List OpenEscape → Surroundings
surroundings base [] = base
surroundings base (Delimited purpose d text ∷ rest) = InArguments
surroundings base (Width d width is_deep ∷ rest) = if is_deep then InCopy else InText (place_above base)
surroundings base (Condition part text ∷ rest) = InArguments
surroundings base (half ∷ rest) = InCopy

-- whether every escape is read there
abbrev pub reads_text : Surroundings → Bool
reads_text (InText place) = true
reads_text InArguments = false
reads_text InCopy = false

-- whether widths are
abbrev pub reads_widths : Surroundings → Bool
reads_widths (InText place) = true
reads_widths InArguments = true
reads_widths InCopy = false

-- what is said, if something is
abbrev pub told : Option Remark → Found
told None = GoesOn
told (Some remark) = Tells remark

-- a text that is measured grows by this
abbrev pub grown : List OpenEscape → Option ℕ → ℕ → Bool → Measured → Reads
grown rest d width is_deep measured = (told measured.remark, Width d (wider width measured.columns) is_deep ∷ rest)

-- an escape of the text without a name, above these: a text that is measured grows by it
abbrev pub escape_given : List OpenEscape → ℕ → Reads
escape_given (Width d width is_deep ∷ rest) b = grown rest d width is_deep (escape_measures b (escape_of b))
escape_given rest b = (Escape b, rest)

-- a motion, above these
abbrev pub motion_given : List OpenEscape → Measured → Reads
motion_given (Width d width is_deep ∷ rest) measured = grown rest d width is_deep measured
motion_given rest measured = (Motion measured.columns measured.remark, rest)

-- a name within a text that is measured: a register, a string or an argument is asked for, and else the text grows
abbrev pub name_measured : List OpenEscape → Option ℕ → ℕ → Bool → NameUse → Option (List ℕ) → Reads
name_measured rest d width is_deep purpose name =
    if is_copied purpose then (Asks purpose name, Width d width is_deep ∷ rest)
    else grown rest d width is_deep (name_measures purpose name)

-- a name that was read above these: a text that is measured grows by what isn't read in the escape's place
abbrev pub name_given : List OpenEscape → NameUse → Option (List ℕ) → Reads
name_given (Width d width is_deep ∷ rest) purpose name = name_measured rest d width is_deep purpose name
name_given rest purpose name = (Asks purpose name, rest)

-- a text between delimiters that is whole, at this place of the line, above these
abbrev pub text_given : ℤ → List OpenEscape → TextUse → List ℕ → Reads
text_given place rest OfMotion text = motion_given rest (motion_of place text)
text_given place rest (LeftOutText b) text = escape_given rest b

-- a name that is whole
abbrev pub name_whole : List OpenEscape → NameUse → List ℕ → Reads
name_whole rest purpose name = name_given rest purpose (Some name)

-- the first unit of a name is all of it, unless a parenthesis opens one of two bytes
abbrev pub name_or_opening : List OpenEscape → NameUse → ℕ → Reads
name_or_opening rest purpose b =
    if b == 40 then (GoesOn, Name purpose Opened ∷ rest) else name_whole rest purpose (b ∷ [])

-- the first byte of a name; behind `\n` it may be a sign, and behind `\$` it is the name, whatever it is
abbrev pub name_begun : List OpenEscape → NameUse → ℕ → Reads
name_begun rest (Register None) b =
    if b == 43 then (GoesOn, Name (Register (Some Up)) Nothing ∷ rest)
    else if b == 45 then (GoesOn, Name (Register (Some Down)) Nothing ∷ rest)
    else name_or_opening rest (Register None) b
name_begun rest Argument b = name_whole rest Argument (b ∷ [])
name_begun rest purpose b = name_or_opening rest purpose b

-- a unit of a name: where nothing of it is read, behind its parenthesis, and behind the first of two bytes
abbrev pub unit_of_name : List OpenEscape → NameUse → NamePart → CopyUnit → Reads
unit_of_name rest purpose Nothing (Byte b) = name_begun rest purpose b
unit_of_name rest purpose Nothing (Kept b) = name_whole rest purpose (unit_bytes (Kept b))
unit_of_name rest purpose Opened (Byte b) = (GoesOn, Name purpose (First b) ∷ rest)
unit_of_name rest purpose Opened (Kept b) = name_whole rest purpose (unit_bytes (Kept b))
unit_of_name rest purpose (First a) unit = name_whole rest purpose (take 2 (a ∷ unit_bytes unit))

-- a unit of a text between delimiters: a motion's is held, and one that is left out is dropped
abbrev pub unit_of_text : List OpenEscape → TextUse → Option ℕ → List ℕ → CopyUnit → Reads
unit_of_text rest OfMotion d text unit = (Holds unit, Delimited OfMotion d text ∷ rest)
unit_of_text rest (LeftOutText b) d text unit = (GoesOn, Delimited (LeftOutText b) d text ∷ rest)

-- a unit, where this is half read
abbrev pub unit_taken : List OpenEscape → CopyUnit → Reads
unit_taken [] unit = (GivesUnit unit, [])
unit_taken (Backslash ∷ rest) unit = (GoesOn, Backslash ∷ rest)
unit_taken (Comment ∷ rest) unit = (GoesOn, Comment ∷ rest)
unit_taken (Name purpose part ∷ rest) unit = unit_of_name rest purpose part unit
unit_taken (Size part ∷ rest) unit = (GoesOn, Size part ∷ rest)
unit_taken (Delimited purpose d text ∷ rest) unit = unit_of_text rest purpose d text unit
unit_taken (Width d width is_deep ∷ rest) unit = (GoesOn, Width d width is_deep ∷ rest)
unit_taken (Condition part text ∷ rest) unit = unit_of_condition rest part text unit

-- the byte behind a backslash of copy mode that begins nothing: a newline is dropped with its backslash
abbrev pub copied_escape : List OpenEscape → ℕ → Reads
copied_escape rest b =
    if b == newline then (GoesOn, rest)
    else if b == backslash then unit_taken rest (Byte backslash)
    else if b == dot then unit_taken rest (Byte dot)
    else if b == 116 then unit_taken rest (Byte tab)
    else unit_taken rest (Kept b)

-- how much of a name its escape has: `\(` is a parenthesis itself
abbrev pub part_at_first : NameUse → NamePart
part_at_first Character = Opened
part_at_first (_) = Nothing

-- a name begins, unless it would be one too many
abbrev pub name_beginning : List OpenEscape → NameUse → Reads
name_beginning rest purpose =
    (GoesOn, (if nat_le most_names (names_in rest) then rest else Name purpose (part_at_first purpose) ∷ rest))

-- a text that is measured begins, or one too deep for it
abbrev pub width_beginning : List OpenEscape → Reads
width_beginning rest = (GoesOn, Width None 0 (nat_le most_widths (widths_in rest)) ∷ rest)

-- a size is over: an escape of the text
abbrev pub size_over : List OpenEscape → Reads
size_over rest = escape_given rest 115

-- whether a byte is a sign, or a digit behind which another belongs to a size
abbrev pub is_sign : ℕ → Bool
is_sign b = b == 43 || b == 45

abbrev pub is_first_digit : ℕ → Bool
is_first_digit b = nat_le 49 b && nat_le b 51

-- a byte of a size: behind no sign a second digit belongs to it where the first is 1, 2 or 3
abbrev pub size_read : List OpenEscape → SizePart → ℕ → Reads
size_read rest NoSize b =
    if is_sign b then (GoesOn, Size Sign ∷ rest)
    else if is_first_digit b then (GoesOn, Size Digit ∷ rest)
    else size_over rest
size_read rest Sign b = size_over rest
size_read rest Digit b = size_over rest

-- the byte behind a backslash, by what it means in text. Comments begin everywhere, and so do some names.
abbrev pub escape_read : Surroundings → List OpenEscape → ℕ → Kind → Reads
escape_read around rest b BeginsComment = (GoesOn, Comment ∷ rest)
escape_read around rest b BeginsSize = if reads_text around then (GoesOn, Size NoSize ∷ rest) else copied_escape rest b
escape_read around rest b (BeginsName purpose) =
    if is_copied purpose || reads_text around then name_beginning rest purpose else unit_taken rest (Kept b)
escape_read around rest b (BeginsText purpose) =
    if reads_text around then (GoesOn, Delimited purpose None [] ∷ rest) else copied_escape rest b
escape_read around rest b BeginsWidth = if reads_widths around then width_beginning rest else copied_escape rest b
escape_read around rest b (_) = if reads_text around then escape_given rest b else copied_escape rest b

-- the byte behind a backslash; above a text line, above arguments, or in copy mode
abbrev pub escape_taken : Surroundings → List OpenEscape → ℕ → Reads
escape_taken base rest b = escape_read (surroundings base rest) rest b (escape_of b)

-- a byte of a text between delimiters: the first delimits it, whatever it is, and the same ends it
abbrev pub byte_of_text : ℤ → List OpenEscape → TextUse → Option ℕ → List ℕ → ℕ → Reads
byte_of_text place rest purpose None text b = (GoesOn, Delimited purpose (Some b) text ∷ rest)
byte_of_text place rest purpose (Some d) text b =
    if b == d then text_given place rest purpose text
    else if b == backslash then (GoesOn, Backslash ∷ Delimited purpose (Some d) text ∷ rest)
    else unit_of_text rest purpose (Some d) text (Byte b)

-- a byte of a text that is measured grows it, unless it stands too deep
abbrev pub byte_measured : List OpenEscape → Option ℕ → ℕ → Bool → ℕ → Reads
byte_measured rest d width is_deep b =
    if is_deep then (GoesOn, Width d width is_deep ∷ rest) else grown rest d width is_deep (columns_of (byte_columns b))

-- the same where its delimiter may come
abbrev pub byte_of_width : List OpenEscape → Option ℕ → ℕ → Bool → ℕ → Reads
byte_of_width rest None width is_deep b = (GoesOn, Width (Some b) width is_deep ∷ rest)
byte_of_width rest (Some d) width is_deep b =
    if b == d then (Measures width, rest)
    else if b == backslash then (GoesOn, Backslash ∷ Width (Some d) width is_deep ∷ rest)
    else byte_measured rest (Some d) width is_deep b

-- a byte that isn't dropped, where this is half read; above a text line, above arguments, or in copy mode
abbrev pub byte_read : Surroundings → List OpenEscape → ℕ → Reads
byte_read base [] b = if b == backslash then (GoesOn, Backslash ∷ []) else (GivesUnit (Byte b), [])
byte_read base (Backslash ∷ rest) b = escape_taken base rest b
byte_read base (Comment ∷ rest) b = (GoesOn, Comment ∷ rest)
byte_read base (Name purpose part ∷ rest) b =
    if b == backslash then (GoesOn, Backslash ∷ Name purpose part ∷ rest) else unit_of_name rest purpose part (Byte b)
byte_read base (Size part ∷ rest) b = size_read rest part b
byte_read base (Delimited purpose d text ∷ rest) b = byte_of_text (place_above base) rest purpose d text b
byte_read base (Width d width is_deep ∷ rest) b = byte_of_width rest d width is_deep b
byte_read base (Condition part text ∷ rest) b = byte_of_condition rest part text b

-- a name that ends before a newline or the input's end: without a byte it is none
abbrev pub name_ended : List OpenEscape → NameUse → NamePart → Reads
name_ended rest purpose Nothing = name_given rest purpose None
name_ended rest purpose Opened = name_given rest purpose None
name_ended rest purpose (First a) = name_whole rest purpose (a ∷ [])

-- The reading on top ends before what stays. A backslash of copy mode is a byte, and one of the text an escape
-- that gives nothing, as before STX. A comment of the text is an escape. Texts end as at their delimiter.
abbrev pub reading_ended : Surroundings → List OpenEscape → Reads
reading_ended base [] = (GoesOn, [])
reading_ended base (Backslash ∷ rest) =
    if reads_text (surroundings base rest) then escape_given rest start_of_text else unit_taken rest (Byte backslash)
reading_ended base (Comment ∷ rest) =
    if reads_text (surroundings base rest) then escape_given rest quote else (GoesOn, rest)
reading_ended base (Name purpose part ∷ rest) = name_ended rest purpose part
reading_ended base (Size part ∷ rest) = size_over rest
reading_ended base (Delimited purpose d text ∷ rest) = text_given (place_above base) rest purpose text
reading_ended base (Width d width is_deep ∷ rest) = (Measures width, rest)
reading_ended base (Condition part text ∷ rest) = condition_ended rest part text
