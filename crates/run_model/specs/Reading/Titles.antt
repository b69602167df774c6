-- The request `tl`: its delimiter, and the three parts of a title (manual, section 14).
--
-- A part is read as text is, but for the delimiter, which comes before all else, and the page number's character, which comes
-- behind escapes. Behind the last delimiter the line is read as arguments.
use Rattle.std.specs.Prelude.{ℕ, Bool, false, ◌||◌, List, [], ◌∷◌, replicate, Option, Some, None, if◌then◌else◌, ◌==◌}
use Rattle.page_model.specs.Glyphs.{glyph_blank}
use Rattle.page_model.specs.Titles.{page_mark}
use Rattle.input_source.specs.Bytes.{tab, newline, blank, backslash, is_silent}
use Rattle.input_escapes.specs.Characters.{character}
use Rattle.input_escapes.specs.Escapes.{escape_of}
use Rattle.input_model.specs.Input.{holding_text}
use Rattle.input_escapes.specs.declared.escapes.Escape.{Escape as Kind}
use Rattle.input_escapes.specs.declared.escapes.Escape.TheVariants.{Prints, Blank, LeftOut as IsLeftOut, Text as BeginsText}
use Rattle.input_escapes.specs.declared.escapes.NameUse.{NameUse}
use Rattle.input_escapes.specs.declared.escapes.NameUse.TheVariants.{Character, Font, LeftOut as NameLeftOut}
use Rattle.input_escapes.specs.declared.escapes.TextUse.TheVariants.{LeftOut as LeftOutText}
use Rattle.input_escapes.specs.declared.open_escape.CopyUnit.{CopyUnit}
use Rattle.input_escapes.specs.declared.open_escape.CopyUnit.TheVariants.{Byte, Kept}
use Rattle.input_escapes.specs.declared.open_escape.Found.{Found}
use Rattle.input_escapes.specs.declared.open_escape.Found.TheVariants.{GoesOn, Unit, Holds, Escape, Asks, Motion, Measures, Tells, Decides}
use Rattle.run_model.specs.Messages.{character_name, remark_messages}
use Rattle.run_model.specs.declared.message.Message.{Message}
use Rattle.run_model.specs.declared.message.Message.TheVariants.{LeftOut, UnknownCharacter}
use Rattle.run_model.specs.declared.line_state.LineState.TheVariants.{Title as InTitle, TitleFront, Collecting}
use Rattle.run_model.specs.declared.purpose.Purpose.TheVariants.{Arguments as InArguments}
use Rattle.run_model.specs.declared.request.Request.TheVariants.{Title as TitleRequest}
use Rattle.run_model.specs.Reading.Arguments.{line_ended}
use Rattle.run_model.specs.Reading.Escapes.{measuring, asking}
use Rattle.run_model.specs.Reading.Items.{PageInput, Taking, going_on, telling}
use Rattle.run_model.specs.Registers.{Change, Known, TitleBegins, TitleGets, PartEnds}
use Rattle.run_model.specs.TitleTexts.{TitlePart, Left, Centre, Right}

-- a title is read on between these delimiters, the registers change so, and this is said
abbrev pub title_taking : PageInput → ℕ → List Change → List Message → Taking
title_taking i delimiter changes messages = record {
  input = i;
  reading = InTitle delimiter;
  effect = record { messages = messages; changes = changes; calls = []; events = [] };
}

-- bytes of the part that is read
abbrev pub part_taking : PageInput → ℕ → List ℕ → Taking
part_taking i delimiter bytes = title_taking i delimiter (TitleGets bytes ∷ []) []

-- what gives nothing
abbrev pub nothing_taking : PageInput → ℕ → Taking
nothing_taking i delimiter = going_on i (InTitle delimiter)

-- what gives nothing, and of which this is said
abbrev pub saying_taking : PageInput → ℕ → Message → Taking
saying_taking i delimiter message = title_taking i delimiter [] (message ∷ [])

-- whether a byte is the page number's character, if there is one
abbrev pub is_page_character : Option ℕ → ℕ → Bool
is_page_character None b = false
is_page_character (Some c) b = b == c

-- what a byte of a part stands for: the page number, a blank, nothing, or itself
abbrev pub bytes_for : Known → ℕ → List ℕ
bytes_for k b =
    if is_page_character k.registers.page_character b then page_mark ∷ []
    else if b == blank then glyph_blank ∷ []
    else if b == tab || is_silent b then []
    else b ∷ []

-- the end of the line: the title is placed
abbrev pub title_ended : Known → PageInput → Taking
title_ended k i = line_ended k i false TitleRequest

-- a delimiter: the next part is read, or behind the last one arguments
abbrev pub behind_part : PageInput → ℕ → TitlePart → Taking
behind_part i delimiter Left = title_taking i delimiter (PartEnds ∷ []) []
behind_part i delimiter Centre = title_taking i delimiter (PartEnds ∷ []) []
behind_part i delimiter Right = going_on i (Collecting (InArguments false TitleRequest))

-- a byte of a part that is no delimiter
abbrev pub title_byte : Known → PageInput → ℕ → ℕ → Taking
title_byte k i delimiter b = if b == newline then title_ended k i else part_taking i delimiter (bytes_for k b)

-- an escape without a name, by what it is and by the byte behind its backslash
abbrev pub escape_in_title : PageInput → ℕ → ℕ → Kind → Taking
escape_in_title i delimiter b (Prints byte) = part_taking i delimiter (byte ∷ [])
escape_in_title i delimiter b Blank = part_taking i delimiter (glyph_blank ∷ [])
escape_in_title i delimiter b IsLeftOut = saying_taking i delimiter (LeftOut (backslash ∷ b ∷ []))
escape_in_title i delimiter b (BeginsText (LeftOutText byte)) = saying_taking i delimiter (LeftOut (backslash ∷ byte ∷ []))
escape_in_title i delimiter b (_) = nothing_taking i delimiter

abbrev pub title_escape : PageInput → ℕ → ℕ → Taking
title_escape i delimiter b = escape_in_title i delimiter b (escape_of b)

-- a character, by its text, if one has the name
abbrev pub character_put : PageInput → ℕ → Option (List ℕ) → Option (List ℕ) → Taking
character_put i delimiter name (Some text) = part_taking i delimiter text
character_put i delimiter name None = saying_taking i delimiter (UnknownCharacter (character_name name))

-- and by its name, if there is one
abbrev pub title_character : PageInput → ℕ → Option (List ℕ) → Taking
title_character i delimiter (Some name) = character_put i delimiter (Some name) (character name)
title_character i delimiter None = character_put i delimiter None None

-- the name behind an escape
abbrev pub title_name : Known → PageInput → ℕ → NameUse → Option (List ℕ) → Taking
title_name k i delimiter Character name = title_character i delimiter name
title_name k i delimiter Font name = nothing_taking i delimiter
title_name k i delimiter (NameLeftOut b) name = saying_taking i delimiter (LeftOut (backslash ∷ b ∷ []))
title_name k i delimiter purpose name = asking k i (InTitle delimiter) purpose name

-- a motion of so many columns, which are blanks, and what is said of it
abbrev pub title_motion : PageInput → ℕ → ℕ → List Message → Taking
title_motion i delimiter columns messages = title_taking i delimiter (TitleGets (replicate columns glyph_blank) ∷ []) messages

-- what was found of a part
abbrev pub title_found : Known → PageInput → ℕ → Found → Taking
title_found k i delimiter GoesOn = nothing_taking i delimiter
title_found k i delimiter (Unit (Byte b)) = title_byte k i delimiter b
title_found k i delimiter (Unit (Kept b)) = title_escape i delimiter b
title_found k i delimiter (Holds unit) = going_on (holding_text unit i) (InTitle delimiter)
title_found k i delimiter (Escape b) = title_escape i delimiter b
title_found k i delimiter (Asks purpose name) = title_name k i delimiter purpose name
title_found k i delimiter (Motion columns remark) = title_motion i delimiter columns (remark_messages remark)
title_found k i delimiter (Measures width) = measuring i (InTitle delimiter) width
title_found k i delimiter (Tells remark) = telling i (InTitle delimiter) remark
title_found k i delimiter (Decides decision freed) = nothing_taking i delimiter

-- the delimiter in front of the parts: a title begins, of whose left part these bytes are read
abbrev pub title_opened : PageInput → ℕ → List ℕ → Taking
title_opened i delimiter bytes = title_taking i delimiter (TitleBegins bytes ∷ []) []

-- a line without a delimiter: the title is empty
abbrev pub empty_title_ended : Known → PageInput → Taking
empty_title_ended k i =
    let t : Taking = title_ended k i in record t { effect = record t.effect { changes = TitleBegins [] ∷ t.effect.changes } }

-- A unit in front of the parts, as arguments are read: the first one that is no blank is the delimiter; of an escape that is kept
-- it is the backslash, and its second byte is one of the left part.
abbrev pub title_front_unit : Known → PageInput → CopyUnit → Taking
title_front_unit k i (Byte b) =
    if b == newline then empty_title_ended k i
    else if b == blank then going_on i TitleFront
    else title_opened i b []
title_front_unit k i (Kept b) = title_opened i backslash (bytes_for k b)
