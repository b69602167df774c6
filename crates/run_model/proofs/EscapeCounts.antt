-- How many endings are to come behind what is read, and how many each byte may add.
use Rattle.std.proofs.Common.{◌≡◌, ℕ, ℤ, ◌+◌, ◌≤◌, Bool, true, false, List, [], ◌∷◌, Option, Some, None, refl, arith, ◌&&◌, ◌||◌, not, nat_le, Result, Ok, Err, if◌then◌else◌, ◌==◌}
use Rattle.roff_num.specs.declared.num.Num.{Num}
use Rattle.roff_num.specs.declared.num.NumFault.{NumFault}
use Rattle.input_source.specs.Bytes.{start_of_text, tab, newline, blank, quote, dot, backslash}
use Rattle.input_escapes.specs.Conditions.{begins_expression, expression_valued, expression_over, delimiter_met, choice_made, unit_of_condition, byte_or_backslash, byte_of_condition, condition_ended}
use Rattle.input_escapes.specs.Escapes.{escape_of, is_copied}
use Rattle.input_escapes.specs.OpenEscape.{OpenEscape, Backslash, Comment, Name, Size, Delimited, Width, Condition, names_in}
use Rattle.input_escapes.specs.OpenEscapes.{Reads, most_names, place_above, surroundings, reads_text, reads_widths, told, escape_given, motion_given, name_given, text_given, name_beginning, name_or_opening, name_begun, unit_of_name, unit_of_text, unit_taken, copied_escape, escape_read, is_sign, is_first_digit, size_read, byte_of_text, byte_of_width, byte_read, name_ended, reading_ended}
use Rattle.input_escapes.specs.Measures.{escape_measures, motion_of, name_measures}
use Rattle.input_escapes.specs.declared.escapes.Escape.{Escape as Kind}
use Rattle.input_escapes.specs.declared.escapes.Escape.TheVariants.{Prints, Blank, NoWidth, Nothing as GivesNothing, Tab as GivesTab, Interrupts, Brace, LeftOut as IsLeftOut, Comment as BeginsComment, Size as BeginsSize, Name as BeginsName, Text as BeginsText, Width as BeginsWidth}
use Rattle.input_escapes.specs.declared.escapes.NameUse.{NameUse}
use Rattle.input_escapes.specs.declared.escapes.NameUse.TheVariants.{Register, Text, Argument, Character, Font, LeftOut}
use Rattle.input_escapes.specs.declared.escapes.TextUse.{TextUse}
use Rattle.input_escapes.specs.declared.escapes.TextUse.TheVariants.{Motion as OfMotion, LeftOut as LeftOutText}
use Rattle.input_escapes.specs.declared.open_escape.ConditionPart.{ConditionPart}
use Rattle.input_escapes.specs.declared.open_escape.ConditionPart.TheVariants.{Choice, Expression, Decided, Compared}
use Rattle.input_escapes.specs.declared.open_escape.CopyUnit.{CopyUnit}
use Rattle.input_escapes.specs.declared.open_escape.CopyUnit.TheVariants.{Byte, Kept}
use Rattle.input_escapes.specs.declared.open_escape.Found.{Found}
use Rattle.input_escapes.specs.declared.open_escape.Found.TheVariants.{Decides}
use Rattle.input_escapes.specs.declared.open_escape.Remark.{Remark}
use Rattle.input_escapes.specs.declared.open_escape.SizePart.{SizePart}
use Rattle.input_escapes.specs.declared.open_escape.SizePart.TheVariants.{Nothing as NoSize, Sign, Digit}
use Rattle.input_escapes.specs.declared.open_escape.NamePart.{NamePart}
use Rattle.input_escapes.specs.declared.open_escape.NamePart.TheVariants.{Nothing, Opened, First}
use Rattle.input_escapes.specs.declared.open_escape.Surroundings.{Surroundings}
use Rattle.run_model.specs.TurnsToCome.{endings_of}

-- what a byte that a condition leaves may begin
abbrev pub freed_endings : Found → ℕ
freed_endings (Decides decision (Some b)) = 1
freed_endings (_) = 0

-- what was found leaves so many endings to come
abbrev pub Leaves : ℕ → Reads → Type 0
Leaves most r = endings_of r.1 + freed_endings r.0 ≤ most

-- and fewer than so many
abbrev pub Falls : ℕ → Reads → Type 0
Falls most r = endings_of r.1 + freed_endings r.0 + 1 ≤ most

-- what is half read has an end
pub some_ending : (first : OpenEscape) (rest : List OpenEscape) → endings_of rest + 1 ≤ endings_of (first ∷ rest)
some_ending Backslash rest = omega arith
some_ending Comment rest = omega arith
some_ending (Name purpose part) rest = omega arith
some_ending (Size part) rest = omega arith
some_ending (Delimited purpose d text) rest = omega arith
some_ending (Width d width is_deep) rest = omega arith
some_ending (Condition (Choice negated) text) rest = omega arith
some_ending (Condition (Expression negated) text) rest = omega arith
some_ending (Condition (Decided decision None) text) rest = omega arith
some_ending (Condition (Decided decision (Some b)) text) rest = omega arith
some_ending (Condition (Compared negated d first) text) rest = omega arith

-- either of two, by a test
Leaves-if : (most : ℕ) (b : Bool) (r s : Reads) → Leaves most r → Leaves most s → Leaves most (if b then r else s)
Leaves-if most true r s first second = first
Leaves-if most false r s first second = second

-- what is told, or isn't, decides nothing
told_nothing : (remark : Option Remark) → freed_endings (told remark) ≡ 0
told_nothing None = refl
told_nothing (Some remark) = refl

-- an escape without a name, a motion or a name, above these
Leaves-escape_given : (rest : List OpenEscape) (b : ℕ) → Leaves (endings_of rest) (escape_given rest b)
Leaves-escape_given [] b = omega arith
Leaves-escape_given (Backslash ∷ rest) b = omega arith
Leaves-escape_given (Comment ∷ rest) b = omega arith
Leaves-escape_given (Name purpose part ∷ rest) b = omega arith
Leaves-escape_given (Size part ∷ rest) b = omega arith
Leaves-escape_given (Delimited purpose d text ∷ rest) b = omega arith
Leaves-escape_given (Width d width is_deep ∷ rest) b = omega (arith, told_nothing (escape_measures b (escape_of b)).remark)
Leaves-escape_given (Condition part text ∷ rest) b = omega arith

Leaves-motion_given : (place : ℤ) (rest : List OpenEscape) (text : List ℕ) → Leaves (endings_of rest) (motion_given rest (motion_of place text))
Leaves-motion_given place [] text = omega arith
Leaves-motion_given place (Backslash ∷ rest) text = omega arith
Leaves-motion_given place (Comment ∷ rest) text = omega arith
Leaves-motion_given place (Name purpose part ∷ rest) text = omega arith
Leaves-motion_given place (Size part ∷ rest) text = omega arith
Leaves-motion_given place (Delimited purpose d held ∷ rest) text = omega arith
Leaves-motion_given place (Width d width is_deep ∷ rest) text = omega (arith, told_nothing (motion_of place text).remark)
Leaves-motion_given place (Condition part held ∷ rest) text = omega arith

Leaves-name_given : (rest : List OpenEscape) (purpose : NameUse) (name : Option (List ℕ)) → Leaves (endings_of rest) (name_given rest purpose name)
Leaves-name_given [] purpose name = omega arith
Leaves-name_given (Backslash ∷ rest) purpose name = omega arith
Leaves-name_given (Comment ∷ rest) purpose name = omega arith
Leaves-name_given (Name other part ∷ rest) purpose name = omega arith
Leaves-name_given (Size part ∷ rest) purpose name = omega arith
Leaves-name_given (Delimited other d text ∷ rest) purpose name = omega arith
Leaves-name_given (Width d width is_deep ∷ rest) purpose name =
    Leaves-if _ (is_copied purpose) _ _ (omega arith) (omega (arith, told_nothing (name_measures purpose name).remark))
Leaves-name_given (Condition part text ∷ rest) purpose name = omega arith

-- a text between delimiters, at a place of the line
Leaves-text_given : (place : ℤ) (rest : List OpenEscape) (purpose : TextUse) (text : List ℕ) → Leaves (endings_of rest) (text_given place rest purpose text)
Leaves-text_given place rest OfMotion text = Leaves-motion_given place rest text
Leaves-text_given place rest (LeftOutText b) text = Leaves-escape_given rest b

-- what leaves no more leaves one more at most
one_more : (r : Reads) (rest : List OpenEscape) → Leaves (endings_of rest) r → Leaves (endings_of rest + 1) r
one_more r rest leaves = omega (arith, leaves)

-- a name that is whole
Leaves-name_whole : (rest : List OpenEscape) (purpose : NameUse) (name : Option (List ℕ)) → Leaves (endings_of rest + 1) (name_given rest purpose name)
Leaves-name_whole rest purpose name = one_more (name_given rest purpose name) rest (Leaves-name_given rest purpose name)

-- a name, or the parenthesis of one
Leaves-name_or_opening : (rest : List OpenEscape) (purpose : NameUse) (b : ℕ) → Leaves (endings_of rest + 1) (name_or_opening rest purpose b)
Leaves-name_or_opening rest purpose b = Leaves-if _ (b == 40) _ _ (omega arith) (Leaves-name_whole rest purpose (Some (b ∷ [])))

-- the first byte of a name
Leaves-name_begun : (rest : List OpenEscape) (purpose : NameUse) (b : ℕ)
    → Leaves (endings_of rest + 1) (name_begun rest purpose b)
Leaves-name_begun rest (Register None) b =
    Leaves-if _ (b == 43) _ _ (omega arith) (Leaves-if _ (b == 45) _ _ (omega arith) (Leaves-name_or_opening rest (Register None) b))
Leaves-name_begun rest (Register (Some direction)) b = Leaves-name_or_opening rest (Register (Some direction)) b
Leaves-name_begun rest Text b = Leaves-name_or_opening rest Text b
Leaves-name_begun rest Argument b = Leaves-name_whole rest Argument (Some (b ∷ []))
Leaves-name_begun rest Character b = Leaves-name_or_opening rest Character b
Leaves-name_begun rest Font b = Leaves-name_or_opening rest Font b
Leaves-name_begun rest (LeftOut byte) b = Leaves-name_or_opening rest (LeftOut byte) b

-- a unit of a name
Leaves-unit_of_name : (rest : List OpenEscape) (purpose : NameUse) (part : NamePart) (unit : CopyUnit) → Leaves (endings_of rest + 1) (unit_of_name rest purpose part unit)
Leaves-unit_of_name rest purpose Nothing (Byte b) = Leaves-name_begun rest purpose b
Leaves-unit_of_name rest purpose Nothing (Kept b) = Leaves-name_whole rest purpose (Some (backslash ∷ b ∷ []))
Leaves-unit_of_name rest purpose Opened (Kept b) = Leaves-name_whole rest purpose (Some (backslash ∷ b ∷ []))
Leaves-unit_of_name rest purpose Opened (Byte b) = omega arith
Leaves-unit_of_name rest purpose (First a) unit = Leaves-name_whole rest purpose _

-- a unit of a text between delimiters
Leaves-unit_of_text : (rest : List OpenEscape) (purpose : TextUse) (d : Option ℕ) (text : List ℕ) (unit : CopyUnit)
    → Leaves (endings_of rest + 1) (unit_of_text rest purpose d text unit)
Leaves-unit_of_text rest OfMotion d text unit = omega arith
Leaves-unit_of_text rest (LeftOutText b) d text unit = omega arith

-- an expression that a byte ends, and one that ends before what stays
Leaves-freed : (rest : List OpenEscape) (negated : Bool) (b : ℕ) (text : List ℕ) (value : Result (Num × ℕ) NumFault) → Leaves (endings_of rest + 2) (expression_valued rest negated (Some b) text value)
Leaves-freed rest negated b text (Ok r) = omega arith
Leaves-freed rest negated b text (Err fault) = omega arith

Leaves-valued : (rest : List OpenEscape) (negated : Bool) (text : List ℕ) (value : Result (Num × ℕ) NumFault) → Leaves (endings_of rest + 1) (expression_valued rest negated None text value)
Leaves-valued rest negated text (Ok r) = omega arith
Leaves-valued rest negated text (Err fault) = omega arith

-- the byte that says what is asked
pub Leaves-choice_made : (rest : List OpenEscape) (negated : Bool) (text : List ℕ) (b : ℕ) → Leaves (endings_of rest + 2) (choice_made rest negated text b)
Leaves-choice_made rest negated text b =
    Leaves-if _ (b == blank && not negated) _ _ (omega arith)
    (Leaves-if _ (b == 33 && not negated) _ _ (omega arith)
    (Leaves-if _ (b == 111) _ _ (omega arith)
    (Leaves-if _ (b == 101) _ _ (omega arith)
    (Leaves-if _ (b == 116) _ _ (omega arith)
    (Leaves-if _ (b == 110) _ _ (omega arith) (Leaves-if _ (begins_expression b) _ _ (omega arith) (omega arith)))))))

-- the delimiter of texts
Leaves-delimiter_met : (rest : List OpenEscape) (negated : Bool) (d : ℕ) (first : Option ℕ) (text : List ℕ) → Leaves (endings_of rest + 2) (delimiter_met rest negated d first text)
Leaves-delimiter_met rest negated d None text = omega arith
Leaves-delimiter_met rest negated d (Some first) text = omega arith

-- a unit of a condition
Leaves-unit_of_condition : (rest : List OpenEscape) (part : ConditionPart) (text : List ℕ) (unit : CopyUnit)
    → Leaves (endings_of (Condition part text ∷ rest)) (unit_of_condition rest part text unit)
Leaves-unit_of_condition rest (Choice negated) text (Byte b) = Leaves-choice_made rest negated text b
Leaves-unit_of_condition rest (Choice negated) text (Kept b) = omega arith
Leaves-unit_of_condition rest (Expression negated) text (Byte b) =
    Leaves-if _ (b == backslash || b == tab) _ _ (Leaves-freed rest negated b text _) (omega arith)
Leaves-unit_of_condition rest (Expression negated) text (Kept b) = omega arith
Leaves-unit_of_condition rest (Compared negated d first) text unit = omega arith
Leaves-unit_of_condition rest (Decided decision None) text unit = omega arith
Leaves-unit_of_condition rest (Decided decision (Some b)) text unit = omega arith

-- a byte of one that is no delimiter
Leaves-byte_or_backslash : (rest : List OpenEscape) (part : ConditionPart) (text : List ℕ) (b : ℕ)
    → Leaves (endings_of (Condition part text ∷ rest) + 1) (byte_or_backslash rest part text b)
Leaves-byte_or_backslash rest part text b =
    Leaves-if _ (b == backslash) _ _ (omega arith)
    (let taken : Leaves (endings_of (Condition part text ∷ rest)) (unit_of_condition rest part text (Byte b)) = Leaves-unit_of_condition rest part text (Byte b) in
    omega (arith, taken))

-- a byte of one
Leaves-byte_of_condition : (rest : List OpenEscape) (part : ConditionPart) (text : List ℕ) (b : ℕ)
    → Leaves (endings_of (Condition part text ∷ rest) + 1) (byte_of_condition rest part text b)
Leaves-byte_of_condition rest (Compared negated d first) text b =
    Leaves-if _ (b == d) _ _
    (let met : Leaves (endings_of rest + 2) (delimiter_met rest negated d first text) = Leaves-delimiter_met rest negated d first text in omega (arith, met))
    (Leaves-byte_or_backslash rest (Compared negated d first) text b)
Leaves-byte_of_condition rest (Choice negated) text b = Leaves-byte_or_backslash rest (Choice negated) text b
Leaves-byte_of_condition rest (Expression negated) text b = Leaves-byte_or_backslash rest (Expression negated) text b
Leaves-byte_of_condition rest (Decided decision freed) text b = Leaves-byte_or_backslash rest (Decided decision freed) text b

-- a condition ends
Falls-condition_ended : (rest : List OpenEscape) (part : ConditionPart) (text : List ℕ) → Falls (endings_of (Condition part text ∷ rest)) (condition_ended rest part text)
Falls-condition_ended rest (Choice negated) text = omega arith
Falls-condition_ended rest (Expression negated) text =
    let valued : Leaves (endings_of rest + 1) (expression_over rest negated None text) = Leaves-valued rest negated text _ in omega (arith, valued)
Falls-condition_ended rest (Compared negated d first) text = omega arith
Falls-condition_ended rest (Decided decision None) text = omega arith
Falls-condition_ended rest (Decided decision (Some b)) text = omega arith

-- a unit
Leaves-unit_taken : (half : List OpenEscape) (unit : CopyUnit) → Leaves (endings_of half) (unit_taken half unit)
Leaves-unit_taken [] unit = omega arith
Leaves-unit_taken (Backslash ∷ rest) unit = omega arith
Leaves-unit_taken (Comment ∷ rest) unit = omega arith
Leaves-unit_taken (Name purpose part ∷ rest) unit =
    let taken : Leaves (endings_of rest + 1) (unit_of_name rest purpose part unit) = Leaves-unit_of_name rest purpose part unit in omega (arith, taken)
Leaves-unit_taken (Size part ∷ rest) unit = omega arith
Leaves-unit_taken (Delimited purpose d text ∷ rest) unit =
    let taken : Leaves (endings_of rest + 1) (unit_of_text rest purpose d text unit) = Leaves-unit_of_text rest purpose d text unit in omega (arith, taken)
Leaves-unit_taken (Width d width is_deep ∷ rest) unit = omega arith
Leaves-unit_taken (Condition part text ∷ rest) unit = Leaves-unit_of_condition rest part text unit

-- one within one more
Leaves-unit : (rest : List OpenEscape) (unit : CopyUnit) → Leaves (endings_of rest + 1) (unit_taken rest unit)
Leaves-unit rest unit = omega (arith, Leaves-unit_taken rest unit)

-- the byte behind a backslash of copy mode that begins nothing
Leaves-copied_escape : (rest : List OpenEscape) (b : ℕ) → Leaves (endings_of rest + 1) (copied_escape rest b)
Leaves-copied_escape rest b =
    Leaves-if _ (b == newline) _ _ (omega arith)
    (Leaves-if _ (b == backslash) _ _ (Leaves-unit rest (Byte backslash)) (Leaves-if _ (b == dot) _ _ (Leaves-unit rest (Byte dot))
    (Leaves-if _ (b == 116) _ _ (Leaves-unit rest (Byte tab)) (Leaves-unit rest (Kept b)))))

-- either of two lists, by a test
endings-if : (most : ℕ) (b : Bool) (xs ys : List OpenEscape) → endings_of xs ≤ most → endings_of ys ≤ most → endings_of (if b then xs else ys) + 0 ≤ most
endings-if most true xs ys first second = omega (arith, first)
endings-if most false xs ys first second = omega (arith, second)

-- a name begins
Leaves-name_beginning : (rest : List OpenEscape) (purpose : NameUse) → Leaves (endings_of rest + 1) (name_beginning rest purpose)
Leaves-name_beginning rest purpose = endings-if _ (nat_le most_names (names_in rest)) _ _ (omega arith) (omega arith)

-- an escape that begins nothing
Leaves-plain : (in_text : Bool) (rest : List OpenEscape) (b : ℕ) → Leaves (endings_of rest + 1) (if in_text then escape_given rest b else copied_escape rest b)
Leaves-plain in_text rest b = Leaves-if _ in_text _ _ (one_more (escape_given rest b) rest (Leaves-escape_given rest b)) (Leaves-copied_escape rest b)

-- the byte behind a backslash, by what it means
Leaves-escape_read : (around : Surroundings) (rest : List OpenEscape) (b : ℕ) (kind : Kind) → Leaves (endings_of rest + 1) (escape_read around rest b kind)
Leaves-escape_read around rest b BeginsComment = omega arith
Leaves-escape_read around rest b BeginsSize = Leaves-if _ (reads_text around) _ _ (omega arith) (Leaves-copied_escape rest b)
Leaves-escape_read around rest b (BeginsName purpose) =
    Leaves-if _ (is_copied purpose || reads_text around) _ _ (Leaves-name_beginning rest purpose) (Leaves-unit rest (Kept b))
Leaves-escape_read around rest b (BeginsText purpose) = Leaves-if _ (reads_text around) _ _ (omega arith) (Leaves-copied_escape rest b)
Leaves-escape_read around rest b BeginsWidth = Leaves-if _ (reads_widths around) _ _ (omega arith) (Leaves-copied_escape rest b)
Leaves-escape_read around rest b (Prints byte) = Leaves-plain (reads_text around) rest b
Leaves-escape_read around rest b Blank = Leaves-plain (reads_text around) rest b
Leaves-escape_read around rest b NoWidth = Leaves-plain (reads_text around) rest b
Leaves-escape_read around rest b GivesNothing = Leaves-plain (reads_text around) rest b
Leaves-escape_read around rest b GivesTab = Leaves-plain (reads_text around) rest b
Leaves-escape_read around rest b Interrupts = Leaves-plain (reads_text around) rest b
Leaves-escape_read around rest b Brace = Leaves-plain (reads_text around) rest b
Leaves-escape_read around rest b IsLeftOut = Leaves-plain (reads_text around) rest b

-- a byte of a size
Leaves-size_read : (rest : List OpenEscape) (part : SizePart) (b : ℕ) → Leaves (endings_of rest + 1) (size_read rest part b)
Leaves-size_read rest NoSize b = Leaves-if _ (is_sign b) _ _ (omega arith) (Leaves-if _ (is_first_digit b) _ _ (omega arith) (one_more (escape_given rest 115) rest (Leaves-escape_given rest 115)))
Leaves-size_read rest Sign b = one_more (escape_given rest 115) rest (Leaves-escape_given rest 115)
Leaves-size_read rest Digit b = one_more (escape_given rest 115) rest (Leaves-escape_given rest 115)

-- a byte of a text between delimiters
Leaves-byte_of_text : (place : ℤ) (rest : List OpenEscape) (purpose : TextUse) (d : Option ℕ) (text : List ℕ) (b : ℕ)
    → Leaves (endings_of rest + 2) (byte_of_text place rest purpose d text b)
Leaves-byte_of_text place rest purpose None text b = omega arith
Leaves-byte_of_text place rest purpose (Some d) text b =
    Leaves-if _ (b == d) _ _
    (let given : Leaves (endings_of rest) (text_given place rest purpose text) = Leaves-text_given place rest purpose text in omega (arith, given))
    (Leaves-if _ (b == backslash) _ _ (omega arith)
    (let taken : Leaves (endings_of rest + 1) (unit_of_text rest purpose (Some d) text (Byte b)) = Leaves-unit_of_text rest purpose (Some d) text (Byte b) in
    omega (arith, taken)))

-- a byte of a text that is measured
Leaves-byte_of_width : (rest : List OpenEscape) (d : Option ℕ) (width : ℕ) (is_deep : Bool) (b : ℕ)
    → Leaves (endings_of rest + 2) (byte_of_width rest d width is_deep b)
Leaves-byte_of_width rest None width is_deep b = omega arith
Leaves-byte_of_width rest (Some d) width is_deep b =
    Leaves-if _ (b == d) _ _ (omega arith)
    (Leaves-if _ (b == backslash) _ _ (omega arith)
    (Leaves-if _ is_deep _ _ (omega arith) (omega arith)))

-- a byte begins one ending at most
pub endings-byte_read : (base : Surroundings) (half : List OpenEscape) (b : ℕ)
    → Leaves (endings_of half + 1) (byte_read base half b)
endings-byte_read base [] b = Leaves-if _ (b == backslash) _ _ (omega arith) (omega arith)
endings-byte_read base (Backslash ∷ rest) b =
    let read : Leaves (endings_of rest + 1) (escape_read (surroundings base rest) rest b (escape_of b)) =
    Leaves-escape_read (surroundings base rest) rest b (escape_of b) in omega (arith, read)
endings-byte_read base (Comment ∷ rest) b = omega arith
endings-byte_read base (Name purpose part ∷ rest) b =
    Leaves-if _ (b == backslash) _ _ (omega arith)
    (let taken : Leaves (endings_of rest + 1) (unit_of_name rest purpose part (Byte b)) = Leaves-unit_of_name rest purpose part (Byte b) in omega (arith, taken))
endings-byte_read base (Size part ∷ rest) b =
    let taken : Leaves (endings_of rest + 1) (size_read rest part b) = Leaves-size_read rest part b in omega (arith, taken)
endings-byte_read base (Delimited purpose d text ∷ rest) b =
    let place : ℤ = place_above base in
    let taken : Leaves (endings_of rest + 2) (byte_of_text place rest purpose d text b) = Leaves-byte_of_text place rest purpose d text b in omega (arith, taken)
endings-byte_read base (Width d width is_deep ∷ rest) b =
    let taken : Leaves (endings_of rest + 2) (byte_of_width rest d width is_deep b) = Leaves-byte_of_width rest d width is_deep b in omega (arith, taken)
endings-byte_read base (Condition part text ∷ rest) b = Leaves-byte_of_condition rest part text b

-- a name that ends goes
Leaves-name_ended : (rest : List OpenEscape) (purpose : NameUse) (part : NamePart) → Leaves (endings_of rest) (name_ended rest purpose part)
Leaves-name_ended rest purpose Nothing = Leaves-name_given rest purpose None
Leaves-name_ended rest purpose Opened = Leaves-name_given rest purpose None
Leaves-name_ended rest purpose (First a) = Leaves-name_given rest purpose (Some (a ∷ []))

-- what leaves no more than the others falls
falls : (r : Reads) (first : OpenEscape) (rest : List OpenEscape) → Leaves (endings_of rest) r
    → Falls (endings_of (first ∷ rest)) r
falls r first rest leaves = omega (arith, leaves, some_ending first rest)

-- the reading on top ends
pub endings-reading_ended : (base : Surroundings) (first : OpenEscape) (rest : List OpenEscape) → Falls (endings_of (first ∷ rest)) (reading_ended base (first ∷ rest))
endings-reading_ended base Backslash rest =
    falls _ Backslash rest
    (Leaves-if _ (reads_text (surroundings base rest)) _ _ (Leaves-escape_given rest start_of_text) (Leaves-unit_taken rest (Byte backslash)))
endings-reading_ended base Comment rest =
    falls _ Comment rest (Leaves-if _ (reads_text (surroundings base rest)) _ _ (Leaves-escape_given rest quote) (omega arith))
endings-reading_ended base (Name purpose part) rest = falls _ (Name purpose part) rest (Leaves-name_ended rest purpose part)
endings-reading_ended base (Size part) rest = falls _ (Size part) rest (Leaves-escape_given rest 115)
endings-reading_ended base (Delimited purpose d text) rest = falls _ (Delimited purpose d text) rest (Leaves-text_given (place_above base) rest purpose text)
endings-reading_ended base (Width d width is_deep) rest = omega arith
endings-reading_ended base (Condition part text) rest = Falls-condition_ended rest part text
