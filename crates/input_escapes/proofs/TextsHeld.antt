-- Reading makes no text longer: only what is held does.
use Rattle.std.proofs.Common.{◌≡◌, ℕ, ◌+◌, ◌≤◌, Bool, true, false, ◌&&◌, List, [], ◌∷◌, length, Option, Some, None, Result, Ok, Err, refl, arith, ℤ, pos, ◌==◌, ◌||◌, not, nat_le, if◌then◌else◌}
use Rattle.roff_num.specs.Expressions.{value_at}
use Rattle.roff_num.specs.declared.num.Num.{Num}
use Rattle.roff_num.specs.declared.num.NumFault.{NumFault}
use Rattle.roff_num.specs.declared.num.Scale.TheVariants.{Units}
use Rattle.input_source.specs.Bytes.{start_of_text, tab, newline, blank, quote, dot, backslash}
use Rattle.input_escapes.specs.Conditions.{begins_expression, byte_of_condition, byte_or_backslash, choice_made, condition_ended, delimiter_met, expression_over, expression_valued, unit_of_condition}
use Rattle.input_escapes.specs.Escapes.{escape_of, is_copied}
use Rattle.input_escapes.specs.OpenEscape.{OpenEscape, Backslash, Comment, Name, Size, Delimited, Width, Condition, names_in, texts_held}
use Rattle.input_escapes.specs.OpenEscapes.{Reads, byte_of_text, byte_of_width, byte_read, copied_escape, escape_given, escape_read, is_first_digit, is_sign, most_names, motion_given, name_begun, name_ended, name_given, name_or_opening, part_at_first, place_above, reading_ended, reads_text, reads_widths, size_read, surroundings, text_given, unit_of_name, unit_of_text, unit_taken}
use Rattle.input_escapes.specs.Measures.{motion_of}
use Rattle.input_escapes.specs.declared.escapes.Escape.{Escape as Kind}
use Rattle.input_escapes.specs.declared.escapes.Escape.TheVariants.{Prints, Blank, NoWidth, Nothing as GivesNothing, Tab as GivesTab, Interrupts, Brace, LeftOut as IsLeftOut, Comment as BeginsComment, Size as BeginsSize, Name as BeginsName, Text as BeginsText, Width as BeginsWidth}
use Rattle.input_escapes.specs.declared.escapes.NameUse.{NameUse}
use Rattle.input_escapes.specs.declared.escapes.NameUse.TheVariants.{Register, Text, Argument, Character, Font, LeftOut}
use Rattle.input_escapes.specs.declared.escapes.TextUse.{TextUse}
use Rattle.input_escapes.specs.declared.escapes.TextUse.TheVariants.{Motion as OfMotion, LeftOut as LeftOutText}
use Rattle.input_escapes.specs.declared.open_escape.ConditionPart.{ConditionPart}
use Rattle.input_escapes.specs.declared.open_escape.ConditionPart.TheVariants.{Choice, Expression, Decided, Compared}
use Rattle.input_escapes.specs.declared.open_escape.CopyUnit.{CopyUnit}
use Rattle.input_escapes.specs.declared.open_escape.CopyUnit.TheVariants.{Byte, Kept}
use Rattle.input_escapes.specs.declared.open_escape.NamePart.{NamePart}
use Rattle.input_escapes.specs.declared.open_escape.NamePart.TheVariants.{Nothing, Opened, First}
use Rattle.input_escapes.specs.declared.open_escape.SizePart.{SizePart}
use Rattle.input_escapes.specs.declared.open_escape.SizePart.TheVariants.{Nothing as NoSize, Sign, Digit}
use Rattle.input_escapes.specs.declared.open_escape.Surroundings.{Surroundings}
use Rattle.input_escapes.specs.declared.measures.Measured.{Measured}

-- of two readings behind which so much is held either is one
either : (c : Bool) (x y : Reads) (held : ℕ) → texts_held x.1 ≡ held → texts_held y.1 ≡ held → texts_held (if c then x else y).1 ≡ held
either true x y held of_x of_y = of_x
either false x y held of_x of_y = of_y

-- an escape of the text
held-escape_given : (b : ℕ) (rest : List OpenEscape) → texts_held (escape_given rest b).1 ≡ texts_held rest
held-escape_given b [] = refl
held-escape_given b (Backslash ∷ rest) = refl
held-escape_given b (Comment ∷ rest) = refl
held-escape_given b (Name purpose part ∷ rest) = refl
held-escape_given b (Size part ∷ rest) = refl
held-escape_given b (Delimited purpose d text ∷ rest) = refl
held-escape_given b (Width d width is_deep ∷ rest) = refl
held-escape_given b (Condition part text ∷ rest) = refl

-- a motion
held-motion_given : (measured : Measured) (rest : List OpenEscape) → texts_held (motion_given rest measured).1 ≡ texts_held rest
held-motion_given measured [] = refl
held-motion_given measured (Backslash ∷ rest) = refl
held-motion_given measured (Comment ∷ rest) = refl
held-motion_given measured (Name purpose part ∷ rest) = refl
held-motion_given measured (Size part ∷ rest) = refl
held-motion_given measured (Delimited purpose d text ∷ rest) = refl
held-motion_given measured (Width d width is_deep ∷ rest) = refl
held-motion_given measured (Condition part text ∷ rest) = refl

-- a name
held-name_given : (purpose : NameUse) (name : Option (List ℕ)) (rest : List OpenEscape) → texts_held (name_given rest purpose name).1 ≡ texts_held rest
held-name_given purpose name [] = refl
held-name_given purpose name (Backslash ∷ rest) = refl
held-name_given purpose name (Comment ∷ rest) = refl
held-name_given purpose name (Name other part ∷ rest) = refl
held-name_given purpose name (Size part ∷ rest) = refl
held-name_given purpose name (Delimited other d text ∷ rest) = refl
held-name_given purpose name (Width d width is_deep ∷ rest) = either (is_copied purpose) _ _ _ refl refl
held-name_given purpose name (Condition part text ∷ rest) = refl

-- a text between delimiters that is whole is held no more
held-text_given : (place : ℤ) (purpose : TextUse) (text : List ℕ) (rest : List OpenEscape) → texts_held (text_given place rest purpose text).1 ≡ texts_held rest
held-text_given place OfMotion text rest = held-motion_given (motion_of place text) rest
held-text_given place (LeftOutText b) text rest = held-escape_given b rest

-- a name, or the parenthesis of one
held-name_or_opening : (purpose : NameUse) (b : ℕ) (rest : List OpenEscape) → texts_held (name_or_opening rest purpose b).1 ≡ texts_held rest
held-name_or_opening purpose b rest = either (b == 40) _ _ _ refl (held-name_given purpose _ rest)

-- the first byte of a name
held-name_begun : (purpose : NameUse) (b : ℕ) (rest : List OpenEscape)
    → texts_held (name_begun rest purpose b).1 ≡ texts_held rest
held-name_begun (Register None) b rest = either (b == 43) _ _ _ refl (either (b == 45) _ _ _ refl (held-name_or_opening (Register None) b rest))
held-name_begun (Register (Some direction)) b rest = held-name_or_opening (Register (Some direction)) b rest
held-name_begun Text b rest = held-name_or_opening Text b rest
held-name_begun Argument b rest = held-name_given Argument _ rest
held-name_begun Character b rest = held-name_or_opening Character b rest
held-name_begun Font b rest = held-name_or_opening Font b rest
held-name_begun (LeftOut byte) b rest = held-name_or_opening (LeftOut byte) b rest

-- a unit of a name
held-unit_of_name : (purpose : NameUse) (part : NamePart) (unit : CopyUnit) (rest : List OpenEscape) → texts_held (unit_of_name rest purpose part unit).1 ≡ texts_held rest
held-unit_of_name purpose Nothing (Byte b) rest = held-name_begun purpose b rest
held-unit_of_name purpose Nothing (Kept b) rest = held-name_given purpose _ rest
held-unit_of_name purpose Opened (Byte b) rest = refl
held-unit_of_name purpose Opened (Kept b) rest = held-name_given purpose _ rest
held-unit_of_name purpose (First a) unit rest = held-name_given purpose _ rest

-- a unit of a text between delimiters
held-unit_of_text : (purpose : TextUse) (d : Option ℕ) (text : List ℕ) (unit : CopyUnit) (rest : List OpenEscape) → texts_held (unit_of_text rest purpose d text unit).1 ≡ length text + texts_held rest
held-unit_of_text OfMotion d text unit rest = refl
held-unit_of_text (LeftOutText b) d text unit rest = refl

-- an expression that is whole is held until it decides
held-expression_valued : (negated : Bool) (freed : Option ℕ) (text : List ℕ) (value : Result (Num × ℕ) NumFault) (rest : List OpenEscape)
    → texts_held (expression_valued rest negated freed text value).1 ≡ length text + texts_held rest
held-expression_valued negated freed text (Ok r) rest = refl
held-expression_valued negated freed text (Err fault) rest = refl

held-expression_over : (negated : Bool) (freed : Option ℕ) (text : List ℕ) (rest : List OpenEscape) → texts_held (expression_over rest negated freed text).1 ≡ length text + texts_held rest
held-expression_over negated freed text rest = held-expression_valued negated freed text (value_at text 0 Units (Some (pos 0))) rest

-- so are texts behind a delimiter
held-delimiter_met : (negated : Bool) (d : ℕ) (first : Option ℕ) (text : List ℕ) (rest : List OpenEscape)
    → texts_held (delimiter_met rest negated d first text).1 ≡ length text + texts_held rest
held-delimiter_met negated d None text rest = refl
held-delimiter_met negated d (Some first) text rest = refl

-- the byte that says what a condition asks
held-choice_made : (negated : Bool) (text : List ℕ) (b : ℕ) (rest : List OpenEscape) → texts_held (choice_made rest negated text b).1 ≡ length text + texts_held rest
held-choice_made negated text b rest =
    either (b == blank && not negated) _ _ _ refl
    (either (b == 33 && not negated) _ _ _ refl
    (either (b == 111) _ _ _ refl
    (either (b == 101) _ _ _ refl
    (either (b == 116) _ _ _ refl
    (either (b == 110) _ _ _ refl
    (either (begins_expression b) _ _ _ refl refl))))))

-- a unit of a condition
held-unit_of_condition : (part : ConditionPart) (text : List ℕ) (unit : CopyUnit) (rest : List OpenEscape)
    → texts_held (unit_of_condition rest part text unit).1 ≡ length text + texts_held rest
held-unit_of_condition (Choice negated) text (Byte b) rest = held-choice_made negated text b rest
held-unit_of_condition (Choice negated) text (Kept b) rest = refl
held-unit_of_condition (Expression negated) text (Byte b) rest =
    either (b == backslash || b == tab) _ _ _ (held-expression_over negated (Some b) text rest) refl
held-unit_of_condition (Expression negated) text (Kept b) rest = refl
held-unit_of_condition (Compared negated d first) text unit rest = refl
held-unit_of_condition (Decided decision freed) text unit rest = refl

-- a unit
held-unit_taken : (unit : CopyUnit) (rest : List OpenEscape) → texts_held (unit_taken rest unit).1 ≡ texts_held rest
held-unit_taken unit [] = refl
held-unit_taken unit (Backslash ∷ rest) = refl
held-unit_taken unit (Comment ∷ rest) = refl
held-unit_taken unit (Name purpose part ∷ rest) = held-unit_of_name purpose part unit rest
held-unit_taken unit (Size part ∷ rest) = refl
held-unit_taken unit (Delimited purpose d text ∷ rest) = held-unit_of_text purpose d text unit rest
held-unit_taken unit (Width d width is_deep ∷ rest) = refl
held-unit_taken unit (Condition part text ∷ rest) = held-unit_of_condition part text unit rest

-- the byte behind a backslash of copy mode that begins nothing
held-copied_escape : (b : ℕ) (rest : List OpenEscape) → texts_held (copied_escape rest b).1 ≡ texts_held rest
held-copied_escape b rest =
    either (b == newline) _ _ _ refl
    (either (b == backslash) _ _ _ (held-unit_taken (Byte backslash) rest)
    (either (b == dot) _ _ _ (held-unit_taken (Byte dot) rest)
    (either (b == 116) _ _ _ (held-unit_taken (Byte tab) rest) (held-unit_taken (Kept b) rest))))

-- a name begins, unless it would be one too many
held-name_beginning : (purpose : NameUse) (is_full : Bool) (rest : List OpenEscape) → texts_held (if is_full then rest else Name purpose (part_at_first purpose) ∷ rest) ≡ texts_held rest
held-name_beginning purpose true rest = refl
held-name_beginning purpose false rest = refl

-- an escape that begins nothing
held-plain : (in_text : Bool) (b : ℕ) (rest : List OpenEscape) → texts_held (if in_text then escape_given rest b else copied_escape rest b).1 ≡ texts_held rest
held-plain in_text b rest = either in_text _ _ _ (held-escape_given b rest) (held-copied_escape b rest)

-- the byte behind a backslash, by what it means
held-escape_read : (around : Surroundings) (b : ℕ) (kind : Kind) (rest : List OpenEscape) → texts_held (escape_read around rest b kind).1 ≡ texts_held rest
held-escape_read around b BeginsComment rest = refl
held-escape_read around b BeginsSize rest = either (reads_text around) _ _ _ refl (held-copied_escape b rest)
held-escape_read around b (BeginsName purpose) rest =
    either (is_copied purpose || reads_text around) _ _ _ (held-name_beginning purpose (nat_le most_names (names_in rest)) rest) (held-unit_taken (Kept b) rest)
held-escape_read around b (BeginsText purpose) rest = either (reads_text around) _ _ (texts_held rest) (omega arith) (held-copied_escape b rest)
held-escape_read around b BeginsWidth rest = either (reads_widths around) _ _ _ refl (held-copied_escape b rest)
held-escape_read around b (Prints byte) rest = held-plain (reads_text around) b rest
held-escape_read around b Blank rest = held-plain (reads_text around) b rest
held-escape_read around b NoWidth rest = held-plain (reads_text around) b rest
held-escape_read around b GivesNothing rest = held-plain (reads_text around) b rest
held-escape_read around b Brace rest = held-plain (reads_text around) b rest
held-escape_read around b GivesTab rest = held-plain (reads_text around) b rest
held-escape_read around b Interrupts rest = held-plain (reads_text around) b rest
held-escape_read around b IsLeftOut rest = held-plain (reads_text around) b rest

-- a byte of a size
held-size_read : (part : SizePart) (b : ℕ) (rest : List OpenEscape) → texts_held (size_read rest part b).1 ≡ texts_held rest
held-size_read NoSize b rest = either (is_sign b) _ _ _ refl (either (is_first_digit b) _ _ _ refl (held-escape_given 115 rest))
held-size_read Sign b rest = held-escape_given 115 rest
held-size_read Digit b rest = held-escape_given 115 rest

-- a byte of a text that is measured
held-byte_of_width : (d : Option ℕ) (width : ℕ) (is_deep : Bool) (b : ℕ) (rest : List OpenEscape) → texts_held (byte_of_width rest d width is_deep b).1 ≡ texts_held rest
held-byte_of_width None width is_deep b rest = refl
held-byte_of_width (Some d) width is_deep b rest = either (b == d) _ _ _ refl (either (b == backslash) _ _ _ refl (either is_deep _ _ _ refl refl))

-- a byte of a condition that is no delimiter
held-byte_or_backslash : (part : ConditionPart) (text : List ℕ) (b : ℕ) (rest : List OpenEscape) → texts_held (byte_or_backslash rest part text b).1 ≡ length text + texts_held rest
held-byte_or_backslash part text b rest = either (b == backslash) _ _ _ refl (held-unit_of_condition part text (Byte b) rest)

-- a byte of a condition
held-byte_of_condition : (part : ConditionPart) (text : List ℕ) (b : ℕ) (rest : List OpenEscape) → texts_held (byte_of_condition rest part text b).1 ≡ length text + texts_held rest
held-byte_of_condition (Choice negated) text b rest = held-byte_or_backslash (Choice negated) text b rest
held-byte_of_condition (Expression negated) text b rest = held-byte_or_backslash (Expression negated) text b rest
held-byte_of_condition (Compared negated d first) text b rest =
    either (b == d) _ _ _ (held-delimiter_met negated d first text rest) (held-byte_or_backslash (Compared negated d first) text b rest)
held-byte_of_condition (Decided decision freed) text b rest = held-byte_or_backslash (Decided decision freed) text b rest

-- of two readings behind which no more is held either is one
either-within : (c : Bool) (x y : Reads) (held : ℕ) → texts_held x.1 ≤ held → texts_held y.1 ≤ held → texts_held (if c then x else y).1 ≤ held
either-within true x y held of_x of_y = of_x
either-within false x y held of_x of_y = of_y

-- a byte of a text between delimiters
held-byte_of_text : (place : ℤ) (purpose : TextUse) (d : Option ℕ) (text : List ℕ) (b : ℕ) (rest : List OpenEscape)
    → texts_held (byte_of_text place rest purpose d text b).1 ≤ length text + texts_held rest
held-byte_of_text place purpose None text b rest = omega arith
held-byte_of_text place purpose (Some d) text b rest =
    either-within (b == d) _ _ _ (omega (arith, held-text_given place purpose text rest))
    (either-within (b == backslash) _ _ _ (omega arith) (omega (arith, held-unit_of_text purpose (Some d) text (Byte b) rest)))

-- a byte makes no text longer
pub texts_held-byte_read : (base : Surroundings) (b : ℕ) (half : List OpenEscape) → texts_held (byte_read base half b).1 ≤ texts_held half
texts_held-byte_read base b [] = either-within (b == backslash) _ _ _ (omega arith) (omega arith)
texts_held-byte_read base b (Backslash ∷ rest) = omega (arith, held-escape_read (surroundings base rest) b (escape_of b) rest)
texts_held-byte_read base b (Comment ∷ rest) = omega arith
texts_held-byte_read base b (Name purpose part ∷ rest) =
    either-within (b == backslash) _ _ _ (omega arith) (omega (arith, held-unit_of_name purpose part (Byte b) rest))
texts_held-byte_read base b (Size part ∷ rest) = omega (arith, held-size_read part b rest)
texts_held-byte_read base b (Delimited purpose d text ∷ rest) = held-byte_of_text (place_above base) purpose d text b rest
texts_held-byte_read base b (Width d width is_deep ∷ rest) = omega (arith, held-byte_of_width d width is_deep b rest)
texts_held-byte_read base b (Condition part text ∷ rest) = omega (arith, held-byte_of_condition part text b rest)

-- a name that ends before what stays
held-name_ended : (purpose : NameUse) (part : NamePart) (rest : List OpenEscape) → texts_held (name_ended rest purpose part).1 ≡ texts_held rest
held-name_ended purpose Nothing rest = held-name_given purpose None rest
held-name_ended purpose Opened rest = held-name_given purpose None rest
held-name_ended purpose (First a) rest = held-name_given purpose (Some (a ∷ [])) rest

-- a condition that ends before what stays: one that decides is held no more
held-condition_ended : (part : ConditionPart) (text : List ℕ) (rest : List OpenEscape) → texts_held (condition_ended rest part text).1 ≤ length text + texts_held rest
held-condition_ended (Choice negated) text rest = omega arith
held-condition_ended (Expression negated) text rest = omega (arith, held-expression_over negated None text rest)
held-condition_ended (Compared negated d first) text rest = omega arith
held-condition_ended (Decided decision freed) text rest = omega arith

-- nor does an end
pub texts_held-reading_ended : (base : Surroundings) (half : List OpenEscape)
    → texts_held (reading_ended base half).1 ≤ texts_held half
texts_held-reading_ended base [] = omega arith
texts_held-reading_ended base (Backslash ∷ rest) =
    either-within (reads_text (surroundings base rest)) _ _ _ (omega (arith, held-escape_given start_of_text rest)) (omega (arith, held-unit_taken (Byte backslash) rest))
texts_held-reading_ended base (Comment ∷ rest) =
    either-within (reads_text (surroundings base rest)) _ _ _ (omega (arith, held-escape_given quote rest)) (omega arith)
texts_held-reading_ended base (Name purpose part ∷ rest) = omega (arith, held-name_ended purpose part rest)
texts_held-reading_ended base (Size part ∷ rest) = omega (arith, held-escape_given 115 rest)
texts_held-reading_ended base (Delimited purpose d text ∷ rest) = omega (arith, held-text_given (place_above base) purpose text rest)
texts_held-reading_ended base (Width d width is_deep ∷ rest) = omega arith
texts_held-reading_ended base (Condition part text ∷ rest) = held-condition_ended part text rest
