-- What is half read stays within each other as it may be, whatever is read.
use Rattle.std.proofs.Common.{◌≡◌, ℕ, Bool, true, false, ◌&&◌, List, [], ◌∷◌, Option, Some, None, Result, Ok, Err, refl, ℤ, pos, ◌==◌, ◌||◌, not, nat_le, if◌then◌else◌}
use Rattle.roff_num.specs.declared.num.Num.{Num}
use Rattle.roff_num.specs.declared.num.NumFault.{NumFault}
use Rattle.input_source.specs.Bytes.{start_of_text, tab, newline, blank, dot, backslash, quote}
use Rattle.input_escapes.specs.Conditions.{begins_expression, byte_of_condition, byte_or_backslash, choice_made, condition_ended, delimiter_met, expression_valued, unit_of_condition}
use Rattle.input_escapes.specs.Escapes.{escape_of, is_copied}
use Rattle.input_escapes.specs.OpenEscape.{OpenEscape, Backslash, Comment, Name, Size, Delimited, Width, Condition, names_in, widths_in}
use Rattle.input_escapes.specs.EscapeLaws.{escapes_behind, reads_through}
use Rattle.input_escapes.specs.OpenEscapes.{Reads, byte_of_text, byte_of_width, byte_read, copied_escape, escape_given, escape_read, is_first_digit, is_sign, most_names, most_widths, motion_given, name_begun, name_ended, name_given, name_or_opening, part_at_first, place_above, reading_ended, reads_text, reads_widths, size_read, surroundings, text_given, unit_of_name, unit_of_text, unit_taken}
use Rattle.input_escapes.specs.Measures.{motion_of}
use Rattle.input_escapes.specs.Nesting.{IsNested, is_nested, is_open, may_stand}
use Rattle.input_escapes.specs.declared.escapes.Escape.{Escape as Kind}
use Rattle.input_escapes.specs.declared.escapes.Escape.TheVariants.{Prints, Blank, NoWidth, Nothing as GivesNothing, Tab as GivesTab, Interrupts, Brace, LeftOut as IsLeftOut, Comment as BeginsComment, Size as BeginsSize, Name as BeginsName, Text as BeginsText, Width as BeginsWidth}
use Rattle.input_escapes.specs.declared.escapes.NameUse.{NameUse}
use Rattle.input_escapes.specs.declared.escapes.NameUse.TheVariants.{Register, Text, Argument, Character, Font, LeftOut}
use Rattle.input_escapes.specs.declared.escapes.TextUse.{TextUse}
use Rattle.input_escapes.specs.declared.escapes.TextUse.TheVariants.{Motion as OfMotion, LeftOut as LeftOutText}
use Rattle.input_escapes.specs.declared.open_escape.ConditionPart.{ConditionPart}
use Rattle.input_escapes.specs.declared.open_escape.ConditionPart.TheVariants.{Choice, Expression, Decided, Compared}
use Rattle.input_escapes.specs.declared.open_escape.CopyUnit.{CopyUnit}
use Rattle.input_escapes.specs.declared.open_escape.CopyUnit.TheVariants.{Byte, Kept}
use Rattle.input_escapes.specs.declared.open_escape.NamePart.{NamePart}
use Rattle.input_escapes.specs.declared.open_escape.NamePart.TheVariants.{Nothing, Opened, First}
use Rattle.input_escapes.specs.declared.open_escape.Found.{Found}
use Rattle.input_escapes.specs.declared.open_escape.Found.TheVariants.{GoesOn, Unit as GivesUnit, Holds, Escape, Asks, Motion, Measures, Tells, Decides}
use Rattle.input_escapes.specs.declared.open_escape.SizePart.{SizePart}
use Rattle.input_escapes.specs.declared.open_escape.SizePart.TheVariants.{Nothing as NoSize, Sign, Digit}
use Rattle.input_escapes.specs.declared.open_escape.Surroundings.{Surroundings}
use Rattle.input_escapes.specs.declared.open_escape.Surroundings.TheVariants.{Text as InText}
use Rattle.input_escapes.specs.declared.measures.Measured.{Measured}
use Rattle.input_escapes.proofs.NestedEscapes.{IsNested-rest, IsNested-text_held, open-rest}

-- of two readings either leaves it so, by a test
either : (c : Bool) (x y : Reads) → (c ≡ true → IsNested x.1) → (c ≡ false → IsNested y.1) → IsNested (if c then x else y).1
either true x y of_x of_y = of_x refl
either false x y of_x of_y = of_y refl

-- three tests that hold
all_hold : (a b c : Bool) → a ≡ true → b ≡ true → c ≡ true → (a && b && c) ≡ true
all_hold a b c first second third = rw (first, second, third) refl

-- with one more
above : (half : OpenEscape) (rest : List OpenEscape) → is_open rest ≡ true → may_stand half rest ≡ true → IsNested rest → IsNested (half ∷ rest)
above half rest is_free may nested = all_hold (is_open rest) (may_stand half rest) (is_nested rest) is_free may nested

-- an escape of the text
IsNested-escape_given : (b : ℕ) (rest : List OpenEscape) → IsNested rest → IsNested (escape_given rest b).1
IsNested-escape_given b [] nested = nested
IsNested-escape_given b (Backslash ∷ rest) nested = nested
IsNested-escape_given b (Comment ∷ rest) nested = nested
IsNested-escape_given b (Name purpose part ∷ rest) nested = nested
IsNested-escape_given b (Size part ∷ rest) nested = nested
IsNested-escape_given b (Delimited purpose d text ∷ rest) nested = nested
IsNested-escape_given b (Width d width is_deep ∷ rest) nested = nested
IsNested-escape_given b (Condition part text ∷ rest) nested = nested

-- a motion
IsNested-motion_given : (measured : Measured) (rest : List OpenEscape) → IsNested rest → IsNested (motion_given rest measured).1
IsNested-motion_given measured [] nested = nested
IsNested-motion_given measured (Backslash ∷ rest) nested = nested
IsNested-motion_given measured (Comment ∷ rest) nested = nested
IsNested-motion_given measured (Name purpose part ∷ rest) nested = nested
IsNested-motion_given measured (Size part ∷ rest) nested = nested
IsNested-motion_given measured (Delimited purpose d text ∷ rest) nested = nested
IsNested-motion_given measured (Width d width is_deep ∷ rest) nested = nested
IsNested-motion_given measured (Condition part text ∷ rest) nested = nested

-- a name
IsNested-name_given : (purpose : NameUse) (name : Option (List ℕ)) (rest : List OpenEscape) → IsNested rest → IsNested (name_given rest purpose name).1
IsNested-name_given purpose name [] nested = nested
IsNested-name_given purpose name (Backslash ∷ rest) nested = nested
IsNested-name_given purpose name (Comment ∷ rest) nested = nested
IsNested-name_given purpose name (Name other part ∷ rest) nested = nested
IsNested-name_given purpose name (Size part ∷ rest) nested = nested
IsNested-name_given purpose name (Delimited other d text ∷ rest) nested = nested
IsNested-name_given purpose name (Width d width is_deep ∷ rest) nested = either (is_copied purpose) _ _ (λ copied. nested) (λ other. nested)
IsNested-name_given purpose name (Condition part text ∷ rest) nested = nested

-- a text between delimiters
IsNested-text_given : (place : ℤ) (purpose : TextUse) (text : List ℕ) (rest : List OpenEscape) → IsNested rest → IsNested (text_given place rest purpose text).1
IsNested-text_given place OfMotion text rest nested = IsNested-motion_given (motion_of place text) rest nested
IsNested-text_given place (LeftOutText b) text rest nested = IsNested-escape_given b rest nested

-- a name, or the parenthesis of one
IsNested-name_or_opening : (purpose : NameUse) (b : ℕ) (rest : List OpenEscape) → IsNested (Name purpose Nothing ∷ rest) → IsNested (name_or_opening rest purpose b).1
IsNested-name_or_opening purpose b rest nested =
    either (b == 40) _ _ (λ opening. nested) (λ other. IsNested-name_given purpose _ rest (IsNested-rest (Name purpose Nothing) rest nested))

-- the first byte of a name
IsNested-name_begun : (purpose : NameUse) (b : ℕ) (rest : List OpenEscape) → IsNested (Name purpose Nothing ∷ rest) → IsNested (name_begun rest purpose b).1
IsNested-name_begun (Register None) b rest nested =
    either (b == 43) _ _ (λ up. nested) (λ other. either (b == 45) _ _ (λ down. nested) (λ plain. IsNested-name_or_opening (Register None) b rest nested))
IsNested-name_begun (Register (Some direction)) b rest nested = IsNested-name_or_opening (Register (Some direction)) b rest nested
IsNested-name_begun Text b rest nested = IsNested-name_or_opening Text b rest nested
IsNested-name_begun Argument b rest nested = IsNested-name_given Argument _ rest (IsNested-rest (Name Argument Nothing) rest nested)
IsNested-name_begun Character b rest nested = IsNested-name_or_opening Character b rest nested
IsNested-name_begun Font b rest nested = IsNested-name_or_opening Font b rest nested
IsNested-name_begun (LeftOut byte) b rest nested = IsNested-name_or_opening (LeftOut byte) b rest nested

-- a unit of a name
IsNested-unit_of_name :
    (purpose : NameUse) (part : NamePart) (unit : CopyUnit) (rest : List OpenEscape)
    → IsNested (Name purpose part ∷ rest) → IsNested (unit_of_name rest purpose part unit).1
IsNested-unit_of_name purpose Nothing (Byte b) rest nested = IsNested-name_begun purpose b rest nested
IsNested-unit_of_name purpose Nothing (Kept b) rest nested = IsNested-name_given purpose _ rest (IsNested-rest (Name purpose Nothing) rest nested)
IsNested-unit_of_name purpose Opened (Byte b) rest nested = nested
IsNested-unit_of_name purpose Opened (Kept b) rest nested = IsNested-name_given purpose _ rest (IsNested-rest (Name purpose Opened) rest nested)
IsNested-unit_of_name purpose (First a) unit rest nested = IsNested-name_given purpose _ rest (IsNested-rest (Name purpose (First a)) rest nested)

-- a unit of a text between delimiters
IsNested-unit_of_text :
    (purpose : TextUse) (d : Option ℕ) (text : List ℕ) (unit : CopyUnit) (rest : List OpenEscape)
    → IsNested (Delimited purpose d text ∷ rest) → IsNested (unit_of_text rest purpose d text unit).1
IsNested-unit_of_text OfMotion d text unit rest nested = nested
IsNested-unit_of_text (LeftOutText b) d text unit rest nested = nested

-- an expression by its value
IsNested-expression_valued :
    (part : ConditionPart) (text : List ℕ) (negated : Bool) (freed : Option ℕ) (value : Result (Num × ℕ) NumFault) (rest : List OpenEscape)
    → IsNested (Condition part text ∷ rest) → IsNested (expression_valued rest negated freed text value).1
IsNested-expression_valued part text negated freed (Ok r) rest nested = nested
IsNested-expression_valued part text negated freed (Err fault) rest nested = nested

-- the byte that says what a condition asks
IsNested-choice_made :
    (negated : Bool) (text : List ℕ) (b : ℕ) (rest : List OpenEscape)
    → IsNested (Condition (Choice negated) text ∷ rest) → IsNested (choice_made rest negated text b).1
IsNested-choice_made negated text b rest nested =
    either (b == blank && not negated) _ _ (λ is. nested) λ other.
    either (b == 33 && not negated) _ _ (λ is. nested) λ other.
    either (b == 111) _ _ (λ is. nested) λ other.
    either (b == 101) _ _ (λ is. nested) λ other.
    either (b == 116) _ _ (λ is. nested) λ other.
    either (b == 110) _ _ (λ is. nested) λ other.
    either (begins_expression b) _ _ (λ is. nested) (λ other. nested)

-- a unit of a condition
IsNested-unit_of_condition :
    (part : ConditionPart) (text : List ℕ) (unit : CopyUnit) (rest : List OpenEscape)
    → IsNested (Condition part text ∷ rest) → IsNested (unit_of_condition rest part text unit).1
IsNested-unit_of_condition (Choice negated) text (Byte b) rest nested = IsNested-choice_made negated text b rest nested
IsNested-unit_of_condition (Choice negated) text (Kept b) rest nested = nested
IsNested-unit_of_condition (Expression negated) text (Byte b) rest nested =
    either (b == backslash || b == tab) _ _ (λ ends. IsNested-expression_valued (Expression negated) text negated (Some b) _ rest nested) (λ other. nested)
IsNested-unit_of_condition (Expression negated) text (Kept b) rest nested = nested
IsNested-unit_of_condition (Compared negated d first) text unit rest nested = nested
IsNested-unit_of_condition (Decided decision freed) text unit rest nested = nested

-- a byte of a condition that is no delimiter
IsNested-byte_or_backslash :
    (part : ConditionPart) (text : List ℕ) (b : ℕ) (rest : List OpenEscape)
    → IsNested (Condition part text ∷ rest) → IsNested (byte_or_backslash rest part text b).1
IsNested-byte_or_backslash part text b rest nested =
    either (b == backslash) _ _ (λ escape. nested) (λ other. IsNested-unit_of_condition part text (Byte b) rest nested)

-- the delimiter of its texts
IsNested-delimiter_met :
    (negated : Bool) (d : ℕ) (first : Option ℕ) (text : List ℕ) (rest : List OpenEscape)
    → IsNested (Condition (Compared negated d first) text ∷ rest) → IsNested (delimiter_met rest negated d first text).1
IsNested-delimiter_met negated d None text rest nested = nested
IsNested-delimiter_met negated d (Some first) text rest nested = nested

-- a byte of a condition
IsNested-byte_of_condition :
    (part : ConditionPart) (text : List ℕ) (b : ℕ) (rest : List OpenEscape)
    → IsNested (Condition part text ∷ rest) → IsNested (byte_of_condition rest part text b).1
IsNested-byte_of_condition (Choice negated) text b rest nested = IsNested-byte_or_backslash (Choice negated) text b rest nested
IsNested-byte_of_condition (Expression negated) text b rest nested = IsNested-byte_or_backslash (Expression negated) text b rest nested
IsNested-byte_of_condition (Compared negated d first) text b rest nested =
    either (b == d) _ _ (λ ends. IsNested-delimiter_met negated d first text rest nested)
    (λ other. IsNested-byte_or_backslash (Compared negated d first) text b rest nested)
IsNested-byte_of_condition (Decided decision freed) text b rest nested = IsNested-byte_or_backslash (Decided decision freed) text b rest nested

-- a condition that ends before what stays
IsNested-condition_ended :
    (part : ConditionPart) (text : List ℕ) (rest : List OpenEscape) → IsNested (Condition part text ∷ rest) → IsNested (condition_ended rest part text).1
IsNested-condition_ended (Choice negated) text rest nested = nested
IsNested-condition_ended (Expression negated) text rest nested =
    IsNested-expression_valued (Expression negated) text negated None _ rest nested
IsNested-condition_ended (Compared negated d first) text rest nested = nested
IsNested-condition_ended (Decided decision freed) text rest nested = IsNested-rest (Condition (Decided decision freed) text) rest nested

-- a unit
IsNested-unit_taken : (unit : CopyUnit) (rest : List OpenEscape) → IsNested rest → IsNested (unit_taken rest unit).1
IsNested-unit_taken unit [] nested = nested
IsNested-unit_taken unit (Backslash ∷ rest) nested = nested
IsNested-unit_taken unit (Comment ∷ rest) nested = nested
IsNested-unit_taken unit (Name purpose part ∷ rest) nested = IsNested-unit_of_name purpose part unit rest nested
IsNested-unit_taken unit (Size part ∷ rest) nested = nested
IsNested-unit_taken unit (Delimited purpose d text ∷ rest) nested = IsNested-unit_of_text purpose d text unit rest nested
IsNested-unit_taken unit (Width d width is_deep ∷ rest) nested = nested
IsNested-unit_taken unit (Condition part text ∷ rest) nested = IsNested-unit_of_condition part text unit rest nested

-- the byte behind a backslash of copy mode that begins nothing
IsNested-copied_escape : (b : ℕ) (rest : List OpenEscape) → IsNested rest → IsNested (copied_escape rest b).1
IsNested-copied_escape b rest nested =
    let unit : (unit : CopyUnit) → IsNested (unit_taken rest unit).1 = λ unit. IsNested-unit_taken unit rest nested in
    either (b == newline) _ _ (λ dropped. nested) λ other.
    either (b == backslash) _ _ (λ is. unit (Byte backslash)) λ other.
    either (b == dot) _ _ (λ is. unit (Byte dot)) λ other.
    either (b == 116) _ _ (λ is. unit (Byte tab)) λ other. unit (Kept b)

-- a name begins, unless it would be one too many
IsNested-name_beginning :
    (purpose : NameUse) (is_full : Bool) (rest : List OpenEscape) → nat_le most_names (names_in rest) ≡ is_full → is_open rest ≡ true → IsNested rest
    → IsNested (if is_full then rest else Name purpose (part_at_first purpose) ∷ rest)
IsNested-name_beginning purpose true rest full is_free nested = nested
IsNested-name_beginning purpose false rest room is_free nested = above (Name purpose (part_at_first purpose)) rest is_free (rw room refl) nested

-- what is read above anything is read above a text line too
reads_text-above : (base : Surroundings) (rest : List OpenEscape) → reads_text (surroundings base rest) ≡ true → reads_text (surroundings (InText (pos 0)) rest) ≡ true
reads_text-above base [] reads = refl
reads_text-above base (Backslash ∷ rest) reads = reads
reads_text-above base (Comment ∷ rest) reads = reads
reads_text-above base (Name purpose part ∷ rest) reads = reads
reads_text-above base (Size part ∷ rest) reads = reads
reads_text-above base (Delimited purpose d text ∷ rest) reads = reads
reads_text-above base (Width d width true ∷ rest) reads = reads
reads_text-above base (Width d width false ∷ rest) reads = refl
reads_text-above base (Condition part text ∷ rest) reads = reads

reads_widths-above : (base : Surroundings) (rest : List OpenEscape) → reads_widths (surroundings base rest) ≡ true → reads_widths (surroundings (InText (pos 0)) rest) ≡ true
reads_widths-above base [] reads = refl
reads_widths-above base (Backslash ∷ rest) reads = reads
reads_widths-above base (Comment ∷ rest) reads = reads
reads_widths-above base (Name purpose part ∷ rest) reads = reads
reads_widths-above base (Size part ∷ rest) reads = reads
reads_widths-above base (Delimited purpose d text ∷ rest) reads = reads
reads_widths-above base (Width d width true ∷ rest) reads = reads
reads_widths-above base (Width d width false ∷ rest) reads = refl
reads_widths-above base (Condition part text ∷ rest) reads = reads

-- a text that is measured begins, a deep one or not
deep_or_not : (reads is_deep : Bool) → reads ≡ true → (reads && (if is_deep then is_deep else not is_deep)) ≡ true
deep_or_not true true is = refl
deep_or_not true false is = refl
deep_or_not false is_deep is = cc

-- the byte behind a backslash, by what it means
module _ (base : Surroundings) (b : ℕ) (rest : List OpenEscape) (is_free : is_open rest ≡ true) (nested : IsNested rest) where
  -- an escape that begins nothing
  plain : IsNested (if reads_text (surroundings base rest) then escape_given rest b else copied_escape rest b).1
  plain = either (reads_text (surroundings base rest)) _ _ (λ reads. IsNested-escape_given b rest nested) (λ copies. IsNested-copied_escape b rest nested)

  IsNested-escape_read : (kind : Kind) → IsNested (escape_read (surroundings base rest) rest b kind).1
  IsNested-escape_read BeginsComment = above Comment rest is_free refl nested
  IsNested-escape_read BeginsSize =
      either (reads_text (surroundings base rest)) _ _ (λ reads. above (Size NoSize) rest is_free (reads_text-above base rest reads) nested)
      (λ copies. IsNested-copied_escape b rest nested)
  IsNested-escape_read (BeginsName purpose) =
      either (is_copied purpose || reads_text (surroundings base rest)) _ _ (λ reads. IsNested-name_beginning purpose _ rest refl is_free nested)
      (λ copies. IsNested-unit_taken (Kept b) rest nested)
  IsNested-escape_read (BeginsText purpose) =
      either (reads_text (surroundings base rest)) _ _ (λ reads. above (Delimited purpose None []) rest is_free (reads_text-above base rest reads) nested)
      (λ copies. IsNested-copied_escape b rest nested)
  IsNested-escape_read BeginsWidth =
      let is_deep = nat_le most_widths (widths_in rest) in
      either (reads_widths (surroundings base rest)) _ _
      (λ reads. above (Width None 0 is_deep) rest is_free (deep_or_not (reads_widths (surroundings (InText (pos 0)) rest)) is_deep (reads_widths-above base rest reads)) nested)
      (λ copies. IsNested-copied_escape b rest nested)
  IsNested-escape_read (Prints byte) = plain
  IsNested-escape_read Blank = plain
  IsNested-escape_read NoWidth = plain
  IsNested-escape_read GivesNothing = plain
  IsNested-escape_read Brace = plain
  IsNested-escape_read GivesTab = plain
  IsNested-escape_read Interrupts = plain
  IsNested-escape_read IsLeftOut = plain

-- a byte of a size
IsNested-size_read : (part : SizePart) (b : ℕ) (rest : List OpenEscape) → IsNested (Size part ∷ rest) → IsNested (size_read rest part b).1
IsNested-size_read NoSize b rest nested =
    either (is_sign b) _ _ (λ is. nested) λ other.
    either (is_first_digit b) _ _ (λ is. nested) λ other. IsNested-escape_given 115 rest (IsNested-rest (Size NoSize) rest nested)
IsNested-size_read Sign b rest nested = IsNested-escape_given 115 rest (IsNested-rest (Size Sign) rest nested)
IsNested-size_read Digit b rest nested = IsNested-escape_given 115 rest (IsNested-rest (Size Digit) rest nested)

-- a byte of a text between delimiters
IsNested-byte_of_text :
    (place : ℤ) (purpose : TextUse) (d : Option ℕ) (text : List ℕ) (b : ℕ) (rest : List OpenEscape)
    → IsNested (Delimited purpose d text ∷ rest) → IsNested (byte_of_text place rest purpose d text b).1
IsNested-byte_of_text place purpose None text b rest nested = nested
IsNested-byte_of_text place purpose (Some d) text b rest nested =
    either (b == d) _ _ (λ ends. IsNested-text_given place purpose text rest (IsNested-rest (Delimited purpose (Some d) text) rest nested)) λ other.
    either (b == backslash) _ _ (λ escape. nested) λ other. IsNested-unit_of_text purpose (Some d) text (Byte b) rest nested

-- a byte of a text that is measured
IsNested-byte_of_width :
    (d : Option ℕ) (width : ℕ) (is_deep : Bool) (b : ℕ) (rest : List OpenEscape)
    → IsNested (Width d width is_deep ∷ rest) → IsNested (byte_of_width rest d width is_deep b).1
IsNested-byte_of_width None width is_deep b rest nested = nested
IsNested-byte_of_width (Some d) width is_deep b rest nested =
    either (b == d) _ _ (λ ends. IsNested-rest (Width (Some d) width is_deep) rest nested) λ other.
    either (b == backslash) _ _ (λ escape. nested) λ other. either is_deep _ _ (λ deep. nested) (λ grows. nested)

-- a byte
pub IsNested-byte_read : (base : Surroundings) (b : ℕ) (half : List OpenEscape) → IsNested half
    → IsNested (byte_read base half b).1
IsNested-byte_read base b [] nested = either (b == backslash) _ _ (λ escape. nested) (λ unit. nested)
IsNested-byte_read base b (Backslash ∷ rest) nested =
    IsNested-escape_read base b rest (open-rest Backslash rest nested) (IsNested-rest Backslash rest nested) (escape_of b)
IsNested-byte_read base b (Comment ∷ rest) nested = nested
IsNested-byte_read base b (Name purpose part ∷ rest) nested =
    either (b == backslash) _ _ (λ escape. nested) (λ unit. IsNested-unit_of_name purpose part (Byte b) rest nested)
IsNested-byte_read base b (Size part ∷ rest) nested = IsNested-size_read part b rest nested
IsNested-byte_read base b (Delimited purpose d text ∷ rest) nested = IsNested-byte_of_text (place_above base) purpose d text b rest nested
IsNested-byte_read base b (Width d width is_deep ∷ rest) nested = IsNested-byte_of_width d width is_deep b rest nested
IsNested-byte_read base b (Condition part text ∷ rest) nested = IsNested-byte_of_condition part text b rest nested

-- a name that ends before what stays
IsNested-name_ended : (purpose : NameUse) (part : NamePart) (rest : List OpenEscape) → IsNested rest → IsNested (name_ended rest purpose part).1
IsNested-name_ended purpose Nothing rest nested = IsNested-name_given purpose _ rest nested
IsNested-name_ended purpose Opened rest nested = IsNested-name_given purpose _ rest nested
IsNested-name_ended purpose (First a) rest nested = IsNested-name_given purpose _ rest nested

-- an end
pub IsNested-reading_ended : (base : Surroundings) (half : List OpenEscape) → IsNested half → IsNested (reading_ended base half).1
IsNested-reading_ended base [] nested = nested
IsNested-reading_ended base (Backslash ∷ rest) nested =
    let below = IsNested-rest Backslash rest nested in
    either (reads_text (surroundings base rest)) _ _ (λ reads. IsNested-escape_given start_of_text rest below) (λ copies. IsNested-unit_taken (Byte backslash) rest below)
IsNested-reading_ended base (Comment ∷ rest) nested =
    let below = IsNested-rest Comment rest nested in
    either (reads_text (surroundings base rest)) _ _ (λ reads. IsNested-escape_given quote rest below) (λ copies. below)
IsNested-reading_ended base (Name purpose part ∷ rest) nested = IsNested-name_ended purpose part rest (IsNested-rest (Name purpose part) rest nested)
IsNested-reading_ended base (Size part ∷ rest) nested = IsNested-escape_given 115 rest (IsNested-rest (Size part) rest nested)
IsNested-reading_ended base (Delimited purpose d text ∷ rest) nested =
    IsNested-text_given (place_above base) purpose text rest (IsNested-rest (Delimited purpose d text) rest nested)
IsNested-reading_ended base (Width d width is_deep ∷ rest) nested = IsNested-rest (Width d width is_deep) rest nested
IsNested-reading_ended base (Condition part text ∷ rest) nested = IsNested-condition_ended part text rest nested

-- what is half read behind it
IsNested-escapes_behind : (read : Found) (half : List OpenEscape) → IsNested half → IsNested (escapes_behind read half)
IsNested-escapes_behind GoesOn half nested = nested
IsNested-escapes_behind (GivesUnit unit) half nested = nested
IsNested-escapes_behind (Holds unit) half nested = IsNested-text_held unit half nested
IsNested-escapes_behind (Escape b) half nested = nested
IsNested-escapes_behind (Asks purpose name) half nested = nested
IsNested-escapes_behind (Motion columns remark) half nested = nested
IsNested-escapes_behind (Measures width) half nested = nested
IsNested-escapes_behind (Tells remark) half nested = nested
IsNested-escapes_behind (Decides decision freed) half nested = nested

-- bytes
pub IsNested-reads_through : (base : Surroundings) (half : List OpenEscape) (bytes : List ℕ) → IsNested half → IsNested (reads_through base half bytes).1
IsNested-reads_through base half [] nested = nested
IsNested-reads_through base half (b ∷ bytes) nested =
    let read = byte_read base half b in
    IsNested-reads_through base (escapes_behind read.0 read.1) bytes (IsNested-escapes_behind read.0 read.1 (IsNested-byte_read base b half nested))
