-- An escape has at least as many bytes as columns: what is half read, and a name of two bytes, has so many.
use Rattle.std.proofs.Common.{◌≡◌, ℕ, zero, suc, ◌+◌, ◌≤◌, Bool, true, false, List, [], ◌∷◌, length, refl, arith, ℤ, pos, ◌==◌, ◌&&◌, ◌||◌, not, nat_le, Option, Some, None, Result, Ok, Err, fold, if◌then◌else◌}
use Rattle.roff_num.specs.Expressions.{value_at}
use Rattle.roff_num.specs.declared.num.Num.{Num}
use Rattle.roff_num.specs.declared.num.NumFault.{NumFault}
use Rattle.roff_num.specs.declared.num.Scale.TheVariants.{Units}
use Rattle.input_source.specs.Bytes.{backslash, blank, dot, is_dropped, newline, quote, start_of_text, tab}
use Rattle.input_escapes.specs.Conditions.{begins_expression, byte_of_condition, byte_or_backslash, choice_made, condition_ended, delimiter_met, expression_valued, unit_of_condition}
use Rattle.input_escapes.specs.Escapes.{escape_of, is_copied}
use Rattle.input_escapes.specs.Measures.{escape_measures, motion_of, name_measures}
use Rattle.input_escapes.specs.Nesting.{is_nothing}
use Rattle.input_escapes.specs.OpenEscape.{OpenEscape, Reads, Backslash, Comment, Name, Size, Delimited, Width, Condition, names_in}
use Rattle.input_escapes.specs.OpenEscapes.{byte_of_text, byte_of_width, byte_read, copied_escape, escape_given, escape_read, is_first_digit, is_sign, most_names, motion_given, name_begun, name_ended, name_given, name_or_opening, part_at_first, place_above, reading_ended, reads_text, reads_widths, size_read, surroundings, text_given, told, unit_of_name, unit_of_text, unit_taken}
use Rattle.input_escapes.specs.declared.escapes.Escape.{Escape as Kind}
use Rattle.input_escapes.specs.declared.escapes.Escape.TheVariants.{Prints, Blank as PrintsBlank, NoWidth, Nothing as GivesNothing, Tab as GivesTab, Interrupts, Brace, LeftOut as IsLeftOut, Comment as BeginsComment, Size as BeginsSize, Name as BeginsName, Text as BeginsText, Width as BeginsWidth}
use Rattle.input_escapes.specs.declared.escapes.NameUse.{NameUse}
use Rattle.input_escapes.specs.declared.escapes.NameUse.TheVariants.{Register, Text, Argument, Character, Font, LeftOut}
use Rattle.input_escapes.specs.declared.escapes.TextUse.{TextUse}
use Rattle.input_escapes.specs.declared.escapes.TextUse.TheVariants.{Motion as OfMotion, LeftOut as LeftOutText}
use Rattle.input_escapes.specs.declared.open_escape.ConditionPart.{ConditionPart}
use Rattle.input_escapes.specs.declared.open_escape.ConditionPart.TheVariants.{Choice, Expression, Decided, Compared}
use Rattle.input_escapes.specs.declared.open_escape.CopyUnit.{CopyUnit}
use Rattle.input_escapes.specs.declared.open_escape.CopyUnit.TheVariants.{Byte, Kept}
use Rattle.input_escapes.specs.declared.open_escape.Found.{Found}
use Rattle.input_escapes.specs.declared.open_escape.Found.TheVariants.{GoesOn, Unit as GivesUnit, Asks}
use Rattle.input_escapes.specs.declared.open_escape.NamePart.{NamePart}
use Rattle.input_escapes.specs.declared.open_escape.NamePart.TheVariants.{Nothing, Opened, First}
use Rattle.input_escapes.specs.declared.open_escape.Remark.{Remark}
use Rattle.input_escapes.specs.declared.open_escape.SizePart.{SizePart}
use Rattle.input_escapes.specs.declared.open_escape.SizePart.TheVariants.{Nothing as NoSize, Sign, Digit}
use Rattle.input_escapes.specs.declared.open_escape.Surroundings.{Surroundings}
use Rattle.tbl_text.specs.Items.{Reading, all_ended, begun, ended, is_ended, line_start, met, taken, whole}

-- as many bytes as these were read at least
abbrev pub paid : List OpenEscape → ℕ
paid [] = 0
paid (Backslash ∷ rest) = suc (paid rest)
paid (Name purpose Nothing ∷ rest) = suc (suc (paid rest))
paid (Name purpose Opened ∷ rest) = suc (suc (paid rest))
paid (Name purpose (First a) ∷ rest) = suc (suc (suc (paid rest)))
paid (Comment ∷ rest) = paid rest
paid (Size part ∷ rest) = paid rest
paid (Delimited purpose d text ∷ rest) = paid rest
paid (Width d width is_deep ∷ rest) = paid rest
paid (Condition part text ∷ rest) = paid rest

-- and for a character's name of two bytes its escape's four
abbrev pub worth : Found → ℕ
worth (Asks Character (Some (a ∷ b ∷ more))) = 4
worth (_) = 0

-- a reading has no more than so many
pub record Costs (most : ℕ) (read : Reads) : Type 0 where
  pub half : paid read.1 ≤ most
  pub found : worth read.0 ≤ most

-- of two readings either does so, by a test
either : (most : ℕ) (c : Bool) (x y : Reads) → Costs most x → Costs most y → Costs most (if c then x else y)
either most true x y of_x of_y = of_x
either most false x y of_x of_y = of_y

-- what is told costs nothing
told-worth : (remark : Option Remark) → worth (told remark) ≡ 0
told-worth None = refl
told-worth (Some remark) = refl

-- an escape of the text
cost-escape_given : (most b : ℕ) (rest : List OpenEscape) → paid rest ≤ most → Costs most (escape_given rest b)
cost-escape_given most b [] few = record { half = omega (arith, few); found = omega arith }
cost-escape_given most b (Backslash ∷ rest) few = record { half = omega (arith, few); found = omega arith }
cost-escape_given most b (Comment ∷ rest) few = record { half = omega (arith, few); found = omega arith }
cost-escape_given most b (Name other part ∷ rest) few = record { half = omega (arith, few); found = omega arith }
cost-escape_given most b (Size part ∷ rest) few = record { half = omega (arith, few); found = omega arith }
cost-escape_given most b (Delimited other d text ∷ rest) few = record { half = omega (arith, few); found = omega arith }
cost-escape_given most b (Width d width is_deep ∷ rest) few = record { half = omega (arith, few); found = omega (arith, told-worth (escape_measures b (escape_of b)).remark) }
cost-escape_given most b (Condition part text ∷ rest) few = record { half = omega (arith, few); found = omega arith }

-- a motion
cost-motion_given : (most : ℕ) (place : ℤ) (motion : List ℕ) (rest : List OpenEscape) → paid rest ≤ most → Costs most (motion_given rest (motion_of place motion))
cost-motion_given most place motion [] few = record { half = omega (arith, few); found = omega arith }
cost-motion_given most place motion (Backslash ∷ rest) few = record { half = omega (arith, few); found = omega arith }
cost-motion_given most place motion (Comment ∷ rest) few = record { half = omega (arith, few); found = omega arith }
cost-motion_given most place motion (Name other part ∷ rest) few = record { half = omega (arith, few); found = omega arith }
cost-motion_given most place motion (Size part ∷ rest) few = record { half = omega (arith, few); found = omega arith }
cost-motion_given most place motion (Delimited other d text ∷ rest) few = record { half = omega (arith, few); found = omega arith }
cost-motion_given most place motion (Width d width is_deep ∷ rest) few = record { half = omega (arith, few); found = omega (arith, told-worth (motion_of place motion).remark) }
cost-motion_given most place motion (Condition part text ∷ rest) few = record { half = omega (arith, few); found = omega arith }

-- a name
cost-name_given : (most : ℕ) (purpose : NameUse) (name : Option (List ℕ)) (rest : List OpenEscape) → paid rest ≤ most → worth (Asks purpose name) ≤ most
    → Costs most (name_given rest purpose name)
cost-name_given most purpose name [] few dear = record { half = omega (arith, few); found = dear }
cost-name_given most purpose name (Backslash ∷ rest) few dear = record { half = omega (arith, few); found = dear }
cost-name_given most purpose name (Comment ∷ rest) few dear = record { half = omega (arith, few); found = dear }
cost-name_given most purpose name (Name other part ∷ rest) few dear = record { half = omega (arith, few); found = dear }
cost-name_given most purpose name (Size part ∷ rest) few dear = record { half = omega (arith, few); found = dear }
cost-name_given most purpose name (Delimited other d text ∷ rest) few dear = record { half = omega (arith, few); found = dear }
cost-name_given most purpose name (Width d width is_deep ∷ rest) few dear =
    either most (is_copied purpose) _ _ (record { half = omega (arith, few); found = dear }) (record { half = omega (arith, few); found = omega (arith, told-worth (name_measures purpose name).remark) })
cost-name_given most purpose name (Condition part text ∷ rest) few dear = record { half = omega (arith, few); found = dear }

-- a name of one byte, and of two at most
one_byte : (purpose : NameUse) (b : ℕ) → worth (Asks purpose (Some (b ∷ []))) ≡ 0
one_byte (Register step) b = refl
one_byte Text b = refl
one_byte Argument b = refl
one_byte Character b = refl
one_byte Font b = refl
one_byte (LeftOut letter) b = refl

no_byte : (purpose : NameUse) → worth (Asks purpose None) ≡ 0
no_byte (Register step) = refl
no_byte Text = refl
no_byte Argument = refl
no_byte Character = refl
no_byte Font = refl
no_byte (LeftOut letter) = refl

two_bytes : (purpose : NameUse) (a b : ℕ) → worth (Asks purpose (Some (a ∷ b ∷ []))) ≤ 4
two_bytes (Register step) a b = omega arith
two_bytes Text a b = omega arith
two_bytes Argument a b = omega arith
two_bytes Character a b = omega arith
two_bytes Font a b = omega arith
two_bytes (LeftOut letter) a b = omega arith

-- a text between delimiters
cost-text_given : (most : ℕ) (place : ℤ) (purpose : TextUse) (text : List ℕ) (rest : List OpenEscape) → paid rest ≤ most → Costs most (text_given place rest purpose text)
cost-text_given most place OfMotion text rest few = cost-motion_given most place text rest few
cost-text_given most place (LeftOutText b) text rest few = cost-escape_given most b rest few

-- what stays half read, and nothing is found
stays : (most : ℕ) (half : List OpenEscape) → paid half ≤ most → Costs most (GoesOn, half)
stays most half few = record { half = few; found = omega arith }

-- a name, or the parenthesis of one
cost-name_or_opening : (most : ℕ) (purpose : NameUse) (b : ℕ) (rest : List OpenEscape) → suc (suc (paid rest)) ≤ most → Costs most (name_or_opening rest purpose b)
cost-name_or_opening most purpose b rest few =
    either most (b == 40) (GoesOn, Name purpose Opened ∷ rest) (name_given rest purpose (Some (b ∷ []))) (stays most _ few)
    (cost-name_given most purpose (Some (b ∷ [])) rest (omega (arith, few)) (omega (arith, one_byte purpose b)))

-- the first byte of a name
cost-name_begun : (most : ℕ) (purpose : NameUse) (b : ℕ) (rest : List OpenEscape) → suc (suc (paid rest)) ≤ most → Costs most (name_begun rest purpose b)
cost-name_begun most (Register None) b rest few =
    either most (b == 43) _ _ (record { half = few; found = omega arith })
    (either most (b == 45) _ _ (record { half = few; found = omega arith }) (cost-name_or_opening most (Register None) b rest few))
cost-name_begun most (Register (Some direction)) b rest few = cost-name_or_opening most (Register (Some direction)) b rest few
cost-name_begun most Text b rest few = cost-name_or_opening most Text b rest few
cost-name_begun most Argument b rest few = cost-name_given most Argument (Some (b ∷ [])) rest (omega (arith, few)) (omega arith)
cost-name_begun most Character b rest few = cost-name_or_opening most Character b rest few
cost-name_begun most Font b rest few = cost-name_or_opening most Font b rest few
cost-name_begun most (LeftOut byte) b rest few = cost-name_or_opening most (LeftOut byte) b rest few

-- a unit has a byte, or two
abbrev pub unit_cost : CopyUnit → ℕ
unit_cost (Byte b) = 1
unit_cost (Kept b) = 2

-- a unit of a name
cost-unit_of_name : (most : ℕ) (purpose : NameUse) (part : NamePart) (unit : CopyUnit) (rest : List OpenEscape)
    → paid (Name purpose part ∷ rest) + unit_cost unit ≤ most → Costs most (unit_of_name rest purpose part unit)
cost-unit_of_name most purpose Nothing (Byte b) rest few = cost-name_begun most purpose b rest (omega (arith, few))
cost-unit_of_name most purpose Nothing (Kept b) rest few = cost-name_given most purpose (Some (backslash ∷ b ∷ [])) rest (omega (arith, few)) (omega (arith, few, two_bytes purpose backslash b))
cost-unit_of_name most purpose Opened (Byte b) rest few = record { half = omega (arith, few); found = omega arith }
cost-unit_of_name most purpose Opened (Kept b) rest few = cost-name_given most purpose (Some (backslash ∷ b ∷ [])) rest (omega (arith, few)) (omega (arith, few, two_bytes purpose backslash b))
cost-unit_of_name most purpose (First a) (Byte b) rest few = cost-name_given most purpose (Some (a ∷ b ∷ [])) rest (omega (arith, few)) (omega (arith, few, two_bytes purpose a b))
cost-unit_of_name most purpose (First a) (Kept b) rest few = cost-name_given most purpose (Some (a ∷ backslash ∷ [])) rest (omega (arith, few)) (omega (arith, few, two_bytes purpose a backslash))

-- a unit of a text between delimiters
cost-unit_of_text : (most : ℕ) (purpose : TextUse) (d : Option ℕ) (text : List ℕ) (unit : CopyUnit) (rest : List OpenEscape)
    → paid rest ≤ most → Costs most (unit_of_text rest purpose d text unit)
cost-unit_of_text most OfMotion d text unit rest few = record { half = few; found = omega arith }
cost-unit_of_text most (LeftOutText b) d text unit rest few = record { half = few; found = omega arith }

-- an expression by its value
cost-expression_valued : (most : ℕ) (text : List ℕ) (negated : Bool) (freed : Option ℕ) (value : Result (Num × ℕ) NumFault) (rest : List OpenEscape)
    → paid rest ≤ most → Costs most (expression_valued rest negated freed text value)
cost-expression_valued most text negated freed (Ok r) rest few = record { half = few; found = omega arith }
cost-expression_valued most text negated freed (Err fault) rest few = record { half = few; found = omega arith }

-- the byte that says what a condition asks
cost-choice_made : (most : ℕ) (negated : Bool) (text : List ℕ) (b : ℕ) (rest : List OpenEscape) → paid rest ≤ most → Costs most (choice_made rest negated text b)
cost-choice_made most negated text b rest few =
    either most (b == blank && not negated) _ _ (record { half = few; found = omega arith })
    (either most (b == 33 && not negated) _ _ (record { half = few; found = omega arith })
    (either most (b == 111) _ _ (record { half = few; found = omega arith })
    (either most (b == 101) _ _ (record { half = few; found = omega arith })
    (either most (b == 116) _ _ (record { half = few; found = omega arith })
    (either most (b == 110) _ _ (record { half = few; found = omega arith })
    (either most (begins_expression b) _ _ (record { half = few; found = omega arith }) (record { half = few; found = omega arith })))))))

-- a unit of a condition
cost-unit_of_condition : (most : ℕ) (part : ConditionPart) (text : List ℕ) (unit : CopyUnit) (rest : List OpenEscape)
    → paid rest ≤ most → Costs most (unit_of_condition rest part text unit)
cost-unit_of_condition most (Choice negated) text (Byte b) rest few = cost-choice_made most negated text b rest few
cost-unit_of_condition most (Choice negated) text (Kept b) rest few = record { half = few; found = omega arith }
cost-unit_of_condition most (Expression negated) text (Byte b) rest few =
    either most (b == backslash || b == tab) _ _ (cost-expression_valued most text negated (Some b) (value_at text 0 Units (Some (pos 0))) rest few)
    (record { half = few; found = omega arith })
cost-unit_of_condition most (Expression negated) text (Kept b) rest few = record { half = few; found = omega arith }
cost-unit_of_condition most (Compared negated d first) text unit rest few = record { half = few; found = omega arith }
cost-unit_of_condition most (Decided decision freed) text unit rest few = record { half = few; found = omega arith }

-- a unit
cost-unit_taken : (most : ℕ) (unit : CopyUnit) (rest : List OpenEscape) → paid rest + unit_cost unit ≤ most → Costs most (unit_taken rest unit)
cost-unit_taken most unit [] few = record { half = omega arith; found = omega arith }
cost-unit_taken most unit (Backslash ∷ rest) few = record { half = omega (arith, few); found = omega arith }
cost-unit_taken most unit (Comment ∷ rest) few = record { half = omega (arith, few); found = omega arith }
cost-unit_taken most unit (Name purpose part ∷ rest) few = cost-unit_of_name most purpose part unit rest few
cost-unit_taken most unit (Size part ∷ rest) few = record { half = omega (arith, few); found = omega arith }
cost-unit_taken most unit (Delimited purpose d text ∷ rest) few = cost-unit_of_text most purpose d text unit rest (omega (arith, few))
cost-unit_taken most unit (Width d width is_deep ∷ rest) few = record { half = omega (arith, few); found = omega arith }
cost-unit_taken most unit (Condition part text ∷ rest) few = cost-unit_of_condition most part text unit rest (omega (arith, few))

-- the byte behind a backslash of copy mode that begins nothing
cost-copied_escape : (most b : ℕ) (rest : List OpenEscape) → suc (suc (paid rest)) ≤ most → Costs most (copied_escape rest b)
cost-copied_escape most b rest few =
    either most (b == newline) (GoesOn, rest) _ (stays most rest (omega (arith, few)))
    (either most (b == backslash) (unit_taken rest (Byte backslash)) _ (cost-unit_taken most (Byte backslash) rest (omega (arith, few)))
    (either most (b == dot) (unit_taken rest (Byte dot)) _ (cost-unit_taken most (Byte dot) rest (omega (arith, few)))
    (either most (b == 116) (unit_taken rest (Byte tab)) (unit_taken rest (Kept b)) (cost-unit_taken most (Byte tab) rest (omega (arith, few)))
    (cost-unit_taken most (Kept b) rest (omega (arith, few))))))

-- a name begins, unless it would be one too many
begun-paid : (purpose : NameUse) (rest : List OpenEscape) → paid (Name purpose (part_at_first purpose) ∷ rest) ≤ suc (suc (paid rest))
begun-paid (Register step) rest = omega arith
begun-paid Text rest = omega arith
begun-paid Argument rest = omega arith
begun-paid Character rest = omega arith
begun-paid Font rest = omega arith
begun-paid (LeftOut letter) rest = omega arith

either_half : (most : ℕ) (c : Bool) (x y : List OpenEscape) → paid x ≤ most → paid y ≤ most → paid (if c then x else y) ≤ most
either_half most true x y of_x of_y = of_x
either_half most false x y of_x of_y = of_y

-- the byte behind a backslash, by what it means
module _ (base : Surroundings) (most b : ℕ) (rest : List OpenEscape) (few : suc (suc (paid rest)) ≤ most) where
  less : paid rest ≤ most
  less = omega (arith, few)

  -- an escape that begins nothing
  plain : Costs most (if reads_text (surroundings base rest) then escape_given rest b else copied_escape rest b)
  plain = either most (reads_text (surroundings base rest)) _ _ (cost-escape_given most b rest less) (cost-copied_escape most b rest few)

  cost-escape_read : (kind : Kind) → Costs most (escape_read (surroundings base rest) rest b kind)
  cost-escape_read BeginsComment = record { half = less; found = omega arith }
  cost-escape_read BeginsSize = either most (reads_text (surroundings base rest)) _ _ (record { half = less; found = omega arith }) (cost-copied_escape most b rest few)
  cost-escape_read (BeginsName purpose) =
      either most (is_copied purpose || reads_text (surroundings base rest)) _ _
      (record { half = either_half most (nat_le most_names (names_in rest)) rest (Name purpose (part_at_first purpose) ∷ rest) less (omega (arith, few, begun-paid purpose rest)); found = omega arith })
      (cost-unit_taken most (Kept b) rest (omega (arith, few)))
  cost-escape_read (BeginsText purpose) = either most (reads_text (surroundings base rest)) _ _ (record { half = less; found = omega arith }) (cost-copied_escape most b rest few)
  cost-escape_read BeginsWidth = either most (reads_widths (surroundings base rest)) _ _ (record { half = less; found = omega arith }) (cost-copied_escape most b rest few)
  cost-escape_read (Prints byte) = plain
  cost-escape_read PrintsBlank = plain
  cost-escape_read NoWidth = plain
  cost-escape_read GivesNothing = plain
  cost-escape_read Brace = plain
  cost-escape_read GivesTab = plain
  cost-escape_read Interrupts = plain
  cost-escape_read IsLeftOut = plain

-- a byte of a size
cost-size_read : (most : ℕ) (part : SizePart) (b : ℕ) (rest : List OpenEscape) → paid rest ≤ most → Costs most (size_read rest part b)
cost-size_read most NoSize b rest few =
    either most (is_sign b) _ _ (record { half = few; found = omega arith })
    (either most (is_first_digit b) _ _ (record { half = few; found = omega arith }) (cost-escape_given most 115 rest few))
cost-size_read most Sign b rest few = cost-escape_given most 115 rest few
cost-size_read most Digit b rest few = cost-escape_given most 115 rest few

-- a byte of a text between delimiters
cost-byte_of_text : (most : ℕ) (place : ℤ) (purpose : TextUse) (d : Option ℕ) (text : List ℕ) (b : ℕ) (rest : List OpenEscape)
    → suc (paid rest) ≤ most → Costs most (byte_of_text place rest purpose d text b)
cost-byte_of_text most place purpose None text b rest few = record { half = omega (arith, few); found = omega arith }
cost-byte_of_text most place purpose (Some d) text b rest few =
    either most (b == d) _ _ (cost-text_given most place purpose text rest (omega (arith, few)))
    (either most (b == backslash) _ _ (record { half = omega (arith, few); found = omega arith })
    (cost-unit_of_text most purpose (Some d) text (Byte b) rest (omega (arith, few))))

-- a byte of a text that is measured
cost-byte_of_width : (most : ℕ) (d : Option ℕ) (width : ℕ) (is_deep : Bool) (b : ℕ) (rest : List OpenEscape)
    → suc (paid rest) ≤ most → Costs most (byte_of_width rest d width is_deep b)
cost-byte_of_width most None width is_deep b rest few = record { half = omega (arith, few); found = omega arith }
cost-byte_of_width most (Some d) width is_deep b rest few =
    either most (b == d) _ _ (record { half = omega (arith, few); found = omega arith })
    (either most (b == backslash) _ _ (record { half = omega (arith, few); found = omega arith })
    (either most is_deep _ _ (record { half = omega (arith, few); found = omega arith }) (record { half = omega (arith, few); found = omega arith })))

-- a byte of a condition
cost-byte_or_backslash : (most : ℕ) (part : ConditionPart) (text : List ℕ) (b : ℕ) (rest : List OpenEscape)
    → suc (paid rest) ≤ most → Costs most (byte_or_backslash rest part text b)
cost-byte_or_backslash most part text b rest few =
    either most (b == backslash) _ _ (record { half = omega (arith, few); found = omega arith }) (cost-unit_of_condition most part text (Byte b) rest (omega (arith, few)))

cost-delimiter_met : (most : ℕ) (negated : Bool) (d : ℕ) (first : Option ℕ) (text : List ℕ) (rest : List OpenEscape)
    → paid rest ≤ most → Costs most (delimiter_met rest negated d first text)
cost-delimiter_met most negated d None text rest few = record { half = few; found = omega arith }
cost-delimiter_met most negated d (Some first) text rest few = record { half = few; found = omega arith }

cost-byte_of_condition : (most : ℕ) (part : ConditionPart) (text : List ℕ) (b : ℕ) (rest : List OpenEscape)
    → suc (paid rest) ≤ most → Costs most (byte_of_condition rest part text b)
cost-byte_of_condition most (Choice negated) text b rest few = cost-byte_or_backslash most (Choice negated) text b rest few
cost-byte_of_condition most (Expression negated) text b rest few = cost-byte_or_backslash most (Expression negated) text b rest few
cost-byte_of_condition most (Compared negated d first) text b rest few =
    either most (b == d) _ _ (cost-delimiter_met most negated d first text rest (omega (arith, few)))
    (cost-byte_or_backslash most (Compared negated d first) text b rest few)
cost-byte_of_condition most (Decided decision freed) text b rest few = cost-byte_or_backslash most (Decided decision freed) text b rest few

-- a byte costs one
cost-byte_read : (most : ℕ) (base : Surroundings) (b : ℕ) (half : List OpenEscape) → suc (paid half) ≤ most → Costs most (byte_read base half b)
cost-byte_read most base b [] few =
    either most (b == backslash) (GoesOn, Backslash ∷ []) (GivesUnit (Byte b), []) (record { half = few; found = omega arith }) (record { half = omega arith; found = omega arith })
cost-byte_read most base b (Backslash ∷ rest) few = cost-escape_read base most b rest few (escape_of b)
cost-byte_read most base b (Comment ∷ rest) few = record { half = omega (arith, few); found = omega arith }
cost-byte_read most base b (Name purpose part ∷ rest) few =
    either most (b == backslash) (GoesOn, Backslash ∷ Name purpose part ∷ rest) (unit_of_name rest purpose part (Byte b)) (stays most _ few)
    (cost-unit_of_name most purpose part (Byte b) rest (omega (arith, few)))
cost-byte_read most base b (Size part ∷ rest) few = cost-size_read most part b rest (omega (arith, few))
cost-byte_read most base b (Delimited purpose d text ∷ rest) few = cost-byte_of_text most (place_above base) purpose d text b rest few
cost-byte_read most base b (Width d width is_deep ∷ rest) few = cost-byte_of_width most d width is_deep b rest few
cost-byte_read most base b (Condition part text ∷ rest) few = cost-byte_of_condition most part text b rest few

-- a name that ends before what stays
cost-name_ended : (most : ℕ) (purpose : NameUse) (part : NamePart) (rest : List OpenEscape) → paid rest ≤ most → Costs most (name_ended rest purpose part)
cost-name_ended most purpose Nothing rest few = cost-name_given most purpose None rest few (omega (arith, no_byte purpose))
cost-name_ended most purpose Opened rest few = cost-name_given most purpose None rest few (omega (arith, no_byte purpose))
cost-name_ended most purpose (First a) rest few = cost-name_given most purpose (Some (a ∷ [])) rest few (omega (arith, one_byte purpose a))

-- a condition that does
cost-condition_ended : (most : ℕ) (part : ConditionPart) (text : List ℕ) (rest : List OpenEscape) → paid rest ≤ most → Costs most (condition_ended rest part text)
cost-condition_ended most (Choice negated) text rest few = record { half = few; found = omega arith }
cost-condition_ended most (Expression negated) text rest few = cost-expression_valued most text negated None (value_at text 0 Units (Some (pos 0))) rest few
cost-condition_ended most (Compared negated d first) text rest few = record { half = few; found = omega arith }
cost-condition_ended most (Decided decision freed) text rest few = record { half = few; found = omega arith }

-- more is paid above
paid-name : (purpose : NameUse) (part : NamePart) (rest : List OpenEscape) → paid rest ≤ paid (Name purpose part ∷ rest)
paid-name purpose Nothing rest = omega arith
paid-name purpose Opened rest = omega arith
paid-name purpose (First a) rest = omega arith

-- an ending costs nothing
cost-reading_ended : (most : ℕ) (base : Surroundings) (half : List OpenEscape) → paid half ≤ most → Costs most (reading_ended base half)
cost-reading_ended most base [] few = record { half = few; found = omega arith }
cost-reading_ended most base (Backslash ∷ rest) few =
    either most (reads_text (surroundings base rest)) (escape_given rest start_of_text) (unit_taken rest (Byte backslash)) (cost-escape_given most start_of_text rest (omega (arith, few)))
    (cost-unit_taken most (Byte backslash) rest (omega (arith, few)))
cost-reading_ended most base (Comment ∷ rest) few =
    either most (reads_text (surroundings base rest)) (escape_given rest quote) (GoesOn, rest) (cost-escape_given most quote rest few) (record { half = few; found = omega arith })
cost-reading_ended most base (Name purpose part ∷ rest) few = cost-name_ended most purpose part rest (omega (arith, few, paid-name purpose part rest))
cost-reading_ended most base (Size part ∷ rest) few = cost-escape_given most 115 rest few
cost-reading_ended most base (Delimited purpose d text ∷ rest) few = cost-text_given most (place_above base) purpose text rest few
cost-reading_ended most base (Width d width is_deep ∷ rest) few = record { half = few; found = omega arith }
cost-reading_ended most base (Condition part text ∷ rest) few = cost-condition_ended most part text rest few

-- and many do
cost-ended : (most n : ℕ) (next : Option ℕ) (read : Reads) → Costs most read → Costs most (ended n next read)
cost-ended most zero next read costs = costs
cost-ended most (suc n) next read costs =
    either most (is_ended next read.1) _ read (cost-ended most n next (reading_ended line_start read.1) (cost-reading_ended most line_start read.1 costs.half)) costs

-- an escape costs no more than it has
pub record IsPaid (r : Reading) : Type 0 where
  pub fewer : r.len ≤ r.seen
  pub costs : Costs r.len r.read

either_paid : (c : Bool) (x y : Reading) → IsPaid x → IsPaid y → IsPaid (if c then x else y)
either_paid true x y of_x of_y = of_x
either_paid false x y of_x of_y = of_y

paid-taken : (r : Reading) (b : ℕ) (half : List OpenEscape) → IsPaid r → paid half ≤ r.len → IsPaid (taken r b half)
paid-taken r b [] is few = is
paid-taken r b (first ∷ rest) is few =
    record { fewer = omega arith; costs = cost-byte_read (r.seen + 1) line_start b (first ∷ rest) (omega (arith, few, is.fewer)) }

paid-met : (r : Reading) (b : ℕ) → IsPaid r → IsPaid (met r b)
paid-met r b is =
    let before : Reads = all_ended (Some b) r.read in
    let costs : Costs r.len before = cost-ended r.len (length r.read.1 + length r.read.1) (Some b) r.read is.costs in
    either_paid (is_nothing r.read.1) _ _ is
    (either_paid (is_dropped b) (record r { seen = r.seen + 1 }) (taken (record r { read = before }) b before.1)
    (record { fewer = omega (arith, is.fewer); costs = is.costs })
    (paid-taken (record r { read = before }) b before.1 (record { fewer = is.fewer; costs = costs }) costs.half))

paid-fold : (r : Reading) (text : List ℕ) → IsPaid r → IsPaid (fold met r text)
paid-fold r [] is = is
paid-fold r (b ∷ text) is = paid-fold (met r b) text (paid-met r b is)

begun-is : IsPaid begun
begun-is = record { fewer = omega arith; costs = record { half = omega arith; found = omega arith } }

pub paid-whole : (text : List ℕ) → worth (whole begun text).read.0 ≤ (whole begun text).len
paid-whole text =
    let last : Reading = fold met begun text in
    (cost-ended last.len (length last.read.1 + length last.read.1) None last.read (paid-fold begun text begun-is).costs).found
