-- Readings that end: each ending leaves less half read, so as many end as are half read, in two steps each at most.
use Rattle.std.proofs.Common.{◌≡◌, ℕ, zero, suc, ◌+◌, ◌<◌, ◌≤◌, Bool, true, false, List, [], ◌∷◌, length, refl, sym, ap, ◌∙◌, arith, ℤ, pos, ◌==◌, ◌&&◌, ◌||◌, not, Option, Some, None, Result, Ok, Err, if◌then◌else◌}
use Rattle.roff_num.specs.Expressions.{value_at}
use Rattle.roff_num.specs.declared.num.Num.{Num}
use Rattle.roff_num.specs.declared.num.NumFault.{NumFault}
use Rattle.roff_num.specs.declared.num.Scale.TheVariants.{Units}
use Rattle.input_source.specs.Bytes.{backslash, blank, quote, start_of_text, tab}
use Rattle.input_escapes.specs.Conditions.{begins_expression, choice_made, condition_ended, expression_valued, unit_of_condition}
use Rattle.input_escapes.specs.Escapes.{is_copied}
use Rattle.input_escapes.specs.Measures.{motion_of}
use Rattle.input_escapes.specs.OpenEscape.{OpenEscape, Reads, Backslash, Comment, Name, Size, Delimited, Width, Condition}
use Rattle.input_escapes.specs.OpenEscapes.{escape_given, motion_given, name_begun, name_ended, name_given, name_or_opening, place_above, reading_ended, reads_text, surroundings, text_given, unit_of_name, unit_of_text, unit_taken}
use Rattle.input_escapes.specs.declared.escapes.NameUse.{NameUse}
use Rattle.input_escapes.specs.declared.escapes.NameUse.TheVariants.{Register, Text, Argument, Character, Font, LeftOut}
use Rattle.input_escapes.specs.declared.escapes.TextUse.{TextUse}
use Rattle.input_escapes.specs.declared.escapes.TextUse.TheVariants.{Motion as OfMotion, LeftOut as LeftOutText}
use Rattle.input_escapes.specs.declared.open_escape.ConditionPart.{ConditionPart}
use Rattle.input_escapes.specs.declared.open_escape.ConditionPart.TheVariants.{Choice, Expression, Decided, Compared}
use Rattle.input_escapes.specs.declared.open_escape.CopyUnit.{CopyUnit}
use Rattle.input_escapes.specs.declared.open_escape.CopyUnit.TheVariants.{Byte, Kept}
use Rattle.input_escapes.specs.declared.open_escape.Found.{Found}
use Rattle.input_escapes.specs.declared.open_escape.Found.TheVariants.{GoesOn}
use Rattle.input_escapes.specs.declared.open_escape.NamePart.{NamePart}
use Rattle.input_escapes.specs.declared.open_escape.NamePart.TheVariants.{Nothing, Opened, First}
use Rattle.input_escapes.specs.declared.open_escape.Surroundings.{Surroundings}
use Rattle.tbl_text.specs.Items.{all_ended, ended, is_ended, line_start}

-- a condition that isn't read decides first
abbrev undecided : ConditionPart → ℕ
undecided (Choice negated) = 1
undecided (Expression negated) = 1
undecided (Compared negated d first) = 1
undecided (Decided decision freed) = 0

-- how many endings there may be
abbrev pub endings : List OpenEscape → ℕ
endings [] = 0
endings (Condition part text ∷ rest) = suc (undecided part + endings rest)
endings (Backslash ∷ rest) = suc (endings rest)
endings (Comment ∷ rest) = suc (endings rest)
endings (Name purpose part ∷ rest) = suc (endings rest)
endings (Size part ∷ rest) = suc (endings rest)
endings (Delimited purpose d text ∷ rest) = suc (endings rest)
endings (Width d width is_deep ∷ rest) = suc (endings rest)

-- no more endings are left
abbrev Leaves : ℕ → Reads → Type 0
Leaves most read = endings read.1 ≤ most

-- of two readings either does so, by a test
either : (most : ℕ) (c : Bool) (x y : Reads) → Leaves most x → Leaves most y → Leaves most (if c then x else y)
either most true x y of_x of_y = of_x
either most false x y of_x of_y = of_y

-- an escape of the text
left-escape_given : (b : ℕ) (rest : List OpenEscape) → Leaves (endings rest) (escape_given rest b)
left-escape_given b [] = omega arith
left-escape_given b (Backslash ∷ rest) = omega arith
left-escape_given b (Comment ∷ rest) = omega arith
left-escape_given b (Name other part ∷ rest) = omega arith
left-escape_given b (Size part ∷ rest) = omega arith
left-escape_given b (Delimited other d text ∷ rest) = omega arith
left-escape_given b (Width d width is_deep ∷ rest) = omega arith
left-escape_given b (Condition part text ∷ rest) = omega arith

-- a motion
left-motion_given : (place : ℤ) (text : List ℕ) (rest : List OpenEscape) → Leaves (endings rest) (motion_given rest (motion_of place text))
left-motion_given place text [] = omega arith
left-motion_given place text (Backslash ∷ rest) = omega arith
left-motion_given place text (Comment ∷ rest) = omega arith
left-motion_given place text (Name other part ∷ rest) = omega arith
left-motion_given place text (Size part ∷ rest) = omega arith
left-motion_given place motion (Delimited other d text ∷ rest) = omega arith
left-motion_given place text (Width d width is_deep ∷ rest) = omega arith
left-motion_given place motion (Condition part text ∷ rest) = omega arith

-- a name
left-name_given : (purpose : NameUse) (name : Option (List ℕ)) (rest : List OpenEscape) → Leaves (endings rest) (name_given rest purpose name)
left-name_given purpose name [] = omega arith
left-name_given purpose name (Backslash ∷ rest) = omega arith
left-name_given purpose name (Comment ∷ rest) = omega arith
left-name_given purpose name (Name other part ∷ rest) = omega arith
left-name_given purpose name (Size part ∷ rest) = omega arith
left-name_given purpose name (Delimited other d text ∷ rest) = omega arith
left-name_given purpose name (Width d width is_deep ∷ rest) = either _ (is_copied purpose) _ _ (omega arith) (omega arith)
left-name_given purpose name (Condition part text ∷ rest) = omega arith

-- a text between delimiters
left-text_given : (place : ℤ) (purpose : TextUse) (text : List ℕ) (rest : List OpenEscape) → Leaves (endings rest) (text_given place rest purpose text)
left-text_given place OfMotion text rest = left-motion_given place text rest
left-text_given place (LeftOutText b) text rest = left-escape_given b rest

-- one more
more : {m n : ℕ} → m ≤ n → m ≤ suc n
more few = omega (arith, few)

-- a name, or the parenthesis of one
left-name_or_opening : (purpose : NameUse) (b : ℕ) (rest : List OpenEscape) → Leaves (suc (endings rest)) (name_or_opening rest purpose b)
left-name_or_opening purpose b rest = either _ (b == 40) _ _ (omega arith) (more (left-name_given purpose (Some (b ∷ [])) rest))

-- the first byte of a name
left-name_begun : (purpose : NameUse) (b : ℕ) (rest : List OpenEscape) → Leaves (suc (endings rest)) (name_begun rest purpose b)
left-name_begun (Register None) b rest = either _ (b == 43) _ _ (omega arith) (either _ (b == 45) _ _ (omega arith) (left-name_or_opening (Register None) b rest))
left-name_begun (Register (Some direction)) b rest = left-name_or_opening (Register (Some direction)) b rest
left-name_begun Text b rest = left-name_or_opening Text b rest
left-name_begun Argument b rest = more (left-name_given Argument (Some (b ∷ [])) rest)
left-name_begun Character b rest = left-name_or_opening Character b rest
left-name_begun Font b rest = left-name_or_opening Font b rest
left-name_begun (LeftOut byte) b rest = left-name_or_opening (LeftOut byte) b rest

-- a unit of a name
left-unit_of_name : (purpose : NameUse) (part : NamePart) (unit : CopyUnit) (rest : List OpenEscape)
    → Leaves (suc (endings rest)) (unit_of_name rest purpose part unit)
left-unit_of_name purpose Nothing (Byte b) rest = left-name_begun purpose b rest
left-unit_of_name purpose Nothing (Kept b) rest = more (left-name_given purpose _ rest)
left-unit_of_name purpose Opened (Byte b) rest = omega arith
left-unit_of_name purpose Opened (Kept b) rest = more (left-name_given purpose _ rest)
left-unit_of_name purpose (First a) unit rest = more (left-name_given purpose _ rest)

-- a unit of a text between delimiters
left-unit_of_text : (purpose : TextUse) (d : Option ℕ) (text : List ℕ) (unit : CopyUnit) (rest : List OpenEscape)
    → Leaves (suc (endings rest)) (unit_of_text rest purpose d text unit)
left-unit_of_text OfMotion d text unit rest = omega arith
left-unit_of_text (LeftOutText b) d text unit rest = omega arith

-- an expression by its value
left-expression_valued : (text : List ℕ) (negated : Bool) (freed : Option ℕ) (value : Result (Num × ℕ) NumFault) (rest : List OpenEscape)
    → Leaves (suc (endings rest)) (expression_valued rest negated freed text value)
left-expression_valued text negated freed (Ok r) rest = omega arith
left-expression_valued text negated freed (Err fault) rest = omega arith

-- the byte that says what a condition asks
left-choice_made : (negated : Bool) (text : List ℕ) (b : ℕ) (rest : List OpenEscape)
    → Leaves (suc (suc (endings rest))) (choice_made rest negated text b)
left-choice_made negated text b rest =
    either _ (b == blank && not negated) _ _ (omega arith)
    (either _ (b == 33 && not negated) _ _ (omega arith)
    (either _ (b == 111) _ _ (omega arith)
    (either _ (b == 101) _ _ (omega arith)
    (either _ (b == 116) _ _ (omega arith)
    (either _ (b == 110) _ _ (omega arith)
    (either _ (begins_expression b) _ _ (omega arith) (omega arith)))))))

-- a unit of a condition
left-unit_of_condition : (part : ConditionPart) (text : List ℕ) (unit : CopyUnit) (rest : List OpenEscape)
    → Leaves (suc (undecided part + endings rest)) (unit_of_condition rest part text unit)
left-unit_of_condition (Choice negated) text (Byte b) rest =
    let few : Leaves (suc (suc (endings rest))) (choice_made rest negated text b) = left-choice_made negated text b rest in omega (arith, few)
left-unit_of_condition (Choice negated) text (Kept b) rest = omega arith
left-unit_of_condition (Expression negated) text (Byte b) rest =
    either _ (b == backslash || b == tab) _ _
    (let few = left-expression_valued text negated (Some b) (value_at text 0 Units (Some (pos 0))) rest in omega (arith, few))
    (omega arith)
left-unit_of_condition (Expression negated) text (Kept b) rest = omega arith
left-unit_of_condition (Compared negated d first) text unit rest = omega arith
left-unit_of_condition (Decided decision freed) text unit rest = omega arith

-- a unit
left-unit_taken : (unit : CopyUnit) (rest : List OpenEscape) → Leaves (endings rest) (unit_taken rest unit)
left-unit_taken unit [] = omega arith
left-unit_taken unit (Backslash ∷ rest) = omega arith
left-unit_taken unit (Comment ∷ rest) = omega arith
left-unit_taken unit (Name purpose part ∷ rest) = left-unit_of_name purpose part unit rest
left-unit_taken unit (Size part ∷ rest) = omega arith
left-unit_taken unit (Delimited purpose d text ∷ rest) = left-unit_of_text purpose d text unit rest
left-unit_taken unit (Width d width is_deep ∷ rest) = omega arith
left-unit_taken unit (Condition part text ∷ rest) = left-unit_of_condition part text unit rest

-- a condition that ends before what stays
left-condition_ended : (part : ConditionPart) (text : List ℕ) (rest : List OpenEscape)
    → Leaves (undecided part + endings rest) (condition_ended rest part text)
left-condition_ended (Choice negated) text rest = omega arith
left-condition_ended (Expression negated) text rest =
    let few = left-expression_valued text negated None (value_at text 0 Units (Some (pos 0))) rest in omega (arith, few)
left-condition_ended (Compared negated d first) text rest = omega arith
left-condition_ended (Decided decision freed) text rest = omega arith

-- a name that isn't whole
left-name_ended : (purpose : NameUse) (part : NamePart) (rest : List OpenEscape) → Leaves (endings rest) (name_ended rest purpose part)
left-name_ended purpose Nothing rest = left-name_given purpose None rest
left-name_ended purpose Opened rest = left-name_given purpose None rest
left-name_ended purpose (First a) rest = left-name_given purpose _ rest

-- one ending fewer is left behind one
pub endings-ended : (base : Surroundings) (half : OpenEscape) (rest : List OpenEscape) → endings (reading_ended base (half ∷ rest)).1 < endings (half ∷ rest)
endings-ended base Backslash rest =
    let few = either (endings rest) (reads_text (surroundings base rest)) (escape_given rest start_of_text) (unit_taken rest (Byte backslash)) (left-escape_given start_of_text rest) (left-unit_taken (Byte backslash) rest) in omega (arith, few)
endings-ended base Comment rest =
    let few = either (endings rest) (reads_text (surroundings base rest)) (escape_given rest quote) (GoesOn, rest) (left-escape_given quote rest) (omega arith) in omega (arith, few)
endings-ended base (Name purpose part) rest = omega (arith, left-name_ended purpose part rest)
endings-ended base (Size part) rest = omega (arith, left-escape_given 115 rest)
endings-ended base (Delimited purpose d text) rest = omega (arith, left-text_given (place_above base) purpose text rest)
endings-ended base (Width d width is_deep) rest = omega arith
endings-ended base (Condition part text) rest = omega (arith, left-condition_ended part text rest)

-- nothing half read is ended by nothing
ended-nothing : (next : Option ℕ) → is_ended next [] ≡ false
ended-nothing None = refl
ended-nothing (Some b) = refl

-- a condition decides once
undecided-few : (part : ConditionPart) → undecided part ≤ 1
undecided-few (Choice negated) = omega arith
undecided-few (Expression negated) = omega arith
undecided-few (Compared negated d first) = omega arith
undecided-few (Decided decision freed) = omega arith

-- two steps for each are enough
endings-few : (half : List OpenEscape) → endings half ≤ length half + length half
endings-few [] = omega arith
endings-few (Backslash ∷ rest) = omega (arith, endings-few rest)
endings-few (Comment ∷ rest) = omega (arith, endings-few rest)
endings-few (Name purpose part ∷ rest) = omega (arith, endings-few rest)
endings-few (Size part ∷ rest) = omega (arith, endings-few rest)
endings-few (Delimited purpose d text ∷ rest) = omega (arith, endings-few rest)
endings-few (Width d width is_deep ∷ rest) = omega (arith, endings-few rest)
endings-few (Condition part text ∷ rest) = omega (arith, endings-few rest, undecided-few part)

-- what isn't ended stays
ended-not : (most : ℕ) (next : Option ℕ) (found : Found) (half : List OpenEscape) → is_ended next half ≡ false → ended most next (found, half) ≡ (found, half)
ended-not zero next found half stays = refl
ended-not (suc most) next found half stays =
    ap (λ (t : Bool). if t then ended most next (reading_ended line_start half) else (found, half)) stays

-- what is ended is ended once and then further
ended-once : (most : ℕ) (next : Option ℕ) (found : Found) (half : List OpenEscape) → is_ended next half ≡ true
    → ended (suc most) next (found, half) ≡ ended most next (reading_ended line_start half)
ended-once most next found half ends =
    ap (λ (t : Bool). if t then ended most next (reading_ended line_start half) else (found, half)) ends

-- something half read is ended once at least
endings-some : (half : OpenEscape) (rest : List OpenEscape) → 0 < endings (half ∷ rest)
endings-some Backslash rest = omega arith
endings-some Comment rest = omega arith
endings-some (Name purpose part) rest = omega arith
endings-some (Size part) rest = omega arith
endings-some (Delimited purpose d text) rest = omega arith
endings-some (Width d width is_deep) rest = omega arith
endings-some (Condition part text) rest = omega arith

-- more steps than endings make no difference
ended-enough : (m n : ℕ) (next : Option ℕ) (found : Found) (half : List OpenEscape) → endings half ≤ m → endings half ≤ n
    → ended m next (found, half) ≡ ended n next (found, half)
ended-enough m n next found [] few less = ended-not m next found [] (ended-nothing next) ∙ sym (ended-not n next found [] (ended-nothing next))
ended-enough zero n next found (half ∷ rest) few less = absurd (omega (arith, few, endings-some half rest))
ended-enough (suc m) zero next found (half ∷ rest) few less = absurd (omega (arith, less, endings-some half rest))
ended-enough (suc m) (suc n) next found (half ∷ rest) few less =
    let read : Reads = reading_ended line_start (half ∷ rest) in
    let fewer : endings read.1 < endings (half ∷ rest) = endings-ended line_start half rest in
    ap (λ (r : Reads). if is_ended next (half ∷ rest) then r else (found, half ∷ rest))
    (ended-enough m n next read.0 read.1 (omega (arith, few, fewer)) (omega (arith, less, fewer)))

-- all that is ended where something is
all_ended-once : (next : Option ℕ) (found : Found) (half : OpenEscape) (rest : List OpenEscape) → is_ended next (half ∷ rest) ≡ true
    → all_ended next (found, half ∷ rest) ≡ all_ended next (reading_ended line_start (half ∷ rest))
all_ended-once next found half rest ends =
    let read : Reads = reading_ended line_start (half ∷ rest) in
    let many = length (half ∷ rest) + length (half ∷ rest) in
    let enough : endings (half ∷ rest) ≤ many = endings-few (half ∷ rest) in
    ended-enough many (suc (endings (half ∷ rest))) next found (half ∷ rest) enough (omega arith)
    ∙ ended-once (endings (half ∷ rest)) next found (half ∷ rest) ends
    ∙ ended-enough (endings (half ∷ rest)) (length read.1 + length read.1) next read.0 read.1 (omega (arith, endings-ended line_start half rest)) (endings-few read.1)

-- the same of a list that may be empty
pub all_ended-step : (next : Option ℕ) (found : Found) (half : List OpenEscape) → is_ended next half ≡ true
    → all_ended next (found, half) ≡ all_ended next (reading_ended line_start half)
all_ended-step next found [] ends = absurd (cc (ends, ended-nothing next))
all_ended-step next found (half ∷ rest) ends = all_ended-once next found half rest ends

pub endings-step : (next : Option ℕ) (half : List OpenEscape) → is_ended next half ≡ true → endings (reading_ended line_start half).1 < endings half
endings-step next [] ends = absurd (cc (ends, ended-nothing next))
endings-step next (half ∷ rest) ends = endings-ended line_start half rest
