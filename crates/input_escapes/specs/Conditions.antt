-- Conditions: what `.if` and `.ie` ask (manual, section 16).
--
-- Behind blanks and one `!`, which negates, the letters `o`, `e`, `t` and `n` ask for something known, a byte that begins a
-- number begins an expression, and any other byte delimits two texts. Units are those of arguments.
use Rattle.std.specs.Prelude.{ℕ, pos, int_lt, Bool, true, false, ◌&&◌, ◌||◌, not, List, [], ◌∷◌, length, take, drop, bytes_eq, codes, Option, Some, None, Result, Ok, Err, if◌then◌else◌, ◌==◌}
use Rattle.std.specs.List.{list_any}
use Rattle.roff_num.specs.Expressions.{value_at}
use Rattle.roff_num.specs.declared.num.Num.{Num}
use Rattle.roff_num.specs.declared.num.NumFault.{NumFault}
use Rattle.roff_num.specs.declared.num.Scale.TheVariants.{Units}
use Rattle.input_source.specs.Bytes.{tab, newline, blank, backslash, is_digit}
use Rattle.input_escapes.specs.OpenEscape.{OpenEscape, Reads, Backslash, Condition}
use Rattle.input_escapes.specs.declared.open_escape.ConditionPart.{ConditionPart}
use Rattle.input_escapes.specs.declared.open_escape.ConditionPart.TheVariants.{Choice, Expression, Decided, Compared}
use Rattle.input_escapes.specs.declared.open_escape.CopyUnit.{CopyUnit}
use Rattle.input_escapes.specs.declared.open_escape.CopyUnit.TheVariants.{Byte, Kept}
use Rattle.input_escapes.specs.declared.open_escape.Decision.{Decision}
use Rattle.input_escapes.specs.declared.open_escape.Decision.TheVariants.{Is, OnPages}
use Rattle.input_escapes.specs.declared.open_escape.Found.TheVariants.{GoesOn, Holds, Tells, Decides}
use Rattle.input_escapes.specs.declared.open_escape.Remark.TheVariants.{BadNumber}

-- whether a byte is one of these
abbrev pub is_among : List ℕ → ℕ → Bool
is_among bytes b = list_any (λ c. b == c) bytes

-- whether a byte begins an expression
abbrev pub begins_expression : ℕ → Bool
begins_expression b = is_digit b || is_among (codes "(+-.|") b

-- whether the byte behind a backslash is read there: the escape isn't kept
abbrev pub is_read_in_arguments : ℕ → Bool
is_read_in_arguments b = b == newline || is_among (codes "n*$\\.t\"w") b

-- what is so, or behind a `!` what isn't
abbrev pub so_unless : Bool → Bool → Bool
so_unless negated so = if negated then not so else so

-- A condition that is read decides in a step of its own. The byte that ended it may be the first of what follows.
abbrev pub to_decide : List OpenEscape → List ℕ → Decision → Option ℕ → List OpenEscape
to_decide rest text decision freed = Condition (Decided decision freed) text ∷ rest

-- an expression by its value, if it is a number: so above 0; one that is none is told, and is false, behind a `!` too
abbrev pub expression_valued : List OpenEscape → Bool → Option ℕ → List ℕ → Result (Num × ℕ) NumFault → Reads
expression_valued rest negated freed text (Ok r) = (GoesOn, to_decide rest text (Is (so_unless negated (int_lt (pos 0) r.0.0))) freed)
expression_valued rest negated freed text (Err fault) = (Tells BadNumber, to_decide rest text (Is false) freed)

-- an expression that is whole: it counts basic units where it has no scale letter, and measures from place 0
abbrev pub expression_over : List OpenEscape → Bool → Option ℕ → List ℕ → Reads
expression_over rest negated freed text = expression_valued rest negated freed text (value_at text 0 Units (Some (pos 0)))

-- whether two texts are the same that stand behind each other: the first has so many bytes, or all of them
abbrev pub text_is_same : Option ℕ → List ℕ → Bool
text_is_same None text = bytes_eq text []
text_is_same (Some first) text = bytes_eq (take first text) (drop first text)

-- two texts that were read
abbrev pub texts_compared : List OpenEscape → Bool → Option ℕ → List ℕ → Reads
texts_compared rest negated first text = (GoesOn, to_decide rest text (Is (so_unless negated (text_is_same first text))) None)

-- the delimiter behind the first text, and behind the second
abbrev pub delimiter_met : List OpenEscape → Bool → ℕ → Option ℕ → List ℕ → Reads
delimiter_met rest negated d None text = (GoesOn, Condition (Compared negated d (Some (length text))) text ∷ rest)
delimiter_met rest negated d (Some first) text = texts_compared rest negated (Some first) text

-- the byte that says what is asked; behind a `!` a blank and another `!` delimit texts
abbrev pub choice_made : List OpenEscape → Bool → List ℕ → ℕ → Reads
choice_made rest negated text b =
    if b == blank && not negated then (GoesOn, Condition (Choice negated) text ∷ rest)
    else if b == 33 && not negated then (GoesOn, Condition (Choice true) text ∷ rest)  -- !
    else if b == 111 then (GoesOn, to_decide rest text (OnPages (not negated)) None)  -- o
    else if b == 101 then (GoesOn, to_decide rest text (OnPages negated) None)  -- e
    else if b == 116 then (GoesOn, to_decide rest text (Is negated) None)  -- t
    else if b == 110 then (GoesOn, to_decide rest text (Is (not negated)) None)  -- n
    else if begins_expression b then (Holds (Byte b), Condition (Expression negated) text ∷ rest)
    else (GoesOn, Condition (Compared negated b None) text ∷ rest)

-- A unit of a condition: an escape that is kept begins with its backslash; a backslash or a tab that an escape made ends
-- an expression, and is the first byte of what follows. In a run a choice and an expression get no kept escape, as a
-- backslash in them is taken alone then.
abbrev pub unit_of_condition : List OpenEscape → ConditionPart → List ℕ → CopyUnit → Reads
unit_of_condition rest (Choice negated) text (Byte b) = choice_made rest negated text b
unit_of_condition rest (Choice negated) text (Kept b) = (Holds (Byte b), Condition (Compared negated backslash None) text ∷ rest)
unit_of_condition rest (Expression negated) text (Byte b) =
    if b == backslash || b == tab then expression_over rest negated (Some b) text
    else (Holds (Byte b), Condition (Expression negated) text ∷ rest)
unit_of_condition rest (Expression negated) text (Kept b) = (Holds (Kept b), Condition (Expression negated) text ∷ rest)
unit_of_condition rest (Compared negated d first) text unit = (Holds unit, Condition (Compared negated d first) text ∷ rest)
unit_of_condition rest (Decided decision freed) text unit = (GoesOn, Condition (Decided decision freed) text ∷ rest)

-- a byte that is no delimiter: a backslash begins an escape
abbrev pub byte_or_backslash : List OpenEscape → ConditionPart → List ℕ → ℕ → Reads
byte_or_backslash rest part text b =
    if b == backslash then (GoesOn, Backslash ∷ Condition part text ∷ rest) else unit_of_condition rest part text (Byte b)

-- a byte of a condition; the delimiter of its texts ends them, even a backslash
abbrev pub byte_of_condition : List OpenEscape → ConditionPart → List ℕ → ℕ → Reads
byte_of_condition rest (Compared negated d first) text b =
    if b == d then delimiter_met rest negated d first text else byte_or_backslash rest (Compared negated d first) text b
byte_of_condition rest part text b = byte_or_backslash rest part text b

-- A condition ends before what stays: with nothing to ask it is false, behind a `!` too. One that is read decides.
abbrev pub condition_ended : List OpenEscape → ConditionPart → List ℕ → Reads
condition_ended rest (Choice negated) text = (GoesOn, to_decide rest text (Is false) None)
condition_ended rest (Expression negated) text = expression_over rest negated None text
condition_ended rest (Compared negated d first) text = texts_compared rest negated first text
condition_ended rest (Decided decision freed) text = (Decides decision freed, rest)

-- whether a backslash in it is taken alone where its escape would be kept
abbrev pub ends_at_backslash : ConditionPart → Bool
ends_at_backslash (Choice negated) = true
ends_at_backslash (Expression negated) = true
ends_at_backslash (Compared negated d first) = false
ends_at_backslash (Decided decision freed) = false

-- whether what is seen in front stays, and ends a name, a comment or a text: a newline
abbrev pub ends_at_newline : Option ℕ → Bool
ends_at_newline None = false
ends_at_newline (Some b) = b == newline

-- whether it stays, and ends an expression: a blank, a tab or a newline
abbrev pub ends_expression : Option ℕ → Bool
ends_expression None = false
ends_expression (Some b) = b == blank || b == tab || b == newline

-- and a condition that isn't read yet
abbrev pub ends_condition : ConditionPart → Option ℕ → Bool
ends_condition (Choice negated) seen = ends_at_newline seen
ends_condition (Expression negated) seen = ends_expression seen
ends_condition (Compared negated d first) seen = ends_at_newline seen
ends_condition (Decided decision freed) seen = true

-- whether a condition is read, and decides before anything is taken or seen
abbrev pub is_decided : ConditionPart → Bool
is_decided (Decided decision freed) = true
is_decided (_) = false
