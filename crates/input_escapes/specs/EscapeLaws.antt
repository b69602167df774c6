-- Words for the laws of what is half read (manual, sections 7.2, 8, 10.1, 11 and 16).
use Rattle.std.specs.Prelude.{◌≡◌, ℕ, zero, suc, Bool, true, false, codes, ◌&&◌, ◌||◌, not, List, [], ◌∷◌, ◌++◌, map, flat_map, sum_by, Option, Some, None, if◌then◌else◌, ◌==◌}
use Rattle.std.specs.List.{list_all, list_any}
use Rattle.input_source.specs.Bytes.{tab, newline, quote, dot, backslash}
use Rattle.input_escapes.specs.Conditions.{begins_expression, is_among}
use Rattle.input_escapes.specs.OpenEscape.{OpenEscape, Condition, text_held, unit_bytes}
use Rattle.input_escapes.specs.OpenEscapes.{byte_read, reading_ended}
use Rattle.input_escapes.specs.Measures.{byte_columns}
use Rattle.input_escapes.specs.declared.open_escape.ConditionPart.TheVariants.{Choice, Decided}
use Rattle.input_escapes.specs.declared.open_escape.CopyUnit.{CopyUnit}
use Rattle.input_escapes.specs.declared.open_escape.Decision.{Decision}
use Rattle.input_escapes.specs.declared.open_escape.Found.{Found}
use Rattle.input_escapes.specs.declared.open_escape.Found.TheVariants.{GoesOn, Unit as GivesUnit, Holds, Escape, Asks, Motion, Measures, Tells, Decides}
use Rattle.input_escapes.specs.declared.open_escape.Surroundings.{Surroundings}
use Rattle.input_escapes.specs.declared.open_escape.Surroundings.TheVariants.{Arguments as InArguments}
use Rattle.roff_num.specs.declared.direction.Direction.{Direction}
use Rattle.roff_num.specs.declared.direction.Direction.TheVariants.{Up, Down}

-- what a byte finds, if it finds something, stands before what the others find
abbrev pub found_before : Found → List Found → List Found
found_before GoesOn others = others
found_before (Holds unit) others = others
found_before (GivesUnit unit) others = GivesUnit unit ∷ others
found_before (Escape b) others = Escape b ∷ others
found_before (Asks purpose name) others = Asks purpose name ∷ others
found_before (Motion columns remark) others = Motion columns remark ∷ others
found_before (Measures width) others = Measures width ∷ others
found_before (Tells remark) others = Tells remark ∷ others
found_before (Decides decision freed) others = Decides decision freed ∷ others

-- what is half read behind what a byte gives: a unit of a text between delimiters is held there
abbrev pub escapes_behind : Found → List OpenEscape → List OpenEscape
escapes_behind (Holds unit) half = text_held unit half
escapes_behind (_) half = half

-- bytes read one by one, above a text line, above arguments, or in copy mode: what they find, in order, and what is half read
-- behind them
abbrev pub reads_through : Surroundings → List OpenEscape → List ℕ → List Found × List OpenEscape
reads_through base half [] = ([], half)
reads_through base half (b ∷ bytes) =
    let read = byte_read base half b in
    let others = reads_through base (escapes_behind read.0 read.1) bytes in
    (found_before read.0 others.0, others.1)

-- the sign of a step
abbrev pub sign : Option Direction → List ℕ
sign None = []
sign (Some Up) = 43 ∷ []
sign (Some Down) = 45 ∷ []

-- `\n`, and what stands behind it
abbrev pub register_escape : List ℕ → List ℕ
register_escape bytes = backslash ∷ 110 ∷ bytes

-- the escape of a register with a name of one byte: `\nx`, `\n+x` or `\n-x`
abbrev pub short_escape : Option Direction → ℕ → List ℕ
short_escape step x = register_escape (sign step ++ x ∷ [])

-- the escape of a register with a name of two bytes: `\n(xy`, `\n+(xy` or `\n-(xy`
abbrev pub long_escape : Option Direction → ℕ → ℕ → List ℕ
long_escape step x y = register_escape (sign step ++ 40 ∷ x ∷ y ∷ [])

-- the escape of a string: `\*x` or `\*(xy`, by what stands behind it
abbrev pub string_escape : List ℕ → List ℕ
string_escape bytes = backslash ∷ 42 ∷ bytes

-- the escape of an argument: `\$x`
abbrev pub argument_escape : ℕ → List ℕ
argument_escape x = backslash ∷ 36 ∷ x ∷ []

-- whether a byte behind `\n` is no name: a backslash, a parenthesis or a sign
abbrev pub is_special : ℕ → Bool
is_special b = list_any (λ c. b == c) (backslash ∷ 40 ∷ 43 ∷ 45 ∷ [])

-- `\n(` so many times
abbrev pub openings : ℕ → List ℕ
openings zero = []
openings (suc k) = register_escape (40 ∷ openings k)

-- what bytes find where nothing is half read, up to their end
abbrev pub reads_to_end : Surroundings → List ℕ → List Found
reads_to_end base bytes =
    let read = reads_through base [] bytes in
    read.0 ++ found_before (reading_ended base read.1).0 []

-- units were found, and their bytes are these
pub record FindsBytes (found : List Found) (bytes : List ℕ) : Type 0 where
  pub units : List CopyUnit
  pub only : found ≡ map GivesUnit units
  pub joined : flat_map unit_bytes units ≡ bytes

-- a backslash and the byte behind it, copied: a newline is dropped with its backslash, `\\` is a backslash, `\.` a dot, `\t`
-- a tab, and all others stay
abbrev pub copied_escape : ℕ → List ℕ
copied_escape b =
    if b == newline then []
    else if b == backslash then backslash ∷ []
    else if b == dot then dot ∷ []
    else if b == 116 then tab ∷ []
    else backslash ∷ b ∷ []

-- a text without interpolations, copied
abbrev pub copied : List ℕ → List ℕ
copied [] = []
copied (b ∷ []) = b ∷ []
copied (b ∷ c ∷ text) = if b == backslash then copied_escape c ++ copied text else b ∷ copied (c ∷ text)

-- whether the byte behind a backslash begins an interpolation or a comment there: `\n`, `\*`, `\$`, `\w` or `\"`
abbrev pub begins_reading : ℕ → Bool
begins_reading b = list_any (λ c. b == c) (110 ∷ 42 ∷ 36 ∷ 119 ∷ quote ∷ [])

-- whether a text has neither interpolations nor comments
abbrev pub is_only_copied : List ℕ → Bool
is_only_copied [] = true
is_only_copied (b ∷ []) = true
is_only_copied (b ∷ c ∷ text) = if b == backslash then not (begins_reading c) && is_only_copied text else is_only_copied (c ∷ text)

-- a text with each backslash twice
abbrev pub doubled : List ℕ → List ℕ
doubled text = flat_map (λ b. if b == backslash then backslash ∷ backslash ∷ [] else b ∷ []) text

-- an escape with a text between two delimiters: `\h'text'`, by the byte behind its backslash
abbrev pub text_escape : ℕ → ℕ → List ℕ → List ℕ
text_escape b delimiter text = backslash ∷ b ∷ delimiter ∷ text ++ delimiter ∷ []

-- whether a text may stand between such delimiters as it is: no byte of it is the delimiter, a backslash or a newline
abbrev pub is_between : ℕ → List ℕ → Bool
is_between delimiter text = list_all (λ b. not (b == delimiter || b == backslash || b == newline)) text

-- the columns of a text
abbrev pub columns_in : List ℕ → ℕ
columns_in text = sum_by byte_columns text

-- two texts between delimiters, as a condition has them: `'text'text'`
abbrev pub two_texts : ℕ → List ℕ → List ℕ → List ℕ
two_texts delimiter first second = delimiter ∷ first ++ delimiter ∷ second ++ delimiter ∷ []

-- whether a byte delimits the texts of a condition where one begins: it asks for nothing else
abbrev pub delimits_texts : ℕ → Bool
delimits_texts b = not (is_among (codes " !oetn\\\n") b || begins_expression b)

-- what the bytes of a condition give, and what is half read behind them
abbrev pub asked : List ℕ → List Found × List OpenEscape
asked bytes = reads_through InArguments (Condition (Choice false) [] ∷ []) bytes

-- a condition is read, of which this is held, and decides so next
abbrev pub decided : Decision → List ℕ → List Found × List OpenEscape
decided decision text = ([], Condition (Decided decision None) text ∷ [])
