-- What waits for a byte, and what ends before one (manual, sections 7.2, 7.3, 8, 10.1, 11 and 16).
--
-- What an escape puts in front is read as if it stood there, and its end is no byte of it. So what waits for a byte sees the first
-- one behind any ends of texts before it takes one of these: if that byte stays, what waits ends before it, and else the item in
-- front is taken.
use Rattle.std.specs.Prelude.{ℕ, pos, Bool, true, false, ◌&&◌, ◌||◌, not, List, [], ◌∷◌, Option, Some, None, is_ok, if◌then◌else◌}
use Rattle.roff_num.specs.Expressions.{value_at}
use Rattle.roff_num.specs.declared.num.Scale.TheVariants.{Units}
use Rattle.input_source.specs.Bytes.{is_digit, is_dropped}
use Rattle.input_escapes.specs.Conditions.{ends_at_backslash, is_decided, ends_at_newline, ends_condition, is_read_in_arguments}
use Rattle.input_escapes.specs.OpenEscape.{OpenEscape, Backslash, Comment, Name, Size, Delimited, Width, Condition}
use Rattle.input_escapes.specs.OpenEscapes.{is_sign, reads_text, surroundings}
use Rattle.input_escapes.specs.declared.open_escape.ConditionPart.TheVariants.{Expression, Decided}
use Rattle.input_escapes.specs.declared.open_escape.Decision.TheVariants.{Is}
use Rattle.input_escapes.specs.declared.open_escape.SizePart.{SizePart}
use Rattle.input_escapes.specs.declared.open_escape.SizePart.TheVariants.{Nothing as NoSize, Sign, Digit}
use Rattle.input_escapes.specs.declared.open_escape.Surroundings.{Surroundings}
use Rattle.input_escapes.specs.declared.open_escape.Waiting.{Waiting}
use Rattle.input_escapes.specs.declared.open_escape.Waiting.TheVariants.{Takes, Decides, Waits}

-- What the reading on top does at the next item, above a text line, above arguments, or in copy mode: a condition that is read
-- decides, a backslash of the text takes the item in front, and all else waits.
abbrev pub waiting_of : Surroundings → List OpenEscape → Waiting
waiting_of base [] = Takes
waiting_of base (Backslash ∷ rest) = if reads_text (surroundings base rest) then Takes else Waits
waiting_of base (Condition part text ∷ rest) = if is_decided part then Decides else Waits
waiting_of base (half ∷ rest) = Waits

-- whether it decides
abbrev pub decides : Waiting → Bool
decides Takes = false
decides Decides = true
decides Waits = false

-- whether a backslash above these is taken alone where its escape would be kept: the byte behind it stays then
abbrev pub takes_backslash_alone : List OpenEscape → Bool
takes_backslash_alone (Condition part text ∷ rest) = ends_at_backslash part
takes_backslash_alone (_) = false

-- whether a byte belongs to a size of which so much is read
abbrev pub is_of_size : SizePart → ℕ → Bool
is_of_size NoSize b = is_sign b || is_digit b
is_of_size Sign b = is_digit b
is_of_size Digit b = is_digit b

-- whether what is seen in front stays, and ends a size: all but a byte that belongs to it
abbrev pub ends_size : SizePart → Option ℕ → Bool
ends_size part None = true
ends_size part (Some b) = not (is_of_size part b)

-- whether it stays, and ends a backslash that is taken alone before a byte that isn't read behind one in arguments
abbrev pub ends_backslash : Option ℕ → Bool
ends_backslash None = false
ends_backslash (Some b) = not (is_read_in_arguments b || is_dropped b)

-- whether what is seen in front stays, and ends the reading on top: a byte, or nothing that can be read
abbrev pub is_ended_by : List OpenEscape → Option ℕ → Bool
is_ended_by [] seen = false
is_ended_by (Backslash ∷ rest) seen = takes_backslash_alone rest && ends_backslash seen
is_ended_by (Comment ∷ rest) seen = ends_at_newline seen
is_ended_by (Name purpose part ∷ rest) seen = ends_at_newline seen
is_ended_by (Size part ∷ rest) seen = ends_size part seen
is_ended_by (Delimited purpose d text ∷ rest) seen = ends_at_newline seen
is_ended_by (Width d width is_deep ∷ rest) seen = ends_at_newline seen
is_ended_by (Condition part text ∷ rest) seen = ends_condition part seen

-- whether the condition on top is an expression that is a number
abbrev pub is_number_on_top : List OpenEscape → Bool
is_number_on_top (Condition (Expression negated) text ∷ rest) = is_ok (value_at text 0 Units (Some (pos 0)))
is_number_on_top (_) = false

-- whether the condition on top is so, if it is read and asks nothing more, and no byte ended it that may be the first of what follows
abbrev pub decided_on_top : List OpenEscape → Option Bool
decided_on_top (Condition (Decided (Is so) None) text ∷ rest) = Some so
decided_on_top (_) = None
