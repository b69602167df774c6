-- The format of a table: rows of keys, up to a dot (Lesk, "Tbl": Format).
use Rattle.std.specs.Prelude.{ℕ, zero, suc, nat_lt, ◌+◌, max, Bool, true, false, not, ◌&&◌, ◌||◌, List, [], ◌∷◌, ◌++◌, Option, None, Some, if◌then◌else◌}
use Rattle.tbl_format.specs.FormatSteps.{step}
use Rattle.tbl_format.specs.declared.format.Asked.{Asked}
use Rattle.tbl_format.specs.declared.format.FormatKey.{FormatKey}
use Rattle.tbl_format.specs.declared.format.FormatPlace.{FormatPlace}
use Rattle.tbl_format.specs.declared.format.FormatPlace.TheVariants.{AtEnd, AtFault, InRows}
use Rattle.tbl_format.specs.declared.format.Key.{Key}
use Rattle.tbl_format.specs.declared.format.Key.TheVariants.{Above, Alphabetic, Left, Numeric, Spanned, WideNumeric}
use Rattle.tbl_format.specs.declared.format.RowPart.TheVariants.{AtKeys, BehindKey}
use Rattle.tbl_format.specs.declared.format.Standing.TheVariants.{Middle}
use Rattle.tbl_format.specs.declared.format_step.Does.{Does}
use Rattle.tbl_format.specs.declared.format_step.Does.TheVariants.{AddBar, AddKey, DropWidth, EndFormat, EndRow, Equalize, LeaveOut, Nothing, Separate, Stand, Widen}
use Rattle.tbl_format.specs.declared.format_step.FormatStep.{FormatStep}

-- a row: the keys of its cells, each with the bars in front of it, its last column and its letters, and the bars behind the last
pub record FormatRow : Type 0 where
  pub keys : List FormatKey
  pub bars : ℕ

-- the formats as far as they were read: the rows of those before the last, and those of the last that are whole; the keys of
-- the row begun, and the bars behind them; what the keys of each column ask for it; the most bars in front of a row's first key; and
-- where the reading stands
pub record Format : Type 0 where
  pub earlier : List FormatRow
  pub rows : List FormatRow
  pub row : List FormatKey
  pub bars : ℕ
  pub asked : List Asked
  pub front : ℕ
  pub place : FormatPlace

abbrev pub no_format : Format
no_format = record { earlier = []; rows = []; row = []; bars = 0; asked = []; front = 0; place = InRows AtKeys }

-- a further format begins, behind `.T&`
abbrev pub further : Format → Format
further f = record f { earlier = f.earlier ++ f.rows; rows = []; row = []; bars = 0; place = InRows AtKeys }

-- whether a list has an element
abbrev pub has_some : {A : Type 0} → List A → Bool
has_some [] = false
has_some (x ∷ xs) = true

-- a fault
abbrev pub at_fault : Format → Format
at_fault f = record f { place = AtFault }

abbrev pub fault_if : Bool → Format → Format
fault_if true f = at_fault f
fault_if false f = f

-- a key behind so many bars, without letters, whose cell has one column, behind so many
abbrev pub plain_key : ℕ → Key → ℕ → FormatKey
plain_key bars key column = record { bars = bars; key = key; end = column + 1; standing = Middle; has_no_width = false }

-- how many columns the cells of these keys have
abbrev pub columns_of_keys : List FormatKey → ℕ
columns_of_keys [] = 0
columns_of_keys (k ∷ []) = k.end
columns_of_keys (k ∷ next ∷ keys) = columns_of_keys (next ∷ keys)

-- the key of a cell of several columns: a number there is a text in the middle, an alphabetic text one at the left
abbrev pub spanning : Key → Key
spanning Numeric = WideNumeric
spanning Alphabetic = Left
spanning key = key

-- one column more of a cell
abbrev pub widened : FormatKey → FormatKey
widened k = record k { key = spanning k.key; end = k.end + 1 }

-- nothing is asked
abbrev pub nothing_asked : Asked
nothing_asked = record { separation = None; least = None; is_equal = false; bars = 0 }

-- one column more, behind a row that has so many, if it is the longest
abbrev pub with_columns : List Asked → ℕ → List Asked
with_columns [] count = nothing_asked ∷ []
with_columns (a ∷ asked) zero = a ∷ asked
with_columns (a ∷ asked) (suc count) = a ∷ with_columns asked count

-- a cell can't go on from the left in a first column, nor from above in the first row of the first format
abbrev pub is_misplaced : Key → Format → Bool
is_misplaced Spanned f = not (has_some f.row)
is_misplaced Above f = not (has_some f.earlier || has_some f.rows)
is_misplaced key f = false

-- the last of these keys changed
abbrev pub last_changed : (FormatKey → FormatKey) → List FormatKey → List FormatKey
last_changed change [] = []
last_changed change (key ∷ []) = change key ∷ []
last_changed change (key ∷ next ∷ keys) = key ∷ last_changed change (next ∷ keys)

-- the keys of a row with one column more: `s` widens the cell at its left, in which no bar stands; any other key has a cell of its own
abbrev pub is_spanned : Key → Bool
is_spanned Spanned = true
is_spanned key = false

abbrev pub keys_with : Key → ℕ → List FormatKey → List FormatKey
keys_with key bars keys =
    if is_spanned key && has_some keys then last_changed widened keys else keys ++ plain_key bars key (columns_of_keys keys) ∷ []

abbrev pub with_any_key : Key → Format → Format
with_any_key key f = record f { row = keys_with key f.bars f.row; bars = 0; asked = with_columns f.asked (columns_of_keys f.row) }

abbrev pub with_key : Key → Format → Format
with_key key f = fault_if (is_misplaced key f) (with_any_key key f)

-- what is asked for the last of so many columns
abbrev pub asking : (Asked → Asked) → ℕ → List Asked → List Asked
asking change zero asked = asked
asking change (suc columns) [] = []
asking change (suc zero) (a ∷ asked) = change a ∷ asked
asking change (suc (suc columns)) (a ∷ asked) = a ∷ asking change (suc columns) asked

abbrev pub with_asked : (Asked → Asked) → Format → Format
with_asked change f = record f { asked = asking change (columns_of_keys f.row) f.asked }

-- bars at the end of the row begun ask for room: behind its last column, or in front of the first column
abbrev pub most_bars : ℕ → Asked → Asked
most_bars n a = record a { bars = max a.bars n }

abbrev pub asking_for_bars : Format → Format
asking_for_bars f = if has_some f.row then with_asked (most_bars f.bars) f else record f { front = max f.front f.bars }

-- one bar more: at a boundary there are two at the most
abbrev pub with_bar : Format → Format
with_bar f = if nat_lt f.bars 2 then asking_for_bars (record f { bars = f.bars + 1 }) else at_fault f

-- the greater of what was asked and a number
abbrev pub greater : Option ℕ → ℕ → ℕ
greater None n = n
greater (Some m) n = max m n

abbrev pub asked_by : Does → Asked → Asked
asked_by (Separate n) a = record a { separation = Some (greater a.separation n) }
asked_by (Widen n) a = record a { least = Some (greater a.least n) }
asked_by Equalize a = record a { is_equal = true }
asked_by does a = a

-- what a letter says of the last key
abbrev pub with_last : (FormatKey → FormatKey) → Format → Format
with_last change f = record f { row = last_changed change f.row }

abbrev pub said_by : Does → FormatKey → FormatKey
said_by DropWidth key = record key { has_no_width = true }
said_by (Stand standing) key = record key { standing = standing }
said_by does key = key

-- the row begun is whole, if it has a key; bars alone are a fault
abbrev pub with_whole : Format → Format
with_whole f =
    if has_some f.row then record f { rows = f.rows ++ record { keys = f.row; bars = f.bars } ∷ []; row = []; bars = 0 }
    else fault_if (nat_lt 0 f.bars) f

-- a format without a row is a fault
abbrev pub with_end : Format → Format
with_end f = fault_if (not (has_some f.rows)) f

-- what a byte does is done
abbrev pub done : Does → Format → Format
done Nothing f = f
done (AddKey key) f = with_key key f
done AddBar f = with_bar f
done (Separate n) f = with_asked (asked_by (Separate n)) f
done (Widen n) f = with_asked (asked_by (Widen n)) f
done Equalize f = with_asked (asked_by Equalize) f
done DropWidth f = with_last (said_by DropWidth) f
done (Stand standing) f = with_last (said_by (Stand standing)) f
done (LeaveOut letter) f = f
done EndRow f = with_whole f
done EndFormat f = with_end (with_whole f)

-- behind a step
abbrev pub stepped : FormatStep → Format → Format
stepped s f = done s.does (record f { place = s.place })

-- a byte that is looked at again stands behind a key
abbrev pub looked_again : Bool → List ℕ → ℕ → Format → Format
looked_again false front b f = f
looked_again true front b f = stepped (step BehindKey front b) f

abbrev pub behind_step : FormatStep → List ℕ → ℕ → Format → Format
behind_step s front b f = looked_again s.is_again front b (stepped s f)

-- one byte more, which stands behind this front of its line: behind the end and a fault nothing is read
abbrev pub format_byte_at : FormatPlace → List ℕ → Format → ℕ → Format
format_byte_at (InRows part) front f b = behind_step (step part front b) front b f
format_byte_at AtEnd front f b = f
format_byte_at AtFault front f b = f

abbrev pub format_byte : List ℕ → Format → ℕ → Format
format_byte front f b = format_byte_at f.place front f b

-- more bytes, behind a front of their line
abbrev pub read_behind : List ℕ → Format → List ℕ → Format
read_behind front f [] = f
read_behind front f (b ∷ bytes) = read_behind (front ++ b ∷ []) (format_byte front f b) bytes

-- the format behind a line
abbrev pub format_read : Format → List ℕ → Format
format_read f line = read_behind [] f line

-- the letter of what is left out, if anything is
abbrev pub left_out : Does → Option ℕ
left_out (LeaveOut letter) = Some letter
left_out does = None

-- at a byte
abbrev pub last_does : FormatStep → List ℕ → ℕ → Does
last_does s front b = if s.is_again then (step BehindKey front b).does else s.does

abbrev pub left_out_at : FormatPlace → List ℕ → ℕ → Option ℕ
left_out_at (InRows part) front b = left_out (last_does (step part front b) front b)
left_out_at AtEnd front b = None
left_out_at AtFault front b = None

abbrev pub if_letter : Option ℕ → List ℕ
if_letter None = []
if_letter (Some letter) = letter ∷ []

-- and in a line
abbrev pub left_out_behind : List ℕ → Format → List ℕ → List ℕ
left_out_behind front f [] = []
left_out_behind front f (b ∷ bytes) =
    if_letter (left_out_at f.place front b) ++ left_out_behind (front ++ b ∷ []) (format_byte front f b) bytes

abbrev pub letters_left_out : Format → List ℕ → List ℕ
letters_left_out f line = left_out_behind [] f line
