-- One step of a format's reading: what a byte does, by where the reading stands (Lesk, "Tbl": Format).
use Rattle.std.specs.Prelude.{ℕ, suc, zero, nat_le, ◌+◌, ◌-◌, ◌*◌, ◌/◌, min, ℤ, pos, negsuc, true, false, ◌||◌, ◌&&◌, List, length, drop, Option, None, Some, Result, Ok, Err, codes, if◌then◌else◌, ◌==◌}
use Rattle.roff_num.specs.Expressions.{value_at}
use Rattle.roff_num.specs.Ranges.{greatest_number}
use Rattle.roff_num.specs.Rounding.{rounded}
use Rattle.roff_num.specs.declared.num.Num.{Num}
use Rattle.roff_num.specs.declared.num.NumFault.{NumFault}
use Rattle.roff_num.specs.declared.num.Scale.TheVariants.{Columns}
use Rattle.input_source.specs.Bytes.{newline, dot, is_digit}
use Rattle.tbl_format.specs.Keys.{is_between, is_one_of, key_of, separates_rows}
use Rattle.tbl_options.specs.Options.{closing, opening}
use Rattle.tbl_format.specs.declared.format.FormatPlace.TheVariants.{AtEnd, AtFault, InRows}
use Rattle.tbl_format.specs.declared.format.Key.{Key}
use Rattle.tbl_format.specs.declared.format.RowPart.{RowPart}
use Rattle.tbl_format.specs.declared.format.RowPart.TheVariants.{AtFont, AtKeys, AtMacro, AtSize, AtWidth, BehindFont, BehindKey, BehindMacro, Brackets, InFont, InMacro, Number, Signed, Sized, WidthDigits}
use Rattle.tbl_format.specs.declared.format.Standing.TheVariants.{Bottom, Top}
use Rattle.tbl_format.specs.declared.format_step.Does.{Does}
use Rattle.tbl_format.specs.declared.format_step.Does.TheVariants.{AddBar, AddKey, DropWidth, EndFormat, EndRow, Equalize, LeaveOut, Nothing, Separate, Stand, Widen}
use Rattle.tbl_format.specs.declared.format_step.FormatStep.{FormatStep}

-- the byte goes on with what is read
abbrev pub to : RowPart → FormatStep
to part = record { place = InRows part; does = Nothing; is_again = false }

-- the byte ends a key, or what belongs to it
abbrev pub behind : Does → FormatStep
behind does = record { place = InRows BehindKey; does = does; is_again = false }

-- the byte stands behind what it ends, and is looked at again
abbrev pub again : Does → FormatStep
again does = record { place = InRows BehindKey; does = does; is_again = true }

-- the byte stands between the keys of rows
abbrev pub between : Does → FormatStep
between does = record { place = InRows AtKeys; does = does; is_again = false }

-- the byte is a fault
abbrev pub fault : FormatStep
fault = record { place = AtFault; does = Nothing; is_again = false }

-- keys, bars, and the ends of rows and of the format
abbrev pub among_others : ℕ → FormatStep
among_others b =
    if is_between b then between Nothing
    else if separates_rows b then between EndRow
    else if b == 124 then between AddBar
    else if b == dot then record { place = AtEnd; does = EndFormat; is_again = false }
    else fault

abbrev pub among_keys_by : Option Key → ℕ → FormatStep
among_keys_by (Some key) b = behind (AddKey key)
among_keys_by None b = among_others b

abbrev pub among_keys : ℕ → FormatStep
among_keys b = among_keys_by (key_of b) b

-- numbers and letters, which stand behind a key alone
abbrev pub behind_key : ℕ → FormatStep
behind_key b =
    if is_digit b then to (Number (b - 48))
    else if is_between b then behind Nothing
    else if is_one_of b (codes "w") then to AtWidth
    else if is_one_of b (codes "e") then behind Equalize
    else if is_one_of b (codes "z") then behind DropWidth
    else if is_one_of b (codes "t") then behind (Stand Top)
    else if is_one_of b (codes "d") then behind (Stand Bottom)
    else if is_one_of b (codes "f") then to AtFont
    else if is_one_of b (codes "pv") then to AtSize
    else if is_one_of b (codes "biu") then behind Nothing
    else if is_one_of b (codes "m") then to (AtMacro b)
    else if is_one_of b (codes "x") then behind (LeaveOut b)
    else among_keys b

-- a number is digits alone; greater ones read as the greatest
abbrev pub in_number : ℕ → ℕ → FormatStep
in_number n b = if is_digit b then to (Number (min (n * 10 + (b - 48)) greatest_number)) else again (Separate n)

-- a length as columns of the page: to the nearest, below 0 none
abbrev pub columns_of : ℤ → ℕ
columns_of (pos units) = units / 24
columns_of (negsuc units) = 0

-- the value of a text that is an expression from its first byte to its last, in columns where no scale stands
abbrev pub whole_value : ℕ → Result (Num × ℕ) NumFault → Option ℕ
whole_value len (Ok r) = if r.1 == len then Some (columns_of (rounded 24 r.0.0)) else None
whole_value len (Err e) = None

abbrev pub width_of : List ℕ → Option ℕ
width_of text = whole_value (length text) (value_at text 0 Columns None)

-- a width is asked for, or is none
abbrev pub widening : (Does → FormatStep) → Option ℕ → FormatStep
widening ending (Some columns) = ending (Widen columns)
widening ending None = fault

-- `w`: an expression in brackets, or digits alone
abbrev pub at_width : List ℕ → ℕ → FormatStep
at_width front b =
    if b == opening then to (Brackets (length front + 1) 0)
    else if is_digit b then to (WidthDigits (length front))
    else fault

abbrev pub in_width_digits : ℕ → List ℕ → ℕ → FormatStep
in_width_digits from front b = if is_digit b then to (WidthDigits from) else widening again (width_of (drop from front))

abbrev pub at_closing : ℕ → ℕ → List ℕ → FormatStep
at_closing from zero front = widening behind (width_of (drop from front))
at_closing from (suc depth) front = to (Brackets from depth)

abbrev pub in_brackets : ℕ → ℕ → List ℕ → ℕ → FormatStep
in_brackets from depth front b =
    if b == newline then fault
    else if b == opening then to (Brackets from (depth + 1))
    else if b == closing then at_closing from depth front
    else to (Brackets from depth)

-- `f`: brackets, or a byte and a capital directly behind it, if there is one
abbrev pub at_font : ℕ → FormatStep
at_font b = if b == newline then fault else if b == opening then to InFont else to BehindFont

abbrev pub behind_font : ℕ → FormatStep
behind_font b = if nat_le 65 b && nat_le b 90 then behind Nothing else again Nothing

abbrev pub in_font : ℕ → FormatStep
in_font b = if b == newline then fault else if b == closing then behind Nothing else to InFont

-- `m`: brackets, or two bytes
abbrev pub at_macro : ℕ → ℕ → FormatStep
at_macro letter b = if b == newline then fault else if b == opening then to (InMacro letter) else to (BehindMacro letter)

abbrev pub behind_macro : ℕ → ℕ → FormatStep
behind_macro letter b = if b == newline then fault else behind (LeaveOut letter)

abbrev pub in_macro : ℕ → ℕ → FormatStep
in_macro letter b = if b == newline then fault else if b == closing then behind (LeaveOut letter) else to (InMacro letter)

-- `p` and `v`: digits, with a sign before them or without
abbrev pub signed : ℕ → FormatStep
signed b = if is_digit b then to Sized else fault

abbrev pub at_size : ℕ → FormatStep
at_size b = if b == 43 || b == 45 then to Signed else signed b

abbrev pub sized : ℕ → FormatStep
sized b = if is_digit b then to Sized else again Nothing

-- what a byte does that stands behind this front of its line, by what of a row is read
abbrev pub step_of : RowPart → List ℕ → ℕ → FormatStep
step_of AtKeys front b = among_keys b
step_of BehindKey front b = behind_key b
step_of (Number n) front b = in_number n b
step_of AtWidth front b = at_width front b
step_of (WidthDigits from) front b = in_width_digits from front b
step_of (Brackets from depth) front b = in_brackets from depth front b
step_of AtFont front b = at_font b
step_of BehindFont front b = behind_font b
step_of InFont front b = in_font b
step_of (AtMacro letter) front b = at_macro letter b
step_of (BehindMacro letter) front b = behind_macro letter b
step_of (InMacro letter) front b = in_macro letter b
step_of AtSize front b = at_size b
step_of Signed front b = signed b
step_of Sized front b = sized b

unfoldable pub step : RowPart → List ℕ → ℕ → FormatStep
step part front b = step_of part front b
