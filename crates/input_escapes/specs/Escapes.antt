-- The escapes of a text line: what the byte behind a backslash means (manual, the list of escape sequences before section 1).
use Rattle.std.specs.Prelude.{ℕ, Bool, true, false, List, [], ◌∷◌, find, Option, Some, None, ◌==◌}
use Rattle.input_source.specs.Bytes.{backslash}
use Rattle.input_escapes.specs.declared.escapes.Escape.{Escape}
use Rattle.input_escapes.specs.declared.escapes.Escape.TheVariants.{Prints, Blank, NoWidth, Nothing, Tab, Interrupts, Brace, LeftOut, Comment, Size, Name as NameOf, Text as TextOf, Width}
use Rattle.input_escapes.specs.declared.escapes.NameUse.{NameUse}
use Rattle.input_escapes.specs.declared.escapes.NameUse.TheVariants.{Register, Text, Argument, Character, Font, LeftOut as LeftOutName}
use Rattle.input_escapes.specs.declared.escapes.Row.{Row}
use Rattle.input_escapes.specs.declared.escapes.TextUse.TheVariants.{Motion, LeftOut as LeftOutText}

-- a row of the table
abbrev pub row : ℕ → Escape → Row
row byte escape = record { byte = byte; escape = escape }

-- the table: the byte behind the backslash, and what the escape is
abbrev pub escapes : List Row
escapes =
    row 92 (Prints backslash)  -- \\
    ∷ row 101 (Prints backslash)  -- \e
    ∷ row 32 Blank  -- \ and a blank
    ∷ row 48 Blank  -- \0
    ∷ row 38 NoWidth  -- \&
    ∷ row 37 Nothing  -- \%
    ∷ row 124 Nothing  -- \|
    ∷ row 94 Nothing  -- \^
    ∷ row 99 Interrupts  -- \c
    ∷ row 116 Tab  -- \t
    ∷ row 123 Brace  -- \{
    ∷ row 125 Brace  -- \}
    ∷ row 10 Nothing  -- \ and a newline
    ∷ row 9 Tab  -- \ and a tab
    ∷ row 2 Nothing  -- \ and STX
    ∷ row 3 Nothing  -- \ and ETX
    ∷ row 5 Nothing  -- \ and ENQ
    ∷ row 6 Nothing  -- \ and ACK
    ∷ row 7 Nothing  -- \ and BEL
    ∷ row 34 Comment  -- \"
    ∷ row 115 Size  -- \s
    ∷ row 110 (NameOf (Register None))  -- \n
    ∷ row 42 (NameOf Text)  -- \*
    ∷ row 36 (NameOf Argument)  -- \$
    ∷ row 40 (NameOf Character)  -- \(
    ∷ row 102 (NameOf Font)  -- \f
    ∷ row 103 (NameOf (LeftOutName 103))  -- \g
    ∷ row 106 (NameOf (LeftOutName 106))  -- \j
    ∷ row 107 (NameOf (LeftOutName 107))  -- \k
    ∷ row 104 (TextOf Motion)  -- \h
    ∷ row 119 Width  -- \w
    ∷ row 98 (TextOf (LeftOutText 98))  -- \b
    ∷ row 68 (TextOf (LeftOutText 68))  -- \D
    ∷ row 72 (TextOf (LeftOutText 72))  -- \H
    ∷ row 108 (TextOf (LeftOutText 108))  -- \l
    ∷ row 76 (TextOf (LeftOutText 76))  -- \L
    ∷ row 78 (TextOf (LeftOutText 78))  -- \N
    ∷ row 111 (TextOf (LeftOutText 111))  -- \o
    ∷ row 83 (TextOf (LeftOutText 83))  -- \S
    ∷ row 118 (TextOf (LeftOutText 118))  -- \v
    ∷ row 120 (TextOf (LeftOutText 120))  -- \x
    ∷ row 88 (TextOf (LeftOutText 88))  -- \X
    ∷ row 97 LeftOut  -- \a
    ∷ row 100 LeftOut  -- \d
    ∷ row 112 LeftOut  -- \p
    ∷ row 114 LeftOut  -- \r
    ∷ row 117 LeftOut  -- \u
    ∷ row 122 LeftOut  -- \z
    ∷ row 33 LeftOut  -- \!
    ∷ []

-- the escape of a row, or of a byte without a row, which stands for itself
abbrev pub escape_in : Option Row → ℕ → Escape
escape_in (Some row) b = row.escape
escape_in None b = Prints b

-- the escape of a byte
abbrev pub escape_of : ℕ → Escape
escape_of b = escape_in (find (λ row. row.byte == b) escapes) b

-- whether copy mode reads such a name too: of a register, a string or an argument
abbrev pub is_copied : NameUse → Bool
is_copied (Register step) = true
is_copied Text = true
is_copied Argument = true
is_copied Character = false
is_copied Font = false
is_copied (LeftOutName b) = false
