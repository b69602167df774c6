-- Arguments written in quotes, as the end of a control line from which they are read again (manual, section 7.3).
use Rattle.std.specs.Prelude.{◌≡◌, ℕ, List, [], ◌∷◌, ◌++◌, map, fold, if◌then◌else◌, ◌==◌}
use Rattle.std.specs.List.{flat_map, join_with_byte}
use Rattle.input_model.specs.Arguments.{no_arguments, with_argument_byte, arguments_read}
use Rattle.input_source.specs.Bytes.{blank, quote}

-- a byte within quotes: a quote is written twice
abbrev pub quoted_byte : ℕ → List ℕ
quoted_byte b = if b == quote then quote ∷ quote ∷ [] else b ∷ []

-- an argument in quotes
abbrev pub quoted : List ℕ → List ℕ
quoted argument = quote ∷ flat_map quoted_byte argument ++ quote ∷ []

-- arguments in quotes, with a blank between each two
abbrev pub quoted_line : List (List ℕ) → List ℕ
quoted_line arguments = join_with_byte blank (map quoted arguments)

-- what is written so is read as it was
abbrev pub QuotedArgumentsReadBack : Type 0
QuotedArgumentsReadBack =
    (arguments : List (List ℕ)) → arguments_read (fold with_argument_byte no_arguments (quoted_line arguments)) ≡ arguments
