-- Arguments written in quotes are read as they were.
use Rattle.std.proofs.Common.{◌≡◌, ℕ, Bool, true, false, List, [], ◌∷◌, ◌++◌, refl, sym, ◌∙◌, ap, append_assoc, fold, reverse, if◌then◌else◌, ◌==◌, eqb-true, append-nil}
use Rattle.std.specs.List.{flat_map}
use Rattle.std.proofs.lemmas.List.{reverse-reverse, reverse-append}
use Rattle.std.proofs.lemmas.List.Sums.{fold-append}
use Rattle.input_model.specs.Arguments.{Arguments, with_argument_byte, arguments_read}
use Rattle.input_source.specs.Bytes.{blank, quote}
use Rattle.input_arguments.specs.Quoting.{quoted_byte, quoted, quoted_line, QuotedArgumentsReadBack}
use Rattle.input_model.specs.declared.place.Place.TheVariants.{Between, InQuotes, BehindQuote}

-- the arguments behind some bytes
abbrev behind : Arguments → List ℕ → Arguments
behind a bytes = fold with_argument_byte a bytes

-- arguments of which one is being read within quotes
abbrev in_quotes : List (List ℕ) → List ℕ → Arguments
in_quotes whole begun = record { whole = whole; begun = begun; place = InQuotes }

-- a byte within quotes
behind-quoted_byte : (whole : List (List ℕ)) (begun : List ℕ) (b : ℕ) (is_quote : Bool) → (b == quote) ≡ is_quote
    → behind (in_quotes whole begun) (if is_quote then quote ∷ quote ∷ [] else b ∷ []) ≡ in_quotes whole (b ∷ begun)
behind-quoted_byte whole begun b true is = ap (λ c. in_quotes whole (c ∷ begun)) (sym (eqb-true b quote is))
behind-quoted_byte whole begun b false is = rw is refl

-- the bytes of an argument within quotes
behind-quoted_bytes : (whole : List (List ℕ)) (begun argument : List ℕ)
    → behind (in_quotes whole begun) (flat_map quoted_byte argument) ≡ in_quotes whole (reverse argument ++ begun)
behind-quoted_bytes whole begun [] = refl
behind-quoted_bytes whole begun (b ∷ argument) =
    let first : behind (in_quotes whole begun) (quoted_byte b) ≡ in_quotes whole (b ∷ begun) = behind-quoted_byte whole begun b (b == quote) refl in
    fold-append with_argument_byte (in_quotes whole begun) (quoted_byte b) (flat_map quoted_byte argument)
    ∙ ap (λ (a : Arguments). behind a (flat_map quoted_byte argument)) first
    ∙ behind-quoted_bytes whole (b ∷ begun) argument
    ∙ ap (in_quotes whole) (sym (append_assoc (reverse argument) (b ∷ []) begun) ∙ ap (λ bytes. bytes ++ begun) (sym (reverse-append (b ∷ []) argument)))

-- arguments of which the last is read but for what follows its closing quote
abbrev behind_quote : List (List ℕ) → List ℕ → Arguments
behind_quote whole argument = record { whole = whole; begun = reverse argument; place = BehindQuote }

-- arguments that are whole
abbrev whole_ones : List (List ℕ) → Arguments
whole_ones whole = record { whole = whole; begun = []; place = Between }

-- an argument in quotes
behind-quoted : (whole : List (List ℕ)) (argument : List ℕ) → behind (whole_ones whole) (quoted argument) ≡ behind_quote whole argument
behind-quoted whole argument =
    fold-append with_argument_byte (in_quotes whole []) (flat_map quoted_byte argument) (quote ∷ [])
    ∙ ap (λ (a : Arguments). with_argument_byte a quote) (behind-quoted_bytes whole [] argument ∙ ap (in_quotes whole) (append-nil (reverse argument)))

-- the last argument is whole at the line's end
arguments_read-last : (whole : List (List ℕ)) (argument : List ℕ) → arguments_read (behind_quote whole argument) ≡ reverse whole ++ argument ∷ []
arguments_read-last whole argument =
    ap (λ bytes. reverse (bytes ∷ whole)) (reverse-reverse argument) ∙ reverse-append (argument ∷ []) whole

-- arguments in quotes, behind others
arguments_read-quoted_line : (whole arguments : List (List ℕ)) → arguments_read (behind (whole_ones whole) (quoted_line arguments)) ≡ reverse whole ++ arguments
arguments_read-quoted_line whole [] = sym (append-nil (reverse whole))
arguments_read-quoted_line whole (argument ∷ []) = ap arguments_read (behind-quoted whole argument) ∙ arguments_read-last whole argument
arguments_read-quoted_line whole (argument ∷ next ∷ arguments) =
    let others : List ℕ = quoted_line (next ∷ arguments) in
    ap arguments_read (fold-append with_argument_byte (whole_ones whole) (quoted argument) (blank ∷ others))
    ∙ ap (λ (a : Arguments). arguments_read (behind a (blank ∷ others))) (behind-quoted whole argument)
    ∙ ap (λ bytes. arguments_read (behind (whole_ones (bytes ∷ whole)) others)) (reverse-reverse argument)
    ∙ arguments_read-quoted_line (argument ∷ whole) (next ∷ arguments)
    ∙ ap (λ front. front ++ next ∷ arguments) (reverse-append (argument ∷ []) whole)
    ∙ append_assoc (reverse whole) (argument ∷ []) (next ∷ arguments)

-- arguments written in quotes are read as they were
pub quoted_arguments_read_back : QuotedArgumentsReadBack
quoted_arguments_read_back = arguments_read-quoted_line []
