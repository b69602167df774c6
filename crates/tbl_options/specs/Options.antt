-- The options of a table: what its first line says up to a `;` (Lesk, "Tbl": Options).
use Rattle.std.specs.Prelude.{ℕ, suc, ◌+◌, ◌-◌, Bool, true, false, not, ◌&&◌, ◌||◌, List, [], ◌∷◌, ◌++◌, length, map, fold, max, take, slice_index, slice_range, nat_le, nat_lt, Option, None, Some, is_some, bytes_eq, codes, if◌then◌else◌, ◌==◌}
use Rattle.input_source.specs.Bytes.{tab, blank, comma}
use Rattle.tbl_options.specs.declared.options.Boxing.{Boxing}
use Rattle.tbl_options.specs.declared.options.Options.{Options}
use Rattle.tbl_options.specs.declared.options.TableOption.{TableOption}
use Rattle.tbl_options.specs.declared.options.TableOption.TheVariants.{AllBox, Box, Center, DoubleBox, Expand, Separator, Unknown, WithoutEffect}

-- bytes with a meaning
abbrev pub opening : ℕ
opening = 40

abbrev pub closing : ℕ
closing = 41

abbrev pub semicolon : ℕ
semicolon = 59

-- whether a byte separates options, where it stands outside brackets
abbrev pub separates_options : ℕ → Bool
separates_options b = b == blank || (b == tab || b == comma)

-- whether what follows a byte stands within brackets: `(` opens them, and the next `)` closes them
abbrev pub bracketed : Bool → ℕ → Bool
bracketed inside b = if b == opening then true else if b == closing then false else inside

-- a letter as a small one, another byte as it is
abbrev pub as_small : ℕ → ℕ
as_small b = if nat_le 65 b && nat_le b 90 then b + 32 else b

-- whether a word is a name, in letters of either case
abbrev pub is_name : List ℕ → List ℕ → Bool
is_name name word = bytes_eq (map as_small word) name

-- whether a word has brackets behind a front, which ends in `(`: it is longer, and ends in `)`
abbrev pub has_brackets : List ℕ → List ℕ → Bool
has_brackets front word =
    nat_lt (length front) (length word)
    && (slice_index word (length word - 1) == closing && is_name front (take (length front) word))

-- what stands in these brackets
abbrev pub argument_of : List ℕ → List ℕ → Option (List ℕ)
argument_of front word =
    if has_brackets front word then Some (slice_range word (length front) (length word - 1)) else None

-- the byte in the brackets, if it stands there alone
abbrev pub one_byte : Option (List ℕ) → Option ℕ
one_byte None = None
one_byte (Some []) = None
one_byte (Some (b ∷ [])) = Some b
one_byte (Some (b ∷ c ∷ rest)) = None

-- whether the brackets have two bytes
abbrev pub are_two_bytes : Option (List ℕ) → Bool
are_two_bytes None = false
are_two_bytes (Some bytes) = length bytes == 2

-- an option with brackets, by the separator that it sets
abbrev pub option_with_brackets : List ℕ → Option ℕ → TableOption
option_with_brackets word (Some b) = Separator b
option_with_brackets word None =
    if are_two_bytes (argument_of (codes "delim(") word) || is_some (argument_of (codes "linesize(") word) then WithoutEffect
    else Unknown

-- what an option says
abbrev pub option_of : List ℕ → TableOption
option_of word =
    if is_name (codes "center") word || is_name (codes "centre") word then Center
    else if is_name (codes "expand") word then Expand
    else if is_name (codes "box") word || is_name (codes "frame") word then Box
    else if is_name (codes "allbox") word then AllBox
    else if is_name (codes "doublebox") word || is_name (codes "doubleframe") word then DoubleBox
    else option_with_brackets word (one_byte (argument_of (codes "tab(") word))

-- the word that was read, if it has a byte
abbrev pub if_word : List ℕ → List (List ℕ)
if_word [] = []
if_word (b ∷ word) = (b ∷ word) ∷ []

-- the words of a text behind the one that was begun; within brackets nothing separates them
abbrev pub words_behind : Bool → List ℕ → List ℕ → List (List ℕ)
words_behind inside word [] = if_word word
words_behind inside word (b ∷ text) =
    if not inside && separates_options b then if_word word ++ words_behind inside [] text
    else words_behind (bracketed inside b) (word ++ b ∷ []) text

-- the options of a text, as they are written
abbrev pub option_words : List ℕ → List (List ℕ)
option_words text = words_behind false [] text

-- the options of a table that gives none
abbrev pub no_options : Options
no_options = record { separator = tab; centered = false; expanded = false; boxing = record { bars = 0; is_inside = false } }

-- an option whose brackets are a word by themselves, by what stands in them
abbrev pub separating : Option ℕ → TableOption
separating (Some b) = Separator b
separating None = Unknown

abbrev pub option_by : List ℕ → Option (List ℕ) → TableOption
option_by name argument =
    if is_name (codes "tab") name then separating (one_byte argument)
    else if is_name (codes "delim") name && are_two_bytes argument || is_name (codes "linesize") name && is_some argument then WithoutEffect
    else Unknown

abbrev pub option_of_two : List ℕ → List ℕ → TableOption
option_of_two name brackets = option_by name (argument_of (codes "(") brackets)

-- whether an option isn't known
abbrev pub is_unknown : TableOption → Bool
is_unknown Unknown = true
is_unknown option = false

-- an option: its word, or the first of its two, and what it says
pub record Said : Type 0 where
  pub word : List ℕ
  pub option : TableOption

-- the options of words: a word and the next one where they are known together, and else each by itself
abbrev pub options_of : List (List ℕ) → List Said
options_of [] = []
options_of (word ∷ []) = record { word = word; option = option_of word } ∷ []
options_of (word ∷ next ∷ words) =
    if is_unknown (option_of_two word next) then record { word = word; option = option_of word } ∷ options_of (next ∷ words)
    else record { word = word; option = option_of_two word next } ∷ options_of words

-- with so many bars at its edges, at least
abbrev pub framed : ℕ → Boxing → Boxing
framed bars b = record b { bars = max b.bars bars }

-- what an option sets
abbrev pub with_set : TableOption → Options → Options
with_set (Separator b) o = record o { separator = b }
with_set Center o = record o { centered = true }
with_set Expand o = record o { expanded = true }
with_set Box o = record o { boxing = framed 1 o.boxing }
with_set AllBox o = record o { boxing = record (framed 1 o.boxing) { is_inside = true } }
with_set DoubleBox o = record o { boxing = framed 2 o.boxing }
with_set option o = o

abbrev pub with_said : Options → Said → Options
with_said o said = with_set said.option o

-- what a text says, all of which is options
abbrev pub options_read : List ℕ → Options
options_read text = fold with_said no_options (options_of (option_words text))

-- of these options those that are ignored, and told, as they are written
abbrev pub ignored_of : List Said → List (List ℕ)
ignored_of [] = []
ignored_of (said ∷ more) = if is_unknown said.option then said.word ∷ ignored_of more else ignored_of more

abbrev pub ignored_options : List ℕ → List (List ℕ)
ignored_options text = ignored_of (options_of (option_words text))

-- where the options end, counted from a place on: at the first `;` outside brackets, if there is one
abbrev pub options_end_from : Bool → ℕ → List ℕ → Option ℕ
options_end_from inside from [] = None
options_end_from inside from (b ∷ line) =
    if not inside && b == semicolon then Some from
    else options_end_from (bracketed inside b) (suc from) line

abbrev pub options_end : List ℕ → Option ℕ
options_end line = options_end_from false 0 line
