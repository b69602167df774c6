-- Words in the form that the parser reads. It takes an `=` off that stands behind the letter of an option; behind `-r` that is a
-- register's name.
use Rattle.std.specs.Prelude.{◌||◌, Bool, List, [], ◌∷◌, ◌++◌, Option, bytes_eq, codes, if◌then◌else◌, option_and_then}
use Rattle.std.specs.Option.{option_map_or}
use Rattle.clap.specs.Lexer.{strip_byte}
use Rattle.clap.specs.Words.{Text}

-- what stands behind `-r=` in a word that begins so
abbrev pub behind_equals : Text → Option Text
behind_equals word = option_and_then (strip_byte 61) (option_and_then (strip_byte 114) (strip_byte 45 word))

-- a word in that form: `-r==` for `-r=`; the name of a file stays as it is
abbrev pub word_prepared : Bool → Text → Text
word_prepared is_file word = if is_file then word else option_map_or (λ value. codes "-r==" ++ value) (behind_equals word) word

-- words in that form; those behind `--` name files
unfoldable pub words_prepared : Bool → List Text → List Text
words_prepared are_files [] = []
words_prepared are_files (word ∷ words) =
    let files = are_files || bytes_eq word (codes "--") in
    word_prepared files word ∷ words_prepared files words
