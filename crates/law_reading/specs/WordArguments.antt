-- Arguments written as words, without quotes, as a request gets them (manual, section 7.3).
use Rattle.std.specs.Prelude.{◌≡◌, ℕ, suc, Bool, List, [], ◌∷◌, ◌++◌, map, replicate, fold, All, IsTrue, ◌||◌, not, ◌==◌}
use Rattle.std.specs.List.{flat_map}
use Rattle.input_model.specs.Arguments.{no_arguments, kept, with_argument_byte, arguments_read}
use Rattle.input_source.specs.Bytes.{backslash, blank, is_dropped, newline}
use Rattle.law_reading.specs.Quoting.{given_taking, taking_all}
use Rattle.law_reading.specs.StringLaws.{IsOfWord}
use Rattle.run_model.specs.Reading.Items.{PageInput}
use Rattle.run_model.specs.Registers.{Known}
use Rattle.run_model.specs.Requests.{row_of}
use Rattle.run_model.specs.declared.line_state.LineState.TheVariants.{Collecting}
use Rattle.run_model.specs.declared.purpose.Purpose.TheVariants.{Arguments as InArguments}
use Rattle.run_model.specs.declared.request.Request.{Request}

-- a byte within a word: it stands for itself, and doesn't separate; a quote is as good as another there
abbrev pub IsInWord : ℕ → Type 0
IsInWord b = IsTrue (not (b == blank || (b == backslash || (is_dropped b || b == newline))))

-- a word: its first byte is no quote either
abbrev pub IsWord : List ℕ → Type 0
IsWord [] = ⊥
IsWord (b ∷ bytes) = IsOfWord b × All IsInWord bytes

-- a word and the blanks behind it, of which there is one at least
abbrev pub word_and_gap : List ℕ × ℕ → List ℕ
word_and_gap part = part.0 ++ replicate (suc part.1) blank

-- arguments as words: blanks in front, and blanks behind each
abbrev pub words_line : ℕ → List (List ℕ × ℕ) → List ℕ
words_line leading words = replicate leading blank ++ flat_map word_and_gap words

-- the words of such a line
abbrev pub words_of : List (List ℕ × ℕ) → List (List ℕ)
words_of words = map (λ part. part.0) words

abbrev pub AreWords : List (List ℕ × ℕ) → Type 0
AreWords words = All (λ (part : List ℕ × ℕ). IsWord part.0) words

-- what is written so is read as it was, and so it is of one more word at the line's end
abbrev pub WordsReadBack : Type 0
WordsReadBack =
    (leading : ℕ) (words : List (List ℕ × ℕ)) → AreWords words
    → arguments_read (fold with_argument_byte no_arguments (words_line leading words)) ≡ words_of words

abbrev pub WordsAtTheLinesEndReadBack : Type 0
WordsAtTheLinesEndReadBack =
    (leading : ℕ) (words : List (List ℕ × ℕ)) (last : List ℕ) → AreWords words → IsWord last
    → arguments_read (fold with_argument_byte no_arguments (words_line leading words ++ last)) ≡ words_of words ++ last ∷ []

-- Behind a request's name the line of some words does what the request does with those of them that are kept, and none is held
-- behind it.
abbrev pub RequestsGetWords : Type 0
RequestsGetWords =
    (k : Known) (breaks : Bool) (request : Request) (i : PageInput) (leading : ℕ) (words : List (List ℕ × ℕ)) →
    i.escapes ≡ [] → i.arguments ≡ no_arguments → AreWords words →
    taking_all k (Collecting (InArguments breaks request)) i (words_line leading words ++ newline ∷ [])
    ≡ given_taking k breaks request i (row_of request).line (kept (words_of words))

-- and so it is of one more word at the line's end
abbrev pub RequestsGetWordsAtTheLinesEnd : Type 0
RequestsGetWordsAtTheLinesEnd =
    (k : Known) (breaks : Bool) (request : Request) (i : PageInput) (leading : ℕ) (words : List (List ℕ × ℕ)) (last : List ℕ) →
    i.escapes ≡ [] → i.arguments ≡ no_arguments → AreWords words → IsWord last →
    taking_all k (Collecting (InArguments breaks request)) i (words_line leading words ++ last ++ newline ∷ [])
    ≡ given_taking k breaks request i (row_of request).line (kept (words_of words ++ last ∷ []))
