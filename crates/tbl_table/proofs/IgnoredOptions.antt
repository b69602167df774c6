-- Of a text no more options are ignored than it has bytes.
use Rattle.std.proofs.Common.{ℕ, suc, ◌+◌, ◌≤◌, Bool, true, false, not, ◌&&◌, List, [], ◌∷◌, ◌++◌, length, arith, length-append, if◌then◌else◌}
use Rattle.tbl_options.specs.Options.{Said, bracketed, if_word, ignored_of, ignored_options, is_unknown, option_of, option_of_two, option_words, options_of, separates_options, words_behind}

-- words that are options
word-few : (word : List ℕ) → length (if_word word) ≤ length word
word-few [] = omega arith
word-few (b ∷ word) = omega arith

words-by : (t inside : Bool) (word text : List ℕ) (b : ℕ) → length (words_behind inside [] text) ≤ length text
    → length (words_behind (bracketed inside b) (word ++ b ∷ []) text) ≤ length (word ++ b ∷ []) + length text
    → length (if t then if_word word ++ words_behind inside [] text else words_behind (bracketed inside b) (word ++ b ∷ []) text) ≤ length word + suc (length text)
words-by true inside word text b separated other =
    omega (arith, separated, word-few word, length-append (if_word word) (words_behind inside [] text))
words-by false inside word text b separated other = omega (arith, other, length-append word (b ∷ []))

words-few : (inside : Bool) (word text : List ℕ) → length (words_behind inside word text) ≤ length word + length text
words-few inside word [] = omega (arith, word-few word)
words-few inside word (b ∷ text) =
    words-by (not inside && separates_options b) inside word text b
    (omega (arith, words-few inside [] text)) (words-few (bracketed inside b) (word ++ b ∷ []) text)

-- and no more than words
said-by : (t : Bool) (one two : Said) (xs ys : List Said) (n : ℕ) → length xs ≤ n + 1 → length ys ≤ n → length (if t then one ∷ xs else two ∷ ys) ≤ suc (n + 1)
said-by true one two xs ys n more few = omega (arith, more)
said-by false one two xs ys n more few = omega (arith, few)

said-few : (words : List (List ℕ)) → length (options_of words) ≤ length words
said-few [] = omega arith
said-few (word ∷ []) = omega arith
said-few (word ∷ next ∷ words) =
    let one : Said = record { word = word; option = option_of word } in
    let two : Said = record { word = word; option = option_of_two word next } in
    let few = said-by (is_unknown (option_of_two word next)) one two (options_of (next ∷ words)) (options_of words) (length words)
    (omega (arith, said-few (next ∷ words))) (said-few words) in
    omega (arith, few)

ignored-by : (t : Bool) (word : List ℕ) (rest : List (List ℕ)) (n : ℕ) → length rest ≤ n → length (if t then word ∷ rest else rest) ≤ suc n
ignored-by true word rest n few = omega (arith, few)
ignored-by false word rest n few = omega (arith, few)

ignored-few : (options : List Said) → length (ignored_of options) ≤ length options
ignored-few [] = omega arith
ignored-few (said ∷ options) =
    ignored-by (is_unknown said.option) said.word (ignored_of options) (length options) (ignored-few options)

pub ignored-most : (text : List ℕ) → length (ignored_options text) ≤ length text
ignored-most text =
    omega (arith, ignored-few (options_of (option_words text)), said-few (option_words text), words-few false [] text)
