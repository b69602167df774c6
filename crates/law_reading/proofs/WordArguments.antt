-- Requests get the arguments that are written as words.
use Rattle.std.proofs.Common.{◌≡◌, ℕ, zero, suc, Bool, false, List, [], ◌∷◌, ◌++◌, refl, sym, ◌∙◌, ap, append_assoc, All, ◌||◌, fold, replicate, reverse, if◌then◌else◌, ◌==◌, append-nil}
use Rattle.std.specs.List.{flat_map}
use Rattle.std.proofs.lemmas.List.{reverse-reverse, reverse-append}
use Rattle.std.proofs.lemmas.List.Elements.{All-append, All-cons, All-head, All-nil, All-tail}
use Rattle.std.proofs.lemmas.List.Sums.{fold-append}
use Rattle.input_model.specs.Arguments.{Arguments, arguments_read, no_arguments, with_argument_byte}
use Rattle.input_model.specs.declared.place.Place.TheVariants.{Between, InPlain, InQuotes}
use Rattle.input_source.specs.Bytes.{backslash, blank, is_dropped, newline, quote}
use Rattle.law_reading.proofs.QuotedArguments.{gets-read}
use Rattle.law_reading.proofs.StringLaws.{behind_first, no_blank, no_quote, word-itself}
use Rattle.law_reading.specs.InterpolationLaws.{StandsForItself}
use Rattle.law_reading.specs.WordArguments.{AreWords, IsInWord, IsWord, RequestsGetWords, RequestsGetWordsAtTheLinesEnd, WordsAtTheLinesEndReadBack, WordsReadBack, word_and_gap, words_line, words_of}
use Rattle.run_model.proofs.ItemsTaken.{not-first}

-- the arguments behind some bytes
abbrev pub behind : Arguments → List ℕ → Arguments
behind a bytes = fold with_argument_byte a bytes

-- arguments that are whole, the newest first, and a word that is read behind them
abbrev pub whole_ones : List (List ℕ) → Arguments
whole_ones whole = record { whole = whole; begun = []; place = Between }

abbrev pub in_word : List (List ℕ) → List ℕ → Arguments
in_word whole begun = record { whole = whole; begun = begun; place = InPlain }

-- blanks separate
pub behind-blanks : (whole : List (List ℕ)) (n : ℕ) → behind (whole_ones whole) (replicate n blank) ≡ whole_ones whole
behind-blanks whole zero = refl
behind-blanks whole (suc n) = behind-blanks whole n

-- the bytes of a word behind the first one
no_separator : (b : ℕ) → IsInWord b → (b == blank) ≡ false
no_separator b in_it = not-first (b == blank) (b == backslash || (is_dropped b || b == newline)) in_it

behind-bytes : (whole : List (List ℕ)) (begun bytes : List ℕ) → All IsInWord bytes → behind (in_word whole begun) bytes ≡ in_word whole (reverse bytes ++ begun)
behind-bytes whole begun [] in_it = refl
behind-bytes whole begun (b ∷ bytes) in_it =
    ap (λ (c : Bool). behind (if c then whole_ones (reverse begun ∷ whole) else in_word whole (b ∷ begun)) bytes) (no_separator b (All-head IsInWord b bytes in_it))
    ∙ behind-bytes whole (b ∷ begun) bytes (All-tail IsInWord b bytes in_it)
    ∙ ap (in_word whole) (sym (append_assoc (reverse bytes) (b ∷ []) begun) ∙ ap (λ (front : List ℕ). front ++ begun) (sym (reverse-append (b ∷ []) bytes)))

-- a word
pub behind-word : (whole : List (List ℕ)) (word : List ℕ) → IsWord word → behind (whole_ones whole) word ≡ in_word whole (reverse word)
behind-word whole [] is = absurd is
behind-word whole (b ∷ bytes) is =
    let quoting : Arguments = record (whole_ones whole) { place = InQuotes } in
    ap (λ (c : Bool). behind (if c then whole_ones whole else if b == quote then quoting else in_word whole (b ∷ [])) bytes) (no_blank b is.0)
    ∙ ap (λ (c : Bool). behind (if c then quoting else in_word whole (b ∷ [])) bytes) (no_quote b is.0)
    ∙ behind-bytes whole (b ∷ []) bytes is.1
    ∙ ap (in_word whole) (sym (reverse-append (b ∷ []) bytes))

-- and the blanks behind it
pub behind-part : (whole : List (List ℕ)) (word : List ℕ) (n : ℕ) → IsWord word → behind (whole_ones whole) (word_and_gap (word, n)) ≡ whole_ones (word ∷ whole)
behind-part whole word n is =
    fold-append with_argument_byte (whole_ones whole) word (replicate (suc n) blank)
    ∙ ap (λ (a : Arguments). behind a (replicate (suc n) blank)) (behind-word whole word is)
    ∙ behind-blanks (reverse (reverse word) ∷ whole) n
    ∙ ap (λ (text : List ℕ). whole_ones (text ∷ whole)) (reverse-reverse word)

behind-words : (whole : List (List ℕ)) (words : List (List ℕ × ℕ)) → AreWords words
    → behind (whole_ones whole) (flat_map word_and_gap words) ≡ whole_ones (reverse (words_of words) ++ whole)
behind-words whole [] are = refl
behind-words whole (part ∷ words) are =
    let is : (p : List ℕ × ℕ) → Type 0 = λ p. IsWord p.0 in
    fold-append with_argument_byte (whole_ones whole) (word_and_gap part) (flat_map word_and_gap words)
    ∙ ap (λ (a : Arguments). behind a (flat_map word_and_gap words)) (behind-part whole part.0 part.1 (All-head is part words are))
    ∙ behind-words (part.0 ∷ whole) words (All-tail is part words are)
    ∙ ap whole_ones (sym (append_assoc (reverse (words_of words)) (part.0 ∷ []) whole)
    ∙ ap (λ (front : List (List ℕ)). front ++ whole) (sym (reverse-append (part.0 ∷ []) (words_of words))))

behind-line : (leading : ℕ) (words : List (List ℕ × ℕ)) → AreWords words → behind no_arguments (words_line leading words) ≡ whole_ones (reverse (words_of words))
behind-line leading words are =
    fold-append with_argument_byte no_arguments (replicate leading blank) (flat_map word_and_gap words)
    ∙ ap (λ (a : Arguments). behind a (flat_map word_and_gap words)) (behind-blanks [] leading)
    ∙ behind-words [] words are
    ∙ ap whole_ones (append-nil (reverse (words_of words)))

pub words_read_back : WordsReadBack
words_read_back leading words are = ap arguments_read (behind-line leading words are) ∙ reverse-reverse (words_of words)

pub words_at_the_lines_end_read_back : WordsAtTheLinesEndReadBack
words_at_the_lines_end_read_back leading words last are is =
    let whole : List (List ℕ) = reverse (words_of words) in
    ap arguments_read
    (fold-append with_argument_byte no_arguments (words_line leading words) last
    ∙ ap (λ (a : Arguments). behind a last) (behind-line leading words are)
    ∙ behind-word whole last is)
    ∙ ap (λ (text : List ℕ). reverse (text ∷ whole)) (reverse-reverse last)
    ∙ reverse-append (last ∷ []) whole
    ∙ ap (λ (front : List (List ℕ)). front ++ last ∷ []) (reverse-reverse (words_of words))

-- all bytes of such a line stand for themselves
themselves-bytes : (bytes : List ℕ) → All IsInWord bytes → All StandsForItself bytes
themselves-bytes [] in_it = All-nil StandsForItself
themselves-bytes (b ∷ bytes) in_it =
    All-cons StandsForItself b bytes (behind_first (b == blank) (b == backslash || (is_dropped b || b == newline)) (All-head IsInWord b bytes in_it))
    (themselves-bytes bytes (All-tail IsInWord b bytes in_it))

pub themselves-word : (word : List ℕ) → IsWord word → All StandsForItself word
themselves-word [] is = absurd is
themselves-word (b ∷ bytes) is = All-cons StandsForItself b bytes (word-itself b is.0) (themselves-bytes bytes is.1)

pub themselves-blanks : (n : ℕ) → All StandsForItself (replicate n blank)
themselves-blanks zero = All-nil StandsForItself
themselves-blanks (suc n) = All-cons StandsForItself blank (replicate n blank) refl (themselves-blanks n)

themselves-words : (words : List (List ℕ × ℕ)) → AreWords words → All StandsForItself (flat_map word_and_gap words)
themselves-words [] are = All-nil StandsForItself
themselves-words (part ∷ words) are =
    let is : (p : List ℕ × ℕ) → Type 0 = λ p. IsWord p.0 in
    All-append StandsForItself (word_and_gap part) (flat_map word_and_gap words)
    (All-append StandsForItself part.0 (replicate (suc part.1) blank) (themselves-word part.0 (All-head is part words are)) (themselves-blanks (suc part.1)))
    (themselves-words words (All-tail is part words are))

pub themselves-line : (leading : ℕ) (words : List (List ℕ × ℕ)) → AreWords words → All StandsForItself (words_line leading words)
themselves-line leading words are =
    All-append StandsForItself (replicate leading blank) (flat_map word_and_gap words) (themselves-blanks leading) (themselves-words words are)

pub requests_get_words : RequestsGetWords
requests_get_words k breaks request i leading words half none are =
    gets-read k breaks request i (words_line leading words) (words_of words) half none (themselves-line leading words are) (words_read_back leading words are)

pub requests_get_words_at_the_lines_end : RequestsGetWordsAtTheLinesEnd
requests_get_words_at_the_lines_end k breaks request i leading words last half none are is =
    gets-read k breaks request i (words_line leading words ++ last) (words_of words ++ last ∷ []) half none
    (All-append StandsForItself (words_line leading words) last (themselves-line leading words are) (themselves-word last is))
    (words_at_the_lines_end_read_back leading words last are is)
