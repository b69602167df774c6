-- The words of a block are those of its lines, in order.
use Rattle.std.proofs.Common.{◌≡◌, ◌==◌, ℕ, Bool, true, false, List, [], ◌∷◌, ◌++◌, map, Option, Some, None, refl, sym, ap, ◌∙◌, if◌then◌else◌}
use Rattle.std.specs.List.{flat_map, join_with_byte}
use Rattle.std.proofs.lemmas.List.Concat.{flat_map-cons}
use Rattle.std.proofs.lemmas.List.Splits.{slice_split_none, slice_split_at}
use Rattle.input_source.specs.Bytes.{newline}
use Rattle.tbl_text.specs.BlockWords.{Word, Part, EmptyLine, OneWord, behind_line, is_empty_line, is_request, joined_to, joined_words, parts_behind, parts_of, parts_of_line, words_of}
use Rattle.tbl_text.specs.BlockLaws.{KeepWords, LieJoined, texts, texts_of_line}
use Rattle.tbl_text.proofs.Filling.{fills_block}

texts-append : (parts more : List Part) → texts (parts ++ more) ≡ texts parts ++ texts more
texts-append [] more = refl
texts-append (EmptyLine ∷ parts) more = texts-append parts more
texts-append (OneWord w ∷ parts) more = ap (λ (rest : List (List ℕ)). w.text ∷ rest) (texts-append parts more)

texts-words : (words : List Word) → texts (map OneWord words) ≡ map (λ w. w.text) words
texts-words [] = refl
texts-words (w ∷ words) = ap (λ (rest : List (List ℕ)). w.text ∷ rest) (texts-words words)

-- joining a word keeps its text
text_by : (w : Word) (ends none : Bool) → (if none then record w { gap = if ends then 2 else 1 } else record w { breaks = true }).text ≡ w.text
text_by w ends true = refl
text_by w ends false = refl

text-joined : (before : Option Bool) (w : Word) → (joined_to before w).text ≡ w.text
text-joined None w = refl
text-joined (Some ends) w = text_by w ends (w.gap == 0)

texts-joined : (before : Option Bool) (words : List Word) → texts (joined_words before words) ≡ map (λ w. w.text) words
texts-joined before [] = refl
texts-joined before (w ∷ words) =
    ap (λ (text : List ℕ). text ∷ texts (map OneWord words)) (text-joined before w)
    ∙ ap (λ (rest : List (List ℕ)). w.text ∷ rest) (texts-words words)

-- so a line's parts have the texts of its words
line_by : (before : Option Bool) (words : List Word) (request empty : Bool)
    → texts (if request then [] else if empty then EmptyLine ∷ [] else joined_words before words)
    ≡ (if request then [] else if empty then [] else map (λ w. w.text) words)
line_by before words true empty = refl
line_by before words false true = refl
line_by before words false false = texts-joined before words

texts-parts : (before : Option Bool) (lines : List (List ℕ)) → texts (parts_behind before lines) ≡ flat_map texts_of_line lines
texts-parts before [] = refl
texts-parts before (line ∷ lines) =
    texts-append (parts_of_line before line) (parts_behind (behind_line before line) lines)
    ∙ ap (λ (front : List (List ℕ)). front ++ texts (parts_behind (behind_line before line) lines))
    (line_by before (words_of line) (is_request line) (is_empty_line line))
    ∙ ap (λ (rest : List (List ℕ)). texts_of_line line ++ rest) (texts-parts (behind_line before line) lines)
    ∙ sym (flat_map-cons texts_of_line line lines)

pub keep_words : (measure : ℕ) (lines : List (List ℕ)) → KeepWords measure lines
keep_words measure lines = ap texts (fills_block measure (parts_of lines)).joined ∙ texts-parts None lines

-- lines that lie joined are those that lie there
pub lie_joined : (lines : List (List ℕ)) → LieJoined lines
lie_joined [] are = absurd are
lie_joined (line ∷ []) are = slice_split_none (λ b. b == newline) line are
lie_joined (line ∷ next ∷ lines) are =
    slice_split_at (λ b. b == newline) line newline (join_with_byte newline (next ∷ lines)) are.0 refl
    ∙ ap (λ (rest : List (List ℕ)). line ∷ rest) (lie_joined (next ∷ lines) are.1)
