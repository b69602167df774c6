-- The first line of a paragraph's words takes as many as are counted by their gaps and widths.
use Rattle.std.proofs.Common.{◌≡◌, ℕ, ◌+◌, ◌-◌, ◌≤◌, Bool, true, false, not, ◌||◌, List, [], ◌∷◌, ◌++◌, length, map, reverse, nat_le, Some, None, refl, sym, ap, ◌∙◌, arith, All, if◌then◌else◌, append-nil, append_assoc}
use Rattle.std.proofs.lemmas.Bool.Decides.{nat_tests}
use Rattle.std.proofs.lemmas.List.{map-append, reverse-append}
use Rattle.std.proofs.lemmas.List.Elements.{All-head, All-tail}
use Rattle.std.proofs.lemmas.List.Sums.{sum_by-append}
use Rattle.page_model.specs.declared.settings.Settings.{Settings}
use Rattle.roff_num.specs.Widths.{byte_width}
use Rattle.page_model.specs.Glyphs.{text_width}
use Rattle.page_model.specs.Settings.{fills}
use Rattle.page_model.specs.Fitting.{Word, word_text, gap_text, line_text, line_indent, fits}
use Rattle.page_model.specs.Words.{is_empty}
use Rattle.law_lines.specs.Filling.{with_word, lines_of}
use Rattle.roff_lines.specs.declared.fill.Word.{Word as MeasuredWord}
use Rattle.roff_lines.specs.FirstLine.{count_joining, first_line_count}
use Rattle.law_lines.specs.FirstLineOf.{measured, first_of, EndedUnder, TakesFirstLine}
use Rattle.roff_lines.proofs.FirstLine.{joining_by}
use Rattle.roff_lines.proofs.PendingLine.{line_text-full, line_indent-full}
use Rattle.roff_lines.proofs.Widths.{text_width-gap_text}

-- a line with a word more is wider by its gap and its width
text_width-more : (line : List Word) (w : Word) → is_empty line ≡ false
    → text_width (line_text (w ∷ line)) ≡ text_width (line_text line) + w.gap + text_width (word_text w)
text_width-more line w some =
    ap text_width (line_text-full line w some)
    ∙ (let gap = gap_text w.gap in
    omega (
      arith,
      sum_by-append byte_width (line_text line) (gap ++ word_text w),
      sum_by-append byte_width gap (word_text w),
      text_width-gap_text w.gap,
    ))

-- an indent may be taken off both sides
nat_le-behind : (indent width length : ℕ) → indent ≤ length → nat_le (indent + width) length ≡ nat_le width (length - indent)
nat_le-behind indent width length within = grind (arith, nat_tests)

-- the newest word is told last
told_last : (words : List Word) (w : Word) (ws : List MeasuredWord)
    → map measured (reverse (w ∷ words)) ++ ws ≡ map measured (reverse words) ++ measured w ∷ ws
told_last words w ws =
    ap (λ xs. map measured xs ++ ws) (reverse-append (w ∷ []) words)
    ∙ ap (λ xs. xs ++ ws) (map-append measured (reverse words) (w ∷ []))
    ∙ append_assoc (map measured (reverse words)) (measured w ∷ []) ws

module _ (s : Settings) (indent : ℕ) (measures : fills s ≡ true) (within : indent ≤ s.line_length) where
  -- the measure that the indent leaves
  abbrev measure : ℕ
  measure = s.line_length - indent

  -- What is counted behind some words (of which `count` tells with those that follow), where these are their lines: the
  -- words of the first line, and those that join it if it is the last.
  abbrev Counts : (List MeasuredWord → ℕ) → List (List Word) → Type 0
  Counts count [] = (ws : List MeasuredWord) → count ws ≡ count_joining measure None ws
  Counts count (line ∷ []) =
      (is_empty line ≡ false) × (line_indent line ≡ indent)
      × ((ws : List MeasuredWord) → count ws ≡ length line + count_joining measure (Some (text_width (line_text line))) ws)
  Counts count (line ∷ before ∷ lines) = (ws : List MeasuredWord) → count ws ≡ length (first_of (before ∷ lines))

  -- a word fits behind the first line if it fits in the measure
  fits-measure : (line : List Word) (w : Word) → line_indent line ≡ indent → EndedUnder s indent w
      → fits line w ≡ nat_le (text_width (line_text line) + w.gap + text_width (word_text w)) measure
  fits-measure line w begun ended =
      let width = text_width (line_text line) + w.gap + text_width (word_text w) in
      ap (λ t. not (fills t) || nat_le (line_indent line + width) t.line_length) ended.under
      ∙ ap (λ i. not (fills s) || nat_le (i + width) s.line_length) begun
      ∙ ap (λ b. not b || nat_le (indent + width) s.line_length) measures
      ∙ nat_le-behind indent width s.line_length within

  -- the width of the first line with a word more
  abbrev wider : List Word → Word → ℕ
  wider line w = text_width (line_text line) + w.gap + text_width (word_text w)

  -- what is counted of it and of words behind it, whether it fits or not
  count_joining-fit : (fit : Bool) (line : List Word) (w : Word) (ws : List MeasuredWord) → fits line w ≡ fit
      → line_indent line ≡ indent → EndedUnder s indent w
      → count_joining measure (Some (text_width (line_text line))) (measured w ∷ ws)
      ≡ joining_by measure ws (if fit then Some (wider line w) else None)
  count_joining-fit fit line w ws fit_is begun ended =
      ap (λ b. joining_by measure ws (if b then Some (wider line w) else None)) (sym (fits-measure line w begun ended) ∙ fit_is)

  -- a word more, whether it fits behind the one line or not
  Counts-second : (fit : Bool) (count : List MeasuredWord → ℕ) (line : List Word) (w : Word)
      → fits line w ≡ fit → EndedUnder s indent w → Counts count (line ∷ [])
      → Counts (λ ws. count (measured w ∷ ws)) (if fit then (w ∷ line) ∷ [] else (w ∷ []) ∷ line ∷ [])
  Counts-second true count line w fit ended before = (
    refl,
    line_indent-full line w before.0 ∙ before.1,
    λ ws.
        let more = text_width-more line w before.0 in
        before.2 (measured w ∷ ws)
        ∙ ap (λ n. length line + n) (count_joining-fit true line w ws fit before.1 ended)
        ∙ ap (λ n. length line + (1 + count_joining measure (Some n) ws)) (sym more) ∙ omega arith,
  )
  Counts-second false count line w fit ended before =
      λ ws. before.2 (measured w ∷ ws)
      ∙ ap (λ n. length line + n) (count_joining-fit false line w ws fit before.1 ended) ∙ omega arith

  -- the same behind other lines
  Counts-later : (fit : Bool) (count : List MeasuredWord → ℕ) (line next : List Word) (lines : List (List Word)) (w : Word)
      → Counts count (line ∷ next ∷ lines)
      → Counts (λ ws. count (measured w ∷ ws)) (if fit then (w ∷ line) ∷ next ∷ lines else (w ∷ []) ∷ line ∷ next ∷ lines)
  Counts-later true count line next lines w before = λ ws. before (measured w ∷ ws)
  Counts-later false count line next lines w before = λ ws. before (measured w ∷ ws)

  -- so it is behind any lines
  Counts-with_word : (count : List MeasuredWord → ℕ) (lines : List (List Word)) (w : Word) → EndedUnder s indent w
      → Counts count lines → Counts (λ ws. count (measured w ∷ ws)) (with_word w lines)
  Counts-with_word count [] w ended before = (refl, ended.indented, λ ws. before (measured w ∷ ws))
  Counts-with_word count (line ∷ []) w ended before = Counts-second (fits line w) count line w refl ended before
  Counts-with_word count (line ∷ next ∷ lines) w ended before = Counts-later (fits line w) count line next lines w before

  -- so it is where the same is counted
  Counts-same : (f g : List MeasuredWord → ℕ) → ((ws : List MeasuredWord) → f ws ≡ g ws) → (lines : List (List Word))
      → Counts g lines → Counts f lines
  Counts-same f g same [] counts = λ ws. same ws ∙ counts ws
  Counts-same f g same (line ∷ []) counts = (counts.0, counts.1, λ ws. same ws ∙ counts.2 ws)
  Counts-same f g same (line ∷ before ∷ lines) counts = λ ws. same ws ∙ counts ws

  -- so it is for all words
  Counts-lines_of : (words : List Word) → All (EndedUnder s indent) words
      → Counts (λ ws. first_line_count measure (map measured (reverse words) ++ ws)) (lines_of words)
  Counts-lines_of [] each = λ ws. refl
  Counts-lines_of (w ∷ words) each =
      let count : List MeasuredWord → ℕ = λ ws. first_line_count measure (map measured (reverse words) ++ ws) in
      Counts-same _ (λ ws. count (measured w ∷ ws))
      (λ ws. ap (first_line_count measure) (told_last words w ws)) (with_word w (lines_of words))
      (Counts-with_word count (lines_of words) w (All-head (EndedUnder s indent) w words each)
      (Counts-lines_of words (All-tail (EndedUnder s indent) w words each)))

  -- and where none follow
  Counts-none : (count : List MeasuredWord → ℕ) (lines : List (List Word)) → Counts count lines
      → count [] ≡ length (first_of lines)
  Counts-none count [] counts = counts []
  Counts-none count (line ∷ []) counts = counts.2 [] ∙ omega arith
  Counts-none count (line ∷ before ∷ lines) counts = counts []

-- the first line takes the words that are counted
pub takes_first_line : (s : Settings) (indent : ℕ) (words : List Word) → TakesFirstLine s indent words
takes_first_line s indent words measures within each =
    let told = map measured (reverse words) in
    let count : List MeasuredWord → ℕ = λ ws. first_line_count (s.line_length - indent) (told ++ ws) in
    ap (first_line_count (s.line_length - indent)) (sym (append-nil told))
    ∙ Counts-none s indent measures within count (lines_of words) (Counts-lines_of s indent measures within words each)
