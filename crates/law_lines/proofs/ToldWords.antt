-- What a history says behind words that were told one after another.
use Rattle.std.proofs.Common.{◌≡◌, ℕ, ◌+◌, ◌-◌, ◌&&◌, not, Bool, true, false, None, List, [], ◌∷◌, ◌++◌, reverse, refl, sym, ap, ◌∙◌, inl, inr, zero-add, arith, All, ◌==◌, if◌then◌else◌, eqb-true}
use Rattle.std.proofs.lemmas.Bool.{cases_Bool, cond_both, not-false}
use Rattle.std.proofs.lemmas.List.Elements.{All-cons, All-head, All-tail}
use Rattle.page_model.specs.declared.settings.Settings.{Settings}
use Rattle.page_model.specs.declared.event.Event.{Event}
use Rattle.page_model.specs.declared.event.Event.TheVariants.{WordEnd, Gap, LineEnd, Break, Set}
use Rattle.page_model.specs.Events.{History, settings_after}
use Rattle.page_model.specs.Settings.{fills, counted}
use Rattle.page_model.specs.Fitting.{Word, begins_line}
use Rattle.page_model.specs.Words.{is_empty, open_glyphs, has_open_word, last_word_glyphs, begun_gap, blanks, open_word, words, temporary_indent, indent_by}
use Rattle.page_model.specs.Places.{has_line_glyph}
use Rattle.page_model.specs.Lines.{pending_line}
use Rattle.page_model.specs.Telling.{glyphs_told, words_told, IsOfText, IsWordUnder, IsClear}
use Rattle.page_model.specs.Paragraphs.{until_break}
use Rattle.roff_lines.proofs.Fields.{until_break-glyphs}
use Rattle.roff_lines.proofs.Gaps.{begun_gap-same}
use Rattle.roff_lines.proofs.PendingLine.{is_empty-true}
use Rattle.roff_lines.proofs.Telling.{settings_after-told, temporary_indent-told, has_open_word-word, words-word}

-- where no blanks are counted, those of a gap are
counted-none : (bare : Bool) (n : ℕ) → (if bare && false then 0 else 0 + n) ≡ n
counted-none true n = zero-add n
counted-none false n = zero-add n

-- what stands before the first word of a gap, where no word is open
blanks-gap : (n : ℕ) (h : History) → open_glyphs h ≡ [] → blanks h ≡ 0 → blanks (Gap n ∷ h) ≡ n
blanks-gap n h closed none = rw (closed, none) (counted-none (not (has_line_glyph h)) n)

module _ (h : History) (clear : IsClear h) where
  -- no word is open behind words
  open_glyphs-words : (ws : List Word) → open_glyphs (words_told ws h) ≡ []
  open_glyphs-words [] = is_empty-true (open_glyphs h) (not-false (is_empty (open_glyphs h)) clear.no_open_word)
  open_glyphs-words (w ∷ ws) = refl

  -- what is in force stays
  pub settings_after-words : (ws : List Word) → settings_after (words_told ws h) ≡ settings_after h
  settings_after-words [] = refl
  settings_after-words (w ∷ ws) =
      settings_after-told (reverse w.glyphs) (Gap w.gap ∷ words_told ws h) ∙ settings_after-words ws

  -- words break nothing
  pub until_break-words : (ws : List Word) → until_break (words_told ws h) ≡ until_break h
  until_break-words [] = refl
  until_break-words (w ∷ ws) = until_break-glyphs (Gap w.gap ∷ words_told ws h) (reverse w.glyphs) ∙ until_break-words ws

  -- no blanks stand behind words
  blanks-words : (ws : List Word) → All (IsWordUnder (settings_after h)) ws → blanks (words_told ws h) ≡ 0
  blanks-words [] each = clear.no_blanks
  blanks-words (w ∷ ws) each =
      let here = All-head (IsWordUnder (settings_after h)) w ws each in
      rw (has_open_word-word w.glyphs (Gap w.gap ∷ words_told ws h) here.some (open_glyphs-words ws)) refl

  -- no indent is pending behind words if none was before them
  temporary_indent-words : temporary_indent h ≡ None → (ws : List Word) → temporary_indent (words_told ws h) ≡ None
  temporary_indent-words none [] = none
  temporary_indent-words none (w ∷ ws) =
      let told = glyphs_told w.glyphs (Gap w.gap ∷ words_told ws h) in
      let before : temporary_indent told ≡ None =
      temporary_indent-told (reverse w.glyphs) (Gap w.gap ∷ words_told ws h) ∙ temporary_indent-words none ws in
      cond_both (has_open_word told && begins_line (pending_line told) (open_word told)) None (temporary_indent told)
      (λ t. t ≡ None) (λ _. refl) (λ _. before)

  -- they are the words
  pub words-words : temporary_indent h ≡ None → (ws : List Word) → All (IsWordUnder (settings_after h)) ws
      → words (words_told ws h) ≡ ws
  words-words none [] each = clear.no_words
  words-words none (w ∷ ws) each =
      let here = All-head (IsWordUnder (settings_after h)) w ws each in
      let others = All-tail (IsWordUnder (settings_after h)) w ws each in
      let before = Gap w.gap ∷ words_told ws h in
      let blanks_before : blanks before ≡ w.gap = blanks-gap w.gap (words_told ws h) (open_glyphs-words ws) (blanks-words ws others) in
      let gap : begun_gap (blanks before) (last_word_glyphs before) ≡ w.gap =
      ap (λ n. begun_gap n (last_word_glyphs before)) blanks_before ∙ begun_gap-same w.gap (last_word_glyphs before) here.gap in
      let under : settings_after before ≡ w.under = settings_after-words ws ∙ sym here.under in
      let word : ℕ → Settings → ℕ → Word = λ n s i. record { glyphs = w.glyphs; gap = n; under = s; indent = i } in
      let by_none : indent_by (temporary_indent before) (settings_after before) ≡ w.indent =
      ap (λ t. indent_by t (settings_after before)) (temporary_indent-words none ws)
      ∙ ap (λ s. s.indent) (settings_after-words ws) ∙ sym here.indent in
      words-word w.glyphs before here.some (open_glyphs-words ws)
      ∙ ap (λ i. word (begun_gap (blanks before) (last_word_glyphs before)) (settings_after before) i ∷ words before) by_none
      ∙ ap (λ n. word n (settings_after before) w.indent ∷ words before) gap
      ∙ ap (λ s. word w.gap s w.indent ∷ words before) under
      ∙ ap (λ vs. w ∷ vs) (words-words none ws others)

-- a word end where this is in force leaves words that end under it
pub under-word_end : (s : Settings) (h : History) → settings_after h ≡ s → All (λ w. w.under ≡ s) (words h)
    → All (λ w. w.under ≡ s) (words (WordEnd ∷ h))
under-word_end s h same under =
    elim (cases_Bool (has_open_word h)) [
      | inl is_open ↦ rw is_open (All-cons (λ w. w.under ≡ s) (open_word h) (words h) same under)
      | inr closed ↦ rw closed under
    ]

-- where words are measured, no line is to be centred, so a text line more counts none
none_centred : (filling : Bool) (n : ℕ) → (filling && n == 0) ≡ true → n - 1 ≡ n
none_centred true n measured = omega (arith, eqb-true n 0 measured)
none_centred false n measured = cc

counted-measured : (s : Settings) → fills s ≡ true → counted s ≡ s
counted-measured s measured = ap (λ n. record s { centring = n }) (none_centred s.filling s.centring measured)

module _ (h : History) (measured : fills (settings_after h) ≡ true) where
  -- a text changes nothing of what is in force
  pub settings_after-text : (text : List Event) → All IsOfText text → settings_after (text ++ h) ≡ settings_after h
  settings_after-text [] each = refl
  settings_after-text (Set p ∷ text) each = absurd (All-head IsOfText (Set p) text each)
  settings_after-text (LineEnd ∷ text) each =
      ap counted (settings_after-text text (All-tail IsOfText LineEnd text each)) ∙ counted-measured (settings_after h) measured
  settings_after-text (e ∷ text) each = settings_after-text text (All-tail IsOfText e text each)

  -- where words are measured it breaks nothing
  pub until_break-text : (text : List Event) → All IsOfText text → until_break (text ++ h) ≡ until_break h
  until_break-text [] each = refl
  until_break-text (Break ∷ text) each = absurd (All-head IsOfText Break text each)
  until_break-text (LineEnd ∷ text) each =
      let others = All-tail IsOfText LineEnd text each in
      let filling : fills (settings_after (text ++ h)) ≡ true = ap fills (settings_after-text text others) ∙ measured in
      rw filling (until_break-text text others)
  until_break-text (e ∷ text) each = until_break-text text (All-tail IsOfText e text each)
