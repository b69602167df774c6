-- What a history says behind glyphs that were told.
use Rattle.std.proofs.Common.{◌≡◌, true, false, not, List, [], ◌∷◌, ◌++◌, map, reverse, refl, sym, ap, ◌∙◌, inl, inr, true≢false, append-nil}
use Rattle.std.proofs.lemmas.Bool.{cases_Bool}
use Rattle.std.proofs.lemmas.List.{reverse-reverse}
use Rattle.page_model.specs.declared.glyph.Glyph.{Glyph}
use Rattle.page_model.specs.declared.event.Event.TheVariants.{Print, WordEnd}
use Rattle.page_model.specs.Events.{History, settings_after}
use Rattle.page_model.specs.Fitting.{Word}
use Rattle.page_model.specs.Words.{is_empty, open_glyphs, has_open_word, last_word_glyphs, begun_gap, blanks, open_word, words, temporary_indent, indent_by}
use Rattle.page_model.specs.Telling.{glyphs_told}
use Rattle.roff_lines.proofs.PendingLine.{is_empty-true}

-- they are open
pub open_glyphs-told : (gs : List Glyph) (h : History) → open_glyphs (map Print gs ++ h) ≡ gs ++ open_glyphs h
open_glyphs-told [] h = refl
open_glyphs-told (g ∷ gs) h = ap (λ xs. g ∷ xs) (open_glyphs-told gs h)

-- what is in force stays
pub settings_after-told : (gs : List Glyph) (h : History) → settings_after (map Print gs ++ h) ≡ settings_after h
settings_after-told [] h = refl
settings_after-told (g ∷ gs) h = settings_after-told gs h

-- the word has the gap that it begins with
pub blanks-told : (gs : List Glyph) (h : History) → is_empty gs ≡ false → has_open_word h ≡ false
    → blanks (map Print gs ++ h) ≡ begun_gap (blanks h) (last_word_glyphs h)
blanks-told [] h some closed = absurd (true≢false some)
blanks-told (g ∷ []) h some closed = rw closed refl
blanks-told (g ∷ f ∷ gs) h some closed = blanks-told (f ∷ gs) h refl closed

-- the words before it stay
pub words-told : (gs : List Glyph) (h : History) → words (map Print gs ++ h) ≡ words h
words-told [] h = refl
words-told (g ∷ gs) h = words-told gs h

-- and the indent that is pending
pub temporary_indent-told : (gs : List Glyph) (h : History) → temporary_indent (map Print gs ++ h) ≡ temporary_indent h
temporary_indent-told [] h = refl
temporary_indent-told (g ∷ gs) h = temporary_indent-told gs h

-- the word of glyphs that are told where none is open
abbrev pub told_word : List Glyph → History → Word
told_word glyphs h = record {
  glyphs = glyphs;
  gap = begun_gap (blanks h) (last_word_glyphs h);
  under = settings_after h;
  indent = indent_by (temporary_indent h) (settings_after h);
}

-- a list is empty only where its reverse is
is_empty-reverse : {A : Type 0} (xs : List A) → is_empty xs ≡ false → is_empty (reverse xs) ≡ false
is_empty-reverse xs some =
    elim (cases_Bool (is_empty (reverse xs))) [
      | inl none ↦
          let nothing : xs ≡ [] = sym (reverse-reverse xs) ∙ ap reverse (is_empty-true (reverse xs) none) in
          absurd (true≢false (sym (ap is_empty nothing) ∙ some))
      | inr e ↦ e
    ]

-- the word of glyphs that are told where none is open
module _ (glyphs : List Glyph) (h : History) (some : is_empty glyphs ≡ false) (closed : open_glyphs h ≡ []) where
  open_glyphs-word : open_glyphs (glyphs_told glyphs h) ≡ reverse glyphs
  open_glyphs-word = open_glyphs-told (reverse glyphs) h ∙ ap (λ gs. reverse glyphs ++ gs) closed ∙ append-nil (reverse glyphs)

  -- it is open
  pub has_open_word-word : has_open_word (glyphs_told glyphs h) ≡ true
  has_open_word-word = rw open_glyphs-word (ap not (is_empty-reverse glyphs some))

  -- it has these glyphs, the gap before it, and what is in force
  pub open_word-word : open_word (glyphs_told glyphs h) ≡ told_word glyphs h
  open_word-word =
      let back = reverse glyphs in
      let gap = blanks-told back h (is_empty-reverse glyphs some) (ap (λ gs. not (is_empty gs)) closed) in
      rw (open_glyphs-word, reverse-reverse glyphs, gap, settings_after-told back h, temporary_indent-told back h) refl

  -- so it is one word more, as it ends
  pub words-word : words (WordEnd ∷ glyphs_told glyphs h) ≡ told_word glyphs h ∷ words h
  words-word = rw (has_open_word-word, open_word-word, words-told (reverse glyphs) h) refl
