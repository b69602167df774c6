-- A history with a field told behind it: a motion and the field's glyphs, of one word.
use Rattle.std.proofs.Common.{◌≡◌, ℕ, ◌+◌, Bool, true, false, not, ◌&&◌, zero-add, nat_le, List, [], ◌∷◌, ◌++◌, map, reverse, length, replicate, refl, sym, ap, ◌∙◌, arith, append_assoc, if◌then◌else◌, ◌==◌, eqb-true, append-nil, length-append}
use Rattle.std.specs.List.{flat_map, sum_by}
use Rattle.std.proofs.lemmas.Bool.{cond_both}
use Rattle.std.proofs.lemmas.Bool.Decides.{nat_tests}
use Rattle.std.proofs.lemmas.Grind.{flat_map-append}
use Rattle.std.proofs.lemmas.List.{length-replicate, reverse-append}
use Rattle.std.proofs.lemmas.List.Sums.{sum_by-cons, sum_by-append}
use Rattle.std.proofs.lemmas.List.Folds.{sum_by-replicate}
use Rattle.page_model.specs.declared.glyph.Glyph.{Glyph}
use Rattle.page_model.specs.declared.glyph.Glyph.TheVariants.{Printed, Blanks}
use Rattle.page_model.specs.Glyphs.{byte_width, glyph_blank, glyph_text, glyph_width, text_width}
use Rattle.page_model.specs.declared.event.Event.TheVariants.{Print}
use Rattle.page_model.specs.Events.{History, settings_after, stops_after, is_interrupted}
use Rattle.page_model.specs.Places.{has_line_glyph, moved, input_place}
use Rattle.page_model.specs.Fitting.{Word, word_text, line_text, last_line}
use Rattle.page_model.specs.Words.{is_empty, open_glyphs, has_open_word, last_word_glyphs, ends_sentence, begun_gap, blanks, paragraph, words, temporary_indent, open_word}
use Rattle.page_model.specs.Lines.{pending_line, pending_length}
use Rattle.page_model.specs.Paragraphs.{finished_lines, until_break}
use Rattle.page_model.specs.Fields.{Field, field_text, field_told, with_gap, with_glyph}
use Rattle.roff_lines.proofs.Telling.{open_glyphs-told, settings_after-told}

module _ (h : History) where
  -- glyphs behind a history change nothing of tab stops, of an interruption, of lines and of words
  pub stops_after-glyphs : (gs : List Glyph) → stops_after (map Print gs ++ h) ≡ stops_after h
  stops_after-glyphs [] = refl
  stops_after-glyphs (g ∷ gs) = stops_after-glyphs gs

  pub is_interrupted-glyphs : (gs : List Glyph) → is_interrupted (map Print gs ++ h) ≡ is_interrupted h
  is_interrupted-glyphs [] = refl
  is_interrupted-glyphs (g ∷ gs) = is_interrupted-glyphs gs

  pub finished_lines-glyphs : (gs : List Glyph) → finished_lines (map Print gs ++ h) ≡ finished_lines h
  finished_lines-glyphs [] = refl
  finished_lines-glyphs (g ∷ gs) = finished_lines-glyphs gs

  pub until_break-glyphs : (gs : List Glyph) → until_break (map Print gs ++ h) ≡ until_break h
  until_break-glyphs [] = refl
  until_break-glyphs (g ∷ gs) = until_break-glyphs gs

  pub paragraph-glyphs : (gs : List Glyph) → paragraph (map Print gs ++ h) ≡ paragraph h
  paragraph-glyphs [] = refl
  paragraph-glyphs (g ∷ gs) = paragraph-glyphs gs

-- glyphs behind a glyph
module _ (g : Glyph) (h : History) where
  -- one stands on the line
  pub has_line_glyph-glyphs : (gs : List Glyph) → has_line_glyph (map Print gs ++ Print g ∷ h) ≡ true
  has_line_glyph-glyphs [] = refl
  has_line_glyph-glyphs (f ∷ gs) = refl

  -- a word is open
  pub has_open_word-glyphs : (gs : List Glyph) → has_open_word (map Print gs ++ Print g ∷ h) ≡ true
  has_open_word-glyphs [] = refl
  has_open_word-glyphs (f ∷ gs) = refl

  -- they are of the last word
  pub last_word_glyphs-glyphs : (gs : List Glyph)
      → last_word_glyphs (map Print gs ++ Print g ∷ h) ≡ gs ++ g ∷ (if has_open_word h then last_word_glyphs h else [])
  last_word_glyphs-glyphs [] = refl
  last_word_glyphs-glyphs (f ∷ gs) = rw (has_open_word-glyphs gs) (ap (λ l. f ∷ l) (last_word_glyphs-glyphs gs))

  -- the place moves by their widths
  pub input_place-glyphs : (gs : List Glyph)
      → input_place (map Print gs ++ Print g ∷ h) ≡ moved (sum_by glyph_width gs) (input_place (Print g ∷ h))
  input_place-glyphs [] = omega arith
  input_place-glyphs (f ∷ gs) =
      ap (moved (glyph_width f)) (input_place-glyphs gs) ∙ omega (arith, sum_by-cons glyph_width f gs)

  -- the word keeps the gap that it began with
  pub blanks-glyphs : (gs : List Glyph) → blanks (map Print gs ++ Print g ∷ h) ≡ blanks (Print g ∷ h)
  blanks-glyphs [] = refl
  blanks-glyphs (f ∷ gs) = rw (has_open_word-glyphs gs) (blanks-glyphs gs)

module _ (m : ℕ) (f : Field) (h : History) where
  -- what is in force, tab stops, an interruption, lines, words and a pending indent are as they were
  pub settings_after-field : settings_after (field_told m f h) ≡ settings_after h
  settings_after-field = settings_after-told f.glyphs (Print (Blanks m) ∷ h)

  pub stops_after-field : stops_after (field_told m f h) ≡ stops_after h
  stops_after-field = stops_after-glyphs (Print (Blanks m) ∷ h) f.glyphs

  pub is_interrupted-field : is_interrupted (field_told m f h) ≡ is_interrupted h
  is_interrupted-field = is_interrupted-glyphs (Print (Blanks m) ∷ h) f.glyphs

  pub finished_lines-field : finished_lines (field_told m f h) ≡ finished_lines h
  finished_lines-field = finished_lines-glyphs (Print (Blanks m) ∷ h) f.glyphs

  pub until_break-field : until_break (field_told m f h) ≡ until_break h
  until_break-field = until_break-glyphs (Print (Blanks m) ∷ h) f.glyphs

  pub paragraph-field : paragraph (field_told m f h) ≡ paragraph h
  paragraph-field = paragraph-glyphs (Print (Blanks m) ∷ h) f.glyphs

  pub words-field : words (field_told m f h) ≡ words h
  words-field = ap (λ p. p.words) paragraph-field

  pub temporary_indent-field : temporary_indent (field_told m f h) ≡ temporary_indent h
  temporary_indent-field = ap (λ p. p.temporary_indent) paragraph-field

  -- a glyph stands on the line, and a word is open: the motion and the field's glyphs are in it
  pub has_line_glyph-field : has_line_glyph (field_told m f h) ≡ true
  has_line_glyph-field = has_line_glyph-glyphs (Blanks m) h f.glyphs

  pub has_open_word-field : has_open_word (field_told m f h) ≡ true
  has_open_word-field = has_open_word-glyphs (Blanks m) h f.glyphs

  pub open_glyphs-field : open_glyphs (field_told m f h) ≡ f.glyphs ++ Blanks m ∷ open_glyphs h
  open_glyphs-field = open_glyphs-told f.glyphs (Print (Blanks m) ∷ h)

  pub last_word_glyphs-field
      : last_word_glyphs (field_told m f h) ≡ f.glyphs ++ Blanks m ∷ (if has_open_word h then last_word_glyphs h else [])
  last_word_glyphs-field = last_word_glyphs-glyphs (Blanks m) h f.glyphs

  -- the word has the gap that it began with, or begins with: the same for any motion and glyphs
  pub blanks-field : blanks (field_told m f h) ≡ (if has_open_word h then blanks h else begun_gap (blanks h) (last_word_glyphs h))
  blanks-field = rw (has_open_word-glyphs (Blanks m) h f.glyphs) (blanks-glyphs (Blanks m) h f.glyphs)

-- whether a sentence ends with glyphs behind blanks: what stands before the blanks doesn't count
pub ends_sentence-behind_blanks : (gs before : List Glyph) (m : ℕ)
    → ends_sentence (gs ++ Blanks m ∷ before) ≡ ends_sentence gs
ends_sentence-behind_blanks [] before m = refl
ends_sentence-behind_blanks (g ∷ gs) before m = rw (ends_sentence-behind_blanks gs before m) refl

-- so it ends with a field's last word where it ends with the field's glyphs
pub ends_sentence-field : (m : ℕ) (f : Field) (h : History)
    → ends_sentence (last_word_glyphs (field_told m f h)) ≡ ends_sentence f.glyphs
ends_sentence-field m f h =
    ap ends_sentence (last_word_glyphs-field m f h)
    ∙ ends_sentence-behind_blanks f.glyphs (if has_open_word h then last_word_glyphs h else []) m

-- the text of a glyph is as wide as the glyph
pub text_width-glyph : (g : Glyph) → text_width (glyph_text g) ≡ glyph_width g
text_width-glyph (Printed b) =
    cond_both (nat_le b 32) glyph_blank b (λ c. 0 + byte_width c ≡ byte_width b)
    (λ low. let below : nat_le 128 b ≡ false = grind (arith, nat_tests, low) in rw below refl)
    (λ _. zero-add (byte_width b))
text_width-glyph (Blanks n) = omega (arith, sum_by-replicate byte_width n glyph_blank)

-- a text and a glyph's text behind it
text_of-glyphs : (g : Glyph) (gs : List Glyph)
    → flat_map glyph_text (reverse (g ∷ gs)) ≡ flat_map glyph_text (reverse gs) ++ glyph_text g
text_of-glyphs g gs =
    ap (flat_map glyph_text) (reverse-append (g ∷ []) gs)
    ∙ flat_map-append glyph_text (reverse gs) (g ∷ [])
    ∙ ap (λ t. flat_map glyph_text (reverse gs) ++ t) (append-nil (glyph_text g))

-- the text of glyphs is as wide as they are
pub text_width-glyphs : (gs : List Glyph) → text_width (flat_map glyph_text (reverse gs)) ≡ sum_by glyph_width gs
text_width-glyphs [] = refl
text_width-glyphs (g ∷ gs) =
    let behind : ℕ = text_width (flat_map glyph_text (reverse gs)) in
    let text : text_width (flat_map glyph_text (reverse (g ∷ gs))) ≡ behind + text_width (glyph_text g) =
    ap text_width (text_of-glyphs g gs) ∙ sum_by-append byte_width (flat_map glyph_text (reverse gs)) (glyph_text g) in
    omega (arith, text, text_width-glyph g, text_width-glyphs gs, sum_by-cons glyph_width g gs)

-- the place: it moves by the motion, by the field's text and by the gap behind that
pub input_place-field : (m : ℕ) (f : Field) (h : History)
    → input_place (field_told m f h) ≡ moved f.gap (moved (text_width (field_text f)) (moved m (input_place h)))
input_place-field m f h =
    let glyphs : input_place (map Print f.glyphs ++ Print (Blanks m) ∷ h) ≡ moved (sum_by glyph_width f.glyphs) (moved m (input_place h)) =
    input_place-glyphs (Blanks m) h f.glyphs in
    rw (has_line_glyph-glyphs (Blanks m) h f.glyphs)
    (ap (moved f.gap) (glyphs ∙ ap (λ n. moved n (moved m (input_place h))) (sym (text_width-glyphs f.glyphs))))

-- so a motion moves it behind the field as it does before that
pub input_place-motion : (m : ℕ) (f : Field) (h : History)
    → input_place (field_told m f h) ≡ moved m (input_place (field_told 0 f h))
input_place-motion m f h =
    input_place-field m f h ∙ omega (arith, input_place-field 0 f h)

-- a field's text with a glyph more: a gap in front of it is of blanks of a glyph
pub field_text-glyph : (g : Glyph) (f : Field)
    → field_text (with_glyph g f) ≡ field_text f ++ (replicate f.gap glyph_blank ++ glyph_text g)
field_text-glyph g f =
    let behind : List ℕ = field_text f in
    text_of-glyphs g (if f.gap == 0 then f.glyphs else Blanks f.gap ∷ f.glyphs)
    ∙ cond_both (f.gap == 0) f.glyphs (Blanks f.gap ∷ f.glyphs)
    (λ gs. flat_map glyph_text (reverse gs) ++ glyph_text g ≡ behind ++ (replicate f.gap glyph_blank ++ glyph_text g))
    (λ none. rw (eqb-true f.gap 0 none) refl)
    (λ some. ap (λ t. t ++ glyph_text g) (text_of-glyphs (Blanks f.gap) f.glyphs)
    ∙ append_assoc behind (replicate f.gap glyph_blank) (glyph_text g))

-- its columns, and its length
pub text_width-field_glyph : (g : Glyph) (f : Field)
    → text_width (field_text (with_glyph g f)) ≡ text_width (field_text f) + f.gap + glyph_width g
text_width-field_glyph g f =
    let blank : List ℕ = replicate f.gap glyph_blank in
    let text : text_width (field_text (with_glyph g f)) ≡ text_width (field_text f) + text_width (blank ++ glyph_text g) =
    ap text_width (field_text-glyph g f) ∙ sum_by-append byte_width (field_text f) (blank ++ glyph_text g) in
    omega (arith, text, sum_by-append byte_width blank (glyph_text g), text_width-glyph (Blanks f.gap), text_width-glyph g)

pub length-field_glyph : (g : Glyph) (f : Field)
    → length (field_text (with_glyph g f)) ≡ length (field_text f) + f.gap + length (glyph_text g)
length-field_glyph g f =
    let blank : List ℕ = replicate f.gap glyph_blank in
    let text : length (field_text (with_glyph g f)) ≡ length (field_text f) + length (blank ++ glyph_text g) =
    ap length (field_text-glyph g f) ∙ length-append (field_text f) (blank ++ glyph_text g) in
    let gap : length blank ≡ f.gap = length-replicate f.gap glyph_blank in
    omega (arith, text, length-append blank (glyph_text g), gap)

module _ (m : ℕ) (f : Field) (h : History) where
  -- the open word's text: what it had, the blanks of the motion and the field's text
  pub word_text-field : word_text (open_word (field_told m f h)) ≡ word_text (open_word h) ++ (replicate m glyph_blank ++ field_text f)
  word_text-field =
      let before : List Glyph = reverse (open_glyphs h) in
      let blank : List ℕ = replicate m glyph_blank in
      let turned : reverse (f.glyphs ++ Blanks m ∷ open_glyphs h) ≡ reverse (Blanks m ∷ open_glyphs h) ++ reverse f.glyphs =
      reverse-append f.glyphs (Blanks m ∷ open_glyphs h) in
      ap (λ gs. flat_map glyph_text (reverse gs)) (open_glyphs-field m f h)
      ∙ ap (flat_map glyph_text) turned
      ∙ flat_map-append glyph_text (reverse (Blanks m ∷ open_glyphs h)) (reverse f.glyphs)
      ∙ ap (λ t. t ++ field_text f) (text_of-glyphs (Blanks m) (open_glyphs h))
      ∙ append_assoc (word_text (open_word h)) blank (field_text f)

  pub length-word_text-field
      : length (word_text (open_word (field_told m f h))) ≡ length (word_text (open_word h)) + m + length (field_text f)
  length-word_text-field =
      let blank : List ℕ = replicate m glyph_blank in
      let gap : length blank ≡ m = length-replicate m glyph_blank in
      let text : length (word_text (open_word (field_told m f h))) ≡ length (word_text (open_word h)) + length (blank ++ field_text f) =
      ap length word_text-field ∙ length-append (word_text (open_word h)) (blank ++ field_text f) in
      omega (arith, text, length-append blank (field_text f), gap)

  -- so the pending line's length
  pub pending_length-field : pending_length (field_told m f h)
      ≡ length (line_text (pending_line h))
      + (if not (is_empty (words h)) then (if has_open_word h then blanks h else begun_gap (blanks h) (last_word_glyphs h)) else 0)
      + (length (word_text (open_word h)) + m + length (field_text f))
  pending_length-field =
      let begun : ℕ = if has_open_word h then blanks h else begun_gap (blanks h) (last_word_glyphs h) in
      let told = field_told m f h in
      let in_bytes : List Word → Bool → ℕ → ℕ → ℕ =
      λ ws is_open gap word. length (line_text (last_line ws)) + (if is_open && not (is_empty ws) then gap else 0) + word in
      let word : ℕ = length (word_text (open_word told)) in
      ap (λ ws. in_bytes ws (has_open_word told) (blanks told) word) (words-field m f h)
      ∙ ap (λ o. in_bytes (words h) o (blanks told) word) (has_open_word-field m f h)
      ∙ ap (λ gap. in_bytes (words h) true gap word) (blanks-field m f h)
      ∙ ap (in_bytes (words h) true begun) length-word_text-field

-- it grows by the motion
pub pending_length-motion : (m : ℕ) (f : Field) (h : History)
    → pending_length (field_told m f h) ≡ pending_length (field_told 0 f h) + m
pending_length-motion m f h = omega (arith, pending_length-field m f h, pending_length-field 0 f h)

-- a field with a glyph more, or a gap, told behind a history
module _ (m : ℕ) (g : Glyph) (f : Field) (h : History) where
  -- the pending line has their bytes more
  pub pending_length-field_glyph
      : pending_length (field_told m (with_glyph g f) h) ≡ pending_length (field_told m f h) + f.gap + length (glyph_text g)
  pending_length-field_glyph =
      omega (arith, pending_length-field m (with_glyph g f) h, pending_length-field m f h, length-field_glyph g f)

module _ (m n : ℕ) (f : Field) (h : History) where
  pub pending_length-field_gap : pending_length (field_told m (with_gap n f) h) ≡ pending_length (field_told m f h)
  pending_length-field_gap = pending_length-field m (with_gap n f) h ∙ sym (pending_length-field m f h)
