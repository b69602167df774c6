-- An interruption of a line of the input changes nothing of its word, in a plain history.
use Rattle.std.proofs.Common.{◌≡◌, Bool, true, false, not, ◌&&◌, Option, Some, None, List, [], ◌∷◌, refl, ap, ◌∙◌, if◌then◌else◌}
use Rattle.std.specs.List.{cons_option}
use Rattle.page_model.specs.declared.settings.Settings.{Settings}
use Rattle.page_model.specs.Glyphs.{glyph_width}
use Rattle.page_model.specs.Settings.{settings_with, counted, fills}
use Rattle.page_model.specs.declared.event.Event.{Event}
use Rattle.page_model.specs.declared.event.Event.TheVariants.{Print, Tab, FieldEnd, WordEnd, Gap, LineEnd, Count, Break, Interrupt, Resume, Set}
use Rattle.page_model.specs.Events.{History, settings_after, stops_after}
use Rattle.page_model.specs.TabStops.{stops_with}
use Rattle.page_model.specs.Places.{has_line_glyph, moved, input_place}
use Rattle.page_model.specs.Fitting.{Word, fits, last_line}
use Rattle.page_model.specs.Words.{is_empty, has_open_word, open_glyphs, last_word_glyphs, blanks, paragraph, words, temporary_indent, open_word}
use Rattle.page_model.specs.Lines.{Finished, empty_line, line_laid_out, finished_in}
use Rattle.page_model.specs.Paragraphs.{finished_lines}
use Rattle.law_lines.specs.Interruptions.{uninterrupted}

-- the line that the end of a word finishes, told whether it is open, the words before it, itself, and what is in force
abbrev finished_by_word : Bool → List Word → Word → Settings → Option Finished
finished_by_word some ws w s =
    if some && not (is_empty ws) && not (fits (last_line ws) w) then Some (line_laid_out s true (last_line ws)) else None

-- the line that the end of a line of the input finishes
abbrev finished_by_line : List Word → Settings → Option Finished
finished_by_line ws s =
    if fills s then None
    else if is_empty ws then (if s.filling then None else Some (empty_line s))
    else Some (line_laid_out s false (last_line ws))

-- the line that a break finishes
abbrev finished_by_break : List Word → Settings → Option Finished
finished_by_break ws s = if is_empty ws then None else Some (line_laid_out s false (last_line ws))

-- two histories that say the same of all that later events look at
pub record Alike (h i : History) : Type 0 where
  pub settings : settings_after h ≡ settings_after i
  pub stops : stops_after h ≡ stops_after i
  pub has_glyph : has_line_glyph h ≡ has_line_glyph i
  pub place : input_place h ≡ input_place i
  pub word : open_glyphs h ≡ open_glyphs i
  pub on_line : last_word_glyphs h ≡ last_word_glyphs i
  pub blanks : blanks h ≡ blanks i
  pub paragraph : paragraph h ≡ paragraph i
  pub lines : finished_lines h ≡ finished_lines i

module _ (h i : History) (s : Alike h i) where
  -- behind an event the same is in force
  settings-with : (e : Event) → settings_after (e ∷ h) ≡ settings_after (e ∷ i)
  settings-with (Print g) = s.settings
  settings-with Tab = s.settings
  settings-with FieldEnd = s.settings
  settings-with WordEnd = s.settings
  settings-with (Gap n) = s.settings
  settings-with LineEnd = ap counted s.settings
  settings-with Count = s.settings
  settings-with Break = s.settings
  settings-with Interrupt = s.settings
  settings-with Resume = s.settings
  settings-with (Set p) = ap (settings_with p) s.settings

  -- so are the tab stops
  stops-with : (e : Event) → stops_after (e ∷ h) ≡ stops_after (e ∷ i)
  stops-with (Print g) = s.stops
  stops-with Tab = s.stops
  stops-with FieldEnd = s.stops
  stops-with WordEnd = s.stops
  stops-with (Gap n) = s.stops
  stops-with LineEnd = s.stops
  stops-with Count = s.stops
  stops-with Break = s.stops
  stops-with Interrupt = s.stops
  stops-with Resume = s.stops
  stops-with (Set p) = ap (stops_with p) s.stops

  -- whether a glyph stands on the line
  has_glyph-with : (e : Event) → has_line_glyph (e ∷ h) ≡ has_line_glyph (e ∷ i)
  has_glyph-with (Print g) = refl
  has_glyph-with Tab = refl
  has_glyph-with FieldEnd = s.has_glyph
  has_glyph-with WordEnd = s.has_glyph
  has_glyph-with (Gap n) = s.has_glyph
  has_glyph-with LineEnd = refl
  has_glyph-with Count = s.has_glyph
  has_glyph-with Break = s.has_glyph
  has_glyph-with Interrupt = s.has_glyph
  has_glyph-with Resume = s.has_glyph
  has_glyph-with (Set p) = s.has_glyph

  -- the place
  place-with : (e : Event) → input_place (e ∷ h) ≡ input_place (e ∷ i)
  place-with (Print g) = ap (moved (glyph_width g)) s.place
  place-with Tab = rw (s.stops, s.place) refl
  place-with FieldEnd = s.place
  place-with WordEnd = s.place
  place-with (Gap n) = rw (s.has_glyph, s.place) refl
  place-with LineEnd = refl
  place-with Count = s.place
  place-with Break = s.place
  place-with Interrupt = s.place
  place-with Resume = s.place
  place-with (Set p) = s.place

  -- the open glyphs
  open-with : (e : Event) → open_glyphs (e ∷ h) ≡ open_glyphs (e ∷ i)
  open-with (Print g) = ap (λ gs. g ∷ gs) s.word
  open-with Tab = rw (s.stops, s.place, s.word) refl
  open-with FieldEnd = s.word
  open-with WordEnd = refl
  open-with (Gap n) = s.word
  open-with LineEnd = s.word
  open-with Count = s.word
  open-with Break = s.word
  open-with Interrupt = s.word
  open-with Resume = s.word
  open-with (Set p) = s.word

  -- the glyphs of the last word on the line
  on_line-with : (e : Event) → last_word_glyphs (e ∷ h) ≡ last_word_glyphs (e ∷ i)
  on_line-with (Print g) = rw (s.word, s.on_line) refl
  on_line-with Tab = rw (s.stops, s.place, s.word, s.on_line) refl
  on_line-with FieldEnd = s.on_line
  on_line-with WordEnd = s.on_line
  on_line-with (Gap n) = s.on_line
  on_line-with LineEnd = refl
  on_line-with Count = s.on_line
  on_line-with Break = s.on_line
  on_line-with Interrupt = s.on_line
  on_line-with Resume = s.on_line
  on_line-with (Set p) = s.on_line

  -- the blanks before the word
  blanks-with : (e : Event) → blanks (e ∷ h) ≡ blanks (e ∷ i)
  blanks-with (Print g) = rw (s.word, s.blanks, s.on_line) refl
  blanks-with Tab = rw (s.word, s.blanks, s.on_line) refl
  blanks-with FieldEnd = s.blanks
  blanks-with WordEnd = rw (s.word, s.blanks) refl
  blanks-with (Gap n) = rw (s.word, s.has_glyph, s.blanks) refl
  blanks-with LineEnd = rw (s.word, s.settings, s.has_glyph, s.on_line, s.blanks) refl
  blanks-with Count = s.blanks
  blanks-with Break = rw (s.word, s.blanks) refl
  blanks-with Interrupt = s.blanks
  blanks-with Resume = s.blanks
  blanks-with (Set p) = s.blanks

  -- the paragraph
  paragraph-with : (e : Event) → paragraph (e ∷ h) ≡ paragraph (e ∷ i)
  paragraph-with (Print g) = s.paragraph
  paragraph-with Tab = s.paragraph
  paragraph-with FieldEnd = s.paragraph
  paragraph-with WordEnd = rw (s.word, s.blanks, s.settings, s.paragraph) refl
  paragraph-with (Gap n) = s.paragraph
  paragraph-with LineEnd = rw (s.settings, s.paragraph) refl
  paragraph-with Count = s.paragraph
  paragraph-with Break = rw s.paragraph refl
  paragraph-with Interrupt = s.paragraph
  paragraph-with Resume = s.paragraph
  paragraph-with (Set p) = rw s.paragraph refl

  -- the words before the open one are the same
  words-same : words h ≡ words i
  words-same = ap (λ p. p.words) s.paragraph

  -- and the indent that is pending
  indent-same : temporary_indent h ≡ temporary_indent i
  indent-same = ap (λ p. p.temporary_indent) s.paragraph

  -- so is the open one
  pub word-same : open_word h ≡ open_word i
  word-same = rw (s.word, s.blanks, s.settings, indent-same) refl

  -- an event finishes the same line
  finished-with : (e : Event) → finished_in h e ≡ finished_in i e
  finished-with (Print g) = refl
  finished-with Tab = refl
  finished-with FieldEnd = refl
  finished-with WordEnd =
      ap (λ gs. finished_by_word (not (is_empty gs)) (words h) (open_word h) (settings_after h)) s.word
      ∙ ap (λ ws. finished_by_word (has_open_word i) ws (open_word h) (settings_after h)) words-same
      ∙ ap (λ w. finished_by_word (has_open_word i) (words i) w (settings_after h)) word-same
      ∙ ap (finished_by_word (has_open_word i) (words i) (open_word i)) s.settings
  finished-with (Gap n) = refl
  finished-with LineEnd =
      ap (λ ws. finished_by_line ws (settings_after h)) words-same ∙ ap (finished_by_line (words i)) s.settings
  finished-with Count = refl
  finished-with Break =
      ap (λ ws. finished_by_break ws (settings_after h)) words-same ∙ ap (finished_by_break (words i)) s.settings
  finished-with Interrupt = refl
  finished-with Resume = refl
  finished-with (Set p) = refl

  -- so it finishes the same lines
  lines-with : (e : Event) → finished_lines (e ∷ h) ≡ finished_lines (e ∷ i)
  lines-with e = ap (λ o. cons_option o (finished_lines h)) (finished-with e) ∙ ap (cons_option (finished_in i e)) s.lines

  -- so they say the same of all
  Alike-with : (e : Event) → Alike (e ∷ h) (e ∷ i)
  Alike-with e = record {
    settings = settings-with e;
    stops = stops-with e;
    has_glyph = has_glyph-with e;
    place = place-with e;
    word = open-with e;
    on_line = on_line-with e;
    blanks = blanks-with e;
    paragraph = paragraph-with e;
    lines = lines-with e;
  }

  -- a line that is interrupted is as it was
  Alike-interrupt : Alike (Interrupt ∷ h) i
  Alike-interrupt = record {
    settings = s.settings;
    stops = s.stops;
    has_glyph = s.has_glyph;
    place = s.place;
    word = s.word;
    on_line = s.on_line;
    blanks = s.blanks;
    paragraph = s.paragraph;
    lines = s.lines;
  }

  -- and so is one that goes on
  Alike-resume : Alike (Resume ∷ h) i
  Alike-resume = record {
    settings = s.settings;
    stops = s.stops;
    has_glyph = s.has_glyph;
    place = s.place;
    word = s.word;
    on_line = s.on_line;
    blanks = s.blanks;
    paragraph = s.paragraph;
    lines = s.lines;
  }

-- a history says what it says
Alike-itself : (h : History) → Alike h h
Alike-itself h = record {
  settings = refl;
  stops = refl;
  has_glyph = refl;
  place = refl;
  word = refl;
  on_line = refl;
  blanks = refl;
  paragraph = refl;
  lines = refl;
}

-- a history says the same without its interruptions
pub Alike-uninterrupted : (h : History) → Alike h (uninterrupted h)
Alike-uninterrupted [] = Alike-itself []
Alike-uninterrupted (Print g ∷ h) = Alike-with h (uninterrupted h) (Alike-uninterrupted h) (Print g)
Alike-uninterrupted (Tab ∷ h) = Alike-with h (uninterrupted h) (Alike-uninterrupted h) Tab
Alike-uninterrupted (FieldEnd ∷ h) = Alike-with h (uninterrupted h) (Alike-uninterrupted h) FieldEnd
Alike-uninterrupted (WordEnd ∷ h) = Alike-with h (uninterrupted h) (Alike-uninterrupted h) WordEnd
Alike-uninterrupted (Gap n ∷ h) = Alike-with h (uninterrupted h) (Alike-uninterrupted h) (Gap n)
Alike-uninterrupted (LineEnd ∷ h) = Alike-with h (uninterrupted h) (Alike-uninterrupted h) LineEnd
Alike-uninterrupted (Count ∷ h) = Alike-with h (uninterrupted h) (Alike-uninterrupted h) Count
Alike-uninterrupted (Break ∷ h) = Alike-with h (uninterrupted h) (Alike-uninterrupted h) Break
Alike-uninterrupted (Interrupt ∷ h) = Alike-interrupt h (uninterrupted h) (Alike-uninterrupted h)
Alike-uninterrupted (Resume ∷ h) = Alike-resume h (uninterrupted h) (Alike-uninterrupted h)
Alike-uninterrupted (Set p ∷ h) = Alike-with h (uninterrupted h) (Alike-uninterrupted h) (Set p)
