-- Laws of lines: gaps behind sentences, lines that are centred, an indent for one line, and blank lines behind lines (manual,
-- sections 4.1, 4.3 and 6). Of any history the words and glyphs are meant that are told without fields: in a field a word is open.
use Rattle.std.specs.Prelude.{◌≡◌, ℕ, ◌+◌, ◌-◌, ◌/◌, true, false, List, [], ◌∷◌, length, All, Some, None, IfSome, if◌then◌else◌, ◌==◌}
use Rattle.page_model.specs.Behind.{finished, has_line_glyph}
use Rattle.page_model.specs.Events.{History, settings_after}
use Rattle.page_model.specs.Fields.{plain}
use Rattle.page_model.specs.declared.event.Event.TheVariants.{LineEnd, Count, Print, Set, WordEnd}
use Rattle.page_model.specs.Fitting.{Word, line_indent, line_text}
use Rattle.page_model.specs.Glyphs.{gaps_in}
use Rattle.page_model.specs.Lines.{Finished, free_columns, pending_line}
use Rattle.page_model.specs.Settings.{fills}
use Rattle.page_model.specs.Telling.{bytes_told, glyphs_told, text_line}
use Rattle.page_model.specs.Words.{ends_sentence, has_open_word, is_closer, is_empty, is_sentence_mark, last_word_glyphs, open_word, temporary_indent, words}
use Rattle.page_model.specs.declared.event.Event.{Event}
use Rattle.page_model.specs.declared.glyph.Glyph.{Glyph}
use Rattle.page_model.specs.declared.glyph.Glyph.TheVariants.{Printed}
use Rattle.page_model.specs.declared.settings.Param.TheVariants.{Centring, Spacing, TemporaryIndent}
use Rattle.page_model.specs.declared.settings.Settings.{Settings}

-- Behind a line of the input with a glyph on it, where words are measured, the first word of the next line has a gap of two blanks
-- in front where a sentence ends with that line, and of one where none does.
abbrev pub SentencesAreTwoBlanksApart : Type 0
SentencesAreTwoBlanksApart =
    (h : History) (glyphs : List Glyph) → fills (settings_after h) ≡ true → has_line_glyph h ≡ true → has_open_word (plain h) ≡ false →
    is_empty glyphs ≡ false →
    (open_word (plain (glyphs_told glyphs (Count ∷ LineEnd ∷ h)))).gap ≡ (if ends_sentence (last_word_glyphs (plain h)) then 2 else 1)

-- a sentence ends behind a mark and any closers behind it
abbrev pub SentencesEndAtTheirMarks : Type 0
SentencesEndAtTheirMarks =
    (h : History) (mark : ℕ) (closers : List ℕ) → is_sentence_mark (Printed mark) ≡ true →
    All (λ b. is_closer (Printed b) ≡ true) closers → ends_sentence (last_word_glyphs (plain (bytes_told (mark ∷ closers) h))) ≡ true

-- none ends behind closers alone, which a gap or a break parts from the word before them
abbrev pub ClosersApartEndNoSentence : Type 0
ClosersApartEndNoSentence =
    (h : History) (closer : ℕ) (closers : List ℕ) → has_open_word (plain h) ≡ false → is_closer (Printed closer) ≡ true →
    All (λ b. is_closer (Printed b) ≡ true) closers → ends_sentence (last_word_glyphs (plain (bytes_told (closer ∷ closers) h))) ≡ false

-- and none behind another glyph
abbrev pub NoOtherGlyphEndsASentence : Type 0
NoOtherGlyphEndsASentence =
    (h : History) (glyph : Glyph) → is_sentence_mark glyph ≡ false → is_closer glyph ≡ false →
    ends_sentence (last_word_glyphs (plain (Print glyph ∷ h))) ≡ false

-- a line of the input that is centred is a line by itself, with half of the columns that it leaves free in front, behind its indent
abbrev pub CentredLinesStandInTheMiddle : Type 0
CentredLinesStandInTheMiddle =
    (h : History) → ((settings_after h).centring == 0) ≡ false → is_empty (words (plain h)) ≡ false →
    let s : Settings = settings_after h in
    let line : List Word = pending_line (plain h) in
    let text : List ℕ = line_text line in
    finished h LineEnd
    ≡ Some (record {
      text = text;
      lead = line_indent line + free_columns s (line_indent line) text / 2;
      spare = 0;
      gaps = gaps_in text;
      after = s.spacing - 1;
    })

-- a history, and these text lines behind it, one after another
abbrev pub lines_told : List (List ℕ) → History → History
lines_told [] h = h
lines_told (line ∷ lines) h = lines_told lines (text_line line h)

-- as many text lines are centred as are asked for: behind some of them so many fewer are, and all else in force stays
abbrev pub SoManyLinesAreCentred : Type 0
SoManyLinesAreCentred =
    (h : History) (n : ℕ) (lines : List (List ℕ)) →
    settings_after (lines_told lines (Set (Centring n) ∷ h)) ≡ record (settings_after h) { centring = n - length lines }

-- an indent for one line is that of the line that the next word begins, and of no other
abbrev pub TemporaryIndentsAreForOneLine : Type 0
TemporaryIndentsAreForOneLine =
    (h : History) (n : ℕ) (glyphs : List Glyph) → words (plain h) ≡ [] → has_open_word (plain h) ≡ false → is_empty glyphs ≡ false →
    let told : History = plain (WordEnd ∷ glyphs_told glyphs (Set (TemporaryIndent n) ∷ h)) in
    (line_indent (pending_line told) ≡ n) × (temporary_indent told ≡ None)

-- where none is pending, a line that a word begins has the indent in force
abbrev pub OtherLinesHaveTheIndentInForce : Type 0
OtherLinesHaveTheIndentInForce =
    (h : History) → temporary_indent (plain h) ≡ None → (open_word (plain h)).indent ≡ (settings_after h).indent

-- behind each line stands a blank line fewer than its spacing says
abbrev pub LinesAreSpaced : Type 0
LinesAreSpaced = (h : History) (e : Event) → IfSome (finished h e) (λ (line : Finished). line.after ≡ (settings_after h).spacing - 1)

-- and that is what was set last
abbrev pub SpacingsAreInForce : Type 0
SpacingsAreInForce = (h : History) (n : ℕ) → (settings_after (Set (Spacing n) ∷ h)).spacing ≡ n
