-- Words: runs of glyphs, and the gaps between them (manual, section 4.1). A tab is a glyph of blanks.
use Rattle.std.specs.Prelude.{ℕ, ◌+◌, Bool, true, false, not, ◌&&◌, ◌||◌, List, [], ◌∷◌, reverse, codes, Option, Some, None, ◌==◌, if◌then◌else◌}
use Rattle.std.specs.List.{list_any}
use Rattle.page_model.specs.declared.glyph.Glyph.{Glyph}
use Rattle.page_model.specs.declared.glyph.Glyph.TheVariants.{Printed, Blanks}
use Rattle.page_model.specs.declared.settings.Settings.{Settings}
use Rattle.page_model.specs.Settings.{fills, temporary_with}
use Rattle.page_model.specs.Events.{Print, Tab, WordEnd, Gap, LineEnd, Break, Set, History, settings_after}
use Rattle.page_model.specs.Places.{has_line_glyph, tab_width}
use Rattle.page_model.specs.Fitting.{Word, begins_line, last_line}

-- whether a list is empty
abbrev pub is_empty : {A : Type 0} → List A → Bool
is_empty [] = true
is_empty (x ∷ xs) = false

-- the glyphs of the open word, those since the last word end, the newest first
abbrev pub open_glyphs : History → List Glyph
open_glyphs [] = []
open_glyphs (Print g ∷ h) = g ∷ open_glyphs h
open_glyphs (Tab ∷ h) = Blanks (tab_width h) ∷ open_glyphs h
open_glyphs (WordEnd ∷ h) = []
open_glyphs (_ ∷ h) = open_glyphs h

-- whether a word is open
abbrev pub has_open_word : History → Bool
has_open_word h = not (is_empty (open_glyphs h))

-- the glyphs of the last word, open or ended, since the last line end of the input, the newest first
abbrev pub last_word_glyphs : History → List Glyph
last_word_glyphs [] = []
last_word_glyphs (Print g ∷ h) = g ∷ (if has_open_word h then last_word_glyphs h else [])
last_word_glyphs (Tab ∷ h) = Blanks (tab_width h) ∷ (if has_open_word h then last_word_glyphs h else [])
last_word_glyphs (LineEnd ∷ h) = []
last_word_glyphs (_ ∷ h) = last_word_glyphs h

-- a glyph that may stand behind the end of a sentence
abbrev pub is_closer : Glyph → Bool
is_closer (Printed b) = list_any (λ c. b == c) (codes "\"')]*")
is_closer (Blanks n) = false

-- a glyph that ends a sentence
abbrev pub is_sentence_mark : Glyph → Bool
is_sentence_mark (Printed b) = list_any (λ c. b == c) (codes ".?!")
is_sentence_mark (Blanks n) = false

-- whether a sentence ends behind these glyphs of a word (the newest first): closers don't count
abbrev pub ends_sentence : List Glyph → Bool
ends_sentence [] = false
ends_sentence (g ∷ gs) = if is_closer g then ends_sentence gs else is_sentence_mark g

-- The same behind these printed bytes, the oldest first: closers leave that as it was before them. Behind a blank, with which
-- a word ends, none does.
abbrev pub ends_sentence_behind : List ℕ → Bool → Bool
ends_sentence_behind [] before = before
ends_sentence_behind (b ∷ bytes) before =
    ends_sentence_behind bytes (if is_closer (Printed b) then before else is_sentence_mark (Printed b))

-- the blanks of a filled line's end: two behind a sentence, else one
abbrev pub line_end_gap : List Glyph → ℕ
line_end_gap glyphs = if ends_sentence glyphs then 2 else 1

-- the gap of a word that begins behind so many blanks, and these glyphs of the last word: directly behind the end of another word,
-- as text stands that was put between two words of a line, the gap of a line's end
abbrev pub begun_gap : ℕ → List Glyph → ℕ
begun_gap n glyphs = if n == 0 then line_end_gap glyphs else n

-- The blanks before the next word, or before the open one: those of the gaps since the last word.
-- A line's end, where words are measured, takes the place of the gaps before it, so trailing blanks are dropped; it
-- leaves them as they are if no glyph stood on the line. A gap adds nothing to it before a glyph stands on the next line.
-- An open word keeps the gap it began with.
abbrev pub blanks : History → ℕ
blanks [] = 0
blanks (Print g ∷ h) = if has_open_word h then blanks h else begun_gap (blanks h) (last_word_glyphs h)
blanks (Tab ∷ h) = if has_open_word h then blanks h else begun_gap (blanks h) (last_word_glyphs h)
blanks (WordEnd ∷ h) = if has_open_word h then 0 else blanks h
blanks (Gap n ∷ h) =
    if has_open_word h || (not (has_line_glyph h) && not (blanks h == 0)) then blanks h else blanks h + n
blanks (LineEnd ∷ h) =
    if has_open_word h || (fills (settings_after h) && not (has_line_glyph h)) then blanks h
    else if fills (settings_after h) then line_end_gap (last_word_glyphs h) else 0
blanks (Break ∷ h) = if has_open_word h then blanks h else 0
blanks (_ ∷ h) = blanks h

-- the indent of a line that begins now: the one that is pending for it alone, else that in force
abbrev pub indent_by : Option ℕ → Settings → ℕ
indent_by (Some n) s = n
indent_by None s = s.indent

-- the open word as it ends, where this indent is pending
abbrev pub word_ended : Option ℕ → History → Word
word_ended pending h = record {
  glyphs = reverse (open_glyphs h);
  gap = blanks h;
  under = settings_after h;
  indent = indent_by pending (settings_after h);
}

-- what a history leaves of a paragraph: the words since the last break, the newest first, and the indent that is pending
-- for the next line alone
pub record Paragraph : Type 0 where
  pub words : List Word
  pub temporary_indent : Option ℕ

-- The paragraph of a history. A line's end is a break too where words aren't measured. A pending indent goes to the first
-- word that begins a line.
abbrev pub paragraph : History → Paragraph
paragraph [] = record { words = []; temporary_indent = None }
paragraph (WordEnd ∷ h) =
    let p = paragraph h in
    let w = word_ended p.temporary_indent h in
    record {
      words = if has_open_word h then w ∷ p.words else p.words;
      temporary_indent = if has_open_word h && begins_line (last_line p.words) w then None else p.temporary_indent;
    }
paragraph (LineEnd ∷ h) = let p = paragraph h in record p { words = if fills (settings_after h) then p.words else [] }
paragraph (Break ∷ h) = record (paragraph h) { words = [] }
paragraph (Set change ∷ h) = let p = paragraph h in record p { temporary_indent = temporary_with change p.temporary_indent }
paragraph (_ ∷ h) = paragraph h

-- the words since the last break, the newest first
abbrev pub words : History → List Word
words h = (paragraph h).words

-- the indent that is pending for the next line alone
abbrev pub temporary_indent : History → Option ℕ
temporary_indent h = (paragraph h).temporary_indent

-- the open word, as it ends now
abbrev pub open_word : History → Word
open_word h = word_ended (temporary_indent h) h
