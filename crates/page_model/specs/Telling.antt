-- Text as it is told to an environment (manual, section 4.1).
use Rattle.std.specs.Prelude.{◌≡◌, ℕ, ◌<◌, ◌≤◌, false, List, [], ◌∷◌, ◌++◌, map, reverse, Option, None, if◌then◌else◌, ◌==◌}
use Rattle.page_model.specs.declared.glyph.Glyph.{Glyph}
use Rattle.page_model.specs.declared.glyph.Glyph.TheVariants.{Printed}
use Rattle.page_model.specs.declared.settings.Settings.{Settings}
use Rattle.page_model.specs.Events.{Event, Print, WordEnd, Gap, LineEnd, Count, Break, Set, History}
use Rattle.page_model.specs.Fitting.{Word}
use Rattle.page_model.specs.Words.{is_empty, has_open_word, blanks, words}
use Rattle.page_model.specs.Lines.{Finished}
use Rattle.page_model.specs.Behind.{finished, pending_length}

-- a history, and these glyphs behind it
abbrev pub glyphs_told : List Glyph → History → History
glyphs_told glyphs h = map Print (reverse glyphs) ++ h

-- a history, and these words behind it: of each its gap, its glyphs and its end
abbrev pub words_told : List Word → History → History
words_told [] h = h
words_told (w ∷ ws) h = WordEnd ∷ glyphs_told w.glyphs (Gap w.gap ∷ words_told ws h)

-- an event of a text: neither a break nor a change
abbrev pub IsOfText : Event → Type 0
IsOfText Break = ⊥
IsOfText (Set p) = ⊥
IsOfText (_) = Unit {0}

-- a word that can be told while this is in force: it has a glyph and a gap, and ends under these settings, their indent among
-- them
pub record IsWordUnder (s : Settings) (w : Word) : Type 0 where
  pub some : is_empty w.glyphs ≡ false
  pub gap : 0 < w.gap
  pub under : w.under ≡ s
  pub indent : w.indent ≡ s.indent

-- a history of which nothing is left for a line: no word, no open word, no blanks before the next one
pub record IsClear (h : History) : Type 0 where
  pub no_words : words h ≡ []
  pub no_open_word : has_open_word h ≡ false
  pub no_blanks : blanks h ≡ 0

-- a history, and these bytes behind it, one after another: a blank ends a word, and a gap of it follows
abbrev pub bytes_told : List ℕ → History → History
bytes_told [] h = h
bytes_told (b ∷ bytes) h = bytes_told bytes (if b == 32 then Gap 1 ∷ WordEnd ∷ h else Print (Printed b) ∷ h)

-- a history, and behind it a text line of the input with these bytes
abbrev pub text_line : List ℕ → History → History
text_line bytes h = Count ∷ LineEnd ∷ WordEnd ∷ bytes_told bytes h

-- the line that this byte of a text line finishes: a blank ends a word
abbrev pub finished_by_byte : ℕ → History → Option Finished
finished_by_byte b h = if b == 32 then finished h WordEnd else None

-- these bytes can be told behind the history, one after another: none finishes a line, and the pending line stays within the limit
abbrev pub QuietlyTold : ℕ → List ℕ → History → Type 0
QuietlyTold line_cap [] h = Unit {0}
QuietlyTold line_cap (b ∷ bytes) h =
    (finished_by_byte b h ≡ None)
    × (pending_length (bytes_told (b ∷ []) h) ≤ line_cap)
    × QuietlyTold line_cap bytes (bytes_told (b ∷ []) h)
