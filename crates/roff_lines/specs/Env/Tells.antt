-- Bytes of a text line that an environment is told at once.
use Rattle.std.specs.Prelude.{◌≡◌, ℕ, ◌+◌, ◌-◌, ◌<◌, ◌≤◌, true, List, [], ◌∷◌, ◌++◌, length, take, drop, slice_index_or, Option, None, if◌then◌else◌, ◌==◌}
use Rattle.std.specs.List.{AllByRecursion}
use Rattle.page_model.specs.Glyphs.{gaps_in, text_width}
use Rattle.page_model.specs.Events.{History}
use Rattle.page_model.specs.Fitting.{may_be_wide}
use Rattle.page_model.specs.declared.event.Event.TheVariants.{WordEnd}
use Rattle.page_model.specs.declared.glyph.Glyph.TheVariants.{Printed}
use Rattle.page_model.specs.Lines.{Finished, finished_in, pending_length}
use Rattle.page_model.specs.Telling.{bytes_told, QuietlyTold}
use Rattle.roff_lines.specs.Env.Kept.{Kept, glyph_room, length_told, word_finishes}
use Rattle.roff_lines.specs.Env.Stands.{Stands, StandsPlain}

-- these bytes are told: whatever history the old environment stands for, they can be told behind it, and the new one stands
-- for it with them
pub record Tells (bytes : List ℕ) (old new : Kept) : Type 0 where
  pub quiet : (line_cap : ℕ) (h : History) → Stands line_cap h old → QuietlyTold line_cap bytes h
  pub stands : (line_cap : ℕ) (h : History) → Stands line_cap h old → Stands line_cap (bytes_told bytes h) new

-- the line that this byte of a text line finishes behind a plain history: a blank ends a word
abbrev pub finished_plainly_by : ℕ → History → Option Finished
finished_plainly_by b h = if b == 32 then finished_in h WordEnd else None

-- these bytes can be told behind a plain history, one after another
abbrev pub PlainlyTold : ℕ → List ℕ → History → Type 0
PlainlyTold line_cap [] h = Unit {0}
PlainlyTold line_cap (b ∷ bytes) h =
    (finished_plainly_by b h ≡ None)
    × (pending_length (bytes_told (b ∷ []) h) ≤ line_cap)
    × PlainlyTold line_cap bytes (bytes_told (b ∷ []) h)

-- the same of plain histories: whichever the old environment stands for; and no field is opened or ended
pub record TellsPlain (bytes : List ℕ) (old new : Kept) : Type 0 where
  pub quiet : (line_cap : ℕ) (h : History) → StandsPlain line_cap h old → PlainlyTold line_cap bytes h
  pub stands : (line_cap : ℕ) (h : History) → StandsPlain line_cap h old → StandsPlain line_cap (bytes_told bytes h) new
  pub field : new.field ≡ old.field

-- some of these bytes in front are told, and the rest is left
pub record TellsFront (bytes rest : List ℕ) (old new : Kept) : Type 0 where
  pub front : List ℕ
  pub joined : front ++ rest ≡ bytes
  pub told : TellsPlain front old new

-- of so many bytes in front these are told, and the rest is left
abbrev pub TellsOf : ℕ → List ℕ → ℕ → Kept → Kept → Type 0
TellsOf count bytes told old new = TellsFront (take count bytes) (drop told (take count bytes)) old new

-- a byte above the blank that is a character by itself
abbrev pub IsOneCharacter : ℕ → Type 0
IsOneCharacter b = (32 < b) × (b < 128)

-- so many words of such bytes, with a blank behind each
pub data WholeWords : ℕ → List ℕ → Type 0 where
  NoWord : WholeWords 0 []
  OneMore : (n : ℕ) (front word : List ℕ) → WholeWords n front → 0 < length word → AllByRecursion IsOneCharacter word
      → WholeWords (n + 1) (front ++ (word ++ 32 ∷ []))

-- words with one blank between two of them go on with a byte behind another one
pub record GoesOn (before b : ℕ) : Type 0 where
  pub above : 32 ≤ b
  pub below : b < 128
  pub single : b ≡ 32 → before ≡ 32 → ⊥

-- so many bytes in front are such words, the first behind a blank
pub data IsRun (bytes : List ℕ) : ℕ → Type 0 where
  Nothing : IsRun bytes 0
  Begins : GoesOn 32 (slice_index_or bytes 0 0) → IsRun bytes 1
  Further : (k : ℕ) → 0 < k → IsRun bytes k → GoesOn (slice_index_or bytes (k - 1) 0) (slice_index_or bytes k 0) → IsRun bytes (k + 1)

-- so many bytes in front were read as such words: of them so many are whole words with a blank behind each
pub record ReadsWords (bytes : List ℕ) (read told words : ℕ) : Type 0 where
  pub some : 0 < read
  pub within : told ≤ read
  pub run : IsRun bytes read
  pub blank : 0 < told → slice_index_or bytes (told - 1) 0 ≡ 32
  pub others : gaps_in (take told bytes) ≡ gaps_in (take read bytes)
  pub gaps : gaps_in (take read bytes) ≡ words
  pub less : words ≤ read

-- behind a gap, of which there are blanks, the pending line has room for text of so many columns and bytes
pub record HasRoom (room : ℕ) (k : Kept) : Type 0 where
  pub gap : 0 < k.blanks
  pub limit : length k.line + k.blanks + room ≤ k.cap
  pub fits : may_be_wide k.settings k.indent (text_width k.line + k.blanks + room) ≡ true

-- no glyph stands in front of these bytes that the limit on the pending line lets through
abbrev pub EndsGlyphs : List ℕ → Kept → Type 0
EndsGlyphs [] k = Unit {0}
EndsGlyphs (b ∷ rest) k = 32 < b → glyph_room k ≡ 0

-- no blank stands in front of these bytes that finishes no line
abbrev pub EndsBlanks : List ℕ → Kept → Type 0
EndsBlanks [] k = Unit {0}
EndsBlanks (b ∷ rest) k = b ≡ 32 → word_finishes k ≡ true

-- a blank is in front of these bytes, or the limit lets none of them through in a field
abbrev pub EndsInField : List ℕ → Kept → Type 0
EndsInField [] k = Unit {0}
EndsInField (b ∷ rest) k = (b ≡ 32 → ⊥) → k.cap < length_told (Printed b) k
