-- Bytes that change only what is half read: the fronts of escapes that read a name (manual, sections 7.2, 8 and 10.1), and comments (the
-- list of escape sequences before section 1).
use Rattle.std.specs.Prelude.{◌≡◌, ℕ, ◌≤◌, Bool, true, false, List, [], ◌∷◌, length, take, Some, ◌==◌}
use Rattle.input_source.specs.Bytes.{is_dropped, newline}
use Rattle.input_escapes.specs.OpenEscape.{OpenEscape, texts_held}
use Rattle.input_escapes.specs.OpenEscapes.{byte_read}
use Rattle.input_escapes.specs.Waiting.{is_ended_by}
use Rattle.input_escapes.specs.EscapeTexts.{KeptEscapes}
use Rattle.input_escapes.specs.declared.escapes.NameUse.{NameUse}
use Rattle.input_escapes.specs.declared.escapes.NameUse.TheVariants.{Register, Text}
use Rattle.input_escapes.specs.declared.open_escape.Found.TheVariants.{GoesOn}
use Rattle.input_escapes.specs.declared.open_escape.Surroundings.{Surroundings}

-- whether a parenthesis opens a name of two bytes: that of a register or a string
abbrev pub may_open : NameUse → Bool
may_open (Register step) = true
may_open Text = true
may_open (_) = false

-- a byte changes only what is half read, above whatever that stands: it isn't dropped, ends nothing, and gives nothing yet
pub record ReadsOn (half : List OpenEscape) (b : ℕ) (next : List OpenEscape) : Type 0 where
  pub stands : is_dropped b ≡ false
  pub no_newline : (b == newline) ≡ false
  pub stays : is_ended_by half (Some b) ≡ false
  pub goes_on : (base : Surroundings) → byte_read base half b ≡ (GoesOn, next)
  pub held : texts_held next ≡ texts_held half

-- a byte was read so, or nothing changed
pub record ReadsByte (b : ℕ) (is_read : Bool) (old new : KeptEscapes) : Type 0 where
  pub read : is_read ≡ true → ReadsOn old.escapes b new.escapes
  pub kept : is_read ≡ false → new ≡ old
  pub room : new.room ≡ old.room

-- bytes do so, one after another
pub data HalvesRead : List OpenEscape → List ℕ → List OpenEscape → Type 0 where
  NothingRead : (half : List OpenEscape) → HalvesRead half [] half
  ByteRead : (half next last : List OpenEscape) (b : ℕ) (bytes : List ℕ) → ReadsOn half b next → HalvesRead next bytes last → HalvesRead half (b ∷ bytes) last

-- so many of these bytes were read so
pub record ReadsFront (bytes : List ℕ) (count : ℕ) (old new : KeptEscapes) : Type 0 where
  pub few : count ≤ length bytes
  pub read : HalvesRead old.escapes (take count bytes) new.escapes
  pub room : new.room ≡ old.room
