-- Bytes of a condition that change only what is half read: those its expression holds, and the fronts of names in it (manual,
-- sections 7.2 and 16).
use Rattle.std.specs.Prelude.{◌≡◌, ℕ, ◌+◌, ◌≤◌, Bool, true, false, ◌&&◌, ◌||◌, not, List, [], ◌∷◌, length, take, Some, ◌==◌}
use Rattle.input_source.specs.Bytes.{is_argument_byte, blank, is_dropped, newline, tab}
use Rattle.input_escapes.specs.OpenEscape.{OpenEscape, text_held, texts_held}
use Rattle.input_escapes.specs.EscapeFronts.{ReadsOn}
use Rattle.input_escapes.specs.EscapeTexts.{KeptEscapes}
use Rattle.input_escapes.specs.OpenEscapes.{byte_read}
use Rattle.input_escapes.specs.Waiting.{is_ended_by}
use Rattle.input_escapes.specs.declared.open_escape.CopyUnit.TheVariants.{Byte}
use Rattle.input_escapes.specs.declared.open_escape.Found.TheVariants.{Holds}
use Rattle.input_escapes.specs.declared.open_escape.Surroundings.{Surroundings}

-- whether a byte is held where an expression is read: neither a backslash nor one that ends it or is dropped
abbrev pub is_of_expression : ℕ → Bool
is_of_expression b = is_argument_byte b && not (b == blank || b == tab)

-- A byte is held in the text on top of these, above whatever that stands: it isn't dropped, ends nothing, and is one of the
-- text. One byte more is held behind it.
pub record HoldsOn (half : List OpenEscape) (b : ℕ) (top : List OpenEscape) : Type 0 where
  pub stands : is_dropped b ≡ false
  pub no_newline : (b == newline) ≡ false
  pub stays : is_ended_by half (Some b) ≡ false
  pub holds : (base : Surroundings) → byte_read base half b ≡ (Holds (Byte b), top)
  pub held : texts_held (text_held (Byte b) top) ≡ texts_held half + 1

-- a byte changes only what is half read: it gives nothing yet, or is held in a text
pub data TakesOn (half : List OpenEscape) (b : ℕ) (next : List OpenEscape) : Type 0 where
  IsRead : ReadsOn half b next → TakesOn half b next
  IsHeld : (top : List OpenEscape) → HoldsOn half b top → next ≡ text_held (Byte b) top → TakesOn half b next

-- bytes do so, one after another
pub data HalvesTaken : List OpenEscape → List ℕ → List OpenEscape → Type 0 where
  NothingTaken : (half : List OpenEscape) → HalvesTaken half [] half
  ByteTaken : (half next last : List OpenEscape) (b : ℕ) (bytes : List ℕ) → TakesOn half b next → HalvesTaken next bytes last → HalvesTaken half (b ∷ bytes) last

-- so many of these bytes were taken so, and no more bytes are held behind them than these
pub record TakesFront (bytes : List ℕ) (count : ℕ) (old new : KeptEscapes) : Type 0 where
  pub few : count ≤ length bytes
  pub taken : HalvesTaken old.escapes (take count bytes) new.escapes
  pub held : texts_held new.escapes ≤ texts_held old.escapes + count
  pub room : new.room ≡ old.room

-- a byte was taken so, or it wasn't taken and nothing changed
pub record TakesByte (b : ℕ) (is_taken : Bool) (old new : KeptEscapes) : Type 0 where
  pub taken : is_taken ≡ true → TakesOn old.escapes b new.escapes
  pub kept : is_taken ≡ false → new ≡ old
  pub room : new.room ≡ old.room
