-- Names in parentheses as copy mode makes them (manual, sections 7.2 and 8).
use Rattle.std.specs.Prelude.{◌≡◌, ℕ, ◌<◌, true, not, ◌||◌, List, [], ◌∷◌, ◌++◌, length, map, take, IsTrue, Option, ◌==◌}
use Rattle.roff_num.specs.declared.direction.Direction.{Direction}
use Rattle.roff_num.specs.declared.limits.Limits.{Limits}
use Rattle.input_source.specs.Bytes.{backslash, is_dropped, newline}
use Rattle.input_source.specs.Tape.{Tape, OneByte, items_then}
use Rattle.input_escapes.specs.EscapeLaws.{register_escape, sign, string_escape}
use Rattle.input_escapes.specs.OpenEscape.{names_in, unit_bytes}
use Rattle.input_escapes.specs.OpenEscapes.{escape_taken, most_names}
use Rattle.input_escapes.specs.declared.escapes.NameUse.{NameUse}
use Rattle.input_escapes.specs.declared.escapes.NameUse.TheVariants.{Register, Text as OfText}
use Rattle.input_escapes.specs.declared.open_escape.CopyUnit.{CopyUnit}
use Rattle.input_escapes.specs.declared.open_escape.CopyUnit.TheVariants.{Byte, Kept}
use Rattle.input_escapes.specs.declared.open_escape.Found.TheVariants.{Unit as GivesUnit}
use Rattle.input_escapes.specs.declared.open_escape.Surroundings.TheVariants.{Copy as InCopy}
use Rattle.input_model.specs.Input.{Ahead, ByteAhead}
use Rattle.run_model.specs.ItemsTaken.{TakesItems}
use Rattle.run_model.specs.PageEvents.{PageEvent}
use Rattle.run_model.specs.Run.{State, after}
use Rattle.run_model.specs.Within.{IsWithin}
use Rattle.law_reading.specs.InterpolationLaws.{StandsForItself, reads_above, reads_escapes, with_source_behind, with_text_ahead}

-- the bytes of one unit of copy mode: a byte that stands for itself, or a backslash and a byte, of which that is made, one byte, or an
-- escape that stays
pub data IsUnit : CopyUnit → List ℕ → Type 0 where
  Itself : (b : ℕ) → StandsForItself b → IsUnit (Byte b) (b ∷ [])
  Escaped : (unit : CopyUnit) (b : ℕ) → IsTrue (not (is_dropped b || b == newline)) → escape_taken InCopy [] b ≡ (GivesUnit unit, [])
      → IsUnit unit (backslash ∷ b ∷ [])

-- the bytes behind a parenthesis, and the name: an escape that stays, or the first two bytes of two units
pub data IsName : List ℕ → List ℕ → Type 0 where
  OneUnit : (b : ℕ) (bytes : List ℕ) → IsUnit (Kept b) bytes → IsName (unit_bytes (Kept b)) bytes
  TwoUnits : (a : ℕ) (unit : CopyUnit) (front bytes : List ℕ) → IsUnit (Byte a) front → IsUnit unit bytes
      → IsName (take 2 (a ∷ unit_bytes unit)) (front ++ bytes)

-- the escape of a register, perhaps with the sign of a step, or of a string, with such a name
pub data HasName : NameUse → List ℕ → List ℕ → Type 0 where
  OfRegister : (step : Option Direction) (name bytes : List ℕ) → IsName name bytes
      → HasName (Register step) name (register_escape (sign step ++ 40 ∷ bytes))
  OfString : (name bytes : List ℕ) → IsName name bytes → HasName OfText name (string_escape (40 ∷ bytes))

-- Of what copy mode makes of a name in parentheses the first two bytes are the name, whose text is read, and its end, before what stood
-- behind the escape. Each byte of the escape is a step, and costs one.
abbrev pub NamesAreTheirFirstTwoBytes : Type 0
NamesAreTheirFirstTwoBytes =
    (l : Limits) (s : State) (purpose : NameUse) (name escape : List ℕ) (rest : List (Ahead PageEvent)) →
    HasName purpose name escape → TakesItems s → reads_above s.input.escapes ≡ true → names_in s.input.escapes < most_names →
    reads_escapes s.reading ≡ true → s.input.ahead ≡ map ByteAhead escape ++ rest →
    let read : State = with_text_ahead purpose name (length escape) rest s in
    IsWithin l s → IsWithin l read → after l (length escape) s ≡ read

-- and so it is where the escape stands in the source itself, with nothing ahead of it
abbrev pub NamesOfTheSourceAreTheirFirstTwoBytes : Type 0
NamesOfTheSourceAreTheirFirstTwoBytes =
    (l : Limits) (s : State) (purpose : NameUse) (name escape : List ℕ) (tape : Tape) →
    HasName purpose name escape → TakesItems s → reads_above s.input.escapes ≡ true → names_in s.input.escapes < most_names →
    reads_escapes s.reading ≡ true → s.input.ahead ≡ [] → s.tape ≡ items_then (map OneByte escape) tape →
    let read : State = with_text_ahead purpose name (length escape) [] (with_source_behind tape s) in
    IsWithin l s → IsWithin l read → after l (length escape) s ≡ read
