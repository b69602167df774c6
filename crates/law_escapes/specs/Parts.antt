-- Lines in parts: bytes as they stand, and escapes that are read as texts (manual, sections 7, 8 and 11.2).
use Rattle.std.specs.Prelude.{◌≡◌, ℕ, ◌+◌, Bool, true, not, ◌||◌, List, [], ◌∷◌, ◌++◌, decimal, length, fold, All, ⊤, Some}
use Rattle.std.specs.List.{flat_map}
use Rattle.input_source.specs.Bytes.{backslash}
use Rattle.input_escapes.specs.EscapeLaws.{is_only_copied}
use Rattle.input_escapes.specs.declared.escapes.NameUse.{NameUse}
use Rattle.input_escapes.specs.declared.escapes.NameUse.TheVariants.{Register}
use Rattle.law_reading.specs.ConditionLaws.{is_whole}
use Rattle.law_reading.specs.DefinitionLaws.{IsOfLine}
use Rattle.law_reading.specs.InterpolationLaws.{IsEscapeOf, text_named}
use Rattle.law_reading.specs.WidthLaws.{IsPlain, MayDelimit, text_units, width_escape}
use Rattle.run_model.specs.Reading.Items.{PageInput}
use Rattle.run_model.specs.Registers.{AllRegisters, Known, StepBy, changed_by, is_page, is_step_out_of_range}

-- a part of a line: bytes; an escape, by what its name is for, the name, and the escape's bytes; or the escape of a text that is
-- measured, by its delimiter
pub data Part : Type 0 where
  Written : (bytes : List ℕ) → Part
  Escape : (purpose : NameUse) (name bytes : List ℕ) → Part
  Measured : (delimiter : ℕ) (text : List ℕ) → Part

-- the bytes of a line
abbrev pub bytes_of_part : Part → List ℕ
bytes_of_part (Written bytes) = bytes
bytes_of_part (Escape purpose name bytes) = bytes
bytes_of_part (Measured delimiter text) = width_escape delimiter text

abbrev pub bytes_of : List Part → List ℕ
bytes_of parts = flat_map bytes_of_part parts

-- the registers behind an escape: the one that it steps is stepped
abbrev pub registers_stepped : NameUse → List ℕ → AllRegisters → AllRegisters
registers_stepped (Register (Some direction)) name rs = changed_by (StepBy name direction) rs
registers_stepped (_) name rs = rs

-- and behind parts of a line, one after another
abbrev pub registers_behind_part : AllRegisters → Part → AllRegisters
registers_behind_part rs (Written bytes) = rs
registers_behind_part rs (Escape purpose name bytes) = registers_stepped purpose name rs
registers_behind_part rs (Measured delimiter text) = rs

abbrev pub registers_behind : AllRegisters → List Part → AllRegisters
registers_behind rs parts = fold registers_behind_part rs parts

-- what is known behind a part, and behind several
abbrev pub known_behind_part : Known → Part → Known
known_behind_part k part = record k { registers = registers_behind_part k.registers part }

abbrev pub known_behind : Known → List Part → Known
known_behind k parts = record k { registers = registers_behind k.registers parts }

-- what is read in the place of a part: a text for an escape, and for a text that is measured the digits of its width
abbrev pub rewritten_part : Known → PageInput → Part → List ℕ
rewritten_part k i (Written bytes) = bytes
rewritten_part k i (Escape purpose name bytes) = text_named k i purpose name
rewritten_part k i (Measured delimiter text) = decimal (text_units text)

-- the line with the text of each escape in its place
abbrev pub rewritten : Known → PageInput → List Part → List ℕ
rewritten k i [] = []
rewritten k i (part ∷ parts) = rewritten_part k i part ++ rewritten (known_behind_part k part) i parts

-- what its texts cost beside the bytes of the line: their bytes, and the end of each one more
abbrev pub cost_of_texts : Known → PageInput → List Part → ℕ
cost_of_texts k i [] = 0
cost_of_texts k i (Written bytes ∷ parts) = cost_of_texts k i parts
cost_of_texts k i (Escape purpose name bytes ∷ parts) =
    length (text_named k i purpose name) + 1 + cost_of_texts (known_behind_part k (Escape purpose name bytes)) i parts
cost_of_texts k i (Measured delimiter text ∷ parts) = length (decimal (text_units text)) + 1 + cost_of_texts k i parts

-- whether an escape makes no step, or one of a register that isn't the page number, and in range: so nothing is told of it
abbrev pub steps_quietly : Known → NameUse → List ℕ → Bool
steps_quietly k (Register (Some direction)) name = not (is_page name || is_step_out_of_range direction name k)
steps_quietly k (_) name = true

-- A line may have such a part, by whether widths are read in it, and by what its bytes may be, and those of a text: an escape is
-- that of a register, a string or an argument, or of a text without escapes that is measured.
pub data MayHave (measures : Bool) (May : List ℕ → Type 0) (k : Known) (i : PageInput) : Part → Type 0 where
  MayWrite : (bytes : List ℕ) → May bytes → MayHave measures May k i (Written bytes)
  MayRead : (purpose : NameUse) (name bytes : List ℕ) → IsEscapeOf purpose name bytes → steps_quietly k purpose name ≡ true
      → May (text_named k i purpose name) → MayHave measures May k i (Escape purpose name bytes)
  MayMeasure : (delimiter : ℕ) (text : List ℕ) → measures ≡ true → MayDelimit delimiter → IsPlain delimiter text
      → MayHave measures May k i (Measured delimiter text)

-- so are all its parts
abbrev pub AreParts : Bool → (List ℕ → Type 0) → Known → PageInput → List Part → Type 0
AreParts measures May k i [] = ⊤
AreParts measures May k i (part ∷ parts) =
    MayHave measures May k i part × AreParts measures May (known_behind_part k part) i parts

-- bytes that are copied: they have neither interpolations nor comments, and no backslash of them belongs to what stands behind
-- them
pub record IsOnlyCopied (part : List ℕ) : Type 0 where
  pub bytes : All IsOfLine part
  pub only_copied : is_only_copied part ≡ true
  pub whole : is_whole part ≡ true

-- a part of a line that is copied where no widths are read, or a text: also what a width begins with, which stays there
pub data IsCopiedPart : List ℕ → Type 0 where
  OnlyCopied : (part : List ℕ) → IsOnlyCopied part → IsCopiedPart part
  BeginsWidth : IsCopiedPart (backslash ∷ 119 ∷ [])
