-- The first unit of a string's text, with which the text begins (manual, section 7).
use Rattle.std.specs.Prelude.{ℕ, List, [], ◌∷◌, Option, Some, None, if◌then◌else◌, ◌==◌}
use Rattle.input_source.specs.Bytes.{blank, quote}
use Rattle.input_escapes.specs.OpenEscape.{unit_bytes}
use Rattle.input_escapes.specs.declared.open_escape.CopyUnit.{CopyUnit}
use Rattle.input_escapes.specs.declared.open_escape.CopyUnit.TheVariants.{Byte, Kept}
use Rattle.roff_num.specs.declared.short_name.ShortName.{ShortName}

-- what is put behind the text that is begun: in front of it a blank and a quote are dropped, and without a name there is no text
abbrev pub first_text : Option ShortName → CopyUnit → List ℕ
first_text None unit = []
first_text (Some name) (Byte b) = if b == blank then [] else if b == quote then [] else b ∷ []
first_text (Some name) (Kept b) = unit_bytes (Kept b)
