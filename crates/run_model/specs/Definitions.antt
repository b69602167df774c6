-- The lines of a macro's definition, as they are copied, up to the one that ends it (manual, section 7.1).
use Rattle.std.specs.Prelude.{ℕ, ◌+◌, Bool, ◌||◌, List, [], ◌∷◌, drop, take, Option, Some, None, if◌then◌else◌, ◌==◌}
use Rattle.input_source.specs.Bytes.{tab, newline, blank, dot}
use Rattle.input_escapes.specs.declared.open_escape.CopyUnit.{CopyUnit}
use Rattle.input_escapes.specs.declared.open_escape.CopyUnit.TheVariants.{Byte, Kept}
use Rattle.input_escapes.specs.OpenEscape.{unit_bytes}
use Rattle.roff_num.specs.ShortNames.{name_bytes}
use Rattle.run_model.specs.declared.definition.DefinitionLine.{DefinitionLine}
use Rattle.run_model.specs.declared.definition.DefinitionLine.TheVariants.{MayBeLast, IsLast, IsText}
use Rattle.roff_num.specs.declared.short_name.ShortName.{ShortName}

-- what stands in front of the line that ends a definition: a dot and a name, or two dots
abbrev pub end_mark : Option ShortName → List ℕ
end_mark None = dot ∷ dot ∷ []
end_mark (Some name) = dot ∷ name_bytes name

-- whether a byte may stand behind it
abbrev pub ends_mark : ℕ → Bool
ends_mark b = b == blank || (b == tab || b == newline)

-- what bytes make of a line that may be the last one, by the rest of the mark, behind so many bytes of it
abbrev pub line_with : List ℕ → ℕ → List ℕ → DefinitionLine
line_with mark matched [] = MayBeLast matched
line_with [] matched (b ∷ bytes) = if ends_mark b then IsLast b else IsText
line_with (m ∷ mark) matched (b ∷ bytes) = if b == m then line_with mark (matched + 1) bytes else IsText

-- what a unit makes of a line, in front of which so many bytes of the mark stand if it may be the last one
abbrev pub line_from : List ℕ → Option ℕ → CopyUnit → DefinitionLine
line_from mark None unit = IsText
line_from mark (Some matched) unit = line_with (drop matched mark) matched (unit_bytes unit)

-- the bytes that stand in front of it then
abbrev pub front_of : List ℕ → Option ℕ → List ℕ
front_of mark None = []
front_of mark (Some matched) = take matched mark

-- how many bytes of the mark stand in front of the line behind a unit of the text: none behind a newline, and behind anything
-- else the line isn't the last one
abbrev pub matched_behind : CopyUnit → Option ℕ
matched_behind (Byte b) = if b == newline then Some 0 else None
matched_behind (Kept b) = None
