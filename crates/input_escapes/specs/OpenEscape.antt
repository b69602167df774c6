-- What may be half read (manual, sections 2.3, 7.2, 8, 10.1, 11 and 16).
use Rattle.std.specs.Prelude.{ℕ, ◌+◌, Bool, List, [], ◌∷◌, ◌++◌, length, Option}
use Rattle.input_source.specs.Bytes.{backslash}
use Rattle.input_escapes.specs.declared.escapes.NameUse.{NameUse}
use Rattle.input_escapes.specs.declared.escapes.TextUse.{TextUse}
use Rattle.input_escapes.specs.declared.open_escape.ConditionPart.{ConditionPart}
use Rattle.input_escapes.specs.declared.open_escape.CopyUnit.{CopyUnit}
use Rattle.input_escapes.specs.declared.open_escape.CopyUnit.TheVariants.{Byte, Kept}
use Rattle.input_escapes.specs.declared.open_escape.NamePart.{NamePart}
use Rattle.input_escapes.specs.declared.open_escape.Found.{Found}
use Rattle.input_escapes.specs.declared.open_escape.SizePart.{SizePart}

-- something that is half read
pub data OpenEscape : Type 0 where
  -- a backslash: the byte behind it comes next
  Backslash : OpenEscape
  -- a comment: every byte of it is dropped, up to a newline
  Comment : OpenEscape
  -- the name behind an escape
  Name : (purpose : NameUse) → (part : NamePart) → OpenEscape
  -- a size behind an escape, which is read without effect
  Size : (part : SizePart) → OpenEscape
  -- the text behind an escape between two delimiters, as copied so far; without a delimiter that comes next
  Delimited : (purpose : TextUse) → (delimiter : Option ℕ) → (text : List ℕ) → OpenEscape
  -- a text that is measured: its delimiter, its width so far in basic units, and whether it stands too deep to be measured
  Width : (delimiter : Option ℕ) → (width : ℕ) → (is_deep : Bool) → OpenEscape
  -- a condition, and its expression or its texts as copied so far, the second behind the first
  Condition : (part : ConditionPart) → (text : List ℕ) → OpenEscape

-- what a byte, a unit or an ending gives, and what is half read then
abbrev pub Reads : Type 0
Reads = Found × List OpenEscape

-- the bytes of a unit: a byte, or a backslash and the byte behind it
abbrev pub unit_bytes : CopyUnit → List ℕ
unit_bytes (Byte b) = b ∷ []
unit_bytes (Kept b) = backslash ∷ b ∷ []

-- the bytes that are held of texts
abbrev pub texts_held : List OpenEscape → ℕ
texts_held [] = 0
texts_held (Backslash ∷ rest) = texts_held rest
texts_held (Comment ∷ rest) = texts_held rest
texts_held (Name purpose part ∷ rest) = texts_held rest
texts_held (Size part ∷ rest) = texts_held rest
texts_held (Delimited purpose delimiter text ∷ rest) = length text + texts_held rest
texts_held (Width delimiter width is_deep ∷ rest) = texts_held rest
texts_held (Condition part text ∷ rest) = length text + texts_held rest

-- one unit more of the text that is being read
abbrev pub text_held : CopyUnit → List OpenEscape → List OpenEscape
text_held unit [] = []
text_held unit (Backslash ∷ rest) = Backslash ∷ rest
text_held unit (Comment ∷ rest) = Comment ∷ rest
text_held unit (Name purpose part ∷ rest) = Name purpose part ∷ rest
text_held unit (Size part ∷ rest) = Size part ∷ rest
text_held unit (Delimited purpose delimiter text ∷ rest) = Delimited purpose delimiter (text ++ unit_bytes unit) ∷ rest
text_held unit (Width delimiter width is_deep ∷ rest) = Width delimiter width is_deep ∷ rest
text_held unit (Condition part text ∷ rest) = Condition part (text ++ unit_bytes unit) ∷ rest

-- how many names are half read
abbrev pub names_in : List OpenEscape → ℕ
names_in [] = 0
names_in (Backslash ∷ rest) = names_in rest
names_in (Comment ∷ rest) = names_in rest
names_in (Name purpose part ∷ rest) = names_in rest + 1
names_in (Size part ∷ rest) = names_in rest
names_in (Delimited purpose delimiter text ∷ rest) = names_in rest
names_in (Width delimiter width is_deep ∷ rest) = names_in rest
names_in (Condition part text ∷ rest) = names_in rest

-- how many texts are being measured
abbrev pub widths_in : List OpenEscape → ℕ
widths_in [] = 0
widths_in (Backslash ∷ rest) = widths_in rest
widths_in (Comment ∷ rest) = widths_in rest
widths_in (Name purpose part ∷ rest) = widths_in rest
widths_in (Size part ∷ rest) = widths_in rest
widths_in (Delimited purpose delimiter text ∷ rest) = widths_in rest
widths_in (Width delimiter width is_deep ∷ rest) = widths_in rest + 1
widths_in (Condition part text ∷ rest) = widths_in rest
