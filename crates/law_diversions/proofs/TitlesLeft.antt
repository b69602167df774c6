-- Titles leave the texts in the making, as `TextsLeft` says it of text lines.
use Rattle.std.proofs.Common.{ℕ, List, Option, Some, None, refl, ◌==◌}
use Rattle.input_source.specs.Bytes.{newline, blank}
use Rattle.input_escapes.specs.Characters.{character}
use Rattle.input_escapes.specs.Escapes.{escape_of}
use Rattle.input_escapes.specs.declared.escapes.Escape.{Escape as Kind}
use Rattle.input_escapes.specs.declared.escapes.Escape.TheVariants.{Prints, Blank, NoWidth, Nothing as GivesNothing, Tab as GivesTab, Interrupts, Brace, LeftOut as IsLeftOut, Comment as BeginsComment, Size as BeginsSize, Name as BeginsName, Text as BeginsText, Width as BeginsWidth}
use Rattle.input_escapes.specs.declared.escapes.NameUse.{NameUse}
use Rattle.input_escapes.specs.declared.escapes.NameUse.TheVariants.{Register, Text as OfText, Argument, Character, Font, LeftOut as NameLeftOut}
use Rattle.input_escapes.specs.declared.escapes.TextUse.TheVariants.{Motion as OfMotion, LeftOut as LeftOutText}
use Rattle.input_escapes.specs.declared.open_escape.CopyUnit.{CopyUnit}
use Rattle.input_escapes.specs.declared.open_escape.CopyUnit.TheVariants.{Byte, Kept}
use Rattle.input_escapes.specs.declared.open_escape.Found.{Found}
use Rattle.input_escapes.specs.declared.open_escape.Found.TheVariants.{GoesOn, Unit as GivesUnit, Holds, Escape, Asks, Motion, Measures, Tells as Says, Decides}
use Rattle.run_model.specs.declared.line_state.LineState.TheVariants.{Title as InTitle}
use Rattle.run_model.specs.Reading.Items.{PageInput}
use Rattle.run_model.specs.Reading.Titles.{behind_part, character_put, escape_in_title, title_character, title_ended, title_found, title_front_unit, title_name}
use Rattle.run_model.specs.Registers.{Known}
use Rattle.run_model.specs.declared.title.TitlePart.{TitlePart}
use Rattle.run_model.specs.declared.title.TitlePart.TheVariants.{Left, Centre, Right}
use Rattle.law_diversions.proofs.TextsLeft.{Leaves-asking, Leaves-no_unit_found, Texts, Texts-either}

-- the end of its line: the title is placed
pub Texts-title_ended : (k : Known) (i : PageInput) → Texts i.open_texts (title_ended k i)
Texts-title_ended k i = (refl, (refl, (tt, tt)))

-- an escape without a name
Texts-escape_in_title : (i : PageInput) (delimiter b : ℕ) (kind : Kind) → Texts i.open_texts (escape_in_title i delimiter b kind)
Texts-escape_in_title i delimiter b (Prints byte) = (refl, (refl, tt))
Texts-escape_in_title i delimiter b Blank = (refl, (refl, tt))
Texts-escape_in_title i delimiter b NoWidth = (refl, (refl, tt))
Texts-escape_in_title i delimiter b GivesTab = (refl, (refl, tt))
Texts-escape_in_title i delimiter b Interrupts = (refl, (refl, tt))
Texts-escape_in_title i delimiter b Brace = (refl, (refl, tt))
Texts-escape_in_title i delimiter b IsLeftOut = (refl, (refl, tt))
Texts-escape_in_title i delimiter b GivesNothing = (refl, (refl, tt))
Texts-escape_in_title i delimiter b BeginsComment = (refl, (refl, tt))
Texts-escape_in_title i delimiter b BeginsSize = (refl, (refl, tt))
Texts-escape_in_title i delimiter b (BeginsName purpose) = (refl, (refl, tt))
Texts-escape_in_title i delimiter b (BeginsText OfMotion) = (refl, (refl, tt))
Texts-escape_in_title i delimiter b (BeginsText (LeftOutText byte)) = (refl, (refl, tt))
Texts-escape_in_title i delimiter b BeginsWidth = (refl, (refl, tt))

-- a character, and a name
Texts-character_put : (i : PageInput) (delimiter : ℕ) (name text : Option (List ℕ))
    → Texts i.open_texts (character_put i delimiter name text)
Texts-character_put i delimiter name (Some text) = (refl, (refl, tt))
Texts-character_put i delimiter name None = (refl, (refl, tt))

Texts-title_character : (i : PageInput) (delimiter : ℕ) (name : Option (List ℕ)) → Texts i.open_texts (title_character i delimiter name)
Texts-title_character i delimiter (Some name) = Texts-character_put i delimiter (Some name) (character name)
Texts-title_character i delimiter None = (refl, (refl, tt))

Texts-title_name : (k : Known) (i : PageInput) (delimiter : ℕ) (purpose : NameUse) (name : Option (List ℕ))
    → Texts i.open_texts (title_name k i delimiter purpose name)
Texts-title_name k i delimiter Character name = Texts-title_character i delimiter name
Texts-title_name k i delimiter Font name = (refl, (refl, tt))
Texts-title_name k i delimiter (NameLeftOut b) name = (refl, (refl, tt))
Texts-title_name k i delimiter (Register step) name = Leaves-asking k i (InTitle delimiter) (Register step) name
Texts-title_name k i delimiter OfText name = Leaves-asking k i (InTitle delimiter) OfText name
Texts-title_name k i delimiter Argument name = Leaves-asking k i (InTitle delimiter) Argument name

-- what was found of a part
pub Texts-title_found : (k : Known) (i : PageInput) (delimiter : ℕ) (found : Found) → Texts i.open_texts (title_found k i delimiter found)
Texts-title_found k i delimiter GoesOn = (refl, (refl, tt))
Texts-title_found k i delimiter (GivesUnit (Byte b)) =
    Texts-either i.open_texts (b == newline) _ _ (Texts-title_ended k i) (refl, (refl, tt))
Texts-title_found k i delimiter (GivesUnit (Kept b)) = Texts-escape_in_title i delimiter b (escape_of b)
Texts-title_found k i delimiter (Escape b) = Texts-escape_in_title i delimiter b (escape_of b)
Texts-title_found k i delimiter (Holds unit) = (refl, (refl, tt))
Texts-title_found k i delimiter (Asks purpose name) = Texts-title_name k i delimiter purpose name
Texts-title_found k i delimiter (Motion columns remark) = (refl, (refl, tt))
Texts-title_found k i delimiter (Measures width) = Leaves-no_unit_found k i (InTitle delimiter) (Measures width)
Texts-title_found k i delimiter (Says remark) = (refl, (refl, tt))
Texts-title_found k i delimiter (Decides decision freed) = (refl, (refl, tt))

-- a unit in front of the parts
pub Texts-title_front_unit : (k : Known) (i : PageInput) (unit : CopyUnit) → Texts i.open_texts (title_front_unit k i unit)
Texts-title_front_unit k i (Byte b) =
    Texts-either i.open_texts (b == newline) _ _ (Texts-title_ended k i)
    (Texts-either i.open_texts (b == blank) _ _ (refl, (refl, tt)) (refl, (refl, tt)))
Texts-title_front_unit k i (Kept b) = (refl, (refl, tt))

-- a delimiter
pub Texts-behind_part : (i : PageInput) (delimiter : ℕ) (part : TitlePart) → Texts i.open_texts (behind_part i delimiter part)
Texts-behind_part i delimiter Left = (refl, (refl, tt))
Texts-behind_part i delimiter Centre = (refl, (refl, tt))
Texts-behind_part i delimiter Right = (refl, (refl, tt))
