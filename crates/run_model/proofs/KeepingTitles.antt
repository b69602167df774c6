-- What each taking of a title changes in the input, as of text lines and others (`KeepingText`).
use Rattle.std.proofs.Common.{ℕ, ◌+◌, ◌*◌, ◌≤◌, false, List, Option, Some, None, arith, refl, ◌==◌}
use Rattle.input_source.specs.Bytes.{newline, blank}
use Rattle.input_escapes.specs.Characters.{character}
use Rattle.input_escapes.specs.Escapes.{escape_of}
use Rattle.input_escapes.specs.declared.escapes.Escape.{Escape as Kind}
use Rattle.input_escapes.specs.declared.escapes.Escape.TheVariants.{Prints, Blank, NoWidth, Nothing as GivesNothing, Tab as GivesTab, Interrupts, Brace, LeftOut as IsLeftOut, Comment as BeginsComment, Size as BeginsSize, Name as BeginsName, Text as BeginsText, Width as BeginsWidth}
use Rattle.input_escapes.specs.declared.escapes.NameUse.{NameUse}
use Rattle.input_escapes.specs.declared.escapes.NameUse.TheVariants.{Register, Text as OfText, Argument, Character, Font, LeftOut as NameLeftOut}
use Rattle.input_escapes.specs.declared.escapes.TextUse.TheVariants.{Motion as OfMotion, LeftOut as LeftOutText}
use Rattle.input_escapes.specs.declared.open_escape.CopyUnit.{CopyUnit}
use Rattle.input_escapes.specs.declared.open_escape.CopyUnit.TheVariants.{Byte, Kept}
use Rattle.input_escapes.specs.declared.open_escape.Found.{Found}
use Rattle.input_escapes.specs.declared.open_escape.Found.TheVariants.{GoesOn, Unit as GivesUnit, Holds, Escape, Asks, Motion, Measures, Tells, Decides}
use Rattle.input_model.specs.Input.Calls.{arguments_given}
use Rattle.run_model.specs.declared.line_state.LineState.{LineState}
use Rattle.run_model.specs.declared.line_state.LineState.TheVariants.{Title as InTitle, TitleFront}
use Rattle.run_model.specs.declared.request.Request.TheVariants.{Title as TitleRequest}
use Rattle.run_model.specs.Reading.Items.{PageInput}
use Rattle.run_model.specs.Reading.Titles.{behind_part, character_put, escape_in_title, title_byte, title_character, title_ended, title_found, title_front_unit, title_name}
use Rattle.run_model.specs.Registers.{Known}
use Rattle.run_model.specs.Requests.{request_effect}
use Rattle.run_model.specs.TitleTexts.{TitlePart, Left, Centre, Right}
use Rattle.run_model.specs.TurnsToCome.{endings_of}
use Rattle.run_model.proofs.KeepingText.{Keeps, KeepsBy, Keeps-asking, Keeps-holding_text, Keeps-if, Keeps-measuring, Keeps-unnamed}
use Rattle.run_model.proofs.KeepingLines.{Keeps-ended_by}

-- the end of its line
pub Keeps-title_ended : (most : ℕ) (k : Known) (i j : PageInput) (old : LineState) → Keeps most i j old → KeepsBy most i (title_ended k j)
Keeps-title_ended most k i j old keeps = Keeps-ended_by most i j old TitleRequest (request_effect k false TitleRequest (arguments_given j)) keeps (omega arith)

-- a byte of a part
Keeps-title_byte : (most : ℕ) (k : Known) (i j : PageInput) (delimiter b : ℕ) → Keeps most i j (InTitle delimiter)
    → KeepsBy most i (title_byte k j delimiter b)
Keeps-title_byte most k i j delimiter b keeps =
    Keeps-if most i (b == newline) _ _ (Keeps-title_ended most k i j (InTitle delimiter) keeps) keeps

-- an escape without a name
Keeps-escape_in_title : (most : ℕ) (i j : PageInput) (delimiter b : ℕ) (kind : Kind) → Keeps most i j (InTitle delimiter)
    → KeepsBy most i (escape_in_title j delimiter b kind)
Keeps-escape_in_title most i j delimiter b (Prints byte) keeps = keeps
Keeps-escape_in_title most i j delimiter b Blank keeps = keeps
Keeps-escape_in_title most i j delimiter b NoWidth keeps = keeps
Keeps-escape_in_title most i j delimiter b GivesTab keeps = keeps
Keeps-escape_in_title most i j delimiter b Interrupts keeps = keeps
Keeps-escape_in_title most i j delimiter b Brace keeps = keeps
Keeps-escape_in_title most i j delimiter b IsLeftOut keeps = keeps
Keeps-escape_in_title most i j delimiter b GivesNothing keeps = keeps
Keeps-escape_in_title most i j delimiter b BeginsComment keeps = keeps
Keeps-escape_in_title most i j delimiter b BeginsSize keeps = keeps
Keeps-escape_in_title most i j delimiter b (BeginsName purpose) keeps = keeps
Keeps-escape_in_title most i j delimiter b (BeginsText OfMotion) keeps = keeps
Keeps-escape_in_title most i j delimiter b (BeginsText (LeftOutText byte)) keeps = keeps
Keeps-escape_in_title most i j delimiter b BeginsWidth keeps = keeps

-- a character
Keeps-character_put : (most : ℕ) (i j : PageInput) (delimiter : ℕ) (name text : Option (List ℕ)) → Keeps most i j (InTitle delimiter)
    → KeepsBy most i (character_put j delimiter name text)
Keeps-character_put most i j delimiter name (Some text) keeps = keeps
Keeps-character_put most i j delimiter name None keeps = keeps

Keeps-title_character : (most : ℕ) (i j : PageInput) (delimiter : ℕ) (name : Option (List ℕ)) → Keeps most i j (InTitle delimiter)
    → KeepsBy most i (title_character j delimiter name)
Keeps-title_character most i j delimiter (Some name) keeps = Keeps-character_put most i j delimiter (Some name) (character name) keeps
Keeps-title_character most i j delimiter None keeps = keeps

-- the name behind an escape
Keeps-title_name : (most : ℕ) (k : Known) (i j : PageInput) (delimiter : ℕ) (purpose : NameUse) (name : Option (List ℕ)) → Keeps most i j (InTitle delimiter)
    → KeepsBy most i (title_name k j delimiter purpose name)
Keeps-title_name most k i j delimiter Character name keeps = Keeps-title_character most i j delimiter name keeps
Keeps-title_name most k i j delimiter Font name keeps = keeps
Keeps-title_name most k i j delimiter (NameLeftOut b) name keeps = keeps
Keeps-title_name most k i j delimiter (Register step) name keeps = Keeps-asking most k i j (InTitle delimiter) (Register step) name keeps
Keeps-title_name most k i j delimiter OfText name keeps = Keeps-asking most k i j (InTitle delimiter) OfText name keeps
Keeps-title_name most k i j delimiter Argument name keeps = Keeps-asking most k i j (InTitle delimiter) Argument name keeps

-- what was found of a part
pub Keeps-title_found : (most : ℕ) (k : Known) (i j : PageInput) (delimiter : ℕ) (found : Found) → Keeps most i j (InTitle delimiter)
    → KeepsBy most i (title_found k j delimiter found)
Keeps-title_found most k i j delimiter GoesOn keeps = keeps
Keeps-title_found most k i j delimiter (GivesUnit (Byte b)) keeps = Keeps-title_byte most k i j delimiter b keeps
Keeps-title_found most k i j delimiter (GivesUnit (Kept b)) keeps = Keeps-escape_in_title most i j delimiter b (escape_of b) keeps
Keeps-title_found most k i j delimiter (Escape b) keeps = Keeps-escape_in_title most i j delimiter b (escape_of b) keeps
Keeps-title_found most k i j delimiter (Asks purpose name) keeps = Keeps-title_name most k i j delimiter purpose name keeps
Keeps-title_found most k i j delimiter (Holds unit) keeps = Keeps-holding_text most i j (InTitle delimiter) unit keeps
Keeps-title_found most k i j delimiter (Motion columns remark) keeps = keeps
Keeps-title_found most k i j delimiter (Measures width) keeps = Keeps-measuring most i j (InTitle delimiter) width keeps
Keeps-title_found most k i j delimiter (Tells remark) keeps = keeps
Keeps-title_found most k i j delimiter (Decides decision freed) keeps = keeps

-- a unit in front of the parts
pub Keeps-title_front_unit : (most : ℕ) (k : Known) (i j : PageInput) (unit : CopyUnit) → Keeps most i j TitleFront
    → KeepsBy most i (title_front_unit k j unit)
Keeps-title_front_unit most k i j (Byte b) keeps =
    Keeps-if most i (b == newline) _ _ (Keeps-title_ended most k i j TitleFront keeps)
    (Keeps-if most i (b == blank) _ _ keeps (Keeps-unnamed most i j TitleFront (InTitle b) keeps refl))
Keeps-title_front_unit most k i j (Kept b) keeps = Keeps-unnamed most i j TitleFront _ keeps refl

-- a delimiter: arguments may follow
pub Keeps-behind_part : (most : ℕ) (i j : PageInput) (delimiter : ℕ) (part : TitlePart) → Keeps most i j (InTitle delimiter)
    → 2 * endings_of j.escapes + 4 ≤ most → KeepsBy most i (behind_part j delimiter part)
Keeps-behind_part most i j delimiter Left keeps few = keeps
Keeps-behind_part most i j delimiter Centre keeps few = keeps
Keeps-behind_part most i j delimiter Right keeps few =
    record { charge = keeps.charge; newlines = keeps.newlines; line = keeps.line; free = keeps.free; few = keeps.few; escapes = few }
