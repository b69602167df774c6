-- What a byte of a title means, as `TextEvents` says it of text lines.
use Rattle.std.proofs.Common.{ℕ, false, List, Option, Some, None, inl, refl, ◌==◌}
use Rattle.input_source.specs.Bytes.{newline, blank}
use Rattle.input_escapes.specs.Characters.{character}
use Rattle.input_escapes.specs.Escapes.{escape_of}
use Rattle.input_escapes.specs.declared.escapes.Escape.{Escape as Kind}
use Rattle.input_escapes.specs.declared.escapes.Escape.TheVariants.{Prints, Blank, NoWidth, Nothing as GivesNothing, Tab as GivesTab, Interrupts, Brace, LeftOut as IsLeftOut, Comment as BeginsComment, Size as BeginsSize, Name as BeginsName, Text as BeginsText, Width as BeginsWidth}
use Rattle.input_escapes.specs.declared.escapes.NameUse.{NameUse}
use Rattle.input_escapes.specs.declared.escapes.NameUse.TheVariants.{Register, Text as OfText, Argument, Character, Font, LeftOut as NameLeftOut}
use Rattle.input_escapes.specs.declared.escapes.TextUse.TheVariants.{Motion as OfMotion, LeftOut as LeftOutText}
use Rattle.input_escapes.specs.declared.open_escape.CopyUnit.{CopyUnit}
use Rattle.input_escapes.specs.declared.open_escape.CopyUnit.TheVariants.{Byte, Kept}
use Rattle.input_escapes.specs.declared.open_escape.Found.{Found}
use Rattle.input_escapes.specs.declared.open_escape.Found.TheVariants.{GoesOn, Unit as GivesUnit, Holds, Escape, Asks, Motion, Measures, Tells as Says, Decides}
use Rattle.input_model.specs.Input.Calls.{arguments_given}
use Rattle.run_model.specs.declared.line_state.LineState.TheVariants.{Title as InTitle}
use Rattle.run_model.specs.declared.request.Request.TheVariants.{Title as TitleRequest}
use Rattle.run_model.specs.Reading.Items.{PageInput}
use Rattle.run_model.specs.Reading.Titles.{behind_part, character_put, escape_in_title, title_character, title_ended, title_found, title_front_unit, title_name}
use Rattle.run_model.specs.Registers.{Known}
use Rattle.run_model.specs.declared.title.TitlePart.{TitlePart}
use Rattle.run_model.specs.declared.title.TitlePart.TheVariants.{Left, Centre, Right}
use Rattle.input_model.specs.Arguments.{no_arguments}
use Rattle.run_model.specs.Requests.{request_effect}
use Rattle.run_model.specs.Requests.Effects.{Effect}
use Rattle.run_model.proofs.MeantEvents.{none}
use Rattle.run_model.proofs.GrowingAhead.{Stays, ahead-calling_all, ahead-same}
use Rattle.run_model.proofs.RequestEvents.{few-request_effect}
use Rattle.run_model.proofs.TextEvents.{Tells, Tells-asking, Tells-no_unit_found, Texts, Texts-if, texts_tell}

-- the end of its line
pub Texts-title_ended : (k : Known) (i : PageInput) → Texts i.ahead (title_ended k i)
Texts-title_ended k i =
    let few = few-request_effect k false TitleRequest (arguments_given i) in
    let effect : Effect = request_effect k false TitleRequest (arguments_given i) in
    ((tt, few.0, few.1), ahead-same (ahead-calling_all effect.calls (record i { arguments = no_arguments })))

-- an escape without a name
Texts-escape_in_title : (i : PageInput) (delimiter b : ℕ) (kind : Kind) → Texts i.ahead (escape_in_title i delimiter b kind)
Texts-escape_in_title i delimiter b (Prints byte) = ((tt, tt, tt), Stays)
Texts-escape_in_title i delimiter b Blank = ((tt, tt, tt), Stays)
Texts-escape_in_title i delimiter b NoWidth = ((tt, tt, tt), Stays)
Texts-escape_in_title i delimiter b GivesTab = ((tt, tt, tt), Stays)
Texts-escape_in_title i delimiter b Interrupts = ((tt, tt, tt), Stays)
Texts-escape_in_title i delimiter b Brace = ((tt, tt, tt), Stays)
Texts-escape_in_title i delimiter b IsLeftOut = ((tt, tt, tt), Stays)
Texts-escape_in_title i delimiter b GivesNothing = ((tt, tt, tt), Stays)
Texts-escape_in_title i delimiter b BeginsComment = ((tt, tt, tt), Stays)
Texts-escape_in_title i delimiter b BeginsSize = ((tt, tt, tt), Stays)
Texts-escape_in_title i delimiter b (BeginsName purpose) = ((tt, tt, tt), Stays)
Texts-escape_in_title i delimiter b (BeginsText OfMotion) = ((tt, tt, tt), Stays)
Texts-escape_in_title i delimiter b (BeginsText (LeftOutText byte)) = ((tt, tt, tt), Stays)
Texts-escape_in_title i delimiter b BeginsWidth = ((tt, tt, tt), Stays)

-- a character, and a name
Texts-character_put : (i : PageInput) (delimiter : ℕ) (name text : Option (List ℕ)) → Texts i.ahead (character_put i delimiter name text)
Texts-character_put i delimiter name (Some text) = ((tt, tt, tt), Stays)
Texts-character_put i delimiter name None = ((tt, tt, tt), Stays)

Texts-title_character : (i : PageInput) (delimiter : ℕ) (name : Option (List ℕ)) → Texts i.ahead (title_character i delimiter name)
Texts-title_character i delimiter (Some name) = Texts-character_put i delimiter (Some name) (character name)
Texts-title_character i delimiter None = ((tt, tt, tt), Stays)

Tells-title_name : (k : Known) (i : PageInput) (delimiter : ℕ) (purpose : NameUse) (name : Option (List ℕ)) → Tells (InTitle delimiter) i.ahead (title_name k i delimiter purpose name)
Tells-title_name k i delimiter Character name = texts_tell (Texts-title_character i delimiter name)
Tells-title_name k i delimiter Font name = (inl (refl, none), Stays)
Tells-title_name k i delimiter (NameLeftOut b) name = (inl (refl, none), Stays)
Tells-title_name k i delimiter (Register step) name = Tells-asking k i (InTitle delimiter) (Register step) name
Tells-title_name k i delimiter OfText name = Tells-asking k i (InTitle delimiter) OfText name
Tells-title_name k i delimiter Argument name = Tells-asking k i (InTitle delimiter) Argument name

-- what was found of a part
pub Tells-title_found : (k : Known) (i : PageInput) (delimiter : ℕ) (found : Found) → Tells (InTitle delimiter) i.ahead (title_found k i delimiter found)
Tells-title_found k i delimiter GoesOn = (inl (refl, none), Stays)
Tells-title_found k i delimiter (GivesUnit (Byte b)) =
    texts_tell (Texts-if i.ahead (b == newline) _ _ (Texts-title_ended k i) ((tt, tt, tt), Stays))
Tells-title_found k i delimiter (GivesUnit (Kept b)) = texts_tell (Texts-escape_in_title i delimiter b (escape_of b))
Tells-title_found k i delimiter (Escape b) = texts_tell (Texts-escape_in_title i delimiter b (escape_of b))
Tells-title_found k i delimiter (Holds unit) = (inl (refl, none), Stays)
Tells-title_found k i delimiter (Asks purpose name) = Tells-title_name k i delimiter purpose name
Tells-title_found k i delimiter (Motion columns remark) = (inl (refl, none), Stays)
Tells-title_found k i delimiter (Measures width) = Tells-no_unit_found k i (InTitle delimiter) (Measures width)
Tells-title_found k i delimiter (Says remark) = (inl (refl, none), Stays)
Tells-title_found k i delimiter (Decides decision freed) = (inl (refl, none), Stays)

-- a unit in front of the parts
pub Texts-title_front_unit : (k : Known) (i : PageInput) (unit : CopyUnit) → Texts i.ahead (title_front_unit k i unit)
Texts-title_front_unit k i (Byte b) = Texts-if i.ahead (b == newline) _ _ (Texts-title_ended k i) (Texts-if i.ahead (b == blank) _ _ ((tt, tt, tt), Stays) ((tt, tt, tt), Stays))
Texts-title_front_unit k i (Kept b) = ((tt, tt, tt), Stays)

-- a delimiter
pub Texts-behind_part : (i : PageInput) (delimiter : ℕ) (part : TitlePart) → Texts i.ahead (behind_part i delimiter part)
Texts-behind_part i delimiter Left = ((tt, tt, tt), Stays)
Texts-behind_part i delimiter Centre = ((tt, tt, tt), Stays)
Texts-behind_part i delimiter Right = ((tt, tt, tt), Stays)
