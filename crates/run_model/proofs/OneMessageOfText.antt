-- What text lines mean, titles, and what begins a line tells one thing at the most.
--
-- Each function f of reading has its lemma Brief-f here, with a line for each of its cases.
use Rattle.std.proofs.Common.{arith, ℕ, Bool, true, false, List, [], ◌∷◌, Option, Some, None, if◌then◌else◌, ◌==◌}
use Rattle.input_source.specs.Bytes.{tab, newline, blank, apostrophe, dot, is_silent}
use Rattle.input_escapes.specs.Characters.{character}
use Rattle.input_escapes.specs.Escapes.{escape_of}
use Rattle.roff_num.specs.declared.direction.Direction.{Direction}
use Rattle.input_escapes.specs.declared.escapes.Escape.{Escape as Kind}
use Rattle.input_escapes.specs.declared.escapes.Escape.TheVariants.{Prints, Blank, NoWidth, Nothing as GivesNothing, Brace, LeftOut as IsLeftOut, Comment as BeginsComment, Size as BeginsSize, Name as BeginsName, Text as BeginsText, Width as BeginsWidth, Tab as GivesTab, Interrupts}
use Rattle.input_escapes.specs.declared.escapes.NameUse.{NameUse}
use Rattle.input_escapes.specs.declared.escapes.NameUse.TheVariants.{Register, Text as OfText, Argument, Character, Font, LeftOut as NameLeftOut}
use Rattle.input_escapes.specs.declared.escapes.TextUse.TheVariants.{Motion as OfMotion, LeftOut as LeftOutText}
use Rattle.input_escapes.specs.declared.open_escape.CopyUnit.{CopyUnit}
use Rattle.input_escapes.specs.declared.open_escape.CopyUnit.TheVariants.{Byte, Kept}
use Rattle.input_escapes.specs.declared.open_escape.Found.{Found}
use Rattle.input_escapes.specs.declared.open_escape.Found.TheVariants.{GoesOn, Unit as GivesUnit, Holds, Escape, Asks, Motion, Measures, Tells as Says, Decides}
use Rattle.input_model.specs.Input.Calls.{arguments_given}
use Rattle.run_model.specs.Reading.Beginnings.{beginning_found, escape_begun, first_escape, first_name, first_taking, line_begun, line_begun_as}
use Rattle.run_model.specs.Reading.Escapes.{asking}
use Rattle.run_model.specs.Reading.Items.{PageInput}
use Rattle.run_model.specs.Reading.TextLines.{blank_taking, character_printed, character_taking, escape_meant, escape_taking, name_taking, text_found, text_taking}
use Rattle.run_model.specs.Reading.Titles.{behind_part, character_put, escape_in_title, title_character, title_ended, title_found, title_front_unit, title_name}
use Rattle.run_model.specs.Reading.Units.{no_unit_found}
use Rattle.run_model.specs.Registers.{Known, is_step_out_of_range, step_messages}
use Rattle.run_model.specs.declared.line_state.LineState.{LineState}
use Rattle.run_model.specs.declared.line_state.LineState.TheVariants.{LineStart, Branch, Braced, Text as InText, Control, Name, Deciding, Skipping, Dropped, Told, Exiting, TitleFront, Title as InTitle, Collecting}
use Rattle.run_model.specs.declared.line_state.TextLine.{TextLine}
use Rattle.run_model.specs.declared.message.Message.TheVariants.{BadNumber}
use Rattle.run_model.specs.declared.request.Request.TheVariants.{Title as TitleRequest}
use Rattle.run_model.specs.declared.title.TitlePart.{TitlePart}
use Rattle.run_model.specs.declared.title.TitlePart.TheVariants.{Left, Centre, Right}
use Rattle.input_model.specs.Arguments.{no_arguments}
use Rattle.run_model.specs.Requests.{request_effect}
use Rattle.run_model.specs.Requests.Effects.{Effect}
use Rattle.run_model.proofs.HeldBytes.{held-calling_all}
use Rattle.run_model.proofs.OneMessage.{Brief, Brief-if, NamesRequest, most_held, TellsOne, one-remark, short-character_name, short-remark}
use Rattle.run_model.proofs.OneMessageOfRequests.{one-request_effect}

-- a byte of a text line
Brief-blank_taking : (i : PageInput) (line : TextLine) → Brief (most_held i) (blank_taking i line)
Brief-blank_taking i line = Brief-if line.has_glyph _ _ (tt, tt, omega arith) (tt, tt, omega arith)

Brief-text_taking : (i : PageInput) (line : TextLine) (b : ℕ) → Brief (most_held i) (text_taking i line b)
Brief-text_taking i line b =
    Brief-if (b == newline) _ _ (tt, tt, omega arith)
    (Brief-if (b == tab) _ _ (tt, tt, omega arith)
    (Brief-if (is_silent b) _ _ (tt, tt, omega arith) (Brief-if (b == blank) _ _ (Brief-blank_taking i line) (tt, tt, omega arith))))

-- an escape without a name
Brief-escape_meant : (i : PageInput) (line : TextLine) (b : ℕ) (kind : Kind) → Brief (most_held i) (escape_meant i line b kind)
Brief-escape_meant i line b (Prints byte) = (tt, tt, omega arith)
Brief-escape_meant i line b Blank = (tt, tt, omega arith)
Brief-escape_meant i line b NoWidth = (tt, tt, omega arith)
Brief-escape_meant i line b GivesTab = (tt, tt, omega arith)
Brief-escape_meant i line b Interrupts = (tt, tt, omega arith)
Brief-escape_meant i line b Brace = (tt, tt, omega arith)
Brief-escape_meant i line b IsLeftOut = (tt, tt, omega arith)
Brief-escape_meant i line b GivesNothing = (tt, tt, omega arith)
Brief-escape_meant i line b BeginsComment = (tt, tt, omega arith)
Brief-escape_meant i line b BeginsSize = (tt, tt, omega arith)
Brief-escape_meant i line b (BeginsName purpose) = (tt, tt, omega arith)
Brief-escape_meant i line b (BeginsText OfMotion) = (tt, tt, omega arith)
Brief-escape_meant i line b (BeginsText (LeftOutText byte)) = (tt, tt, omega arith)
Brief-escape_meant i line b BeginsWidth = (tt, tt, omega arith)

Brief-escape_taking : (i : PageInput) (line : TextLine) (b : ℕ) → Brief (most_held i) (escape_taking i line b)
Brief-escape_taking i line b = Brief-escape_meant i line b (escape_of b)

-- a character
Brief-character_printed : (i : PageInput) (line : TextLine) (name text : Option (List ℕ)) → Brief (most_held i) (character_printed i line name text)
Brief-character_printed i line name (Some text) = (tt, tt, omega arith)
Brief-character_printed i line name None = (short-character_name name, tt, omega arith)

Brief-character_taking : (i : PageInput) (line : TextLine) (name : Option (List ℕ)) → Brief (most_held i) (character_taking i line name)
Brief-character_taking i line (Some name) = Brief-character_printed i line (Some name) (character name)
Brief-character_taking i line None = (tt, tt, omega arith)

-- the first byte of a line, and of a branch
Brief-line_begun : (k : Known) (i : PageInput) (b : ℕ) → Brief (most_held i) (line_begun k i b)
Brief-line_begun k i b =
    Brief-if (b == dot) _ _ (tt, tt, omega arith) (Brief-if (b == apostrophe) _ _ (tt, tt, omega arith) (Brief-text_taking i (line_begun_as k.interrupted) b))

Brief-first_taking : (k : Known) (i : PageInput) (reading : LineState) (b : ℕ) → Brief (most_held i) (first_taking k i reading b)
Brief-first_taking k i Branch b = Brief-if (b == blank) _ _ (tt, tt, omega arith) (Brief-line_begun k i b)
Brief-first_taking k i Braced b = Brief-if (b == blank) _ _ (tt, tt, omega arith) (Brief-if (b == newline) _ _ (tt, tt, omega arith) (Brief-line_begun k i b))
Brief-first_taking k i LineStart b = Brief-line_begun k i b
Brief-first_taking k i (InText line) b = Brief-line_begun k i b
Brief-first_taking k i (Control breaks) b = Brief-line_begun k i b
Brief-first_taking k i (Name breaks first) b = Brief-line_begun k i b
Brief-first_taking k i (Collecting purpose) b = Brief-line_begun k i b
Brief-first_taking k i (Deciding keeps) b = Brief-line_begun k i b
Brief-first_taking k i (Skipping opened closed behind) b = Brief-line_begun k i b
Brief-first_taking k i Dropped b = Brief-line_begun k i b
Brief-first_taking k i (Told aborts) b = Brief-line_begun k i b
Brief-first_taking k i Exiting b = Brief-line_begun k i b
Brief-first_taking k i TitleFront b = Brief-line_begun k i b
Brief-first_taking k i (InTitle delimiter) b = Brief-line_begun k i b

-- an escape there
Brief-escape_begun : (k : Known) (i : PageInput) (b : ℕ) → Brief (most_held i) (escape_begun k i b)
Brief-escape_begun k i b = Brief-escape_taking i (line_begun_as k.interrupted) b

Brief-escape_first : (k : Known) (i : PageInput) (b : ℕ) → Brief (most_held i) (first_escape k i LineStart b)
Brief-escape_first k i b = Brief-if (b == newline) _ _ (tt, tt, omega arith) (Brief-escape_begun k i b)

Brief-first_escape : (k : Known) (i : PageInput) (reading : LineState) (b : ℕ) → Brief (most_held i) (first_escape k i reading b)
Brief-first_escape k i Branch b = Brief-if (b == 123) _ _ (tt, tt, omega arith) (Brief-if (b == newline) _ _ (tt, tt, omega arith) (Brief-escape_begun k i b))
Brief-first_escape k i LineStart b = Brief-escape_first k i b
Brief-first_escape k i Braced b = Brief-escape_first k i b
Brief-first_escape k i (InText line) b = Brief-escape_first k i b
Brief-first_escape k i (Control breaks) b = Brief-escape_first k i b
Brief-first_escape k i (Name breaks first) b = Brief-escape_first k i b
Brief-first_escape k i (Collecting purpose) b = Brief-escape_first k i b
Brief-first_escape k i (Deciding keeps) b = Brief-escape_first k i b
Brief-first_escape k i (Skipping opened closed behind) b = Brief-escape_first k i b
Brief-first_escape k i Dropped b = Brief-escape_first k i b
Brief-first_escape k i (Told aborts) b = Brief-escape_first k i b
Brief-first_escape k i Exiting b = Brief-escape_first k i b
Brief-first_escape k i TitleFront b = Brief-escape_first k i b
Brief-first_escape k i (InTitle delimiter) b = Brief-escape_first k i b

-- what a name asks for
one-step : (step : Option Direction) (name : List ℕ) (k : Known) → TellsOne (step_messages step name k)
one-step None name k = tt
one-step (Some direction) name k = by_test (is_step_out_of_range direction name k)
  where
    by_test : (beyond : Bool) → TellsOne (if beyond then BadNumber ∷ [] else [])
    by_test true = tt
    by_test false = tt

Brief-asking : (k : Known) (i : PageInput) (reading : LineState) (purpose : NameUse) (name : Option (List ℕ)) → NamesRequest reading
    → Brief (most_held i) (asking k i reading purpose name)
Brief-asking k i reading purpose None named = (tt, named, omega arith)
Brief-asking k i reading (Register step) (Some name) named = (one-step step name k, named, omega arith)
Brief-asking k i reading OfText (Some name) named = (tt, named, omega arith)
Brief-asking k i reading Argument (Some name) named = (tt, named, omega arith)
Brief-asking k i reading Character (Some name) named = (tt, named, omega arith)
Brief-asking k i reading Font (Some name) named = (tt, named, omega arith)
Brief-asking k i reading (NameLeftOut b) (Some name) named = (tt, named, omega arith)

Brief-name_taking : (k : Known) (i : PageInput) (reading : LineState) (line : TextLine) (purpose : NameUse) (name : Option (List ℕ)) → NamesRequest reading
    → Brief (most_held i) (name_taking k i reading line purpose name)
Brief-name_taking k i reading line Character name named = Brief-character_taking i line name
Brief-name_taking k i reading line Font name named = (tt, tt, omega arith)
Brief-name_taking k i reading line (NameLeftOut b) name named = (tt, tt, omega arith)
Brief-name_taking k i reading line (Register step) name named = Brief-asking k i reading (Register step) name named
Brief-name_taking k i reading line OfText name named = Brief-asking k i reading OfText name named
Brief-name_taking k i reading line Argument name named = Brief-asking k i reading Argument name named

Brief-first_name : (k : Known) (i : PageInput) (reading : LineState) (purpose : NameUse) (name : Option (List ℕ)) → NamesRequest reading
    → Brief (most_held i) (first_name k i reading purpose name)
Brief-first_name k i reading Character name named = Brief-character_taking i (line_begun_as k.interrupted) name
Brief-first_name k i reading Font name named = (tt, tt, omega arith)
Brief-first_name k i reading (NameLeftOut b) name named = (tt, tt, omega arith)
Brief-first_name k i reading (Register step) name named = Brief-asking k i reading (Register step) name named
Brief-first_name k i reading OfText name named = Brief-asking k i reading OfText name named
Brief-first_name k i reading Argument name named = Brief-asking k i reading Argument name named

-- what was found of a text line
pub Brief-text_found : (k : Known) (i : PageInput) (line : TextLine) (found : Found) → Brief (most_held i) (text_found k i line found)
Brief-text_found k i line GoesOn = (tt, tt, omega arith)
Brief-text_found k i line (GivesUnit (Byte b)) = Brief-text_taking i line b
Brief-text_found k i line (GivesUnit (Kept b)) = Brief-escape_taking i line b
Brief-text_found k i line (Escape b) = Brief-escape_taking i line b
Brief-text_found k i line (Asks purpose name) = Brief-name_taking k i (InText line) line purpose name tt
Brief-text_found k i line (Holds unit) = (tt, tt, omega arith)
Brief-text_found k i line (Motion columns remark) = (one-remark remark, tt, omega arith)
Brief-text_found k i line (Measures width) = (tt, tt, omega arith)
Brief-text_found k i line (Says remark) = (short-remark remark, tt, omega arith)
Brief-text_found k i line (Decides decision freed) = (tt, tt, omega arith)

-- what was found where a line begins, or a branch
pub Brief-beginning_found : (k : Known) (i : PageInput) (reading : LineState) (found : Found) → NamesRequest reading → Brief (most_held i) (beginning_found k i reading found)
Brief-beginning_found k i reading GoesOn named = (tt, named, omega arith)
Brief-beginning_found k i reading (GivesUnit (Byte b)) named = Brief-first_taking k i reading b
Brief-beginning_found k i reading (GivesUnit (Kept b)) named = Brief-first_escape k i reading b
Brief-beginning_found k i reading (Escape b) named = Brief-first_escape k i reading b
Brief-beginning_found k i reading (Asks purpose name) named = Brief-first_name k i reading purpose name named
Brief-beginning_found k i reading (Holds unit) named = (tt, named, omega arith)
Brief-beginning_found k i reading (Motion columns remark) named = (one-remark remark, tt, omega arith)
Brief-beginning_found k i reading (Measures width) named = (tt, named, omega arith)
Brief-beginning_found k i reading (Says remark) named = (short-remark remark, named, omega arith)
Brief-beginning_found k i reading (Decides decision freed) named = (tt, named, omega arith)

-- what was found that is no unit
pub Brief-no_unit_found : (k : Known) (i : PageInput) (reading : LineState) (found : Found) → NamesRequest reading → Brief (most_held i) (no_unit_found k i reading found)
Brief-no_unit_found k i reading (Holds unit) named = (tt, named, omega arith)
Brief-no_unit_found k i reading (Asks purpose name) named = Brief-asking k i reading purpose name named
Brief-no_unit_found k i reading (Measures width) named = (tt, named, omega arith)
Brief-no_unit_found k i reading (Says remark) named = (short-remark remark, named, omega arith)
Brief-no_unit_found k i reading GoesOn named = (tt, named, omega arith)
Brief-no_unit_found k i reading (GivesUnit unit) named = (tt, named, omega arith)
Brief-no_unit_found k i reading (Escape b) named = (tt, named, omega arith)
Brief-no_unit_found k i reading (Motion columns remark) named = (tt, named, omega arith)
Brief-no_unit_found k i reading (Decides decision freed) named = (tt, named, omega arith)

-- the end of a title's line
pub Brief-title_ended : (k : Known) (i : PageInput) → Brief (most_held i) (title_ended k i)
Brief-title_ended k i =
    let effect : Effect = request_effect k false TitleRequest (arguments_given i) in
    let released : PageInput = record i { arguments = no_arguments } in
    (one-request_effect k false TitleRequest (arguments_given i) tt, tt, omega (arith, held-calling_all effect.calls released))

-- an escape of a title without a name
Brief-escape_in_title : (i : PageInput) (delimiter b : ℕ) (kind : Kind) → Brief (most_held i) (escape_in_title i delimiter b kind)
Brief-escape_in_title i delimiter b (Prints byte) = (tt, tt, omega arith)
Brief-escape_in_title i delimiter b Blank = (tt, tt, omega arith)
Brief-escape_in_title i delimiter b NoWidth = (tt, tt, omega arith)
Brief-escape_in_title i delimiter b GivesTab = (tt, tt, omega arith)
Brief-escape_in_title i delimiter b Interrupts = (tt, tt, omega arith)
Brief-escape_in_title i delimiter b Brace = (tt, tt, omega arith)
Brief-escape_in_title i delimiter b IsLeftOut = (tt, tt, omega arith)
Brief-escape_in_title i delimiter b GivesNothing = (tt, tt, omega arith)
Brief-escape_in_title i delimiter b BeginsComment = (tt, tt, omega arith)
Brief-escape_in_title i delimiter b BeginsSize = (tt, tt, omega arith)
Brief-escape_in_title i delimiter b (BeginsName purpose) = (tt, tt, omega arith)
Brief-escape_in_title i delimiter b (BeginsText OfMotion) = (tt, tt, omega arith)
Brief-escape_in_title i delimiter b (BeginsText (LeftOutText byte)) = (tt, tt, omega arith)
Brief-escape_in_title i delimiter b BeginsWidth = (tt, tt, omega arith)

-- a character of one, and a name
Brief-character_put : (i : PageInput) (delimiter : ℕ) (name text : Option (List ℕ)) → Brief (most_held i) (character_put i delimiter name text)
Brief-character_put i delimiter name (Some text) = (tt, tt, omega arith)
Brief-character_put i delimiter name None = (short-character_name name, tt, omega arith)

Brief-title_character : (i : PageInput) (delimiter : ℕ) (name : Option (List ℕ)) → Brief (most_held i) (title_character i delimiter name)
Brief-title_character i delimiter (Some name) = Brief-character_put i delimiter (Some name) (character name)
Brief-title_character i delimiter None = (tt, tt, omega arith)

Brief-title_name : (k : Known) (i : PageInput) (delimiter : ℕ) (purpose : NameUse) (name : Option (List ℕ)) → Brief (most_held i) (title_name k i delimiter purpose name)
Brief-title_name k i delimiter Character name = Brief-title_character i delimiter name
Brief-title_name k i delimiter Font name = (tt, tt, omega arith)
Brief-title_name k i delimiter (NameLeftOut b) name = (tt, tt, omega arith)
Brief-title_name k i delimiter (Register step) name = Brief-asking k i (InTitle delimiter) (Register step) name tt
Brief-title_name k i delimiter OfText name = Brief-asking k i (InTitle delimiter) OfText name tt
Brief-title_name k i delimiter Argument name = Brief-asking k i (InTitle delimiter) Argument name tt

-- what was found of a part
pub Brief-title_found : (k : Known) (i : PageInput) (delimiter : ℕ) (found : Found) → Brief (most_held i) (title_found k i delimiter found)
Brief-title_found k i delimiter GoesOn = (tt, tt, omega arith)
Brief-title_found k i delimiter (GivesUnit (Byte b)) = Brief-if (b == newline) _ _ (Brief-title_ended k i) (tt, tt, omega arith)
Brief-title_found k i delimiter (GivesUnit (Kept b)) = Brief-escape_in_title i delimiter b (escape_of b)
Brief-title_found k i delimiter (Escape b) = Brief-escape_in_title i delimiter b (escape_of b)
Brief-title_found k i delimiter (Holds unit) = (tt, tt, omega arith)
Brief-title_found k i delimiter (Asks purpose name) = Brief-title_name k i delimiter purpose name
Brief-title_found k i delimiter (Motion columns remark) = (one-remark remark, tt, omega arith)
Brief-title_found k i delimiter (Measures width) = (tt, tt, omega arith)
Brief-title_found k i delimiter (Says remark) = (short-remark remark, tt, omega arith)
Brief-title_found k i delimiter (Decides decision freed) = (tt, tt, omega arith)

-- a unit in front of the parts
pub Brief-title_front_unit : (k : Known) (i : PageInput) (unit : CopyUnit) → Brief (most_held i) (title_front_unit k i unit)
Brief-title_front_unit k i (Byte b) = Brief-if (b == newline) _ _ (Brief-title_ended k i) (Brief-if (b == blank) _ _ (tt, tt, omega arith) (tt, tt, omega arith))
Brief-title_front_unit k i (Kept b) = (tt, tt, omega arith)

-- a delimiter
pub Brief-behind_part : (i : PageInput) (delimiter : ℕ) (part : TitlePart) → Brief (most_held i) (behind_part i delimiter part)
Brief-behind_part i delimiter Left = (tt, tt, omega arith)
Brief-behind_part i delimiter Centre = (tt, tt, omega arith)
Brief-behind_part i delimiter Right = (tt, tt, omega arith)
