-- Behind each word's end a text line tells a gap, the line's end or a break.
use Rattle.std.proofs.Common.{ℕ, Bool, true, false, List, [], ◌∷◌, ◌++◌, map, Option, Some, None, if◌then◌else◌, ◌==◌, ◌||◌}
use Rattle.page_model.specs.declared.event.Event.TheVariants.{Print, Tab}
use Rattle.page_model.specs.declared.glyph.Glyph.{Glyph}
use Rattle.page_model.specs.declared.glyph.Glyph.TheVariants.{Blanks, Printed}
use Rattle.roff_num.specs.declared.num.Num.{Num}
use Rattle.input_source.specs.Bytes.{apostrophe, blank, dot, is_silent, newline, tab}
use Rattle.input_escapes.specs.Characters.{character}
use Rattle.input_escapes.specs.Escapes.{escape_of}
use Rattle.input_escapes.specs.declared.escapes.Escape.{Escape as Kind}
use Rattle.input_escapes.specs.declared.escapes.Escape.TheVariants.{Prints, Blank, NoWidth, Nothing as GivesNothing, Tab as GivesTab, Interrupts, Brace, LeftOut as IsLeftOut, Comment, Size, Name as HasName, Text as BeginsText, Width}
use Rattle.input_escapes.specs.declared.escapes.NameUse.{NameUse}
use Rattle.input_escapes.specs.declared.escapes.NameUse.TheVariants.{Register, Text as OfText, Argument as OfArgument, Character, Font, LeftOut as NameLeftOut}
use Rattle.input_escapes.specs.declared.escapes.TextUse.TheVariants.{Motion as OfMotion, LeftOut as LeftOutText}
use Rattle.input_escapes.specs.declared.open_escape.CopyUnit.TheVariants.{Byte, Kept}
use Rattle.input_escapes.specs.declared.open_escape.Found.{Found}
use Rattle.input_escapes.specs.declared.open_escape.Found.TheVariants.{GoesOn, Unit, Holds, Escape, Asks, Motion, Measures, Tells, Decides}
use Rattle.run_model.specs.PageEvents.{PageEvent}
use Rattle.run_model.specs.Reading.Beginnings.{beginning_found, beginning_text, escape_begun, first_escape, first_name, first_taking, going_on_told, line_begun, line_begun_as}
use Rattle.run_model.specs.Reading.Escapes.{asking}
use Rattle.run_model.specs.Reading.Items.{PageInput, Taking}
use Rattle.run_model.specs.Reading.TextLines.{blank_taking, character_printed, character_taking, escape_meant, glyphs_taking, leading_glyph, left_out_taking, motion_taking, name_taking, other_taking, tab_taking, text_found, text_line_end, text_taking}
use Rattle.run_model.specs.Registers.{Known}
use Rattle.run_model.specs.Requests.Effects.{page_numbered}
use Rattle.run_model.specs.declared.event.PageEvent.TheVariants.{Text}
use Rattle.run_model.specs.declared.line_state.LineState.{LineState}
use Rattle.run_model.specs.declared.line_state.LineState.TheVariants.{LineStart, Branch, Braced, Text as InText}
use Rattle.run_model.specs.declared.line_state.TextLine.{TextLine}
use Rattle.law_escapes.specs.WordEnds.{AreFollowed, TextLinesEndWordsSo}

-- so it is of what is done with an item
abbrev EndsSo : Taking → Type 0
EndsSo t = AreFollowed t.effect.events

-- either of two, by a test
so-if : (c : Bool) (t u : Taking) → EndsSo t → EndsSo u → EndsSo (if c then t else u)
so-if true t u first second = first
so-if false t u first second = second

followed-if : (c : Bool) (es fs : List PageEvent) → AreFollowed es → AreFollowed fs → AreFollowed (if c then es else fs)
followed-if true es fs first second = first
followed-if false es fs first second = second

-- behind leading blanks
followed-leading : (n : ℕ) (events : List PageEvent) → AreFollowed events → AreFollowed (leading_glyph n ++ events)
followed-leading n events followed = by_none (n == 0)
  where
    by_none : (c : Bool) → AreFollowed ((if c then [] else Text (Print (Blanks n)) ∷ []) ++ events)
    by_none true = followed
    by_none false = followed

followed-glyphs : (glyphs : List Glyph) → AreFollowed (map (λ glyph. Text (Print glyph)) glyphs)
followed-glyphs [] = tt
followed-glyphs (g ∷ glyphs) = followed-glyphs glyphs

so-glyphs : (i : PageInput) (line : TextLine) (glyphs : List Glyph) → EndsSo (glyphs_taking i line glyphs)
so-glyphs i line glyphs = followed-leading line.leading (map (λ glyph. Text (Print glyph)) glyphs) (followed-glyphs glyphs)

so-tab : (i : PageInput) (line : TextLine) → EndsSo (tab_taking i line)
so-tab i line = followed-leading line.leading (Text Tab ∷ []) tt

followed-end : (line : TextLine) → AreFollowed (text_line_end line)
followed-end line = followed-if (line.has_glyph || line.has_other) _ _ (tt, tt) (followed-if line.has_brace _ _ tt (tt, tt))

so-blank : (i : PageInput) (line : TextLine) → EndsSo (blank_taking i line)
so-blank i line = so-if line.has_glyph _ _ (tt, tt) (followed-if (line.leading == 0) _ _ (tt, tt) tt)

so-text : (i : PageInput) (line : TextLine) (b : ℕ) → EndsSo (text_taking i line b)
so-text i line b =
    so-if (b == newline) _ _ (followed-end line)
    (so-if (b == tab) _ _ (so-tab i line)
    (so-if (is_silent b) _ _ tt (so-if (b == blank) _ _ (so-blank i line) (so-glyphs i line (Printed b ∷ [])))))

-- an escape of a text line
so-meant : (i : PageInput) (line : TextLine) (b : ℕ) (kind : Kind) → EndsSo (escape_meant i line b kind)
so-meant i line b (Prints byte) = so-glyphs i line (Printed byte ∷ [])
so-meant i line b Blank = so-glyphs i line (Blanks 1 ∷ [])
so-meant i line b NoWidth = so-glyphs i line (Blanks 0 ∷ [])
so-meant i line b GivesNothing = tt
so-meant i line b GivesTab = so-tab i line
so-meant i line b Interrupts = tt
so-meant i line b Brace = tt
so-meant i line b IsLeftOut = tt
so-meant i line b Comment = tt
so-meant i line b Size = tt
so-meant i line b (HasName purpose) = tt
so-meant i line b (BeginsText OfMotion) = tt
so-meant i line b (BeginsText (LeftOutText byte)) = tt
so-meant i line b Width = tt

so-printed : (i : PageInput) (line : TextLine) (name : Option (List ℕ)) (text : Option (List ℕ)) → EndsSo (character_printed i line name text)
so-printed i line name (Some text) = so-glyphs i line (map Printed text)
so-printed i line name None = tt

so-character : (i : PageInput) (line : TextLine) (name : Option (List ℕ)) → EndsSo (character_taking i line name)
so-character i line (Some name) = so-printed i line (Some name) (character name)
so-character i line None = tt

followed-numbered : (number : Option Num) → AreFollowed (page_numbered number)
followed-numbered None = tt
followed-numbered (Some number) = tt

so-asking : (k : Known) (i : PageInput) (reading : LineState) (purpose : NameUse) (name : Option (List ℕ)) → EndsSo (asking k i reading purpose name)
so-asking k i reading purpose None = tt
so-asking k i reading (Register step) (Some name) = followed-numbered _
so-asking k i reading OfText (Some name) = tt
so-asking k i reading OfArgument (Some name) = tt
so-asking k i reading Character (Some name) = tt
so-asking k i reading Font (Some name) = tt
so-asking k i reading (NameLeftOut b) (Some name) = tt

so-name : (k : Known) (i : PageInput) (reading : LineState) (line : TextLine) (purpose : NameUse) (name : Option (List ℕ))
    → EndsSo (name_taking k i reading line purpose name)
so-name k i reading line Character name = so-character i line name
so-name k i reading line Font name = tt
so-name k i reading line (NameLeftOut b) name = tt
so-name k i reading line (Register step) name = so-asking k i reading (Register step) name
so-name k i reading line OfText name = so-asking k i reading OfText name
so-name k i reading line OfArgument name = so-asking k i reading OfArgument name

so-found : (k : Known) (i : PageInput) (line : TextLine) (found : Found) → EndsSo (text_found k i line found)
so-found k i line GoesOn = tt
so-found k i line (Unit (Byte b)) = so-text i line b
so-found k i line (Unit (Kept b)) = so-meant i line b (escape_of b)
so-found k i line (Holds unit) = tt
so-found k i line (Escape b) = so-meant i line b (escape_of b)
so-found k i line (Asks purpose name) = so-name k i (InText line) line purpose name
so-found k i line (Motion columns remark) = followed-leading line.leading (Text (Print (Blanks columns)) ∷ []) tt
so-found k i line (Measures width) = tt
so-found k i line (Tells remark) = tt
so-found k i line (Decides decision freed) = tt

-- a line that begins
so-beginning : (k : Known) (does : TextLine → Taking) → ((line : TextLine) → EndsSo (does line)) → EndsSo (beginning_text k does)
so-beginning k does so = by_interrupted k.interrupted (does (line_begun_as k.interrupted)) (so (line_begun_as k.interrupted))
  where
    by_interrupted : (line : Option TextLine) (t : Taking) → EndsSo t → AreFollowed (going_on_told line ++ t.effect.events)
    by_interrupted None t so = so
    by_interrupted (Some line) t so = so

so-line : (k : Known) (i : PageInput) (b : ℕ) → EndsSo (line_begun k i b)
so-line k i b =
    so-if (b == dot) _ _ tt (so-if (b == apostrophe) _ _ tt (so-beginning k (λ line. text_taking i line b) (λ line. so-text i line b)))

so-escape : (k : Known) (i : PageInput) (b : ℕ) → EndsSo (escape_begun k i b)
so-escape k i b = so-beginning k (λ line. escape_meant i line b (escape_of b)) (λ line. so-meant i line b (escape_of b))

so-first_name : (k : Known) (i : PageInput) (reading : LineState) (purpose : NameUse) (name : Option (List ℕ))
    → EndsSo (first_name k i reading purpose name)
so-first_name k i reading Character name = so-beginning k (λ line. character_taking i line name) (λ line. so-character i line name)
so-first_name k i reading Font name = so-beginning k (λ line. other_taking i line) (λ line. tt)
so-first_name k i reading (NameLeftOut b) name = so-beginning k (λ line. left_out_taking i line b) (λ line. tt)
so-first_name k i reading (Register step) name = so-asking k i reading (Register step) name
so-first_name k i reading OfText name = so-asking k i reading OfText name
so-first_name k i reading OfArgument name = so-asking k i reading OfArgument name

so-begun : (k : Known) (i : PageInput) (reading : LineState) → ((b : ℕ) → EndsSo (first_taking k i reading b))
    → ((b : ℕ) → EndsSo (first_escape k i reading b)) → (found : Found) → EndsSo (beginning_found k i reading found)
so-begun k i reading taken escaped GoesOn = tt
so-begun k i reading taken escaped (Unit (Byte b)) = taken b
so-begun k i reading taken escaped (Unit (Kept b)) = escaped b
so-begun k i reading taken escaped (Holds unit) = tt
so-begun k i reading taken escaped (Escape b) = escaped b
so-begun k i reading taken escaped (Asks purpose name) = so-first_name k i reading purpose name
so-begun k i reading taken escaped (Motion columns remark) =
    so-beginning k (λ line. motion_taking i line columns remark) (λ line. followed-leading line.leading (Text (Print (Blanks columns)) ∷ []) tt)
so-begun k i reading taken escaped (Measures width) = tt
so-begun k i reading taken escaped (Tells remark) = tt
so-begun k i reading taken escaped (Decides decision freed) = tt

pub text_lines_end_words_so : TextLinesEndWordsSo
text_lines_end_words_so k i found = record {
  on_line = λ line. so-found k i line found;
  at_start = so-begun k i LineStart (λ b. so-line k i b) (λ b. so-if (b == newline) _ _ tt (so-escape k i b)) found;
  in_branch =
      so-begun k i Branch (λ b. so-if (b == blank) _ _ tt (so-line k i b))
      (λ b. so-if (b == 123) _ _ tt (so-if (b == newline) _ _ tt (so-escape k i b))) found;
  behind_brace =
      so-begun k i Braced (λ b. so-if (b == blank) _ _ tt (so-if (b == newline) _ _ tt (so-line k i b)))
      (λ b. so-if (b == newline) _ _ tt (so-escape k i b)) found;
}
