-- What text lines mean, and what begins one: their events are meant, few of them wait, no condition is read behind them, and nothing
-- but bytes and ends is put in front.
--
-- Each function f of reading has its lemma here, with a line for each of its cases: Texts-f where it is of text alone, and else Tells-f.
use Rattle.std.proofs.Common.{ℕ, Bool, true, false, List, [], ◌∷◌, ◌++◌, map, Option, Some, None, inl, inr, refl, option_map, find, bytes_eq, ◌||◌, if◌then◌else◌, ◌==◌, decimal}
use Rattle.page_model.specs.declared.event.Event.TheVariants.{Print, WordEnd, LineEnd, Count, Break, Tab}
use Rattle.page_model.specs.declared.glyph.Glyph.{Glyph}
use Rattle.page_model.specs.declared.glyph.Glyph.TheVariants.{Blanks, Printed}
use Rattle.input_source.specs.Bytes.{tab, newline, blank, apostrophe, dot, is_silent}
use Rattle.std.specs.List.{AllByRecursion}
use Rattle.input_escapes.specs.Characters.{Character as CharacterRow, character, characters}
use Rattle.input_escapes.specs.Escapes.{escape_of}
use Rattle.input_escapes.specs.declared.escapes.Escape.{Escape as Kind}
use Rattle.input_escapes.specs.declared.escapes.Escape.TheVariants.{Prints, Blank, NoWidth, Nothing as GivesNothing, Brace, LeftOut as IsLeftOut, Comment as BeginsComment, Size as BeginsSize, Name as BeginsName, Text as BeginsText, Width as BeginsWidth, Tab as GivesTab, Interrupts}
use Rattle.input_escapes.specs.declared.escapes.NameUse.{NameUse}
use Rattle.input_escapes.specs.declared.escapes.NameUse.TheVariants.{Register, Text as OfText, Argument, Character, Font, LeftOut as NameLeftOut}
use Rattle.input_escapes.specs.declared.escapes.TextUse.TheVariants.{Motion as OfMotion, LeftOut as LeftOutText}
use Rattle.input_escapes.specs.declared.open_escape.CopyUnit.TheVariants.{Byte, Kept}
use Rattle.input_escapes.specs.declared.open_escape.Found.{Found}
use Rattle.input_escapes.specs.declared.open_escape.Found.TheVariants.{GoesOn, Unit as GivesUnit, Holds, Escape, Asks, Motion, Measures, Tells as Says, Decides}
use Rattle.run_model.specs.Reading.Beginnings.{beginning_found, beginning_text, escape_begun, first_escape, first_name, first_taking, going_on_told, line_begun, line_begun_as}
use Rattle.run_model.specs.Reading.Escapes.{asking, argument_named}
use Rattle.run_model.specs.Reading.Items.{PageInput, Taking}
use Rattle.run_model.specs.Reading.TextLines.{blank_line, blank_taking, character_printed, character_taking, escape_meant, escape_taking, glyph_taking, leading_blank_events, leading_glyph, name_taking, text_found, text_line_end, text_taking, other_taking, left_out_taking, motion_taking, tab_taking}
use Rattle.run_model.specs.Reading.Units.{no_unit_found}
use Rattle.run_model.specs.Registers.{Known, page_stepped, known_stepped, text_of_register}
use Rattle.run_model.specs.Requests.{PageEvent, Text}
use Rattle.run_model.proofs.WaitingFew.{AtMost, FewWait, FewWait-short, at_most-more}
use Rattle.run_model.specs.declared.line_state.LineState.{LineState}
use Rattle.run_model.specs.declared.line_state.LineState.TheVariants.{LineStart, Branch, Braced, Text as InText, Control, Name, Deciding, Skipping, Dropped, Told, Exiting, TitleFront, Title as InTitle, Collecting}
use Rattle.run_model.specs.declared.line_state.TextLine.{TextLine}
use Rattle.input_model.specs.Input.{Ahead}
use Rattle.input_model.specs.Input.Calls.{arguments_live}
use Rattle.input_model.specs.Input.Names.{body_named}
use Rattle.run_model.proofs.MeantEvents.{AreMeant, MayTell, Tellable, none}
use Rattle.run_model.proofs.GrowingAhead.{Grows, Stays, WithEnd, ahead-text}
use Rattle.input_escapes.specs.declared.open_escape.Remark.{Remark}

-- what is done with an item of a text line: no condition is read behind it, its events are meant, and few of them wait
abbrev pub Texts : List (Ahead PageEvent) → Taking → Type 0
Texts before t = Tellable t.reading t.effect.events × Grows before t.input.ahead

-- the same of an item that may leave this to be read
abbrev pub Tells : LineState → List (Ahead PageEvent) → Taking → Type 0
Tells old before t = MayTell old t.reading t.effect.events × Grows before t.input.ahead

-- text tells
pub texts_tell : {old reading : LineState} {events : List PageEvent} {before behind : List (Ahead PageEvent)}
    → Tellable reading events × Grows before behind → MayTell old reading events × Grows before behind
texts_tell texts = (inr texts.0, texts.1)

-- either of two, by a test
pub Texts-if : (before : List (Ahead PageEvent)) (b : Bool) (t u : Taking) → Texts before t → Texts before u → Texts before (if b then t else u)
Texts-if before true t u first second = first
Texts-if before false t u first second = second

-- a few events behind leading blanks
meant-leading : (n : ℕ) (events : List PageEvent) → AreMeant events → AreMeant (leading_glyph n ++ events)
meant-leading n events meant = by_test (n == 0)
  where
    by_test : (none : Bool) → AreMeant ((if none then [] else Text (Print (Blanks n)) ∷ []) ++ events)
    by_test true = meant
    by_test false = (tt, meant)

waits-leading : (n : ℕ) (events : List PageEvent) → AtMost 4 events → FewWait (leading_glyph n ++ events)
waits-leading n events most = by_test (n == 0)
  where
    by_test : (none : Bool) → FewWait ((if none then [] else Text (Print (Blanks n)) ∷ []) ++ events)
    by_test true = FewWait-short events (at_most-more 4 events most)
    by_test false = most

-- glyphs behind them
glyphs_told : (n : ℕ) (glyphs : List Glyph) → AtMost 4 (map (λ glyph. Text (Print glyph)) glyphs)
    → AreMeant (leading_glyph n ++ map (λ glyph. Text (Print glyph)) glyphs) × FewWait (leading_glyph n ++ map (λ glyph. Text (Print glyph)) glyphs)
glyphs_told n glyphs most = (meant-leading n _ (meant glyphs), waits-leading n _ most)
  where
    meant : (glyphs : List Glyph) → AreMeant (map (λ glyph. Text (Print glyph)) glyphs)
    meant [] = tt
    meant (glyph ∷ glyphs) = (tt, meant glyphs)

-- the end of a text line
pub line_end_told : (line : TextLine) → Tellable LineStart (text_line_end line)
line_end_told line = by_tests (line.has_glyph || line.has_other) line.has_brace
  where
    by_tests : (told brace : Bool) → Tellable LineStart (if told then Text WordEnd ∷ Text LineEnd ∷ Text Count ∷ [] else if brace then [] else blank_line)
    by_tests true brace = (tt, (tt, (tt, (tt, tt))), tt)
    by_tests false true = (tt, tt, tt)
    by_tests false false = (tt, (tt, (tt, (tt, tt))), tt)

-- a blank of a text line
leading_blanks_told : (before : ℕ) → AreMeant (leading_blank_events before) × FewWait (leading_blank_events before)
leading_blanks_told before = by_test (before == 0)
  where
    by_test : (none : Bool)
        → let events : List PageEvent = if none then Text WordEnd ∷ Text Break ∷ [] else [] in AreMeant events × FewWait events
    by_test true = ((tt, (tt, tt)), tt)
    by_test false = (tt, tt)

Texts-blank_taking : (i : PageInput) (line : TextLine) → Texts i.ahead (blank_taking i line)
Texts-blank_taking i line =
    let told = leading_blanks_told line.leading in Texts-if i.ahead line.has_glyph _ _ ((tt, (tt, (tt, tt)), tt), Stays) ((tt, told.0, told.1), Stays)

-- a byte of one
Texts-glyph_taking : (i : PageInput) (line : TextLine) (glyph : Glyph) → Texts i.ahead (glyph_taking i line glyph)
Texts-glyph_taking i line glyph = let told = glyphs_told line.leading (glyph ∷ []) tt in ((tt, told.0, told.1), Stays)

Texts-tab_taking : (i : PageInput) (line : TextLine) → Texts i.ahead (tab_taking i line)
Texts-tab_taking i line = ((tt, meant-leading line.leading (Text Tab ∷ []) (tt, tt), waits-leading line.leading (Text Tab ∷ []) tt), Stays)

Texts-text_taking : (i : PageInput) (line : TextLine) (b : ℕ) → Texts i.ahead (text_taking i line b)
Texts-text_taking i line b =
    Texts-if i.ahead (b == newline) _ _ (line_end_told line, Stays)
    (Texts-if i.ahead (b == tab) _ _ (Texts-tab_taking i line)
    (Texts-if i.ahead (is_silent b) _ _ ((tt, tt, tt), Stays)
    (Texts-if i.ahead (b == blank) (blank_taking i line) (glyph_taking i line (Printed b)) (Texts-blank_taking i line) (Texts-glyph_taking i line (Printed b)))))

-- an escape without a name
Texts-escape_meant : (i : PageInput) (line : TextLine) (b : ℕ) (kind : Kind) → Texts i.ahead (escape_meant i line b kind)
Texts-escape_meant i line b (Prints byte) = Texts-glyph_taking i line (Printed byte)
Texts-escape_meant i line b Blank = Texts-glyph_taking i line (Blanks 1)
Texts-escape_meant i line b NoWidth = Texts-glyph_taking i line (Blanks 0)
Texts-escape_meant i line b GivesTab = Texts-tab_taking i line
Texts-escape_meant i line b Interrupts = ((tt, (tt, tt), tt), Stays)
Texts-escape_meant i line b Brace = ((tt, tt, tt), Stays)
Texts-escape_meant i line b IsLeftOut = ((tt, tt, tt), Stays)
Texts-escape_meant i line b GivesNothing = ((tt, tt, tt), Stays)
Texts-escape_meant i line b BeginsComment = ((tt, tt, tt), Stays)
Texts-escape_meant i line b BeginsSize = ((tt, tt, tt), Stays)
Texts-escape_meant i line b (BeginsName purpose) = ((tt, tt, tt), Stays)
Texts-escape_meant i line b (BeginsText OfMotion) = ((tt, tt, tt), Stays)
Texts-escape_meant i line b (BeginsText (LeftOutText byte)) = ((tt, tt, tt), Stays)
Texts-escape_meant i line b BeginsWidth = ((tt, tt, tt), Stays)

Texts-escape_taking : (i : PageInput) (line : TextLine) (b : ℕ) → Texts i.ahead (escape_taking i line b)
Texts-escape_taking i line b = Texts-escape_meant i line b (escape_of b)

-- a character has four glyphs at the most
abbrev IsShort : Option (List ℕ) → Type 0
IsShort None = Unit {0}
IsShort (Some text) = AtMost 4 (map (λ glyph. Text (Print glyph)) (map Printed text))

found-short : (is_it : CharacterRow → Bool) (rows : List CharacterRow) → AllByRecursion (λ row. IsShort (Some row.text)) rows
    → IsShort (option_map (λ row. row.text) (find is_it rows))
found-short is_it [] short = tt
found-short is_it (row ∷ rows) short = by_test (is_it row) (found-short is_it rows short.1)
  where
    by_test : (is : Bool) → IsShort (option_map (λ row. row.text) (find is_it rows))
        → IsShort (option_map (λ row. row.text) (if is then Some row else find is_it rows))
    by_test true others = short.0
    by_test false others = others

characters-short : AllByRecursion (λ row. IsShort (Some row.text)) characters
characters-short =
    (tt, (tt, (tt, (tt, (tt, (tt, (tt, (tt, (tt, (tt, (tt, (tt, (tt, (tt, (tt, (tt, (tt, (tt, (tt, (tt, (tt, (tt, (tt, (tt, (tt, (tt, (tt, (tt, (tt, (tt, (tt, (tt, (tt, (tt, (tt, (tt, (tt, (tt, (tt, (tt, (tt, (tt, (tt, (tt, (tt, (tt, (tt, (tt, (tt, (tt, (tt, (tt, tt))))))))))))))))))))))))))))))))))))))))))))))))))))

character-short : (name : List ℕ) → IsShort (character name)
character-short name = found-short (λ row. bytes_eq name row.name) characters characters-short

Texts-character_printed : (i : PageInput) (line : TextLine) (name text : Option (List ℕ)) → IsShort text → Texts i.ahead (character_printed i line name text)
Texts-character_printed i line name (Some text) short = let told = glyphs_told line.leading (map Printed text) short in ((tt, told.0, told.1), Stays)
Texts-character_printed i line name None short = ((tt, tt, tt), Stays)

Texts-character_taking : (i : PageInput) (line : TextLine) (name : Option (List ℕ)) → Texts i.ahead (character_taking i line name)
Texts-character_taking i line (Some name) = Texts-character_printed i line (Some name) (character name) (character-short name)
Texts-character_taking i line None = ((tt, tt, tt), Stays)

-- what a text line does that begins
going_on-told : (left : Option TextLine) (reading : LineState) (events : List PageEvent) → Tellable reading events → Tellable reading (going_on_told left ++ events)
going_on-told None reading events told = told
going_on-told (Some line) reading events told = (told.0, (tt, told.1), told.2)

Texts-beginning_text : (before : List (Ahead PageEvent)) (k : Known) (does : TextLine → Taking) → ((line : TextLine) → Texts before (does line))
    → Texts before (beginning_text k does)
Texts-beginning_text before k does texts =
    let first = texts (line_begun_as k.interrupted) in (going_on-told k.interrupted _ (does (line_begun_as k.interrupted)).effect.events first.0, first.1)

-- the first byte of a line, and of a branch
Texts-line_begun : (k : Known) (i : PageInput) (b : ℕ) → Texts i.ahead (line_begun k i b)
Texts-line_begun k i b =
    Texts-if i.ahead (b == dot) _ _ ((tt, tt, tt), Stays)
    (Texts-if i.ahead (b == apostrophe) _ _ ((tt, tt, tt), Stays) (Texts-beginning_text i.ahead k (λ line. text_taking i line b) (λ line. Texts-text_taking i line b)))

Texts-first_taking : (k : Known) (i : PageInput) (reading : LineState) (b : ℕ) → Texts i.ahead (first_taking k i reading b)
Texts-first_taking k i Branch b = Texts-if i.ahead (b == blank) _ _ ((tt, tt, tt), Stays) (Texts-line_begun k i b)
Texts-first_taking k i Braced b = Texts-if i.ahead (b == blank) _ _ ((tt, tt, tt), Stays) (Texts-if i.ahead (b == newline) _ _ ((tt, tt, tt), Stays) (Texts-line_begun k i b))
Texts-first_taking k i LineStart b = Texts-line_begun k i b
Texts-first_taking k i (InText line) b = Texts-line_begun k i b
Texts-first_taking k i (Control breaks) b = Texts-line_begun k i b
Texts-first_taking k i (Name breaks first) b = Texts-line_begun k i b
Texts-first_taking k i (Collecting purpose) b = Texts-line_begun k i b
Texts-first_taking k i (Deciding keeps) b = Texts-line_begun k i b
Texts-first_taking k i (Skipping opened closed behind) b = Texts-line_begun k i b
Texts-first_taking k i Dropped b = Texts-line_begun k i b
Texts-first_taking k i (Told aborts) b = Texts-line_begun k i b
Texts-first_taking k i Exiting b = Texts-line_begun k i b
Texts-first_taking k i TitleFront b = Texts-line_begun k i b
Texts-first_taking k i (InTitle delimiter) b = Texts-line_begun k i b

-- an escape there
Texts-escape_begun : (k : Known) (i : PageInput) (b : ℕ) → Texts i.ahead (escape_begun k i b)
Texts-escape_begun k i b = Texts-beginning_text i.ahead k (λ line. escape_taking i line b) (λ line. Texts-escape_taking i line b)

Texts-first_escape : (k : Known) (i : PageInput) (reading : LineState) (b : ℕ) → Texts i.ahead (first_escape k i reading b)
Texts-first_escape k i Branch b = Texts-if i.ahead (b == 123) _ _ ((tt, tt, tt), Stays) (Texts-if i.ahead (b == newline) _ _ ((tt, tt, tt), Stays) (Texts-escape_begun k i b))
Texts-first_escape k i LineStart b = Texts-if i.ahead (b == newline) _ _ ((tt, tt, tt), Stays) (Texts-escape_begun k i b)
Texts-first_escape k i Braced b = Texts-if i.ahead (b == newline) _ _ ((tt, tt, tt), Stays) (Texts-escape_begun k i b)
Texts-first_escape k i (InText line) b = Texts-if i.ahead (b == newline) _ _ ((tt, tt, tt), Stays) (Texts-escape_begun k i b)
Texts-first_escape k i (Control breaks) b = Texts-if i.ahead (b == newline) _ _ ((tt, tt, tt), Stays) (Texts-escape_begun k i b)
Texts-first_escape k i (Name breaks first) b = Texts-if i.ahead (b == newline) _ _ ((tt, tt, tt), Stays) (Texts-escape_begun k i b)
Texts-first_escape k i (Collecting purpose) b = Texts-if i.ahead (b == newline) _ _ ((tt, tt, tt), Stays) (Texts-escape_begun k i b)
Texts-first_escape k i (Deciding keeps) b = Texts-if i.ahead (b == newline) _ _ ((tt, tt, tt), Stays) (Texts-escape_begun k i b)
Texts-first_escape k i (Skipping opened closed behind) b = Texts-if i.ahead (b == newline) _ _ ((tt, tt, tt), Stays) (Texts-escape_begun k i b)
Texts-first_escape k i Dropped b = Texts-if i.ahead (b == newline) _ _ ((tt, tt, tt), Stays) (Texts-escape_begun k i b)
Texts-first_escape k i (Told aborts) b = Texts-if i.ahead (b == newline) _ _ ((tt, tt, tt), Stays) (Texts-escape_begun k i b)
Texts-first_escape k i Exiting b = Texts-if i.ahead (b == newline) _ _ ((tt, tt, tt), Stays) (Texts-escape_begun k i b)
Texts-first_escape k i TitleFront b = Texts-if i.ahead (b == newline) _ _ ((tt, tt, tt), Stays) (Texts-escape_begun k i b)
Texts-first_escape k i (InTitle delimiter) b = Texts-if i.ahead (b == newline) _ _ ((tt, tt, tt), Stays) (Texts-escape_begun k i b)

-- what a name asks for
pub Tells-asking : (k : Known) (i : PageInput) (reading : LineState) (purpose : NameUse) (name : Option (List ℕ)) → Tells reading i.ahead (asking k i reading purpose name)
Tells-asking k i reading purpose None = (inl (refl, none), Stays)
Tells-asking k i reading (Register step) (Some name) =
    (inl (refl, (page_stepped step name k, refl)), ahead-text (text_of_register (known_stepped step name k) name) i.ahead)
Tells-asking k i reading OfText (Some name) = (inl (refl, none), ahead-text (body_named name i) i.ahead)
Tells-asking k i reading Argument (Some name) = (inl (refl, none), ahead-text (argument_named name (arguments_live i)) i.ahead)
Tells-asking k i reading Character (Some name) = (inl (refl, none), WithEnd i.ahead Stays)
Tells-asking k i reading Font (Some name) = (inl (refl, none), WithEnd i.ahead Stays)
Tells-asking k i reading (NameLeftOut b) (Some name) = (inl (refl, none), WithEnd i.ahead Stays)

Tells-name_taking : (k : Known) (i : PageInput) (reading : LineState) (line : TextLine) (purpose : NameUse) (name : Option (List ℕ))
    → Tells reading i.ahead (name_taking k i reading line purpose name)
Tells-name_taking k i reading line Character name = texts_tell (Texts-character_taking i line name)
Tells-name_taking k i reading line Font name = (inr (tt, tt, tt), Stays)
Tells-name_taking k i reading line (NameLeftOut b) name = (inr (tt, tt, tt), Stays)
Tells-name_taking k i reading line (Register step) name = Tells-asking k i reading (Register step) name
Tells-name_taking k i reading line OfText name = Tells-asking k i reading OfText name
Tells-name_taking k i reading line Argument name = Tells-asking k i reading Argument name

Tells-first_name : (k : Known) (i : PageInput) (reading : LineState) (purpose : NameUse) (name : Option (List ℕ)) → Tells reading i.ahead (first_name k i reading purpose name)
Tells-first_name k i reading Character name =
    texts_tell (Texts-beginning_text i.ahead k (λ line. character_taking i line name) (λ line. Texts-character_taking i line name))
Tells-first_name k i reading Font name =
    texts_tell (Texts-beginning_text i.ahead k (λ line. other_taking i line) (λ line. ((tt, tt, tt), Stays)))
Tells-first_name k i reading (NameLeftOut b) name =
    texts_tell (Texts-beginning_text i.ahead k (λ line. left_out_taking i line b) (λ line. ((tt, tt, tt), Stays)))
Tells-first_name k i reading (Register step) name = Tells-asking k i reading (Register step) name
Tells-first_name k i reading OfText name = Tells-asking k i reading OfText name
Tells-first_name k i reading Argument name = Tells-asking k i reading Argument name

-- what was found of a text line
Texts-motion_taking : (i : PageInput) (line : TextLine) (columns : ℕ) (remark : Option Remark) → Texts i.ahead (motion_taking i line columns remark)
Texts-motion_taking i line columns remark = let told = glyphs_told line.leading (Blanks columns ∷ []) tt in ((tt, told.0, told.1), Stays)

pub Tells-text_found : (k : Known) (i : PageInput) (line : TextLine) (found : Found) → Tells (InText line) i.ahead (text_found k i line found)
Tells-text_found k i line GoesOn = (inl (refl, none), Stays)
Tells-text_found k i line (GivesUnit (Byte b)) = texts_tell (Texts-text_taking i line b)
Tells-text_found k i line (GivesUnit (Kept b)) = texts_tell (Texts-escape_taking i line b)
Tells-text_found k i line (Escape b) = texts_tell (Texts-escape_taking i line b)
Tells-text_found k i line (Asks purpose name) = Tells-name_taking k i (InText line) line purpose name
Tells-text_found k i line (Holds unit) = (inl (refl, none), Stays)
Tells-text_found k i line (Motion columns remark) = texts_tell (Texts-motion_taking i line columns remark)
Tells-text_found k i line (Measures width) = (inl (refl, none), ahead-text (decimal width) i.ahead)
Tells-text_found k i line (Says remark) = (inl (refl, none), Stays)
Tells-text_found k i line (Decides decision freed) = (inl (refl, none), Stays)

-- what was found where a line begins, or a branch
pub Tells-beginning_found : (k : Known) (i : PageInput) (reading : LineState) (found : Found) → Tells reading i.ahead (beginning_found k i reading found)
Tells-beginning_found k i reading GoesOn = (inl (refl, none), Stays)
Tells-beginning_found k i reading (GivesUnit (Byte b)) = texts_tell (Texts-first_taking k i reading b)
Tells-beginning_found k i reading (GivesUnit (Kept b)) = texts_tell (Texts-first_escape k i reading b)
Tells-beginning_found k i reading (Escape b) = texts_tell (Texts-first_escape k i reading b)
Tells-beginning_found k i reading (Asks purpose name) = Tells-first_name k i reading purpose name
Tells-beginning_found k i reading (Holds unit) = (inl (refl, none), Stays)
Tells-beginning_found k i reading (Motion columns remark) =
    texts_tell (Texts-beginning_text i.ahead k (λ line. motion_taking i line columns remark) (λ line. Texts-motion_taking i line columns remark))
Tells-beginning_found k i reading (Measures width) = (inl (refl, none), ahead-text (decimal width) i.ahead)
Tells-beginning_found k i reading (Says remark) = (inl (refl, none), Stays)
Tells-beginning_found k i reading (Decides decision freed) = (inl (refl, none), Stays)

-- what was found that is no unit
pub Tells-no_unit_found : (k : Known) (i : PageInput) (reading : LineState) (found : Found) → Tells reading i.ahead (no_unit_found k i reading found)
Tells-no_unit_found k i reading (Holds unit) = (inl (refl, none), Stays)
Tells-no_unit_found k i reading (Asks purpose name) = Tells-asking k i reading purpose name
Tells-no_unit_found k i reading (Measures width) = (inl (refl, none), ahead-text (decimal width) i.ahead)
Tells-no_unit_found k i reading (Says remark) = (inl (refl, none), Stays)
Tells-no_unit_found k i reading GoesOn = (inl (refl, none), Stays)
Tells-no_unit_found k i reading (GivesUnit unit) = (inl (refl, none), Stays)
Tells-no_unit_found k i reading (Escape b) = (inl (refl, none), Stays)
Tells-no_unit_found k i reading (Motion columns remark) = (inl (refl, none), Stays)
Tells-no_unit_found k i reading (Decides decision freed) = (inl (refl, none), Stays)
