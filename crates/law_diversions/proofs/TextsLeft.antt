-- Text lines, and what begins one, leave the texts in the making, and mean no event that opens a diversion or closes the run.
--
-- Each function f of reading has its lemma here, with a line for each of its cases: Texts-f where no text is being made, and else
-- Leaves-f.
use Rattle.std.proofs.Common.{◌≡◌, ℕ, Bool, true, false, List, [], ◌∷◌, ◌++◌, map, Option, Some, None, refl, ◌∙◌, ◌||◌, if◌then◌else◌, ◌==◌}
use Rattle.page_model.specs.declared.event.Event.TheVariants.{Print, WordEnd, LineEnd, Count, Break, Tab}
use Rattle.page_model.specs.declared.glyph.Glyph.{Glyph}
use Rattle.page_model.specs.declared.glyph.Glyph.TheVariants.{Blanks, Printed}
use Rattle.input_source.specs.Bytes.{tab, newline, blank, apostrophe, dot, is_silent}
use Rattle.input_escapes.specs.Characters.{character}
use Rattle.input_escapes.specs.Escapes.{escape_of}
use Rattle.input_escapes.specs.declared.escapes.Escape.{Escape as Kind}
use Rattle.input_escapes.specs.declared.escapes.Escape.TheVariants.{Prints, Blank, NoWidth, Nothing as GivesNothing, Brace, LeftOut as IsLeftOut, Comment as BeginsComment, Size as BeginsSize, Name as BeginsName, Text as BeginsText, Width as BeginsWidth, Tab as GivesTab, Interrupts}
use Rattle.input_escapes.specs.declared.escapes.NameUse.{NameUse}
use Rattle.input_escapes.specs.declared.escapes.NameUse.TheVariants.{Register, Text as OfText, Argument, Character, Font, LeftOut as NameLeftOut}
use Rattle.input_escapes.specs.declared.escapes.TextUse.TheVariants.{Motion as OfMotion, LeftOut as LeftOutText}
use Rattle.input_escapes.specs.declared.open_escape.CopyUnit.TheVariants.{Byte, Kept}
use Rattle.input_escapes.specs.declared.open_escape.Found.{Found}
use Rattle.input_escapes.specs.declared.open_escape.Found.TheVariants.{GoesOn, Unit as GivesUnit, Holds, Escape, Asks, Motion, Measures, Tells as Says, Decides}
use Rattle.run_model.specs.Reading.Beginnings.{beginning_found, beginning_text, escape_begun, first_escape, first_name, first_taking, going_on_told, line_begun, line_begun_as}
use Rattle.run_model.specs.Reading.Escapes.{asking}
use Rattle.run_model.specs.Reading.Items.{PageInput, Taking}
use Rattle.run_model.specs.Reading.TextLines.{blank_line, blank_taking, character_printed, character_taking, escape_meant, escape_taking, glyph_taking, leading_blank_events, leading_glyph, name_taking, text_found, text_line_end, text_taking, other_taking, left_out_taking, motion_taking, tab_taking}
use Rattle.run_model.specs.Reading.Units.{no_unit_found}
use Rattle.run_model.specs.Registers.{Known, page_stepped}
use Rattle.run_model.specs.PageEvents.{PageEvent}
use Rattle.run_model.specs.declared.event.PageEvent.TheVariants.{Text, Page}
use Rattle.run_model.specs.declared.line_state.LineState.{LineState}
use Rattle.run_model.specs.declared.line_state.LineState.TheVariants.{LineStart, Branch, Braced, Text as InText}
use Rattle.run_model.specs.declared.line_state.TextLine.{TextLine}
use Rattle.input_escapes.specs.declared.open_escape.Remark.{Remark}
use Rattle.page_model.specs.declared.layout_event.LayoutEvent.TheVariants.{Divert, Close}
use Rattle.roff_num.specs.declared.num.Num.{Num}
use Rattle.run_model.specs.Requests.Effects.{page_numbered}
use Rattle.law_diversions.specs.DivertedTexts.{is_making}

-- an event neither opens a diversion nor closes the run
abbrev pub IsMild : PageEvent → Type 0
IsMild (Page (Divert name appends)) = ⊥
IsMild (Page Close) = ⊥
IsMild (_) = Unit {0}

abbrev pub AreMild : List PageEvent → Type 0
AreMild [] = Unit {0}
AreMild (e ∷ events) = IsMild e × AreMild events

-- what is done with an item leaves these texts in the making, and whether one is being made is told; its events are such
abbrev pub Leaves : List (List ℕ) → Bool → Taking → Type 0
Leaves texts making t = (t.input.open_texts ≡ texts) × ((is_making t.reading ≡ making) × AreMild t.effect.events)

-- and none is being made
abbrev pub Texts : List (List ℕ) → Taking → Type 0
Texts texts t = Leaves texts false t

-- either of two, by a test
pub Texts-either : (texts : List (List ℕ)) (c : Bool) (t u : Taking) → Texts texts t → Texts texts u → Texts texts (if c then t else u)
Texts-either texts true t u first second = first
Texts-either texts false t u first second = second

-- a line begins, or a branch
pub data BeginsLine : LineState → Type 0 where
  AtStart : BeginsLine LineStart
  AtBranch : BeginsLine Branch
  AtBrace : BeginsLine Braced

-- a few events behind leading blanks
mild-leading : (n : ℕ) (events : List PageEvent) → AreMild events → AreMild (leading_glyph n ++ events)
mild-leading n events mild = by_test (n == 0)
  where
    by_test : (none : Bool) → AreMild ((if none then [] else Text (Print (Blanks n)) ∷ []) ++ events)
    by_test true = mild
    by_test false = (tt, mild)

-- glyphs behind them
mild-glyphs : (n : ℕ) (glyphs : List Glyph) → AreMild (leading_glyph n ++ map (λ glyph. Text (Print glyph)) glyphs)
mild-glyphs n glyphs = mild-leading n _ (mild glyphs)
  where
    mild : (glyphs : List Glyph) → AreMild (map (λ glyph. Text (Print glyph)) glyphs)
    mild [] = tt
    mild (glyph ∷ glyphs) = (tt, mild glyphs)

-- the end of a text line
pub mild-line_end : (line : TextLine) → AreMild (text_line_end line)
mild-line_end line = by_tests (line.has_glyph || line.has_other) line.has_brace
  where
    by_tests : (told brace : Bool)
        → AreMild (if told then Text WordEnd ∷ Text LineEnd ∷ Text Count ∷ [] else if brace then [] else blank_line)
    by_tests true brace = (tt, (tt, (tt, tt)))
    by_tests false true = tt
    by_tests false false = (tt, (tt, (tt, tt)))

-- a blank of a text line
mild-blanks : (before : ℕ) → AreMild (leading_blank_events before)
mild-blanks before = by_test (before == 0)
  where
    by_test : (none : Bool) → AreMild (if none then Text WordEnd ∷ Text Break ∷ [] else [])
    by_test true = (tt, (tt, tt))
    by_test false = tt

Texts-blank_taking : (i : PageInput) (line : TextLine) → Texts i.open_texts (blank_taking i line)
Texts-blank_taking i line =
    Texts-either i.open_texts line.has_glyph _ _ (refl, (refl, (tt, (tt, tt)))) (refl, (refl, mild-blanks line.leading))

-- a byte of one
Texts-glyph_taking : (i : PageInput) (line : TextLine) (glyph : Glyph) → Texts i.open_texts (glyph_taking i line glyph)
Texts-glyph_taking i line glyph = (refl, (refl, mild-glyphs line.leading (glyph ∷ [])))

Texts-tab_taking : (i : PageInput) (line : TextLine) → Texts i.open_texts (tab_taking i line)
Texts-tab_taking i line = (refl, (refl, mild-leading line.leading (Text Tab ∷ []) (tt, tt)))

Texts-text_taking : (i : PageInput) (line : TextLine) (b : ℕ) → Texts i.open_texts (text_taking i line b)
Texts-text_taking i line b =
    Texts-either i.open_texts (b == newline) _ _ (refl, (refl, mild-line_end line))
    (Texts-either i.open_texts (b == tab) _ _ (Texts-tab_taking i line)
    (Texts-either i.open_texts (is_silent b) _ _ (refl, (refl, tt))
    (Texts-either i.open_texts (b == blank) (blank_taking i line) (glyph_taking i line (Printed b)) (Texts-blank_taking i line)
    (Texts-glyph_taking i line (Printed b)))))

-- an escape without a name
Texts-escape_meant : (i : PageInput) (line : TextLine) (b : ℕ) (kind : Kind) → Texts i.open_texts (escape_meant i line b kind)
Texts-escape_meant i line b (Prints byte) = Texts-glyph_taking i line (Printed byte)
Texts-escape_meant i line b Blank = Texts-glyph_taking i line (Blanks 1)
Texts-escape_meant i line b NoWidth = Texts-glyph_taking i line (Blanks 0)
Texts-escape_meant i line b GivesTab = Texts-tab_taking i line
Texts-escape_meant i line b Interrupts = (refl, (refl, (tt, tt)))
Texts-escape_meant i line b Brace = (refl, (refl, tt))
Texts-escape_meant i line b IsLeftOut = (refl, (refl, tt))
Texts-escape_meant i line b GivesNothing = (refl, (refl, tt))
Texts-escape_meant i line b BeginsComment = (refl, (refl, tt))
Texts-escape_meant i line b BeginsSize = (refl, (refl, tt))
Texts-escape_meant i line b (BeginsName purpose) = (refl, (refl, tt))
Texts-escape_meant i line b (BeginsText OfMotion) = (refl, (refl, tt))
Texts-escape_meant i line b (BeginsText (LeftOutText byte)) = (refl, (refl, tt))
Texts-escape_meant i line b BeginsWidth = (refl, (refl, tt))

Texts-escape_taking : (i : PageInput) (line : TextLine) (b : ℕ) → Texts i.open_texts (escape_taking i line b)
Texts-escape_taking i line b = Texts-escape_meant i line b (escape_of b)

-- a character
Texts-character_printed : (i : PageInput) (line : TextLine) (name text : Option (List ℕ))
    → Texts i.open_texts (character_printed i line name text)
Texts-character_printed i line name (Some text) = (refl, (refl, mild-glyphs line.leading (map Printed text)))
Texts-character_printed i line name None = (refl, (refl, tt))

Texts-character_taking : (i : PageInput) (line : TextLine) (name : Option (List ℕ)) → Texts i.open_texts (character_taking i line name)
Texts-character_taking i line (Some name) = Texts-character_printed i line (Some name) (character name)
Texts-character_taking i line None = (refl, (refl, tt))

-- what a text line does that begins
mild-going_on : (left : Option TextLine) (events : List PageEvent) → AreMild events → AreMild (going_on_told left ++ events)
mild-going_on None events mild = mild
mild-going_on (Some line) events mild = (tt, mild)

Texts-beginning_text : (texts : List (List ℕ)) (k : Known) (does : TextLine → Taking) → ((line : TextLine) → Texts texts (does line))
    → Texts texts (beginning_text k does)
Texts-beginning_text texts k does each =
    let first = each (line_begun_as k.interrupted) in
    (first.0, (first.1.0, mild-going_on k.interrupted (does (line_begun_as k.interrupted)).effect.events first.1.1))

-- the first byte of a line, and of a branch
Texts-line_begun : (k : Known) (i : PageInput) (b : ℕ) → Texts i.open_texts (line_begun k i b)
Texts-line_begun k i b =
    Texts-either i.open_texts (b == dot) _ _ (refl, (refl, tt))
    (Texts-either i.open_texts (b == apostrophe) _ _ (refl, (refl, tt))
    (Texts-beginning_text i.open_texts k (λ line. text_taking i line b) (λ line. Texts-text_taking i line b)))

Texts-first_taking : (k : Known) (i : PageInput) (reading : LineState) (b : ℕ) → BeginsLine reading
    → Texts i.open_texts (first_taking k i reading b)
Texts-first_taking k i _ b AtStart = Texts-line_begun k i b
Texts-first_taking k i _ b AtBranch = Texts-either i.open_texts (b == blank) _ _ (refl, (refl, tt)) (Texts-line_begun k i b)
Texts-first_taking k i _ b AtBrace =
    Texts-either i.open_texts (b == blank) _ _ (refl, (refl, tt))
    (Texts-either i.open_texts (b == newline) _ _ (refl, (refl, tt)) (Texts-line_begun k i b))

-- an escape there
Texts-escape_begun : (k : Known) (i : PageInput) (b : ℕ) → Texts i.open_texts (escape_begun k i b)
Texts-escape_begun k i b = Texts-beginning_text i.open_texts k (λ line. escape_taking i line b) (λ line. Texts-escape_taking i line b)

Texts-first_escape : (k : Known) (i : PageInput) (reading : LineState) (b : ℕ) → BeginsLine reading
    → Texts i.open_texts (first_escape k i reading b)
Texts-first_escape k i _ b AtStart = Texts-either i.open_texts (b == newline) _ _ (refl, (refl, tt)) (Texts-escape_begun k i b)
Texts-first_escape k i _ b AtBranch =
    Texts-either i.open_texts (b == 123) _ _ (refl, (refl, tt))
    (Texts-either i.open_texts (b == newline) _ _ (refl, (refl, tt)) (Texts-escape_begun k i b))
Texts-first_escape k i _ b AtBrace = Texts-either i.open_texts (b == newline) _ _ (refl, (refl, tt)) (Texts-escape_begun k i b)

-- the page's number
pub mild-numbered : (n : Option Num) → AreMild (page_numbered n)
mild-numbered None = tt
mild-numbered (Some n) = (tt, tt)

-- what a name asks for
pub Leaves-asking : (k : Known) (i : PageInput) (reading : LineState) (purpose : NameUse) (name : Option (List ℕ))
    → Leaves i.open_texts (is_making reading) (asking k i reading purpose name)
Leaves-asking k i reading purpose None = (refl, (refl, tt))
Leaves-asking k i reading (Register step) (Some name) = (refl, (refl, mild-numbered (page_stepped step name k)))
Leaves-asking k i reading OfText (Some name) = (refl, (refl, tt))
Leaves-asking k i reading Argument (Some name) = (refl, (refl, tt))
Leaves-asking k i reading Character (Some name) = (refl, (refl, tt))
Leaves-asking k i reading Font (Some name) = (refl, (refl, tt))
Leaves-asking k i reading (NameLeftOut b) (Some name) = (refl, (refl, tt))

Texts-name_taking : (k : Known) (i : PageInput) (line : TextLine) (purpose : NameUse) (name : Option (List ℕ))
    → Texts i.open_texts (name_taking k i (InText line) line purpose name)
Texts-name_taking k i line Character name = Texts-character_taking i line name
Texts-name_taking k i line Font name = (refl, (refl, tt))
Texts-name_taking k i line (NameLeftOut b) name = (refl, (refl, tt))
Texts-name_taking k i line (Register step) name = Leaves-asking k i (InText line) (Register step) name
Texts-name_taking k i line OfText name = Leaves-asking k i (InText line) OfText name
Texts-name_taking k i line Argument name = Leaves-asking k i (InText line) Argument name

-- where a line begins no text is being made
unmade : (reading : LineState) → BeginsLine reading → is_making reading ≡ false
unmade _ AtStart = refl
unmade _ AtBranch = refl
unmade _ AtBrace = refl

Texts-begins : (reading : LineState) {now : Bool} {there texts : List (List ℕ)} (events : List PageEvent) → BeginsLine reading
    → (there ≡ texts) × ((now ≡ is_making reading) × AreMild events) → (there ≡ texts) × ((now ≡ false) × AreMild events)
Texts-begins reading events begins leaves = (leaves.0, (leaves.1.0 ∙ unmade reading begins, leaves.1.1))

Texts-first_name : (k : Known) (i : PageInput) (reading : LineState) (purpose : NameUse) (name : Option (List ℕ)) → BeginsLine reading
    → Texts i.open_texts (first_name k i reading purpose name)
Texts-first_name k i reading Character name begins =
    Texts-beginning_text i.open_texts k (λ line. character_taking i line name) (λ line. Texts-character_taking i line name)
Texts-first_name k i reading Font name begins =
    Texts-beginning_text i.open_texts k (λ line. other_taking i line) (λ line. (refl, (refl, tt)))
Texts-first_name k i reading (NameLeftOut b) name begins =
    Texts-beginning_text i.open_texts k (λ line. left_out_taking i line b) (λ line. (refl, (refl, tt)))
Texts-first_name k i reading (Register step) name begins =
    Texts-begins reading (asking k i reading (Register step) name).effect.events begins (Leaves-asking k i reading (Register step) name)
Texts-first_name k i reading OfText name begins =
    Texts-begins reading (asking k i reading OfText name).effect.events begins (Leaves-asking k i reading OfText name)
Texts-first_name k i reading Argument name begins =
    Texts-begins reading (asking k i reading Argument name).effect.events begins (Leaves-asking k i reading Argument name)

-- what was found of a text line
Texts-motion_taking : (i : PageInput) (line : TextLine) (columns : ℕ) (remark : Option Remark)
    → Texts i.open_texts (motion_taking i line columns remark)
Texts-motion_taking i line columns remark = (refl, (refl, mild-glyphs line.leading (Blanks columns ∷ [])))

pub Texts-text_found : (k : Known) (i : PageInput) (line : TextLine) (found : Found) → Texts i.open_texts (text_found k i line found)
Texts-text_found k i line GoesOn = (refl, (refl, tt))
Texts-text_found k i line (GivesUnit (Byte b)) = Texts-text_taking i line b
Texts-text_found k i line (GivesUnit (Kept b)) = Texts-escape_taking i line b
Texts-text_found k i line (Escape b) = Texts-escape_taking i line b
Texts-text_found k i line (Asks purpose name) = Texts-name_taking k i line purpose name
Texts-text_found k i line (Holds unit) = (refl, (refl, tt))
Texts-text_found k i line (Motion columns remark) = Texts-motion_taking i line columns remark
Texts-text_found k i line (Measures width) = (refl, (refl, tt))
Texts-text_found k i line (Says remark) = (refl, (refl, tt))
Texts-text_found k i line (Decides decision freed) = (refl, (refl, tt))

-- what was found where a line begins, or a branch
pub Texts-beginning_found : (k : Known) (i : PageInput) (reading : LineState) (found : Found) → BeginsLine reading
    → Texts i.open_texts (beginning_found k i reading found)
Texts-beginning_found k i reading GoesOn begins = (refl, (unmade reading begins, tt))
Texts-beginning_found k i reading (GivesUnit (Byte b)) begins = Texts-first_taking k i reading b begins
Texts-beginning_found k i reading (GivesUnit (Kept b)) begins = Texts-first_escape k i reading b begins
Texts-beginning_found k i reading (Escape b) begins = Texts-first_escape k i reading b begins
Texts-beginning_found k i reading (Asks purpose name) begins = Texts-first_name k i reading purpose name begins
Texts-beginning_found k i reading (Holds unit) begins = (refl, (unmade reading begins, tt))
Texts-beginning_found k i reading (Motion columns remark) begins =
    Texts-beginning_text i.open_texts k (λ line. motion_taking i line columns remark) (λ line. Texts-motion_taking i line columns remark)
Texts-beginning_found k i reading (Measures width) begins = (refl, (unmade reading begins, tt))
Texts-beginning_found k i reading (Says remark) begins = (refl, (unmade reading begins, tt))
Texts-beginning_found k i reading (Decides decision freed) begins = (refl, (unmade reading begins, tt))

-- what was found that is no unit
pub Leaves-no_unit_found : (k : Known) (i : PageInput) (reading : LineState) (found : Found)
    → Leaves i.open_texts (is_making reading) (no_unit_found k i reading found)
Leaves-no_unit_found k i reading (Holds unit) = (refl, (refl, tt))
Leaves-no_unit_found k i reading (Asks purpose name) = Leaves-asking k i reading purpose name
Leaves-no_unit_found k i reading (Measures width) = (refl, (refl, tt))
Leaves-no_unit_found k i reading (Says remark) = (refl, (refl, tt))
Leaves-no_unit_found k i reading GoesOn = (refl, (refl, tt))
Leaves-no_unit_found k i reading (GivesUnit unit) = (refl, (refl, tt))
Leaves-no_unit_found k i reading (Escape b) = (refl, (refl, tt))
Leaves-no_unit_found k i reading (Motion columns remark) = (refl, (refl, tt))
Leaves-no_unit_found k i reading (Decides decision freed) = (refl, (refl, tt))
