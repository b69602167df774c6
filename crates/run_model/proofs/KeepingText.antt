-- What reading of text lines changes in the input: its counts stay, no free byte comes ahead, and few endings more are to come.
--
-- Each function f of reading has its lemma here, with a line for each of its cases: Stays-f where it leaves the input,
-- and else Keeps-f.
use Rattle.std.proofs.Common.{◌≡◌, ℕ, ◌+◌, ◌*◌, ◌≤◌, Bool, true, false, List, [], ◌∷◌, ◌++◌, map, Option, Some, None, refl, sym, subst, ◌∙◌, arith, ◌&&◌, decimal, nat_le, if◌then◌else◌, ◌==◌}
use Rattle.page_model.specs.declared.glyph.Glyph.TheVariants.{Printed}
use Rattle.input_source.specs.Bytes.{tab, newline, blank, apostrophe, dot, backslash, is_silent}
use Rattle.input_escapes.specs.Characters.{character}
use Rattle.input_escapes.specs.Escapes.{escape_of}
use Rattle.input_model.specs.Input.{Ahead, ByteAhead, EndAhead, ReturnAhead, holding_text}
use Rattle.input_model.specs.Input.Calls.{arguments_live}
use Rattle.input_model.specs.Input.Few.{AreFewFrom}
use Rattle.input_model.proofs.FewEvents.{few-more, few-text}
use Rattle.input_model.specs.Input.Names.{body_named}
use Rattle.input_escapes.specs.declared.escapes.Escape.{Escape as Kind}
use Rattle.input_escapes.specs.declared.escapes.Escape.TheVariants.{Prints, Blank, NoWidth, Nothing as GivesNothing, Brace, LeftOut as IsLeftOut, Comment as BeginsComment, Size as BeginsSize, Name as BeginsName, Text as BeginsText, Width as BeginsWidth, Tab as GivesTab, Interrupts}
use Rattle.input_escapes.specs.declared.escapes.NameUse.{NameUse}
use Rattle.input_escapes.specs.declared.escapes.NameUse.TheVariants.{Register, Text as OfText, Argument, Character, Font, LeftOut as NameLeftOut}
use Rattle.input_escapes.specs.declared.escapes.TextUse.TheVariants.{Motion as OfMotion, LeftOut as LeftOutText}
use Rattle.input_escapes.specs.declared.open_escape.ConditionPart.TheVariants.{Choice, Expression, Decided, Compared}
use Rattle.input_escapes.specs.declared.open_escape.CopyUnit.{CopyUnit}
use Rattle.input_escapes.specs.declared.open_escape.CopyUnit.TheVariants.{Byte, Kept}
use Rattle.input_escapes.specs.OpenEscape.{OpenEscape, Backslash, Comment, Name as OpenName, Size, Delimited, Width, Condition, text_held}
use Rattle.input_escapes.specs.declared.open_escape.Found.{Found}
use Rattle.input_escapes.specs.declared.open_escape.Found.TheVariants.{GoesOn, Unit as GivesUnit, Holds, Escape, Asks, Motion, Measures, Tells, Decides}
use Rattle.roff_num.specs.declared.direction.Direction.{Direction}
use Rattle.run_model.specs.declared.line_state.LineState.{LineState}
use Rattle.run_model.specs.declared.line_state.LineState.TheVariants.{LineStart, Branch, Braced, Text as InText, Control, Name, Deciding, Skipping, Dropped, Told, Exiting, TitleFront, Title as InTitle, Collecting}
use Rattle.run_model.specs.declared.line_state.TextLine.{TextLine}
use Rattle.run_model.specs.Reading.Beginnings.{line_begun, first_taking, first_escape, beginning_found, beginning_text, line_begun_as, escape_begun, first_name}
use Rattle.run_model.specs.Reading.Branches.{skipping_taking, branch_of}
use Rattle.run_model.specs.Reading.ControlLines.{dropped_taking}
use Rattle.run_model.specs.Reading.Escapes.{argument_named, asking, measuring, putting_nothing}
use Rattle.run_model.specs.Reading.Items.{PageInput, Taking, going_on}
use Rattle.run_model.specs.Reading.TextLines.{glyph_taking, blank_taking, text_taking, escape_meant, escape_taking, character_printed, character_taking, name_taking, text_found}
use Rattle.run_model.specs.Registers.{Known, known_stepped, text_of_register}
use Rattle.run_model.specs.Requests.{PageEvent}
use Rattle.run_model.specs.TurnsToCome.{begun, endings_of, free_ahead}

-- where few events stood ahead, few do
abbrev pub StaysFew : List (Ahead PageEvent) → List (Ahead PageEvent) → Type 0
StaysFew before behind = (room : ℕ) → room ≤ 5 → AreFewFrom room before → AreFewFrom room behind

-- an input behind another, in which this is read: of the same counts, with as many free bytes ahead, with few events still, and
-- no more than so many turns to come of what is half read and of what is read
pub record Keeps (most : ℕ) (i j : PageInput) (reading : LineState) : Type 0 where
  pub charge : j.charge ≡ i.charge
  pub newlines : j.newlines ≡ i.newlines
  pub line : j.line ≡ i.line
  pub free : free_ahead j.ahead ≡ free_ahead i.ahead
  pub few : StaysFew i.ahead j.ahead
  pub escapes : 2 * endings_of j.escapes + begun reading ≤ most

-- the same of what is done with an item
abbrev pub KeepsBy : ℕ → PageInput → Taking → Type 0
KeepsBy most i t = Keeps most i t.input t.reading

-- either of two, by a test
pub Keeps-if : (most : ℕ) (i : PageInput) (b : Bool) (t u : Taking) → KeepsBy most i t → KeepsBy most i u → KeepsBy most i (if b then t else u)
Keeps-if most i true t u first second = first
Keeps-if most i false t u first second = second

-- the input is the same, and no name is read
pub record Stays (i : PageInput) (t : Taking) : Type 0 where
  input : t.input ≡ i
  unnamed : begun t.reading ≡ 0

-- either of two, by a test
Stays-if : (i : PageInput) (b : Bool) (t u : Taking) → Stays i t → Stays i u → Stays i (if b then t else u)
Stays-if i true t u first second = first
Stays-if i false t u first second = second

-- where this is read, which is no name
Stays-going_on : (i : PageInput) (reading : LineState) → begun reading ≡ 0 → Stays i (going_on i reading)
Stays-going_on i reading unnamed = record { input = refl; unnamed = unnamed }

-- where no name is read, that begins none
pub Keeps-unnamed : (most : ℕ) (i j : PageInput) (old reading : LineState) → Keeps most i j old → begun reading ≡ 0 → Keeps most i j reading
Keeps-unnamed most i j old reading keeps unnamed = record {
  charge = keeps.charge;
  newlines = keeps.newlines;
  line = keeps.line;
  free = keeps.free;
  few = keeps.few;
  escapes = omega (arith, keeps.escapes, unnamed);
}

-- what has stayed keeps what was kept
pub Keeps-stays : (most : ℕ) (i j : PageInput) (reading : LineState) (t : Taking) → Keeps most i j reading → Stays j t → KeepsBy most i t
Keeps-stays most i j reading t keeps stays =
    subst (λ (n : PageInput). Keeps most i n t.reading) (sym stays.input) (Keeps-unnamed most i j reading t.reading keeps stays.unnamed)

-- a blank of a text line
Stays-blank_taking : (i : PageInput) (line : TextLine) → Stays i (blank_taking i line)
Stays-blank_taking i line = Stays-if i line.has_glyph _ _ (record { input = refl; unnamed = refl }) (record { input = refl; unnamed = refl })

-- a byte of one
Stays-text_taking : (i : PageInput) (line : TextLine) (b : ℕ) → Stays i (text_taking i line b)
Stays-text_taking i line b =
    Stays-if i (b == newline) _ _ (record { input = refl; unnamed = refl })
    (Stays-if i (b == tab) _ _ (record { input = refl; unnamed = refl })
    (Stays-if i (is_silent b) _ (if b == blank then blank_taking i line else glyph_taking i line (Printed b)) (record { input = refl; unnamed = refl })
    (Stays-if i (b == blank) (blank_taking i line) (glyph_taking i line (Printed b)) (Stays-blank_taking i line) (record { input = refl; unnamed = refl }))))

-- an escape without a name
Stays-escape_meant : (i : PageInput) (line : TextLine) (b : ℕ) (kind : Kind) → Stays i (escape_meant i line b kind)
Stays-escape_meant i line b (Prints byte) = record { input = refl; unnamed = refl }
Stays-escape_meant i line b Blank = record { input = refl; unnamed = refl }
Stays-escape_meant i line b NoWidth = record { input = refl; unnamed = refl }
Stays-escape_meant i line b GivesTab = record { input = refl; unnamed = refl }
Stays-escape_meant i line b Interrupts = record { input = refl; unnamed = refl }
Stays-escape_meant i line b Brace = record { input = refl; unnamed = refl }
Stays-escape_meant i line b IsLeftOut = record { input = refl; unnamed = refl }
Stays-escape_meant i line b GivesNothing = record { input = refl; unnamed = refl }
Stays-escape_meant i line b BeginsComment = record { input = refl; unnamed = refl }
Stays-escape_meant i line b BeginsSize = record { input = refl; unnamed = refl }
Stays-escape_meant i line b (BeginsName purpose) = record { input = refl; unnamed = refl }
Stays-escape_meant i line b (BeginsText OfMotion) = record { input = refl; unnamed = refl }
Stays-escape_meant i line b (BeginsText (LeftOutText byte)) = record { input = refl; unnamed = refl }
Stays-escape_meant i line b BeginsWidth = record { input = refl; unnamed = refl }

Stays-escape_taking : (i : PageInput) (line : TextLine) (b : ℕ) → Stays i (escape_taking i line b)
Stays-escape_taking i line b = Stays-escape_meant i line b (escape_of b)

-- a character
Stays-character_printed : (i : PageInput) (line : TextLine) (name text : Option (List ℕ)) → Stays i (character_printed i line name text)
Stays-character_printed i line name (Some text) = record { input = refl; unnamed = refl }
Stays-character_printed i line name None = record { input = refl; unnamed = refl }

Stays-character_taking : (i : PageInput) (line : TextLine) (name : Option (List ℕ)) → Stays i (character_taking i line name)
Stays-character_taking i line (Some name) = Stays-character_printed i line (Some name) (character name)
Stays-character_taking i line None = record { input = refl; unnamed = refl }

-- what a text line does that begins
Stays-beginning_text : (k : Known) (i : PageInput) (does : TextLine → Taking) → ((line : TextLine) → Stays i (does line)) → Stays i (beginning_text k does)
Stays-beginning_text k i does stays =
    let began : Stays i (does (line_begun_as k.interrupted)) = stays (line_begun_as k.interrupted) in record { input = began.input; unnamed = began.unnamed }

-- the first byte of a line, and of a branch
Stays-line_begun : (k : Known) (i : PageInput) (b : ℕ) → Stays i (line_begun k i b)
Stays-line_begun k i b =
    Stays-if i (b == dot) _ _ (record { input = refl; unnamed = refl })
    (Stays-if i (b == apostrophe) _ _ (record { input = refl; unnamed = refl })
    (Stays-beginning_text k i (λ line. text_taking i line b) (λ line. Stays-text_taking i line b)))

Stays-first_taking : (k : Known) (i : PageInput) (reading : LineState) (b : ℕ) → Stays i (first_taking k i reading b)
Stays-first_taking k i Branch b = Stays-if i (b == blank) _ _ (record { input = refl; unnamed = refl }) (Stays-line_begun k i b)
Stays-first_taking k i Braced b =
    Stays-if i (b == blank) _ _ (record { input = refl; unnamed = refl })
    (Stays-if i (b == newline) _ _ (record { input = refl; unnamed = refl }) (Stays-line_begun k i b))
Stays-first_taking k i LineStart b = Stays-line_begun k i b
Stays-first_taking k i (InText line) b = Stays-line_begun k i b
Stays-first_taking k i (Control breaks) b = Stays-line_begun k i b
Stays-first_taking k i (Name breaks first) b = Stays-line_begun k i b
Stays-first_taking k i (Collecting purpose) b = Stays-line_begun k i b
Stays-first_taking k i (Deciding keeps) b = Stays-line_begun k i b
Stays-first_taking k i (Skipping opened closed behind) b = Stays-line_begun k i b
Stays-first_taking k i Dropped b = Stays-line_begun k i b
Stays-first_taking k i (Told aborts) b = Stays-line_begun k i b
Stays-first_taking k i Exiting b = Stays-line_begun k i b
Stays-first_taking k i TitleFront b = Stays-line_begun k i b
Stays-first_taking k i (InTitle delimiter) b = Stays-line_begun k i b

-- an escape there
Stays-escape_begun : (k : Known) (i : PageInput) (b : ℕ) → Stays i (escape_begun k i b)
Stays-escape_begun k i b = Stays-beginning_text k i (λ line. escape_taking i line b) (λ line. Stays-escape_taking i line b)

Stays-first_escape : (k : Known) (i : PageInput) (reading : LineState) (b : ℕ) → Stays i (first_escape k i reading b)
Stays-first_escape k i Branch b =
    Stays-if i (b == 123) _ _ (record { input = refl; unnamed = refl })
    (Stays-if i (b == newline) _ _ (record { input = refl; unnamed = refl }) (Stays-escape_begun k i b))
Stays-first_escape k i Braced b = Stays-if i (b == newline) _ _ (record { input = refl; unnamed = refl }) (Stays-escape_begun k i b)
Stays-first_escape k i LineStart b = Stays-if i (b == newline) _ _ (record { input = refl; unnamed = refl }) (Stays-escape_begun k i b)
Stays-first_escape k i (InText line) b = Stays-if i (b == newline) _ _ (record { input = refl; unnamed = refl }) (Stays-escape_begun k i b)
Stays-first_escape k i (Control breaks) b = Stays-if i (b == newline) _ _ (record { input = refl; unnamed = refl }) (Stays-escape_begun k i b)
Stays-first_escape k i (Name breaks first) b = Stays-if i (b == newline) _ _ (record { input = refl; unnamed = refl }) (Stays-escape_begun k i b)
Stays-first_escape k i (Collecting purpose) b = Stays-if i (b == newline) _ _ (record { input = refl; unnamed = refl }) (Stays-escape_begun k i b)
Stays-first_escape k i (Deciding keeps) b = Stays-if i (b == newline) _ _ (record { input = refl; unnamed = refl }) (Stays-escape_begun k i b)
Stays-first_escape k i (Skipping opened closed behind) b = Stays-if i (b == newline) _ _ (record { input = refl; unnamed = refl }) (Stays-escape_begun k i b)
Stays-first_escape k i Dropped b = Stays-if i (b == newline) _ _ (record { input = refl; unnamed = refl }) (Stays-escape_begun k i b)
Stays-first_escape k i (Told aborts) b = Stays-if i (b == newline) _ _ (record { input = refl; unnamed = refl }) (Stays-escape_begun k i b)
Stays-first_escape k i Exiting b = Stays-if i (b == newline) _ _ (record { input = refl; unnamed = refl }) (Stays-escape_begun k i b)
Stays-first_escape k i TitleFront b = Stays-if i (b == newline) _ _ (record { input = refl; unnamed = refl }) (Stays-escape_begun k i b)
Stays-first_escape k i (InTitle delimiter) b = Stays-if i (b == newline) _ _ (record { input = refl; unnamed = refl }) (Stays-escape_begun k i b)

-- a byte of a branch that is skipped
pub Stays-skipping_taking : (i : PageInput) (opened closed : ℕ) (behind : Bool) (b : ℕ) → Stays i (skipping_taking i opened closed behind b)
Stays-skipping_taking i opened closed true b = record { input = refl; unnamed = refl }
Stays-skipping_taking i opened closed false b =
    Stays-if i (b == backslash) _ _ (record { input = refl; unnamed = refl })
    (Stays-if i (b == newline && nat_le opened closed) _ _ (record { input = refl; unnamed = refl }) (record { input = refl; unnamed = refl }))

-- a byte of a dropped line
unnamed-dropped : (ends : Bool) → begun (if ends then LineStart else Dropped) ≡ 0
unnamed-dropped true = refl
unnamed-dropped false = refl

pub Stays-dropped_taking : (i : PageInput) (b : ℕ) → Stays i (dropped_taking i b)
Stays-dropped_taking i b = Stays-going_on i (if b == newline then LineStart else Dropped) (unnamed-dropped (b == newline))

-- a branch
pub unnamed-branch_of : (so : Bool) → begun (branch_of so) ≡ 0
unnamed-branch_of true = refl
unnamed-branch_of false = refl

-- no byte of a pushed text is free
free_ahead-pushed : (text : List ℕ) (items : List (Ahead PageEvent)) → free_ahead (map ByteAhead text ++ EndAhead ∷ items) ≡ free_ahead items
free_ahead-pushed [] items = refl
free_ahead-pushed (b ∷ text) items = free_ahead-pushed text items

-- nor is one of a body that a line calls, or that springs
pub free_ahead-called : (text : List ℕ) (back : ℕ) (items : List (Ahead PageEvent)) → free_ahead (map ByteAhead text ++ ReturnAhead back ∷ items) ≡ free_ahead items
free_ahead-called [] back items = refl
free_ahead-called (b ∷ text) back items = free_ahead-called text back items

-- nor is one of a register's text
free_ahead-register : (k : Known) (step : Option Direction) (name : List ℕ) (items : List (Ahead PageEvent))
    → free_ahead (map ByteAhead (text_of_register (known_stepped step name k) name) ++ EndAhead ∷ items) ≡ free_ahead items
free_ahead-register k step name items = free_ahead-pushed (text_of_register (known_stepped step name k) name) items

-- nor is one of a width's digits
pub Keeps-measuring : (most : ℕ) (i j : PageInput) (reading : LineState) (width : ℕ) → Keeps most i j reading → KeepsBy most i (measuring j reading width)
Keeps-measuring most i j reading width keeps =
    record {
      charge = keeps.charge;
      newlines = keeps.newlines;
      line = keeps.line;
      free = free_ahead-pushed (decimal width) j.ahead ∙ keeps.free;
      few = λ room within few. few-text room (decimal width) j.ahead (few-more room 5 j.ahead within (keeps.few room within few));
      escapes = keeps.escapes;
    }

-- a unit of a text leaves as many endings
endings-text_held : (unit : CopyUnit) (half : List OpenEscape) → endings_of (text_held unit half) ≡ endings_of half
endings-text_held unit [] = refl
endings-text_held unit (Backslash ∷ rest) = refl
endings-text_held unit (Comment ∷ rest) = refl
endings-text_held unit (OpenName purpose part ∷ rest) = refl
endings-text_held unit (Size part ∷ rest) = refl
endings-text_held unit (Delimited purpose d text ∷ rest) = refl
endings-text_held unit (Width d width is_deep ∷ rest) = refl
endings-text_held unit (Condition (Choice negated) text ∷ rest) = refl
endings-text_held unit (Condition (Expression negated) text ∷ rest) = refl
endings-text_held unit (Condition (Decided decision None) text ∷ rest) = refl
endings-text_held unit (Condition (Decided decision (Some b)) text ∷ rest) = refl
endings-text_held unit (Condition (Compared negated d first) text ∷ rest) = refl

pub Keeps-holding_text : (most : ℕ) (i j : PageInput) (reading : LineState) (unit : CopyUnit) → Keeps most i j reading → Keeps most i (holding_text unit j) reading
Keeps-holding_text most i j reading unit keeps = record {
  charge = keeps.charge;
  newlines = keeps.newlines;
  line = keeps.line;
  free = keeps.free;
  few = keeps.few;
  escapes = omega (arith, keeps.escapes, endings-text_held unit j.escapes);
}

-- this is half read otherwise
pub Keeps-with_escapes : (less most : ℕ) (i j : PageInput) (old reading : LineState) (half : List OpenEscape) → Keeps less i j old → 2 * endings_of half + begun reading ≤ most
    → Keeps most i (record j { escapes = half }) reading
Keeps-with_escapes less most i j old reading half keeps few =
    record { charge = keeps.charge; newlines = keeps.newlines; line = keeps.line; free = keeps.free; few = keeps.few; escapes = few }

-- nor is one of an empty text
Keeps-nothing_put : (most : ℕ) (i j : PageInput) (reading : LineState) → Keeps most i j reading → KeepsBy most i (putting_nothing j reading)
Keeps-nothing_put most i j reading keeps = record {
  charge = keeps.charge;
  newlines = keeps.newlines;
  line = keeps.line;
  free = keeps.free;
  few = λ room within few. few-text room [] j.ahead (few-more room 5 j.ahead within (keeps.few room within few));
  escapes = keeps.escapes;
}

-- what a name asks for
pub Keeps-asking : (most : ℕ) (k : Known) (i j : PageInput) (reading : LineState) (purpose : NameUse) (name : Option (List ℕ)) → Keeps most i j reading
    → KeepsBy most i (asking k j reading purpose name)
Keeps-asking most k i j reading purpose None keeps = keeps
Keeps-asking most k i j reading (Register step) (Some name) keeps =
    record {
      charge = keeps.charge;
      newlines = keeps.newlines;
      line = keeps.line;
      free = free_ahead-register k step name j.ahead ∙ keeps.free;
      few = λ room within few. few-text room (text_of_register (known_stepped step name k) name) j.ahead (few-more room 5 j.ahead within (keeps.few room within few));
      escapes = keeps.escapes;
    }
Keeps-asking most k i j reading OfText (Some name) keeps =
    record {
      charge = keeps.charge;
      newlines = keeps.newlines;
      line = keeps.line;
      free = free_ahead-pushed (body_named name j) j.ahead ∙ keeps.free;
      few = λ room within few. few-text room (body_named name j) j.ahead (few-more room 5 j.ahead within (keeps.few room within few));
      escapes = keeps.escapes;
    }
Keeps-asking most k i j reading Argument (Some name) keeps =
    record {
      charge = keeps.charge;
      newlines = keeps.newlines;
      line = keeps.line;
      free = free_ahead-pushed (argument_named name (arguments_live j)) j.ahead ∙ keeps.free;
      few = λ room within few. few-text room (argument_named name (arguments_live j)) j.ahead (few-more room 5 j.ahead within (keeps.few room within few));
      escapes = keeps.escapes;
    }
Keeps-asking most k i j reading Character (Some name) keeps = Keeps-nothing_put most i j reading keeps
Keeps-asking most k i j reading Font (Some name) keeps = Keeps-nothing_put most i j reading keeps
Keeps-asking most k i j reading (NameLeftOut b) (Some name) keeps = Keeps-nothing_put most i j reading keeps

-- a name of a text line
Keeps-name_taking : (most : ℕ) (k : Known) (i j : PageInput) (reading : LineState) (line : TextLine) (purpose : NameUse) (name : Option (List ℕ)) → Keeps most i j reading
    → KeepsBy most i (name_taking k j reading line purpose name)
Keeps-name_taking most k i j reading line Character name keeps = Keeps-stays most i j reading _ keeps (Stays-character_taking j line name)
Keeps-name_taking most k i j reading line Font name keeps = Keeps-unnamed most i j reading _ keeps refl
Keeps-name_taking most k i j reading line (NameLeftOut b) name keeps = Keeps-unnamed most i j reading _ keeps refl
Keeps-name_taking most k i j reading line (Register step) name keeps = Keeps-asking most k i j reading (Register step) name keeps
Keeps-name_taking most k i j reading line OfText name keeps = Keeps-asking most k i j reading OfText name keeps
Keeps-name_taking most k i j reading line Argument name keeps = Keeps-asking most k i j reading Argument name keeps

-- the same where a line begins, or a branch
Keeps-first_name : (most : ℕ) (k : Known) (i j : PageInput) (reading : LineState) (purpose : NameUse) (name : Option (List ℕ)) → Keeps most i j reading
    → KeepsBy most i (first_name k j reading purpose name)
Keeps-first_name most k i j reading Character name keeps =
    Keeps-stays most i j reading _ keeps
    (Stays-beginning_text k j (λ line. character_taking j line name) (λ line. Stays-character_taking j line name))
Keeps-first_name most k i j reading Font name keeps = Keeps-unnamed most i j reading _ keeps refl
Keeps-first_name most k i j reading (NameLeftOut b) name keeps = Keeps-unnamed most i j reading _ keeps refl
Keeps-first_name most k i j reading (Register step) name keeps = Keeps-asking most k i j reading (Register step) name keeps
Keeps-first_name most k i j reading OfText name keeps = Keeps-asking most k i j reading OfText name keeps
Keeps-first_name most k i j reading Argument name keeps = Keeps-asking most k i j reading Argument name keeps

-- what was found of a text line
pub Keeps-text_found : (most : ℕ) (k : Known) (i j : PageInput) (line : TextLine) (found : Found) → Keeps most i j (InText line)
    → KeepsBy most i (text_found k j line found)
Keeps-text_found most k i j line GoesOn keeps = keeps
Keeps-text_found most k i j line (GivesUnit (Byte b)) keeps = Keeps-stays most i j (InText line) _ keeps (Stays-text_taking j line b)
Keeps-text_found most k i j line (GivesUnit (Kept b)) keeps = Keeps-stays most i j (InText line) _ keeps (Stays-escape_taking j line b)
Keeps-text_found most k i j line (Escape b) keeps = Keeps-stays most i j (InText line) _ keeps (Stays-escape_taking j line b)
Keeps-text_found most k i j line (Asks purpose name) keeps = Keeps-name_taking most k i j (InText line) line purpose name keeps
Keeps-text_found most k i j line (Holds unit) keeps = Keeps-holding_text most i j (InText line) unit keeps
Keeps-text_found most k i j line (Motion columns remark) keeps = Keeps-unnamed most i j (InText line) _ keeps refl
Keeps-text_found most k i j line (Measures width) keeps = Keeps-measuring most i j (InText line) width keeps
Keeps-text_found most k i j line (Tells remark) keeps = keeps
Keeps-text_found most k i j line (Decides decision freed) keeps = keeps

-- what was found where a line begins, or a branch
pub Keeps-beginning_found : (most : ℕ) (k : Known) (i j : PageInput) (reading : LineState) (found : Found)
    → Keeps most i j reading
    → KeepsBy most i (beginning_found k j reading found)
Keeps-beginning_found most k i j reading GoesOn keeps = keeps
Keeps-beginning_found most k i j reading (GivesUnit (Byte b)) keeps = Keeps-stays most i j reading _ keeps (Stays-first_taking k j reading b)
Keeps-beginning_found most k i j reading (GivesUnit (Kept b)) keeps = Keeps-stays most i j reading _ keeps (Stays-first_escape k j reading b)
Keeps-beginning_found most k i j reading (Escape b) keeps = Keeps-stays most i j reading _ keeps (Stays-first_escape k j reading b)
Keeps-beginning_found most k i j reading (Asks purpose name) keeps = Keeps-first_name most k i j reading purpose name keeps
Keeps-beginning_found most k i j reading (Holds unit) keeps = Keeps-holding_text most i j reading unit keeps
Keeps-beginning_found most k i j reading (Motion columns remark) keeps = Keeps-unnamed most i j reading _ keeps refl
Keeps-beginning_found most k i j reading (Measures width) keeps = Keeps-measuring most i j reading width keeps
Keeps-beginning_found most k i j reading (Tells remark) keeps = keeps
Keeps-beginning_found most k i j reading (Decides decision freed) keeps = keeps
