-- Words around a macro that springs in the middle of a text line, and the words of its own lines (manual, sections 4.1 and 7.5).
--
-- The words and glyphs of a history are those that are told without fields: in a field a word is open, which no word end ends.
use Rattle.std.specs.Prelude.{◌≡◌, ◌≢◌, ◌<◌, ℕ, suc, true, false, List, [], ◌∷◌, ◌++◌, reverse, Some, None, IsSome, if◌then◌else◌, ◌==◌}
use Rattle.std.specs.List.{flat_map}
use Rattle.roff_num.specs.declared.limits.Limits.{Limits}
use Rattle.roff_num.specs.declared.short_name.ShortName.{ShortName}
use Rattle.input_model.specs.Input.{Ahead, DoAhead}
use Rattle.page_model.specs.Behind.{has_open_word as has_word_to_end}
use Rattle.page_model.specs.Events.{History}
use Rattle.page_model.specs.Fields.{is_in_field, plain, tab_reached, told_plainly}
use Rattle.page_model.specs.declared.event.Event.{Event}
use Rattle.page_model.specs.declared.event.Event.TheVariants.{Print, Tab, FieldEnd, WordEnd, Gap, LineEnd, Break}
use Rattle.page_model.specs.Fitting.{Word}
use Rattle.page_model.specs.Lines.{Finished}
use Rattle.page_model.specs.Places.{tab_width}
use Rattle.page_model.specs.Words.{has_open_word, open_glyphs, open_word, words}
use Rattle.page_model.specs.declared.glyph.Glyph.{Glyph}
use Rattle.page_model.specs.declared.glyph.Glyph.TheVariants.{Blanks}
use Rattle.page_model.specs.Happenings.{Places}
use Rattle.run_model.specs.Environments.{environments, text_of}
use Rattle.run_model.specs.declared.environment_number.EnvironmentNumber.{EnvironmentNumber}
use Rattle.run_model.specs.declared.event.PageEvent.TheVariants.{Text}
use Rattle.run_model.specs.Layouts.{happens}
use Rattle.run_model.specs.PageEvents.{PageEvent, PageHistory}
use Rattle.run_model.specs.Run.{Leads, State, after}
use Rattle.run_model.specs.Springs.{ends_field, next}
use Rattle.law_runs.specs.EnvironmentLaws.{text_in}
use Rattle.law_runs.specs.SpringLaws.{Springs, happening, with_rest_back}
use Rattle.law_runs.specs.TrapLaws.{LeavesInput}

-- all words that have ended, the newest first, of a history without fields
abbrev pub ended_words : History → List Word
ended_words [] = []
ended_words (WordEnd ∷ h) = if has_open_word h then open_word h ∷ ended_words h else ended_words h
ended_words (_ ∷ h) = ended_words h

-- those of which lines are made are among them: the words since the last break are the newest ones
pub record AreNewest (ws all : List Word) : Type 0 where
  pub others : List Word
  pub is : all ≡ ws ++ others

abbrev pub LinesAreOfEndedWords : Type 0
LinesAreOfEndedWords = (h : History) → AreNewest (words (plain h)) (ended_words (plain h))

-- all glyphs that were told, the newest first, of such a history
abbrev pub glyphs_of : History → List Glyph
glyphs_of [] = []
glyphs_of (Print g ∷ h) = g ∷ glyphs_of h
glyphs_of (Tab ∷ h) = Blanks (tab_width h) ∷ glyphs_of h
glyphs_of (_ ∷ h) = glyphs_of h

-- the glyphs of words, the newest first
abbrev pub glyphs_in : List Word → List Glyph
glyphs_in ws = flat_map (λ w. reverse w.glyphs) ws

-- What was told behind a history stands in words of its own: the words that had ended are as they were, and those that ended since,
-- and the open one, are of the glyphs that were told since, and of no others. So it is of histories without fields,
pub record AddsWords (before behind : History) : Type 0 where
  pub words : List Word
  pub others_stay : ended_words behind ≡ words ++ ended_words before
  pub of_its_glyphs : glyphs_of behind ≡ (open_glyphs behind ++ glyphs_in words) ++ glyphs_of before

-- and of any, as they are told without them
abbrev pub InWordsOfItsOwn : History → History → Type 0
InWordsOfItsOwn before behind = AddsWords (plain before) (plain behind)

-- In front of an open word stands a blank at least, also where it began directly behind the end of another one, as a footer's text does.
abbrev pub WordsStandApart : Type 0
WordsStandApart = (h : History) → has_open_word (plain h) ≡ true → 0 < (open_word (plain h)).gap

-- the blanks of a gap at the end of an open field, if one is there: the next glyph is of the same word
abbrev pub gap_in_field : History → List Glyph
gap_in_field h = elim (told_plainly h).field [ None ↦ [] | Some f ↦ if f.gap == 0 then [] else Blanks f.gap ∷ [] ]

-- A glyph that is told where a word is open is one of that word, and no other word ends: so it is behind the text of a macro that `\c`
-- interrupted, or whose last line a backslash joins to what follows, where what sprang it was a line's end.
abbrev pub OpenWordsGoOn : Type 0
OpenWordsGoOn =
    (h : History) (g : Glyph) → has_open_word (plain h) ≡ true →
    let behind : History = plain (Print g ∷ h) in
    ((open_word behind).glyphs ≡ (open_word (plain h)).glyphs ++ (gap_in_field h ++ g ∷ []))
    × ((open_word behind).gap ≡ (open_word (plain h)).gap) × (ended_words behind ≡ ended_words (plain h))

-- whether an event of the text ends a word, or a line of the input or of the output with it
abbrev pub EndsWord : Event → Type 0
EndsWord WordEnd = Unit {0}
EndsWord LineEnd = Unit {0}
EndsWord Break = Unit {0}
EndsWord (_) = ⊥

-- Behind each of these no word is open that a word's end would end, once nothing comes before it any more: so it is behind a text line
-- that is whole.
abbrev pub EndsLeaveNoWordOpen : Type 0
EndsLeaveNoWordOpen =
    (h : PageHistory) (e : Event) → EndsWord e → next h (Text e) ≡ None → has_word_to_end (text_of (Text e ∷ h)) ≡ false

-- whether it ends a line of the input or of the output
abbrev pub IsLineEnd : Event → Type 0
IsLineEnd LineEnd = Unit {0}
IsLineEnd Break = Unit {0}
IsLineEnd (_) = ⊥

-- behind these no word is open at all, so that no field is
abbrev pub LineEndsLeaveNoWordOpen : Type 0
LineEndsLeaveNoWordOpen =
    (h : PageHistory) (e : Event) → IsLineEnd e → next h (Text e) ≡ None → has_open_word (plain (text_of (Text e ∷ h))) ≡ false

-- whether an event tells a glyph
abbrev pub TellsGlyph : Event → Type 0
TellsGlyph (Print g) = Unit {0}
TellsGlyph Tab = Unit {0}
TellsGlyph (_) = ⊥

-- and none is open until a glyph is told
abbrev pub OnlyGlyphsOpenWords : Type 0
OnlyGlyphsOpenWords =
    (h : History) (e : Event) → has_open_word (plain h) ≡ false → has_open_word (plain (e ∷ h)) ≡ true → TellsGlyph e

-- a field's end leaves its word open, for a word's end to end
abbrev pub FieldsLeaveAWordOpen : Type 0
FieldsLeaveAWordOpen = (h : History) → is_in_field h ≡ true → has_word_to_end (FieldEnd ∷ h) ≡ true

-- where no word is open in an environment, all that is told there later stands in words of its own
abbrev pub WordsBeginWhereNoneIsOpen : Type 0
WordsBeginWhereNoneIsOpen =
    (l : Limits) (s : State) (number : EnvironmentNumber) (n : ℕ) → has_open_word (plain (text_in number s.history)) ≡ false
    → InWordsOfItsOwn (text_in number s.history) (text_in number (after l n s).history)

-- The text of a macro that springs as a line is finished, at a word's end, a line's end or a break, and all that is told behind it in
-- the environment of that line, stands in words of its own: the word in front has ended. A tab may finish a line too, where it ends a
-- field behind a gap; but it begins a word.
abbrev pub FootersBeginWords : Type 0
FootersBeginWords =
    (l : Limits) (s : State) (e : PageEvent) (rest : List PageEvent) (name : ShortName) (line : Finished) (n : ℕ) → Springs l s e rest name
    → happening e s ≢ Text Tab → happens s.history (happening e s) ≡ Some (Places line) →
    let number : EnvironmentNumber = (environments s.history).number in
    InWordsOfItsOwn (text_in number (happening e s ∷ s.history)) (text_in number (after l (suc n) s).history)

-- A tab that ends a field behind a gap finishes a line as a word's end does, and begins a word: the text of a macro that springs there,
-- and all behind it, is in words of its own with the tab, and the word in front of the gap has ended.
abbrev pub FootersBehindTabs : Type 0
FootersBehindTabs =
    (l : Limits) (s : State) (e : PageEvent) (rest : List PageEvent) (name : ShortName) (line : Finished) (n : ℕ) → Springs l s e rest name
    → happening e s ≡ Text Tab → happens s.history (happening e s) ≡ Some (Places line) →
    AddsWords (tab_reached (told_plainly (text_of s.history))) (plain (text_in (environments s.history).number (after l (suc n) s).history))

-- an event of a text line that ends a word that was left open in front of it
abbrev pub EndsOpenWord : PageEvent → Type 0
EndsOpenWord (Text (Gap columns)) = Unit {0}
EndsOpenWord (Text LineEnd) = Unit {0}
EndsOpenWord (Text Break) = Unit {0}
EndsOpenWord (_) = ⊥

-- an event that was put back waits, and this stands behind it: other items may stand in front of it, or it is to be done next
pub data WaitsInFront (e : PageEvent) (behind : List (Ahead PageEvent)) (s : State) : Type 0 where
  StandsThere : (front : List (Ahead PageEvent)) → s.input.ahead ≡ front ++ DoAhead e ∷ behind → WaitsInFront e behind s
  IsNext : s.to_do ≡ e ∷ [] → s.input.ahead ≡ behind → WaitsInFront e behind s

-- a line goes on with an event, in the environment in force: nothing comes before that any more, no event and no change of the text of
-- a diversion, no word is open that a word's end would end, and no field that it would end
pub record GoesOnWith (e : PageEvent) (behind : List (Ahead PageEvent)) (s : State) : Type 0 where
  pub first : s.to_do ≡ e ∷ []
  pub no_text : s.follows.text ≡ None
  pub others : s.input.ahead ≡ behind
  pub none_before : next s.history e ≡ None
  pub no_word : has_word_to_end (text_of s.history) ≡ false
  pub no_field : ends_field s.history e ≡ false

-- What was left of a line, with this event in front, has come so far from where a macro sprang: it waits yet; or the line went on with
-- it, and what is told since then is in words of its own, unless that is a gap and a field was left open, in which it stands; or the
-- run ended; or an `ex` left the input on the way.
pub data HasGoneOn (l : Limits) (from : State) (e : PageEvent) (behind : List (Ahead PageEvent)) (s : State) : Type 0 where
  Waits : WaitsInFront e behind s → HasGoneOn l from e behind s
  WentOn : (at : State) → Leads l from at → GoesOnWith e behind at → Leads l at s
      → (is_in_field (text_of at.history) ≡ false
      → InWordsOfItsOwn (text_in (environments at.history).number at.history) (text_in (environments at.history).number s.history))
      → HasGoneOn l from e behind s
  RunEnded : IsSome s.ended → HasGoneOn l from e behind s
  InputLeft : (at : State) → Leads l from at → LeavesInput at → Leads l at s → HasGoneOn l from e behind s

-- A text line that a macro interrupts between two words goes on with another word, whatever the macro is, also where its text leaves a
-- word open: a gap, the line's end or a break is put back behind it, and ends that word first. Where the text leaves a field open, the
-- line's end or a break ends that, and a gap is one in the field.
abbrev pub LinesGoOnWithAnotherWord : Type 0
LinesGoOnWithAnotherWord =
    (l : Limits) (s : State) (e : PageEvent) (rest : List PageEvent) (name : ShortName) (first : PageEvent) (behind : List (Ahead PageEvent))
    (n : ℕ) → Springs l s e rest name → EndsOpenWord first → (with_rest_back e rest s).input.ahead ≡ DoAhead first ∷ behind
    → HasGoneOn l s first behind (after l (suc n) s)
