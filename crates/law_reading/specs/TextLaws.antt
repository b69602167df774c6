-- Laws of text lines: what a line of glyphs and blanks tells, and a line of blanks alone (manual, sections 4.1 and 4.2).
use Rattle.std.specs.Prelude.{◌≡◌, ℕ, zero, suc, ◌+◌, ◌≤◌, ⊤, Bool, true, false, not, ◌||◌, List, [], ◌∷◌, ◌++◌, length, map, replicate, All, Some, None, ◌==◌}
use Rattle.std.specs.List.{flat_map}
use Rattle.roff_num.specs.declared.limits.Limits.{Limits}
use Rattle.input_source.specs.Bytes.{apostrophe, blank, dot, is_text_byte, newline}
use Rattle.input_source.specs.Tape.{Tape, OneByte, items_then}
use Rattle.page_model.specs.declared.event.Event.TheVariants.{Print, WordEnd, Gap, LineEnd, Count, Break}
use Rattle.page_model.specs.declared.glyph.Glyph.TheVariants.{Printed, Blanks}
use Rattle.input_model.specs.Input.{Ahead, ByteAhead, lines_taken}
use Rattle.law_reading.specs.CallLaws.{BeginsLine}
use Rattle.run_model.specs.Environments.{PageHistory, interrupted_line}
use Rattle.run_model.specs.Reading.TextLines.{most_leading}
use Rattle.run_model.specs.PageEvents.{PageEvent, PastEvent}
use Rattle.page_model.specs.declared.layout_event.LayoutEvent.TheVariants.{Divert, Space}
use Rattle.run_model.specs.declared.event.PageEvent.TheVariants.{Page, Text}
use Rattle.run_model.specs.Layouts.{happens, layout_of}
use Rattle.run_model.specs.Following.{following}
use Rattle.run_model.specs.Springs.{next, springs}
use Rattle.run_model.specs.Run.{State, nothing_follows, after}
use Rattle.run_model.specs.Run.Counts.{refusal}
use Rattle.run_model.specs.Registers.{AllRegisters}
use Rattle.run_model.specs.Titles.{told}
use Rattle.run_model.specs.TurnsToCome.{behind_all}
use Rattle.run_model.specs.Within.{IsWithin}

-- a byte that is printed as a glyph, and stands for itself
pub record IsGlyph (b : ℕ) : Type 0 where
  pub is_text : is_text_byte b ≡ true
  pub is_printed : (b == blank) ≡ false

-- a text line: blanks in front, a word, behind it blanks and words in turn, and blanks at its end
pub record TextOnLine : Type 0 where
  pub leading : ℕ
  pub first : ℕ
  pub word : List ℕ
  pub others : List (ℕ × List ℕ)
  pub trailing : ℕ

-- blanks, of which there is one at least, and the word behind them
abbrev pub gap_and_word : ℕ × List ℕ → List ℕ
gap_and_word part = replicate (suc part.0) blank ++ part.1

-- its bytes
abbrev pub text_bytes : TextOnLine → List ℕ
text_bytes t =
    ((replicate t.leading blank ++ t.first ∷ t.word) ++ flat_map gap_and_word t.others) ++ replicate t.trailing blank ++ newline ∷ []

-- whether a text line may begin so: its first glyph begins no control line, or blanks stand in front of it
abbrev pub begins_text : ℕ → ℕ → Bool
begins_text zero b = not (b == dot || b == apostrophe)
begins_text (suc n) b = true

-- the line is one of text, and its words are of glyphs
pub record IsTextOnLine (t : TextOnLine) : Type 0 where
  pub leading_few : t.leading ≤ most_leading
  pub first_is : IsGlyph t.first
  pub word_is : All IsGlyph t.word
  pub others_are : All (λ (part : ℕ × List ℕ). All IsGlyph part.1) t.others
  pub begins : begins_text t.leading t.first ≡ true

-- the glyphs of a word
abbrev pub word_events : List ℕ → List PageEvent
word_events word = map (λ b. Text (Print (Printed b))) word

-- each blank behind it ends the word, and is a gap
abbrev pub gap_events : ℕ → List PageEvent
gap_events zero = []
gap_events (suc n) = Text WordEnd ∷ Text (Gap 1) ∷ gap_events n

-- blanks in front break, and are one glyph that can't be padded, in front of the first one of the line
abbrev pub leading_events : ℕ → List PageEvent
leading_events zero = []
leading_events (suc n) = Text WordEnd ∷ Text Break ∷ Text (Print (Blanks (suc n))) ∷ []

-- what it tells: words and gaps, and at its end a word's end, the line's end, and that it counts
abbrev pub text_events : TextOnLine → List PageEvent
text_events t =
    leading_events t.leading ++ word_events (t.first ∷ t.word) ++ flat_map (λ part. gap_events (suc part.0) ++ word_events part.1) t.others
    ++ gap_events t.trailing ++ Text WordEnd ∷ Text LineEnd ∷ Text Count ∷ []

-- an event as it is performed, with so many events in front of it at the most that come before it, and others behind it
abbrev pub performed_with : AllRegisters → ℕ → PageHistory → PageEvent → (PageHistory → List PageEvent) → List PageEvent
performed_with rs zero h e behind = e ∷ behind (told rs e ∷ h)
performed_with rs (suc n) h e behind =
    elim (next h e) [ None ↦ e ∷ behind (told rs e ∷ h) | Some first ↦ first ∷ performed_with rs n (told rs first ∷ h) e behind ]

-- events as they are performed: in front of each stand the end of an open field, that of an open word and the first page's
-- beginning, where these come before it
abbrev pub all_performed : AllRegisters → List PageEvent → PageHistory → List PageEvent
all_performed rs [] h = []
all_performed rs (e ∷ es) h = performed_with rs 3 h e (all_performed rs es)

-- an event is quiet: no limit refuses it, the last page doesn't end with it, and nothing follows it, as it springs no macro and changes
-- no text of a diversion
pub record IsQuiet (l : Limits) (h : PageHistory) (e : PastEvent) : Type 0 where
  pub allowed : refusal l h e ≡ None
  pub goes_on : (layout_of (e ∷ h)).is_over ≡ false
  pub unfollowed : following h e ≡ nothing_follows

-- whether a diversion begins with an event
abbrev pub begins_diversion : PastEvent → Bool
begins_diversion (Page (Divert name appends)) = true
begins_diversion (_) = false

-- With no diversion open an event that begins none changes no text: it is quiet if no limit refuses it, the last page doesn't end with
-- it, and it springs no macro.
abbrev pub EventsAreQuietOnThePage : Type 0
EventsAreQuietOnThePage =
    (l : Limits) (h : PageHistory) (e : PastEvent) → (layout_of h).diversions ≡ [] → begins_diversion e ≡ false → refusal l h e ≡ None
    → (layout_of (e ∷ h)).is_over ≡ false → springs h e ≡ None → IsQuiet l h e

-- And so is one with which nothing happens to the layout, also in a diversion: one of a text line that finishes no line.
abbrev pub EventsThatPutNothingAreQuiet : Type 0
EventsThatPutNothingAreQuiet =
    (l : Limits) (h : PageHistory) (e : PastEvent) → happens h e ≡ None → refusal l h e ≡ None → (layout_of (e ∷ h)).is_over ≡ false
    → springs h e ≡ None → IsQuiet l h e

-- so is each of these, one behind another
abbrev pub AllQuiet : Limits → AllRegisters → PageHistory → List PageEvent → Type 0
AllQuiet l rs h [] = ⊤
AllQuiet l rs h (e ∷ es) = IsQuiet l h (told rs e) × AllQuiet l rs (told rs e ∷ h) es

-- A line of text tells its words and gaps, in order, and the first page begins where it has to. A step is taken for each byte, and
-- one for each event, and each byte costs one; nothing else changes, and a line begins behind it. So it is where no line was
-- interrupted that is to go on, no macro springs on the way, at a trap of the page or as the line counts, and no text of a diversion
-- changes: what lines are finished on the way go on the page.
abbrev pub TextLinesTellTheirWords : Type 0
TextLinesTellTheirWords =
    (l : Limits) (s : State) (t : TextOnLine) (rest : List (Ahead PageEvent)) →
    BeginsLine s → interrupted_line s.history ≡ None → IsTextOnLine t →
    s.input.ahead ≡ map ByteAhead (text_bytes t) ++ rest →
    let events : List PageEvent = all_performed s.registers (text_events t) s.history in
    IsWithin l s → s.input.charge + length (text_bytes t) ≤ l.bytes → AllQuiet l s.registers s.history events →
    after l (length (text_bytes t) + length events) s
    ≡ record s {
      input = record s.input { ahead = rest; charge = s.input.charge + length (text_bytes t) };
      history = behind_all s.registers events s.history;
    }

-- and so it is where the line stands in the source itself, with nothing ahead of it
abbrev pub TextLinesOfTheSourceTellTheirWords : Type 0
TextLinesOfTheSourceTellTheirWords =
    (l : Limits) (s : State) (t : TextOnLine) (tape : Tape) →
    BeginsLine s → interrupted_line s.history ≡ None → IsTextOnLine t → s.input.ahead ≡ [] →
    s.tape ≡ items_then (map OneByte (text_bytes t)) tape →
    let events : List PageEvent = all_performed s.registers (text_events t) s.history in
    IsWithin l s → s.input.charge + length (text_bytes t) ≤ l.bytes → AllQuiet l s.registers s.history events →
    after l (length (text_bytes t) + length events) s
    ≡ record s { tape = tape; input = lines_taken (text_bytes t) s.input; history = behind_all s.registers events s.history }

-- the bytes of a line of blanks alone
abbrev pub blank_bytes : ℕ → List ℕ
blank_bytes n = replicate n blank ++ newline ∷ []

-- it breaks, where its first blank stands and at its end, and is a blank line
abbrev pub blank_events : ℕ → List PageEvent
blank_events zero = Text WordEnd ∷ Text Break ∷ Page (Space 1) ∷ []
blank_events (suc n) = Text WordEnd ∷ Text Break ∷ Text WordEnd ∷ Text Break ∷ Page (Space 1) ∷ []

-- a line of blanks alone, and an empty one, breaks and is a blank line of the page; it isn't counted
abbrev pub BlankLinesSpace : Type 0
BlankLinesSpace =
    (l : Limits) (s : State) (n : ℕ) (rest : List (Ahead PageEvent)) →
    BeginsLine s → interrupted_line s.history ≡ None → n ≤ most_leading → s.input.ahead ≡ map ByteAhead (blank_bytes n) ++ rest →
    let events : List PageEvent = all_performed s.registers (blank_events n) s.history in
    IsWithin l s → s.input.charge + length (blank_bytes n) ≤ l.bytes → AllQuiet l s.registers s.history events →
    after l (length (blank_bytes n) + length events) s
    ≡ record s {
      input = record s.input { ahead = rest; charge = s.input.charge + length (blank_bytes n) };
      history = behind_all s.registers events s.history;
    }

-- and so it is where the line stands in the source itself, with nothing ahead of it
abbrev pub BlankLinesOfTheSourceSpace : Type 0
BlankLinesOfTheSourceSpace =
    (l : Limits) (s : State) (n : ℕ) (tape : Tape) →
    BeginsLine s → interrupted_line s.history ≡ None → n ≤ most_leading → s.input.ahead ≡ [] →
    s.tape ≡ items_then (map OneByte (blank_bytes n)) tape →
    let events : List PageEvent = all_performed s.registers (blank_events n) s.history in
    IsWithin l s → s.input.charge + length (blank_bytes n) ≤ l.bytes → AllQuiet l s.registers s.history events →
    after l (length (blank_bytes n) + length events) s
    ≡ record s { tape = tape; input = lines_taken (blank_bytes n) s.input; history = behind_all s.registers events s.history }
