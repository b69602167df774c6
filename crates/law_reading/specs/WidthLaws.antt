-- Laws of texts that are measured, and of motions: a width is read in its digits, and a motion's columns count (manual,
-- sections 2.3 and 11).
use Rattle.std.specs.Prelude.{◌≡◌, ℕ, ◌+◌, ◌*◌, Bool, true, false, not, ◌||◌, List, [], ◌∷◌, ◌++◌, decimal, length, map, min, nat_lt, sum_by, All, IsTrue, Option, Some, None, ◌==◌, if◌then◌else◌}
use Rattle.page_model.specs.Behind.{pending_length}
use Rattle.page_model.specs.Events.{History}
use Rattle.page_model.specs.Fields.{is_in_field, plain, told_plainly}
use Rattle.page_model.specs.Places.{tab_width}
use Rattle.page_model.specs.Words.{begun_gap, blanks, has_open_word, is_empty, last_word_glyphs, words}
use Rattle.page_model.specs.declared.event.Event.TheVariants.{Print, Tab}
use Rattle.page_model.specs.declared.glyph.Glyph.TheVariants.{Blanks}
use Rattle.roff_num.specs.declared.limit.Limit.TheVariants.{Line}
use Rattle.roff_num.specs.declared.limits.Limits.{Limits}
use Rattle.input_source.specs.Bytes.{newline, backslash, is_dropped}
use Rattle.input_escapes.specs.OpenEscape.{OpenEscape, Width}
use Rattle.input_model.specs.Input.{Ahead, ByteAhead, pushing}
use Rattle.input_escapes.specs.Measures.{byte_columns, most_width}
use Rattle.input_source.specs.Tape.{Tape, Gives, OneByte, Ends, Ended, items_then}
use Rattle.law_reading.specs.InterpolationLaws.{StandsForItself, reads_escapes, with_source_behind}
use Rattle.run_model.specs.ItemsTaken.{TakesItems}
use Rattle.run_model.specs.Within.{IsWithin}
use Rattle.run_model.specs.Output.{PageHistory, text_of}
use Rattle.run_model.specs.Reading.Units.{interrupted}
use Rattle.run_model.specs.PageEvents.{PageEvent}
use Rattle.run_model.specs.declared.event.PageEvent.TheVariants.{Text}
use Rattle.run_model.specs.Run.{State, step, after, source_answer}
use Rattle.run_model.specs.Run.Counts.{refusal}
use Rattle.run_model.specs.declared.line_state.LineState.{LineState}
use Rattle.run_model.specs.declared.line_state.LineState.TheVariants.{Collecting}
use Rattle.run_model.specs.declared.purpose.Purpose.TheVariants.{StringText, Telling, Defining}

-- The digits of a width and their end stand in front of the rest, this is half read, and so many bytes more were
-- taken. What isn't a byte of the line has come: among arguments, and in a string's name, no quote follows the quote before
-- it.
abbrev pub with_width_ahead : ℕ → List OpenEscape → ℕ → List (Ahead PageEvent) → State → State
with_width_ahead width half taken rest s = record s {
  input = pushing (decimal width)
      (record (interrupted s.reading s.input) { ahead = rest; escapes = half; charge = s.input.charge + taken });
}

-- a byte that may delimit a text: it isn't dropped, and doesn't end the line
abbrev pub MayDelimit : ℕ → Type 0
MayDelimit d = IsTrue (not (is_dropped d || d == newline))

-- Where a text is measured and its delimiter comes, the digits of its width so far are read in its place, in one step at
-- the cost of one. What stood below it is half read again, and what is read stays: a line still begins there.
abbrev pub WidthsReadAsDigits : Type 0
WidthsReadAsDigits =
    (l : Limits) (s : State) (d width : ℕ) (is_deep : Bool) (half : List OpenEscape) (rest : List (Ahead PageEvent)) →
    MayDelimit d → TakesItems s → reads_escapes s.reading ≡ true →
    s.input.escapes ≡ Width (Some d) width is_deep ∷ half → s.input.ahead ≡ ByteAhead d ∷ rest →
    let read : State = with_width_ahead width half 1 rest s in
    IsWithin l s → IsWithin l read → step l s ≡ read

-- and so it is where the delimiter stands in the source itself, with nothing ahead of it
abbrev pub WidthsOfTheSourceReadAsDigits : Type 0
WidthsOfTheSourceReadAsDigits =
    (l : Limits) (s : State) (d width : ℕ) (is_deep : Bool) (half : List OpenEscape) (tape : Tape) →
    MayDelimit d → TakesItems s → reads_escapes s.reading ≡ true →
    s.input.escapes ≡ Width (Some d) width is_deep ∷ half → s.input.ahead ≡ [] → s.tape ≡ items_then (OneByte d ∷ []) tape →
    let read : State = with_width_ahead width half 1 [] (with_source_behind tape s) in
    IsWithin l s → IsWithin l read → step l s ≡ read

-- what ends a text that is measured before its delimiter comes: a newline in front, or the end of the source
pub data EndsText (s : State) : Type 0 where
  NewlineAhead : (rest : List (Ahead PageEvent)) → s.input.ahead ≡ ByteAhead newline ∷ rest → EndsText s
  NewlineOfTheSource : s.input.ahead ≡ [] → source_answer s ≡ Gives (OneByte newline) → EndsText s
  EndOfTheSource : s.input.ahead ≡ [] → source_answer s ≡ Ends Ended → EndsText s

-- there too the digits of the width so far are read, and what ended the text is still to come
abbrev pub WidthsEndWithTheirLine : Type 0
WidthsEndWithTheirLine =
    (l : Limits) (s : State) (delimiter : Option ℕ) (width : ℕ) (is_deep : Bool) (half : List OpenEscape) →
    EndsText s → TakesItems s → reads_escapes s.reading ≡ true → s.input.escapes ≡ Width delimiter width is_deep ∷ half →
    let read : State = with_width_ahead width half 0 s.input.ahead s in
    IsWithin l s → IsWithin l read → step l s ≡ read

-- whether texts are measured: where escapes are read, but for a string's text and a message's, into which they are copied
abbrev pub measures_texts : LineState → Bool
measures_texts (Collecting (StringText name appends is_front)) = false
measures_texts (Collecting (Defining name appends end matched)) = false
measures_texts (Collecting (Telling aborts is_front)) = false
measures_texts reading = reads_escapes reading

-- `\w`, a delimiter, a text, and the delimiter again
abbrev pub width_escape : ℕ → List ℕ → List ℕ
width_escape d text = backslash ∷ 119 ∷ d ∷ text ++ d ∷ []

-- a text without escapes, in which its delimiter doesn't stand
abbrev pub IsPlain : ℕ → List ℕ → Type 0
IsPlain d text = All (λ b. ((b == d) ≡ false) × StandsForItself b) text

-- the width of such a text in basic units: 24 for each of its columns, and no more than may be
abbrev pub text_units : List ℕ → ℕ
text_units text = min (24 * sum_by byte_columns text) most_width

-- Reading such an escape is reading the digits of its text's width, and their end, and what stood behind it. So it is
-- where nothing is half read, in text and among arguments, but not in the text of a string.
abbrev pub MeasuredTextsReadAsDigits : Type 0
MeasuredTextsReadAsDigits =
    (l : Limits) (s : State) (d : ℕ) (text : List ℕ) (rest : List (Ahead PageEvent)) →
    MayDelimit d → IsPlain d text → TakesItems s → measures_texts s.reading ≡ true → s.input.escapes ≡ [] →
    s.input.ahead ≡ map ByteAhead (width_escape d text) ++ rest →
    let read : State = with_width_ahead (text_units text) [] (length (width_escape d text)) rest s in
    IsWithin l s → IsWithin l read → after l (length (width_escape d text)) s ≡ read

-- and so it is where the escape stands in the source itself
abbrev pub MeasuredTextsOfTheSourceReadAsDigits : Type 0
MeasuredTextsOfTheSourceReadAsDigits =
    (l : Limits) (s : State) (d : ℕ) (text : List ℕ) (tape : Tape) →
    MayDelimit d → IsPlain d text → TakesItems s → measures_texts s.reading ≡ true → s.input.escapes ≡ [] →
    s.input.ahead ≡ [] → s.tape ≡ items_then (map OneByte (width_escape d text)) tape →
    let read : State = with_width_ahead (text_units text) [] (length (width_escape d text)) [] (with_source_behind tape s) in
    IsWithin l s → IsWithin l read → after l (length (width_escape d text)) s ≡ read

-- the gap before a word that begins here, told without fields: none within a word, nor where the line begins
abbrev pub word_gap : History → ℕ
word_gap h = if has_open_word h || is_empty (words h) then 0 else begun_gap (blanks h) (last_word_glyphs h)

-- the gap before a glyph that is told here: in a field the gap at its end
abbrev pub gap_begun : History → ℕ
gap_begun h = elim (told_plainly h).field [ None ↦ word_gap (plain h) | Some f ↦ f.gap ]

-- a motion is a glyph of so many blanks: the pending line is so much longer behind it, and longer by the gap before it
-- where it begins a word, or stands behind a gap in a field
abbrev pub MotionsAreAsLongAsTheirColumns : Type 0
MotionsAreAsLongAsTheirColumns =
    (h : History) (n : ℕ) → pending_length (Print (Blanks n) ∷ h) ≡ pending_length h + gap_begun h + n

-- so a motion is refused where the pending line would be longer than the limit on a line, and else it isn't
abbrev pub MotionsCountInTheLine : Type 0
MotionsCountInTheLine =
    (l : Limits) (h : PageHistory) (n : ℕ) →
    refusal l h (Text (Print (Blanks n)))
    ≡ (if nat_lt l.line (pending_length (text_of h) + gap_begun (text_of h) + n) then Some Line else None)

-- so is a tab of the blanks that lead to its stop, where that opens no field and none is open (manual, section 9.1)
abbrev pub TabsAreAsLongAsTheirColumns : Type 0
TabsAreAsLongAsTheirColumns =
    (h : History) → is_in_field h ≡ false → is_in_field (Tab ∷ h) ≡ false →
    pending_length (Tab ∷ h) ≡ pending_length h + gap_begun h + tab_width (plain h)

-- and it is refused where a motion of as many columns would be
abbrev pub TabsCountInTheLine : Type 0
TabsCountInTheLine =
    (l : Limits) (h : PageHistory) → is_in_field (text_of h) ≡ false → is_in_field (Tab ∷ text_of h) ≡ false →
    refusal l h (Text Tab) ≡ refusal l h (Text (Print (Blanks (tab_width (plain (text_of h))))))

-- a tab that opens a field has no columns yet: only the gap before the field counts
abbrev pub FieldsBeginWithoutColumns : Type 0
FieldsBeginWithoutColumns =
    (h : History) → is_in_field h ≡ false → is_in_field (Tab ∷ h) ≡ true → pending_length (Tab ∷ h) ≡ pending_length h + gap_begun h

-- and it is refused where a motion of none would be
abbrev pub FieldsBeginInTheLine : Type 0
FieldsBeginInTheLine =
    (l : Limits) (h : PageHistory) → is_in_field (text_of h) ≡ false → is_in_field (Tab ∷ text_of h) ≡ true →
    refusal l h (Text Tab) ≡ refusal l h (Text (Print (Blanks 0)))
