-- A text line tells its words and gaps, and a line of blanks alone is a blank line.
use Rattle.std.proofs.Common.{◌≡◌, ℕ, zero, suc, ◌+◌, ◌≤◌, Bool, true, false, List, ◌∷◌, ◌++◌, length, Option, None, refl, ap, sym, subst, ◌∙◌, arith, [], All, ◌||◌, not, min, nat_lt, replicate, if◌then◌else◌, ◌==◌, ne_eqb, length-append}
use Rattle.std.specs.List.{flat_map}
use Rattle.std.proofs.lemmas.List.Elements.{All-head, All-tail}
use Rattle.roff_num.specs.declared.limits.Limits.{Limits}
use Rattle.input_model.specs.Arguments.{Arguments, no_arguments}
use Rattle.input_source.specs.Bytes.{apostrophe, backslash, blank, dot, is_silent, is_text_byte, newline, tab}
use Rattle.page_model.specs.declared.event.Event.TheVariants.{Print, WordEnd, Gap, LineEnd, Count, Break}
use Rattle.page_model.specs.declared.glyph.Glyph.TheVariants.{Printed, Blanks}
use Rattle.input_escapes.specs.OpenEscape.{OpenEscape, Backslash}
use Rattle.input_escapes.specs.OpenEscapes.{byte_read}
use Rattle.input_escapes.specs.declared.open_escape.CopyUnit.TheVariants.{Byte}
use Rattle.input_escapes.specs.declared.open_escape.Found.TheVariants.{GoesOn, Unit as GivesUnit}
use Rattle.law_reading.specs.CallLaws.{BeginsLine}
use Rattle.law_reading.specs.TextLaws.{BlankLinesOfTheSourceSpace, BlankLinesSpace, IsGlyph, IsTextOnLine, TextLinesOfTheSourceTellTheirWords, TextLinesTellTheirWords, TextOnLine, all_performed, blank_bytes, blank_events, gap_and_word, gap_events, text_bytes, text_events, word_events}
use Rattle.run_model.proofs.ItemsTaken.{FromAhead, FromSource, Origin, ahead_at, tape_at}
use Rattle.run_model.proofs.Leads.{after-add}
use Rattle.run_model.proofs.PlainRuns.{behind_byte, behind_bytes, counted, counted-ahead, counted-last, counted-source, is-run_at}
use Rattle.run_model.proofs.TextBytes.{heard-text, is_other, kept-text, prints_text}
use Rattle.run_model.specs.Environments.{PageHistory, interrupted_line}
use Rattle.run_model.specs.Reading.{undropped_taking}
use Rattle.run_model.specs.Reading.Units.{interrupted}
use Rattle.run_model.specs.Reading.Beginnings.{at_start, beginning_text, going_on_told, line_begun, line_begun_as}
use Rattle.run_model.specs.Reading.Ends.{due}
use Rattle.run_model.specs.Reading.Found.{read_in}
use Rattle.run_model.specs.Reading.Items.{PageInput, Taking, behind_events, going_on, meaning_events}
use Rattle.run_model.specs.Reading.TextLines.{blank_line, blank_taking, fresh_line, glyph_taking, leading_glyph, most_leading, on_line, other_taking, tab_taking, text_line_end, text_taking}
use Rattle.run_model.specs.Registers.{AllRegisters, Known}
use Rattle.run_model.specs.PageEvents.{PageEvent}
use Rattle.run_model.specs.declared.event.PageEvent.TheVariants.{Text}
use Rattle.run_model.specs.Run.{State, after, known}
use Rattle.run_model.specs.Telling.{byte_events}
use Rattle.run_model.specs.TurnsToCome.{behind_all}
use Rattle.run_model.specs.Within.{IsWithin}
use Rattle.run_model.specs.declared.line_state.LineState.{LineState}
use Rattle.run_model.specs.declared.line_state.LineState.TheVariants.{Control, LineStart, Text as InText}
use Rattle.run_model.specs.declared.line_state.TextLine.{TextLine}
use Rattle.law_reading.proofs.EventRuns.{AreQuiet, Always, Here, Means, Onward, Tells, Tells-append, after-Tells, after-meant, behind-append, behind_performed, quiet-front, steps-append, steps_of, text_at}
use Rattle.law_reading.proofs.LineRooms.{Room, reads_at, room-behind, room-start}

-- a byte of plain text on a text line
means-text : (line : TextLine) (b : ℕ) (q : LineState) (events : List PageEvent) → is_text_byte b ≡ true
    → ((i : PageInput) → text_taking i line b ≡ meaning_events i q events) → Means Always (InText line) b events q
means-text line b q events text means k i so none_half =
    ap (λ (c : Bool). if c then going_on (interrupted (InText line) i) (InText line) else undropped_taking k (InText line) i b)
    (kept-text (nat_lt b 32) (b == 127) (b == backslash) (not (b == newline || b == tab || is_silent b)) text)
    ∙ ap (λ (half : List OpenEscape). read_in k (InText line) i (byte_read (on_line k line) half b)) none_half
    ∙ ap (λ (c : Bool). read_in k (InText line) i (if c then (GoesOn, Backslash ∷ []) else (GivesUnit (Byte b), []))) (is_other b backslash text refl)
    ∙ ap (λ (half : List OpenEscape). text_taking (record i { escapes = half }) line b) (sym none_half)
    ∙ means i

-- where a line begins, and none is to go on
abbrev pub NoneGoesOn : Known → Type 0
NoneGoesOn k = k.interrupted ≡ None

pub means-first : (b : ℕ) (q : LineState) (events : List PageEvent) → is_text_byte b ≡ true → (b == dot) ≡ false → (b == apostrophe) ≡ false
    → ((i : PageInput) → text_taking i fresh_line b ≡ meaning_events i q events) → Means NoneGoesOn LineStart b events q
means-first b q events text no_dot no_apostrophe means k i none_goes none_half =
    ap (λ (c : Bool). if c then going_on (interrupted LineStart i) LineStart else undropped_taking k LineStart i b)
    (kept-text (nat_lt b 32) (b == 127) (b == backslash) (not (b == newline || b == tab || is_silent b)) text)
    ∙ ap (λ (half : List OpenEscape). read_in k LineStart i (byte_read (at_start k) half b)) none_half
    ∙ ap (λ (c : Bool). read_in k LineStart i (if c then (GoesOn, Backslash ∷ []) else (GivesUnit (Byte b), []))) (is_other b backslash text refl)
    ∙ ap (λ (half : List OpenEscape). line_begun k (record i { escapes = half }) b) (sym none_half)
    ∙ ap (λ (c : Bool). if c then going_on i (Control true) else if b == apostrophe then going_on i (Control false) else beginning_text k (λ line. text_taking i line b)) no_dot
    ∙ ap (λ (c : Bool). if c then going_on i (Control false) else beginning_text k (λ line. text_taking i line b)) no_apostrophe
    ∙ ap (λ (line : Option TextLine). behind_events (going_on_told line) (text_taking i (line_begun_as line) b)) none_goes
    ∙ ap (behind_events []) (means i)

-- the newline of a text line, and of an empty one
pub means-newline : (line : TextLine) → Means Always (InText line) newline (text_line_end line) LineStart
means-newline line k i so none_half =
    ap (λ (half : List OpenEscape). read_in k (InText line) i (byte_read (on_line k line) half newline)) none_half
    ∙ ap (λ (half : List OpenEscape). meaning_events (record i { escapes = half }) LineStart (text_line_end line)) (sym none_half)

means-empty : Means NoneGoesOn LineStart newline blank_line LineStart
means-empty k i none_goes none_half =
    ap (λ (half : List OpenEscape). read_in k LineStart i (byte_read (at_start k) half newline)) none_half
    ∙ ap (λ (line : Option TextLine). behind_events (going_on_told line) (text_taking (record i { escapes = [] }) (line_begun_as line) newline)) none_goes
    ∙ ap (λ (half : List OpenEscape). meaning_events (record i { escapes = half }) LineStart blank_line) (sym none_half)

-- a glyph of a text line
pub taking-glyph : (i : PageInput) (line : TextLine) (b : ℕ) → IsGlyph b
    → text_taking i line b ≡ meaning_events i (InText (record line { has_glyph = true; leading = 0 })) (leading_glyph line.leading ++ Text (Print (Printed b)) ∷ [])
taking-glyph i line b glyph =
    let printed : Taking = if b == blank then blank_taking i line else glyph_taking i line (Printed b) in
    let sounding : Taking = if is_silent b then other_taking i line else printed in
    let moving : Taking = if b == tab then tab_taking i line else sounding in
    ap (λ (c : Bool). if c then meaning_events i LineStart (text_line_end line) else moving) (is_other b newline glyph.is_text refl)
    ∙ ap (λ (c : Bool). if c then tab_taking i line else sounding) (is_other b tab glyph.is_text refl)
    ∙ ap (λ (c : Bool). if c then other_taking i line else printed) (heard-text b glyph.is_text)
    ∙ ap (λ (c : Bool). if c then blank_taking i line else glyph_taking i line (Printed b)) glyph.is_printed

-- a line with a glyph, and one with so many leading blanks
abbrev pub glyph_line : TextLine
glyph_line = record fresh_line { has_glyph = true }

abbrev pub leading_line : ℕ → TextLine
leading_line n = record fresh_line { leading = n }

-- leading blanks
not_zero : (n : ℕ) → (suc n == 0) ≡ false
not_zero n = ne_eqb (suc n) 0 (λ is. omega (arith, is))

one_more : (n : ℕ) → n + 1 ≤ most_leading → min (n + 1) most_leading ≡ n + 1
one_more n few = omega (arith, few)

tells-leading : (m n : ℕ) → suc m + n ≤ most_leading → Tells (InText (leading_line (suc m))) (replicate n blank) [] (InText (leading_line (suc m + n)))
tells-leading m zero few = subst (λ (k : ℕ). Tells (InText (leading_line (suc m))) [] [] (InText (leading_line k))) (omega arith) (Here (InText (leading_line (suc m))))
tells-leading m (suc n) few =
    let there : LineState = InText (leading_line (suc m + suc n)) in
    let next : LineState = InText (leading_line (suc (suc m))) in
    Onward (InText (leading_line (suc m))) next there blank (replicate n blank) [] [] refl
    (means-text (leading_line (suc m)) blank next [] refl
    (λ i. ap (λ (c : Bool). meaning_events i (InText (leading_line (min (suc m + 1) most_leading))) (if c then Text WordEnd ∷ Text Break ∷ [] else [])) (not_zero m)
    ∙ ap (λ (k : ℕ). meaning_events i (InText (leading_line k)) []) (one_more (suc m) (omega (arith, few)) ∙ omega arith)))
    (subst (λ (k : ℕ). Tells next (replicate n blank) [] (InText (leading_line k))) (omega arith) (tells-leading (suc m) n (omega (arith, few))))

-- words and gaps behind a glyph
tells-byte : (b : ℕ) (bytes : List ℕ) (events more : List PageEvent) (r : LineState) → is_text_byte b ≡ true → byte_events b ≡ events
    → Tells (InText glyph_line) bytes more r → Tells (InText glyph_line) (b ∷ bytes) (events ++ more) r
tells-byte b bytes events more r text is path =
    Onward (InText glyph_line) (InText glyph_line) r b bytes events more refl
    (λ k i so none_half. prints_text glyph_line refl refl b text k i none_half ∙ ap (meaning_events i (InText glyph_line)) is) path

tells-word : (word : List ℕ) → All IsGlyph word → Tells (InText glyph_line) word (word_events word) (InText glyph_line)
tells-word [] glyphs = Here (InText glyph_line)
tells-word (b ∷ word) glyphs =
    let glyph : IsGlyph b = All-head IsGlyph b word glyphs in
    tells-byte b word (Text (Print (Printed b)) ∷ []) (word_events word) (InText glyph_line) glyph.is_text
    (ap (λ (c : Bool). if c then Text WordEnd ∷ Text (Gap 1) ∷ [] else Text (Print (Printed b)) ∷ []) glyph.is_printed) (tells-word word (All-tail IsGlyph b word glyphs))

tells-gap : (n : ℕ) → Tells (InText glyph_line) (replicate n blank) (gap_events n) (InText glyph_line)
tells-gap zero = Here (InText glyph_line)
tells-gap (suc n) = tells-byte blank (replicate n blank) (Text WordEnd ∷ Text (Gap 1) ∷ []) (gap_events n) (InText glyph_line) refl refl (tells-gap n)

-- blanks, and the word behind them
abbrev pub part_events : ℕ × List ℕ → List PageEvent
part_events part = gap_events (suc part.0) ++ word_events part.1

tells-others : (others : List (ℕ × List ℕ)) → All (λ (part : ℕ × List ℕ). All IsGlyph part.1) others
    → Tells (InText glyph_line) (flat_map gap_and_word others) (flat_map part_events others) (InText glyph_line)
tells-others [] glyphs = Here (InText glyph_line)
tells-others (part ∷ others) glyphs =
    let here : LineState = InText glyph_line in
    Tells-append here here here (gap_and_word part) (flat_map gap_and_word others) (part_events part) (flat_map part_events others)
    (Tells-append here here here (replicate (suc part.0) blank) part.1 (gap_events (suc part.0)) (word_events part.1)
    (tells-gap (suc part.0)) (tells-word part.1 (All-head (λ (p : ℕ × List ℕ). All IsGlyph p.1) part others glyphs)))
    (tells-others others (All-tail (λ (p : ℕ × List ℕ). All IsGlyph p.1) part others glyphs))

-- a run behind a line of text
abbrev told_from : State → Origin → List ℕ → List PageEvent → State
told_from s from line events =
    let h : PageHistory = behind_all s.registers events s.history in
    record s { tape = tape_at from [] s.tape; input = counted from line s.input; history = h }

-- so it stands behind the newline of the line
is-told : (s : State) (from : Origin) (front : List ℕ) (events : List PageEvent) → BeginsLine s
    → let h : PageHistory = behind_all s.registers events s.history in
    text_at s LineStart from [] (behind_byte from newline (behind_bytes from front s.input)) h ≡ told_from s from (front ++ newline ∷ []) events
is-told s from front events begins =
    let of : PageInput → Arguments → List OpenEscape → LineState → State = λ j a h r. record s {
      tape = tape_at from [] s.tape;
      input = record j { arguments = a; escapes = h; names = s.input.names; open_texts = s.input.open_texts };
      reading = r;
      history = behind_all s.registers events s.history;
    } in
    let j : PageInput = counted from (front ++ newline ∷ []) s.input in
    ap (λ (k : PageInput). of k no_arguments [] LineStart) (counted-last from front newline s.input)
    ∙ ap (λ (a : Arguments). of j a [] LineStart) (sym begins.arguments)
    ∙ ap (λ (h : List OpenEscape). of j s.input.arguments h LineStart) (sym begins.escapes)
    ∙ ap (λ (r : LineState). of j s.input.arguments s.input.escapes r) (sym begins.reading)

-- how many steps a line takes
steps-line : (rs : AllRegisters) (bytes : List ℕ) (events more last : List PageEvent) (h : PageHistory)
    → let g : PageHistory = behind_performed rs events h in
    length (0 ∷ bytes ++ newline ∷ []) + steps_of rs ((events ++ more) ++ last) h
    ≡ suc (steps_of rs events h) + ((length bytes + steps_of rs more g) + suc (steps_of rs last (behind_performed rs more g)))
steps-line rs bytes events more last h =
    let same = ap (λ (g : PageHistory). steps_of rs last g) (behind-append rs events more h) in
    let all = steps-append rs (events ++ more) last h in
    omega (arith, length-append bytes (newline ∷ []), all, steps-append rs events more h, same)

-- a whole line: its first byte, others, and its newline
told-from : (l : Limits) (s : State) (from : Origin) (b : ℕ) (bytes : List ℕ) (p q : LineState) (events more last : List PageEvent)
    → BeginsLine s → interrupted_line s.history ≡ None → Means NoneGoesOn LineStart b events p → Tells p bytes more q → due q ≡ None → Means Always q newline last LineStart
    → let line : List ℕ = b ∷ bytes ++ newline ∷ [] in
    let all : List PageEvent = (events ++ more) ++ last in
    s.input.ahead ≡ ahead_at from line → s.tape ≡ tape_at from line s.tape → IsWithin l s → s.input.charge + length line ≤ l.bytes
    → AreQuiet l s.registers s.history all
    → after l (length line + steps_of s.registers all s.history) s
    ≡ told_from s from line (all_performed s.registers all s.history)
told-from l s from b bytes p q events more last begins none_goes first path none_due ends ahead tape within charged quiet =
    let line : List ℕ = b ∷ bytes ++ newline ∷ [] in
    let all : List PageEvent = (events ++ more) ++ last in
    let rs : AllRegisters = s.registers in
    let h : PageHistory = s.history in
    let i : PageInput = s.input in
    let j : PageInput = behind_byte from b i in
    let m : PageInput = behind_bytes from bytes j in
    let start : State = text_at s LineStart from line i h in
    let is : start ≡ s = is-run_at s from line (reads_at LineStart s) begins.reading begins.escapes begins.arguments refl ahead tape in
    let room : Room l s from line i = room-start l s from line begins ahead tape within charged in
    let outer = quiet-front l rs h (events ++ more) last quiet in
    let inner = quiet-front l rs h events more outer.0 in
    let at : State = text_at s LineStart from (bytes ++ newline ∷ []) j h in
    let h1 : PageHistory = behind_performed rs events h in
    let one : after l (suc (steps_of rs events h)) start ≡ text_at s p from (bytes ++ newline ∷ []) j h1 =
    after-meant l s from LineStart p b (bytes ++ newline ∷ []) events i h begins.takes refl room inner.0 (first (known at) at.input none_goes refl) in
    let two = after-Tells l s from p q bytes (newline ∷ []) more j h1 begins.takes path (room-behind l s from b (bytes ++ newline ∷ []) i room) inner.1 in
    let h2 : PageHistory = behind_performed rs more h1 in
    let last_at : State = text_at s q from [] (behind_byte from newline m) h2 in
    let three : after l (suc (steps_of rs last h2)) (text_at s q from (newline ∷ []) m h2)
    ≡ text_at s LineStart from [] (behind_byte from newline m) (behind_performed rs last h2) =
    after-meant l s from q LineStart newline [] last m h2 begins.takes none_due two.1
    (subst (λ (g : PageHistory). AreQuiet l rs g last) (behind-append rs events more h) outer.1)
    (ends (known last_at) last_at.input tt refl) in
    ap (after l (length line + steps_of rs all h)) (sym is)
    ∙ ap (λ (n : ℕ). after l n start) (steps-line rs bytes events more last h)
    ∙ after-add l (suc (steps_of rs events h)) ((length bytes + steps_of rs more h1) + suc (steps_of rs last h2)) start
    ∙ ap (after l ((length bytes + steps_of rs more h1) + suc (steps_of rs last h2))) one
    ∙ after-add l (length bytes + steps_of rs more h1) (suc (steps_of rs last h2)) (text_at s p from (bytes ++ newline ∷ []) j h1)
    ∙ ap (after l (suc (steps_of rs last h2))) two.0
    ∙ three
    ∙ ap (λ (g : PageHistory). text_at s LineStart from [] (behind_byte from newline m) g)
    (sym (behind-append rs (events ++ more) last h ∙ ap (behind_performed rs last) (behind-append rs events more h)))
    ∙ is-told s from (b ∷ bytes) (all_performed rs all h) begins

-- a line of text
pub neither : (a b : Bool) → not (a || b) ≡ true → (a ≡ false) × (b ≡ false)
neither true b none = absurd (cc)
neither false true none = absurd (cc)
neither false false none = (refl, refl)

-- behind its first glyph
pub tells-rest : (word : List ℕ) (others : List (ℕ × List ℕ)) (trailing : ℕ) → All IsGlyph word → All (λ (part : ℕ × List ℕ). All IsGlyph part.1) others
    → Tells (InText glyph_line) (word ++ flat_map gap_and_word others ++ replicate trailing blank) (word_events word ++ flat_map part_events others ++ gap_events trailing) (InText glyph_line)
tells-rest word others trailing word_is others_are =
    let here : LineState = InText glyph_line in
    Tells-append here here here (word ++ flat_map gap_and_word others) (replicate trailing blank) (word_events word ++ flat_map part_events others) (gap_events trailing)
    (Tells-append here here here word (flat_map gap_and_word others) (word_events word) (flat_map part_events others) (tells-word word word_is) (tells-others others others_are))
    (tells-gap trailing)

-- the first glyph, behind leading blanks
abbrev pub first_events : ℕ → ℕ → List PageEvent
first_events n first = Text (Print (Blanks (suc n))) ∷ Text (Print (Printed first)) ∷ []

tells-first : (n first : ℕ) (word : List ℕ) → IsGlyph first → All IsGlyph word
    → Tells (InText (leading_line (suc n))) (first ∷ word) (first_events n first ++ word_events word) (InText glyph_line)
tells-first n first word glyph word_is =
    Onward (InText (leading_line (suc n))) (InText glyph_line) (InText glyph_line) first word (first_events n first) (word_events word) refl
    (means-text (leading_line (suc n)) first (InText glyph_line) (first_events n first) glyph.is_text
    (λ i. taking-glyph i (leading_line (suc n)) first glyph
    ∙ ap (λ (c : Bool). meaning_events i (InText glyph_line) ((if c then [] else Text (Print (Blanks (suc n))) ∷ []) ++ Text (Print (Printed first)) ∷ [])) (not_zero n)))
    (tells-word word word_is)

pub tells-behind_blank : (n first : ℕ) (word : List ℕ) (others : List (ℕ × List ℕ)) (trailing : ℕ) → suc n ≤ most_leading → IsGlyph first → All IsGlyph word
    → All (λ (part : ℕ × List ℕ). All IsGlyph part.1) others
    → Tells (InText (leading_line 1)) ((replicate n blank ++ first ∷ word) ++ flat_map gap_and_word others ++ replicate trailing blank)
    ((first_events n first ++ word_events word) ++ flat_map part_events others ++ gap_events trailing) (InText glyph_line)
tells-behind_blank n first word others trailing few glyph word_is others_are =
    let here : LineState = InText glyph_line in
    let start : LineState = InText (leading_line 1) in
    let mid : LineState = InText (leading_line (suc n)) in
    let front : List ℕ = replicate n blank ++ first ∷ word in
    let told : List PageEvent = first_events n first ++ word_events word in
    let blanks : Tells start (replicate n blank) [] mid =
    subst (λ (m : ℕ). Tells start (replicate n blank) [] (InText (leading_line m))) (omega arith) (tells-leading 0 n (omega (arith, few))) in
    Tells-append start here here (front ++ flat_map gap_and_word others) (replicate trailing blank) (told ++ flat_map part_events others) (gap_events trailing)
    (Tells-append start here here front (flat_map gap_and_word others) told (flat_map part_events others)
    (Tells-append start mid here (replicate n blank) (first ∷ word) [] told blanks (tells-first n first word glyph word_is)) (tells-others others others_are))
    (tells-gap trailing)

abbrev pub line_end_events : List PageEvent
line_end_events = Text WordEnd ∷ Text LineEnd ∷ Text Count ∷ []

text-from : (l : Limits) (s : State) (from : Origin) (leading first : ℕ) (word : List ℕ) (others : List (ℕ × List ℕ)) (trailing : ℕ)
    → let t : TextOnLine = record { leading = leading; first = first; word = word; others = others; trailing = trailing } in
    BeginsLine s → interrupted_line s.history ≡ None → IsTextOnLine t
    → s.input.ahead ≡ ahead_at from (text_bytes t) → s.tape ≡ tape_at from (text_bytes t) s.tape → IsWithin l s → s.input.charge + length (text_bytes t) ≤ l.bytes
    → AreQuiet l s.registers s.history (text_events t)
    → after l (length (text_bytes t) + steps_of s.registers (text_events t) s.history) s
    ≡ told_from s from (text_bytes t) (all_performed s.registers (text_events t) s.history)
text-from l s from zero first word others trailing begins none_goes is ahead tape within charged allowed =
    let here : LineState = InText glyph_line in
    let both = neither (first == dot) (first == apostrophe) is.begins in
    told-from l s from first (word ++ flat_map gap_and_word others ++ replicate trailing blank) here here (Text (Print (Printed first)) ∷ [])
    (word_events word ++ flat_map part_events others ++ gap_events trailing) line_end_events begins none_goes
    (means-first first here (Text (Print (Printed first)) ∷ []) is.first_is.is_text both.0 both.1 (λ i. taking-glyph i fresh_line first is.first_is))
    (tells-rest word others trailing is.word_is is.others_are) refl (means-newline glyph_line) ahead tape within charged allowed
text-from l s from (suc n) first word others trailing begins none_goes is ahead tape within charged allowed =
    told-from l s from blank ((replicate n blank ++ first ∷ word) ++ flat_map gap_and_word others ++ replicate trailing blank) (InText (leading_line 1)) (InText glyph_line)
    (Text WordEnd ∷ Text Break ∷ []) ((first_events n first ++ word_events word) ++ flat_map part_events others ++ gap_events trailing) line_end_events begins none_goes
    (means-first blank (InText (leading_line 1)) (Text WordEnd ∷ Text Break ∷ []) refl refl refl (λ i. refl))
    (tells-behind_blank n first word others trailing is.leading_few is.first_is is.word_is is.others_are) refl (means-newline glyph_line) ahead tape within charged allowed

pub text_lines_tell_their_words : TextLinesTellTheirWords
text_lines_tell_their_words l s t rest begins none_goes is ahead within charged allowed =
    let h : PageHistory = behind_performed s.registers (text_events t) s.history in
    text-from l s (FromAhead rest) t.leading t.first t.word t.others t.trailing begins none_goes is ahead refl within charged allowed
    ∙ ap (λ (i : PageInput). record s { input = i; history = h }) (counted-ahead rest (text_bytes t) s.input)

pub text_lines_of_the_source_tell_their_words : TextLinesOfTheSourceTellTheirWords
text_lines_of_the_source_tell_their_words l s t tape begins none_goes is none stands within charged allowed =
    let h : PageHistory = behind_performed s.registers (text_events t) s.history in
    text-from l s (FromSource tape) t.leading t.first t.word t.others t.trailing begins none_goes is none stands within charged allowed
    ∙ ap (λ (i : PageInput). record s { tape = tape; input = i; history = h }) (counted-source tape (text_bytes t) s.input none)

-- a line of blanks alone
empty-from : (l : Limits) (s : State) (from : Origin) → BeginsLine s → interrupted_line s.history ≡ None → s.input.ahead ≡ ahead_at from (newline ∷ [])
    → s.tape ≡ tape_at from (newline ∷ []) s.tape → IsWithin l s → s.input.charge + 1 ≤ l.bytes
    → AreQuiet l s.registers s.history blank_line
    → after l (suc (steps_of s.registers blank_line s.history)) s
    ≡ told_from s from (newline ∷ []) (all_performed s.registers blank_line s.history)
empty-from l s from begins none_goes ahead tape within charged allowed =
    let line : List ℕ = newline ∷ [] in
    let at : State = text_at s LineStart from [] (behind_byte from newline s.input) s.history in
    ap (after l (suc (steps_of s.registers blank_line s.history)))
    (sym (is-run_at s from line (reads_at LineStart s) begins.reading begins.escapes begins.arguments refl ahead tape))
    ∙ after-meant l s from LineStart LineStart newline [] blank_line s.input s.history begins.takes refl (room-start l s from line begins ahead tape within charged) allowed
    (means-empty (known at) at.input none_goes refl)
    ∙ is-told s from [] (all_performed s.registers blank_line s.history) begins

blanks-from : (l : Limits) (s : State) (from : Origin) (n : ℕ) → BeginsLine s → interrupted_line s.history ≡ None → n ≤ most_leading
    → s.input.ahead ≡ ahead_at from (blank_bytes n) → s.tape ≡ tape_at from (blank_bytes n) s.tape → IsWithin l s → s.input.charge + length (blank_bytes n) ≤ l.bytes
    → AreQuiet l s.registers s.history (blank_events n)
    → after l (length (blank_bytes n) + steps_of s.registers (blank_events n) s.history) s
    ≡ told_from s from (blank_bytes n) (all_performed s.registers (blank_events n) s.history)
blanks-from l s from zero begins none_goes few ahead tape within charged allowed =
    let count : ℕ = steps_of s.registers blank_line s.history in
    let steps : length (blank_bytes zero) + count ≡ suc count = omega arith in
    ap (λ (n : ℕ). after l n s) steps ∙ empty-from l s from begins none_goes ahead tape within charged allowed
blanks-from l s from (suc n) begins none_goes few ahead tape within charged allowed =
    let start : LineState = InText (leading_line 1) in
    let last : LineState = InText (leading_line (suc n)) in
    told-from l s from blank (replicate n blank) start last (Text WordEnd ∷ Text Break ∷ []) [] blank_line begins none_goes
    (means-first blank start (Text WordEnd ∷ Text Break ∷ []) refl refl refl (λ i. refl))
    (subst (λ (m : ℕ). Tells start (replicate n blank) [] (InText (leading_line m))) (omega arith) (tells-leading 0 n (omega (arith, few)))) refl
    (means-newline (leading_line (suc n))) ahead tape within charged allowed

pub blank_lines_space : BlankLinesSpace
blank_lines_space l s n rest begins none_goes few ahead within charged allowed =
    let h : PageHistory = behind_performed s.registers (blank_events n) s.history in
    blanks-from l s (FromAhead rest) n begins none_goes few ahead refl within charged allowed
    ∙ ap (λ (i : PageInput). record s { input = i; history = h }) (counted-ahead rest (blank_bytes n) s.input)

pub blank_lines_of_the_source_space : BlankLinesOfTheSourceSpace
blank_lines_of_the_source_space l s n tape begins none_goes few none stands within charged allowed =
    let h : PageHistory = behind_performed s.registers (blank_events n) s.history in
    blanks-from l s (FromSource tape) n begins none_goes few none stands within charged allowed
    ∙ ap (λ (i : PageInput). record s { tape = tape; input = i; history = h }) (counted-source tape (blank_bytes n) s.input none)
