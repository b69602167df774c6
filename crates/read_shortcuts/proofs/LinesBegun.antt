-- How a text line begins whose bytes stand in front.
use Rattle.std.proofs.Common.{◌≡◌, ℕ, zero, suc, ◌+◌, ◌<◌, ◌≤◌, Bool, true, false, List, [], ◌∷◌, ◌++◌, length, take, Option, None, refl, sym, ap, subst, ◌∙◌, arith, map, ◌&&◌, ◌||◌, ◌==◌, nat_lt, not, if◌then◌else◌, append-nil}
use Rattle.std.proofs.lemmas.Bool.Decides.{nat_tests}
use Rattle.roff_num.specs.declared.limit.Limit.{Limit}
use Rattle.roff_num.specs.declared.limits.Limits.{Limits}
use Rattle.page_model.specs.Telling.{QuietlyTold}
use Rattle.page_model.specs.declared.event.Event.TheVariants.{Print, WordEnd, Gap}
use Rattle.page_model.specs.declared.glyph.Glyph.TheVariants.{Printed}
use Rattle.input_source.specs.Bytes.{apostrophe, backslash, blank, dot, is_silent, is_text_byte, newline, tab}
use Rattle.input_source.specs.Tape.{Tape}
use Rattle.input_escapes.specs.OpenEscape.{OpenEscape, Backslash}
use Rattle.input_escapes.specs.OpenEscapes.{byte_read}
use Rattle.input_escapes.specs.declared.open_escape.CopyUnit.TheVariants.{Byte}
use Rattle.input_escapes.specs.declared.open_escape.Found.TheVariants.{GoesOn, Unit as GivesUnit}
use Rattle.input_model.specs.Input.{Ahead, ByteAhead, bytes_taken, counting, item_taken, lines_taken}
use Rattle.roff_scan.specs.Unread.Calls.{OfSource, OfTexts, PassesFront}
use Rattle.read_shortcuts.specs.Runs.{IsRun}
use Rattle.roff_scan.specs.declared.run_kind.RunKind.TheVariants.{Text as TextRun}
use Rattle.run_model.specs.Environments.{PageHistory, interrupted_line, text_of}
use Rattle.run_model.specs.PageEvents.{PageEvent}
use Rattle.run_model.specs.Reading.{byte_taking, undropped_taking}
use Rattle.run_model.specs.Reading.Units.{interrupted}
use Rattle.run_model.specs.Reading.Beginnings.{at_start, beginning_text, going_on_told, line_begun, line_begun_as}
use Rattle.run_model.specs.Reading.Found.{read_in}
use Rattle.run_model.specs.Reading.Items.{PageInput, PageUnread, Taking, behind_events, going_on, meaning_events}
use Rattle.run_model.specs.Reading.TextLines.{blank_taking, fresh_line, glyph_taking, other_taking, tab_taking, text_line_end, text_taking}
use Rattle.run_model.specs.Registers.{AllRegisters, Known}
use Rattle.run_model.specs.declared.event.PageEvent.TheVariants.{Text}
use Rattle.run_model.specs.Run.{State, Leads, known_at, made, step, taken_as, unless_refused}
use Rattle.run_model.specs.Run.Counts.{counts_in, first_passed}
use Rattle.run_model.specs.Telling.{Prints, byte_events, byte_told}
use Rattle.run_model.specs.TurnsToCome.{turns_within}
use Rattle.run_model.specs.declared.line_state.LineState.{LineState}
use Rattle.run_model.specs.declared.line_state.LineState.TheVariants.{LineStart, Text as InText, Control}
use Rattle.run_model.specs.declared.line_state.TextLine.{TextLine}
use Rattle.run_model.specs.declared.phase.Phase.{Phase}
use Rattle.run_model.proofs.ItemsTaken.{IsOpenFor, Origin, ahead_at, tape_at}
use Rattle.run_model.proofs.Leads.{Leads-trans}
use Rattle.run_model.proofs.PlainRuns.{behind_byte, behind_bytes, counted}
use Rattle.run_model.proofs.TextBytes.{heard-text, is_other, kept-text, prints_text}
use Rattle.read_shortcuts.proofs.PrintedRuns.{TakesText, counted-behind, fits-byte, leads-events, taken-from, told_at, told_from, turns-behind}
use Rattle.read_shortcuts.proofs.TurnedRuns.{free_ahead-behind}
use Rattle.run_model.specs.Reading.Ends.{due}

-- what a byte is that begins a text line and is printed
pub record IsFirst (b : ℕ) : Type 0 where
  pub text : is_text_byte b ≡ true
  pub not_blank : (b == blank) ≡ false
  pub not_dot : (b == dot) ≡ false
  pub not_apostrophe : (b == apostrophe) ≡ false

pub first_by : (above is_del is_escape is_dot is_apostrophe : Bool) → (above && not is_del && not is_escape && not is_dot && not is_apostrophe) ≡ true
    → (above ≡ true) × (is_del ≡ false) × (is_escape ≡ false) × (is_dot ≡ false) × (is_apostrophe ≡ false)
first_by false is_del is_escape is_dot is_apostrophe is = cc
first_by true true is_escape is_dot is_apostrophe is = cc
first_by true false true is_dot is_apostrophe is = cc
first_by true false false true is_apostrophe is = cc
first_by true false false false true is = cc
first_by true false false false false is = (refl, refl, refl, refl, refl)

pub not_below : (b : ℕ) → nat_lt 32 b ≡ true → nat_lt b 32 ≡ false
not_below b above = grind (arith, nat_tests)

pub no_blank : (b : ℕ) → nat_lt 32 b ≡ true → (b == 32) ≡ false
no_blank b above = grind (arith, nat_tests)

-- a text line behind a glyph
abbrev pub behind_glyph : LineState
behind_glyph = InText (record { has_glyph = true; has_other = false; has_brace = false; leading = 0 })

-- such a byte is printed where a line begins, and no interrupted one goes on
pub printed-first : (b : ℕ) → IsFirst b → (k : Known) (i : PageInput) → i.escapes ≡ [] → k.interrupted ≡ None
    → byte_taking k LineStart i b ≡ meaning_events i behind_glyph (byte_events b)
printed-first b first k i none_half none =
    let text = first.text in
    let line : TextLine = fresh_line in
    let printed : Taking = if b == blank then blank_taking i line else glyph_taking i line (Printed b) in
    let sounding : Taking = if is_silent b then other_taking i line else printed in
    let moving : Taking = if b == tab then tab_taking i line else sounding in
    let starts : Taking = beginning_text k (λ line. text_taking i line b) in
    let marked : Taking = if b == apostrophe then going_on i (Control false) else starts in
    ap (λ (c : Bool). if c then going_on (interrupted LineStart i) LineStart else undropped_taking k LineStart i b)
    (kept-text (nat_lt b 32) (b == 127) (b == backslash) (not (b == newline || b == tab || is_silent b)) text)
    ∙ ap (λ (half : List OpenEscape). read_in k LineStart i (byte_read (at_start k) half b)) none_half
    ∙ ap (λ (c : Bool). read_in k LineStart i (if c then (GoesOn, Backslash ∷ []) else (GivesUnit (Byte b), []))) (is_other b backslash text refl)
    ∙ ap (λ (half : List OpenEscape). line_begun k (record i { escapes = half }) b) (sym none_half)
    ∙ ap (λ (c : Bool). if c then going_on i (Control true) else marked) first.not_dot
    ∙ ap (λ (c : Bool). if c then going_on i (Control false) else starts) first.not_apostrophe
    ∙ ap (λ (line : Option TextLine). behind_events (going_on_told line) (text_taking i (line_begun_as line) b)) none
    ∙ ap (λ (c : Bool). if c then meaning_events i LineStart (text_line_end line) else moving) (is_other b newline text refl)
    ∙ ap (λ (c : Bool). if c then tab_taking i line else sounding) (is_other b tab text refl)
    ∙ ap (λ (c : Bool). if c then other_taking i line else printed) (heard-text b text)
    ∙ ap (λ (c : Bool). if c then blank_taking i line else glyph_taking i line (Printed b)) first.not_blank
    ∙ ap (λ (c : Bool). meaning_events i behind_glyph (if c then Text WordEnd ∷ Text (Gap 1) ∷ [] else Text (Print (Printed b)) ∷ [])) (sym first.not_blank)

-- the steps at it, wherever it comes from
pub leads-first : (l : Limits) (rs : AllRegisters) (messages : List ℕ) (phase : Phase) (closed : Bool) (from : Origin) (tape : Tape) (b : ℕ) (bytes : List ℕ) (i : PageInput) (h : PageHistory)
    → IsFirst b → IsOpenFor from closed → i.escapes ≡ [] → first_passed l (counts_in rs (record i { ahead = ahead_at from (b ∷ bytes) })) ≡ None
    → i.charge + 1 ≤ l.bytes → QuietlyTold l.line (b ∷ bytes) (text_of h) → TakesText h → interrupted_line h ≡ None
    → Leads l (told_from l LineStart rs messages phase closed from (b ∷ bytes) tape i h)
    (told_from l behind_glyph rs messages phase closed from bytes tape (behind_byte from b i) (byte_told b h))
leads-first l rs messages phase closed from tape b bytes i h first is_open none_half fits few quiet takes none =
    let before : State = told_from l LineStart rs messages phase closed from (b ∷ bytes) tape i h in
    let rest : Tape = tape_at from bytes tape in
    let input : PageInput = record (behind_byte from b i) { ahead = ahead_at from bytes } in
    let here : State = told_at l LineStart rs messages phase closed rest input h [] in
    let at : List PageEvent → State = told_at l behind_glyph rs messages phase closed rest input h in
    let done : State = at (byte_events b) in
    let within = fits-byte l LineStart rs messages phase closed from b bytes i fits in
    let there : step l before ≡ done =
    taken-from l LineStart rs messages phase closed from tape b bytes i h is_open refl none_half few
    ∙ ap (λ (t : Taking). made l before (taken_as t here)) (printed-first b first (known_at h rs input) input none_half none)
    ∙ ap (λ (said : List ℕ). made l before (record (at (byte_events b ++ [])) { messages = said })) (append-nil messages)
    ∙ ap (λ (events : List PageEvent). made l before (at events)) (append-nil (byte_events b))
    ∙ ap (λ (r : Option Limit). unless_refused l r before done) within in
    Leads-trans l before done _ (record { steps = 1; there = there })
    (leads-events l behind_glyph rs messages phase closed (b == 32) b rest input h quiet.1 quiet.0 takes)

-- what is read behind these where a line begins
abbrev pub begun_by : List ℕ → LineState
begun_by [] = LineStart
begun_by (b ∷ bytes) = behind_glyph

-- fewer turns are to come behind a byte at the least
pub turns-begun : (most : ℕ) (from : Origin) (b : ℕ) (bytes : List ℕ) (i : PageInput) → i.ahead ≡ ahead_at from (b ∷ bytes) → i.charge + 1 ≤ most
    → turns_within most (counted from (b ∷ bytes) i) < turns_within most i
turns-begun most from b bytes i front few =
    subst (λ (j : PageInput). turns_within most j < turns_within most i) (counted-behind from (b ∷ bytes) i)
    (subst (λ (items : List (Ahead PageEvent)). turns_within most (record (behind_bytes from (b ∷ bytes) i) { ahead = ahead_at from [] }) < turns_within most (record i { ahead = items })) (sym front)
    (omega (arith, few, free_ahead-behind from b bytes, turns-behind most from bytes (behind_byte from b i))))

pub turns-begun_some : (most : ℕ) (from : Origin) (bytes : List ℕ) (i : PageInput) → 1 ≤ length bytes → i.ahead ≡ ahead_at from bytes → i.charge + length bytes ≤ most
    → turns_within most (counted from bytes i) < turns_within most i
turns-begun_some most from [] i some front few = absurd (omega (arith, some))
turns-begun_some most from (b ∷ bytes) i some front few = turns-begun most from b bytes i front (omega (arith, few))

-- bytes that are passed leave what is half read
pub escapes-lines : (bytes : List ℕ) (i : PageInput) → (lines_taken bytes i).escapes ≡ i.escapes
escapes-lines [] i = refl
escapes-lines (b ∷ bytes) i = escapes-lines bytes (counting b i)

pub escapes-texts : (bytes : List ℕ) (behind : List (Ahead PageEvent)) (i : PageInput) → (bytes_taken bytes behind i).escapes ≡ i.escapes
escapes-texts [] behind i = refl
escapes-texts (b ∷ bytes) behind i = escapes-texts bytes behind (item_taken (ByteAhead b) (map ByteAhead bytes ++ behind) i)

pub escapes-passed : (gave gives : Tape → Type 0) (bytes : List ℕ) (before after : PageUnread) → PassesFront gave gives bytes before after → after.input.escapes ≡ before.input.escapes
escapes-passed gave gives bytes before after (OfSource passes) = ap (λ (u : PageUnread). u.input.escapes) passes.input ∙ escapes-lines bytes before.input
escapes-passed gave gives bytes before after (OfTexts passes) = ap (λ (u : PageUnread). u.input.escapes) passes.input ∙ escapes-texts bytes passes.behind before.input

pub begun-none : (front : List ℕ) (count : ℕ) → count ≤ 0 → begun_by (take count front) ≡ LineStart
begun-none front zero none = refl
begun-none front (suc count) none = absurd (omega (arith, none))

-- behind a glyph bytes of plain text are told
pub is_run-begun : (reading : LineState) (half : List OpenEscape) → reading ≡ behind_glyph → half ≡ [] → IsRun TextRun reading half
is_run-begun reading half is none_half =
    let line : TextLine = record { has_glyph = true; has_other = false; has_brace = false; leading = 0 } in
    record {
      does = λ b text. subst (λ (r : LineState). Prints r b) (sym is) (prints_text line refl refl b text);
      half_read = none_half;
      none_due = ap (λ (r : LineState). due r) is;
    }
