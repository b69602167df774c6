-- A glyph whose escape stands in front is printed at once: the run has come behind it.
use Rattle.std.proofs.Common.{◌≡◌, ℕ, ◌+◌, ◌<◌, ◌≤◌, Bool, true, false, List, [], ◌∷◌, length, take, None, refl, sym, ap, subst, ◌∙◌, arith, append-nil, ◌==◌, ◌&&◌, if◌then◌else◌, eqb-true}
use Rattle.roff_num.specs.declared.limits.Limits.{Limits}
use Rattle.page_model.specs.declared.event.Event.TheVariants.{Print}
use Rattle.page_model.specs.declared.glyph.Glyph.{Glyph}
use Rattle.input_model.specs.Input.{Ahead}
use Rattle.input_source.specs.Tape.{Tape}
use Rattle.input_model.specs.Looking.{is_closed, looked_then}
use Rattle.roff_scan.specs.Unread.Calls.{PassesFront, front_bytes}
use Rattle.run_model.specs.Output.{PageHistory, written}
use Rattle.run_model.specs.Reading.Items.{PageInput, PageUnread}
use Rattle.run_model.specs.Registers.{AllRegisters, Known}
use Rattle.run_model.specs.Run.{State, Leads, known_at}
use Rattle.run_model.specs.Run.Counts.{counts_in, first_passed}
use Rattle.run_model.specs.Environments.{interrupted_line}
use Rattle.run_model.specs.TurnsToCome.{begun, turns_within}
use Rattle.run_state.specs.Composer.Standing.{StandFor}
use Rattle.read_lines.specs.Reader.State.{ReaderState}
use Rattle.run_model.specs.declared.event.PageEvent.TheVariants.{Text}
use Rattle.run_model.specs.declared.line_state.LineState.{LineState}
use Rattle.run_model.specs.declared.line_state.LineState.TheVariants.{LineStart, Branch, Braced, Text as InText, Control, Name, Collecting, Deciding, Skipping, Dropped, Told, Exiting, TitleFront, Title as InTitle}
use Rattle.run_model.specs.declared.line_state.TextLine.{TextLine}
use Rattle.run_model.proofs.ItemsTaken.{Origin, ahead_at, tape_at}
use Rattle.run_model.proofs.PlainRuns.{behind_bytes, counted}
use Rattle.read_shortcuts.proofs.RunsRead.{first_of_front}
use Rattle.read_shortcuts.proofs.PrintedRuns.{TakesText, counted-behind, turns-counted}
use Rattle.run_events.specs.declared.formatter.Formatter.{Formatter}
use Rattle.run_events.specs.Formatter.Telling.{TellsGlyph}
use Rattle.run_items.specs.Outcome.{seen}
use Rattle.run_items.specs.Performing.{going}
use Rattle.page_bytes.specs.Sinks.{Sunk}
use Rattle.read_shortcuts.specs.Glyphs.{is_behind_glyph}
use Rattle.read_shortcuts.specs.Runs.{IsRun}
use Rattle.run_model.proofs.TextBytes.{prints_text}
use Rattle.run_model.specs.Telling.{Prints}
use Rattle.read_shortcuts.specs.SilentEscapes.{behind_silent}
use Rattle.run_model.specs.Reading.Ends.{due}
use Rattle.input_escapes.specs.OpenEscape.{OpenEscape}
use Rattle.roff_scan.specs.declared.run_kind.RunKind.TheVariants.{Text as TextRun}
use Rattle.run_turns.specs.Running.Turning.{GoesPast, IsAt, line_turns, lines_left_in, turns_of_run}
use Rattle.run_turns.specs.declared.running.Running.{Running as Coded}
use Rattle.read_shortcuts.proofs.LinesBegun.{turns-begun_some}
use Rattle.run_shortcuts.proofs.BytesPassed.{ComesBehind, goes_past-passed}
use Rattle.read_shortcuts.proofs.EscapesRead.{ReadsEscape, some-bytes}
use Rattle.read_shortcuts.proofs.GlyphsRead.{GlyphFront, behind_glyph, escape_behind, escape_first, leads-glyph}
use Rattle.run_items.proofs.FewRead.{few-alone}
use Rattle.run_shortcuts.proofs.GoingPast.{IsAt-leads}
use Rattle.run_shortcuts.proofs.Telling.{told_by}
use Rattle.run_turns.proofs.TurnsLeft.{turns_of_run-fewer, turns_of_run-no_more}

-- a text line goes on behind a glyph
pub record GoesOnBehind (reading : LineState) : Type 0 where
  pub other : Bool
  pub brace : Bool
  pub is : reading ≡ InText (behind_glyph other brace)

goes_on-line : (line : TextLine) → line.has_glyph ≡ true → line.leading ≡ 0 → GoesOnBehind (InText line)
goes_on-line line glyph none = record {
  other = line.has_other;
  brace = line.has_brace;
  is = ap (λ (has : Bool). InText (record line { has_glyph = has })) glyph ∙ ap (λ (n : ℕ). InText (record line { has_glyph = true; leading = n })) none;
}

both_true : (a b : Bool) → (a && b) ≡ true → (a ≡ true) × (b ≡ true)
both_true true true is = (refl, refl)
both_true true false is = absurd (cc)
both_true false b is = absurd (cc)

pub goes_on_behind : (reading : LineState) → is_behind_glyph reading ≡ true → GoesOnBehind reading
goes_on_behind (InText line) is =
    let parts = both_true line.has_glyph (line.leading == 0) is in goes_on-line line parts.0 (eqb-true line.leading 0 parts.1)
goes_on_behind LineStart is = absurd (cc)
goes_on_behind Branch is = absurd (cc)
goes_on_behind Braced is = absurd (cc)
goes_on_behind (Control breaks) is = absurd (cc)
goes_on_behind (Name breaks first) is = absurd (cc)
goes_on_behind (Collecting purpose) is = absurd (cc)
goes_on_behind (Deciding keeping) is = absurd (cc)
goes_on_behind (Skipping opened closed behind) is = absurd (cc)
goes_on_behind Dropped is = absurd (cc)
goes_on_behind (Told aborts) is = absurd (cc)
goes_on_behind Exiting is = absurd (cc)
goes_on_behind TitleFront is = absurd (cc)
goes_on_behind (InTitle delimiter) is = absurd (cc)

-- bytes of plain text are told behind a glyph
is_run-glyph : (other brace : Bool) (reading : LineState) (half : List OpenEscape) → reading ≡ InText (behind_glyph other brace) → half ≡ [] → IsRun TextRun reading half
is_run-glyph other brace reading half is none_half = record {
  does = λ b text. subst (λ (r : LineState). Prints r b) (sym is) (prints_text (behind_glyph other brace) refl refl b text);
  half_read = none_half;
  none_due = ap due is;
}

-- and so they are behind an escape that prints nothing
pub is_run-silent : (taken : Bool) (old new : LineState) (half : List OpenEscape) → is_behind_glyph old ≡ true → new ≡ (if taken then behind_silent old else old) → half ≡ []
    → IsRun TextRun new half
is_run-silent true old new half behind is none_half =
    let line = goes_on_behind old behind in is_run-glyph true line.brace new half (is ∙ ap behind_silent line.is) none_half
is_run-silent false old new half behind is none_half =
    let line = goes_on_behind old behind in is_run-glyph line.other line.brace new half (is ∙ line.is) none_half

-- the escape of a glyph that the formatter printed, where it is read so, and nothing is half read; no more turns are to come behind it
module _ (old : Coded) (f : Formatter) (g : Glyph) (bytes : List ℕ) (other brace : Bool) (told : TellsGlyph g old.interpreter.formatter f)
    (none_half : old.unread.input.escapes ≡ []) (none_due : due old.interpreter.reader.reading ≡ None) (Ready : Known → Type 0)
    (escape : ReadsEscape old.interpreter.reader.reading (InText (behind_glyph other brace)) (Text (Print g) ∷ []) Ready [] bytes)
    (ready : (l : Limits) (h : PageHistory) → StandFor l h old.interpreter.formatter.composer → (j : PageInput) → Ready (known_at h old.interpreter.reader.registers.all j))
    (no_more : (from : Origin) → old.unread.input.ahead ≡ ahead_at from bytes → old.unread.input.charge + length bytes ≤ old.unread.limits.bytes
    → turns_of_run (told_by old f (InText (behind_glyph other brace)) (record old.unread { input = counted from bytes old.unread.input })) ≤ turns_of_run old) where
  abbrev there : LineState
  there = InText (behind_glyph other brace)

  abbrev rs : AllRegisters
  rs = old.interpreter.reader.registers.all

  abbrev behind : PageUnread → Coded
  behind u = told_by old f there u

  -- the run comes behind it, with what is unread then
  comes-glyph : (u : PageUnread) → ComesBehind bytes u old (behind u)
  comes-glyph u whole t taken start now from is_open front few passed asked left at =
      let l : Limits = old.unread.limits in
      let i : PageInput = old.unread.input in
      let input : PageInput = counted from bytes i in
      let tape : Tape = looked_then old.unread.looked taken in
      let h : PageHistory = Text (Print g) ∷ at.history in
      let here : LineState → Tape → PageInput → PageHistory → State = λ r tape j h. going tape j r rs h at.messages old.phase (is_closed old.unread.looked) [] in
      let takes : TakesText at.history = record { takes = told.takes old.limits at.history at.stands; goes_on = at.stands.goes_on } in
      let short = ap (λ (limits : Limits). limits.line) at.limits in
      let reading : LineState = old.interpreter.reader.reading in
      let led = leads-glyph l reading there g Ready rs at.messages old.phase (is_closed old.unread.looked) none_due from tape bytes i at.history escape
      (ready old.limits at.history at.stands) is_open none_half
      (subst (λ (items : List (Ahead _)). first_passed l (counts_in rs (record i { ahead = items })) ≡ None) front at.ready.within) few
      (omega (arith, short, told.within old.limits at.history at.stands)) takes in
      let stands : here reading (tape_at from bytes tape) (record i { ahead = ahead_at from bytes }) at.history ≡ here reading tape i at.history =
      ap (λ (tape : Tape). here reading tape (record i { ahead = ahead_at from bytes }) at.history) (sym asked)
      ∙ ap (λ (items : List (Ahead _)). here reading tape (record i { ahead = items }) at.history) (sym front) in
      let same : record (behind_bytes from bytes i) { ahead = ahead_at from [] } ≡ input = counted-behind from bytes i in
      let comes : here there (tape_at from [] tape) (record (behind_bytes from bytes i) { ahead = ahead_at from [] }) h ≡ here there (looked_then old.unread.looked t) input h =
      ap (λ (j : PageInput). here there (tape_at from [] tape) j h) same ∙ ap (λ (tape : Tape). here there tape input h) left in
      let way : Leads l (here reading tape i at.history) (here there (looked_then old.unread.looked t) input h) =
      subst (λ (from : State). Leads l from (here there (looked_then old.unread.looked t) input h)) stands
      (subst (λ (next : State). Leads l (here reading (tape_at from bytes tape) (record i { ahead = ahead_at from bytes }) at.history) next) comes led.0) in
      subst (λ (v : PageUnread). IsAt whole t start now (behind v)) (sym passed)
      (IsAt-leads whole taken t start now old (record old.interpreter { formatter = f; reader = record old.interpreter.reader { reading = there } })
      (record old.unread { input = input }) h at
      (subst (λ (limits : Limits). Leads limits (here reading tape i at.history) (here there (looked_then old.unread.looked t) input h)) at.limits way)
      (append-nil (written at.history)) (told.stands old.limits at.history at.stands)
      (record {
        cap = at.ready.cap;
        line = at.ready.line;
        within = subst (λ (j : PageInput). first_passed l (counts_in rs j) ≡ None) same led.1;
      }) at.limits (few-alone from bytes reading there i input none_half at.few front same))

  -- the run goes past it
  pub goes_past_escape : (gave gives : Tape → Type 0) (count : ℕ) (ready_bytes front : List ℕ) (noted notes failed failures : ℕ) (out err : Sunk) (u : PageUnread)
      → take count front ≡ bytes → count ≤ length front → front ≡ front_bytes (length front) ready_bytes old.unread
      → PassesFront gave gives (front_bytes count ready_bytes old.unread) old.unread u
      → notes ≤ noted → failures ≡ failed
      → GoesPast false gave gives noted notes old (behind u) (seen failed out err) (seen failures out err)
  goes_past_escape gave gives count ready_bytes front noted notes failed failures out err u is few stood passed fewer same_failures =
      let passes : PassesFront gave gives bytes old.unread u =
      subst (λ (these : List ℕ). PassesFront gave gives these old.unread u) (sym (first_of_front front count ready_bytes old.unread stood few) ∙ is) passed in
      goes_past-passed false gave gives noted notes failed failures out err bytes old (behind u) u refl (comes-glyph u)
      (λ from ahead charged is h stood. subst (λ (v : PageUnread). turns_of_run (behind v) ≤ turns_of_run old) (sym is) (no_more from ahead charged)) passes fewer same_failures

-- behind a glyph of a line
module _ (old : Coded) (f : Formatter) (g : Glyph) (count : ℕ) (front : List ℕ) (other brace : Bool) (glyph : GlyphFront g count front) (told : TellsGlyph g old.interpreter.formatter f)
    (none_half : old.unread.input.escapes ≡ []) (reads : old.interpreter.reader.reading ≡ InText (behind_glyph other brace)) where
  -- no more turns are to come
  turns-glyph : (bytes : List ℕ) (from : Origin) → old.unread.input.ahead ≡ ahead_at from bytes
      → turns_of_run (told_by old f (InText (behind_glyph other brace)) (record old.unread { input = counted from bytes old.unread.input })) ≤ turns_of_run old
  turns-glyph bytes from ahead =
      let most : ℕ = old.unread.limits.bytes in
      let few : turns_within most (counted from bytes old.unread.input) ≤ turns_within most old.unread.input = turns-counted most from bytes old.unread.input ahead in
      let none : begun old.interpreter.reader.reading ≡ 0 = ap begun reads in
      turns_of_run-no_more old (told_by old f (InText (behind_glyph other brace)) (record old.unread { input = counted from bytes old.unread.input })) (omega (arith, few, none)) refl
      (sym (ap (λ (r : LineState). line_turns r (lines_left_in old.interpreter.formatter.composer)) reads))

  pub goes_past_glyph : (gave gives : Tape → Type 0) (ready : List ℕ) (noted notes failed failures : ℕ) (out err : Sunk) (u : PageUnread)
      → front ≡ front_bytes (length front) ready old.unread → PassesFront gave gives (front_bytes count ready old.unread) old.unread u
      → notes ≤ noted → failures ≡ failed
      → GoesPast false gave gives noted notes old (record old { interpreter = record old.interpreter { formatter = f }; unread = u }) (seen failed out err) (seen failures out err)
  goes_past_glyph gave gives ready noted notes failed failures out err u stood passed fewer same_failures =
      let there : LineState = InText (behind_glyph other brace) in
      let bytes : List ℕ = take count front in
      let escape = subst (λ (r : LineState). ReadsEscape r there (Text (Print g) ∷ []) (λ k. Unit {0}) [] bytes) (sym reads) (escape_behind g bytes other brace glyph.prints) in
      let past = goes_past_escape old f g bytes other brace told none_half (ap due reads) (λ k. Unit {0}) escape (λ l h stood j. tt) (λ from ahead charged. turns-glyph bytes from ahead)
      gave gives count ready front noted notes failed failures out err u refl glyph.few stood passed fewer same_failures in
      subst (λ (r : LineState). GoesPast false gave gives noted notes old (told_by old f r u) (seen failed out err) (seen failures out err)) (sym reads) past

-- where a line begins
module _ (old : Coded) (f : Formatter) (g : Glyph) (count : ℕ) (front : List ℕ) (glyph : GlyphFront g count front) (told : TellsGlyph g old.interpreter.formatter f)
    (none_half : old.unread.input.escapes ≡ []) (begins : old.interpreter.reader.reading ≡ LineStart)
    (none : (l : Limits) (h : PageHistory) → StandFor l h old.interpreter.formatter.composer → interrupted_line h ≡ None) where
  -- fewer turns are to come
  turns-begun_glyph : (bytes : List ℕ) (from : Origin) → 1 ≤ length bytes → old.unread.input.ahead ≡ ahead_at from bytes
      → old.unread.input.charge + length bytes ≤ old.unread.limits.bytes
      → turns_of_run (told_by old f (InText (behind_glyph false false)) (record old.unread { input = counted from bytes old.unread.input })) ≤ turns_of_run old
  turns-begun_glyph bytes from some ahead charged =
      let most : ℕ = old.unread.limits.bytes in
      let few : turns_within most (counted from bytes old.unread.input) < turns_within most old.unread.input = turns-begun_some most from bytes old.unread.input some ahead charged in
      let fewer = turns_of_run-fewer old (told_by old f (InText (behind_glyph false false)) (record old.unread { input = counted from bytes old.unread.input })) (omega (arith, few)) refl in
      omega (arith, fewer)

  pub goes_past_begun_glyph : (r : ReaderState) → record old.interpreter.reader { reading = InText (behind_glyph false false) } ≡ r
      → (gave gives : Tape → Type 0) (ready : List ℕ) (noted notes failed failures : ℕ) (out err : Sunk) (u : PageUnread)
      → front ≡ front_bytes (length front) ready old.unread → PassesFront gave gives (front_bytes count ready old.unread) old.unread u
      → notes ≤ noted → failures ≡ failed
      → GoesPast false gave gives noted notes old (record old { interpreter = record old.interpreter { formatter = f; reader = r }; unread = u })
      (seen failed out err) (seen failures out err)
  goes_past_begun_glyph r is gave gives ready noted notes failed failures out err u stood passed fewer same_failures =
      let there : LineState = InText (behind_glyph false false) in
      let bytes : List ℕ = take count front in
      let escape = subst (λ (r : LineState). ReadsEscape r there (Text (Print g) ∷ []) (λ k. k.interrupted ≡ None) [] bytes) (sym begins) (escape_first g bytes glyph.prints) in
      let some : 1 ≤ length bytes = some-bytes LineStart there (Text (Print g) ∷ []) (λ k. k.interrupted ≡ None) [] bytes (escape_first g bytes glyph.prints) in
      subst
      (λ (r : ReaderState). GoesPast false gave gives noted notes old (record old { interpreter = record old.interpreter { formatter = f; reader = r }; unread = u })
      (seen failed out err) (seen failures out err))
      is
      (goes_past_escape old f g bytes false false told none_half (ap due begins) (λ k. k.interrupted ≡ None) escape (λ l h stood j. none l h stood)
      (λ from ahead charged. turns-begun_glyph bytes from some ahead charged)
      gave gives count ready front noted notes failed failures out err u refl glyph.few stood passed fewer same_failures)
