-- Bytes of a text line that stand in front are told: the run has come behind them.
use Rattle.std.proofs.Common.{false, ◌≡◌, ℕ, ◌+◌, ◌≤◌, Bool, true, List, [], ◌∷◌, length, length-take, take, None, refl, sym, ap, subst, ◌∙◌, arith}
use Rattle.std.specs.List.{AllByRecursion}
use Rattle.page_model.specs.Telling.{QuietlyTold}
use Rattle.roff_num.specs.declared.limits.Limits.{Limits}
use Rattle.input_source.specs.Bytes.{is_text_byte}
use Rattle.input_model.specs.Input.{Ahead}
use Rattle.input_source.specs.Tape.{Tape}
use Rattle.input_model.specs.Looking.{is_closed, looked_then}
use Rattle.roff_scan.specs.Unread.Calls.{PassesFront, front_bytes}
use Rattle.run_model.specs.Environments.{text_of}
use Rattle.run_state.specs.Composer.Standing.{StandFor}
use Rattle.run_state.specs.declared.composer.Composer.{Composer as ComposerOf}
use Rattle.run_model.specs.Output.{PageHistory}
use Rattle.run_model.specs.Reading.Items.{PageUnread, PageInput, Taking}
use Rattle.run_model.specs.Reading.{byte_taking}
use Rattle.run_model.specs.Reading.Ends.{due}
use Rattle.run_model.specs.Registers.{AllRegisters, no_registers}
use Rattle.run_model.specs.Run.{State, Leads, first_input, known_at}
use Rattle.run_model.specs.Run.Counts.{counts_in, first_passed}
use Rattle.run_model.specs.Telling.{Prints, page_told}
use Rattle.run_model.specs.TurnsToCome.{turns_within, unended}
use Rattle.run_model.specs.PageEvents.{PageEvent}
use Rattle.run_model.specs.declared.line_state.LineState.{LineState}
use Rattle.run_model.specs.declared.phase.Phase.{Phase}
use Rattle.run_model.proofs.ItemsTaken.{IsOpenFor, Origin, ahead_at, tape_at}
use Rattle.run_model.proofs.Leads.{Leads-refl}
use Rattle.run_model.proofs.PlainRuns.{behind_bytes, counted}
use Rattle.read_shortcuts.proofs.RunsRead.{first_of_front}
use Rattle.run_state.proofs.ToldBytes.{written-told}
use Rattle.read_shortcuts.proofs.PrintedRuns.{TakesText, counted-behind, leads-told, turns-counted}
use Rattle.run_items.specs.declared.interpreter.Interpreter.{Interpreter}
use Rattle.run_events.specs.declared.formatter.Formatter.{Formatter}
use Rattle.run_turns.specs.declared.running.Running.{Running as Coded}
use Rattle.run_items.specs.Outcome.{Beginning, Seen, seen}
use Rattle.run_items.specs.Performing.{going}
use Rattle.run_events.specs.Formatter.Telling.{TellsFront}
use Rattle.run_turns.specs.Running.Turning.{GoesPast, IsAt, line_turns, lines_left_in, state_at, turns_of_run}
use Rattle.page_bytes.specs.Sinks.{Sunk}
use Rattle.run_events.proofs.Telling.{all_by}
use Rattle.run_shortcuts.proofs.BytesPassed.{ComesBehind, goes_past-passed}
use Rattle.run_items.proofs.FewRead.{few-alone}
use Rattle.run_shortcuts.proofs.GoingPast.{IsAt-leads}
use Rattle.run_items.specs.Room.{FewFor}
use Rattle.run_turns.proofs.TurnsLeft.{turns_of_run-no_more}
use Rattle.run_model.specs.declared.line_state.LineState.TheVariants.{LineStart, Branch, Braced, Text as InText, Control, Name, Deciding, Skipping, Dropped, Told, Exiting, TitleFront, Title as InTitle, Collecting}

-- where a line begins a byte doesn't leave it so
unended-printed : (reading : LineState) → ((b : ℕ) → is_text_byte b ≡ true → Prints reading b)
    → unended (byte_taking (known_at [] no_registers first_input) reading first_input 97).reading ≡ unended reading
unended-printed reading prints = ap (λ (t : Taking). unended t.reading) (prints 97 refl (known_at [] no_registers first_input) first_input refl)

-- so bytes are told within a line, whose end takes as many turns whatever is interrupted
lines-told : (reading : LineState) → ((b : ℕ) → is_text_byte b ≡ true → Prints reading b) → (one other : ℕ) → line_turns reading one ≡ line_turns reading other
lines-told LineStart prints one other = let wrong : 1 ≡ 0 = unended-printed LineStart prints in absurd (omega (arith, wrong))
lines-told Braced prints one other = let wrong : 1 ≡ 0 = unended-printed Braced prints in absurd (omega (arith, wrong))
lines-told Branch prints one other = refl
lines-told (InText line) prints one other = refl
lines-told (Control breaks) prints one other = refl
lines-told (Name breaks first) prints one other = refl
lines-told (Collecting purpose) prints one other = refl
lines-told (Deciding keeping) prints one other = refl
lines-told (Skipping opened closed behind) prints one other = refl
lines-told Dropped prints one other = refl
lines-told (Told aborts) prints one other = refl
lines-told Exiting prints one other = refl
lines-told TitleFront prints one other = refl
lines-told (InTitle delimiter) prints one other = refl

-- the run of the definition leads on over bytes that are told; of none nothing is asked
leads-bytes : (l : Limits) (reading : LineState) (rs : AllRegisters) (messages : List ℕ) (phase : Phase) (closed : Bool) (from : Origin) (tape : Tape)
    (bytes : List ℕ) (i : PageInput) (h : PageHistory) → IsOpenFor from closed → due reading ≡ None → i.escapes ≡ []
    → first_passed l (counts_in rs (record i { ahead = ahead_at from bytes })) ≡ None
    → i.charge + length bytes ≤ l.bytes → AllByRecursion (λ b. Prints reading b) bytes → QuietlyTold l.line bytes (text_of h)
    → (1 ≤ length bytes → TakesText h)
    → let at : List ℕ → PageInput → PageHistory → State =
    λ left j h. going (tape_at from left tape) (record j { ahead = ahead_at from left }) reading rs h messages phase closed [] in
    Leads l (at bytes i h) (at [] (behind_bytes from bytes i) (page_told bytes h))
    × (first_passed l (counts_in rs (record (behind_bytes from bytes i) { ahead = ahead_at from [] })) ≡ None)
leads-bytes l reading rs messages phase closed from tape [] i h is_open none_due none_half fits few prints quiet takes =
    (Leads-refl l (going (tape_at from [] tape) (record i { ahead = ahead_at from [] }) reading rs h messages phase closed []), fits)
leads-bytes l reading rs messages phase closed from tape (b ∷ bytes) i h is_open none_due none_half fits few prints quiet takes =
    leads-told l reading rs messages phase closed from tape (b ∷ bytes) i h is_open none_due none_half fits few prints quiet (takes (omega arith))

-- bytes lead from where this is read to where that is, wherever they come from, in a history for which the environments stand
pub record LeadsOver (bytes : List ℕ) (reading there : LineState) (es : ComposerOf) : Type 0 where
  pub leads : (l k : Limits) (rs : AllRegisters) (messages : List ℕ) (phase : Phase) (closed : Bool) (from : Origin) (tape : Tape) (i : PageInput) (h : PageHistory)
      → IsOpenFor from closed → i.escapes ≡ [] → first_passed l (counts_in rs (record i { ahead = ahead_at from bytes })) ≡ None
      → i.charge + length bytes ≤ l.bytes → QuietlyTold l.line bytes (text_of h) → (1 ≤ length bytes → TakesText h) → StandFor k h es
      → Leads l (going (tape_at from bytes tape) (record i { ahead = ahead_at from bytes }) reading rs h messages phase closed [])
      (going (tape_at from [] tape) (record (behind_bytes from bytes i) { ahead = ahead_at from [] }) there rs (page_told bytes h) messages phase closed [])
      × (first_passed l (counts_in rs (record (behind_bytes from bytes i) { ahead = ahead_at from [] })) ≡ None)

-- the code where bytes were told, with this formatter and this input, behind which this is read
abbrev pub told_by : Coded → Formatter → LineState → PageUnread → Coded
told_by old f there u =
    record old { interpreter = record old.interpreter { formatter = f; reader = record old.interpreter.reader { reading = there } }; unread = u }

-- bytes that the formatter told where nothing is half read, by which no more turns are to come if this is so
module _ (old : Coded) (f : Formatter) (there : LineState) (front : List ℕ) (count : ℕ) (told : TellsFront front count old.interpreter.formatter f)
    (none_half : old.unread.input.escapes ≡ []) (over : LeadsOver (take count front) old.interpreter.reader.reading there old.interpreter.formatter.composer)
    (no_more : (from : Origin) (input : PageInput) → old.unread.input.ahead ≡ ahead_at from (take count front) → input ≡ counted from (take count front) old.unread.input
    → old.unread.input.charge + length (take count front) ≤ old.unread.limits.bytes
    → (h : PageHistory) → StandFor old.limits h old.interpreter.formatter.composer
    → turns_of_run (told_by old f there (record old.unread { input = input })) ≤ turns_of_run old) where
  -- the bytes, what is read, and the registers
  abbrev bytes : List ℕ
  bytes = take count front

  abbrev reading : LineState
  reading = old.interpreter.reader.reading

  abbrev rs : AllRegisters
  rs = old.interpreter.reader.registers.all

  -- the interpreter behind them, and the code, with this input
  abbrev interpreter_behind : Interpreter
  interpreter_behind = record old.interpreter { formatter = f; reader = record old.interpreter.reader { reading = there } }

  abbrev behind : PageInput → Coded
  behind input = record old { interpreter = interpreter_behind; unread = record old.unread { input = input } }

  -- what the steps need to know of the history
  quiet : (whole : Beginning) (tape : Tape) (start now : Seen) → (at : IsAt whole tape start now old) → QuietlyTold old.unread.limits.line bytes (text_of at.history)
  quiet whole tape start now at =
      told.quiet old.unread.limits at.history (subst (λ (l : Limits). StandFor l at.history old.interpreter.formatter.composer) (sym at.limits) at.stands)

  -- and that text is taken there, where there are any
  takes : (whole : Beginning) (tape : Tape) (start now : Seen) → (at : IsAt whole tape start now old) → 1 ≤ length bytes → TakesText at.history
  takes whole tape start now at some = record {
    takes = told.takes old.limits at.history at.stands (omega (arith, some, length-take count front));
    goes_on = at.stands.goes_on;
  }

  -- the run is at its place where the definition's leads on over them
  IsAt-told : (whole : Beginning) (tape t : Tape) (start now : Seen) (input : PageInput) (at : IsAt whole tape start now old)
      → Leads old.unread.limits (state_at tape old at.history at.messages) (state_at t (behind input) (page_told bytes at.history) at.messages)
      → first_passed old.unread.limits (counts_in rs input) ≡ None → FewFor [] there input.escapes input.ahead → IsAt whole t start now (behind input)
  IsAt-told whole tape t start now input at leads within few =
      let from : State = state_at tape old at.history at.messages in
      let next : State = state_at t (behind input) (page_told bytes at.history) at.messages in
      IsAt-leads whole tape t start now old interpreter_behind (record old.unread { input = input }) (page_told bytes at.history) at
      (subst (λ (l : Limits). Leads l from next) at.limits leads)
      (written-told old.unread.limits.line bytes at.history (quiet whole tape start now at))
      (told.stands old.limits at.history at.stands) (record { cap = at.ready.cap; line = at.ready.line; within = within }) at.limits few

  -- so it comes behind the bytes that were told, with what is unread then
  comes-told : (u : PageUnread) → ComesBehind bytes u old (told_by old f there u)
  comes-told u whole t taken start now from is_open front few passed asked left at =
      let l : Limits = old.unread.limits in
      let i : PageInput = old.unread.input in
      let input : PageInput = counted from bytes i in
      let tape : Tape = looked_then old.unread.looked taken in
      let h : PageHistory = page_told bytes at.history in
      let here : LineState → Tape → PageInput → PageHistory → State = λ reading tape j h. going tape j reading rs h at.messages old.phase (is_closed old.unread.looked) [] in
      let led = over.leads l old.limits rs at.messages old.phase (is_closed old.unread.looked) from tape i at.history is_open none_half
      (subst (λ (items : List (Ahead PageEvent)). first_passed l (counts_in rs (record i { ahead = items })) ≡ None) front at.ready.within) few
      (quiet whole taken start now at) (takes whole taken start now at) at.stands in
      let stands : here reading (tape_at from bytes tape) (record i { ahead = ahead_at from bytes }) at.history ≡ here reading tape i at.history =
      ap (λ (tape : Tape). here reading tape (record i { ahead = ahead_at from bytes }) at.history) (sym asked)
      ∙ ap (λ (items : List (Ahead PageEvent)). here reading tape (record i { ahead = items }) at.history) (sym front) in
      let same : record (behind_bytes from bytes i) { ahead = ahead_at from [] } ≡ input = counted-behind from bytes i in
      let comes : here there (tape_at from [] tape) (record (behind_bytes from bytes i) { ahead = ahead_at from [] }) h ≡ here there (looked_then old.unread.looked t) input h =
      ap (λ (j : PageInput). here there (tape_at from [] tape) j h) same ∙ ap (λ (tape : Tape). here there tape input h) left in
      subst (λ (v : PageUnread). IsAt whole t start now (told_by old f there v)) (sym passed)
      (IsAt-told whole taken t start now input at
      (subst (λ (from : State). Leads l from (here there (looked_then old.unread.looked t) input h)) stands
      (subst (λ (next : State). Leads l (here reading (tape_at from bytes tape) (record i { ahead = ahead_at from bytes }) at.history) next) comes led.0))
      (subst (λ (j : PageInput). first_passed l (counts_in rs j) ≡ None) same led.1)
      (few-alone from bytes reading there i input none_half at.few front same))

  -- the run goes past those that stood in front
  pub goes_past_front : (gave gives : Tape → Type 0) (ready : List ℕ) (noted notes failed failures : ℕ) (out err : Sunk) (u : PageUnread)
      → front ≡ front_bytes (length front) ready old.unread → PassesFront gave gives (front_bytes count ready old.unread) old.unread u
      → notes ≤ noted → failures ≡ failed
      → GoesPast false gave gives noted notes old (record old { interpreter = interpreter_behind; unread = u }) (seen failed out err) (seen failures out err)
  goes_past_front gave gives ready noted notes failed failures out err u stood passed fewer same_failures =
      let passes : PassesFront gave gives bytes old.unread u =
      subst (λ (passed : List ℕ). PassesFront gave gives passed old.unread u) (sym (first_of_front front count ready old.unread stood told.few)) passed in
      goes_past-passed false gave gives noted notes failed failures out err bytes old (told_by old f there u) u refl (comes-told u)
      (λ from ahead charged passed h stood. subst (λ (v : PageUnread). turns_of_run (told_by old f there v) ≤ turns_of_run old) (sym passed)
      (no_more from (counted from bytes old.unread.input) ahead refl charged h stood)) passes fewer same_failures

-- bytes of plain text that print where this is read, and leave it so
module _ (old : Coded) (f : Formatter) (front : List ℕ) (count : ℕ) (told : TellsFront front count old.interpreter.formatter f)
    (none_half : old.unread.input.escapes ≡ []) (none_due : due old.interpreter.reader.reading ≡ None)
    (prints : (b : ℕ) → is_text_byte b ≡ true → Prints old.interpreter.reader.reading b) where
  -- they lead on
  over_printed : LeadsOver (take count front) old.interpreter.reader.reading old.interpreter.reader.reading old.interpreter.formatter.composer
  over_printed = record {
    leads = λ l k rs messages phase closed from tape i h is_open none fits few quiet takes stood.
        leads-bytes l old.interpreter.reader.reading rs messages phase closed from tape (take count front) i h is_open none_due none fits few
        (all_by (λ b. is_text_byte b ≡ true) (λ b. Prints old.interpreter.reader.reading b) prints (take count front) told.text) quiet takes;
  }

  -- no more turns are to come
  turns-told : (from : Origin) (input : PageInput) → old.unread.input.ahead ≡ ahead_at from (take count front) → input ≡ counted from (take count front) old.unread.input
      → old.unread.input.charge + length (take count front) ≤ old.unread.limits.bytes
      → (h : PageHistory) → StandFor old.limits h old.interpreter.formatter.composer
      → turns_of_run (told_by old f old.interpreter.reader.reading (record old.unread { input = input })) ≤ turns_of_run old
  turns-told from input front_is is within h stood =
      let most : ℕ = old.unread.limits.bytes in
      let few : turns_within most input ≤ turns_within most old.unread.input =
      subst (λ (j : PageInput). turns_within most j ≤ turns_within most old.unread.input) (sym is) (turns-counted most from (take count front) old.unread.input front_is) in
      turns_of_run-no_more old (told_by old f old.interpreter.reader.reading (record old.unread { input = input })) (omega (arith, few)) refl
      (lines-told old.interpreter.reader.reading prints (lines_left_in f.composer) (lines_left_in old.interpreter.formatter.composer))

  -- the run goes past those that stood in front
  pub goes_past_told : (gave gives : Tape → Type 0) (ready : List ℕ) (noted notes failed failures : ℕ) (out err : Sunk) (u : PageUnread)
      → front ≡ front_bytes (length front) ready old.unread → PassesFront gave gives (front_bytes count ready old.unread) old.unread u
      → notes ≤ noted → failures ≡ failed
      → GoesPast false gave gives noted notes old (record old { interpreter = record old.interpreter { formatter = f }; unread = u }) (seen failed out err) (seen failures out err)
  goes_past_told gave gives ready noted notes failed failures out err u stood passed fewer same_failures =
      goes_past_front old f old.interpreter.reader.reading front count told none_half over_printed turns-told
      gave gives ready noted notes failed failures out err u stood passed fewer same_failures
