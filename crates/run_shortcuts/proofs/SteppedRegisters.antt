-- The escape that steps a register on a text line, taken at once: the run has come behind it, and its text was told.
use Rattle.std.proofs.Common.{◌≡◌, ℕ, ◌+◌, ◌<◌, ◌≤◌, Bool, true, false, List, [], length, take, Some, None, refl, sym, ap, subst, ◌∙◌, arith}
use Rattle.std.proofs.Math.Seq.{take-length}
use Rattle.roff_num.specs.declared.limits.Limits.{Limits}
use Rattle.input_model.proofs.FewEvents.{few-more, few-text}
use Rattle.input_model.specs.Input.{Ahead, pushing}
use Rattle.input_model.specs.Input.Few.{AreFew, AreFewFrom}
use Rattle.input_model.specs.Unread.{IsWithin}
use Rattle.input_source.specs.Tape.{Tape}
use Rattle.roff_scan.specs.Unread.Calls.{PassesFront, front_bytes, next_bytes}
use Rattle.read_lines.specs.Reader.State.{ReaderState}
use Rattle.read_lines.proofs.TakesAs.{passed-stepped}
use Rattle.run_model.proofs.InputCounts.{IsWithin-allowed}
use Rattle.run_model.proofs.ItemsTaken.{ahead_at, tape_at}
use Rattle.run_model.proofs.PlainRuns.{counted}
use Rattle.run_model.specs.PageEvents.{PageEvent}
use Rattle.run_model.specs.Reading.Items.{PageInput, PageUnread}
use Rattle.run_model.specs.Registers.{AllRegisters, StepBy, text_of_register}
use Rattle.run_model.specs.Registers.Capped.{Capped, with_change}
use Rattle.run_model.specs.Run.{Leads, State, known_at}
use Rattle.run_model.specs.Run.Counts.{counts_in, first_passed}
use Rattle.run_model.specs.declared.line_state.LineState.{LineState}
use Rattle.read_shortcuts.specs.Registers.{ReadsNames, with_text}
use Rattle.read_shortcuts.specs.Runs.{IsRun}
use Rattle.read_shortcuts.specs.Stepped.{StepsText}
use Rattle.read_shortcuts.proofs.RegisterNames.{reads_names-text}
use Rattle.read_shortcuts.proofs.RegistersHeld.{ReadsText, next_bytes-put, passes-end, passes-read, read}
use Rattle.read_shortcuts.proofs.SteppingRuns.{leads-stepped}
use Rattle.run_events.specs.Formatter.Telling.{TellsFront}
use Rattle.run_events.specs.declared.formatter.Formatter.{Formatter}
use Rattle.run_items.specs.declared.interpreter.Interpreter.{Interpreter}
use Rattle.run_items.specs.Outcome.{Seen, seen}
use Rattle.run_items.proofs.Fronts.{few-none}
use Rattle.input_model.specs.Arguments.{Arguments, is_behind_quote}
use Rattle.input_escapes.specs.OpenEscape.{OpenEscape}
use Rattle.run_model.specs.Reading.Waiting.{waiting_above}
use Rattle.roff_scan.specs.declared.run_kind.RunKind.TheVariants.{Text as TextRun}
use Rattle.run_turns.specs.declared.running.Running.{Running as Coded}
use Rattle.run_turns.specs.Running.Turning.{GoesPast, IsAt, state_at}
use Rattle.page_bytes.specs.Sinks.{Sunk}
use Rattle.run_shortcuts.proofs.BytesPassed.{ComesBehind, goes_past-passed}
use Rattle.run_items.proofs.FewRead.{few-behind_escape}
use Rattle.run_shortcuts.proofs.GoingPast.{IsAt-leads}
use Rattle.run_shortcuts.proofs.PassingEnds.{goes_further_passed}
use Rattle.run_shortcuts.proofs.Telling.{goes_past_told}
use Rattle.run_turns.proofs.TurnsLeft.{turns_of_run-fewer}
use Rattle.run_turns.proofs.ComingFurther.{comes_both, comes_further}

-- a run with this reader and this unread
abbrev pub run_with : Coded → ReaderState → PageUnread → Coded
run_with old reader u = record old { unread = u; interpreter = record old.interpreter { reader = reader } }

module _ (gave gives : Tape → Type 0) (old : Coded) (reader : ReaderState) (after : PageUnread)
    (steps : StepsText gave gives old.interpreter.reader reader old.interpreter.formatter.composer old.unread after) where
  abbrev i : PageInput
  i = old.unread.input

  abbrev registers : Capped
  registers = with_change (StepBy steps.name steps.direction) old.interpreter.reader.registers

  -- the reader behind it
  abbrev stepped_reader : ReaderState
  stepped_reader = record old.interpreter.reader { registers = registers }

  is_reader : reader ≡ stepped_reader
  is_reader =
      steps.steps.others ∙ ap (λ (r : Capped). let s : ReaderState = record old.interpreter.reader { registers = r } in s) steps.steps.registers.changed

  -- the run behind it
  abbrev new : Coded
  new = run_with old stepped_reader after

  -- so the run is at its place behind it, over what is left of the tape
  IsAt-stepped : ComesBehind steps.bytes steps.passed old new
  IsAt-stepped whole t taken start now from is_open ahead charged passed asked left at =
      let l : Limits = old.unread.limits in
      let rs : AllRegisters = registers.all in
      let input : PageInput = pushing steps.text (counted from steps.bytes i) in
      let there : PageUnread = record old.unread { input = input } in
      let is : after ≡ there = steps.put ∙ ap (λ (u : PageUnread). with_text steps.text u) passed in
      let inside : IsWithin there = subst IsWithin is steps.within in
      let s : State = state_at taken old at.history at.messages in
      let behind : State = state_at t (run_with old stepped_reader there) at.history at.messages in
      let fits : first_passed l (counts_in rs input) ≡ None =
      passed-stepped (Some steps.direction) steps.name old.interpreter.reader.registers old.unread input at.ready ∙ IsWithin-allowed there inside in
      let text_there : steps.text ≡ text_of_register (known_at at.history reader.registers.all (counted from steps.bytes i)) steps.name =
      subst (λ (u : PageUnread). steps.text ≡ text_of_register (known_at at.history reader.registers.all u.input) steps.name) passed (steps.text_is old.limits at.history at.stands) in
      let text_is : steps.text ≡ text_of_register (known_at at.history rs (counted from steps.bytes i)) steps.name =
      text_there ∙ ap (λ (r : Capped). text_of_register (known_at at.history r.all (counted from steps.bytes i)) steps.name) steps.steps.registers.changed in
      let leads : Leads l s (record s { tape = tape_at from [] s.tape; input = input; registers = rs }) =
      leads-stepped steps.direction steps.name l s steps.line from steps.bytes steps.text refl refl refl is_open steps.reads steps.asked steps.steps.registers.quiet
      steps.steps.registers.unnumbered ahead asked charged at.ready.within text_is fits in
      let comes : Leads l s behind = subst (λ (tape : Tape). Leads l s (record s { tape = tape; input = input; registers = rs })) left leads in
      let few : AreFewFrom 0 (ahead_at from []) =
      few-behind_escape from steps.asked.front steps.asked.last
      (subst (λ (bytes : List ℕ). AreFew (ahead_at from bytes)) steps.asked.is (subst (λ (items : List (Ahead PageEvent)). AreFew items) ahead at.few.few)) in
      subst (λ (u : PageUnread). IsAt whole t start now (run_with old stepped_reader u)) (sym is)
      (IsAt-leads whole taken t start now old (record old.interpreter { reader = stepped_reader }) there at.history at
      (subst (λ (k : Limits). Leads k s behind) at.limits comes) refl at.stands (record { cap = at.ready.cap; line = at.ready.line; within = fits }) at.limits
      (few-none [] old.interpreter.reader.reading input.escapes input.ahead (few-text 0 steps.text (ahead_at from []) (few-more 0 5 (ahead_at from []) (omega arith) few)) (λ keeps is. refl)))

  -- the run goes past it, and fewer turns are to come
  goes_further_stepped : (noted notes failed failures : ℕ) (out err : Sunk) → notes ≤ noted → failures ≡ failed
      → GoesPast true gave gives noted notes old (run_with old reader after) (seen failed out err) (seen failures out err)
  goes_further_stepped noted notes failed failures out err few same =
      subst (λ (r : ReaderState). GoesPast true gave gives noted notes old (run_with old r after) (seen failed out err) (seen failures out err)) (sym is_reader)
      (goes_past-passed true gave gives noted notes failed failures out err steps.bytes old new steps.passed refl IsAt-stepped
      (λ from ahead charged is h stood. turns_of_run-fewer old new (omega (arith, steps.fewer)) refl) steps.passes few same)

  -- as much is read as before
  pub same_reading : reader.reading ≡ old.interpreter.reader.reading
  same_reading = ap (λ (r : ReaderState). r.reading) is_reader

-- a text that stands in front is told, and its end taken, or what is left of it stands there
told_in_front : (gives : Tape → Type 0) (notes failures : ℕ) (out err : Sunk) (base : Coded) (f : Formatter) (passed after : PageUnread)
    (text : List ℕ) (count : ℕ) (room : passed.input.charge + length text < passed.limits.bytes) (is_ended : Bool)
    (told : TellsFront text count base.interpreter.formatter f)
    → IsRun TextRun base.interpreter.reader.reading passed.input.escapes → ReadsNames base.interpreter.reader.reading → IsWithin (with_text text passed)
    → (is_ended ≡ true → is_behind_quote passed.input.arguments.place ≡ false)
    → ReadsText text count told.few passed passed.input.arguments room is_ended after
    → GoesPast false gives gives notes notes (record base { unread = with_text text passed }) (record base { unread = after; interpreter = record base.interpreter { formatter = f } })
    (seen failures out err) (seen failures out err)
told_in_front gives notes failures out err base f passed after text count room is_ended told run names within none_waited reads =
    let a : Arguments = passed.input.arguments in
    let there : PageUnread = with_text text passed in
    let between : PageUnread = read text count told.few passed a room in
    let put : Coded = record base { unread = there } in
    let teller : Interpreter = record base.interpreter { formatter = f } in
    let behind : Seen = seen failures out err in
    let none_half : there.input.escapes ≡ [] = run.half_read in
    let bytes : next_bytes there.input.ahead there.looked [] ≡ text = next_bytes-put text passed.input.ahead there.looked [] in
    let passes : PassesFront gives gives (front_bytes count [] there) there between =
    subst (λ (xs : List ℕ). PassesFront gives gives (take count xs) there between) (sym bytes) (passes-read text count told.few passed a room gives) in
    let stood : text ≡ front_bytes (length text) [] there = sym (ap (take (length text)) bytes ∙ take-length text) in
    comes_both false
    (goes_past_told put f text count told none_half run.none_due run.does gives gives [] notes notes failures failures out err between stood passes (omega arith) refl)
    (comes_further (goes_further_passed (record base { unread = between; interpreter = teller }) (record base { unread = after; interpreter = teller }) is_ended (λ so. run.none_due)
    (λ so. ap (λ (half : List OpenEscape). waiting_above base.interpreter.reader.reading a.place half) none_half ∙ names.takes a.place (none_waited so))
    (passes-end text count told.few passed a room within is_ended after reads) (λ so. reads.within)
    (λ so. ap (λ (u : PageUnread). record base { unread = u; interpreter = teller }) (reads.rests so)) refl gives notes behind))

-- past an escape whose register was stepped and its text told
pub goes_further_stepped_told : (gave gives : Tape → Type 0) (noted notes failed failures : ℕ) (out err : Sunk) (old : Coded) (reader : ReaderState) (f : Formatter) (passed after : PageUnread)
    (text : List ℕ) (count : ℕ) (room : passed.input.charge + length text < passed.limits.bytes) (is_ended : Bool)
    (told : TellsFront text count old.interpreter.formatter f)
    → IsRun TextRun old.interpreter.reader.reading old.unread.input.escapes
    → StepsText gave gives old.interpreter.reader reader old.interpreter.formatter.composer old.unread (with_text text passed)
    → (is_ended ≡ true → is_behind_quote passed.input.arguments.place ≡ false)
    → ReadsText text count told.few passed passed.input.arguments room is_ended after → notes ≤ noted → failures ≡ failed
    → GoesPast true gave gives noted notes old (record old { unread = after; interpreter = record old.interpreter { reader = reader; formatter = f } }) (seen failed out err) (seen failures out err)
goes_further_stepped_told gave gives noted notes failed failures out err old reader f passed after text count room is_ended told run steps none_waited reads few same =
    let there : PageUnread = with_text text passed in
    let base : Coded = record old { interpreter = record old.interpreter { reader = reader } } in
    let is : reader.reading ≡ old.interpreter.reader.reading = same_reading gave gives old reader there steps in
    let run_there : IsRun TextRun reader.reading passed.input.escapes =
    subst (λ (r : LineState). IsRun TextRun r passed.input.escapes) (sym is)
    (subst (λ (half : List OpenEscape). IsRun TextRun old.interpreter.reader.reading half) (sym steps.half) run) in
    let names : ReadsNames reader.reading = subst ReadsNames (sym (is ∙ steps.reads)) (reads_names-text steps.line) in
    comes_both true
    (goes_further_stepped gave gives old reader there steps noted notes failed failures out err few same)
    (told_in_front gives notes failures out err base f passed after text count room is_ended told run_there names steps.within none_waited reads)
