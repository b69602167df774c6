-- The escape of a register, a string or an argument that was taken at once, with its text in front: the run has come behind it.
use Rattle.std.proofs.Common.{◌≡◌, ℕ, ◌+◌, ◌<◌, ◌≤◌, Bool, true, false, List, [], length, take, None, refl, sym, ap, subst, ◌∙◌, arith}
use Rattle.std.proofs.Math.Seq.{take-length}
use Rattle.roff_num.specs.declared.limits.Limits.{Limits}
use Rattle.input_model.proofs.FewEvents.{few-more, few-text}
use Rattle.input_model.specs.Input.{Ahead, pushing}
use Rattle.input_model.specs.Input.Few.{AreFew, AreFewFrom}
use Rattle.input_model.specs.Unread.{IsWithin}
use Rattle.input_source.specs.Tape.{Tape}
use Rattle.roff_scan.specs.Unread.Calls.{PassesEnd, PassesFront, front_bytes, next_bytes}
use Rattle.run_state.specs.declared.composer.Composer.{Composer as ComposerOf}
use Rattle.read_lines.specs.Reader.State.{ReaderState}
use Rattle.read_lines.proofs.TakesAs.{few_names, short_title}
use Rattle.run_model.proofs.InputCounts.{IsWithin-allowed, first_passed-few_names}
use Rattle.run_model.proofs.ItemsTaken.{ahead_at, tape_at}
use Rattle.run_model.proofs.PlainRuns.{counted}
use Rattle.run_model.specs.PageEvents.{PageEvent}
use Rattle.run_model.specs.Reading.Items.{PageInput, PageUnread}
use Rattle.run_model.specs.Reading.Units.{interrupted}
use Rattle.run_model.specs.Registers.{AllRegisters}
use Rattle.run_model.specs.Run.{Leads, State, known_at}
use Rattle.run_model.specs.Run.Counts.{counts_in, first_passed}
use Rattle.run_model.specs.declared.line_state.LineState.{LineState}
use Rattle.read_shortcuts.specs.Registers.{Asked, OfString, HoldsText, PutsText, ReadsNames, text_asked, with_text}
use Rattle.read_shortcuts.specs.Runs.{IsRun}
use Rattle.read_shortcuts.proofs.RegistersHeld.{ReadsText, next_bytes-put, passes-end, passes-read, read}
use Rattle.run_events.specs.Formatter.Telling.{TellsFront}
use Rattle.run_events.specs.declared.formatter.Formatter.{Formatter}
use Rattle.run_items.specs.declared.interpreter.Interpreter.{Interpreter}
use Rattle.input_model.specs.Arguments.{Arguments, is_behind_quote}
use Rattle.input_escapes.specs.OpenEscape.{OpenEscape}
use Rattle.run_model.specs.Reading.Ends.{due}
use Rattle.run_model.specs.Reading.Waiting.{waiting_above}
use Rattle.roff_scan.specs.declared.run_kind.RunKind.{RunKind}
use Rattle.roff_scan.specs.declared.run_kind.RunKind.TheVariants.{Text as TextRun}
use Rattle.read_shortcuts.proofs.PuttingRuns.{input_put, leads-put}
use Rattle.run_turns.specs.declared.running.Running.{Running as Coded}
use Rattle.run_items.specs.Outcome.{Seen, seen}
use Rattle.run_turns.specs.Running.Turning.{GoesPast, IsAt, state_at}
use Rattle.page_bytes.specs.Sinks.{Sunk}
use Rattle.run_items.proofs.Fronts.{few-none}
use Rattle.run_shortcuts.proofs.BytesPassed.{ComesBehind, goes_past-passed}
use Rattle.run_items.proofs.FewRead.{few-behind_escape}
use Rattle.run_shortcuts.proofs.GoingPast.{IsAt-leads}
use Rattle.run_shortcuts.proofs.PassingEnds.{goes_further_passed}
use Rattle.run_shortcuts.proofs.Telling.{goes_past_told}
use Rattle.run_shortcuts.proofs.Turned.{goes_past_turned}
use Rattle.run_turns.proofs.TurnsLeft.{turns_of_run-fewer}
use Rattle.run_turns.proofs.ComingFurther.{comes_both, comes_nowhere}

module _ (purpose : Asked) (gave gives : Tape → Type 0) (old : Coded) (after : PageUnread)
    (puts : PutsText purpose gave gives old.interpreter.reader old.interpreter.formatter.composer old.unread after) where
  abbrev i : PageInput
  i = old.unread.input

  abbrev reading : LineState
  reading = old.interpreter.reader.reading

  -- the run behind it
  abbrev new : Coded
  new = record old { unread = after }

  -- so the run is at its place behind it, over what is left of the tape
  IsAt-put : ComesBehind puts.bytes puts.passed old new
  IsAt-put whole t taken start now from is_open ahead charged passed asked left at =
      let l : Limits = old.unread.limits in
      let rs : AllRegisters = old.interpreter.reader.registers.all in
      let input : PageInput = input_put reading puts.text from puts.bytes i in
      let there : PageUnread = record old.unread { input = input } in
      let is : after ≡ there =
      puts.put ∙ ap (λ (u : PageUnread). record u { input = pushing puts.text (interrupted reading u.input) }) passed in
      let inside : IsWithin there = subst IsWithin is puts.within in
      let s : State = state_at taken old at.history at.messages in
      let behind : State = state_at t (record old { unread = there }) at.history at.messages in
      let fits : first_passed l (counts_in rs input) ≡ None =
      first_passed-few_names l rs input (few_names old.interpreter.reader.registers old.unread at.ready) (short_title old.interpreter.reader.registers old.unread at.ready) ∙ IsWithin-allowed there inside in
      let text_is : puts.text ≡ text_asked purpose (known_at at.history rs (counted from puts.bytes i)) (interrupted reading (counted from puts.bytes i)) puts.name =
      subst (λ (u : PageUnread). puts.text ≡ text_asked purpose (known_at at.history rs u.input) (interrupted reading u.input) puts.name) passed (puts.text_is old.limits at.history at.stands) in
      let leads : Leads l s (record s { tape = tape_at from [] s.tape; input = input }) =
      leads-put purpose l s from puts.bytes puts.name puts.text refl refl refl is_open puts.asked ahead asked charged at.ready.within text_is fits in
      let comes : Leads l s behind = subst (λ (tape : Tape). Leads l s (record s { tape = tape; input = input })) left leads in
      let few : AreFewFrom 0 (ahead_at from []) =
      few-behind_escape from puts.asked.front puts.asked.last
      (subst (λ (bytes : List ℕ). AreFew (ahead_at from bytes)) puts.asked.is (subst (λ (items : List (Ahead PageEvent)). AreFew items) ahead at.few.few)) in
      subst (λ (u : PageUnread). IsAt whole t start now (record old { unread = u })) (sym is)
      (IsAt-leads whole taken t start now old old.interpreter there at.history at
      (subst (λ (k : Limits). Leads k s behind) at.limits comes) refl at.stands (record { cap = at.ready.cap; line = at.ready.line; within = fits }) at.limits
      (few-none [] reading input.escapes input.ahead (few-text 0 puts.text (ahead_at from []) (few-more 0 5 (ahead_at from []) (omega arith) few)) (λ keeps is. refl)))

  -- the run goes past it, and fewer turns are to come
  pub goes_further_put : (noted notes failed failures : ℕ) (out err : Sunk) → notes ≤ noted → failures ≡ failed
      → GoesPast true gave gives noted notes old new (seen failed out err) (seen failures out err)
  goes_further_put noted notes failed failures out err few same =
      goes_past-passed true gave gives noted notes failed failures out err puts.bytes old new puts.passed refl IsAt-put
      (λ from ahead charged is h stood. turns_of_run-fewer old new (omega (arith, puts.fewer)) refl) puts.passes few same

-- where as much is read as before, and as much half read, bytes in front are of a run as before
pub run-kept : (kind : RunKind) (old new : Coded) → new.interpreter.reader.reading ≡ old.interpreter.reader.reading → new.unread.input.escapes ≡ old.unread.input.escapes
    → IsRun kind old.interpreter.reader.reading old.unread.input.escapes → IsRun kind new.interpreter.reader.reading new.unread.input.escapes
run-kept kind old new reading half run =
    subst (λ (r : LineState). IsRun kind r new.unread.input.escapes) (sym reading)
    (subst (λ (h : List OpenEscape). IsRun kind old.interpreter.reader.reading h) (sym half) run)

-- past an escape whose text was held
pub goes_further_held : (gave gives : Tape → Type 0) (noted notes failed failures : ℕ) (out err : Sunk) (old : Coded) (after : PageUnread)
    → HoldsText gave gives old.interpreter.reader old.interpreter.formatter.composer old.unread after
    → due old.interpreter.reader.reading ≡ None → notes ≤ noted → failures ≡ failed
    → GoesPast true gave gives noted notes old (record old { unread = after }) (seen failed out err) (seen failures out err)
goes_further_held gave gives noted notes failed failures out err old after holds none_due few same =
    let put : Coded = record old { unread = holds.put } in
    let read : Coded = record old { unread = holds.read } in
    let new : Coded = record old { unread = after } in
    let behind : Seen = seen failures out err in
    comes_both true
    (comes_both true
    (goes_further_put holds.asked gave gives old holds.put holds.puts noted notes failed failures out err few same)
    (goes_past_turned gives gives notes notes failures failures out err put holds.read old.interpreter.reader holds.past (omega arith) refl))
    (goes_further_passed read new holds.is_ended (λ so. none_due) holds.takes holds.ends (λ so. holds.within)
    (λ so. ap (λ (u : PageUnread). record old { unread = u }) (holds.stays so)) refl gives notes behind)

-- past an escape whose text was told
pub goes_further_told : (asked : Asked) (gave gives : Tape → Type 0) (noted notes failed failures : ℕ) (out err : Sunk) (old : Coded) (f : Formatter) (passed after : PageUnread)
    (text : List ℕ) (count : ℕ) (room : passed.input.charge + length text < passed.limits.bytes) (is_ended : Bool)
    (told : TellsFront text count old.interpreter.formatter f)
    → IsRun TextRun old.interpreter.reader.reading old.unread.input.escapes → ReadsNames old.interpreter.reader.reading
    → PutsText asked gave gives old.interpreter.reader old.interpreter.formatter.composer old.unread (with_text text passed)
    → (is_ended ≡ true → is_behind_quote passed.input.arguments.place ≡ false)
    → ReadsText text count told.few passed passed.input.arguments room is_ended after → notes ≤ noted → failures ≡ failed
    → GoesPast true gave gives noted notes old (record old { unread = after; interpreter = record old.interpreter { formatter = f } }) (seen failed out err) (seen failures out err)
goes_further_told asked gave gives noted notes failed failures out err old f passed after text count room is_ended told run names puts none_waited reads few same =
    let a : Arguments = passed.input.arguments in
    let there : PageUnread = with_text text passed in
    let between : PageUnread = read text count told.few passed a room in
    let put : Coded = record old { unread = there } in
    let reader : Interpreter = record old.interpreter { formatter = f } in
    let behind : Seen = seen failures out err in
    let none_half : there.input.escapes ≡ [] = puts.half ∙ run.half_read in
    let bytes : next_bytes there.input.ahead there.looked [] ≡ text = next_bytes-put text passed.input.ahead there.looked [] in
    let passes : PassesFront gives gives (front_bytes count [] there) there between =
    subst (λ (xs : List ℕ). PassesFront gives gives (take count xs) there between) (sym bytes) (passes-read text count told.few passed a room gives) in
    let stood : text ≡ front_bytes (length text) [] there = sym (ap (take (length text)) bytes ∙ take-length text) in
    comes_both true
    (comes_both true
    (goes_further_put asked gave gives old there puts noted notes failed failures out err few same)
    (goes_past_told put f text count told none_half run.none_due run.does gives gives [] notes notes failures failures out err between stood passes (omega arith) refl))
    (goes_further_passed (record old { unread = between; interpreter = reader }) (record old { unread = after; interpreter = reader }) is_ended (λ so. run.none_due)
    (λ so. ap (λ (half : List OpenEscape). waiting_above old.interpreter.reader.reading a.place half) none_half ∙ names.takes a.place (none_waited so))
    (passes-end text count told.few passed a room puts.within is_ended after reads) (λ so. reads.within)
    (λ so. ap (λ (u : PageUnread). record old { unread = u; interpreter = reader }) (reads.rests so)) refl gives notes behind)

-- past an escape that was taken, or past nothing
pub goes_past_or_stays : (gave gives : Tape → Type 0) (noted notes failed failures : ℕ) (out err : Sunk) (old new : Coded) (is_taken : Bool) → new ≡ record old { unread = new.unread }
    → (is_taken ≡ true → GoesPast true gave gives noted notes old (record old { unread = new.unread }) (seen failed out err) (seen failures out err))
    → (is_taken ≡ false → (new.unread ≡ old.unread) × (gives ≡ gave) × (notes ≡ noted)) → failures ≡ failed
    → GoesPast is_taken gave gives noted notes old new (seen failed out err) (seen failures out err)
goes_past_or_stays gave gives noted notes failed failures out err old new true is goes kept same =
    subst (λ (run : Coded). GoesPast true gave gives noted notes old run (seen failed out err) (seen failures out err)) (sym is) (goes refl)
goes_past_or_stays gave gives noted notes failed failures out err old new false is goes kept same =
    let none = kept refl in
    comes_nowhere gave gives noted notes failed failures out err old new none.1 none.2 same (is ∙ ap (λ (u : PageUnread). record old { unread = u }) none.0)

-- what is half read stays
pub half_register : (gave gives : Tape → Type 0) (r : ReaderState) (es : ComposerOf) (before after : PageUnread) (is_taken : Bool)
    → (is_taken ≡ true → HoldsText gave gives r es before after) → (is_taken ≡ false → after ≡ before) → after.input.escapes ≡ before.input.escapes
half_register gave gives r es before after true holds kept = (holds refl).half
half_register gave gives r es before after false holds kept = ap (λ (u : PageUnread). u.input.escapes) (kept refl)

pub half_string : (gave gives : Tape → Type 0) (r : ReaderState) (es : ComposerOf) (before after : PageUnread) (is_put : Bool)
    → (is_put ≡ true → PutsText OfString gave gives r es before after) → (is_put ≡ false → after ≡ before) → after.input.escapes ≡ before.input.escapes
half_string gave gives r es before after true puts kept = (puts refl).half
half_string gave gives r es before after false puts kept = ap (λ (u : PageUnread). u.input.escapes) (kept refl)

-- the end of a text leaves what is half read
pub half_ended : (before after : PageUnread) (is_passed : Bool) → (is_passed ≡ true → PassesEnd before after) → (is_passed ≡ false → after ≡ before) → after.input.escapes ≡ before.input.escapes
half_ended before after true passes kept = ap (λ (u : PageUnread). u.input.escapes) (passes refl).input
half_ended before after false passes kept = ap (λ (u : PageUnread). u.input.escapes) (kept refl)
