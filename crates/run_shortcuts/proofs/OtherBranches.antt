-- The front of the other branch of a condition was taken at once: the run has come behind it.
use Rattle.std.proofs.Common.{◌≡◌, ℕ, ◌+◌, ◌<◌, ◌≤◌, Bool, true, false, List, [], ◌∷◌, length, None, refl, sym, ap, subst, ◌∙◌, arith}
use Rattle.roff_num.specs.declared.limits.Limits.{Limits}
use Rattle.input_escapes.specs.OpenEscape.{OpenEscape}
use Rattle.input_model.specs.Input.{Ahead}
use Rattle.input_model.specs.Input.Calls.{last_result, without_last}
use Rattle.input_model.specs.Input.Few.{AreFew, AreFewFrom}
use Rattle.input_model.specs.Looking.{is_closed, looked_then}
use Rattle.input_model.specs.Unread.{IsWithin}
use Rattle.input_source.specs.Tape.{Tape}
use Rattle.read_lines.proofs.TakesAs.{few_names, short_title}
use Rattle.read_lines.specs.Reader.State.{ReaderState}
use Rattle.run_model.proofs.InputCounts.{IsWithin-allowed, first_passed-few_names}
use Rattle.run_model.proofs.ItemsTaken.{IsOpenFor, Origin, ahead_at, tape_at}
use Rattle.run_model.proofs.PlainRuns.{counted}
use Rattle.run_model.specs.PageEvents.{PageEvent}
use Rattle.run_model.specs.Reading.Branches.{branch_of, reads_else}
use Rattle.run_model.specs.Reading.Items.{PageInput, PageUnread}
use Rattle.run_model.specs.Registers.{AllRegisters}
use Rattle.run_model.specs.Run.{Leads, State}
use Rattle.run_model.specs.Run.Counts.{counts_in, first_passed}
use Rattle.run_model.specs.Stages.{Stage, Turned, stage_of}
use Rattle.run_model.specs.TurnsToCome.{begun, turns_to_come}
use Rattle.run_model.specs.declared.line_state.LineState.{LineState}
use Rattle.read_shortcuts.specs.ControlFronts.{control_byte}
use Rattle.read_shortcuts.specs.OtherBranches.{TakesOther}
use Rattle.read_shortcuts.proofs.ControlFronts.{stage_with}
use Rattle.read_shortcuts.proofs.OtherBranches.{changes-other, leads-changed, naming, turned-naming}
use Rattle.read_shortcuts.proofs.RegistersPut.{leaves}
use Rattle.run_turns.specs.declared.running.Running.{Running as Coded}
use Rattle.run_items.specs.Outcome.{Beginning, Seen, seen}
use Rattle.run_turns.specs.Running.Turning.{IsAt, state_at, GoesPast}
use Rattle.page_bytes.specs.Sinks.{Sunk}
use Rattle.run_items.proofs.Fronts.{few-none}
use Rattle.run_shortcuts.proofs.BytesPassed.{ComesBehind, goes_past-passed}
use Rattle.run_items.proofs.FewRead.{none-read}
use Rattle.run_shortcuts.proofs.GoingPast.{IsAt-leads}
use Rattle.run_shortcuts.proofs.SteppedRegisters.{run_with}
use Rattle.run_turns.proofs.TurnsLeft.{turns_of_run-fewer}

-- bytes of a name that were taken, of which the last one takes a kept result
abbrev popped : PageInput → PageInput
popped i = record (without_last i) { escapes = [] }

module _ (gave gives : Tape → Type 0) (old : Coded) (after : PageUnread) (new : ReaderState)
    (takes : TakesOther gave gives old.interpreter.reader new old.unread after) where
  abbrev i : PageInput
  i = old.unread.input

  abbrev bytes : List ℕ
  bytes = control_byte takes.breaks ∷ takes.first ∷ takes.second ∷ []

  -- what is read then
  abbrev branch : LineState
  branch = branch_of (reads_else (last_result i))

  abbrev reader : ReaderState
  reader = record old.interpreter.reader { reading = branch }

  abbrev last : Stage
  last = naming i.names takes.breaks takes.first takes.second i.arguments i.open_texts

  turned : Turned i.names (stage_of old.interpreter.reader.reading i) (control_byte takes.breaks ∷ takes.first ∷ []) last
  turned =
      subst (λ (half : List OpenEscape). Turned i.names (stage_with old.interpreter.reader.reading half i.arguments i.open_texts) (control_byte takes.breaks ∷ takes.first ∷ []) last)
      (sym takes.named.none_half)
      (turned-naming i.names takes.breaks takes.first takes.second i.arguments i.open_texts old.interpreter.reader.reading takes.named.none_due takes.named.begins takes.named.named_first)

  -- the input behind it, wherever the bytes came from
  abbrev behind : Origin → PageInput
  behind from = popped (counted from bytes i)

  -- so the run is at its place there, over what is left of the tape
  IsAt-other : (whole : Beginning) (t taken : Tape) (start now : Seen) (from : Origin) → IsOpenFor from (is_closed old.unread.looked)
      → i.ahead ≡ ahead_at from bytes → i.charge + length bytes ≤ old.unread.limits.bytes → IsWithin (record old.unread { input = behind from })
      → looked_then old.unread.looked taken ≡ tape_at from bytes (looked_then old.unread.looked taken)
      → tape_at from [] (looked_then old.unread.looked taken) ≡ looked_then old.unread.looked t
      → IsAt whole taken start now old → IsAt whole t start now (run_with old reader (record old.unread { input = behind from }))
  IsAt-other whole t taken start now from is_open ahead charged inside asked left at =
      let l : Limits = old.unread.limits in
      let rs : AllRegisters = old.interpreter.reader.registers.all in
      let input : PageInput = behind from in
      let there : PageUnread = record old.unread { input = input } in
      let s : State = state_at taken old at.history at.messages in
      let fits : first_passed l (counts_in rs input) ≡ None =
      first_passed-few_names l rs input (few_names old.interpreter.reader.registers old.unread at.ready) (short_title old.interpreter.reader.registers old.unread at.ready) ∙ IsWithin-allowed there inside in
      let leads : Leads l s (record s { tape = tape_at from [] s.tape; input = input; reading = branch }) =
      leads-changed without_last (λ (j : PageInput). branch_of (reads_else (last_result j))) l s from (control_byte takes.breaks ∷ takes.first ∷ []) takes.second last refl refl refl is_open turned
      (changes-other i.names takes.breaks takes.first takes.second i.arguments i.open_texts takes.named.named_second takes.named.leads) (omega arith) refl ahead asked charged at.ready.within fits in
      let comes : Leads l s (state_at t (run_with old reader there) at.history at.messages) =
      subst (λ (tape : Tape). Leads l s (record s { tape = tape; input = input; reading = branch })) left leads in
      let few : AreFewFrom 0 (ahead_at from []) =
      none-read from (control_byte takes.breaks) (takes.first ∷ takes.second ∷ []) (subst (λ (items : List (Ahead PageEvent)). AreFew items) ahead at.few.few) in
      IsAt-leads whole taken t start now old (record old.interpreter { reader = reader }) there at.history at
      (subst (λ (k : Limits). Leads k s (state_at t (run_with old reader there) at.history at.messages)) at.limits comes) refl at.stands
      (record { cap = at.ready.cap; line = at.ready.line; within = fits }) at.limits (few-none [] branch [] (ahead_at from []) few (λ keeps is. refl))

  -- nothing is begun in a branch
  none_begun : (so : Bool) → begun (branch_of so) ≡ 0
  none_begun true = refl
  none_begun false = refl

  -- fewer turns are to come
  fewer-taken : turns_to_come after < turns_to_come old.unread
  fewer-taken =
      subst (λ (u : PageUnread). turns_to_come u < turns_to_come old.unread) (sym takes.is) (leaves gave gives bytes old.unread takes.passed (omega arith) takes.passes).turns

  -- the input where it was taken
  is_behind : (from : Origin) → takes.passed ≡ record old.unread { input = counted from bytes i } → after ≡ record old.unread { input = behind from }
  is_behind from passed =
      takes.is ∙ ap (λ (u : PageUnread). record u { input = without_last u.input }) passed
      ∙ ap (λ (half : List OpenEscape). record old.unread { input = record (without_last (counted from bytes i)) { escapes = half } }) takes.named.none_half

  is_reader : (from : Origin) → takes.passed ≡ record old.unread { input = counted from bytes i } → new ≡ reader
  is_reader from passed =
      takes.reads ∙ ap (λ (u : PageUnread). record old.interpreter.reader { reading = branch_of (reads_else (last_result u.input)) }) passed

  -- so the run comes behind it
  comes-other : ComesBehind bytes takes.passed old (run_with old new after)
  comes-other whole t taken start now from is_open ahead charged passed asked left at =
      let same : after ≡ record old.unread { input = behind from } = is_behind from passed in
      subst (λ (r : ReaderState). IsAt whole t start now (run_with old r after)) (sym (is_reader from passed))
      (subst (λ (u : PageUnread). IsAt whole t start now (run_with old reader u)) (sym same)
      (IsAt-other whole t taken start now from is_open ahead charged (subst IsWithin same takes.within) asked left at))

  -- and fewer turns are to come
  pub goes_further_other : (noted notes failed failures : ℕ) (out err : Sunk) → notes ≤ noted → failures ≡ failed
      → GoesPast true gave gives noted notes old (run_with old new after) (seen failed out err) (seen failures out err)
  goes_further_other noted notes failed failures out err few same =
      let behind : new.reading ≡ branch_of (reads_else (last_result takes.passed.input)) = ap (λ (r : ReaderState). r.reading) takes.reads in
      let none = ap begun behind ∙ none_begun (reads_else (last_result takes.passed.input)) in
      let less = fewer-taken in
      goes_past-passed true gave gives noted notes failed failures out err bytes old (run_with old new after) takes.passed refl comes-other
      (λ from ahead charged is h stood. turns_of_run-fewer old (run_with old new after) (omega (arith, less, none)) refl) takes.passes few same
