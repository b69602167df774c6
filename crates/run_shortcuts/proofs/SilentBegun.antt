-- An escape that prints nothing and was taken where a text line begins, and no interrupted one goes on: the run has come behind it.
use Rattle.std.proofs.Common.{◌≡◌, ℕ, ◌+◌, ◌<◌, ◌≤◌, false, List, [], length, take, None, refl, sym, ap, subst, ◌∙◌, arith}
use Rattle.roff_num.specs.declared.limits.Limits.{Limits}
use Rattle.input_model.specs.Input.{Ahead}
use Rattle.input_source.specs.Tape.{Tape}
use Rattle.input_model.specs.Looking.{is_closed, looked_then}
use Rattle.roff_scan.specs.Unread.Calls.{PassesFront, front_bytes}
use Rattle.run_model.specs.Output.{PageHistory}
use Rattle.run_model.specs.Reading.Items.{PageInput, PageUnread}
use Rattle.run_model.specs.Registers.{AllRegisters}
use Rattle.run_model.specs.Run.{State, Leads}
use Rattle.run_model.specs.Run.Counts.{counts_in, first_passed}
use Rattle.run_model.specs.Environments.{interrupted_line}
use Rattle.run_model.specs.TurnsToCome.{turns_within}
use Rattle.run_state.specs.Composer.Standing.{StandFor}
use Rattle.read_lines.specs.Reader.State.{ReaderState}
use Rattle.run_model.specs.declared.line_state.LineState.{LineState}
use Rattle.run_model.specs.declared.line_state.LineState.TheVariants.{LineStart}
use Rattle.run_model.proofs.ItemsTaken.{Origin, ahead_at, tape_at}
use Rattle.run_model.proofs.PlainRuns.{behind_bytes, counted}
use Rattle.read_shortcuts.proofs.RunsRead.{first_of_front}
use Rattle.read_shortcuts.proofs.PrintedRuns.{counted-behind}
use Rattle.run_items.specs.Outcome.{seen}
use Rattle.run_items.specs.Performing.{going}
use Rattle.page_bytes.specs.Sinks.{Sunk}
use Rattle.run_turns.specs.Running.Turning.{GoesPast, IsAt, turns_of_run}
use Rattle.run_turns.specs.declared.running.Running.{Running as Coded}
use Rattle.read_shortcuts.proofs.LinesBegun.{turns-begun_some}
use Rattle.run_shortcuts.proofs.BytesPassed.{ComesBehind, goes_past-passed}
use Rattle.run_items.proofs.FewRead.{few-alone}
use Rattle.run_shortcuts.proofs.GoingPast.{IsAt-leads}
use Rattle.run_turns.proofs.TurnsLeft.{turns_of_run-fewer}
use Rattle.read_shortcuts.proofs.EscapesRead.{leads-escape, some-bytes}
use Rattle.read_shortcuts.proofs.SilentEscapesRead.{IsSilent, behind_first, first-silent}

module _ (old : Coded) (bytes : List ℕ) (silent : IsSilent bytes) (none_half : old.unread.input.escapes ≡ []) (begins : old.interpreter.reader.reading ≡ LineStart)
    (none : (l : Limits) (h : PageHistory) → StandFor l h old.interpreter.formatter.composer → interrupted_line h ≡ None) where
  abbrev rs : AllRegisters
  rs = old.interpreter.reader.registers.all

  abbrev behind : ReaderState → PageUnread → Coded
  behind r u = record old { interpreter = record old.interpreter { reader = r }; unread = u }

  abbrev reads : ReaderState
  reads = record old.interpreter.reader { reading = behind_first }

  -- the run comes behind it, with what is unread then
  comes-silent : (u : PageUnread) → ComesBehind bytes u old (behind reads u)
  comes-silent u whole t taken start now from is_open front few passed asked left at =
      let l : Limits = old.unread.limits in
      let i : PageInput = old.unread.input in
      let input : PageInput = counted from bytes i in
      let tape : Tape = looked_then old.unread.looked taken in
      let h : PageHistory = at.history in
      let reading : LineState = old.interpreter.reader.reading in
      let here : LineState → Tape → PageInput → State = λ r tape j. going tape j r rs h at.messages old.phase (is_closed old.unread.looked) [] in
      let led = leads-escape l LineStart behind_first [] (λ k. k.interrupted ≡ None) rs at.messages old.phase (is_closed old.unread.looked) refl from tape bytes i h (first-silent bytes silent)
      (λ j. none old.limits h at.stands) is_open none_half
      (subst (λ (items : List (Ahead _)). first_passed l (counts_in rs (record i { ahead = items })) ≡ None) front at.ready.within) few in
      let stands : here LineStart (tape_at from bytes tape) (record i { ahead = ahead_at from bytes }) ≡ here reading tape i =
      ap (λ (tape : Tape). here LineStart tape (record i { ahead = ahead_at from bytes })) (sym asked)
      ∙ ap (λ (items : List (Ahead _)). here LineStart tape (record i { ahead = items })) (sym front)
      ∙ ap (λ (r : LineState). here r tape i) (sym begins) in
      let same : record (behind_bytes from bytes i) { ahead = ahead_at from [] } ≡ input = counted-behind from bytes i in
      let comes : here behind_first (tape_at from [] tape) (record (behind_bytes from bytes i) { ahead = ahead_at from [] }) ≡ here behind_first (looked_then old.unread.looked t) input =
      ap (λ (j : PageInput). here behind_first (tape_at from [] tape) j) same ∙ ap (λ (tape : Tape). here behind_first tape input) left in
      let way : Leads l (here reading tape i) (here behind_first (looked_then old.unread.looked t) input) =
      subst (λ (from : State). Leads l from (here behind_first (looked_then old.unread.looked t) input)) stands
      (subst (λ (next : State). Leads l (here LineStart (tape_at from bytes tape) (record i { ahead = ahead_at from bytes })) next) comes led.0) in
      subst (λ (v : PageUnread). IsAt whole t start now (behind reads v)) (sym passed)
      (IsAt-leads whole taken t start now old (record old.interpreter { reader = reads }) (record old.unread { input = input }) h at
      (subst (λ (limits : Limits). Leads limits (here reading tape i) (here behind_first (looked_then old.unread.looked t) input)) at.limits way)
      refl at.stands
      (record {
        cap = at.ready.cap;
        line = at.ready.line;
        within = subst (λ (j : PageInput). first_passed l (counts_in rs j) ≡ None) same led.1;
      }) at.limits (few-alone from bytes reading behind_first i input none_half at.few front same))

  -- no more turns are to come
  turns-silent : (from : Origin) → old.unread.input.ahead ≡ ahead_at from bytes → old.unread.input.charge + length bytes ≤ old.unread.limits.bytes
      → turns_of_run (behind reads (record old.unread { input = counted from bytes old.unread.input })) ≤ turns_of_run old
  turns-silent from front charged =
      let most : ℕ = old.unread.limits.bytes in
      let few : turns_within most (counted from bytes old.unread.input) < turns_within most old.unread.input =
      turns-begun_some most from bytes old.unread.input (some-bytes LineStart behind_first [] (λ k. k.interrupted ≡ None) [] bytes (first-silent bytes silent)) front charged in
      let fewer = turns_of_run-fewer old (behind reads (record old.unread { input = counted from bytes old.unread.input })) (omega (arith, few)) refl in
      omega (arith, fewer)

  -- the run goes past it
  pub goes_past_silent : (r : ReaderState) → reads ≡ r → (gave gives : Tape → Type 0) (count : ℕ) (ready front : List ℕ) (noted notes failed failures : ℕ) (out err : Sunk) (u : PageUnread)
      → take count front ≡ bytes → count ≤ length front → front ≡ front_bytes (length front) ready old.unread → PassesFront gave gives (front_bytes count ready old.unread) old.unread u
      → notes ≤ noted → failures ≡ failed
      → GoesPast false gave gives noted notes old (behind r u) (seen failed out err) (seen failures out err)
  goes_past_silent r is gave gives count ready front noted notes failed failures out err u three few stood passed fewer same_failures =
      let passes : PassesFront gave gives bytes old.unread u =
      subst (λ (these : List ℕ). PassesFront gave gives these old.unread u) (sym (first_of_front front count ready old.unread stood few) ∙ three) passed in
      subst (λ (r : ReaderState). GoesPast false gave gives noted notes old (behind r u) (seen failed out err) (seen failures out err)) is
      (goes_past-passed false gave gives noted notes failed failures out err bytes old (behind reads u) u refl (comes-silent u)
      (λ from ahead charged is h stood. subst (λ (v : PageUnread). turns_of_run (behind reads v) ≤ turns_of_run old) (sym is) (turns-silent from ahead charged)) passes fewer same_failures)
