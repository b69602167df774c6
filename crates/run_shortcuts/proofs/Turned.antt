-- Bytes that were read at once and changed only what is read: the run has come behind them.
use Rattle.std.proofs.Common.{◌≡◌, ℕ, ◌+◌, ◌≤◌, false, List, [], ◌∷◌, length, None, refl, sym, ap, subst, ◌∙◌, arith}
use Rattle.roff_num.specs.declared.limits.Limits.{Limits}
use Rattle.input_model.specs.Input.{Ahead}
use Rattle.input_source.specs.Tape.{Tape}
use Rattle.input_model.specs.Looking.{is_closed, looked_then}
use Rattle.input_model.specs.Unread.{input_refusal}
use Rattle.read_meaning.specs.Meaning.{MeaningKept}
use Rattle.read_lines.specs.Reader.State.{ReaderState}
use Rattle.read_lines.specs.Reader.Taken.{IsReady}
use Rattle.run_model.specs.Reading.Items.{PageUnread, PageInput}
use Rattle.run_model.specs.Registers.{AllRegisters, Known}
use Rattle.run_model.specs.Registers.Capped.{Capped}
use Rattle.run_model.specs.PageEvents.{PageEvent}
use Rattle.run_model.specs.Run.{State, Leads, after, known_at}
use Rattle.run_model.specs.Run.Counts.{counts_in, first_passed}
use Rattle.run_model.specs.Stages.{Stage, Turned, stage_of}
use Rattle.roff_scan.specs.Unread.Runs.{with_stage_of}
use Rattle.read_shortcuts.specs.Stages.{ReadsPast}
use Rattle.run_model.specs.TurnsToCome.{begun, turns_within}
use Rattle.run_model.specs.declared.line_state.LineState.{LineState}
use Rattle.run_model.proofs.InputCounts.{IsWithin-allowed, first_passed-few_names}
use Rattle.run_model.proofs.ItemsTaken.{IsOpenFor, Origin, ahead_at, tape_at}
use Rattle.run_model.proofs.PlainRuns.{behind_bytes, counted, is-run_at, run_at}
use Rattle.read_lines.proofs.TakesAs.{few_names, short_title}
use Rattle.read_shortcuts.proofs.TurnedRuns.{FitsAt, Turned-none, after-Turned, input-passed, stage_input, stage_input-counted, turns_left-turned}
use Rattle.run_turns.specs.declared.running.Running.{Running as Coded}
use Rattle.run_items.specs.Outcome.{Beginning, Seen, seen}
use Rattle.run_turns.specs.Running.Turning.{GoesPast, IsAt, line_turns, lines_left_in, state_at, turns_left, turns_of_run}
use Rattle.page_bytes.specs.Sinks.{Sunk}
use Rattle.run_items.proofs.Fronts.{few-none}
use Rattle.run_shortcuts.proofs.BytesPassed.{goes_past-passed}
use Rattle.run_items.proofs.FewRead.{none-read}
use Rattle.run_shortcuts.proofs.GoingPast.{IsAt-leads}
use Rattle.run_items.specs.Room.{FewFor}
use Rattle.input_model.specs.Input.Few.{AreFew, AreFewFrom}
use Rattle.run_turns.proofs.TurnsLeft.{turns_of_run-fewer, turns_of_run-no_more}

-- the code where this is read
abbrev reads : Coded → LineState → PageInput → Coded
reads old reading input = record old {
  unread = record old.unread { input = input };
  interpreter = record old.interpreter { reader = record old.interpreter.reader { reading = reading } };
}

-- bytes from there lead to it
pub record ReadFrom (from : Origin) (bytes : List ℕ) (old : Coded) (reading : LineState) (input : PageInput) : Type 0 where
  pub turned : Turned old.unread.input.names (stage_of old.interpreter.reader.reading old.unread.input) bytes (stage_of reading input)
  pub ahead : old.unread.input.ahead ≡ ahead_at from bytes
  pub leads : stage_input old.unread.input.names (stage_of reading input) from [] (behind_bytes from bytes old.unread.input) ≡ input
  pub charged : old.unread.input.charge + length bytes ≤ old.unread.limits.bytes
  pub within : input_refusal old.unread.limits input ≡ None

-- so few events stand in front behind them
few-turned : (from : Origin) (bytes : List ℕ) (old : Coded) (reading : LineState) (input : PageInput) → ReadFrom from bytes old reading input
    → FewFor [] old.interpreter.reader.reading old.unread.input.escapes old.unread.input.ahead → FewFor [] reading input.escapes input.ahead
few-turned from [] old reading input read few =
    let none : stage_of old.interpreter.reader.reading old.unread.input ≡ stage_of reading input = Turned-none _ _ _ [] refl read.turned in
    subst (λ (p : Stage). FewFor [] p.reading p.escapes input.ahead) none
    (subst (FewFor [] old.interpreter.reader.reading old.unread.input.escapes) (read.ahead ∙ ap (λ (j : PageInput). j.ahead) read.leads) few)
few-turned from (b ∷ bytes) old reading input read few =
    few-none [] reading input.escapes input.ahead
    (subst (λ (items : List (Ahead PageEvent)). AreFewFrom 0 items) (ap (λ (j : PageInput). j.ahead) read.leads)
    (none-read from b bytes (subst (λ (items : List (Ahead PageEvent)). AreFew items) read.ahead few.few))) (λ keeps is. refl)

-- so the run is at its place behind them, over what is left of the tape
IsAt-turned : (whole : Beginning) (t taken : Tape) (start now : Seen) (old : Coded) (reading : LineState) (input : PageInput) (from : Origin) (bytes : List ℕ)
    → IsOpenFor from (is_closed old.unread.looked) → ReadFrom from bytes old reading input → looked_then old.unread.looked taken ≡ tape_at from bytes (looked_then old.unread.looked taken)
    → tape_at from [] (looked_then old.unread.looked taken) ≡ looked_then old.unread.looked t
    → IsAt whole taken start now old → IsAt whole t start now (reads old reading input)
IsAt-turned whole t taken start now old reading input from bytes is_open read asked left at =
    let i : PageInput = old.unread.input in
    let l : Limits = old.unread.limits in
    let rs : AllRegisters = old.interpreter.reader.registers.all in
    let p : Stage = stage_of old.interpreter.reader.reading i in
    let q : Stage = stage_of reading input in
    let s : State = state_at taken old at.history at.messages in
    let there : State = state_at t (reads old reading input) at.history at.messages in
    let ready : IsReady old.interpreter.reader.registers old.unread = at.ready in
    let fits : first_passed l (counts_in rs input) ≡ None =
    first_passed-few_names l rs input (few_names old.interpreter.reader.registers old.unread ready) (short_title old.interpreter.reader.registers old.unread ready) ∙ read.within in
    let before : FitsAt l rs i.names p from bytes i =
    subst (λ (items : List (Ahead PageEvent)). first_passed l (counts_in rs (record i { ahead = items })) ≡ None) read.ahead ready.within in
    let behind : FitsAt l rs i.names q from [] (behind_bytes from bytes i) =
    subst (λ (j : PageInput). first_passed l (counts_in rs j) ≡ None) (sym read.leads) fits in
    let stands : run_at s i.names p from bytes i ≡ s = is-run_at s from bytes p refl refl refl refl read.ahead asked in
    let comes : after l (length bytes) (run_at s i.names p from bytes i) ≡ run_at s i.names q from [] (behind_bytes from bytes i) =
    after-Turned l s i.names from p q bytes i (record { going = refl; is_open = is_open; idle = refl; unsprung = refl }) read.turned read.charged before behind in
    let is : run_at s i.names q from [] (behind_bytes from bytes i) ≡ there =
    ap (λ (j : PageInput). record s { tape = tape_at from [] s.tape; input = j; reading = reading }) read.leads
    ∙ ap (λ (tape : Tape). record s { tape = tape; input = input; reading = reading }) left in
    let leads : Leads l s there = record { steps = length bytes; there = ap (after l (length bytes)) (sym stands) ∙ comes ∙ is } in
    IsAt-leads whole taken t start now old (record old.interpreter { reader = record old.interpreter.reader { reading = reading } }) (record old.unread { input = input }) at.history at
    (subst (λ (k : Limits). Leads k s there) at.limits leads) refl at.stands (record { cap = ready.cap; line = ready.line; within = fits }) at.limits
    (few-turned from bytes old reading input read at.few)

-- fewer turns are to come, by one for each byte
turns-read : (old : Coded) (reading : LineState) (input : PageInput) (from : Origin) (bytes : List ℕ) → ReadFrom from bytes old reading input
    → turns_left (reads old reading input) + length bytes ≤ turns_left old
turns-read old reading input from bytes read =
    let i : PageInput = old.unread.input in
    let most : ℕ = old.unread.limits.bytes in
    let p : Stage = stage_of old.interpreter.reader.reading i in
    let q : Stage = stage_of reading input in
    let k : Known = known_at [] old.interpreter.reader.registers.all i in
    let few : turns_within most (stage_input i.names q from [] (behind_bytes from bytes i)) + begun reading + length bytes
    ≤ turns_within most (stage_input i.names p from bytes i) + begun p.reading = turns_left-turned most k i.names from p q bytes i read.turned read.charged in
    let fewer : turns_within most (stage_input i.names q from [] (behind_bytes from bytes i)) + begun reading + length bytes ≤ turns_left old =
    subst
    (λ (items : List (Ahead PageEvent)). turns_within most (stage_input i.names q from [] (behind_bytes from bytes i)) + begun reading + length bytes ≤ turns_within most (record i { ahead = items }) + begun p.reading)
    (sym read.ahead) few in
    subst (λ (j : PageInput). turns_within most j + begun reading + length bytes ≤ turns_left old) read.leads fewer

-- so no more are to come of the run
turns-reads : (old : Coded) (reading : LineState) (input : PageInput) (from : Origin) (bytes : List ℕ) → ReadFrom from bytes old reading input
    → turns_of_run (reads old reading input) ≤ turns_of_run old
turns-reads old reading input from [] read =
    let none : stage_of old.interpreter.reader.reading old.unread.input ≡ stage_of reading input = Turned-none _ _ _ [] refl read.turned in
    let few = turns-read old reading input from [] read in
    turns_of_run-no_more old (reads old reading input) (omega (arith, few)) refl
    (ap (λ (p : Stage). line_turns p.reading (lines_left_in old.interpreter.formatter.composer)) (sym none))
turns-reads old reading input from (b ∷ bytes) read =
    let few = turns-read old reading input from (b ∷ bytes) read in
    let fewer = turns_of_run-fewer old (reads old reading input) (omega (arith, few)) refl in
    omega (arith, fewer)

-- bytes that were read past
module _ (gave gives : Tape → Type 0) (old : Coded) (after : PageUnread) (new : ReaderState) (past : ReadsPast gave gives old.interpreter.reader new old.unread after) where
  abbrev i : PageInput
  i = old.unread.input

  -- the input behind them, but for what is read
  abbrev passed : PageUnread
  passed = record after { input = with_stage_of i after.input }

  -- the code behind them
  abbrev behind : ReaderState → PageUnread → Coded
  behind reader u = record old { unread = u; interpreter = record old.interpreter { reader = reader } }

  -- they lead there, wherever they came from
  reads-passed : (from : Origin) → i.ahead ≡ ahead_at from past.bytes → i.charge + length past.bytes ≤ old.unread.limits.bytes
      → passed ≡ record old.unread { input = counted from past.bytes i } → ReadFrom from past.bytes old new.reading after.input
  reads-passed from ahead charged is =
      let same : with_stage_of i after.input ≡ counted from past.bytes i = ap (λ (u : PageUnread). u.input) is in
      let limits : after.limits ≡ old.unread.limits = ap (λ (u : PageUnread). u.limits) is in
      record {
        turned = past.turned;
        ahead = ahead;
        leads = stage_input-counted i.names (stage_of new.reading after.input) from past.bytes i ∙ sym (input-passed new.reading i after.input from past.bytes same);
        charged = charged;
        within = subst (λ (l : Limits). input_refusal l after.input ≡ None) limits (IsWithin-allowed after past.within);
      }

  -- the code is the one where that is read
  as_read : (Q : Coded → Type 0) (input : PageInput) → passed ≡ record old.unread { input = input } → Q (reads old new.reading after.input) → Q (behind new after)
  as_read Q input is read =
      let kept : new ≡ record old.interpreter.reader { reading = new.reading } =
      ap (λ (registers : Capped). record new { registers = registers }) past.registers
      ∙ ap (λ (m : MeaningKept). record new { registers = old.interpreter.reader.registers; meaning = m }) past.meaning in
      subst (λ (u : PageUnread). Q (behind new u)) (sym (ap (λ (u : PageUnread). record u { input = after.input }) is))
      (subst (λ (r : ReaderState). Q (behind r (record old.unread { input = after.input }))) (sym kept) read)

  -- the run goes past them, as the source counts
  goes_past_read : (noted notes failed failures : ℕ) (out err : Sunk) → notes ≤ noted → failures ≡ failed
      → GoesPast false gave gives noted notes old (behind new after) (seen failed out err) (seen failures out err)
  goes_past_read noted notes failed failures out err fewer same =
      goes_past-passed false gave gives noted notes failed failures out err past.bytes old (behind new after) passed refl
      (λ whole t taken start now from is_open ahead charged is asked left at.
      as_read (λ run. IsAt whole t start now run) (counted from past.bytes i) is
      (IsAt-turned whole t taken start now old new.reading after.input from past.bytes is_open (reads-passed from ahead charged is) asked left at))
      (λ from ahead charged is h stood.
      as_read (λ run. turns_of_run run ≤ turns_of_run old) (counted from past.bytes i) is
      (turns-reads old new.reading after.input from past.bytes (reads-passed from ahead charged is))) past.passes fewer same

pub goes_past_turned : (gave gives : Tape → Type 0) (noted notes failed failures : ℕ) (out err : Sunk) (old : Coded) (after : PageUnread) (new : ReaderState)
    → ReadsPast gave gives old.interpreter.reader new old.unread after → notes ≤ noted → failures ≡ failed
    → GoesPast false gave gives noted notes old (record old { unread = after; interpreter = record old.interpreter { reader = new } }) (seen failed out err) (seen failures out err)
goes_past_turned gave gives noted notes failed failures out err old after new past fewer same =
    goes_past_read gave gives old after new past noted notes failed failures out err fewer same
