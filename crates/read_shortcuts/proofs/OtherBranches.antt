-- Runs over bytes whose last one changes the input: those in front of it lead from stage to stage.
use Rattle.std.proofs.Common.{◌≡◌, ℕ, ◌+◌, ◌≤◌, Bool, false, List, [], ◌∷◌, ◌++◌, length, Option, Some, None, refl, ap, sym, subst, ◌∙◌, arith, if◌then◌else◌}
use Rattle.roff_num.specs.declared.limit.Limit.{Limit}
use Rattle.roff_num.specs.declared.limits.Limits.{Limits}
use Rattle.roff_num.specs.declared.short_name.ShortName.{ShortName}
use Rattle.input_escapes.specs.Waiting.{is_ended_by}
use Rattle.input_model.specs.Arguments.{Arguments}
use Rattle.input_model.specs.Input.Calls.{last_result, without_last}
use Rattle.read_names.specs.NamesRead.{LeadsToElse}
use Rattle.input_model.specs.Unread.{IsWithin}
use Rattle.read_lines.specs.Reader.State.{ReaderState}
use Rattle.roff_scan.specs.Unread.Calls.{NoNewline, PassesFront, front_bytes}
use Rattle.input_source.specs.Bytes.{is_dropped}
use Rattle.input_source.specs.Tape.{Tape}
use Rattle.roff_store.specs.Named.{Named}
use Rattle.roff_store.specs.Texts.{Entry}
use Rattle.run_model.proofs.ItemsTaken.{IsOpenFor, Origin, ahead_at, not-first, not-second, taken_as-going_on, tape_at}
use Rattle.run_model.proofs.NameBytes.{turns-first}
use Rattle.run_model.proofs.PlainRuns.{behind_byte, behind_bytes, counted, run_at}
use Rattle.run_model.specs.Reading.{byte_taking, undropped_taking}
use Rattle.run_model.specs.Reading.Branches.{branch_of, reads_else}
use Rattle.run_model.specs.Reading.ControlLines.{BelongsToName, behind_called, ends_name, name_ended_taking, name_whole_taking}
use Rattle.run_model.specs.Reading.Ends.{due}
use Rattle.run_model.specs.Reading.Items.{PageInput, PageUnread, Taking, going_on}
use Rattle.run_model.specs.Registers.{Known}
use Rattle.run_model.specs.Requests.{called_by}
use Rattle.run_model.specs.Run.{Leads, State, nothing_follows, known, made, step, taken_as, unless_refused}
use Rattle.run_model.specs.Run.Counts.{counts_in, first_passed}
use Rattle.run_model.specs.Stages.{Here, Onward, Stage, Turned, held_at, input_at, stage_of}
use Rattle.run_model.specs.declared.line_state.LineState.{LineState}
use Rattle.run_model.specs.declared.line_state.LineState.TheVariants.{Control, Name}
use Rattle.read_shortcuts.specs.ControlFronts.{BeginsControl, control_byte}
use Rattle.read_shortcuts.specs.OtherBranches.{StandsOther, TakesOther}
use Rattle.read_shortcuts.specs.declared.control.ControlFront.{ControlFront}
use Rattle.read_shortcuts.proofs.ConstantConditions.{no_newline-blank}
use Rattle.read_shortcuts.proofs.ControlFronts.{stage_with}
use Rattle.read_shortcuts.proofs.PuttingRuns.{before_byte, input-last, leads-last}
use Rattle.read_shortcuts.proofs.TurnedRuns.{IsGoing, stage_input, step-byte}

-- what is done at a stage's byte: the input changes to this, and that is read
pub record Changes (names : Named Entry) (q : Stage) (b : ℕ) (change : PageInput → PageInput) (there : PageInput → LineState) : Type 0 where
  pub none_due : due q.reading ≡ None
  pub stays : is_ended_by q.escapes (Some b) ≡ false
  pub does : (k : Known) (i : PageInput) → let j : PageInput = input_at names q i in byte_taking k q.reading j b ≡ going_on (change j) (there j)

module _ (change : PageInput → PageInput) (there : PageInput → LineState) where
  -- the step at such a byte
  step-changed : (l : Limits) (s : State) (names : Named Entry) (from : Origin) (q : Stage) (b : ℕ) (j : PageInput)
      → IsGoing from s → Changes names q b change there → j.charge + 1 ≤ l.bytes
      → first_passed l (counts_in s.registers (change (stage_input names q from [] (behind_byte from b j)))) ≡ None
      → let behind : PageInput = stage_input names q from [] (behind_byte from b j) in
      step l (run_at s names q from (b ∷ []) j) ≡ record s { tape = tape_at from [] s.tape; input = change behind; reading = there behind }
  step-changed l s names from q b j on changes few fits =
      let before : State = run_at s names q from (b ∷ []) j in
      let taken : State = run_at s names q from [] (behind_byte from b j) in
      let all : PageInput = record (behind_byte from b j) { ahead = ahead_at from [] } in
      let behind : PageInput = input_at names q all in
      step-byte l s names from q b [] j on changes.none_due changes.stays few
      ∙ ap (λ (t : Taking). made l before (taken_as t taken)) (changes.does (known taken) all)
      ∙ ap (made l before) (taken_as-going_on (change behind) (there behind) taken)
      ∙ ap (λ (r : Option Limit). unless_refused l r before (record taken { input = change behind; reading = there behind })) fits

  -- a run leads over bytes of which the last one does so, where no count is above its limit in front of them and behind them
  pub leads-changed : (l : Limits) (s : State) (from : Origin) (front : List ℕ) (b : ℕ) (q : Stage) → s.ended ≡ None → s.to_do ≡ [] → s.follows ≡ nothing_follows → IsOpenFor from s.is_closed
      → Turned s.input.names (stage_of s.reading s.input) front q → Changes s.input.names q b change there → held_at q ≤ held_at (stage_of s.reading s.input) → q.texts ≡ s.input.open_texts
      → s.input.ahead ≡ ahead_at from (front ++ b ∷ []) → s.tape ≡ tape_at from (front ++ b ∷ []) s.tape → s.input.charge + length (front ++ b ∷ []) ≤ l.bytes
      → first_passed l (counts_in s.registers s.input) ≡ None
      → let behind : PageInput = input_at s.input.names q (counted from (front ++ b ∷ []) s.input) in
      first_passed l (counts_in s.registers (change behind)) ≡ None → Leads l s (record s { tape = tape_at from [] s.tape; input = change behind; reading = there behind })
  leads-changed l s from front b q going idle unsprung is_open turned changes held texts ahead tape charged within fits =
      let i : PageInput = s.input in
      let j : PageInput = behind_bytes (before_byte from b) front i in
      let behind : PageInput = input_at i.names q (counted from (front ++ b ∷ []) i) in
      let is : stage_input i.names q from [] (behind_byte from b j) ≡ behind = input-last i.names q from (front ++ b ∷ []) front b i refl in
      leads-last l s (record s { tape = tape_at from [] s.tape; input = change behind; reading = there behind }) from (front ++ b ∷ []) front b q
      going idle unsprung is_open refl turned held texts ahead tape charged within
      (λ on few.
      step-changed l s i.names from q b j on changes few (subst (λ (k : PageInput). first_passed l (counts_in s.registers (change k)) ≡ None) (sym is) fits)
      ∙ ap (λ (k : PageInput). record s { tape = tape_at from [] s.tape; input = change k; reading = there k }) is)

module _ (names : Named Entry) (breaks : Bool) (first second : ℕ) (a : Arguments) (texts : List (List ℕ)) where
  -- in front of the last byte of a name
  abbrev pub naming : Stage
  naming = stage_with (Name breaks first) [] a texts

  pub turned-naming : (reading : LineState) → due reading ≡ None → BeginsControl reading → BelongsToName first
      → Turned names (stage_with reading [] a texts) (control_byte breaks ∷ first ∷ []) naming
  turned-naming reading none_due begins named =
      let p : Stage = stage_with reading [] a texts in
      let control : Stage = stage_with (Control breaks) [] a texts in
      Onward p control naming (control_byte breaks) (first ∷ []) none_due refl (λ k i. begins k (input_at names p i) breaks refl) refl (omega arith) (omega arith)
      (Onward control naming naming first [] refl refl (turns-first names a texts breaks first named) refl (omega arith) (omega arith) (Here naming))

  -- behind it the other branch is read, or skipped
  pub changes-other : BelongsToName second → LeadsToElse (λ i. behind_called i breaks (called_by (record { first = first; second = Some second }) names))
      → Changes names naming second without_last (λ i. branch_of (reads_else (last_result i)))
  changes-other belongs leads = record {
    none_due = refl;
    stays = refl;
    does = λ k i.
        let here : PageInput = input_at names naming i in
        let name : ShortName = record { first = first; second = Some second } in
        ap (λ (c : Bool). if c then going_on here (Name breaks first) else undropped_taking k (Name breaks first) here second) (not-first (is_dropped second) (ends_name second) belongs)
        ∙ ap (λ (c : Bool). if c then name_ended_taking k here breaks (record { first = first; second = None }) second else name_whole_taking here breaks name)
        (not-second (is_dropped second) (ends_name second) belongs)
        ∙ leads here;
  }

-- no newline is among the bytes of its front
pub other-plain : (front : ControlFront) (reading : LineState) (ready : List ℕ) (u : PageUnread) → StandsOther front reading ready u → NoNewline (front_bytes 3 ready u)
other-plain front reading ready u other =
    let plain = no_newline-blank front.breaks front.first front.second other.named.named_first other.named.named_second in
    subst NoNewline other.stands.are (plain.0, (plain.1.0, (plain.1.1.0, tt)))

-- it was taken, and with it a result that was kept
pub takes-other : (gave gives : Tape → Type 0) (r new : ReaderState) (front : ControlFront) (ready : List ℕ) (before passed after : PageUnread) (kept : Option Bool) (so : Bool)
    → StandsOther front r.reading ready before → PassesFront gave gives (front_bytes 3 ready before) before passed → kept ≡ last_result passed.input
    → after ≡ record passed { input = without_last passed.input } → so ≡ reads_else kept → IsWithin after → new ≡ record r { reading = branch_of so } → TakesOther gave gives r new before after
takes-other gave gives r new front ready before passed after kept so other passes last changed is within reads = record {
  breaks = front.breaks;
  first = front.first;
  second = front.second;
  named = other.named;
  passed = passed;
  passes = subst (λ (bytes : List ℕ). PassesFront gave gives bytes before passed) (sym other.stands.are) passes;
  is = changed;
  reads = reads ∙ ap (λ (s : Bool). record r { reading = branch_of s }) (is ∙ ap reads_else last);
  within = within;
}
