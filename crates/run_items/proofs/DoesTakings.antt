-- What the code takes: the definition's step to what a taking means, what was done of it, and limits that refuse it.
use Rattle.std.proofs.Common.{◌≡◌, ℕ, Bool, List, [], ◌++◌, Option, None, Some, Result, Ok, Err, OnOk, ap, append-nil, refl, subst, sym, ◌∙◌}
use Rattle.roff_num.specs.declared.limit.Limit.{Limit}
use Rattle.roff_num.specs.declared.limits.Limits.{Limits}
use Rattle.input_source.specs.Tape.{Tape}
use Rattle.run_items.specs.declared.interpreter.Interpreter.{Interpreter}
use Rattle.run_events.specs.declared.halt.Halt.{Halt}
use Rattle.run_events.specs.declared.halt.Halt.TheVariants.{Refused}
use Rattle.run_items.specs.Outcome.{Beginning, Reaches, Seen, seen}
use Rattle.run_items.proofs.Bounded.{told_step-quiet}
use Rattle.run_events.specs.Formatter.Performing.{acting}
use Rattle.run_items.specs.Performing.{TakingDone, KeepsReading, MeaningDone, DoesMeaning, DoesTaking, Means, Opens, RefusedAt, Sinks, going}
use Rattle.run_state.specs.Composer.Standing.{StandFor}
use Rattle.run_state.specs.declared.composer.Composer.{Composer as ComposerOf}
use Rattle.run_model.specs.Output.{PageHistory}
use Rattle.read_lines.specs.Reader.Taken.{CameTo, IsReady, TakesAs}
use Rattle.run_events.specs.declared.sprung.Sprung.{Sprung}
use Rattle.run_model.specs.Reading.Items.{PageUnread, PageInput, Taking}
use Rattle.run_model.specs.Registers.{AllRegisters, Known, changed_by_all}
use Rattle.run_model.specs.Registers.Capped.{Capped}
use Rattle.run_model.specs.Run.{State, known_at, taken_as, unless_refused}
use Rattle.run_model.specs.Run.Counts.{counts_in, first_passed}
use Rattle.run_model.specs.Events.Steps.{events_of, messages_of}
use Rattle.run_model.specs.PageEvents.{PageEvent}
use Rattle.run_model.specs.declared.step.Step.{Step}
use Rattle.run_model.specs.declared.message.Message.{Message}
use Rattle.run_model.specs.declared.phase.Phase.{Phase}
use Rattle.run_model.specs.declared.line_state.LineState.{LineState}

-- what holds of a success anyway
on_ok : {T E P : Type 0} (r : Result T E) → P → OnOk r P
on_ok (Ok x) p = p
on_ok (Err e) p = tt

-- one step from a state leads to what a taking means, unless a count would be above its limit there
module _ (l : Limits) (from : State) (tape : Tape) (i : PageInput) (reading : LineState) (rs : AllRegisters) (h : PageHistory) (messages : List ℕ) (phase : Phase) (is_closed : Bool) (to_do : List PageEvent) (t : Taking)
    (opens : Opens l from (taken_as t (going tape i reading rs h messages phase is_closed to_do)) h messages) where
  -- no count is, and the step means what the taking means
  pub means_taken : (line : ℕ) (told : List Message) (events : List PageEvent) → first_passed l (counts_in (changed_by_all t.effect.changes rs) t.input) ≡ None
      → line ≡ t.input.line → told ≡ t.effect.messages → events ≡ t.effect.events
      → Means l from (taken_as t (going tape i reading rs h messages phase is_closed to_do)) h line told events to_do
  means_taken line told events within is_line are_messages are_events =
      let done = taken_as t (going tape i reading rs h messages phase is_closed to_do) in record {
        opens = opens.opens ∙ (ap (λ r. unless_refused l r from done) within ∙ ap (λ (es : List PageEvent). acting done (es ++ to_do) h) (sym are_events));
        goes_on = opens.goes_on;
        wrote = opens.wrote;
        said = rw (opens.said, is_line, are_messages, append-nil) refl;
        quiet = refl;
      }

  -- or one is, and a limit refuses the step
  pub taking_refused : (t0 : Beginning) (start now : Seen) (limit : Limit) → Reaches l t0 start now from
      → first_passed l (counts_in (changed_by_all t.effect.changes rs) t.input) ≡ Some limit → RefusedAt l t0 start now from limit
  taking_refused t0 start now limit reached past =
      let done = taken_as t (going tape i reading rs h messages phase is_closed to_do) in record {
        reaches = reached;
        goes_on = opens.goes_on;
        stops = told_step-quiet l from _ now.err.room opens.goes_on reached.room (opens.opens ∙ ap (λ r. unless_refused l r from done) past) refl;
      }

-- a limit refused what the code would take
pub refused_taking : (t : Known → Taking) (more : List PageEvent) (old new : Interpreter) (before behind : PageUnread) (told : Sinks) (limit : Limit)
    → TakesAs t old.formatter.composer old.reader new.reader before behind (Err limit) → DoesTaking t more old new before behind told told (Err (Refused limit))
refused_taking t more old new before behind told limit takes = record {
  became = λ l h stood ready. tt;
  does = λ t0 start failures from tape h messages phase is_closed rest stood ready reached opens.
      let k = known_at h old.reader.registers.all before.input in
      taking_refused before.limits from tape before.input old.reader.reading old.reader.registers.all h messages phase is_closed (more ++ rest) (t k) opens
      t0 start (seen failures told.out told.err) limit reached (takes.takes before.limits h stood ready);
}

-- the code took something, and has come to what it means
module _ (t : Known → Taking) (old mid : Interpreter) (before behind : PageUnread) (m : Step) (takes : TakesAs t old.formatter.composer old.reader mid.reader before behind (Ok m)) (same : mid.formatter.composer ≡ old.formatter.composer)
    (line : ℕ) (is_line : line ≡ behind.input.line) where
  -- where something was done of that, it became what it becomes
  became_taken : (new : Interpreter) (r : Result (Option Sprung) Halt) → KeepsReading mid new
      → (l : Limits) (h : PageHistory) → StandFor l h old.formatter.composer → IsReady old.reader.registers before
      → OnOk r (CameTo (t (known_at h old.reader.registers.all before.input)) old.reader.registers new.reader before behind)
  became_taken new r kept l h stood ready =
      let became = (takes.takes l h stood ready).became in
      on_ok r (record { input = became.input; reading = kept.reading ∙ became.reading; registers = kept.registers ∙ became.registers; within = became.within })

  -- what it means was done, as far as it was done
  done_taken : (new : Interpreter) (told_old told_new : Sinks) (r : Result (Option Sprung) Halt) → DoesMeaning line (messages_of mid.reader.meaning.message m) (events_of mid.reader.meaning.events m) mid new told_old told_new r
      → (t0 : Beginning) (start : Seen) (failures : ℕ) (from : State) (tape : Tape) (h : PageHistory) (messages : List ℕ) (phase : Phase) (is_closed : Bool) (to_do : List PageEvent)
      → StandFor before.limits h old.formatter.composer → IsReady old.reader.registers before
      → Reaches before.limits t0 start (seen failures told_old.out told_old.err) from
      → let state : State = taken_as (t (known_at h old.reader.registers.all before.input)) (going tape before.input old.reader.reading old.reader.registers.all h messages phase is_closed to_do) in
      Opens before.limits from state h messages → MeaningDone before.limits t0 start (seen failures told_new.out told_new.err) from state (t (known_at h old.reader.registers.all before.input)).effect.events h new.reader.meaning.events to_do r new.formatter.composer
  done_taken new told_old told_new r done t0 start failures from tape h messages phase is_closed to_do stood ready reached opens =
      let k = known_at h old.reader.registers.all before.input in
      let took = takes.takes before.limits h stood ready in
      let state : State = taken_as (t k) (going tape before.input old.reader.reading old.reader.registers.all h messages phase is_closed to_do) in
      subst (λ (es : List PageEvent). MeaningDone before.limits t0 start (seen failures told_new.out told_new.err) from state es h new.reader.meaning.events to_do r new.formatter.composer) took.events
      (done.does before.limits t0 start failures from _ h to_do (subst (λ (es : ComposerOf). StandFor before.limits h es) (sym same) stood)
      (sym (ap (λ (r : Capped). r.all) took.became.registers)) reached
      (means_taken before.limits from tape before.input old.reader.reading old.reader.registers.all h messages phase is_closed to_do (t k) opens
      line _ _ took.became.within (is_line ∙ ap (λ (u : PageUnread). u.input.line) took.became.input) took.messages took.events))

  -- it was done, and nothing more was to be done
  pub taking_done : (new : Interpreter) (told_old told_new : Sinks) (r : Result (Option Sprung) Halt) → DoesMeaning line (messages_of mid.reader.meaning.message m) (events_of mid.reader.meaning.events m) mid new told_old told_new r
      → DoesTaking t [] old new before behind told_old told_new r
  taking_done new told_old told_new r done = record {
    became = became_taken new r done.reader;
    does = λ t0 start failures from tape h messages phase is_closed rest stood ready reached opens.
        let k = known_at h old.reader.registers.all before.input in
        let state : State = taken_as (t k) (going tape before.input old.reader.reading old.reader.registers.all h messages phase is_closed rest) in
        subst (λ (es : List PageEvent). TakingDone before.limits t0 start (seen failures told_new.out told_new.err) from state es h new.reader.meaning.events rest r new.formatter.composer)
        (sym (append-nil (t k).effect.events))
        (done_taken new told_old told_new r done t0 start failures from tape h messages phase is_closed rest stood ready reached opens);
  }
