-- What the code does with an event that was put back.
use Rattle.std.proofs.Common.{◌≡◌, ℕ, ◌-◌, List, [], ◌∷◌, ◌++◌, length, Option, None, Result, Ok, Err, OnOk, refl, ap, append-nil, ◌∙◌}
use Rattle.roff_num.specs.declared.limit.Limit.{Limit}
use Rattle.roff_num.specs.declared.limit.Limit.TheVariants.{Names, Line, Stack, Depth, Store, Diversions, Conditions}
use Rattle.roff_num.specs.declared.limits.Limits.{Limits}
use Rattle.input_model.specs.Input.{depth, result_count}
use Rattle.input_model.specs.Input.Names.{names_added, stored}
use Rattle.run_items.specs.declared.interpreter.Interpreter.{Interpreter}
use Rattle.run_events.specs.declared.halt.Halt.{Halt}
use Rattle.run_events.specs.declared.halt.Halt.TheVariants.{Limit as Limited, Refused, Over, Output, Messages}
use Rattle.run_items.specs.Outcome.{Beginning, Seen}
use Rattle.run_items.specs.Performing.{ComesTo, TakingDone, DoesTaking, PerformsAll, going, sinks}
use Rattle.run_events.specs.declared.sprung.Sprung.{Sprung}
use Rattle.page_bytes.specs.Sinks.{Sunk}
use Rattle.run_state.specs.declared.composer.Composer.{Composer as ComposerOf}
use Rattle.run_model.specs.Output.{PageHistory}
use Rattle.run_model.specs.Reading.Items.{PageUnread, PageInput, Taking, going_on}
use Rattle.run_model.specs.Reading.Units.{interrupted, settling}
use Rattle.run_model.specs.Registers.{AllRegisters, Known}
use Rattle.run_model.specs.Run.{State, initial, known_at, step, taken_as, unless_refused, grown}
use Rattle.run_model.specs.Run.Counts.{counts_in, first_passed}
use Rattle.run_model.specs.PageEvents.{PageEvent}
use Rattle.run_model.specs.declared.line_state.LineState.{LineState}
use Rattle.run_model.specs.declared.line_state.LineState.TheVariants.{Collecting}
use Rattle.run_model.specs.declared.purpose.Purpose.TheVariants.{Arguments as InArguments, StringName, Calling}
use Rattle.run_model.proofs.InputCounts.{pushed-settling}
use Rattle.run_model.proofs.Keeping.{Keeps-interrupted}
use Rattle.run_model.proofs.Leads.{Leads-to}
use Rattle.run_model.specs.TitleTexts.{title_length}

-- nothing that is counted grows where no quote follows the quote before
counts_in-settling : (rs : AllRegisters) (i : PageInput) → counts_in rs (settling i) ≡ counts_in rs i
counts_in-settling rs i =
    let first : List (Limit × ℕ) → List (Limit × ℕ) = λ rest.
    (Names, length rs.named) ∷ (Line, title_length rs.title) ∷ (Store, stored i) ∷ (Names, names_added i) ∷ (Diversions, length i.open_texts - 1) ∷ rest in
    ap (λ bytes. first ((Stack, bytes) ∷ (Depth, depth i) ∷ (Conditions, result_count i) ∷ [])) (pushed-settling i)

-- nor where something that isn't a byte of the line has come
counts_in-interrupted : (rs : AllRegisters) (reading : LineState) (i : PageInput) → counts_in rs (interrupted reading i) ≡ counts_in rs i
counts_in-interrupted rs (Collecting (InArguments breaks request)) i = counts_in-settling rs i
counts_in-interrupted rs (Collecting (StringName appends)) i = counts_in-settling rs i
counts_in-interrupted rs (Collecting (Calling name)) i = counts_in-settling rs i
counts_in-interrupted rs (_) i = refl

-- so no limit refuses what it didn't refuse before
within-interrupted : (l : Limits) (rs : AllRegisters) (reading : LineState) (i : PageInput)
    → first_passed l (counts_in rs i) ≡ None → first_passed l (counts_in rs (interrupted reading i)) ≡ None
within-interrupted l rs reading i within = ap (first_passed l) (counts_in-interrupted rs reading i) ∙ within

-- an event that was put back does as the taking of nothing, with that event to perform
abbrev pub event_taking : LineState → PageInput → Known → Taking
event_taking reading i k = going_on (interrupted reading i) reading

-- how far the code came with events is how far it did what means them
pub TakingDone-came : (l : Limits) (t : Beginning) (start now : Seen) (from done : State) (events : List PageEvent) (h : PageHistory) (kept rest : List PageEvent) (r : Result (Option Sprung) Halt) (es : ComposerOf)
    → ComesTo l t start now done events h kept rest r es → TakingDone l t start now from done events h kept rest r es
TakingDone-came l t start now from done events h kept rest (Ok sprung) es p = p
TakingDone-came l t start now from done events h kept rest (Err (Limited limit)) es p = p
TakingDone-came l t start now from done events h kept rest (Err Output) es p = p
TakingDone-came l t start now from done events h kept rest (Err Over) es p = p
TakingDone-came l t start now from done events h kept rest (Err Messages) es p = absurd p
TakingDone-came l t start now from done events h kept rest (Err (Refused limit)) es p = absurd p

-- a fact is one of an answer that goes on
pub OnOk-fact : {A F : Type 0} (r : Result A F) (P : Type 0) → P → OnOk r P
OnOk-fact (Ok x) P fact = fact
OnOk-fact (Err e) P fact = tt

-- what is performed of an event that was put back is done of its taking
pub event_does : (event : PageEvent) (old new : Interpreter) (before behind : PageUnread) (out_old out_new err : Sunk) (r : Result (Option Sprung) Halt)
    → behind ≡ record before { input = interrupted old.reader.reading before.input }
    → PerformsAll (event ∷ []) old new out_old out_new r
    → DoesTaking (event_taking old.reader.reading before.input) (event ∷ []) old new before behind (sinks out_old err) (sinks out_new err) r
event_does event old new before behind out_old out_new err r input performs = record {
  became = λ l h stands ready. OnOk-fact r _ (record {
    input = input;
    reading = performs.reader.reading;
    registers = performs.reader.registers;
    within = within-interrupted before.limits old.reader.registers.all old.reader.reading before.input ready.within;
  });
  does = λ t0 start failures from tape h messages phase closed rest stands ready reaches opens.
      let done : State =
      taken_as (event_taking old.reader.reading before.input (known_at h old.reader.registers.all before.input))
      (going tape before.input old.reader.reading old.reader.registers.all h messages phase closed (event ∷ rest)) in
      let allowed : first_passed before.limits (grown done) ≡ None =
      within-interrupted before.limits old.reader.registers.all old.reader.reading before.input ready.within in
      let step_is : step before.limits from ≡ done = opens.opens ∙ ap (λ (o : Option Limit). unless_refused before.limits o from done) allowed in
      TakingDone-came before.limits t0 start _ from done (event ∷ []) h new.reader.meaning.events rest r new.formatter.composer
      (performs.all before.limits t0 start failures err done h rest stands refl (record {
        comes = Leads-to before.limits (initial before.limits t0.start t0.tape) from done reaches.comes step_is;
        text = rw (← opens.wrote) reaches.text;
        messages = rw (append-nil (messages ++ []), append-nil messages, ← opens.said) reaches.messages;
        faults = reaches.faults;
        room = rw (append-nil (messages ++ []), append-nil messages, ← opens.said) reaches.room;
      }));
}

-- the line stays where no quote follows
pub line-interrupted : (reading : LineState) (i : PageInput) → (interrupted reading i).line ≡ i.line
line-interrupted reading i = (Keeps-interrupted reading i).line
