-- What the code does with an item that it took, as a step of the definition.
use Rattle.std.proofs.Common.{◌≡◌, ℕ, ◌+◌, ◌*◌, ◌-◌, List, [], ◌++◌, ◌≤◌, arith, length, Option, Some, None, Result, Ok, Err, OnOk, refl, subst, sym, ap, append-nil, ◌∙◌}
use Rattle.roff_num.specs.declared.limits.Limits.{Limits}
use Rattle.input_model.specs.Input.{Ahead}
use Rattle.input_escapes.specs.OpenEscape.{OpenEscape}
use Rattle.input_source.specs.Tape.{Tape}
use Rattle.input_model.specs.Looking.{is_closed, looked_then}
use Rattle.run_items.specs.declared.interpreter.Interpreter.{Interpreter}
use Rattle.run_events.specs.declared.halt.Halt.{Halt}
use Rattle.run_turns.specs.declared.running.Running.{Running as Coded}
use Rattle.run_items.specs.Outcome.{Beginning, Seen, Reaches, OutcomeOf, seen}
use Rattle.run_items.specs.Performing.{CameBehind, KeepsThem, TakingDone, DoesTaking, Opens, going, sinks}
use Rattle.run_model.specs.Springs.{AreFewBehind}
use Rattle.run_model.proofs.KeepingText.{StaysFew}
use Rattle.run_events.specs.Formatter.Sprung.{left_behind, most_back, rest_left}
use Rattle.run_model.specs.TurnsToCome.{most_left, begun, lines_left, phases_left, turns_to_come, turns_within}
use Rattle.run_items.specs.Room.{FewFor}
use Rattle.run_turns.specs.Running.Springing.{GoesOn, IsBehind, StoppedIn, Stops, turns_where}
use Rattle.run_events.specs.declared.sprung.Sprung.{Sprung}
use Rattle.run_turns.specs.Running.Turning.{DoesItem, TookFrom, line_turns, state_at, turns_at, turns_of_run}
use Rattle.run_items.specs.Halting.{Halts, line_told}
use Rattle.page_bytes.specs.Sinks.{Sunk}
use Rattle.run_state.specs.Composer.Standing.{StandFor}
use Rattle.run_model.specs.Output.{PageHistory}
use Rattle.read_lines.specs.Reader.Taken.{CameTo, IsReady}
use Rattle.run_model.specs.Reading.Items.{PageUnread, Taking}
use Rattle.run_model.specs.Registers.{Known}
use Rattle.run_model.specs.Run.{State, known_at, taken_as}
use Rattle.run_model.specs.PageEvents.{PageEvent}
use Rattle.run_model.specs.declared.line_state.LineState.{LineState}
use Rattle.run_model.specs.declared.phase.Phase.{Phase}
use Rattle.run_model.specs.declared.status.Status.{Status}
use Rattle.run_model.specs.Environments.{interrupted_line}
use Rattle.run_items.proofs.Halted.{IsLeftOf-looked_then, did_halt}
use Rattle.run_events.proofs.EventsLeft.{few-most}
use Rattle.run_items.proofs.Fronts.{few-put_back}

-- the state of the definition in which an item was taken, in this phase, with more to perform
abbrev pub ready_to_take : Tape → Coded → PageHistory → List ℕ → Phase → List PageEvent → State
ready_to_take tape run h messages phase more =
    going (looked_then run.unread.looked tape) run.unread.input run.interpreter.reader.reading run.interpreter.reader.registers.all h messages phase
    (is_closed run.unread.looked) (more ++ [])

-- what is taken, as the definition has it of a run that has performed this
abbrev pub taken_of : (Known → Taking) → Coded → PageHistory → Taking
taken_of f run h = f (known_at h run.interpreter.reader.registers.all run.unread.input)

-- what is done with the item is this taking, in this phase, with more to perform
abbrev pub IsTaking : (Known → Taking) → (State → State) → Phase → List PageEvent → Coded → Type 0
IsTaking f does phase more run =
    (tape : Tape) (h : PageHistory) (messages : List ℕ)
    → does (state_at tape run h messages) ≡ taken_as (taken_of f run h) (ready_to_take tape run h messages phase more)

-- events of which none stopped leave room, and so do those that one stopped
stopped-taken : (sprung : Option Sprung) (events : List PageEvent) (new : Coded) (before : List (Ahead PageEvent)) (h g : PageHistory)
    → FewFor events new.interpreter.reader.reading new.unread.input.escapes before → StaysFew before new.unread.input.ahead → most_back events ≤ 5
    → lines_left (interrupted_line g) ≤ most_left events (lines_left (interrupted_line h))
    → length (rest_left sprung new.interpreter.reader.meaning.events) ≤ most_back events
    → KeepsThem sprung new.interpreter.reader.meaning.events events new.interpreter.formatter.composer
    → StoppedIn sprung new g (most_left events (lines_left (interrupted_line h)))
stopped-taken None events new before h g few stays short lines left kept = record {
  few = few-put_back events [] new.interpreter.reader.reading new.unread.input.escapes before new.unread.input few stays (omega arith) short;
  lines = lines;
}
stopped-taken (Some sprung) events new before h g few stays short lines left kept =
    let reader = new.interpreter.reader in
    let P : List PageEvent → Type 0 = λ es.
    Stops sprung es new.interpreter.formatter.composer.due.sprung reader.reading new.unread.input.escapes new.unread.input.ahead
    (lines_left (interrupted_line g)) (most_left events (lines_left (interrupted_line h))) in
    subst P (sym kept.0) (record {
      named = kept.1;
      left = subst (λ (es : List PageEvent). length (left_behind sprung es) ≤ most_back events) kept.0 left;
      short = short;
      few = few-stays events reader.reading new.unread.input.escapes before new.unread.input.ahead few stays;
      first = h;
      lines = lines;
      most = omega arith;
    })
  where
    few-stays : (events : List PageEvent) (reading : LineState) (half : List OpenEscape) (before behind : List (Ahead PageEvent))
        → FewFor events reading half before → StaysFew before behind → FewFor events reading half behind
    few-stays events reading half before behind few stays = record {
      few = stays (5 - most_back events) (omega arith) few.few;
      decided = λ keeps is next.
          let none = few.decided keeps is next in
          (stays 0 (omega arith) none.0, none.1);
    }

-- the run stands behind the events of a taking, of which one may have stopped the others
abbrev most_of : List PageEvent → PageHistory → ℕ
most_of events h = most_left events (lines_left (interrupted_line h))

IsBehind-taken : (t : Beginning) (tape : Tape) (start now : Seen) (old new : Coded) (taken : Taking) (h : PageHistory) (messages : List ℕ) (phase : Phase) (more : List PageEvent) (sprung : Option Sprung)
    → CameTo taken old.interpreter.reader.registers new.interpreter.reader old.unread new.unread
    → new.limits ≡ old.limits → new.phase ≡ phase → old.unread.limits ≡ old.limits → IsReady old.interpreter.reader.registers old.unread
    → CameBehind old.limits t start now (taken_as taken (ready_to_take tape old h messages phase more)) (taken.effect.events ++ more) h new.interpreter.reader.meaning.events [] sprung new.interpreter.formatter.composer
    → AreFewBehind (taken.effect.events ++ more) → StaysFew old.unread.input.ahead taken.input.ahead
    → FewFor (taken.effect.events ++ more) taken.reading taken.input.escapes old.unread.input.ahead
    → IsBehind t tape start now sprung (most_of (taken.effect.events ++ more) h) new
IsBehind-taken t tape start now old new taken h messages phase more sprung became limits same kept ready came short stays few =
    let events : List PageEvent = taken.effect.events ++ more in
    let few_here : FewFor events new.interpreter.reader.reading new.unread.input.escapes old.unread.input.ahead =
    subst (λ (reading : LineState). FewFor events reading new.unread.input.escapes old.unread.input.ahead) (sym became.reading)
    (subst (λ (u : PageUnread). FewFor events taken.reading u.input.escapes old.unread.input.ahead) (sym became.input) few) in
    let stays_here : StaysFew old.unread.input.ahead new.unread.input.ahead =
    subst (λ (u : PageUnread). StaysFew old.unread.input.ahead u.input.ahead) (sym became.input) stays in record {
      history = came.history;
      messages = (taken_as taken (state_at tape old h messages)).messages;
      reaches = rw (limits, became.input, became.reading, became.registers, same) came.reaches;
      stands = subst (λ (l : Limits). StandFor l came.history new.interpreter.formatter.composer) (sym limits) came.stands;
      ready = record {
        cap = rw (became.registers, became.input) ready.cap;
        line = rw (became.registers, became.input) ready.line;
        within = rw (became.registers, became.input) became.within;
      };
      limits = rw (became.input, limits) kept;
      stopped = stopped-taken sprung events new old.unread.input.ahead h came.history few_here stays_here (few-most events short) came.lines came.few came.keeps;
    }

-- no more turns are to come of it than of that state
turns-behind : (tape : Tape) (old new : Coded) (taken : Taking) (h : PageHistory) (messages : List ℕ) (phase : Phase) (more : List PageEvent)
    → CameTo taken old.interpreter.reader.registers new.interpreter.reader old.unread new.unread
    → new.phase ≡ phase → old.unread.limits ≡ old.limits
    → turns_where new (most_of (taken.effect.events ++ more) h) ≤ turns_at old.limits.bytes (taken_as taken (ready_to_take tape old h messages phase more))
turns-behind tape old new taken h messages phase more became same kept =
    let of : PageUnread → LineState → ℕ → Phase → ℕ = λ u r left p. 4 * (turns_to_come u + begun r) + line_turns r left + phases_left p in
    let there : PageUnread = record old.unread { input = taken.input } in
    let events : List PageEvent = taken.effect.events in
    let left : ℕ = most_of (events ++ more) h in
    let within : Limits → List PageEvent → ℕ = λ k es.
    4 * (turns_within k.bytes taken.input + begun taken.reading) + line_turns taken.reading (most_of (events ++ es) h) + phases_left phase in
    let first : turns_where new left ≡ of there taken.reading left phase =
    ap (λ (u : PageUnread). of u new.interpreter.reader.reading left new.phase) became.input
    ∙ ap (λ (r : LineState). of there r left new.phase) became.reading
    ∙ ap (λ (p : Phase). of there taken.reading left p) same in
    let last : within old.unread.limits more ≡ within old.limits (more ++ []) =
    ap (λ (k : Limits). within k more) kept ∙ ap (λ (es : List PageEvent). within old.limits es) (sym (append-nil more)) in
    omega (arith, first, last)

-- The code takes what the definition does.
module _ (f : Known → Taking) (does : State → State) (phase : Phase) (more : List PageEvent) (line : ℕ) (old : Coded) (meant : IsTaking f does phase more old) where
  -- the state behind the taking
  abbrev done : Tape → PageHistory → List ℕ → State
  done tape h messages = taken_as (taken_of f old h) (ready_to_take tape old h messages phase more)

  -- the events that it means
  abbrev events_of : PageHistory → List PageEvent
  events_of h = (taken_of f old h).effect.events ++ more

  -- a step leads there
  opened : {t : Beginning} {tape : Tape} {start now : Seen} {from : State} → (took : TookFrom t tape start now line does from old)
      → Opens old.limits from (done tape took.history took.messages) took.history took.messages
  opened {t} {tape} {start} {now} {from} took =
      subst (λ (s : State). Opens old.limits from s took.history took.messages) (meant tape took.history took.messages) took.opens

  -- how far it came
  did : {out_old err_old out_new err_new : Sunk} (interpreter : Interpreter) (unread : PageUnread) (r : Result (Option Sprung) Halt)
      → DoesTaking f more old.interpreter interpreter old.unread unread (sinks out_old err_old) (sinks out_new err_new) r
      → (t : Beginning) (tape : Tape) (start : Seen) (failures : ℕ) (from : State)
      → (took : TookFrom t tape start (seen failures out_old err_old) line does from old)
      → TakingDone old.limits t start (seen failures out_new err_new) from (done tape took.history took.messages) (events_of took.history) took.history interpreter.reader.meaning.events [] r interpreter.formatter.composer
  did {out_old} {err_old} {out_new} {err_new} interpreter unread r takes t tape start failures from took =
      let h : PageHistory = took.history in
      let P : Limits → Type 0 = λ l. StandFor l h old.interpreter.formatter.composer
      → Reaches l t start (seen failures out_old err_old) from
      → Opens l from (done tape h took.messages) h took.messages
      → TakingDone l t start (seen failures out_new err_new) from (done tape h took.messages) (events_of h) h interpreter.reader.meaning.events [] r interpreter.formatter.composer in
      subst P took.limits
      (λ stands reaches opens. takes.does t start failures from (looked_then old.unread.looked tape) h took.messages phase (is_closed old.unread.looked) [] stands took.ready reaches opens)
      took.stands took.reaches (opened took)

  -- there is room for what is put back
  room_taken : {t : Beginning} {tape : Tape} {start now : Seen} {from : State} → (took : TookFrom t tape start now line does from old)
      → FewFor (events_of took.history) (taken_of f old took.history).reading (taken_of f old took.history).input.escapes old.unread.input.ahead
  room_taken {t} {tape} {start} {now} {from} took =
      let t : Taking = taken_of f old took.history in
      subst (λ (events : List PageEvent). FewFor (t.effect.events ++ events) t.reading t.input.escapes old.unread.input.ahead) (append-nil more)
      (subst (λ (s : State). FewFor s.to_do s.reading s.input.escapes old.unread.input.ahead) (meant tape took.history took.messages) took.few)

  -- what the code could not do of it halts the run
  pub halted_acts : {out_old err_old out_new err_new : Sunk} (new : Coded) (failures : ℕ) (halt : Halt) (status : Status) (behind : Seen) (line_behind : ℕ)
      → new.limits ≡ old.limits → ((k : Known) → (f k).input.line ≡ line_behind)
      → DoesTaking f more old.interpreter new.interpreter old.unread new.unread (sinks out_old err_old) (sinks out_new err_new) (Err halt)
      → ((t : Beginning) (left : Tape) (start : Seen) → Halts old.limits t left (line_told halt line line_behind) halt start (seen failures out_new err_new)
      → OutcomeOf old.limits t left status start behind)
      → DoesItem line does old new (seen failures out_old err_old) behind (Err status)
  halted_acts {out_old} {err_old} {out_new} {err_new} new failures halt status behind line_behind limits line_is takes ends = record {
    limits = limits;
    acts = λ t tape start from took.
        let state : State = done tape took.history took.messages in
        let halts : Halts old.limits t tape (line_told halt line line_behind) halt start (seen failures out_new err_new) =
        did_halt old.limits t tape line line_behind start _ from state
        (opened took).opens took.rest took.quiet took.line_is
        (IsLeftOf-looked_then old.unread.looked tape) refl (line_is (known_at took.history old.interpreter.reader.registers.all old.unread.input))
        (events_of took.history) took.history new.interpreter.reader.meaning.events [] halt new.interpreter.formatter.composer (did new.interpreter new.unread (Err halt) takes t tape start failures from took) in
        rw limits (ends t tape start halts);
    turns = λ t tape start from took. tt;
  }

-- what holds of a run that goes on holds of one with fewer turns to come
no_more-turns : (r : Result (Unit {0}) Status) (now mid most : ℕ) → OnOk r (now ≤ mid) → mid ≤ most → OnOk r (now ≤ most)
no_more-turns (Ok done) now mid most few more = omega (arith, few, more)
no_more-turns (Err status) now mid most few more = tt

-- what the code takes and does goes on behind it, and behind what that sprang
pub taking_acts : {out_old err_old out_new err_new : Sunk} (f : Known → Taking) (does : State → State) (phase : Phase) (more : List PageEvent) (line : ℕ) (old mid new : Coded) (failures : ℕ)
    (sprung : Option Sprung) (behind : Seen) (r : Result (Unit {0}) Status)
    → IsTaking f does phase more old
    → mid.limits ≡ old.limits → mid.phase ≡ phase
    → DoesTaking f more old.interpreter mid.interpreter old.unread mid.unread (sinks out_old err_old) (sinks out_new err_new) (Ok sprung)
    → ((k : Known) → AreFewBehind ((f k).effect.events ++ more)) → ((k : Known) → StaysFew old.unread.input.ahead (f k).input.ahead)
    → GoesOn sprung mid new (seen failures out_new err_new) behind r
    → DoesItem line does old new (seen failures out_old err_old) behind r
taking_acts {out_old} {err_old} {out_new} {err_new} f does phase more line old mid new failures sprung behind r meant limits same takes short stays goes =
    let there : (t : Beginning) (tape : Tape) (start : Seen) (from : State) → (took : TookFrom t tape start (seen failures out_old err_old) line does from old)
    → IsBehind t tape start (seen failures out_new err_new) sprung (most_of (events_of f does phase more line old meant took.history) took.history) mid = λ t tape start from took.
    IsBehind-taken t tape start _ old mid (taken_of f old took.history) took.history took.messages phase more sprung
    (takes.became old.limits took.history took.stands took.ready) limits same took.limits took.ready
    (did f does phase more line old meant mid.interpreter mid.unread (Ok sprung) takes t tape start failures from took)
    (short (known_at took.history old.interpreter.reader.registers.all old.unread.input)) (stays (known_at took.history old.interpreter.reader.registers.all old.unread.input))
    (room_taken f does phase more line old meant took) in record {
      limits = goes.limits ∙ limits;
      acts = λ t tape start from took. goes.goes t tape start (most_of (events_of f does phase more line old meant took.history) took.history) (there t tape start from took);
      turns = λ t tape start from took.
          let most : ℕ = most_of (events_of f does phase more line old meant took.history) took.history in
          subst (λ (s : State). OnOk r (turns_of_run new ≤ turns_at old.limits.bytes s)) (sym (meant tape took.history took.messages))
          (no_more-turns r (turns_of_run new) (turns_where mid most) _ (goes.turns t tape start most (there t tape start from took))
          (turns-behind tape old mid (taken_of f old took.history) took.history took.messages phase more
          (takes.became old.limits took.history took.stands took.ready) same took.limits));
    }

-- two things are the same of the states that the run may be at
abbrev pub DoTheSame : (does other : State → State) → Coded → Type 0
DoTheSame does other old =
    (tape : Tape) (h : PageHistory) (messages : List ℕ) → StandFor old.limits h old.interpreter.formatter.composer
    → does (state_at tape old h messages) ≡ other (state_at tape old h messages)

-- a step that leads to one thing leads to another that is the same
abbrev TookFrom-as : (does other : State → State) (line : ℕ) (old : Coded) (t : Beginning) (tape : Tape) (start now : Seen) (from : State)
    → DoTheSame does other old → TookFrom t tape start now line does from old → TookFrom t tape start now line other from old
TookFrom-as does other line old t tape start now from same took = record {
  history = took.history;
  messages = took.messages;
  reaches = took.reaches;
  opens = subst (λ (s : State). Opens old.limits from s took.history took.messages) (same tape took.history took.messages took.stands) took.opens;
  stands = took.stands;
  ready = took.ready;
  limits = took.limits;
  quiet = took.quiet;
  line_is = took.line_is;
  rest = took.rest;
  few = subst (λ (s : State). FewFor s.to_do s.reading s.input.escapes old.unread.input.ahead) (same tape took.history took.messages took.stands) took.few;
}

-- acting as one thing is acting as another that does the same to the state the run is at
pub DoesItem-as : (does other : State → State) (line : ℕ) (old new : Coded) (now behind : Seen) (r : Result (Unit {0}) Status)
    → DoTheSame does other old → DoesItem line other old new now behind r → DoesItem line does old new now behind r
DoesItem-as does other line old new now behind r same acts = record {
  limits = acts.limits;
  acts = λ t tape start from took. acts.acts t tape start from (TookFrom-as does other line old t tape start now from same took);
  turns = λ t tape start from took.
      subst (λ (s : State). OnOk r (turns_of_run new ≤ turns_at old.limits.bytes s)) (sym (same tape took.history took.messages took.stands))
      (acts.turns t tape start from (TookFrom-as does other line old t tape start now from same took));
}
