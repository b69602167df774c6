-- How far an interpreter does what an item of the input means, over the states of the definition.
use Rattle.std.specs.Prelude.{◌≡◌, ◌≤◌, drop, ℕ, ◌+◌, ◌-◌, ◌*◌, Bool, List, [], ◌∷◌, ◌++◌, Option, Some, None, Result, Ok, Err, OnOk, length}
use Rattle.std.specs.Io.KnownBytes.{Appends}
use Rattle.roff_num.specs.declared.limit.Limit.{Limit}
use Rattle.roff_num.specs.declared.limits.Limits.{Limits}
use Rattle.input_source.specs.Tape.{Tape}
use Rattle.run_state.specs.Composer.Standing.{StandFor}
use Rattle.run_state.specs.declared.composer.Composer.{Composer as ComposerOf}
use Rattle.run_items.specs.declared.interpreter.Interpreter.{Interpreter}
use Rattle.run_events.specs.declared.halt.Halt.{Halt}
use Rattle.run_events.specs.declared.halt.Halt.TheVariants.{Refused, Messages}
use Rattle.run_items.specs.Outcome.{Beginning, Seen, AppendsBetween, Reaches, seen}
use Rattle.run_model.specs.Messages.{message_lines}
use Rattle.run_model.specs.Output.{written}
use Rattle.run_model.specs.Environments.{interrupted_line}
use Rattle.run_events.specs.Formatter.Sprung.{GoesOnNamed, MovesOn, behind_sprung, most_back, open_weight, rest_left, weight}
use Rattle.run_model.specs.TurnsToCome.{most_left, lines_left}
use Rattle.run_events.specs.declared.sprung.Sprung.{Sprung}
use Rattle.run_model.specs.Reading.Items.{PageInput, Taking, PageUnread}
use Rattle.run_model.specs.Registers.{AllRegisters, Known}
use Rattle.run_model.specs.PageEvents.{PageEvent, PageHistory}
use Rattle.run_model.specs.declared.message.Message.{Message}
use Rattle.run_model.specs.declared.line_state.LineState.{LineState}
use Rattle.run_model.specs.declared.phase.Phase.{Phase}
use Rattle.run_model.specs.Run.{State, nothing_follows, ToldLeads, initial, step, told_step, stopped_by, made, taken_as, known_at, output, reported}
use Rattle.read_lines.specs.Reader.Taken.{CameTo, IsReady}
use Rattle.page_bytes.specs.Sinks.{CountsFault, Sunk}
use Rattle.run_events.specs.Formatter.Performing.{HaltedAt, Performs, acting, behind_event}

-- An interpreter performed an event, with what comes before it, as far as the answer says, and what is read stays: for each state of a
-- run that has it in front of others to do, and has the interpreter's registers, as they keep the texts of titles.
pub record DoesEvent (e : PageEvent) (old new : Interpreter) (out_old out_new : Sunk) (result : Result (Option Sprung) Halt) : Type 0 where
  pub one : (l : Limits) (t : Beginning) (before : Seen) (failures : ℕ) (err : Sunk) (s : State) (h : PageHistory) (rest : List PageEvent)
      → StandFor l h old.formatter.composer → s.registers ≡ old.reader.registers.all
      → Reaches l t before (seen failures out_old err) (acting s (e ∷ rest) h)
      → Performs l t before (seen failures out_new err) s (e ∷ []) h (behind_event s.registers e h) rest result new.formatter.composer
  pub reader : new.reader ≡ old.reader
  pub moves : (l : Limits) (h : PageHistory) → StandFor l h old.formatter.composer → MovesOn old.formatter new.formatter result

-- where one of these events stopped them the reader keeps all of them, and an eject among them goes on behind a macro alone
abbrev pub KeepsThem : Option Sprung → List PageEvent → List PageEvent → ComposerOf → Type 0
KeepsThem None kept events es = Unit {0}
KeepsThem (Some sprung) kept events es = (kept ≡ events) × GoesOnNamed sprung.why es.due.sprung

-- The events in front were performed up to one that stopped here, or all of them; what is left of those that are kept is to be
-- done, or put back, with what was to be done behind them. No more interrupted lines are left than any of them leaves, and no more is
-- put back than may be.
pub record CameBehind (l : Limits) (t : Beginning) (before now : Seen) (s : State) (events : List PageEvent) (h : PageHistory) (kept rest : List PageEvent) (sprung : Option Sprung) (es : ComposerOf) : Type 0 where
  pub history : PageHistory
  pub reaches : Reaches l t before now (behind_sprung es sprung kept rest (acting s [] history))
  pub stands : StandFor l history es
  pub lines : lines_left (interrupted_line history) ≤ most_left events (lines_left (interrupted_line h))
  pub few : length (rest_left sprung kept) ≤ most_back events
  pub keeps : KeepsThem sprung kept events es

-- how far the code came with these events, by its answer
abbrev pub ComesTo : Limits → Beginning → Seen → Seen → State → List PageEvent → PageHistory → List PageEvent → List PageEvent → Result (Option Sprung) Halt → ComposerOf → Type 0
ComesTo l t before now s events h kept rest (Ok sprung) es = CameBehind l t before now s events h kept rest sprung es
ComesTo l t before now s events h kept rest (Err halt) es = HaltedAt l t before now s halt

-- what an interpreter keeps stays, but for the events that the reader keeps where some of them are put back
pub record KeepsReading (old new : Interpreter) : Type 0 where
  pub reading : new.reader.reading ≡ old.reader.reading
  pub registers : new.reader.registers ≡ old.reader.registers

-- An interpreter performed all of these events, or those up to one that sprang something, and then the reader keeps them: for each state
-- of a run that has them in front of others to do.
pub record PerformsAll (events : List PageEvent) (old new : Interpreter) (out_old out_new : Sunk) (result : Result (Option Sprung) Halt) : Type 0 where
  pub all : (l : Limits) (t : Beginning) (before : Seen) (failures : ℕ) (err : Sunk) (s : State) (h : PageHistory) (rest : List PageEvent)
      → StandFor l h old.formatter.composer → s.registers ≡ old.reader.registers.all
      → Reaches l t before (seen failures out_old err) (acting s (events ++ rest) h)
      → ComesTo l t before (seen failures out_new err) s events h new.reader.meaning.events rest result new.formatter.composer
  pub reader : KeepsReading old new

-- the definition has performed some of these events, and these are left
pub record CameSoFar (l : Limits) (t : Beginning) (before now : Seen) (s : State) (events : List PageEvent) (h : PageHistory) (left rest : List PageEvent) (es : ComposerOf) : Type 0 where
  pub history : PageHistory
  pub reaches : Reaches l t before now (acting s (left ++ rest) history)
  pub stands : StandFor l history es
  pub few : most_left left (lines_left (interrupted_line history)) ≤ most_left events (lines_left (interrupted_line h))

-- where the events from this index on stopped they moved on: fewer are left, or a macro is due, or the open word or field has ended
abbrev pub LeftOn : ℕ → Interpreter → Interpreter → Result (Option Sprung) Halt → Type 0
LeftOn n old new (Ok None) = Unit {0}
LeftOn n old new (Ok (Some sprung)) =
    4 * (255 - sprung.left) + weight new.formatter.composer ≤ 4 * (255 - n) + open_weight old.formatter.composer
LeftOn n old new (Err halt) = Unit {0}

-- An interpreter performed those of the events that it keeps from this index on, or those up to one that stopped them: for each state
-- of a run that has performed the others.
pub record PerformsLeft (n : ℕ) (old new : Interpreter) (out_old out_new : Sunk) (result : Result (Option Sprung) Halt) : Type 0 where
  pub all : (l : Limits) (t : Beginning) (before : Seen) (failures : ℕ) (err : Sunk) (s : State) (h : PageHistory) (rest : List PageEvent)
      → s.registers ≡ old.reader.registers.all
      → CameSoFar l t before (seen failures out_old err) s old.reader.meaning.events h (drop n old.reader.meaning.events) rest old.formatter.composer
      → ComesTo l t before (seen failures out_new err) s old.reader.meaning.events h new.reader.meaning.events rest result new.formatter.composer
  pub reader : KeepsReading old new
  pub moves : (l : Limits) (h : PageHistory) → StandFor l h old.formatter.composer → LeftOn n old new result

-- One step from a state takes an item that means these messages, which are told on this line, and these events,
-- which stand in front of others to do, behind this history.
pub record Means (l : Limits) (from s : State) (h : PageHistory) (line : ℕ) (messages : List Message) (events rest : List PageEvent) : Type 0 where
  pub opens : step l from ≡ acting s (events ++ rest) h
  pub goes_on : from.ended ≡ None
  pub wrote : output from ≡ written h
  pub said : reported s ≡ reported from ++ message_lines line messages
  pub quiet : s.last_message ≡ []

-- the message sink failed in the step from this state
pub record LostAt (l : Limits) (t : Beginning) (before now : Seen) (from : State) : Type 0 where
  pub comes : ToldLeads l (initial l t.start t.tape) from
  pub goes_on : from.ended ≡ None
  pub text : Appends before.out.contents now.out.contents (output from)
  pub messages : AppendsBetween before.err.contents now.err.contents (reported from) (reported (told_step l from))
  pub fault : CountsFault before.err.failures now.err.failures
  pub output_stays : now.out.failures ≡ before.out.failures

-- a limit refuses the step from this state
pub record RefusedAt (l : Limits) (t : Beginning) (before now : Seen) (from : State) (limit : Limit) : Type 0 where
  pub reaches : Reaches l t before now from
  pub goes_on : from.ended ≡ None
  pub stops : told_step l from ≡ stopped_by l limit from

-- how far the code did what an item means, by its answer
abbrev pub MeaningDone : Limits → Beginning → Seen → Seen → State → State → List PageEvent → PageHistory → List PageEvent → List PageEvent → Result (Option Sprung) Halt → ComposerOf → Type 0
MeaningDone l t before now from s events h kept rest (Err Messages) es = LostAt l t before now from
MeaningDone l t before now from s events h kept rest (Err (Refused limit)) es = RefusedAt l t before now from limit
MeaningDone l t before now from s events h kept rest result es = ComesTo l t before now s events h kept rest result es

-- what both sinks of a run tell
pub record Sinks : Type 0 where
  pub out : Sunk
  pub err : Sunk

-- sinks that tell this
abbrev pub sinks : Sunk → Sunk → Sinks
sinks out err = record { out = out; err = err }

-- An interpreter did what an item means, as far as it answers: for each state of a run whose next step means that, and leads to the
-- interpreter's registers.
pub record DoesMeaning (line : ℕ) (messages : List Message) (events : List PageEvent) (old new : Interpreter) (told_old told_new : Sinks) (result : Result (Option Sprung) Halt) : Type 0 where
  pub does : (l : Limits) (t : Beginning) (before : Seen) (failures : ℕ) (from s : State) (h : PageHistory) (rest : List PageEvent)
      → StandFor l h old.formatter.composer → s.registers ≡ old.reader.registers.all
      → Reaches l t before (seen failures told_old.out told_old.err) from → Means l from s h line messages events rest
      → MeaningDone l t before (seen failures told_new.out told_new.err) from s events h new.reader.meaning.events rest result new.formatter.composer
  pub reader : KeepsReading old new

-- a state of a run that hasn't ended, by all that it has
abbrev pub going : Tape → PageInput → LineState → AllRegisters → PageHistory → List ℕ → Phase → Bool → List PageEvent → State
going tape i reading rs h messages phase is_closed to_do = record {
  tape = tape;
  input = i;
  reading = reading;
  registers = rs;
  to_do = to_do;
  follows = nothing_follows;
  history = h;
  messages = messages;
  phase = phase;
  is_closed = is_closed;
  ended = None;
  last_message = [];
}

-- One step from a state leads to another, unless a count would be above its limit there; nothing was written or
-- reported since that the state itself had not.
pub record Opens (l : Limits) (from done : State) (h : PageHistory) (messages : List ℕ) : Type 0 where
  pub opens : step l from ≡ made l from done
  pub goes_on : from.ended ≡ None
  pub wrote : output from ≡ written h
  pub said : reported from ≡ messages

-- how far the code did a taking, from this state to that, by its answer
abbrev pub TakingDone : Limits → Beginning → Seen → Seen → State → State → List PageEvent → PageHistory → List PageEvent → List PageEvent → Result (Option Sprung) Halt → ComposerOf → Type 0
TakingDone l t before now from done events h kept rest result es = MeaningDone l t before now from done events h kept rest result es

-- The code did what the definition takes, and performed some events more, as far as it answers: for each state of a
-- run from which one step leads to the taking's, with these events and others to do behind its own.
pub record DoesTaking (t : Known → Taking) (more : List PageEvent) (old new : Interpreter) (before behind : PageUnread) (told_old told_new : Sinks) (result : Result (Option Sprung) Halt) : Type 0 where
  pub became : (l : Limits) (h : PageHistory) → StandFor l h old.formatter.composer → IsReady old.reader.registers before
      → OnOk result (CameTo (t (known_at h old.reader.registers.all before.input)) old.reader.registers new.reader before behind)
  pub does : (t0 : Beginning) (start : Seen) (failures : ℕ) (from : State) (tape : Tape) (h : PageHistory) (messages : List ℕ) (phase : Phase) (is_closed : Bool) (rest : List PageEvent)
      → StandFor before.limits h old.formatter.composer → IsReady old.reader.registers before
      → Reaches before.limits t0 start (seen failures told_old.out told_old.err) from
      → let known : Known = known_at h old.reader.registers.all before.input in
      let state : State = going tape before.input old.reader.reading old.reader.registers.all h messages phase is_closed (more ++ rest) in
      Opens before.limits from (taken_as (t known) state) h messages
      → TakingDone before.limits t0 start (seen failures told_new.out told_new.err) from (taken_as (t known) state) ((t known).effect.events ++ more) h new.reader.meaning.events rest result new.formatter.composer
