-- How far a run of the code has come, as a run of the definition.
use Rattle.std.specs.Prelude.{◌≡◌, ◌⊎◌, ℕ, ◌*◌, ◌+◌, ◌<◌, ◌≤◌, Bool, true, false, if◌then◌else◌, List, [], Option, None, Some, OnOk, Result, Ok, Err}
use Rattle.roff_num.specs.declared.limits.Limits.{Limits}
use Rattle.run_state.specs.declared.composer.Composer.{Composer as ComposerOf}
use Rattle.run_model.specs.declared.start.Start.{Start}
use Rattle.input_source.specs.Tape.{Tape, Item, items_then}
use Rattle.input_source.specs.declared.source.ByteSource as byte_source
use Rattle.input_model.specs.Looking.{is_closed, looked_then}
use Rattle.input_model.specs.declared.looked.Looked.TheVariants.{Nothing}
use Rattle.run_state.specs.Composer.Standing.{StandFor}
use Rattle.run_items.specs.declared.interpreter.Interpreter.{Interpreter}
use Rattle.run_turns.specs.declared.running.Running.{Running as Coded}
use Rattle.run_model.specs.declared.status.Status.{Status}
use Rattle.run_items.specs.Outcome.{Beginning, Seen, seen, IsLeftOf, Reaches, OutcomeOf}
use Rattle.run_items.specs.Performing.{Opens, going}
use Rattle.run_items.specs.Room.{FewFor}
use Rattle.run_model.specs.TurnsToCome.{most_left, begun, lines_left, phases_left, turns_to_come, turns_within}
use Rattle.page_bytes.specs.Sinks.{Sunk}
use Rattle.page_bytes.specs.Told.{told_by}
use Rattle.page_bytes.specs.declared.message_sink.MessageSink as message_sink
use Rattle.page_bytes.specs.declared.sink.ByteSink as byte_sink
use Rattle.read_lines.specs.Reader.State.{fresh_reader}
use Rattle.read_lines.specs.Reader.Taken.{IsReady}
use Rattle.run_model.specs.Reading.Items.{PageUnread}
use Rattle.run_model.specs.declared.line_state.LineState.{LineState}
use Rattle.run_model.specs.declared.line_state.LineState.TheVariants.{LineStart, Braced}
use Rattle.run_model.specs.declared.phase.Phase.TheVariants.{Closing}
use Rattle.run_model.specs.Reading.Ends.{due, is_unfinished}
use Rattle.run_model.specs.Environments.{PageHistory, interrupted_line}
use Rattle.run_model.specs.Run.{State, first_unread, known_at, step}

-- the state of a run that reads on, where the source still gives this tape
abbrev pub state_at : Tape → Coded → PageHistory → List ℕ → State
state_at tape run h messages =
    going (looked_then run.unread.looked tape) run.unread.input run.interpreter.reader.reading run.interpreter.reader.registers.all h messages run.phase (is_closed run.unread.looked) []

-- how many turns are to come of a run beside those of the line that ends with the input, and of phases
abbrev pub turns_left : Coded → ℕ
turns_left run = turns_to_come run.unread + begun run.interpreter.reader.reading

-- whether an interrupted line is to go on in the environment in force
abbrev pub lines_left_in : ComposerOf → ℕ
lines_left_in coded = if coded.environments.in_force.lines.is_interrupted then 1 else 0

-- what a line that ends with the input counts beside turns: where one begins, one that was interrupted and is to go on
abbrev pub line_turns : LineState → ℕ → ℕ
line_turns LineStart left = left
line_turns Braced left = left
line_turns (_) left = 2

-- how many turns are to come at the most of a run whose source has no notes
abbrev pub turns_of_run : Coded → ℕ
turns_of_run run =
    4 * turns_left run + line_turns run.interpreter.reader.reading (lines_left_in run.interpreter.formatter.composer) + phases_left run.phase

-- and where it has so many
abbrev pub turns_with : Coded → ℕ → ℕ
turns_with run notes = turns_of_run run + 4 * notes

-- the same of a state within so many bytes, once any of its events are performed
abbrev pub turns_at : ℕ → State → ℕ
turns_at bytes s =
    4 * (turns_within bytes s.input + begun s.reading) + line_turns s.reading (most_left s.to_do (lines_left (interrupted_line s.history)))
    + phases_left s.phase

-- a step of the definition does this from the state that the run of the code is at
abbrev pub StepDoes : (State → State) → Tape → Coded → PageHistory → List ℕ → Type 0
StepDoes does tape run history messages =
    let state : State = state_at tape run history messages in
    step run.limits state ≡ does state

-- The run of the code over the tape t has come as far as one of the definition that reads on, with this tape to come
-- of the source: it stands for its history, and reads what it reads.
pub record IsAt (t : Beginning) (tape : Tape) (start now : Seen) (run : Coded) : Type 0 where
  pub history : PageHistory
  pub messages : List ℕ
  pub reaches : Reaches run.limits t start now (state_at tape run history messages)
  pub stands : StandFor run.limits history run.interpreter.formatter.composer
  pub ready : IsReady run.interpreter.reader.registers run.unread
  pub limits : run.unread.limits ≡ run.limits
  pub few : FewFor [] run.interpreter.reader.reading run.unread.input.escapes run.unread.input.ahead

-- the run goes on, with this tape to come, or it ended, with this tape left
abbrev pub Continues : Beginning → Tape → Seen → Seen → Result (Unit {0}) Status → Coded → Type 0
Continues t tape start now (Ok done) run = IsAt t tape start now run
Continues t tape start now (Err status) run = OutcomeOf run.limits t tape status start now

-- The code took an item, and stands behind it; the definition stands before it, at this state, and a step of it
-- leads to what is done with the item. The byte before stood on this line. There is room in front for those of its events that
-- may be put back.
pub record TookFrom (t : Beginning) (tape : Tape) (start now : Seen) (line : ℕ) (does : State → State) (from : State) (run : Coded) : Type 0 where
  pub history : PageHistory
  pub messages : List ℕ
  pub reaches : Reaches run.limits t start now from
  pub opens : Opens run.limits from (does (state_at tape run history messages)) history messages
  pub stands : StandFor run.limits history run.interpreter.formatter.composer
  pub ready : IsReady run.interpreter.reader.registers run.unread
  pub limits : run.unread.limits ≡ run.limits
  pub quiet : from.last_message ≡ []
  pub line_is : from.input.line ≡ line
  pub rest : IsLeftOf tape from.tape
  pub few : let done : State = does (state_at tape run history messages) in FewFor done.to_do done.reading done.input.escapes run.unread.input.ahead

-- The code did what is to be done with an item that it took, or has ended: for each state from which a step of the
-- definition leads to that. Where it goes on, no more turns are to come than of the definition's state.
pub record DoesItem (line : ℕ) (does : State → State) (old new : Coded) (now behind : Seen) (r : Result (Unit {0}) Status) : Type 0 where
  pub limits : new.limits ≡ old.limits
  pub acts : (t : Beginning) (tape : Tape) (start : Seen) (from : State) → TookFrom t tape start now line does from old → Continues t tape start behind r new
  pub turns : (t : Beginning) (tape : Tape) (start : Seen) (from : State) → (took : TookFrom t tape start now line does from old)
      → OnOk r (turns_of_run new ≤ turns_at old.limits.bytes (does (state_at tape old took.history took.messages)))

-- at the end of its input a run goes on: something is half read, or a line unfinished, or it isn't in its last phase
abbrev pub MayGoOn : Coded → PageHistory → Type 0
MayGoOn run h =
    let reading : LineState = run.interpreter.reader.reading in
    run.unread.input.escapes ≡ [] → is_unfinished run.phase (known_at h run.interpreter.reader.registers.all run.unread.input) reading ≡ false
    → run.phase ≡ Closing → ⊥

-- a run may end where nothing was looked at that it doesn't take, or its source is closed
abbrev pub MayEnd : Coded → Type 0
MayEnd run = (run.unread.looked ≡ Nothing) ⊎ (is_closed run.unread.looked ≡ true)

-- What is due was done: the run goes on where nothing is, or has ended. Where nothing was due it stays.
pub record DoesDue (old new : Coded) (now behind : Seen) (r : Result (Unit {0}) Status) : Type 0 where
  pub limits : new.limits ≡ old.limits
  pub idle : due old.interpreter.reader.reading ≡ None → (r ≡ Ok tt) × (new ≡ old)
  pub does_due : (t : Beginning) (tape : Tape) (start : Seen) → IsAt t tape start now old → Continues t tape start behind r new
  pub none_due : OnOk r (due new.interpreter.reader.reading ≡ None)
  pub turns : OnOk r (turns_of_run new ≤ turns_of_run old)

-- no more turns are left than there were, and fewer if that is said
abbrev pub AreLeft : Bool → ℕ → ℕ → Type 0
AreLeft true left turns = left < turns
AreLeft false left turns = left ≤ turns

-- the same if it is said what a step does
abbrev pub StepDoesIf : Option (State → State) → Tape → Coded → PageHistory → List ℕ → Type 0
StepDoesIf None tape run history messages = Unit {0}
StepDoesIf (Some does) tape run history messages = StepDoes does tape run history messages

-- The run took items of its source, and goes on behind them or has ended, whatever the source may still give: from each of its places
-- where a step of the definition does this, if that is said. Where it goes on no more turns are to come, and fewer if that is said; each
-- message of the source's is one.
pub record ComesFrom (does : Option (State → State)) (fewer : Bool) (gave gives : Tape → Type 0) (noted notes : ℕ) (old new : Coded) (now behind : Seen) (r : Result (Unit {0}) Status) : Type 0 where
  pub limits : new.limits ≡ old.limits
  pub taken : List Item
  pub before : (tape : Tape) → gives tape → gave (items_then taken tape)
  pub comes : (t : Beginning) (tape : Tape) (start : Seen) → gives tape → (at : IsAt t (items_then taken tape) start now old)
      → StepDoesIf does (items_then taken tape) old at.history at.messages → Continues t tape start behind r new
  pub turns : (t : Beginning) (tape : Tape) (start : Seen) → gives tape → (at : IsAt t (items_then taken tape) start now old)
      → StepDoesIf does (items_then taken tape) old at.history at.messages → OnOk r (AreLeft fewer (turns_with new notes) (turns_with old noted))

-- the run comes further from wherever it is
abbrev pub Comes : Bool → (Tape → Type 0) → (Tape → Type 0) → ℕ → ℕ → Coded → Coded → Seen → Seen → Result (Unit {0}) Status → Type 0
Comes fewer gave gives noted notes old new now behind r = ComesFrom None fewer gave gives noted notes old new now behind r

-- and doesn't end
abbrev pub GoesPast : Bool → (Tape → Type 0) → (Tape → Type 0) → ℕ → ℕ → Coded → Coded → Seen → Seen → Type 0
GoesPast fewer gave gives noted notes old new now behind = Comes fewer gave gives noted notes old new now behind (Ok tt)

-- the run comes further from where a step of the definition does this
abbrev pub TurnsBy : (State → State) → (Tape → Type 0) → (Tape → Type 0) → ℕ → ℕ → Coded → Coded → Seen → Seen → Result (Unit {0}) Status → Type 0
TurnsBy does gave gives noted notes old new now behind r = ComesFrom (Some does) true gave gives noted notes old new now behind r

-- it goes past items of a source that was at one state and is at another, whatever was written
abbrev pub GoesPastOver : {S : Type 0} → byte_source.Ghosts S → Bool → S → S → Coded → Coded → Type 0
GoesPastOver g fewer was is old new =
    (out err : Sunk) → GoesPast fewer (g.gives was) (g.gives is) (g.notes was) (g.notes is) old new (seen (g.failures was) out err) (seen (g.failures is) out err)

-- it comes further over a source and sinks that were at one state and are at another
abbrev pub ComesOver : {S : Type 0} {O : Type 0} {E : Type 0} → byte_source.Ghosts S → byte_sink.Ghosts O → message_sink.Ghosts E → Bool → S → S → O → O → E → E → Coded → Coded
    → Result (Unit {0}) Status → Type 0
ComesOver s o e fewer was is out_was out_is err_was err_is old new r =
    Comes fewer (s.gives was) (s.gives is) (s.notes was) (s.notes is) old new (seen (s.failures was) (o.sunk out_was) (told_by e err_was)) (seen (s.failures is) (o.sunk out_is) (told_by e err_is)) r

-- or from where a step does this
abbrev pub TurnsOver : {S : Type 0} {O : Type 0} {E : Type 0} → byte_source.Ghosts S → byte_sink.Ghosts O → message_sink.Ghosts E → (State → State) → S → S → O → O → E → E → Coded → Coded
    → Result (Unit {0}) Status → Type 0
TurnsOver s o e does was is out_was out_is err_was err_is old new r =
    TurnsBy does (s.gives was) (s.gives is) (s.notes was) (s.notes is) old new (seen (s.failures was) (o.sunk out_was) (told_by e err_was)) (seen (s.failures is) (o.sunk out_is) (told_by e err_is)) r

-- what an answer tells that says whether fewer turns are to come: whether the run goes on
abbrev pub going_on : Result Bool Status → Result (Unit {0}) Status
going_on (Ok fewer) = Ok tt
going_on (Err status) = Err status

-- and whether they are
abbrev pub says_fewer : Result Bool Status → Bool
says_fewer (Ok fewer) = fewer
says_fewer (Err status) = false

-- Whether fewer turns are to come behind a step, by whether bytes were told before it, and are behind it: not where they were, and
-- aren't.
abbrev pub falls_told : Bool → Result Bool Status → Bool
falls_told false r = true
falls_told true r = says_fewer r

-- The run of the code has come so far, over a source that might have given the tapes `old` and may now give
-- the tapes `new`: it took items, and whatever may still come, it is at its place in the run over all of these.
pub record HasCome (given : Start) (old new : Tape → Type 0) (start now : Seen) (run : Coded) : Type 0 where
  pub taken : List Item
  pub before : (tape : Tape) → new tape → old (items_then taken tape)
  pub at : (tape : Tape) → new tape → IsAt (record { start = given; tape = items_then taken tape }) tape start now run

-- before the first item: nothing is read, set or ahead, and the requests have their names
pub record IsFresh (l : Limits) (f : Interpreter) (u : PageUnread) : Type 0 where
  pub reader : f.reader ≡ fresh_reader l.names l.line
  pub unread : u ≡ first_unread l
