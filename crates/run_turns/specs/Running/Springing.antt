-- How far a run of the code has come where events were performed, of which one may have stopped: it sprang a macro, or is done but for the
-- text of a diversion.
use Rattle.std.specs.Prelude.{◌≡◌, ◌≤◌, ◌<◌, ◌*◌, ◌+◌, ◌-◌, ℕ, List, [], length, map, Option, None, Some, OnOk, Result, Ok, Err}
use Rattle.run_items.specs.Room.{FewFor, HasRoom}
use Rattle.input_model.specs.Input.{Ahead, putting_all_back}
use Rattle.input_escapes.specs.OpenEscape.{OpenEscape}
use Rattle.roff_num.specs.declared.short_name.ShortName.{ShortName}
use Rattle.run_state.specs.Composer.Standing.{StandFor}
use Rattle.run_state.specs.declared.composer.Composer.{Composer as ComposerOf}
use Rattle.read_lines.specs.Reader.Taken.{IsReady}
use Rattle.run_model.specs.Environments.{PageHistory, interrupted_line}
use Rattle.run_model.specs.PageEvents.{PageEvent}
use Rattle.run_model.specs.Run.{followed_by, only_sprung}
use Rattle.run_model.specs.Titles.{keeping, put_back}
use Rattle.run_model.specs.TurnsToCome.{lines_left, most_left, phases_left}
use Rattle.run_model.specs.declared.line_state.LineState.{LineState}
use Rattle.run_model.specs.declared.status.Status.{Status}
use Rattle.input_source.specs.Tape.{Tape}
use Rattle.run_items.specs.Outcome.{Beginning, OutcomeOf, Reaches, Seen}
use Rattle.run_events.specs.Formatter.Sprung.{GoesOnNamed, behind_sprung, left_behind, most_back, weight}
use Rattle.run_turns.specs.Running.Turning.{Continues, IsAt, line_turns, state_at, turns_left, turns_of_run}
use Rattle.run_turns.specs.declared.running.Running.{Running as Coded}
use Rattle.run_events.specs.declared.sprung.Sprung.{Sprung}

-- What is known where one of these events stopped, and what is read is this: an eject goes on behind a macro alone; all that is left can
-- be put back, as could all that may be left of them; and with this history before them no more than so many interrupted lines are left
-- by any of them.
pub record Stops (sprung : Sprung) (kept : List PageEvent) (due : Option ShortName) (reading : LineState) (half : List OpenEscape) (items : List (Ahead PageEvent)) (now bound : ℕ) : Type 0 where
  pub named : GoesOnNamed sprung.why due
  pub left : length (left_behind sprung kept) ≤ most_back kept
  pub short : most_back kept ≤ 5
  pub few : FewFor kept reading half items
  pub first : PageHistory
  pub lines : now ≤ most_left kept (lines_left (interrupted_line first))
  pub most : most_left kept (lines_left (interrupted_line first)) ≤ bound

-- the same of a run, behind this history
abbrev pub StopsIn : Sprung → Coded → PageHistory → ℕ → Type 0
StopsIn sprung run h most =
    Stops sprung run.interpreter.reader.meaning.events run.interpreter.formatter.composer.due.sprung run.interpreter.reader.reading
    run.unread.input.escapes run.unread.input.ahead (lines_left (interrupted_line h)) most

-- where none stopped few events stand in front, and no more interrupted lines are left
pub record Rests (run : Coded) (h : PageHistory) (most : ℕ) : Type 0 where
  pub few : FewFor [] run.interpreter.reader.reading run.unread.input.escapes run.unread.input.ahead
  pub lines : lines_left (interrupted_line h) ≤ most

abbrev pub StoppedIn : Option Sprung → Coded → PageHistory → ℕ → Type 0
StoppedIn None run h most = Rests run h most
StoppedIn (Some sprung) run h most = StopsIn sprung run h most

-- The run of the code stands behind events, of which one may have stopped: the definition has still to change a text, or to read what
-- sprang, behind which it has put back what is left, or to perform that.
pub record IsBehind (t : Beginning) (tape : Tape) (start now : Seen) (sprung : Option Sprung) (most : ℕ) (run : Coded) : Type 0 where
  pub history : PageHistory
  pub messages : List ℕ
  pub reaches : Reaches run.limits t start now
      (behind_sprung run.interpreter.formatter.composer sprung run.interpreter.reader.meaning.events [] (state_at tape run history messages))
  pub stands : StandFor run.limits history run.interpreter.formatter.composer
  pub ready : IsReady run.interpreter.reader.registers run.unread
  pub limits : run.unread.limits ≡ run.limits
  pub stopped : StoppedIn sprung run history most

-- the same where no text is to change any more
pub record IsSettled (t : Beginning) (tape : Tape) (start now : Seen) (sprung : Sprung) (most : ℕ) (run : Coded) : Type 0 where
  pub history : PageHistory
  pub messages : List ℕ
  pub reaches : Reaches run.limits t start now
      (followed_by (only_sprung run.interpreter.formatter.composer.due.sprung) (left_behind sprung run.interpreter.reader.meaning.events)
      (state_at tape run history messages))
  pub stands : StandFor run.limits history run.interpreter.formatter.composer
  pub ready : IsReady run.interpreter.reader.registers run.unread
  pub limits : run.unread.limits ≡ run.limits
  pub stopped : StopsIn sprung run history most

-- how many turns are to come of a run that has so many interrupted lines left at the most
abbrev pub turns_where : Coded → ℕ → ℕ
turns_where run most = 4 * turns_left run + line_turns run.interpreter.reader.reading most + phases_left run.phase

-- it goes on there, or has ended; no more turns are to come
pub record GoesOn (sprung : Option Sprung) (old new : Coded) (now behind : Seen) (r : Result (Unit {0}) Status) : Type 0 where
  pub limits : new.limits ≡ old.limits
  pub goes : (t : Beginning) (tape : Tape) (start : Seen) (most : ℕ) → IsBehind t tape start now sprung most old → Continues t tape start behind r new
  pub turns : (t : Beginning) (tape : Tape) (start : Seen) (most : ℕ) → IsBehind t tape start now sprung most old
      → OnOk r (turns_of_run new ≤ turns_where old most)

-- where events stopped the text that was due was changed, or a limit refuses that
abbrev pub SettledOr : Beginning → Tape → Seen → Seen → Sprung → ℕ → Result (Unit {0}) Status → Coded → Type 0
SettledOr t tape start now sprung most (Ok done) run = IsSettled t tape start now sprung most run
SettledOr t tape start now sprung most (Err status) run = OutcomeOf run.limits t tape status start now

pub record Settles (sprung : Sprung) (old new : Coded) (now behind : Seen) (r : Result (Unit {0}) Status) : Type 0 where
  pub goes : (t : Beginning) (tape : Tape) (start : Seen) (most : ℕ) → IsBehind t tape start now (Some sprung) most old
      → SettledOr t tape start behind sprung most r new
  pub others : new ≡ record old { unread = new.unread }
  pub turns : OnOk r (turns_left new ≡ turns_left old)

-- where it was changed the run goes on, with no more turns to come, or has ended
pub record GoesOnSettled (sprung : Sprung) (old new : Coded) (now behind : Seen) (r : Result (Unit {0}) Status) : Type 0 where
  pub limits : new.limits ≡ old.limits
  pub goes : (t : Beginning) (tape : Tape) (start : Seen) (most : ℕ) → IsSettled t tape start now sprung most old → Continues t tape start behind r new
  pub turns : (t : Beginning) (tape : Tape) (start : Seen) (most : ℕ) → IsSettled t tape start now sprung most old
      → OnOk r (turns_of_run new ≤ turns_where old most)

-- what was left was performed, up to an event that stopped once more, or the run has ended
abbrev pub BehindOr : Beginning → Tape → Seen → Seen → ℕ → Result (Option Sprung) Status → Coded → Type 0
BehindOr t tape start now most (Ok None) run = IsAt t tape start now run
BehindOr t tape start now most (Ok (Some next)) run = IsBehind t tape start now (Some next) most run
BehindOr t tape start now most (Err status) run = OutcomeOf run.limits t tape status start now

-- and no more turns are to come
abbrev pub TurnsBehind : ℕ → ℕ → Result (Option Sprung) Status → Coded → Type 0
TurnsBehind turns most (Ok None) run = turns_of_run run ≤ turns
TurnsBehind turns most (Ok (Some next)) run = turns_where run most ≤ turns
TurnsBehind turns most (Err status) run = Unit {0}

-- what is still to be done behind an event that stopped, at the most
abbrev pub stops_left : Sprung → ComposerOf → ℕ
stops_left sprung es = 4 * (255 - sprung.left) + weight es

-- less of it is where another stops
abbrev pub StopsFall : ℕ → Result (Option Sprung) Status → Coded → Type 0
StopsFall stops (Ok None) run = Unit {0}
StopsFall stops (Ok (Some next)) run = stops_left next run.interpreter.formatter.composer < stops
StopsFall stops (Err status) run = Unit {0}

-- what a run came to behind what stopped, for each run that stands so
pub record ComesBehind (Stands : Beginning → Tape → Seen → ℕ → Type 0) (count : ℕ → ℕ) (stops : ℕ) (behind : Seen) (r : Result (Option Sprung) Status) (new : Coded) : Type 0 where
  pub goes : (t : Beginning) (tape : Tape) (start : Seen) (most : ℕ) → Stands t tape start most → BehindOr t tape start behind most r new
  pub turns : (t : Beginning) (tape : Tape) (start : Seen) (most : ℕ) → Stands t tape start most → TurnsBehind (count most) most r new
  pub falls : (t : Beginning) (tape : Tape) (start : Seen) (most : ℕ) → Stands t tape start most → StopsFall stops r new

pub record StopsNext (sprung : Sprung) (old new : Coded) (now behind : Seen) (r : Result (Option Sprung) Status) : Type 0 where
  pub limits : new.limits ≡ old.limits
  pub comes : ComesBehind (λ t tape start most. IsBehind t tape start now (Some sprung) most old) (turns_where old)
      (stops_left sprung old.interpreter.formatter.composer) behind r new

-- the same where no text is to change any more
pub record StopsNextSettled (sprung : Sprung) (old new : Coded) (now behind : Seen) (r : Result (Option Sprung) Status) : Type 0 where
  pub limits : new.limits ≡ old.limits
  pub comes : ComesBehind (λ t tape start most. IsSettled t tape start now sprung most old) (turns_where old)
      (stops_left sprung old.interpreter.formatter.composer) behind r new

-- these events were put back, if there is room for them: a title among them is kept
pub record PutsBack (events : List PageEvent) (old new : Coded) : Type 0 where
  pub others : new ≡ record old { unread = new.unread; interpreter = new.interpreter }
  pub keeps : new.interpreter ≡ record old.interpreter {
    reader = record old.interpreter.reader {
      registers = record old.interpreter.reader.registers { all = keeping events old.interpreter.reader.registers.all };
    };
  }
  pub puts : HasRoom events old.unread
      → new.unread ≡ record old.unread { input = putting_all_back (map put_back events) old.unread.input }
