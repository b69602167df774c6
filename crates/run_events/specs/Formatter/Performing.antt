-- How far the code performs events, over the states of the definition.
use Rattle.std.specs.Prelude.{◌≡◌, ◌≤◌, ℕ, zero, suc, Bool, true, false, List, [], ◌∷◌, ◌++◌, Option, Some, None, Result, Ok, Err, length}
use Rattle.std.specs.Io.KnownBytes.{Appends}
use Rattle.roff_num.specs.declared.format.Format.{Format}
use Rattle.roff_num.specs.declared.limit.Limit.{Limit}
use Rattle.roff_num.specs.declared.limits.Limits.{Limits}
use Rattle.run_state.specs.Composer.Standing.{StandFor}
use Rattle.run_state.specs.declared.composer.Composer.{Composer as ComposerOf}
use Rattle.run_events.specs.declared.formatter.Formatter.{Formatter}
use Rattle.run_events.specs.declared.halt.Halt.{Halt}
use Rattle.run_events.specs.declared.halt.Halt.TheVariants.{Limit as Limited, Refused, Over, Output, Messages}
use Rattle.run_events.specs.Reaching.{Beginning, OutputStops, Reaches}
use Rattle.page_bytes.specs.Devices.{Seen, seen}
use Rattle.run_model.specs.Output.{text_of}
use Rattle.run_model.specs.Environments.{interrupted_line}
use Rattle.run_model.specs.Springs.{ends_field, next, own_word_end, word_end_of}
use Rattle.page_model.specs.Behind.{has_open_word}
use Rattle.page_model.specs.declared.event.Event.TheVariants.{WordEnd}
use Rattle.run_model.specs.declared.status.Status.TheVariants.{Done}
use Rattle.run_events.specs.Formatter.Sprung.{GoesOnNamed, IsAmong, MovesOn, StopsBehind, behind_sprung, first_left, left_behind, most_back, open_weight}
use Rattle.run_model.specs.TurnsToCome.{most_left, lines_left}
use Rattle.run_events.specs.declared.sprung.Sprung.{Sprung}
use Rattle.run_model.specs.declared.event.PageEvent.TheVariants.{Text, Title}
use Rattle.run_model.specs.Registers.{AllRegisters}
use Rattle.run_model.specs.PageEvents.{PageEvent, PageHistory}
use Rattle.run_model.specs.declared.title.WhichTitle.{WhichTitle}
use Rattle.run_model.specs.TitleTexts.{TitleText}
use Rattle.run_model.specs.Titles.{title_told, told}
use Rattle.run_model.specs.Run.{State, nothing_follows, ending_as, step, stopped_by, reported}
use Rattle.page_bytes.specs.Sinks.{Sunk}

-- the same state going on, with these events to do behind this history
abbrev pub acting : State → List PageEvent → PageHistory → State
acting s to_do history = record s { to_do = to_do; follows = nothing_follows; history = history; ended = None }

-- the history behind what comes before an event, as far as so many events do, as they happen with these registers
abbrev pub behind_next : AllRegisters → ℕ → PageEvent → PageHistory → PageHistory
behind_next rs zero e h = h
behind_next rs (suc n) e h = elim (next h e) [ None ↦ h | Some first ↦ behind_next rs n e (told rs first ∷ h) ]

-- and behind the event: the ends of a field and of a word and the first page's beginning may come before it, and nothing else
abbrev pub behind_event : AllRegisters → PageEvent → PageHistory → PageHistory
behind_event rs e h = told rs e ∷ behind_next rs 3 e h

-- and behind some events, each with what comes before it
abbrev pub behind_events : AllRegisters → List PageEvent → PageHistory → PageHistory
behind_events rs [] h = h
behind_events rs (e ∷ events) h = behind_events rs events (behind_event rs e h)

-- one behind another, before none of these events the end of a word comes
abbrev pub Flows : AllRegisters → List PageEvent → PageHistory → Type 0
Flows rs [] h = Unit {0}
Flows rs (e ∷ events) h = (word_end_of h e ≡ None) × Flows rs events (behind_event rs e h)

-- and that behind the end of a word, if one was open, with what comes before it
abbrev pub behind_word : AllRegisters → Bool → PageHistory → PageHistory
behind_word rs false h = h
behind_word rs true h = behind_event rs (Text WordEnd) h

-- the events were performed: the definition comes to the state behind them, of this history, for which the environment stands
pub record AllPerformed (l : Limits) (t : Beginning) (before now : Seen) (s : State) (behind : PageHistory) (rest : List PageEvent) (es : ComposerOf) : Type 0 where
  pub reaches : Reaches l t before now (acting s rest behind)
  pub stands : StandFor l behind es

-- One of the events, or what comes before it, stopped here: the definition has still to change a text, or to read what sprang, behind
-- which it has put back what is left. No more interrupted lines are left than any of the events leaves; and with others behind them no
-- more of them are left than may be.
pub record SprungAt (l : Limits) (t : Beginning) (before now : Seen) (s : State) (events : List PageEvent) (h : PageHistory) (sprung : Sprung) (rest : List PageEvent) (es : ComposerOf) : Type 0 where
  pub history : PageHistory
  pub reaches : Reaches l t before now (behind_sprung es (Some sprung) events rest (acting s [] history))
  pub stands : StandFor l history es
  pub lines : lines_left (interrupted_line history) ≤ most_left events (lines_left (interrupted_line h))
  pub among : IsAmong events sprung
  pub named : GoesOnNamed sprung.why es.due.sprung
  pub few : (others : List PageEvent) → length (left_behind sprung (events ++ others)) ≤ most_back (events ++ others)

-- the definition comes to a state whose next event a limit refuses
pub record StoppedAt (l : Limits) (t : Beginning) (before now : Seen) (s : State) (limit : Limit) : Type 0 where
  pub next : PageEvent
  pub to_do : List PageEvent
  pub history : PageHistory
  pub reaches : Reaches l t before now (acting s (next ∷ to_do) history)
  pub stops : step l (acting s (next ∷ to_do) history) ≡ stopped_by l limit (acting s (next ∷ to_do) history)

-- the definition comes to a state in whose next event the output failed
pub record FailedAt (l : Limits) (t : Beginning) (before now : Seen) (s : State) : Type 0 where
  pub next : PageEvent
  pub to_do : List PageEvent
  pub history : PageHistory
  pub stops : OutputStops l t before now (acting s (next ∷ to_do) history)
  pub messages : Appends before.err.contents now.err.contents (reported s)
  pub messages_stay : now.err.failures ≡ before.err.failures

-- the definition comes to a state with whose next event the last page ends, and the run with it
pub record OverAt (l : Limits) (t : Beginning) (before now : Seen) (s : State) : Type 0 where
  pub to_do : List PageEvent
  pub history : PageHistory
  pub reaches : Reaches l t before now (ending_as Done (acting s to_do history))

-- the code couldn't go on with an event: a limit refuses it, the output failed, or the run is over
abbrev pub HaltedAt : Limits → Beginning → Seen → Seen → State → Halt → Type 0
HaltedAt l t before now s (Limited limit) = StoppedAt l t before now s limit
HaltedAt l t before now s Output = FailedAt l t before now s
HaltedAt l t before now s Over = OverAt l t before now s
HaltedAt l t before now s Messages = ⊥
HaltedAt l t before now s (Refused limit) = ⊥

-- how far the code performed these events in front of `rest`, by its answer: behind all of them the history is this
abbrev pub Performs : Limits → Beginning → Seen → Seen → State → List PageEvent → PageHistory → PageHistory → List PageEvent → Result (Option Sprung) Halt → ComposerOf → Type 0
Performs l t before now s events h behind rest (Ok None) es = AllPerformed l t before now s behind rest es
Performs l t before now s events h behind rest (Ok (Some sprung)) es = SprungAt l t before now s events h sprung rest es
Performs l t before now s events h behind rest (Err halt) es = HaltedAt l t before now s halt

-- how far it performed the end of a word that comes before an event: behind that the history is this, and the event is left
abbrev pub EndsBefore : Limits → Beginning → Seen → Seen → State → PageEvent → PageHistory → PageHistory → List PageEvent → Result (Option Sprung) Halt → ComposerOf → Type 0
EndsBefore l t before now s e h behind rest (Ok None) es = AllPerformed l t before now s behind (e ∷ rest) es
EndsBefore l t before now s e h behind rest (Ok (Some sprung)) es = SprungAt l t before now s (e ∷ []) h sprung rest es
EndsBefore l t before now s e h behind rest (Err halt) es = HaltedAt l t before now s halt

-- A formatter and a sink performed some events, each with what comes before it, as far as the answer says: for each state of a run that
-- has these events in front of others to do, before none of which the end of a word comes.
pub record PerformsEvents (events : List PageEvent) (old new : Formatter) (out_old out_new : Sunk) (result : Result (Option Sprung) Halt) : Type 0 where
  pub performs : (l : Limits) (t : Beginning) (before : Seen) (failures : ℕ) (err : Sunk) (s : State) (h : PageHistory) (rest : List PageEvent)
      → StandFor l h old.composer → Flows s.registers events h → Reaches l t before (seen failures out_old err) (acting s (events ++ rest) h)
      → Performs l t before (seen failures out_new err) s events h (behind_events s.registers events h) rest result new.composer
  pub moves : MovesOn old new result

-- The same of one event before which the end of no field comes either.
pub record PerformsUnfielded (e : PageEvent) (old new : Formatter) (out_old out_new : Sunk) (result : Result (Option Sprung) Halt) : Type 0 where
  pub performs : (l : Limits) (t : Beginning) (before : Seen) (failures : ℕ) (err : Sunk) (s : State) (h : PageHistory) (rest : List PageEvent)
      → StandFor l h old.composer → word_end_of h e ≡ None → ends_field h e ≡ false → Reaches l t before (seen failures out_old err) (acting s (e ∷ rest) h)
      → Performs l t before (seen failures out_new err) s (e ∷ []) h (behind_event s.registers e h) rest result new.composer
  pub moves : MovesOn old new result

-- The same of some events as of any list, where the end of a field may stop the first one: that moved on where the formatter stands for
-- a history.
pub record PerformsStanding (events : List PageEvent) (old new : Formatter) (out_old out_new : Sunk) (result : Result (Option Sprung) Halt) : Type 0 where
  pub performs : (l : Limits) (t : Beginning) (before : Seen) (failures : ℕ) (err : Sunk) (s : State) (h : PageHistory) (rest : List PageEvent)
      → StandFor l h old.composer → Flows s.registers events h → Reaches l t before (seen failures out_old err) (acting s (events ++ rest) h)
      → Performs l t before (seen failures out_new err) s events h (behind_events s.registers events h) rest result new.composer
  pub moves : (l : Limits) (h : PageHistory) → StandFor l h old.composer → MovesOn old new result

-- A formatter performed an event, with what comes before it, as far as the answer says: for each state of a run that has it in front
-- of others to do.
pub record PerformsOne (e : PageEvent) (old new : Formatter) (out_old out_new : Sunk) (result : Result (Option Sprung) Halt) : Type 0 where
  pub one : (l : Limits) (t : Beginning) (before : Seen) (failures : ℕ) (err : Sunk) (s : State) (h : PageHistory) (rest : List PageEvent)
      → StandFor l h old.composer → Reaches l t before (seen failures out_old err) (acting s (e ∷ rest) h)
      → Performs l t before (seen failures out_new err) s (e ∷ []) h (behind_event s.registers e h) rest result new.composer
  pub moves : (l : Limits) (h : PageHistory) → StandFor l h old.composer → MovesOn old new result

-- The same of a title of this text, with the page's number in this format, where the registers of a run say that.
pub record PerformsTitle (which : WhichTitle) (text : TitleText) (format : Format) (old new : Formatter) (out_old out_new : Sunk) (result : Result (Option Sprung) Halt) : Type 0 where
  pub title : (l : Limits) (t : Beginning) (before : Seen) (failures : ℕ) (err : Sunk) (s : State) (h : PageHistory) (rest : List PageEvent)
      → StandFor l h old.composer → title_told s.registers which ≡ record { text = text; format = format }
      → Reaches l t before (seen failures out_old err) (acting s (Title which ∷ rest) h)
      → Performs l t before (seen failures out_new err) s (Title which ∷ []) h (behind_event s.registers (Title which) h) rest result new.composer
  pub moves : MovesOn old new result

-- The same where no page begins before it.
pub record PlacesTitle (which : WhichTitle) (text : TitleText) (format : Format) (old new : Formatter) (out_old out_new : Sunk) (result : Result (Option Sprung) Halt) : Type 0 where
  pub places : (l : Limits) (t : Beginning) (before : Seen) (failures : ℕ) (err : Sunk) (s : State) (h : PageHistory) (rest : List PageEvent)
      → StandFor l h old.composer → title_told s.registers which ≡ record { text = text; format = format } → next h (Title which) ≡ None
      → Reaches l t before (seen failures out_old err) (acting s (Title which ∷ rest) h)
      → Performs l t before (seen failures out_new err) s (Title which ∷ []) h (told s.registers (Title which) ∷ h) rest result new.composer
  pub stops : StopsBehind result

-- The end of the open word, where it comes before an event, was performed, with what comes before it: for each state of a run that
-- has that event in front of others to do. Where a macro springs the event is left.
pub record EndsWordFirst (old new : Formatter) (out_old out_new : Sunk) (result : Result (Option Sprung) Halt) : Type 0 where
  pub first : (l : Limits) (t : Beginning) (before : Seen) (failures : ℕ) (err : Sunk) (s : State) (h : PageHistory) (e : PageEvent) (rest : List PageEvent)
      → StandFor l h old.composer → word_end_of h e ≡ Some (Text WordEnd)
      → Reaches l t before (seen failures out_old err) (acting s (e ∷ rest) h)
      → EndsBefore l t before (seen failures out_new err) s e h (behind_event s.registers (Text WordEnd) h) rest (first_left result) new.composer
  pub closes : result ≡ Ok None → (l : Limits) (h : PageHistory) → StandFor l h old.composer → has_open_word (text_of h) ≡ true → open_weight new.composer ≡ 0
  pub moves : (l : Limits) (h : PageHistory) → StandFor l h old.composer → has_open_word (text_of h) ≡ true → MovesOn old new (first_left result)

-- The open word, if there was one, has ended where it comes before an event: for each state of a run that has that in front of
-- others to do, and before which it comes where one is open. Where a macro springs the event is left.
pub record EndsOpenWord (old new : Formatter) (out_old out_new : Sunk) (result : Result (Option Sprung) Halt) : Type 0 where
  pub ends : (l : Limits) (t : Beginning) (before : Seen) (failures : ℕ) (err : Sunk) (s : State) (h : PageHistory) (e : PageEvent) (rest : List PageEvent)
      → StandFor l h old.composer → word_end_of h e ≡ own_word_end (has_open_word (text_of h))
      → Reaches l t before (seen failures out_old err) (acting s (e ∷ rest) h)
      → EndsBefore l t before (seen failures out_new err) s e h (behind_word s.registers (has_open_word (text_of h)) h) rest result new.composer
  pub closes : result ≡ Ok None → (l : Limits) (h : PageHistory) → StandFor l h old.composer → open_weight new.composer ≤ open_weight old.composer
  pub moves : (l : Limits) (h : PageHistory) → StandFor l h old.composer → MovesOn old new result
