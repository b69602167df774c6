-- The three environments: what happened in each of them, its input-line trap, and which one is in force (manual, sections 7.5
-- and 17).
--
-- They stand in a ring: the one in force, the next behind it, and the last, with 0 behind 2.
use Rattle.std.specs.Prelude.{ℕ, ◌-◌, Bool, true, false, List, [], ◌∷◌, nat_lt, Option, Some, None, if◌then◌else◌, ◌==◌}
use Rattle.page_model.specs.Events.{History, is_interrupted}
use Rattle.page_model.specs.declared.event.Event.{Event}
use Rattle.page_model.specs.declared.event.Event.TheVariants.{Count, Interrupt as IsInterrupted}
pub use Rattle.run_model.specs.declared.environment_number.EnvironmentNumber.{EnvironmentNumber}
pub use Rattle.run_model.specs.declared.environment_number.EnvironmentNumber.TheVariants.{Zero, One, Two}
pub use Rattle.run_model.specs.PageEvents.{PageHistory}
use Rattle.run_model.specs.declared.event.PageEvent.TheVariants.{Text, Interrupt, Environment, Back, InputTrap as SetsTrap, Page, Title}
pub use Rattle.run_model.specs.declared.event.InputTrap.{InputTrap}
use Rattle.roff_num.specs.declared.short_name.ShortName.{ShortName}
use Rattle.run_model.specs.declared.line_state.TextLine.{TextLine}

-- what happened in one environment, what stands on its interrupted line, and its input-line trap, if it has one
pub record InEnvironment : Type 0 where
  pub text : History
  pub interrupted : TextLine
  pub input_trap : Option InputTrap

-- the number of the one in force, what happened in each of the three, and the numbers of those that were left for others and
-- aren't gone back to, the newest first
pub record Environments : Type 0 where
  pub number : EnvironmentNumber
  pub in_force : InEnvironment
  pub next : InEnvironment
  pub last : InEnvironment
  pub left : List EnvironmentNumber

-- the number behind another
abbrev pub number_behind : EnvironmentNumber → EnvironmentNumber
number_behind Zero = One
number_behind One = Two
number_behind Two = Zero

-- whether two numbers are the same
abbrev pub is_same : EnvironmentNumber → EnvironmentNumber → Bool
is_same Zero Zero = true
is_same One One = true
is_same Two Two = true
is_same (_) (_) = false

-- the environment of a number, if there is one
abbrev pub environment_numbered : ℕ → Option EnvironmentNumber
environment_numbered n =
    if n == 0 then Some Zero
    else if n == 1 then Some One
    else if n == 2 then Some Two
    else None

-- an environment in which nothing happened
abbrev pub fresh_environment : InEnvironment
fresh_environment = record {
  text = [];
  interrupted = record { has_glyph = false; has_other = false; has_brace = false; leading = 0 };
  input_trap = None;
}

-- at first environment 0 is in force
abbrev pub first_environments : Environments
first_environments = record {
  number = Zero;
  in_force = fresh_environment;
  next = fresh_environment;
  last = fresh_environment;
  left = [];
}

-- an input-line trap behind a text line that counts: with the last of its lines it is gone
abbrev pub counted_down : Option InputTrap → Option InputTrap
counted_down None = None
counted_down (Some trap) = if nat_lt 1 trap.lines then Some (record trap { lines = trap.lines - 1 }) else None

-- the macro that a text line springs as it counts, if it is the last one that the trap waits for
abbrev pub trap_reached : Option InputTrap → Option ShortName
trap_reached None = None
trap_reached (Some trap) = if nat_lt 1 trap.lines then None else Some trap.name

-- an input-line trap behind an event: it counts text lines as centring does
abbrev pub trap_behind : Event → Option InputTrap → Option InputTrap
trap_behind Count trap = counted_down trap
trap_behind (_) trap = trap

-- something happens in an environment
abbrev pub happened : Event → InEnvironment → InEnvironment
happened e here = record here { text = e ∷ here.text; input_trap = trap_behind e here.input_trap }

-- something happens in the environment in force
abbrev pub with_event : Event → Environments → Environments
with_event e es = record es { in_force = happened e es.in_force }

-- its line is interrupted, on which this stands
abbrev pub with_interruption : TextLine → Environments → Environments
with_interruption line es =
    record es { in_force = record es.in_force { text = IsInterrupted ∷ es.in_force.text; interrupted = line } }

-- `it`: its input-line trap is this one from now on, or it has none
abbrev pub with_input_trap : Option InputTrap → Environments → Environments
with_input_trap trap es = record es { in_force = record es.in_force { input_trap = trap } }

-- the ring turned, so that the next one is in force
abbrev pub ring_turned : Environments → Environments
ring_turned es = record es { number = number_behind es.number; in_force = es.next; next = es.last; last = es.in_force }

-- the ring turned once more, unless this one is in force
abbrev pub ring_turned_unless : Bool → Environments → Environments
ring_turned_unless is_there es = if is_there then es else ring_turned es

-- the ring turned until this one is in force
abbrev pub turned_to : EnvironmentNumber → Environments → Environments
turned_to number es =
    let once : Environments = ring_turned_unless (is_same es.number number) es in ring_turned_unless (is_same once.number number) once

-- `ev` with a number: the one in force is left for another
abbrev pub switched_to : EnvironmentNumber → Environments → Environments
switched_to number es = turned_to number (record es { left = es.number ∷ es.left })

-- `ev` without a number, by those that were left: the newest of them is gone back to
abbrev pub gone_back : List EnvironmentNumber → Environments → Environments
gone_back [] es = es
gone_back (number ∷ left) es = turned_to number (record es { left = left })

-- the environments behind a page's history
abbrev pub environments : PageHistory → Environments
environments [] = first_environments
environments (Text e ∷ h) = with_event e (environments h)
environments (Interrupt line ∷ h) = with_interruption line (environments h)
environments (Environment number ∷ h) = switched_to number (environments h)
environments (Back ∷ h) = gone_back (environments h).left (environments h)
environments (SetsTrap trap ∷ h) = with_input_trap trap (environments h)
environments (Page e ∷ h) = environments h
environments (Title t ∷ h) = environments h

-- what happened in the environment in force
abbrev pub text_of : PageHistory → History
text_of h = (environments h).in_force.text

-- the interrupted line of an environment, if one is to go on there
abbrev pub line_to_go_on : InEnvironment → Option TextLine
line_to_go_on e = if is_interrupted e.text then Some e.interrupted else None

-- that of the environment in force
abbrev pub interrupted_line : PageHistory → Option TextLine
interrupted_line h = line_to_go_on (environments h).in_force
