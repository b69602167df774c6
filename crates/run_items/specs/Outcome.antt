-- How a run of the code stands to the run of the definition.
use Rattle.std.specs.Prelude.{◌≡◌, ◌⊎◌, true, List, [], ◌++◌, Some, None, IsSome}
use Rattle.std.specs.Io.KnownBytes.{Appends}
use Rattle.roff_num.specs.declared.limits.Limits.{Limits}
use Rattle.input_source.specs.Tape.{Tape, Item, Took, behind_front, items_then}
use Rattle.roff_num.specs.Faults.{Rises}
use Rattle.run_model.specs.declared.status.Status.{Status}
use Rattle.run_model.specs.declared.status.Status.TheVariants.{Aborted, Done, Device, Limit as Limited}
use Rattle.run_model.specs.declared.start.Start.{Start}
use Rattle.run_model.specs.declared.message.Message.TheVariants.{WriteFailed}
use Rattle.run_model.specs.Messages.{message_line}
use Rattle.run_model.specs.Run.{State, ToldLeads, initial, told_step, output, reported}
pub use Rattle.run_events.specs.Reaching.{Beginning, OutputStops, Reaches}
pub use Rattle.page_bytes.specs.Devices.{AppendsBetween, NoSinkFault, Seen, seen}
use Rattle.page_bytes.specs.Sinks.{CountsFault}

-- the run of the definition, whose messages are bounded, comes to this state, and what it wrote and reported until then was
-- written and reported
pub record Arrives (l : Limits) (t : Beginning) (before now : Seen) (s : State) : Type 0 where
  pub comes : ToldLeads l (initial l t.start t.tape) s
  pub text : Appends before.out.contents now.out.contents (output s)
  pub messages : Appends before.err.contents now.err.contents (reported s)
  pub faults : NoSinkFault before now

-- The output failed in the step that the run made from this state: what was written begins with the text
-- of all steps before it and is a beginning of that text with the step's own.
pub record StopsWriting (l : Limits) (t : Beginning) (before now : Seen) (s : State) : Type 0 where
  pub comes : ToldLeads l (initial l t.start t.tape) s
  pub goes_on : s.ended ≡ None
  pub text : AppendsBetween before.out.contents now.out.contents (output s) (output (told_step l s))
  pub fault : CountsFault before.out.failures now.out.failures

-- what is left of a source whose tape this would be: all of it, or all but the item in front, which was looked at
abbrev pub IsLeftOf : Tape → Tape → Type 0
IsLeftOf left tape = (left ≡ tape) ⊎ (left ≡ behind_front tape)

-- a run that ended so, in this state, may have looked at the item in front: a limit stopped it, or it was aborted, or it
-- left its input
abbrev pub MayHaveLooked : Status → State → Type 0
MayHaveLooked Done s = s.is_closed ≡ true
MayHaveLooked Device s = ⊥
MayHaveLooked Aborted s = Unit {0}
MayHaveLooked (Limited limit) s = Unit {0}

-- what is left behind the last state of a run that ended so: its tape, perhaps without an item that was looked at
abbrev pub IsRest : Status → Tape → State → Type 0
IsRest status left s = (left ≡ s.tape) ⊎ (MayHaveLooked status s × (left ≡ behind_front s.tape))

-- The run ended by itself, with all of it written and reported without a fault of a sink, and left the tape of its last state; where it didn't
-- come to its source's end perhaps without the item in front, which was looked at. If by a fault, the source's: its count
-- rose.
pub record Completes (l : Limits) (t : Beginning) (left : Tape) (status : Status) (before now : Seen) : Type 0 where
  pub state : State
  pub reaches : Arrives l t before now state
  pub ended : state.ended ≡ Some status
  pub rest : IsRest status left state
  pub fault : status ≡ Device → Rises before.failures now.failures

-- The run ended as the output failed, once. The fault is reported with the line of that step; of this
-- message a beginning alone was written if the message sink failed too.
pub record OutputFails (l : Limits) (t : Beginning) (left : Tape) (status : Status) (before now : Seen) : Type 0 where
  pub is_device : status ≡ Device
  pub state : State
  pub stops : StopsWriting l t before now state
  pub rest : IsLeftOf left state.tape
  pub messages : let told = reported state ++ message_line state.input.line WriteFailed in
      (Appends before.err.contents now.err.contents told × (now.err.failures ≡ before.err.failures))
      ⊎ (AppendsBetween before.err.contents now.err.contents (reported state) told
      × CountsFault before.err.failures now.err.failures)

-- The run ended as the message sink failed, once, in the step that the run made from this state: what was
-- reported begins with the messages of all steps before it and is a beginning of these with the step's
-- own. The text is that of the steps before, and the output had no fault.
pub record MessagesFail (l : Limits) (t : Beginning) (left : Tape) (status : Status) (before now : Seen) : Type 0 where
  pub is_device : status ≡ Device
  pub state : State
  pub comes : ToldLeads l (initial l t.start t.tape) state
  pub goes_on : state.ended ≡ None
  pub text : Appends before.out.contents now.out.contents (output state)
  pub messages : AppendsBetween before.err.contents now.err.contents (reported state) (reported (told_step l state))
  pub fault : CountsFault before.err.failures now.err.failures
  pub output_stays : now.out.failures ≡ before.out.failures
  pub rest : IsLeftOf left (told_step l state).tape

-- The run ended before its first step, as a limit refused what was given to it, and the message sink failed, once, as that was told:
-- a beginning of the message was written, and no text. All of its source is left.
pub record StartFails (l : Limits) (t : Beginning) (left : Tape) (status : Status) (before now : Seen) : Type 0 where
  pub is_device : status ≡ Device
  pub refused : IsSome (initial l t.start t.tape).ended
  pub text : Appends before.out.contents now.out.contents []
  pub messages : AppendsBetween before.err.contents now.err.contents [] (reported (initial l t.start t.tape))
  pub fault : CountsFault before.err.failures now.err.failures
  pub output_stays : now.out.failures ≡ before.out.failures
  pub rest : left ≡ t.tape

-- a run with such a beginning, of whose tape this is left, comes to one of these
abbrev pub OutcomeOf : Limits → Beginning → Tape → Status → Seen → Seen → Type 0
OutcomeOf l t left status before now =
    Completes l t left status before now ⊎ OutputFails l t left status before now
    ⊎ MessagesFail l t left status before now ⊎ StartFails l t left status before now

-- the same of what is given, and a tape
abbrev pub Outcome : Limits → Start → Tape → Tape → Status → Seen → Seen → Type 0
Outcome l start t left status before now = OutcomeOf l (record { start = start; tape = t }) left status before now

-- A run over a source that might give the tapes `old` and may now give the tapes `new`. It took items;
-- whatever may still come, the run over these items and then that is the definition's.
pub record Runs (l : Limits) (start : Start) (status : Status) (old new : Tape → Type 0) (before now : Seen) : Type 0 where
  pub taken : List Item
  pub took : Took old new taken
  pub outcome : (left : Tape) → new left → Outcome l start (items_then taken left) left status before now
