-- How far a run of the definition has come, by what its sinks have seen.
use Rattle.std.specs.Prelude.{◌≡◌, ◌+◌, length, None}
use Rattle.std.specs.Io.KnownBytes.{Appends}
use Rattle.roff_num.specs.declared.limits.Limits.{Limits}
use Rattle.input_source.specs.Tape.{Tape}
use Rattle.run_model.specs.declared.start.Start.{Start}
use Rattle.run_model.specs.Run.{State, Leads, initial, step, output, reported}
use Rattle.page_bytes.specs.Devices.{AppendsBetween, NoSinkFault, Seen}
use Rattle.page_bytes.specs.Sinks.{CountsFault}

-- what a run begins with: what is given to it, and its tape
pub record Beginning : Type 0 where
  pub start : Start
  pub tape : Tape

-- the run of the definition comes to this state, and what it wrote and reported until then was
-- written and reported; of the limit on messages so much is left as there is room for
pub record Reaches (l : Limits) (t : Beginning) (before now : Seen) (s : State) : Type 0 where
  pub comes : Leads l (initial l t.start t.tape) s
  pub text : Appends before.out.contents now.out.contents (output s)
  pub messages : Appends before.err.contents now.err.contents (reported s)
  pub faults : NoSinkFault before now
  pub room : now.err.room + length (reported s) ≡ l.messages

-- The output failed in the step that the run made from this state: what was written begins with the text
-- of all steps before it and is a beginning of that text with the step's own, which tells no message.
pub record OutputStops (l : Limits) (t : Beginning) (before now : Seen) (s : State) : Type 0 where
  pub comes : Leads l (initial l t.start t.tape) s
  pub goes_on : s.ended ≡ None
  pub text : AppendsBetween before.out.contents now.out.contents (output s) (output (step l s))
  pub fault : CountsFault before.out.failures now.out.failures
  pub quiet : (step l s).messages ≡ s.messages
  pub room : now.err.room + length (reported s) ≡ l.messages
