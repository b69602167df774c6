-- Why a run can't go on, as the definition has it, before that is told.
use Rattle.std.specs.Prelude.{◌≡◌, ◌⊎◌, ℕ, ◌≤◌, [], None}
use Rattle.std.specs.Io.KnownBytes.{Appends}
use Rattle.roff_num.specs.declared.limit.Limit.{Limit}
use Rattle.roff_num.specs.declared.limits.Limits.{Limits}
use Rattle.input_source.specs.Tape.{Tape}
use Rattle.run_events.specs.declared.halt.Halt.{Halt}
use Rattle.run_events.specs.declared.halt.Halt.TheVariants.{Limit as Limited, Refused, Over, Output, Messages}
use Rattle.run_items.specs.Outcome.{Beginning, Completes, Seen, IsLeftOf, Reaches, OutputStops, MessagesFail}
use Rattle.run_model.specs.declared.status.Status.TheVariants.{Device, Done}
use Rattle.run_model.specs.Run.{State, initial, told_step, stopped_by, output, reported}

-- the definition stops at a limit in the step behind a state of this line
pub record LimitStops (l : Limits) (t : Beginning) (left : Tape) (line : ℕ) (limit : Limit) (before now : Seen) : Type 0 where
  pub state : State
  pub reaches : Reaches l t before now state
  pub goes_on : state.ended ≡ None
  pub stops : told_step l state ≡ stopped_by l limit state
  pub rest : IsLeftOf left state.tape
  pub quiet : state.last_message ≡ []
  pub line_is : state.input.line ≡ line

-- a limit refused what was given to the run, which stops before its first step, at a state of this line in which nothing happened
-- yet: its source wasn't asked
pub record StartStops (l : Limits) (t : Beginning) (left : Tape) (line : ℕ) (limit : Limit) (before now : Seen) : Type 0 where
  pub state : State
  pub stops : initial l t.start t.tape ≡ stopped_by l limit state
  pub text : output state ≡ []
  pub messages : state.messages ≡ []
  pub source : before.failures ≤ now.failures
  pub out : now.out ≡ before.out
  pub err : now.err ≡ before.err
  pub rest : left ≡ t.tape
  pub unread : state.tape ≡ t.tape
  pub line_is : state.input.line ≡ line

-- the output failed in the step behind a state of this line
pub record OutputStopsAt (l : Limits) (t : Beginning) (left : Tape) (line : ℕ) (before now : Seen) : Type 0 where
  pub state : State
  pub stops : OutputStops l t before now state
  pub messages : Appends before.err.contents now.err.contents (reported state)
  pub messages_stay : now.err.failures ≡ before.err.failures
  pub rest : IsLeftOf left state.tape
  pub line_is : state.input.line ≡ line

-- The line of a message that tells why a run can't go on: a refused item isn't taken, and the byte before it stood on
-- the first line; the last byte taken stood on the second.
abbrev pub line_told : Halt → ℕ → ℕ → ℕ
line_told (Refused limit) line_before line = line_before
line_told (_) line_before line = line

-- why the run can't go on, before that is reported
abbrev pub Halts : Limits → Beginning → Tape → ℕ → Halt → Seen → Seen → Type 0
Halts l t left line (Limited limit) before now = LimitStops l t left line limit before now
Halts l t left line (Refused limit) before now = LimitStops l t left line limit before now ⊎ StartStops l t left line limit before now
Halts l t left line Output before now = OutputStopsAt l t left line before now
Halts l t left line Over before now = Completes l t left Done before now
Halts l t left line Messages before now = MessagesFail l t left Device before now
