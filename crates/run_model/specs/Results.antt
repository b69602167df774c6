-- What a whole run gives, of which the messages are bounded: where it ends, and what it wrote, reported, answered and left until then.
use Rattle.std.specs.Prelude.{ℕ, zero, suc, ◌+◌, ◌*◌, List, length, Option, Some, None}
use Rattle.roff_num.specs.declared.limits.Limits.{Limits}
use Rattle.run_model.specs.declared.start.Start.{Start}
use Rattle.run_model.specs.declared.status.Status.{Status}
use Rattle.run_model.specs.Run.{State, initial, told_step, told_after, output, reported}
use Rattle.input_source.specs.Tape.{Tape}

-- one turn: all events to do are performed, each with what comes before it, texts of diversions change, and what sprang is put in
-- front; then an item is taken, the end is met, or the run ends
abbrev pub turn : Limits → State → State
turn l s = told_step l (told_after l (6 * length s.to_do + 2) s)

-- so many turns, or fewer where the run has ended before
abbrev pub turns : Limits → ℕ → State → State
turns l zero s = s
turns l (suc n) s = elim s.ended [ None ↦ turns l n (turn l s) | Some status ↦ s ]

-- The state in which a run ends: what is charged takes a turn, and may begin something whose end takes four more; each item of
-- the source that isn't charged takes one. Each of these may leave a line unfinished, and one interrupted, whose ends with
-- the input take a turn: four for one are enough. The ends of the input, of the last macro and of the run take five more at the most.
abbrev pub last_state : Limits → Start → Tape → State
last_state l start tape = turns l (4 * (5 * l.bytes + length tape.items) + 5) (initial l start tape)

-- what a run writes
abbrev pub output_of : Limits → Start → Tape → List ℕ
output_of l start tape = output (last_state l start tape)

-- what it reports
abbrev pub messages_of : Limits → Start → Tape → List ℕ
messages_of l start tape = reported (last_state l start tape)

-- what it reports without the message that says why it ended, if there is one
abbrev pub messages_on_the_way : Limits → Start → Tape → List ℕ
messages_on_the_way l start tape = (last_state l start tape).messages

-- the status with which it ends
abbrev pub status_of : Limits → Start → Tape → Option Status
status_of l start tape = (last_state l start tape).ended

-- the items that it doesn't take, and how they end
abbrev pub rest_of : Limits → Start → Tape → Tape
rest_of l start tape = (last_state l start tape).tape

-- how much it takes: bytes, ends of pushed texts, events put back
abbrev pub charge_of : Limits → Start → Tape → ℕ
charge_of l start tape = (last_state l start tape).input.charge
