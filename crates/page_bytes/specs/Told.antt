-- What a sink of messages tells, and how much room it has.
use Rattle.page_bytes.specs.Sinks.{Sunk, with_room}
use Rattle.page_bytes.specs.declared.message_sink.MessageSink as message_sink

-- both, as a sink in this state tells them
abbrev pub told_by : {E : Type 0} → message_sink.Ghosts E → E → Sunk
told_by e err = with_room (e.sunk err) (e.room err)
