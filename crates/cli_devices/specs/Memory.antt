-- The devices in memory, and a source over a reader.
use Rattle.std.specs.Prelude.{◌≡◌, ℕ, ◌≤◌, ◌++◌, ◌↔◌, IsOk, Result, List, length, map, nat_le, take, Option, Some, None, if◌then◌else◌}
use Rattle.cli_devices.specs.declared.memory.MemSink.{MemSink}
use Rattle.cli_devices.specs.declared.memory.MemSource.{MemSource}
use Rattle.page_bytes.specs.declared.sink.SinkFault.{SinkFault}
use Rattle.page_bytes.specs.Sinks.{Sunk}
use Rattle.input_source.specs.Tape.{Tape, OneByte, Ending, Ended, Failed}

-- how a source in memory ends
abbrev pub ending_of : MemSource → Ending
ending_of s = if s.fails then Failed else Ended

-- the tape of a source in memory
abbrev pub tape_of : MemSource → Tape
tape_of s = record { items = map OneByte s.rest.now; ending = ending_of s }

-- how many faults a source in memory had
abbrev pub faults_of_source : MemSource → ℕ
faults_of_source s = s.failures

-- the tape of these bytes, that fails behind so many of them if there are so many
abbrev pub tape_of_bytes : List ℕ → Option ℕ → Tape
tape_of_bytes bytes None = record { items = map OneByte bytes; ending = Ended }
tape_of_bytes bytes (Some count) =
    if nat_le count (length bytes)
    then record { items = map OneByte (take count bytes); ending = Failed }
    else record { items = map OneByte bytes; ending = Ended }

-- for how many bytes a sink in memory has room, in all
abbrev pub room_of : MemSink → ℕ
room_of s = s.cap

-- what a sink in memory has kept
abbrev pub kept_by : MemSink → List ℕ
kept_by s = s.kept.items

-- how many faults it had
abbrev pub faults_of : MemSink → ℕ
faults_of s = s.failures

-- what a sink in memory tells: what it has kept, and how many faults it had
abbrev pub sunk_of : MemSink → Sunk
sunk_of s = record { contents = Some (kept_by s); failures = faults_of s; room = 0 }

-- a piece that a sink in memory was given: all of it is kept if there is room, and else as much of it as there is
-- room for, and that is a fault
pub record KeepsWithin (old new : MemSink) (r : Result (Unit {0}) SinkFault) (piece : List ℕ) : Type 0 where
  pub room : room_of new ≡ room_of old
  pub kept : kept_by new ≡ take (room_of old) (kept_by old ++ piece)
  pub fits : IsOk r ↔ (length (kept_by old ++ piece) ≤ room_of old)
