-- What a run is told of a sink in memory that is watched.
use Rattle.std.specs.Prelude.{◌≡◌, ℕ, ◌≤◌, List, [], ◌∷◌, ◌++◌, length, Some, None}
use Rattle.std.specs.Option.{option_to_list}
use Rattle.page_bytes.specs.Sinks.{Sunk}
use Rattle.cli_devices.specs.Memory.{faults_of, kept_by, room_of}
use Rattle.cli_devices.specs.declared.watched.WatchedSink.{WatchedSink}

-- the bytes that it was given, up to the first that had no room
abbrev pub given_to : WatchedSink → List ℕ
given_to w = kept_by w.sink ++ option_to_list w.overflow

-- Its room, and behind it those bytes. A run only appends to what it is told, so the room stays.
abbrev pub told_by : WatchedSink → Sunk
told_by w = record { contents = Some (room_of w.sink ∷ given_to w); failures = faults_of w.sink; room = 0 }

-- what is told of a sink with so much room that was given nothing
abbrev pub nothing_told : ℕ → Sunk
nothing_told room = record { contents = Some (room ∷ []); failures = 0; room = 0 }

-- it keeps no more than it has room for, is full where a byte had no room, and had no fault where each had
pub record IsSound (w : WatchedSink) : Type 0 where
  pub within : length (kept_by w.sink) ≤ room_of w.sink
  pub full : (byte : ℕ) → w.overflow ≡ Some byte → length (kept_by w.sink) ≡ room_of w.sink
  pub faultless : w.overflow ≡ None → faults_of w.sink ≡ 0
