-- A buffer in front of a writer.
use Rattle.std.specs.Prelude.{◌≡◌, ℕ, ◌-◌, List, drop, length, Option, Some, Result, OnErr, OnOk}
use Rattle.std.specs.Io.KnownBytes.{Keeps, append_known}
use Rattle.cli_devices.specs.declared.buffered.Buffered.{Buffered}
use Rattle.page_bytes.specs.declared.sink.SinkFault.{SinkFault}
use Rattle.page_bytes.specs.Sinks.{CountsFault, Sunk}

-- the writer behind it
abbrev pub writer_of : {W : Type 0} → Buffered W → W
writer_of s = s.writer

-- the bytes that it holds back
abbrev pub held_by : {W : Type 0} → Buffered W → List ℕ
held_by s = drop s.next s.held.items

-- how many bytes there is room for
abbrev pub room_in : {W : Type 0} → Buffered W → ℕ
room_in s = 8192 - length s.held.items

-- a piece was held back whole, and nothing was written out
pub record Holds {W : Type 0} (piece : List ℕ) (old new : Buffered W) (result : Option ℕ) : Type 0 where
  pub whole : result ≡ Some (length piece)
  pub writer : writer_of new ≡ writer_of old

-- what was written to a writer, and then bytes that are held back
abbrev pub with_held : Sunk → List ℕ → Sunk
with_held sunk held = record sunk { contents = append_known sunk.contents held }

-- what it was given: what the writer took, and then what it holds back; the writer's faults are its own
abbrev pub given_to : {W : Type 0} → (W → Sunk) → Buffered W → Sunk
given_to sunk s = with_held (sunk s.writer) (held_by s)

-- the same bytes were given
abbrev pub KeepsGiven : {W : Type 0} → (W → Sunk) → Buffered W → Buffered W → Type 0
KeepsGiven sunk old new = Keeps (given_to sunk old).contents (given_to sunk new).contents

-- some of the bytes that were given are held back still, as the writer failed, once
pub record HoldsStill (given now : Sunk) : Type 0 where
  pub held : List ℕ
  pub written : Keeps given.contents (append_known now.contents held)
  pub fault : CountsFault given.failures now.failures

-- all that was given reached the writer, without a fault
pub record ReachesAll (given now : Sunk) : Type 0 where
  pub written : Keeps given.contents now.contents
  pub failures : now.failures ≡ given.failures

-- a buffer that was given this was flushed, and the writer behind it tells so much now
pub record Finishes (given now : Sunk) (flushed : Result (Unit {0}) SinkFault) : Type 0 where
  pub ok : OnOk flushed (ReachesAll given now)
  pub err : OnErr flushed (HoldsStill given now)
