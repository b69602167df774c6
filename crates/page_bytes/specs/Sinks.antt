-- What sinks tell of what was written to them.
use Rattle.std.specs.Prelude.{◌≡◌, ℕ, ◌+◌, List, ◌++◌, Option, Result, OnOk, OnErr, min}
use Rattle.std.specs.Io.KnownBytes.{Appends, Keeps}
use Rattle.roff_num.specs.Faults.{last_count}

-- what a sink tells: the bytes that were written, where it tells them, how many faults it had, and of a sink of messages how many
-- bytes more it may be given
pub record Sunk : Type 0 where
  pub contents : Option (List ℕ)
  pub failures : ℕ
  pub room : ℕ

-- what is told of a sink with room for so many bytes more
abbrev pub with_room : Sunk → ℕ → Sunk
with_room s room = record s { room = room }

-- one fault more was counted, unless the count stood at its last value
abbrev pub CountsFault : ℕ → ℕ → Type 0
CountsFault old new = new ≡ min (old + 1) last_count

-- all of a piece was written, without a fault
pub record Writes (old new : Sunk) (piece : List ℕ) : Type 0 where
  pub written : Appends old.contents new.contents piece
  pub failures : new.failures ≡ old.failures

-- nothing was written, as the writer failed, once
pub record FailsOnce (old new : Sunk) : Type 0 where
  pub kept : Keeps old.contents new.contents
  pub fault : CountsFault old.failures new.failures

-- all of a piece was written but its end, which is held back
pub record HoldsBack (old new : Sunk) (piece held : List ℕ) : Type 0 where
  pub front : List ℕ
  pub split : piece ≡ front ++ held
  pub writes : Writes old new front

-- a beginning of a piece was written, and no more
pub record AppendsFront (old new : Option (List ℕ)) (piece : List ℕ) : Type 0 where
  pub front : List ℕ
  pub back : List ℕ
  pub split : piece ≡ front ++ back
  pub written : Appends old new front

-- a beginning of a piece was written as the sink failed, once
pub record Fails (old new : Sunk) (piece : List ℕ) : Type 0 where
  pub written : AppendsFront old.contents new.contents piece
  pub fault : CountsFault old.failures new.failures

-- a piece was put: all of it was written, or a beginning as the sink failed
pub record Puts {F : Type 0} (old new : Sunk) (piece : List ℕ) (result : Result (Unit {0}) F) : Type 0 where
  pub ok : OnOk result (Writes old new piece)
  pub err : OnErr result (Fails old new piece)
