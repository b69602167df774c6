-- What the devices of a run have seen.
use Rattle.std.specs.Prelude.{◌≡◌, ℕ, ◌≤◌, List, ◌++◌, Option}
use Rattle.std.specs.Io.KnownBytes.{Appends}
use Rattle.page_bytes.specs.Sinks.{Sunk}

-- how many faults the source has had, and what the sinks tell
pub record Seen : Type 0 where
  pub failures : ℕ
  pub out : Sunk
  pub err : Sunk

-- devices that have seen this
abbrev pub seen : ℕ → Sunk → Sunk → Seen
seen failures out err = record { failures = failures; out = out; err = err }

-- no sink has had a fault since, and the source no fewer than before
pub record NoSinkFault (before now : Seen) : Type 0 where
  pub source : before.failures ≤ now.failures
  pub out : now.out.failures ≡ before.out.failures
  pub err : now.err.failures ≡ before.err.failures

-- what was written begins with one text, and is a beginning of another that goes on from it
pub record AppendsBetween (old new : Option (List ℕ)) (least most : List ℕ) : Type 0 where
  pub front : List ℕ
  pub back : List ℕ
  pub split : most ≡ least ++ (front ++ back)
  pub written : Appends old new (least ++ front)
