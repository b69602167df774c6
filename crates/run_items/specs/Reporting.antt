-- How messages are told within the limit on them.
use Rattle.std.specs.Prelude.{◌≡◌, ℕ, ◌+◌, ◌≤◌, ◌<◌, List, length, Result, Ok, Err}
use Rattle.roff_num.specs.declared.limit.Limit.TheVariants.{Messages as OnMessages}
use Rattle.run_events.specs.declared.halt.Halt.{Halt}
use Rattle.run_events.specs.declared.halt.Halt.TheVariants.{Limit as Limited, Refused, Over, Output, Messages}
use Rattle.page_bytes.specs.Sinks.{Fails, Sunk, Writes}

-- a piece for which there was room was told
pub record IsTold (old new : Sunk) (piece : List ℕ) : Type 0 where
  pub writes : Writes old new piece
  pub room : new.room + length piece ≡ old.room

-- the sink failed in it
pub record IsLost (old new : Sunk) (piece : List ℕ) : Type 0 where
  pub fails : Fails old new piece
  pub fits : length piece ≤ old.room

-- there was no room for it, and nothing of it was told
pub record HasNoRoom (old new : Sunk) (piece : List ℕ) : Type 0 where
  pub stays : new ≡ old
  pub passes : old.room < length piece

-- how a piece was told, by the answer
abbrev pub Tells : Sunk → Sunk → List ℕ → Result (Unit {0}) Halt → Type 0
Tells old new piece (Ok done) = IsTold old new piece
Tells old new piece (Err Messages) = IsLost old new piece
Tells old new piece (Err (Refused limit)) = (limit ≡ OnMessages) × HasNoRoom old new piece
Tells old new piece (Err (Limited limit)) = ⊥
Tells old new piece (Err Output) = ⊥
Tells old new piece (Err Over) = ⊥
