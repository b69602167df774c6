-- What readers give: bytes, and then their end or an error.
use Rattle.std.specs.Prelude.{ℕ, ◌≤◌, List, length, map, take}
use Rattle.input_source.specs.declared.block_read.Given.{Given}
use Rattle.input_source.specs.declared.block_read.Given.TheVariants.{Bytes, Nothing, Error}
use Rattle.input_source.specs.Tape.{Tape, OneByte, Ended, Failed, items_then, only}

-- a tape that may be given
pub record SomeTape (gives : Tape → Type 0) : Type 0 where
  pub tape : Tape
  pub given : gives tape

-- a read gave so many bytes, one at least, and they stand in front of the block; what the reader may give behind them it
-- might have given with them in front
pub record GivesBytes (old new : Tape → Type 0) (block : List ℕ) (count : ℕ) : Type 0 where
  pub some : 1 ≤ count
  pub within : count ≤ length block
  pub before : (t : Tape) → new t → old (items_then (map OneByte (take count block)) t)

-- what one read did: it gave bytes, or the end or an error came, which might have come at once
abbrev pub Reads : (Tape → Type 0) → (Tape → Type 0) → List ℕ → Given → Type 0
Reads old new block (Bytes count) = GivesBytes old new block count
Reads old new block Nothing = old (only Ended)
Reads old new block Error = old (only Failed)
