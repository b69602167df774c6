-- What is put within so many bytes: all of a text, or nothing.
use Rattle.std.specs.Prelude.{◌≡◌, ℕ, ◌<◌, ◌≤◌, List, [], length, Result, Ok, Err}
use Rattle.page_bytes.specs.declared.page_fault.PageFault.{PageFault}
use Rattle.page_bytes.specs.declared.page_fault.PageFault.TheVariants.{Output, Sink}
use Rattle.page_bytes.specs.Sinks.{Sunk, Writes, Fails}

-- a text was put, which has so many bytes, and no more than may be
pub record PutsAll (room : ℕ) (text : List ℕ) (count : ℕ) (old new : Sunk) : Type 0 where
  pub counted : count ≡ length text
  pub within : count ≤ room
  pub writes : Writes old new text

-- it has more, and nothing was put
pub record IsTooLong (room : ℕ) (text : List ℕ) (old new : Sunk) : Type 0 where
  pub above : room < length text
  pub unwritten : new ≡ old

-- it has no more, and the sink failed
pub record IsPutInPart (room : ℕ) (text : List ℕ) (old new : Sunk) : Type 0 where
  pub within : length text ≤ room
  pub fails : Fails old new text

-- what became of a text
abbrev pub PutsWithin : ℕ → List ℕ → Result ℕ PageFault → Sunk → Sunk → Type 0
PutsWithin room text (Ok count) old new = PutsAll room text count old new
PutsWithin room text (Err Output) old new = IsTooLong room text old new
PutsWithin room text (Err Sink) old new = IsPutInPart room text old new

-- A line is put at once: all of it stands in the block then, and its bytes are counted. Or it isn't put, as it has more bytes
-- than a block, which is empty; or the sink failed.
pub record PutsAtOnce (old new : Sunk) (line : List ℕ) (result : ℕ) (block : List ℕ) : Type 0 where
  pub writes : 0 < result → Writes old new line
  pub counted : 0 < result → result ≡ length line
  pub within : result ≤ 8192
  pub few : length block ≤ 8192
  pub none : result ≡ 0 → block ≡ [] → new ≡ old
  pub long : result ≡ 0 → block ≡ [] → 8192 < length line
  pub fails : result ≡ 0 → 0 < length block → Fails old new line
  pub held : 0 < length block → block ≡ line
