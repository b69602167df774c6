-- Buffers that have bytes behind a text.
use Rattle.std.specs.Prelude.{◌≡◌, ℕ, ◌≤◌, List, length, take}

-- the bytes that stood there stand there still, in front
abbrev pub Keeps : List ℕ → List ℕ → Type 0
Keeps old new = (n : ℕ) → n ≤ length old → take n new ≡ take n old
