-- What is taken of a line as a diversion keeps it.
use Rattle.std.specs.Prelude.{◌≡◌, ℕ, ◌+◌, ◌*◌, ◌<◌, ◌≤◌, Bool, not, ◌&&◌, ◌||◌, List, ◌++◌, length, nat_lt, ◌==◌}
use Rattle.std.specs.List.{take_while}
use Rattle.page_model.specs.Columns.{spaces}
use Rattle.page_model.specs.Diverted.{escaped}
use Rattle.page_bytes.specs.LineBytes.Fronts.{is_blank_mark}

-- a piece was taken of the bytes of a line, of so many at most: blanks, each as the two bytes that a diversion keeps of it,
-- and then other bytes; only where nothing is left, or may be taken, it is empty
pub record TakesEscaped (most blanks : ℕ) (glyphs old new : List ℕ) : Type 0 where
  pub whole : escaped (spaces blanks) ++ (glyphs ++ new) ≡ old
  pub within : 2 * blanks + length glyphs ≤ most
  pub some : 0 < most → 0 < length old → 0 < 2 * blanks + length glyphs

-- whether a diversion keeps two bytes of a byte of a line's text
abbrev pub is_doubled : ℕ → Bool
is_doubled b = is_blank_mark b || b == 92

-- whether a diversion keeps a byte above the blank as it is
abbrev pub is_plain : ℕ → Bool
is_plain b = nat_lt 32 b && not (b == 92)

-- the bytes in front that a diversion keeps as they are, up to the first that isn't above the blank
abbrev pub plain_in_front : List ℕ → List ℕ
plain_in_front bytes = take_while is_plain bytes
