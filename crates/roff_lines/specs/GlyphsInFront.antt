-- The glyphs in front of a text.
use Rattle.std.specs.Prelude.{ℕ, List, nat_lt}
use Rattle.std.specs.List.{take_while}

-- the bytes of glyphs in front: those up to the first that isn't above the blank
abbrev pub glyphs_in_front : List ℕ → List ℕ
glyphs_in_front bytes = take_while (λ b. nat_lt 32 b) bytes
