-- What of a line's text, and of its bytes, stands in front.
use Rattle.std.specs.Prelude.{◌≡◌, ℕ, ◌+◌, ◌-◌, ◌≤◌, Bool, ◌&&◌, ◌||◌, List, [], ◌∷◌, ◌++◌, length, take, drop, nat_le, if◌then◌else◌, ◌==◌}
use Rattle.std.specs.List.{take_while}
use Rattle.page_model.specs.Glyphs.{gap_blank, further_blank, glyph_blank}
use Rattle.page_model.specs.Words.{is_empty}
use Rattle.roff_lines.specs.GlyphsInFront.{glyphs_in_front}
use Rattle.page_model.specs.Columns.{spaces, spread}

-- whether a byte of a text stands for a blank
abbrev pub is_blank_mark : ℕ → Bool
is_blank_mark b = b == gap_blank || (b == further_blank || b == glyph_blank)

-- what is written for a byte of a text where nothing is added to a gap
abbrev pub written_mark : ℕ → ℕ
written_mark b = if nat_le b 1 then 32 else b

-- a line's text without its trailing blanks
abbrev pub without_blanks : List ℕ → List ℕ
without_blanks [] = []
without_blanks (b ∷ text) =
    let rest = without_blanks text in if is_blank_mark b && is_empty rest then [] else b ∷ rest

-- the blanks in front
abbrev pub blanks_in_front : List ℕ → List ℕ
blanks_in_front bytes = take_while (λ b. b == 32) bytes

-- a piece was taken of a line's bytes, of so many at most: the blanks in front, as many as may be, and
-- then the glyphs behind them, as many as may be
pub record TakesPiece (most blanks : ℕ) (glyphs old new : List ℕ) : Type 0 where
  pub whole : spaces blanks ++ (glyphs ++ new) ≡ old
  pub within : blanks + length glyphs ≤ most
  pub in_front : spaces blanks ≡ take most (blanks_in_front old)
  pub behind : glyphs ≡ take (most - blanks) (glyphs_in_front (drop blanks old))

-- the first of the bytes to come were added to those that are held
pub record Moves (held held_then to_come to_come_then : List ℕ) : Type 0 where
  pub moved : List ℕ
  pub added : held_then ≡ held ++ moved
  pub taken : moved ++ to_come_then ≡ to_come

-- the first of the bytes to come were written, from a place on to another one
pub record WritesOver (start end : ℕ) (out out_then to_come to_come_then : List ℕ) : Type 0 where
  pub moved : List ℕ
  pub within : end ≤ length out_then
  pub written : take end out_then ≡ take start out ++ moved
  pub taken : moved ++ to_come_then ≡ to_come

-- so many bytes of a text were written so from a place on, behind so many gaps, and so many gaps are behind them
pub record SpreadsOver (spare gaps passed passed_then taken start end : ℕ) (text out out_then : List ℕ) : Type 0 where
  pub moved : List ℕ
  pub place : end ≡ start + length moved
  pub within : end ≤ length out_then
  pub written : take end out_then ≡ take start out ++ moved
  pub rest : moved ++ spread spare gaps passed_then (drop taken text) ≡ spread spare gaps passed text
