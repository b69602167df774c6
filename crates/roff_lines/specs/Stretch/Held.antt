-- What a buffer of the environment holds.
use Rattle.std.specs.Prelude.{◌≡◌, ℕ, ◌+◌, ◌≤◌, List, length, take, vec_capacity}
use Rattle.roff_lines.specs.declared.stretch.Stretch.TheInside.{Inside}
use Rattle.page_model.specs.Glyphs.{text_width, gaps_in}

-- a part of a line's text, and how many bytes it has room for
pub record Held : Type 0 where
  pub text : List ℕ
  pub room : ℕ

-- the text in front of the buffer
abbrev pub text_held : Inside → List ℕ
text_held a = take a.len a.bytes.items

-- what the buffer holds
abbrev pub held_by : Inside → Held
held_by a = record { text = text_held a; room = a.room }

-- the room is reserved, and a step behind it; the text is in the buffer, and the counts are its
pub record IsKept (a : Inside) : Type 0 where
  pub reserved : a.room + 16 ≤ vec_capacity a.bytes
  pub filled : a.len ≤ length a.bytes.items
  pub within : a.len ≤ a.room
  pub width : a.width ≡ text_width (text_held a)
  pub gaps : a.gaps ≡ gaps_in (text_held a)
