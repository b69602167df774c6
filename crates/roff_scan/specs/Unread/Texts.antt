-- Texts that are counted as if they had been put in front and read.
use Rattle.std.specs.Prelude.{◌≡◌, ◌<◌, ◌≤◌, ℕ, ◌+◌}
use Rattle.input_model.specs.Input.{depth, pushed}
use Rattle.input_model.specs.Unread.{Unread}

-- the limits have room for a text of so many bytes in front and its end, and for so many bytes more behind it
pub record HasRoomFor {E : Type 0} (len more : ℕ) (u : Unread E) : Type 0 where
  pub stack : pushed u.input + len ≤ u.limits.stack
  pub shallow : depth u.input < u.limits.depth
  pub bytes : u.input.charge + len + 1 + more ≤ u.limits.bytes

-- they had, and the text and its end count as taken
pub record CountsText {E : Type 0} (len more : ℕ) (before after : Unread E) : Type 0 where
  pub room : HasRoomFor len more before
  pub counted : after ≡ record before { input = record before.input { charge = before.input.charge + (len + 1) } }
