-- What slots hold.
use Rattle.std.specs.Prelude.{◌≡◌, ℕ, ◌+◌, ◌*◌, ◌≤◌, List, length, reverse, vec_capacity}
use Rattle.input_model.specs.Input.{Ahead, bytes_ahead, ends_ahead, events_ahead, frees_ahead, most_frees}
use Rattle.input_ahead.specs.PushedTexts.Standing.{standing, IsStacked}
use Rattle.input_ahead.specs.declared.pushed_texts.PushedTexts.TheInside.{Inside}

-- what stands ahead of the source; for so many unread bytes, and so many texts, there is room
pub record Held (E : Type 0) : Type 0 where
  pub ahead : List (Ahead E)
  pub most_bytes : ℕ
  pub most_texts : ℕ

-- so many marks are used before no more events are put back: seven for each end, and seven behind the last, beside those of
-- bytes that stand in front again
abbrev pub most_used : ℕ → ℕ
most_used most_texts = 7 * (most_texts + 1) + most_frees

-- so many events may stand ahead, bodies among them
abbrev pub most_marks : ℕ → ℕ
most_marks most_texts = 8 * (most_texts + 1) + most_frees

-- no more stands ahead than there is room for
pub record HasRoom {E : Type 0} (h : Held E) : Type 0 where
  pub bytes : bytes_ahead h.ahead ≤ h.most_bytes
  pub ends : ends_ahead h.ahead ≤ h.most_texts
  pub events : events_ahead h.ahead ≤ most_marks h.most_texts
  pub frees : frees_ahead h.ahead ≤ most_frees

-- what the fields hold
abbrev pub held_by : {E : Type 0} → Inside E → Held E
held_by a = record {
  ahead = standing (reverse a.pushed_texts.items) a.bytes.items;
  most_bytes = a.most_bytes;
  most_texts = a.most_texts;
}

-- the room is reserved, the heights are in order, and the ends are counted
pub record IsSound {E : Type 0} (a : Inside E) : Type 0 where
  pub pushed_texts : a.most_texts + most_marks a.most_texts + most_frees ≤ vec_capacity a.pushed_texts
  pub bytes : a.most_bytes ≤ vec_capacity a.bytes
  pub stacked : IsStacked (reverse a.pushed_texts.items) (length a.bytes.items)
  pub ends : a.ends ≡ ends_ahead (held_by a).ahead
  pub room : HasRoom (held_by a)
