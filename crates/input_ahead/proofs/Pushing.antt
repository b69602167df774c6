-- Texts and bytes are put in front of what slots hold.
use Rattle.std.proofs.Common.{◌≡◌, ◌<◌, ◌≤◌, ◌+◌, ℕ, List, [], ◌∷◌, ◌++◌, length, length-append, map, refl, arith, reverse}
use Rattle.std.proofs.lemmas.List.{length-reverse}
use Rattle.input_model.specs.Input.{ByteAhead, FreeAhead, EndAhead, bytes_ahead, ends_ahead, frees_ahead, most_frees}
use Rattle.input_ahead.specs.PushedTexts.Held.{Held, HasRoom}
use Rattle.input_ahead.specs.PushedTexts.Standing.{standing, IsStacked}
use Rattle.input_ahead.specs.declared.pushed_texts.MarkAt.{MarkAt}
use Rattle.input_model.proofs.Counts.{bytes_ahead-bytes, ends_ahead-bytes, events_ahead-bytes, frees_ahead-bytes, bytes_ahead-frees, ends_ahead-frees, events_ahead-frees, frees_ahead-frees}
use Rattle.input_ahead.proofs.Standing.{standing-text, IsStacked-more}

module _ {E : Type 0} where
  module _ (old new : List (MarkAt E)) (bytes seen more text : List ℕ) (same : seen ≡ bytes) (longer : more ≡ bytes ++ reverse text)
      (some : 0 < length new) (stacked : IsStacked (reverse new) (length seen)) where
    -- something is there, from either end
    some_reversed : 0 < length (reverse new)
    some_reversed = rw length-reverse some

    -- the end was put in front, and then the text's bytes
    pub standing-pushed : standing (reverse new) seen ≡ EndAhead ∷ standing (reverse old) seen
        → standing (reverse new) more ≡ map ByteAhead text ++ EndAhead ∷ standing (reverse old) bytes
    standing-pushed ended = rw (longer, ← same, standing-text (reverse new) seen text some_reversed stacked, ended) refl

    -- the heights are in order
    pub IsStacked-pushed : IsStacked (reverse new) (length more)
    IsStacked-pushed = IsStacked-more (reverse new) (length seen) (length more) some_reversed (rw (longer, same, length-append) (omega arith)) stacked

  module _ (pushed_texts : List (MarkAt E)) (bytes more : List ℕ) (b : ℕ) (longer : more ≡ bytes ++ b ∷ [])
      (some : 0 < length pushed_texts) (stacked : IsStacked pushed_texts (length bytes)) where
    -- a byte was put in front
    pub standing-one : standing pushed_texts more ≡ ByteAhead b ∷ standing pushed_texts bytes
    standing-one = rw longer (standing-text pushed_texts bytes (b ∷ []) some stacked)

    -- the heights are in order
    pub IsStacked-one : IsStacked pushed_texts (length more)
    IsStacked-one = IsStacked-more pushed_texts (length bytes) (length more) some (rw (longer, length-append) (omega arith)) stacked

  -- there is room for it
  pub HasRoom-pushed : (h : Held E) (text : List ℕ) → HasRoom h → length text + bytes_ahead h.ahead ≤ h.most_bytes → ends_ahead h.ahead < h.most_texts
      → HasRoom (record h { ahead = map ByteAhead text ++ EndAhead ∷ h.ahead })
  HasRoom-pushed h text room bytes ends = record {
    bytes = rw (bytes_ahead-bytes text (EndAhead ∷ h.ahead)) bytes;
    ends = rw (ends_ahead-bytes text (EndAhead ∷ h.ahead)) (omega (arith, ends));
    events = rw (events_ahead-bytes text (EndAhead ∷ h.ahead)) room.events;
    frees = rw (frees_ahead-bytes text (EndAhead ∷ h.ahead)) room.frees;
  }

  -- and for a byte
  pub HasRoom-byte : (h : Held E) (b : ℕ) → HasRoom h → bytes_ahead h.ahead < h.most_bytes
      → HasRoom (record h { ahead = ByteAhead b ∷ h.ahead })
  HasRoom-byte h b room bytes = record {
    bytes = omega (arith, bytes);
    ends = room.ends;
    events = room.events;
    frees = room.frees;
  }

  -- there is room for bytes in front again
  pub HasRoom-freed : (h : Held E) (bytes : List ℕ) → HasRoom h → frees_ahead h.ahead + length bytes ≤ most_frees → HasRoom (record h { ahead = map FreeAhead bytes ++ h.ahead })
  HasRoom-freed h bytes room frees = record {
    bytes = rw (bytes_ahead-frees bytes h.ahead) room.bytes;
    ends = rw (ends_ahead-frees bytes h.ahead) room.ends;
    events = rw (events_ahead-frees bytes h.ahead) room.events;
    frees = rw (frees_ahead-frees bytes h.ahead) (omega (arith, frees));
  }
