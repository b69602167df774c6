-- What stands ahead, with bodies in the place of their bytes.
use Rattle.std.proofs.Common.{true, false, ◌≡◌, ◌<◌, ◌≤◌, ◌+◌, ℕ, cond, List, [], ◌∷◌, ◌++◌, length, map, refl, ap, ◌∙◌, arith, sum_by, All, Option, Some, None}
use Rattle.std.proofs.lemmas.List.Sums.{sum_by-cons}
use Rattle.input_model.specs.Input.{Ahead, ByteAhead, FreeAhead, EndAhead, ReturnAhead, DoAhead, bytes_ahead, ends_ahead, events_ahead, frees_ahead, is_none_ahead}
use Rattle.input_ahead.specs.InputAhead.Bodies.{leases_in, with_bodies}
use Rattle.input_ahead.specs.InputAhead.Kept.{AreEnded, Gives, is_end_next}
use Rattle.input_ahead.specs.declared.input_ahead.EventOrBody.{EventOrBody}
use Rattle.input_ahead.specs.declared.input_ahead.EventOrBody.TheVariants.{Event, Body}
use Rattle.input_model.proofs.Counts.{bytes_ahead-bytes, ends_ahead-bytes, events_ahead-bytes, frees_ahead-bytes}
use Rattle.roff_store.specs.Texts.{Texts, lease_bytes, lease_of, rest_of}

-- the bytes that a lease gives
pub rest_is : (lease : Option (List ℕ)) → length (lease_bytes lease) ≡ rest_of lease
rest_is None = refl
rest_is (Some bytes) = refl

module _ {E : Type 0} (t : Texts) where
  -- bytes in front of others
  pub with_bodies-bytes : (text : List ℕ) (items : List (Ahead (EventOrBody E)))
      → with_bodies t (map ByteAhead text ++ items) ≡ map ByteAhead text ++ with_bodies t items
  with_bodies-bytes [] items = refl
  with_bodies-bytes (b ∷ text) items = ap (λ (rest : List (Ahead E)). ByteAhead b ∷ rest) (with_bodies-bytes text items)

  -- and bytes in front again
  pub with_bodies-frees : (bytes : List ℕ) (items : List (Ahead (EventOrBody E)))
      → with_bodies t (map FreeAhead bytes ++ items) ≡ map FreeAhead bytes ++ with_bodies t items
  with_bodies-frees [] items = refl
  with_bodies-frees (b ∷ bytes) items = ap (λ (rest : List (Ahead E)). FreeAhead b ∷ rest) (with_bodies-frees bytes items)

  -- bytes are those of texts and those of bodies
  pub bytes-with_bodies : (items : List (Ahead (EventOrBody E)))
      → bytes_ahead (with_bodies t items) ≡ bytes_ahead items + sum_by (λ id. rest_of (lease_of id t)) (leases_in items)
  bytes-with_bodies [] = refl
  bytes-with_bodies (ByteAhead b ∷ items) = omega (arith, bytes-with_bodies items)
  bytes-with_bodies (FreeAhead b ∷ items) = bytes-with_bodies items
  bytes-with_bodies (EndAhead ∷ items) = bytes-with_bodies items
  bytes-with_bodies (ReturnAhead back ∷ items) = bytes-with_bodies items
  bytes-with_bodies (DoAhead (Event event) ∷ items) = bytes-with_bodies items
  bytes-with_bodies (DoAhead (Body id) ∷ items) =
      omega (
        arith,
        bytes-with_bodies items,
        rest_is (lease_of id.0 t),
        bytes_ahead-bytes (lease_bytes (lease_of id.0 t)) (with_bodies t items),
        sum_by-cons (λ other. rest_of (lease_of other t)) id.0 (leases_in items),
      )

  -- a body is no end
  pub ends-with_bodies : (items : List (Ahead (EventOrBody E))) → ends_ahead (with_bodies t items) ≡ ends_ahead items
  ends-with_bodies [] = refl
  ends-with_bodies (ByteAhead b ∷ items) = ends-with_bodies items
  ends-with_bodies (FreeAhead b ∷ items) = ends-with_bodies items
  ends-with_bodies (EndAhead ∷ items) = ap (λ n. n + 1) (ends-with_bodies items)
  ends-with_bodies (ReturnAhead back ∷ items) = ap (λ n. n + 1) (ends-with_bodies items)
  ends-with_bodies (DoAhead (Event event) ∷ items) = ends-with_bodies items
  ends-with_bodies (DoAhead (Body id) ∷ items) =
      ends_ahead-bytes (lease_bytes (lease_of id.0 t)) (with_bodies t items) ∙ ends-with_bodies items

  -- and no event
  pub events-with_bodies : (items : List (Ahead (EventOrBody E)))
      → events_ahead (with_bodies t items) + length (leases_in items) ≡ events_ahead items
  events-with_bodies [] = refl
  events-with_bodies (ByteAhead b ∷ items) = events-with_bodies items
  events-with_bodies (FreeAhead b ∷ items) = events-with_bodies items
  events-with_bodies (EndAhead ∷ items) = events-with_bodies items
  events-with_bodies (ReturnAhead back ∷ items) = events-with_bodies items
  events-with_bodies (DoAhead (Event event) ∷ items) = omega (arith, events-with_bodies items)
  events-with_bodies (DoAhead (Body id) ∷ items) =
      omega (arith, events-with_bodies items, events_ahead-bytes (lease_bytes (lease_of id.0 t)) (with_bodies t items))

  -- and stands in front again never
  pub frees-with_bodies : (items : List (Ahead (EventOrBody E))) → frees_ahead (with_bodies t items) ≡ frees_ahead items
  frees-with_bodies [] = refl
  frees-with_bodies (ByteAhead b ∷ items) = frees-with_bodies items
  frees-with_bodies (FreeAhead b ∷ items) = ap (λ n. n + 1) (frees-with_bodies items)
  frees-with_bodies (EndAhead ∷ items) = frees-with_bodies items
  frees-with_bodies (ReturnAhead back ∷ items) = frees-with_bodies items
  frees-with_bodies (DoAhead (Event event) ∷ items) = frees-with_bodies items
  frees-with_bodies (DoAhead (Body id) ∷ items) =
      frees_ahead-bytes (lease_bytes (lease_of id.0 t)) (with_bodies t items) ∙ frees-with_bodies items

  -- something stands ahead as a body that gives something
  some_bytes : (bytes : List ℕ) (items : List (Ahead E)) → 0 < length bytes → is_none_ahead (map ByteAhead bytes ++ items) ≡ false
  some_bytes [] items some = absurd (omega (arith, some))
  some_bytes (b ∷ bytes) items some = refl

  pub none-with_bodies : (items : List (Ahead (EventOrBody E))) → All (Gives t) (leases_in items)
      → is_none_ahead (with_bodies t items) ≡ is_none_ahead items
  none-with_bodies [] give = refl
  none-with_bodies (ByteAhead b ∷ items) give = refl
  none-with_bodies (FreeAhead b ∷ items) give = refl
  none-with_bodies (EndAhead ∷ items) give = refl
  none-with_bodies (ReturnAhead back ∷ items) give = refl
  none-with_bodies (DoAhead (Event event) ∷ items) give = refl
  none-with_bodies (DoAhead (Body id) ∷ items) give =
      let gives : 0 < rest_of (lease_of id.0 t) = give 0 0 (omega arith) in
      some_bytes (lease_bytes (lease_of id.0 t)) (with_bodies t items) (omega (arith, gives, rest_is (lease_of id.0 t)))

module _ {E : Type 0} where
  -- bytes are no bodies
  pub leases-bytes : (text : List ℕ) (items : List (Ahead (EventOrBody E))) → leases_in (map ByteAhead text ++ items) ≡ leases_in items
  leases-bytes [] items = refl
  leases-bytes (b ∷ text) items = leases-bytes text items

  pub leases-frees : (bytes : List ℕ) (items : List (Ahead (EventOrBody E))) → leases_in (map FreeAhead bytes ++ items) ≡ leases_in items
  leases-frees [] items = refl
  leases-frees (b ∷ bytes) items = leases-frees bytes items

  -- nor do they part one from its end
  pub ended-bytes : (text : List ℕ) (items : List (Ahead (EventOrBody E))) → AreEnded items → AreEnded (map ByteAhead text ++ items)
  ended-bytes [] items ended = ended
  ended-bytes (b ∷ text) items ended = ended-bytes text items ended

  pub ended-frees : (bytes : List ℕ) (items : List (Ahead (EventOrBody E))) → AreEnded items → AreEnded (map FreeAhead bytes ++ items)
  ended-frees [] items ended = ended
  ended-frees (b ∷ bytes) items ended = ended-frees bytes items ended

  -- each body is counted by an end behind it, and where an end comes next, that one is left
  bodies_counted : (items : List (Ahead (EventOrBody E))) → AreEnded items
      → length (leases_in items) + cond (is_end_next items) 1 0 ≤ ends_ahead items
  bodies_counted [] ended = omega arith
  bodies_counted (ByteAhead b ∷ items) ended = bodies_counted items ended
  bodies_counted (FreeAhead b ∷ items) ended = omega (arith, bodies_counted items ended)
  bodies_counted (EndAhead ∷ items) ended = omega (arith, bodies_counted items ended)
  bodies_counted (ReturnAhead back ∷ items) ended = omega (arith, bodies_counted items ended)
  bodies_counted (DoAhead (Event event) ∷ items) ended = omega (arith, bodies_counted items ended)
  bodies_counted (DoAhead (Body id) ∷ items) ended =
      let left = rw ended.0 at (bodies_counted items ended.1) in omega (arith, left)

  -- there are no more bodies than ends
  pub bodies-few : (items : List (Ahead (EventOrBody E))) → AreEnded items → length (leases_in items) ≤ ends_ahead items
  bodies-few items ended = omega (arith, bodies_counted items ended)

  -- and fewer where an end comes next
  pub bodies-fewer : (items : List (Ahead (EventOrBody E))) → is_end_next items ≡ true → AreEnded items
      → length (leases_in items) < ends_ahead items
  bodies-fewer items next ended = let left = rw next at (bodies_counted items ended) in omega (arith, left)
