-- What is counted of what stands ahead.
use Rattle.std.proofs.Common.{◌≡◌, ◌≤◌, ◌+◌, ℕ, List, [], ◌∷◌, ◌++◌, length, map, sym, refl, arith, zero-add}
use Rattle.input_model.specs.Input.{Ahead, ByteAhead, FreeAhead, EndAhead, ReturnAhead, DoAhead, bytes_ahead, ends_ahead, events_ahead, frees_ahead, returns_ahead}

module _ {E : Type 0} where
  -- bytes of texts, in front of other items
  pub bytes_ahead-bytes : (text : List ℕ) (items : List (Ahead E)) → bytes_ahead (map ByteAhead text ++ items) ≡ length text + bytes_ahead items
  bytes_ahead-bytes [] items = sym (zero-add (bytes_ahead items))
  bytes_ahead-bytes (b ∷ text) items = grind (arith, bytes_ahead-bytes text items)

  pub ends_ahead-bytes : (text : List ℕ) (items : List (Ahead E)) → ends_ahead (map ByteAhead text ++ items) ≡ ends_ahead items
  ends_ahead-bytes [] items = refl
  ends_ahead-bytes (b ∷ text) items = ends_ahead-bytes text items

  pub events_ahead-bytes : (text : List ℕ) (items : List (Ahead E)) → events_ahead (map ByteAhead text ++ items) ≡ events_ahead items
  events_ahead-bytes [] items = refl
  events_ahead-bytes (b ∷ text) items = events_ahead-bytes text items

  pub frees_ahead-bytes : (text : List ℕ) (items : List (Ahead E)) → frees_ahead (map ByteAhead text ++ items) ≡ frees_ahead items
  frees_ahead-bytes [] items = refl
  frees_ahead-bytes (b ∷ text) items = frees_ahead-bytes text items

  pub returns_ahead-bytes : (text : List ℕ) (items : List (Ahead E)) → returns_ahead (map ByteAhead text ++ items) ≡ returns_ahead items
  returns_ahead-bytes [] items = refl
  returns_ahead-bytes (b ∷ text) items = returns_ahead-bytes text items

  -- bytes in front again, in front of other items
  pub frees_ahead-frees : (bytes : List ℕ) (items : List (Ahead E)) → frees_ahead (map FreeAhead bytes ++ items) ≡ length bytes + frees_ahead items
  frees_ahead-frees [] items = sym (zero-add (frees_ahead items))
  frees_ahead-frees (b ∷ bytes) items = grind (arith, frees_ahead-frees bytes items)

  pub bytes_ahead-frees : (bytes : List ℕ) (items : List (Ahead E)) → bytes_ahead (map FreeAhead bytes ++ items) ≡ bytes_ahead items
  bytes_ahead-frees [] items = refl
  bytes_ahead-frees (b ∷ bytes) items = bytes_ahead-frees bytes items

  pub ends_ahead-frees : (bytes : List ℕ) (items : List (Ahead E)) → ends_ahead (map FreeAhead bytes ++ items) ≡ ends_ahead items
  ends_ahead-frees [] items = refl
  ends_ahead-frees (b ∷ bytes) items = ends_ahead-frees bytes items

  pub events_ahead-frees : (bytes : List ℕ) (items : List (Ahead E)) → events_ahead (map FreeAhead bytes ++ items) ≡ events_ahead items
  events_ahead-frees [] items = refl
  events_ahead-frees (b ∷ bytes) items = events_ahead-frees bytes items

  pub returns_ahead-frees : (bytes : List ℕ) (items : List (Ahead E)) → returns_ahead (map FreeAhead bytes ++ items) ≡ returns_ahead items
  returns_ahead-frees [] items = refl
  returns_ahead-frees (b ∷ bytes) items = returns_ahead-frees bytes items

  -- the end of a called body is an end
  pub returns-few : (items : List (Ahead E)) → returns_ahead items ≤ ends_ahead items
  returns-few [] = omega arith
  returns-few (ByteAhead b ∷ items) = returns-few items
  returns-few (FreeAhead b ∷ items) = returns-few items
  returns-few (EndAhead ∷ items) = omega (arith, returns-few items)
  returns-few (ReturnAhead back ∷ items) = omega (arith, returns-few items)
  returns-few (DoAhead event ∷ items) = returns-few items
