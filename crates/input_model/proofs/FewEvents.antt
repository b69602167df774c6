-- Events that were put back are few, so there is room for more of them.
use Rattle.std.proofs.Common.{◌≡◌, ◌≤◌, ◌+◌, ◌-◌, ◌*◌, ℕ, List, [], ◌∷◌, ◌++◌, length, map, Some, refl, sym, ◌∙◌, arith}
use Rattle.input_model.specs.Input.{Ahead, ByteAhead, FreeAhead, EndAhead, ReturnAhead, DoAhead, ends_ahead, events_ahead}
use Rattle.input_model.specs.Input.Few.{AreFewFrom, AreFew}
use Rattle.input_model.specs.Shown.{SeesByte, SeesNothing, seen_ahead}

module _ {E : Type 0} where
  -- where there is room for more, they are few too
  pub few-more : (a b : ℕ) (items : List (Ahead E)) → a ≤ b → AreFewFrom a items → AreFewFrom b items
  few-more a b [] more few = tt
  few-more a b (ByteAhead c ∷ items) more few = few
  few-more a b (FreeAhead c ∷ items) more few = few
  few-more a b (EndAhead ∷ items) more few = few
  few-more a b (ReturnAhead back ∷ items) more few = few
  few-more a b (DoAhead event ∷ items) more few =
      (omega (arith, few.0), few-more (a - 1) (b - 1) items (omega (arith, more)) few.1)

  -- no more of them than these are ahead
  pub events-few : (room : ℕ) (items : List (Ahead E)) → AreFewFrom room items → events_ahead items ≤ room + 5 * ends_ahead items
  events-few room [] few = omega arith
  events-few room (ByteAhead b ∷ items) few = omega (arith, events-few 0 items few)
  events-few room (FreeAhead b ∷ items) few = omega (arith, events-few 0 items few)
  events-few room (EndAhead ∷ items) few = omega (arith, events-few 5 items few)
  events-few room (ReturnAhead back ∷ items) few = omega (arith, events-few 5 items few)
  events-few room (DoAhead event ∷ items) few = omega (arith, few.0, events-few (room - 1) items few.1)

  -- a text and its end stand in front
  pub few-text : (room : ℕ) (text : List ℕ) (items : List (Ahead E)) → AreFew items
      → AreFewFrom room (map ByteAhead text ++ EndAhead ∷ items)
  few-text room [] items few = few
  few-text room (b ∷ text) items few = few-text 0 text items few

  -- and so does a body that was called, or sprang
  pub few-called : (room : ℕ) (text : List ℕ) (back : ℕ) (items : List (Ahead E)) → AreFew items
      → AreFewFrom room (map ByteAhead text ++ ReturnAhead back ∷ items)
  few-called room [] back items few = few
  few-called room (b ∷ text) back items few = few-called 0 text back items few

  -- events are put back
  pub few-back : (room : ℕ) (events : List E) (items : List (Ahead E)) → AreFewFrom room items
      → AreFewFrom (length events + room) (map DoAhead events ++ items)
  few-back room [] items few = few-more room (0 + room) items (omega arith) few
  few-back room (event ∷ events) items few =
      let others = few-back room events items few in
      (omega arith, few-more (length events + room) (length (event ∷ events) + room - 1) (map DoAhead events ++ items) (omega arith) others)

  -- behind a byte that is seen, or where only ends are there, no event stands before the next end
  pub few-behind : (room : ℕ) (items : List (Ahead E)) → AreFewFrom room items → (seen_ahead items ≡ Some SeesNothing → ⊥)
      → AreFewFrom 0 items
  few-behind room [] few none = tt
  few-behind room (ByteAhead b ∷ items) few none = few
  few-behind room (FreeAhead b ∷ items) few none = few
  few-behind room (EndAhead ∷ items) few none = few
  few-behind room (ReturnAhead back ∷ items) few none = few
  few-behind room (DoAhead event ∷ items) few none = absurd (none refl)

  pub few-seen : (room b : ℕ) (items : List (Ahead E)) → AreFewFrom room items → seen_ahead items ≡ Some (SeesByte b) → AreFewFrom 0 items
  few-seen room b items few seen = few-behind room items few (λ none. let is = sym seen ∙ none in cc)
