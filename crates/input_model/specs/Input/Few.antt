-- How many events stand ahead that were put back.
use Rattle.std.specs.Prelude.{ℕ, ◌-◌, ◌≤◌, List, [], ◌∷◌}
use Rattle.input_model.specs.Input.{Ahead, ByteAhead, FreeAhead, EndAhead, ReturnAhead, DoAhead}

-- So many events at most stand before the next end, none behind a byte, and five at most behind each end. An event is put back
-- where a byte, an end or an event was taken, with those that were to be performed behind it.
abbrev pub AreFewFrom : {E : Type 0} → ℕ → List (Ahead E) → Type 0
AreFewFrom room [] = Unit {0}
AreFewFrom room (ByteAhead b ∷ items) = AreFewFrom 0 items
AreFewFrom room (FreeAhead b ∷ items) = AreFewFrom 0 items
AreFewFrom room (EndAhead ∷ items) = AreFewFrom 5 items
AreFewFrom room (ReturnAhead back ∷ items) = AreFewFrom 5 items
AreFewFrom room (DoAhead event ∷ items) = (1 ≤ room) × AreFewFrom (room - 1) items

-- between two ends stand at most five
abbrev pub AreFew : {E : Type 0} → List (Ahead E) → Type 0
AreFew items = AreFewFrom 5 items
