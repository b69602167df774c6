-- How bodies that are read where they lie stand for their bytes.
use Rattle.std.specs.Prelude.{ℕ, List, [], ◌∷◌, ◌++◌, map}
use Rattle.input_model.specs.Input.{Ahead, ByteAhead, FreeAhead, EndAhead, ReturnAhead, DoAhead}
use Rattle.input_ahead.specs.declared.input_ahead.EventOrBody.{EventOrBody}
use Rattle.input_ahead.specs.declared.input_ahead.EventOrBody.TheVariants.{Event, Body}
use Rattle.roff_store.specs.Texts.{Texts, lease_bytes, lease_of}

-- what an item stands for: an event put back for itself, a body for the bytes that its lease still gives
abbrev pub items_of : {E : Type 0} → Texts → Ahead (EventOrBody E) → List (Ahead E)
items_of t (ByteAhead b) = ByteAhead b ∷ []
items_of t (FreeAhead b) = FreeAhead b ∷ []
items_of t EndAhead = EndAhead ∷ []
items_of t (ReturnAhead back) = ReturnAhead back ∷ []
items_of t (DoAhead (Event event)) = DoAhead event ∷ []
items_of t (DoAhead (Body id)) = map ByteAhead (lease_bytes (lease_of id.0 t))

-- what stands ahead, with the bytes of bodies
abbrev pub with_bodies : {E : Type 0} → Texts → List (Ahead (EventOrBody E)) → List (Ahead E)
with_bodies t [] = []
with_bodies t (item ∷ items) = items_of t item ++ with_bodies t items

-- the leases of bodies
abbrev pub leases_in : {E : Type 0} → List (Ahead (EventOrBody E)) → List ℕ
leases_in [] = []
leases_in (ByteAhead b ∷ items) = leases_in items
leases_in (FreeAhead b ∷ items) = leases_in items
leases_in (EndAhead ∷ items) = leases_in items
leases_in (ReturnAhead back ∷ items) = leases_in items
leases_in (DoAhead (Event event) ∷ items) = leases_in items
leases_in (DoAhead (Body id) ∷ items) = id.0 ∷ leases_in items
