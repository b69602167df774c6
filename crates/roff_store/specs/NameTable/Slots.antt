-- What stands in the slots of a table.
use Rattle.std.specs.Prelude.{◌≡◌, ◌≢◌, ℕ, ◌+◌, ◌-◌, ◌^◌, ◌<◌, ◌≤◌, min, max, true, List, [], ◌∷◌, length, map, slice_get, slice_index, Some, if◌then◌else◌}
use Rattle.roff_store.specs.declared.name_table.Slot.{Slot}
use Rattle.roff_store.specs.Buckets.{bucket_of, bucket_count}
use Rattle.roff_store.specs.Named.{Named}

-- how many slots so many names have: as many again are spare, and 1,024 at least, so that those that aren't used any more
-- are seldom swept; but no more slots than a number of 32 bits counts
abbrev pub slots_for : ℕ → ℕ
slots_for names = min (names + max names 1024) (2 ^ 32 - 1)

-- the entries in the slots that are used, in their order
abbrev pub entries_in : {E : Type 0} → List (Slot E) → Named E
entries_in [] = []
entries_in (slot ∷ slots) = if slot.is_used then (slot.name, slot.entry) ∷ entries_in slots else entries_in slots

-- the bucket that a slot lies in; one that isn't used lies in none, for which bucket_count stands
abbrev pub slot_bucket : {E : Type 0} → Slot E → ℕ
slot_bucket slot = if slot.is_used then bucket_of slot.name else bucket_count

-- the buckets of the slots
abbrev pub buckets_of : {E : Type 0} → List (Slot E) → List ℕ
buckets_of slots = map slot_bucket slots

-- where each slot leads
abbrev pub links_of : {E : Type 0} → List (Slot E) → List ℕ
links_of slots = map (λ slot. slot.older) slots

-- one more than the place of the last of the first n slots that lies in a bucket, or 0 if none does
pub record IsLast (buckets : List ℕ) (n bucket last : ℕ) : Type 0 where
  pub within : last ≤ n
  pub same : (place : ℕ) → last ≡ place + 1 → slice_index buckets place ≡ bucket
  pub none_behind : (place : ℕ) → last ≤ place → place < n → slice_index buckets place ≢ bucket

-- each bucket's head leads to its last slot, and each slot to the one before it in its bucket
pub record AreLinked (buckets links heads : List ℕ) : Type 0 where
  pub lengths : length links ≡ length buckets
  pub head_count : length heads ≡ bucket_count
  pub head : (bucket : ℕ) → bucket < bucket_count → IsLast buckets (length buckets) bucket (slice_index heads bucket)
  pub link : (place : ℕ) → place < length buckets → slice_index buckets place < bucket_count
      → IsLast buckets place (slice_index buckets place) (slice_index links place)

-- the slots can be found through the heads of their buckets
abbrev pub IsIndexed : {E : Type 0} → List (Slot E) → List ℕ → Type 0
IsIndexed slots heads = AreLinked (buckets_of slots) (links_of slots) heads

-- at a place stands the slot in which a name has its entry
pub record StandsAt {E : Type 0} (slots : List (Slot E)) (place : ℕ) (name : List ℕ) : Type 0 where
  pub slot : Slot E
  pub here : slice_get slots place ≡ Some slot
  pub used : slot.is_used ≡ true
  pub named : slot.name ≡ name

-- at a place stands a slot of a bucket that leads here
pub record LeadsTo {E : Type 0} (slots : List (Slot E)) (place bucket here : ℕ) : Type 0 where
  pub slot : Slot E
  pub at : slice_get slots place ≡ Some slot
  pub lies : slot_bucket slot ≡ bucket
  pub leads : slot.older ≡ here
