-- How far the search for a name has come, and that for the slot which leads to another one.
use Rattle.std.proofs.Common.{◌≡◌, ◌≢◌, ℕ, ◌+◌, ◌<◌, ◌≤◌, List, length, drop, get_or, Option, Some, None, refl, sym, ◌∙◌, arith, MatchOption}
use Rattle.std.proofs.lemmas.List.{drop_all, drop_more, length-map}
use Rattle.std.proofs.lemmas.Option.{slice_get_within, get_or_from_slice_get}
use Rattle.std.specs.List.{slice_get}
use Rattle.roff_store.specs.declared.name_table.Slot.{Slot}
use Rattle.roff_store.specs.Buckets.{bucket_of, bucket_count}
use Rattle.roff_store.specs.Named.{entry_of}
use Rattle.roff_store.specs.NameTable.Slots.{entries_in, slot_bucket, buckets_of, links_of, IsLast, IsIndexed, LeadsTo}
use Rattle.roff_store.proofs.Entries.{bytes_eq_tells}
use Rattle.roff_store.proofs.Slots.{entry_of-pass, get_or-map_at}

-- a slot leads to an older one, which lies in its bucket with none between them
pub link_at : {E : Type 0} (slots : List (Slot E)) (heads : List ℕ) (place bucket : ℕ) (slot : Slot E)
    → IsIndexed slots heads → bucket < bucket_count → get_or (buckets_of slots) place 0 ≡ bucket → slice_get slots place ≡ Some slot
    → IsLast (buckets_of slots) place bucket slot.older
link_at slots heads place bucket slot index small lies here =
    let inside = slice_get_within slots place slot here in
    let long : length (buckets_of slots) ≡ length slots = length-map slots slot_bucket in
    let link : get_or (links_of slots) place 0 ≡ slot.older = get_or-map_at (λ s. s.older) slots place slot here in
    rw (← link, ← lies) (index.link place (omega arith) (rw lies small))

-- the search has come down to a slot of the name's bucket; from it on the name has no entry
pub record Searched {E : Type 0} (slots : List (Slot E)) (name : List ℕ) (last : ℕ) : Type 0 where
  pub within : last ≤ length slots
  pub same : (place : ℕ) → last ≡ place + 1 → get_or (buckets_of slots) place 0 ≡ bucket_of name
  pub absent : entry_of name (entries_in (drop last slots)) ≡ None

-- the search begins at the last slot of the bucket
pub Searched-start : {E : Type 0} (slots : List (Slot E)) (heads name : List ℕ) → IsIndexed slots heads
    → bucket_of name < bucket_count → Searched slots name (get_or heads (bucket_of name) 0)
Searched-start slots heads name index below =
    let first = index.head (bucket_of name) below in
    let long : length (buckets_of slots) ≡ length slots = length-map slots slot_bucket in
    let low = first.within in
    record {
      within = omega arith;
      same = first.same;
      absent = entry_of-pass name slots (get_or heads (bucket_of name) 0) (length slots) (omega arith) (omega arith)
          (λ place a b. first.none_behind place a (omega arith))
          (rw (drop_all (length slots) slots (omega arith)) refl);
    }

-- a slot that isn't that of the name leads on
pub Searched-step : {E : Type 0} (slots : List (Slot E)) (heads name : List ℕ) (last place : ℕ) (slot : Slot E)
    → IsIndexed slots heads → bucket_of name < bucket_count → Searched slots name last → last ≡ place + 1
    → slice_get slots place ≡ Some slot → slot.name ≢ name → Searched slots name slot.older
Searched-step slots heads name last place slot index small searched at here other =
    let inside = slice_get_within slots place slot here in
    let next = link_at slots heads place (bucket_of name) slot index small (searched.same place at) here in
    let low = next.within in
    let rest : entry_of name (entries_in (drop (place + 1) slots)) ≡ None = rw (← at) searched.absent in
    let absent : entry_of name (entries_in (drop place slots)) ≡ None =
    rw (drop_more slots place slot inside, get_or_from_slice_get slots place slot slot here) (grind (arith, bytes_eq_tells)) in
    record {
      within = omega arith;
      same = next.same;
      absent = entry_of-pass name slots slot.older place low (omega arith) next.none_behind absent;
    }

-- going down a bucket to the slot at a place has come to another one, to which this one leads, or the head if it is none
pub record Reached {E : Type 0} (slots : List (Slot E)) (heads : List ℕ) (bucket place : ℕ) (newer : Option ℕ) (last : ℕ) : Type 0 where
  pub above : place < last
  pub within : last ≤ length slots
  pub same : (k : ℕ) → last ≡ k + 1 → get_or (buckets_of slots) k 0 ≡ bucket
  pub from : MatchOption newer (get_or heads bucket 0 ≡ last) (λ k. LeadsTo slots k bucket last)

-- and goes on where that is another slot
pub Reached-step : {E : Type 0} (slots : List (Slot E)) (heads : List ℕ) (bucket place : ℕ) (newer : Option ℕ) (last at : ℕ) (slot : Slot E)
    → IsIndexed slots heads → bucket < bucket_count → get_or (buckets_of slots) place 0 ≡ bucket → Reached slots heads bucket place newer last
    → last ≡ at + 1 → last ≢ place + 1 → slice_get slots at ≡ Some slot → Reached slots heads bucket place (Some at) slot.older
Reached-step slots heads bucket place newer last at slot index small lies reached is other here =
    let inside = slice_get_within slots at slot here in
    let next = link_at slots heads at bucket slot index small (reached.same at is) here in
    let low = next.within in
    let apart = next.none_behind place in
    let above = reached.above in
    record {
      above = grind arith;
      within = omega arith;
      same = next.same;
      from = record {
        slot = slot;
        at = here;
        lies = sym (get_or-map_at slot_bucket slots at slot here) ∙ reached.same at is;
        leads = refl;
      };
    }
