-- How the slots are linked into their buckets, and one is taken out.
use Rattle.std.proofs.Common.{◌≡◌, ◌≢◌, ℕ, zero, suc, ◌+◌, ◌<◌, true, false, List, [], ◌∷◌, ◌++◌, length, take, set, get_or, replicate, Some, refl, sym, ap, ◌∙◌, arith, length-take-le, length-set}
use Rattle.std.proofs.lemmas.List.{take_more, take_more_set, map-set, length-map, map_push, get_or-replicate, length-replicate}
use Rattle.std.proofs.lemmas.Option.{slice_get_within}
use Rattle.std.specs.List.{slice_get}
use Rattle.roff_store.specs.declared.name_table.Slot.{Slot}
use Rattle.roff_store.specs.Buckets.{bucket_of, bucket_count}
use Rattle.roff_store.specs.Named.{Named}
use Rattle.roff_store.specs.NameTable.Slots.{entries_in, slot_bucket, buckets_of, links_of, AreLinked, IsIndexed}
use Rattle.roff_store.proofs.Slots.{all_used, get_or-map_at, map-set_same, slot_bucket-used, entries_in-set_older}
use Rattle.roff_store.proofs.Search.{link_at}
use Rattle.roff_store.proofs.Links.{AreLinked-push, AreLinked-unlink_head, AreLinked-unlink_newer}

-- heads that are all 0
pub clear_heads : (heads : List ℕ) (count : ℕ) → heads ≡ replicate count 0
    → (length heads ≡ count) × ((bucket : ℕ) → bucket < count → get_or heads bucket 0 ≡ 0)
clear_heads heads count clear =
    (ap length clear ∙ length-replicate count 0, λ bucket below. rw (clear, get_or-replicate {A = ℕ} count bucket 0 0 below) refl)

-- the first slots are linked, all are used, and the entries are those from before
pub record Linked {E : Type 0} (entries : Named E) (slots : List (Slot E)) (heads : List ℕ) (place : ℕ) : Type 0 where
  pub same : entries_in slots ≡ entries
  pub full : length entries ≡ length slots
  pub index : AreLinked (take place (buckets_of slots)) (take place (links_of slots)) heads

-- one more is linked, in front of its bucket
pub Linked-step : {E : Type 0} (entries : Named E) (slots : List (Slot E)) (heads : List ℕ) (place : ℕ) (slot : Slot E)
    → slice_get slots place ≡ Some slot → bucket_of slot.name < bucket_count → Linked entries slots heads place
    → Linked entries (set slots place (record slot { older = get_or heads (bucket_of slot.name) 0 }))
    (set heads (bucket_of slot.name) (place + 1)) (place + 1)
Linked-step {E} entries slots heads place slot here below linked =
    let head : ℕ = get_or heads (bucket_of slot.name) 0 in
    let written : Slot E = record slot { older = head } in
    let inside = slice_get_within slots place slot here in
    let used = all_used slots place slot (ap length linked.same ∙ linked.full) here in
    let long : length (buckets_of slots) ≡ length slots = length-map slots slot_bucket in
    let long_links : length (links_of slots) ≡ length slots = length-map slots (λ s. s.older) in
    let front : length (take place (buckets_of slots)) ≡ place = length-take-le place (buckets_of slots) (omega arith) in
    let buckets : buckets_of (set slots place written) ≡ buckets_of slots =
    map-set_same slot_bucket slots place slot written here refl in
    let bucket : get_or (buckets_of slots) place 0 ≡ bucket_of slot.name =
    get_or-map_at slot_bucket slots place slot here ∙ slot_bucket-used slot used in
    let links : links_of (set slots place written) ≡ set (links_of slots) place head = map-set (λ s. s.older) slots place written in
    let pushed = AreLinked-push (take place (buckets_of slots)) (take place (links_of slots)) heads (bucket_of slot.name) below linked.index in
    record {
      same = entries_in-set_older slots place slot head here ∙ linked.same;
      full = linked.full ∙ sym (length-set slots place written);
      index = rw (
        buckets,
        take_more (buckets_of slots) place 0 (omega arith),
        bucket,
        links,
        take_more_set (links_of slots) place head (omega arith),
      ) (rw front at pushed);
    }

-- a slot added behind the others is indexed too
pub IsIndexed-push : {E : Type 0} (slots : List (Slot E)) (heads : List ℕ) (slot : Slot E) → IsIndexed slots heads
    → bucket_of slot.name < bucket_count → slot.is_used ≡ true → slot.older ≡ get_or heads (bucket_of slot.name) 0
    → IsIndexed (slots ++ slot ∷ []) (set heads (bucket_of slot.name) (length slots + 1))
IsIndexed-push slots heads slot index below used older =
    let long : length (buckets_of slots) ≡ length slots = length-map slots slot_bucket in
    let pushed = AreLinked-push (buckets_of slots) (links_of slots) heads (bucket_of slot.name) below index in
    rw (map_push slot_bucket slots slot, map_push (λ s. s.older) slots slot, slot_bucket-used slot used, older) (rw long at pushed)

-- a slot whose bucket and link stay is indexed as before
pub IsIndexed-set : {E : Type 0} (slots : List (Slot E)) (heads : List ℕ) (place : ℕ) (slot written : Slot E)
    → slice_get slots place ≡ Some slot → slot_bucket written ≡ slot_bucket slot → written.older ≡ slot.older
    → IsIndexed slots heads → IsIndexed (set slots place written) heads
IsIndexed-set slots heads place slot written here bucket older index =
    rw (
      map-set_same slot_bucket slots place slot written here bucket,
      map-set_same (λ s. s.older) slots place slot written here older,
    ) index

-- an element that isn't written stays
pub slice_get-set_other : {A : Type 0} (xs : List A) (i j : ℕ) (y : A) → j ≢ i → slice_get (set xs i y) j ≡ slice_get xs j
slice_get-set_other [] i j y apart = refl
slice_get-set_other (x ∷ xs) zero zero y apart = absurd (apart refl)
slice_get-set_other (x ∷ xs) zero (suc j) y apart = refl
slice_get-set_other (x ∷ xs) (suc i) zero y apart = refl
slice_get-set_other (x ∷ xs) (suc i) (suc j) y apart = slice_get-set_other xs i j y (λ e. apart (ap suc e))

module _ {E : Type 0} (slots : List (Slot E)) (heads : List ℕ) (place : ℕ) (slot : Slot E) (index : IsIndexed slots heads)
    (here : slice_get slots place ≡ Some slot) (used : slot.is_used ≡ true) (small : bucket_of slot.name < bucket_count) where
  -- the slot that is taken out lies in its bucket
  bucket_here : get_or (buckets_of slots) place 0 ≡ bucket_of slot.name
  bucket_here = get_or-map_at slot_bucket slots place slot here ∙ slot_bucket-used slot used

  -- and leads where its link says
  link_here : get_or (links_of slots) place 0 ≡ slot.older
  link_here = get_or-map_at (λ s. s.older) slots place slot here

  -- the slots are indexed once one to which the head leads is taken out
  pub IsIndexed-unlink_head : get_or heads (bucket_of slot.name) 0 ≡ place + 1
      → IsIndexed (set slots place (record slot { is_used = false })) (set heads (bucket_of slot.name) slot.older)
  IsIndexed-unlink_head first =
      let inside = slice_get_within slots place slot here in
      let long : length (buckets_of slots) ≡ length slots = length-map slots slot_bucket in
      rw (
        map-set slot_bucket slots place (record slot { is_used = false }),
        map-set_same (λ s. s.older) slots place slot (record slot { is_used = false }) here refl,
      )
      (rw (bucket_here, link_here) at (AreLinked-unlink_head (buckets_of slots) (links_of slots) heads place (omega arith)
      (rw bucket_here small) index (rw bucket_here first)))

  -- or one to which another slot leads
  pub IsIndexed-unlink_newer : (newer : ℕ) (leader : Slot E) → slice_get slots newer ≡ Some leader
      → slot_bucket leader ≡ bucket_of slot.name → leader.older ≡ place + 1
      → (newer ≢ place) × IsIndexed (set (set slots place (record slot { is_used = false })) newer (record leader { older = slot.older })) heads
  IsIndexed-unlink_newer newer leader at lies leads =
      let lies_there : get_or (buckets_of slots) newer 0 ≡ bucket_of slot.name = get_or-map_at slot_bucket slots newer leader at ∙ lies in
      let next = (link_at slots heads newer (bucket_of slot.name) leader index small lies_there at).within in
      let apart : newer ≢ place = omega arith in
      let inside = slice_get_within slots place slot here in
      let inside_newer = slice_get_within slots newer leader at in
      let long : length (buckets_of slots) ≡ length slots = length-map slots slot_bucket in
      let moved : Slot E = record leader { older = slot.older } in
      let gone : Slot E = record slot { is_used = false } in
      let still : slice_get (set slots place gone) newer ≡ Some leader = slice_get-set_other slots place newer gone apart ∙ at in (
        apart,
        rw (
          map-set_same slot_bucket (set slots place gone) newer leader moved still refl,
          map-set slot_bucket slots place gone,
          map-set (λ s. s.older) (set slots place gone) newer moved,
          map-set_same (λ s. s.older) slots place slot gone here refl,
        )
            (rw link_here at (AreLinked-unlink_newer (buckets_of slots) (links_of slots) heads place (omega arith)
            (rw bucket_here small) index newer (omega arith) (lies_there ∙ sym bucket_here)
            (get_or-map_at (λ s. s.older) slots newer leader at ∙ leads))),
      )
