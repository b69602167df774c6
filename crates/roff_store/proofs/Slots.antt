-- What the slots of a table keep, once one of them is written, added or swept.
use Rattle.std.proofs.Common.{◌≡◌, ◌≢◌, ℕ, zero, suc, ◌<◌, ◌≤◌, true, false, cond, List, [], ◌∷◌, ◌++◌, length, map, set, drop, get_or, Some, None, refl, ap, ◌∙◌, arith, if◌then◌else◌}
use Rattle.std.specs.List.{filter, slice_get}
use Rattle.roff_store.specs.declared.name_table.Slot.{Slot}
use Rattle.roff_store.specs.Buckets.{bucket_of, bucket_count}
use Rattle.roff_store.specs.Named.{EachOnce, entry_of, with_entry, without_entry}
use Rattle.roff_store.specs.NameTable.Slots.{entries_in, buckets_of, slot_bucket}
use Rattle.roff_store.proofs.Entries.{bytes_eq_tells, without_entry-absent}

-- the entry of a name is that of its slot
pub entry_of-entries_in : {E : Type 0} (slots : List (Slot E)) (place : ℕ) (slot : Slot E)
    → slice_get slots place ≡ Some slot → slot.is_used ≡ true → EachOnce (entries_in slots)
    → entry_of slot.name (entries_in slots) ≡ Some slot.entry
entry_of-entries_in [] place slot here used once = cc
entry_of-entries_in (s ∷ ss) zero slot here used once = grind (arith, bytes_eq_tells)
entry_of-entries_in {E} (s ∷ ss) (suc place) slot here used once =
    elim s.is_used as (λ b. EachOnce (cond b ((s.name, s.entry) ∷ entries_in ss) (entries_in ss))
    → entry_of slot.name (cond b ((s.name, s.entry) ∷ entries_in ss) (entries_in ss)) ≡ Some slot.entry) [
      | true ↦ (λ o. let others = entry_of-entries_in ss place slot here used o.1 in
          let apart = o.0 in grind (arith, bytes_eq_tells))
      | false ↦ (λ o. entry_of-entries_in ss place slot here used o)
    ] once

-- an entry written into the slot of a name
pub entries_in-set_entry : {E : Type 0} (slots : List (Slot E)) (place : ℕ) (slot : Slot E) (entry : E)
    → slice_get slots place ≡ Some slot → slot.is_used ≡ true → EachOnce (entries_in slots)
    → entries_in (set slots place (record slot { entry = entry })) ≡ with_entry slot.name entry (entries_in slots)
entries_in-set_entry [] place slot entry here used once = cc
entries_in-set_entry (s ∷ ss) zero slot entry here used once = grind (arith, bytes_eq_tells)
entries_in-set_entry {E} (s ∷ ss) (suc place) slot entry here used once =
    let written = entries_in (set ss place (record slot { entry = entry })) in
    elim s.is_used as (λ b. EachOnce (cond b ((s.name, s.entry) ∷ entries_in ss) (entries_in ss))
    → cond b ((s.name, s.entry) ∷ written) written
    ≡ with_entry slot.name entry (cond b ((s.name, s.entry) ∷ entries_in ss) (entries_in ss))) [
      | true ↦ (λ o. let others = entries_in-set_entry ss place slot entry here used o.1 in
          let apart = o.0 in let found = entry_of-entries_in ss place slot here used o.1 in grind (arith, bytes_eq_tells))
      | false ↦ (λ o. entries_in-set_entry ss place slot entry here used o)
    ] once

-- a slot that is used no more
pub entries_in-set_unused : {E : Type 0} (slots : List (Slot E)) (place : ℕ) (slot : Slot E)
    → slice_get slots place ≡ Some slot → slot.is_used ≡ true → EachOnce (entries_in slots)
    → entries_in (set slots place (record slot { is_used = false })) ≡ without_entry slot.name (entries_in slots)
entries_in-set_unused [] place slot here used once = cc
entries_in-set_unused (s ∷ ss) zero slot here used once =
    let absent = without_entry-absent slot.name (entries_in ss) in grind (arith, bytes_eq_tells)
entries_in-set_unused {E} (s ∷ ss) (suc place) slot here used once =
    let written = entries_in (set ss place (record slot { is_used = false })) in
    elim s.is_used as (λ b. EachOnce (cond b ((s.name, s.entry) ∷ entries_in ss) (entries_in ss))
    → cond b ((s.name, s.entry) ∷ written) written
    ≡ without_entry slot.name (cond b ((s.name, s.entry) ∷ entries_in ss) (entries_in ss))) [
      | true ↦ (λ o. let others = entries_in-set_unused ss place slot here used o.1 in
          let apart = o.0 in let found = entry_of-entries_in ss place slot here used o.1 in grind (arith, bytes_eq_tells))
      | false ↦ (λ o. entries_in-set_unused ss place slot here used o)
    ] once

-- a slot that leads elsewhere
pub entries_in-set_older : {E : Type 0} (slots : List (Slot E)) (place : ℕ) (slot : Slot E) (older : ℕ)
    → slice_get slots place ≡ Some slot → entries_in (set slots place (record slot { older = older })) ≡ entries_in slots
entries_in-set_older [] place slot older here = cc
entries_in-set_older (s ∷ ss) zero slot older here = grind arith
entries_in-set_older (s ∷ ss) (suc place) slot older here =
    let others = entries_in-set_older ss place slot older here in grind arith

-- a slot added behind the others
pub entries_in-push : {E : Type 0} (slots : List (Slot E)) (slot : Slot E) → slot.is_used ≡ true
    → entries_in (slots ++ slot ∷ []) ≡ entries_in slots ++ (slot.name, slot.entry) ∷ []
entries_in-push [] slot used = grind arith
entries_in-push (s ∷ ss) slot used = let others = entries_in-push ss slot used in grind arith

-- the slots that are used keep all entries
pub entries_in-filter : {E : Type 0} (slots : List (Slot E)) → entries_in (filter (λ s. s.is_used) slots) ≡ entries_in slots
entries_in-filter [] = refl
entries_in-filter (s ∷ ss) = let others = entries_in-filter ss in grind arith

-- and there are as many of them as entries
pub length-filter_used : {E : Type 0} (slots : List (Slot E)) → length (filter (λ s. s.is_used) slots) ≡ length (entries_in slots)
length-filter_used [] = refl
length-filter_used (s ∷ ss) = let others = length-filter_used ss in grind arith

-- no more entries than slots
pub length-entries_in : {E : Type 0} (slots : List (Slot E)) → length (entries_in slots) ≤ length slots
length-entries_in [] = omega arith
length-entries_in (s ∷ ss) = let others = length-entries_in ss in grind arith

-- a part of an element that a write leaves alone
pub map-set_same : {A B : Type 0} (f : A → B) (xs : List A) (i : ℕ) (x y : A)
    → slice_get xs i ≡ Some x → f y ≡ f x → map f (set xs i y) ≡ map f xs
map-set_same f [] i x y here same = cc
map-set_same f (z ∷ zs) zero x y here same = cc
map-set_same f (z ∷ zs) (suc i) x y here same = ap (λ rest. f z ∷ rest) (map-set_same f zs i x y here same)

-- an element of a mapped list
pub get_or-map_at : {A : Type 0} (f : A → ℕ) (xs : List A) (i : ℕ) (x : A) → slice_get xs i ≡ Some x → get_or (map f xs) i 0 ≡ f x
get_or-map_at f [] i x here = cc
get_or-map_at f (y ∷ ys) zero x here = cc
get_or-map_at f (y ∷ ys) (suc i) x here = get_or-map_at f ys i x here

-- the bucket of a slot
pub slot_bucket-used : {E : Type 0} (slot : Slot E) → slot.is_used ≡ true → slot_bucket slot ≡ bucket_of slot.name
slot_bucket-used slot used = rw used refl

-- a slot that lies in a bucket is used
pub used_in_bucket : {E : Type 0} (slot : Slot E) → slot_bucket slot < bucket_count → slot.is_used ≡ true
used_in_bucket slot small =
    elim slot.is_used as (λ b. (if b then bucket_of slot.name else bucket_count) < bucket_count → b ≡ true)
    [ true ↦ (λ h. refl) | false ↦ (λ h. absurd (omega arith)) ] small

-- where there are as many entries as slots, all slots are used
pub all_used : {E : Type 0} (slots : List (Slot E)) (place : ℕ) (slot : Slot E) → length (entries_in slots) ≡ length slots
    → slice_get slots place ≡ Some slot → slot.is_used ≡ true
all_used [] place slot full here = cc
all_used (s ∷ ss) zero slot full here = let few = length-entries_in ss in grind arith
all_used (s ∷ ss) (suc place) slot full here =
    let few = length-entries_in ss in
    let others = all_used ss place slot in grind arith

-- names of other buckets may be passed over
pub entry_of-pass : {E : Type 0} (name : List ℕ) (slots : List (Slot E)) (front behind : ℕ)
    → front ≤ behind → behind ≤ length slots
    → ((place : ℕ) → front ≤ place → place < behind → get_or (buckets_of slots) place 0 ≢ bucket_of name)
    → entry_of name (entries_in (drop behind slots)) ≡ None → entry_of name (entries_in (drop front slots)) ≡ None
entry_of-pass name [] zero zero low high others absent = absent
entry_of-pass name [] zero (suc behind) low high others absent = refl
entry_of-pass name [] (suc front) behind low high others absent = refl
entry_of-pass name (s ∷ ss) zero zero low high others absent = absent
entry_of-pass name (s ∷ ss) zero (suc behind) low high others absent =
    let rest = entry_of-pass name ss zero behind (omega arith) (omega arith)
    (λ place a b. others (suc place) (omega arith) (omega arith)) absent in
    let apart : slot_bucket s ≢ bucket_of name = others zero (omega arith) (omega arith) in
    let differs : s.is_used ≡ true → s.name ≢ name = (λ used same. apart (slot_bucket-used s used ∙ ap bucket_of same)) in
    grind (arith, bytes_eq_tells)
entry_of-pass name (s ∷ ss) (suc front) zero low high others absent = absurd (omega arith)
entry_of-pass name (s ∷ ss) (suc front) (suc behind) low high others absent =
    entry_of-pass name ss front behind (omega arith) (omega arith)
    (λ place a b. others (suc place) (omega arith) (omega arith)) absent
