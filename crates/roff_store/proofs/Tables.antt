-- What a table keeps once a name is given an entry, or its entry is taken away.
use Rattle.std.proofs.Common.{◌≡◌, ℕ, ◌+◌, ◌<◌, ◌≤◌, true, false, List, length, get_or, set, Some, None, Ok, refl, sym, ap, ◌∙◌, arith}
use Rattle.std.specs.List.{slice_get}
use Rattle.std.specs.Vec.{with_item}
use Rattle.std.proofs.lemmas.Option.{get_or_from_slice_get}
use Rattle.roff_store.specs.declared.name_table.Slot.{Slot}
use Rattle.roff_store.specs.declared.name_table.NameTable.TheInside.{Inside}
use Rattle.roff_store.specs.Buckets.{bucket_of, bucket_count}
use Rattle.roff_store.specs.Named.{EachOnce, Named, Table, entry_of, with_entry, without_entry, admitted, put_into}
use Rattle.roff_store.specs.NameTable.Slots.{entries_in, IsIndexed, LeadsTo, StandsAt}
use Rattle.roff_store.specs.NameTable.Kept.{IsSound}
use Rattle.roff_store.proofs.Entries.{EachOnce-with_entry, length-with_entry, length-without_entry}
use Rattle.roff_store.proofs.Slots.{entry_of-entries_in, entries_in-set_entry, entries_in-set_older, entries_in-set_unused}
use Rattle.roff_store.proofs.Linking.{IsIndexed-set, IsIndexed-unlink_newer, slice_get-set_other}

-- one name more once a new one is given an entry
pub length-added : {E : Type 0} (name : List ℕ) (entry : E) (entries : Named E) → entry_of name entries ≡ None
    → length (with_entry name entry entries) ≡ length entries + 1
length-added name entry entries absent = let n = length-with_entry name entry entries in grind arith

-- a name that has an entry may be given another
pub admitted-found : {E : Type 0} {old : E} (name : List ℕ) (t : Table E) → entry_of name t.entries ≡ Some old → admitted name t ≡ Ok tt
admitted-found name t had = rw had refl

-- and its entry is then that one
pub put_into-found : {E : Type 0} {old : E} (name : List ℕ) (entry : E) (t : Table E) → entry_of name t.entries ≡ Some old
    → put_into name entry t ≡ record t { entries = with_entry name entry t.entries }
put_into-found name entry t had = grind arith

-- this slot stands at a place, and the name has its entry in it
pub record IsFound {E : Type 0} (slots : List (Slot E)) (place : ℕ) (name : List ℕ) (slot : Slot E) : Type 0 where
  pub here : slice_get slots place ≡ Some slot
  pub used : slot.is_used ≡ true
  pub named : slot.name ≡ name

module _ {E : Type 0} where
  -- the slot that is read at the place where one was found
  pub IsFound-read : {items slots : List (Slot E)} {place : ℕ} {name : List ℕ} {slot : Slot E}
      → items ≡ slots → StandsAt items place name → slot ≡ get_or slots place slot → IsFound slots place name slot
  IsFound-read {items} {slots} {place} {name} {slot} items_are stands read =
      let here : slice_get slots place ≡ Some stands.slot = rw (← items_are) stands.here in
      let same : stands.slot ≡ slot = sym (get_or_from_slice_get slots place stands.slot slot here) ∙ sym read in
      record {
        here = here ∙ ap (λ s. Some s) same;
        used = ap (λ (s : Slot E). s.is_used) (sym same) ∙ stands.used;
        named = ap (λ (s : Slot E). s.name) (sym same) ∙ stands.named;
      }

  -- the slot that was found
  pub IsFound-stands : {slots : List (Slot E)} {place : ℕ} {name : List ℕ} (stands : StandsAt slots place name)
      → IsFound slots place name stands.slot
  IsFound-stands stands = record { here = stands.here; used = stands.used; named = stands.named }

  -- the name has the entry of the slot
  pub entry_of-found : {slots : List (Slot E)} {place : ℕ} {name : List ℕ} {slot : Slot E}
      → IsFound slots place name slot → EachOnce (entries_in slots) → entry_of name (entries_in slots) ≡ Some slot.entry
  entry_of-found {slots} {place} {name} {slot} found once =
      rw (← found.named) (entry_of-entries_in slots place slot found.here found.used once)

  -- the entries once another one is written into the slot
  pub entries_in-written : {slots : List (Slot E)} {place : ℕ} {name : List ℕ} {slot : Slot E}
      → IsFound slots place name slot → EachOnce (entries_in slots) → (entry : E)
      → entries_in (set slots place (record slot { entry = entry })) ≡ with_entry name entry (entries_in slots)
  entries_in-written {slots} {place} {name} {slot} found once entry =
      rw (← found.named) (entries_in-set_entry slots place slot entry found.here found.used once)

  -- the entries once the slot isn't used
  pub entries_in-unused : {slots : List (Slot E)} {place : ℕ} {name : List ℕ} {slot : Slot E}
      → IsFound slots place name slot → EachOnce (entries_in slots)
      → entries_in (set slots place (record slot { is_used = false })) ≡ without_entry name (entries_in slots)
  entries_in-unused {slots} {place} {name} {slot} found once =
      rw (← found.named) (entries_in-set_unused slots place slot found.here found.used once)

  -- the slots once one that is found isn't used and the one that led to it leads where it led
  pub record IsUnlinked (slots : List (Slot E)) (heads : List ℕ) (place : ℕ) (name : List ℕ) (slot : Slot E) (newer : ℕ) (leader : Slot E) : Type 0 where
    pub still : slice_get (set slots place (record slot { is_used = false })) newer ≡ Some leader
    pub entries : entries_in (set (set slots place (record slot { is_used = false })) newer (record leader { older = slot.older }))
        ≡ without_entry name (entries_in slots)
    pub index : IsIndexed (set (set slots place (record slot { is_used = false })) newer (record leader { older = slot.older })) heads

  -- what `unlink` leaves there
  pub IsUnlinked-newer : {slots : List (Slot E)} {heads : List ℕ} {place : ℕ} {name : List ℕ} {slot : Slot E} {newer bucket : ℕ}
      → IsIndexed slots heads → bucket_of name < bucket_count → EachOnce (entries_in slots) → IsFound slots place name slot
      → bucket ≡ bucket_of name → (leads : LeadsTo slots newer bucket (place + 1))
      → IsUnlinked slots heads place name slot newer leads.slot
  IsUnlinked-newer {slots} {heads} {place} {name} {slot} {newer} {bucket} index small once found lies leads =
      let gone : Slot E = record slot { is_used = false } in
      let linked = IsIndexed-unlink_newer slots heads place slot index found.here found.used (rw found.named small) newer leads.slot
      leads.at (leads.lies ∙ lies ∙ ap bucket_of (sym found.named)) leads.leads in
      let still : slice_get (set slots place gone) newer ≡ Some leads.slot =
      slice_get-set_other slots place newer gone linked.0 ∙ leads.at in
      record {
        still = still;
        entries = entries_in-set_older (set slots place gone) newer leads.slot slot.older still ∙ entries_in-unused found once;
        index = linked.1;
      }

  -- as many names once an entry is written
  length-written : {slots : List (Slot E)} {place : ℕ} {name : List ℕ} {slot : Slot E}
      → IsFound slots place name slot → EachOnce (entries_in slots) → (entry : E)
      → length (with_entry name entry (entries_in slots)) ≡ length (entries_in slots)
  length-written {slots} {place} {name} {slot} found once entry =
      let had = entry_of-found found once in let n = length-with_entry name entry (entries_in slots) in grind arith

  -- one name fewer once its entry is taken away
  pub length-unused : {slots : List (Slot E)} {place : ℕ} {name : List ℕ} {slot : Slot E}
      → IsFound slots place name slot → EachOnce (entries_in slots)
      → length (entries_in slots) ≡ length (without_entry name (entries_in slots)) + 1
  length-unused {slots} {place} {name} {slot} found once =
      let had = entry_of-found found once in let n = length-without_entry name (entries_in slots) once in grind arith

  -- a name that is found is counted
  pub count-found : {place : ℕ} {name : List ℕ} {slot : Slot E} (a : Inside E)
      → IsSound a → IsFound a.slots.items place name slot → 1 ≤ a.count
  count-found a sound found = let n = length-unused found sound.once in let m = sound.count in omega arith

  -- a table is sound once an entry is written
  pub IsSound-written : {place : ℕ} {name : List ℕ} {slot : Slot E} (a : Inside E)
      → IsSound a → IsFound a.slots.items place name slot → (entry : E)
      → IsSound (record a { slots = with_item a.slots place (record slot { entry = entry }) })
  IsSound-written {place} {name} {slot} a sound found entry =
      let written = entries_in-written found sound.once entry in
      record {
        reserved = sound.reserved;
        small = sound.small;
        cap = sound.cap;
        count = rw (written, length-written found sound.once entry) sound.count;
        within = sound.within;
        once = rw written (EachOnce-with_entry name entry (entries_in a.slots.items) sound.once);
        index = IsIndexed-set a.slots.items a.heads.items place slot (record slot { entry = entry }) found.here refl refl sound.index;
      }
