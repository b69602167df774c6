-- What a table keeps.
use Rattle.std.specs.Prelude.{◌≡◌, ◌<◌, ◌≤◌, ◌^◌, length, vec_capacity}
use Rattle.roff_store.specs.declared.name_table.NameTable.TheInside.{Inside}
use Rattle.roff_store.specs.Named.{Table, EachOnce}
use Rattle.roff_store.specs.NameTable.Slots.{entries_in, slots_for, IsIndexed}

-- what the fields keep
abbrev pub kept_by : {E : Type 0} → Inside E → Table E
kept_by a = record { entries = entries_in a.slots.items; cap = a.cap }

-- so many slots are reserved as the names are to have, and indexed, and the names counted
pub record IsSound {E : Type 0} (a : Inside E) : Type 0 where
  pub reserved : vec_capacity a.slots ≡ slots_for a.cap
  pub small : vec_capacity a.slots < 2 ^ 32
  pub cap : a.cap ≤ vec_capacity a.slots
  pub count : a.count ≡ length (entries_in a.slots.items)
  pub within : a.count ≤ a.cap
  pub once : EachOnce (entries_in a.slots.items)
  pub index : IsIndexed a.slots.items a.heads.items
