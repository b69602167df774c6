-- What a table of leases keeps.
use Rattle.std.specs.Prelude.{◌≡◌, ◌≢◌, ◌+◌, ◌<◌, ◌≤◌, length, get_or, All, AllPairs, None, vec_len, vec_capacity}
use Rattle.roff_store.specs.declared.lease_table.LeaseTable.TheInside.{Inside}
use Rattle.roff_store.specs.Leases.{Leases, living}

-- what the fields keep
abbrev pub kept_by : Inside → Leases
kept_by a = record { items = a.leases.items; cap = a.cap }

-- each number that a lease has or had is that of a lease that lives, or stands once among those that have ended
pub record IsSound (a : Inside) : Type 0 where
  pub known : All (λ id. id < vec_len a.leases) a.ended.items
  pub dead : All (λ id. get_or a.leases.items id None ≡ None) a.ended.items
  pub once : AllPairs (λ id later. id ≢ later) a.ended.items
  pub all : length (living a.leases.items) + vec_len a.ended ≡ vec_len a.leases
  pub within : vec_len a.leases ≤ a.cap
  pub leases_reserved : vec_capacity a.leases ≡ a.cap
  pub ended_reserved : vec_capacity a.ended ≡ a.cap
