-- What a store of texts keeps.
use Rattle.std.specs.Prelude.{◌≡◌, ◌^◌, ◌<◌, ◌≤◌, List, ◌++◌, length, map, vec_len, vec_capacity}
use Rattle.roff_store.specs.declared.strand.Strand.{Strand}
use Rattle.roff_store.specs.declared.text_store.TextStore.TheInside.{Inside}
use Rattle.roff_store.specs.Pool.{Holds, rest_in}
use Rattle.roff_store.specs.Chains.{bytes_of}
use Rattle.roff_store.specs.Leases.{living}
use Rattle.roff_store.specs.Named.{EachOnce}
use Rattle.roff_store.specs.Texts.{Texts}
use Rattle.roff_store.specs.TextStore.Room.{bytes_wanted, IsLeastFor}
use Rattle.roff_store.specs.TextStore.Strands.{bodies, entries_in, lease_in}

-- what the fields keep
abbrev pub kept_by : Inside → Texts
kept_by a = record {
  names = record { entries = entries_in a.chunks a.names.entries; cap = a.names.cap };
  open_texts = map (bytes_of a.chunks) a.open.items;
  leases = map (lease_in a.chunks) a.leases.items;
  cap_bytes = a.cap_bytes;
  cap_kept = a.cap_kept;
  cap_open = a.cap_open;
  cap_leases = a.leases.cap;
}

-- the strands of the texts
abbrev pub texts_in : Inside → List Strand
texts_in a = bodies a.names.entries ++ a.open.items

-- the chunks hold the strands, the bytes are counted, and as much room is reserved as is wanted, and no more
pub record IsSound (a : Inside) : Type 0 where
  pub held : Holds a.chunks (texts_in a) (living a.leases.items)
  pub once : EachOnce a.names.entries
  pub few : length a.names.entries ≤ a.names.cap
  pub counted : a.used ≡ rest_in (texts_in a)
  pub within : a.used ≤ a.cap_bytes
  pub given : a.kept ≡ rest_in (living a.leases.items)
  pub kept_within : a.kept ≤ a.cap_kept
  pub opens : vec_len a.open ≤ a.cap_open
  pub opens_reserved : vec_capacity a.open ≡ a.cap_open
  pub leases : length (living a.leases.items) ≤ a.leases.cap
  pub room : IsLeastFor (bytes_wanted a.cap_bytes a.cap_kept a.names.cap a.cap_open a.leases.cap) a.chunks.most
  pub most : a.chunks.most < 2 ^ 64
