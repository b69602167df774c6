-- What the chunks keep.
use Rattle.std.specs.Prelude.{◌≡◌, ◌≢◌, ◌≤◌, ◌<◌, ℕ, Bool, length, All, AllPairs, count_by, ◌==◌, vec_len, vec_capacity}
use Rattle.roff_store.specs.declared.chunks.Chunks.TheInside.{Inside}
use Rattle.roff_store.specs.Chains.{Chunks, content, share, shares_in}

-- what the fields keep
abbrev pub kept_by : Inside → Chunks
kept_by a = record { contents = a.contents.items; links = a.links.items; shares = a.shares.items; most = a.most }

-- whether no strand has a chunk
abbrev pub is_free : ℕ → Bool
is_free shares = shares == 0

-- each chunk that no strand has can be claimed, and no other one; room is reserved for the most, and for no more
pub record IsSound (a : Inside) : Type 0 where
  pub links : vec_len a.links ≡ vec_len a.contents
  pub shares : vec_len a.shares ≡ vec_len a.contents
  pub within : vec_len a.contents ≤ a.most
  pub shared : shares_in (kept_by a) ≤ a.most
  pub fits : (chunk : ℕ) → length (content (kept_by a) chunk) ≤ 120
  pub known : All (λ chunk. chunk < vec_len a.contents) a.free.items
  pub unshared : All (λ chunk. share (kept_by a) chunk ≡ 0) a.free.items
  pub once : AllPairs (λ chunk later. chunk ≢ later) a.free.items
  pub all : vec_len a.free ≡ count_by is_free a.shares.items
  pub contents_reserved : vec_capacity a.contents ≡ a.most
  pub links_reserved : vec_capacity a.links ≡ a.most
  pub shares_reserved : vec_capacity a.shares ≡ a.most
  pub free_reserved : vec_capacity a.free ≡ a.most
