-- Chunks of bytes, and the chains of chunks in which texts lie.
use Rattle.std.specs.Prelude.{◌≡◌, ◌≢◌, ℕ, zero, suc, ◌+◌, ◌-◌, ◌*◌, ◌<◌, ◌≤◌, List, [], ◌++◌, length, get_or, take, drop, sum, min, ◌==◌, if◌then◌else◌}
use Rattle.arrayvec.specs.ArrayVec.{ArrayVec as Bytes}
use Rattle.roff_store.specs.declared.strand.Strand.{Strand}

-- a number of chunks
pub record Chunks : Type 0 where
  -- the bytes of each chunk
  pub contents : List (Bytes ℕ)
  -- for each chunk the one behind it, or the number of none
  pub links : List ℕ
  -- for each chunk how many strands have it
  pub shares : List ℕ
  -- how many chunks there may be
  pub most : ℕ

-- the bytes of a chunk
abbrev pub content : Chunks → ℕ → List ℕ
content m chunk = (get_or m.contents chunk (record { items = [] })).items

-- the chunk behind a chunk
abbrev pub link : Chunks → ℕ → ℕ
link m chunk = get_or m.links chunk m.most

-- how many strands have a chunk
abbrev pub share : Chunks → ℕ → ℕ
share m chunk = get_or m.shares chunk 0

-- how many chunks strands have, a chunk counted for each of its strands
abbrev pub shares_in : Chunks → ℕ
shares_in m = sum m.shares

-- the bytes of a chain: so many chunks from the first one on
abbrev pub chain_bytes : Chunks → ℕ → ℕ → List ℕ
chain_bytes m zero first = []
chain_bytes m (suc count) first = content m first ++ chain_bytes m count (link m first)

-- how often a chunk stands in a chain
abbrev pub times_in : Chunks → ℕ → ℕ → ℕ → ℕ
times_in m zero first chunk = 0
times_in m (suc count) first chunk = (if chunk == first then 1 else 0) + times_in m count (link m first) chunk

-- the last chunk of a chain that has so many more behind its first one
abbrev pub last_of : Chunks → ℕ → ℕ → ℕ
last_of m zero first = first
last_of m (suc count) first = last_of m count (link m first)

-- a chunk holds what a chain that begins in it needs of it
pub record IsPart (m : Chunks) (first need : ℕ) : Type 0 where
  pub chunk : first < length m.contents
  pub some : 0 < need
  pub held : min need 120 ≤ length (content m first)

-- a chain of chunks holds so many bytes and has no chunk too many: each but the last is full
abbrev pub IsChain : Chunks → ℕ → ℕ → ℕ → Type 0
IsChain m zero first need = need ≡ 0
IsChain m (suc count) first need = IsPart m first need × IsChain m count (link m first) (need - 120)

-- the bytes of a strand
abbrev pub bytes_of : Chunks → Strand → List ℕ
bytes_of m s = take s.rest (drop s.at (chain_bytes m s.chunks s.first))

-- how often a strand has a chunk
abbrev pub has : Chunks → Strand → ℕ → ℕ
has m s chunk = times_in m s.chunks s.first chunk

-- a strand lies in its chain, from a place of the first chunk on
pub record IsStrand (m : Chunks) (s : Strand) : Type 0 where
  pub chain : IsChain m s.chunks s.first (s.at + s.rest)
  pub start : s.at < 120
  pub some : 0 < s.chunks → 0 < s.rest

-- a strand ends with its last chunk, behind which none comes
pub record EndsChain (m : Chunks) (s : Strand) : Type 0 where
  pub last : last_of m (s.chunks - 1) s.first ≡ s.last
  pub end : m.most ≤ link m s.last
  pub filled : length (content m s.last) + 120 * (s.chunks - 1) ≡ s.rest

-- a strand that may get longer: a whole text, to the end of its chain
pub record IsText (m : Chunks) (s : Strand) : Type 0 where
  pub strand : IsStrand m s
  pub whole : s.at ≡ 0
  pub ends : 0 < s.chunks → EndsChain m s
  pub none : s.chunks ≡ 0 → m.most ≤ s.last

-- strands have the chunks of this one
abbrev pub IsShared : Chunks → Strand → Type 0
IsShared m s = (chunk : ℕ) → has m s chunk ≤ share m chunk

-- how many other strands have a chunk
abbrev pub others : Chunks → Strand → ℕ → ℕ
others m s chunk = share m chunk - has m s chunk

-- bytes are put behind those of a chunk
pub record GrowsBy (old new : List ℕ) : Type 0 where
  pub more : List ℕ
  pub grown : new ≡ old ++ more

-- the chunks that others have are as they were, but that the last one of a text may have got longer
pub record LeavesOthers (claims : ℕ → ℕ) (last : ℕ) (old new : Chunks) : Type 0 where
  pub most : new.most ≡ old.most
  pub chunks : length old.contents ≤ length new.contents
  pub same_bytes : (chunk : ℕ) → 0 < claims chunk → chunk ≢ last → content new chunk ≡ content old chunk
  pub same_link : (chunk : ℕ) → 0 < claims chunk → chunk ≢ last → link new chunk ≡ link old chunk
  pub grown : 0 < claims last → GrowsBy (content old last) (content new last)

-- bytes were put behind a text; others may have some of its chunks
pub record IsExtended (claims : ℕ → ℕ) (old : Chunks) (s : Strand) (behind : List ℕ) (new : Chunks) (t : Strand) : Type 0 where
  pub text : IsText new t
  pub bytes : bytes_of new t ≡ bytes_of old s ++ behind
  pub len : t.rest ≡ s.rest + length behind
  pub shared : (chunk : ℕ) → share new chunk ≡ claims chunk + has new t chunk
  pub leaves : LeavesOthers claims s.last old new
  pub apart : (chunk : ℕ) → 0 < claims chunk → chunk ≢ s.last → chunk ≢ t.last
  pub within : length new.contents ≤ new.most

-- the chunks are the same, but for how many strands have each
pub record AreSameChunks (old new : Chunks) : Type 0 where
  pub contents : new.contents ≡ old.contents
  pub links : new.links ≡ old.links
  pub most : new.most ≡ old.most
