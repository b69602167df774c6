-- The pool: chunks, and the strands that they hold.
use Rattle.std.specs.Prelude.{◌≡◌, ℕ, ◌+◌, ◌≤◌, List, [], ◌∷◌, ◌++◌, length, All, sum_by, ◌&&◌, ◌==◌, nat_lt, if◌then◌else◌}
use Rattle.roff_store.specs.declared.strand.Strand.{Strand}
use Rattle.roff_store.specs.Chains.{Chunks, IsStrand, IsText, bytes_of, has, share, shares_in}

-- how many bytes strands have, how many chunks, and how often they have one
abbrev pub rest_in : List Strand → ℕ
rest_in strands = sum_by (λ strand. strand.rest) strands

abbrev pub chunks_in : List Strand → ℕ
chunks_in strands = sum_by (λ strand. strand.chunks) strands

abbrev pub shares_by : Chunks → ℕ → List Strand → ℕ
shares_by m chunk strands = sum_by (λ strand. has m strand chunk) strands

-- whether a text ends with a chunk
abbrev pub ends_in : ℕ → Strand → ℕ
ends_in chunk s = if nat_lt 0 s.chunks && (chunk == s.last) then 1 else 0

-- the chunks hold texts and leases, and nothing else: they know how many strands have each, and no two texts end with the same
pub record Holds (m : Chunks) (ts ls : List Strand) : Type 0 where
  pub texts : All (IsText m) ts
  pub leases : All (IsStrand m) ls
  pub shares : (chunk : ℕ) → share m chunk ≡ shares_by m chunk ts + shares_by m chunk ls
  pub sum : shares_in m ≡ chunks_in ts + chunks_in ls
  pub apart : (chunk : ℕ) → sum_by (ends_in chunk) ts ≤ 1
  pub within : length m.contents ≤ m.most

-- a strand is as it was
pub record IsLeft (m m' : Chunks) (s : Strand) : Type 0 where
  pub bytes : bytes_of m' s ≡ bytes_of m s
  pub has : (chunk : ℕ) → has m' s chunk ≡ has m s chunk

-- texts and leases are held, with some that are in hand, and are as they were
pub record Leaves (m m' : Chunks) (texts leases ts ls : List Strand) : Type 0 where
  pub held : Holds m' (texts ++ ts) (leases ++ ls)
  pub texts_left : All (IsLeft m m') ts
  pub leases_left : All (IsLeft m m') ls

-- a text and strands to be read are held, beside others
pub record IsHeld (m : Chunks) (text : Strand) (reads : List Strand) : Type 0 where
  pub ts : List Strand
  pub ls : List Strand
  pub held : Holds m (text ∷ ts) (reads ++ ls)

-- bytes are put behind a text: all others stay as they were, but for the strands that are read meanwhile
pub record IsLonger (m : Chunks) (s : Strand) (was : List Strand) (bytes : List ℕ) (m' : Chunks) (t : Strand) (now : List Strand) : Type 0 where
  pub leaves : (ts ls : List Strand) → Holds m (s ∷ ts) (was ++ ls) → Leaves m m' (t ∷ []) now ts ls
  pub bytes_are : bytes_of m' t ≡ bytes_of m s ++ bytes
  pub len : t.rest ≡ s.rest + length bytes
  pub most : m'.most ≡ m.most
