-- Leases by their numbers.
use Rattle.std.specs.Prelude.{ℕ, List, [], ◌∷◌, ◌++◌, length, set, Option, Some, None, ◌==◌, if◌then◌else◌}
use Rattle.roff_store.specs.declared.strand.Strand.{Strand}

-- for each number that a lease has or had, its strand, if it lives; and how many leases there may be
pub record Leases : Type 0 where
  pub items : List (Option Strand)
  pub cap : ℕ

-- the strand of a lease, if it lives
abbrev pub strands_if : Option Strand → List Strand
strands_if None = []
strands_if (Some strand) = strand ∷ []

-- the strands of the leases that live
abbrev pub living : List (Option Strand) → List Strand
living [] = []
living (lease ∷ leases) = strands_if lease ++ living leases

-- the leases with this one under a number that none of them has: one of an ended lease, or the next
abbrev pub begun : ℕ → Strand → List (Option Strand) → List (Option Strand)
begun id strand leases = if id == length leases then leases ++ Some strand ∷ [] else set leases id (Some strand)
