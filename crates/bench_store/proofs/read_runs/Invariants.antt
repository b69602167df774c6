use Rattle.std.proofs.Common.{◌≡◌, ℕ, List, IsSome, Option}
use Rattle.roff_store.specs.Texts.{lease_of, rest_of}
use Rattle.bench_store.proofs.read_runs.Given as goal

-- a lease lives that gives so many bytes
pub record Gives (rest : ℕ) (lease : Option (List ℕ)) : Type 0 where
  pub lives : IsSome lease
  pub rest_is : rest ≡ rest_of lease

abbrev pub invariant-loop-rest : goal.invariant-loop-rest
invariant-loop-rest l = Gives l.rest (lease_of l.lease.0 l.store)

abbrev pub decreases-loop-rest : goal.decreases-loop-rest
decreases-loop-rest l = l.rest
