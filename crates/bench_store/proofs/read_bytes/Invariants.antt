use Rattle.std.proofs.Common.{IsSome}
use Rattle.roff_store.specs.Texts.{lease_of, rest_of}
use Rattle.bench_store.proofs.read_bytes.Given as goal

abbrev pub invariant-loop-byte : goal.invariant-loop-byte
invariant-loop-byte l = IsSome (lease_of l.lease.0 l.store)

abbrev pub decreases-loop-byte : goal.decreases-loop-byte
decreases-loop-byte l = rest_of (lease_of l.lease.0 l.store)
