use Rattle.std.proofs.Common.{◌≡◌, ◌<◌, take}
use Rattle.roff_store.specs.Buckets.{bucket_of, bucket_count}
use Rattle.roff_store.proofs.name_table.bucket_of_bytes.Given as goal

abbrev pub invariant-loop-byte : goal.invariant-loop-byte
invariant-loop-byte l = (l.bucket ≡ bucket_of (take l.byte-index l.bytes)) × (l.bucket < bucket_count)
