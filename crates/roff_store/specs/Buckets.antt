-- The buckets of names.
use Rattle.std.specs.Prelude.{◌+◌, ◌*◌, ◌%◌, ℕ, List, fold}

-- how many buckets there are. No bucket has this number, so it stands for none.
abbrev pub bucket_count : ℕ
bucket_count = 8192

-- the bucket of a name: its bytes as the digits of a number in base 1145, of which the remainder is taken. Names of one or
-- two letters and digits are apart so, and of the names of one or two printed bytes no three share a bucket.
abbrev pub bucket_of : List ℕ → ℕ
bucket_of name = fold (λ number byte. (number * 1145 + byte) % bucket_count) 0 name
