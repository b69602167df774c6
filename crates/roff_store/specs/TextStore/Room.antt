-- How many chunks a store of texts has.
use Rattle.std.specs.Prelude.{ℕ, ◌+◌, ◌*◌, ◌≤◌, ◌<◌}

-- how many bytes chunks must have room for: those of texts and leases, and what may lie unused. The last chunk of a body or of
-- a text in the making may be nearly empty, and so may the first and the last one of a lease. Three chunks more are for a text
-- that is copied behind another one.
abbrev pub bytes_wanted : ℕ → ℕ → ℕ → ℕ → ℕ → ℕ
bytes_wanted bytes kept names opens leases = bytes + kept + 120 * (names + opens + 2 * leases) + 360

-- so many chunks have room for so many bytes, and one fewer hasn't
pub record IsLeastFor (bytes chunks : ℕ) : Type 0 where
  pub enough : bytes ≤ 120 * chunks
  pub no_more : 120 * chunks < bytes + 120
