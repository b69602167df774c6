-- Limits beside others.
use Rattle.std.specs.Prelude.{◌≤◌}
use Rattle.roff_num.specs.LimitValues.{value_of}
use Rattle.roff_num.specs.declared.limit.Limit.{Limit}
use Rattle.roff_num.specs.declared.limits.Limits.{Limits}

-- no limit of one run is greater than that of another
pub record AreWithin (small large : Limits) : Type 0 where
  pub each : (limit : Limit) → value_of small limit ≤ value_of large limit
