-- What an engine is made with.
use Rattle.roff_num.specs.declared.limits.Limits.{Limits}
use Rattle.run_model.specs.declared.start.Start.{Start}

-- its limits, and what is given to its run
pub record Setup : Type 0 where
  pub limits : Limits
  pub start : Start
