-- What the code keeps of the environments that were left.
use Rattle.std.specs.Prelude.{ℕ, ◌≤◌, List, length, reverse, vec_capacity}
use Rattle.run_model.specs.declared.environment_number.EnvironmentNumber.{EnvironmentNumber}
use Rattle.run_state.specs.declared.environments.Left.TheInside.{Inside}

-- their numbers, the newest first, and how many there may be
pub record KeptNumbers : Type 0 where
  pub numbers : List EnvironmentNumber
  pub cap : ℕ

-- what the fields keep: the newest stands at the back
abbrev pub kept_by : Inside → KeptNumbers
kept_by a = record { numbers = reverse a.numbers.items; cap = a.cap }

-- no more were left than may be, and there is room for so many
pub record IsSound (a : Inside) : Type 0 where
  pub within : length a.numbers.items ≤ a.cap
  pub room : a.cap ≤ vec_capacity a.numbers
