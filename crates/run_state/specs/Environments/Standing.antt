-- How the code's environments stand for those of the definition.
use Rattle.std.specs.Prelude.{◌≡◌, ℕ}
use Rattle.roff_lines.specs.Env.Stands.{Stands}
use Rattle.roff_num.specs.declared.limits.Limits.{Limits}
use Rattle.run_model.specs.Environments.{InEnvironment, Environments}
use Rattle.run_state.specs.declared.environments.Environment.{Environment as EnvironmentOf}
use Rattle.run_state.specs.declared.environments.Environments.{Environments as EnvironmentsOf}

-- one of the code's stands for one of the definition's, its pending line within so many bytes
pub record StandsAs (cap : ℕ) (e : InEnvironment) (coded : EnvironmentOf) : Type 0 where
  pub lines : Stands cap e.text coded.lines
  pub interrupted : coded.interrupted ≡ e.interrupted
  pub input_trap : coded.input_trap ≡ e.input_trap

-- the three of the code stand for those of the definition, within these limits
pub record StandBy (l : Limits) (es : Environments) (coded : EnvironmentsOf) : Type 0 where
  pub number : coded.number ≡ es.number
  pub in_force : StandsAs l.line es.in_force coded.in_force
  pub next : StandsAs l.line es.next coded.next
  pub last : StandsAs l.line es.last coded.last
  pub left : coded.left.numbers ≡ es.left
  pub cap : coded.left.cap ≡ l.environments

-- those of the code became others: whatever the old ones stand for, the new ones stand for that changed so
pub record Becomes (change : Environments → Environments) (old new : EnvironmentsOf) : Type 0 where
  pub becomes : (l : Limits) (es : Environments) → StandBy l es old → StandBy l (change es) new
