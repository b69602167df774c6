-- What a run within its limits has: no count is above its limit.
use Rattle.std.specs.Prelude.{◌+◌, ◌≤◌, length}
use Rattle.page_model.specs.Behind.{pending_length}
use Rattle.roff_num.specs.declared.limits.Limits.{Limits}
use Rattle.run_model.specs.Environments.{Environments, environments}
use Rattle.run_model.specs.Layouts.{layout_of}
use Rattle.run_model.specs.Run.{State, output}
use Rattle.run_model.specs.TitleTexts.{title_length}
use Rattle.input_model.specs.Input.{pushed, depth, result_count}
use Rattle.input_model.specs.Input.Names.{names_added, stored}

-- the pending line of each environment is within the limit on lines, and so few of them were left as may be
pub record EnvironmentsWithin (l : Limits) (es : Environments) : Type 0 where
  pub in_force : pending_length es.in_force.text ≤ l.line
  pub next : pending_length es.next.text ≤ l.line
  pub last : pending_length es.last.text ≤ l.line
  pub left : length es.left ≤ l.environments

-- a state is within the limits: it took no more, and no count is above its limit
pub record IsWithin (l : Limits) (s : State) : Type 0 where
  pub bytes : s.input.charge ≤ l.bytes
  pub stack : pushed s.input ≤ l.stack
  pub depth : depth s.input ≤ l.depth
  pub store : stored s.input ≤ l.store
  pub texts : names_added s.input ≤ l.names
  pub making : length s.input.open_texts ≤ l.diversions + 1
  pub conditions : result_count s.input ≤ l.conditions
  pub names : length s.registers.named ≤ l.names
  pub title : title_length s.registers.title ≤ l.line
  pub environments : EnvironmentsWithin l (environments s.history)
  pub output : length (output s) ≤ l.output
  pub traps : length (layout_of s.history).traps ≤ l.traps
