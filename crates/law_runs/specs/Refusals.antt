-- A step that a limit refuses isn't made.
use Rattle.std.specs.Prelude.{◌≡◌, ◌⊎◌, None, Some}
use Rattle.roff_num.specs.declared.limit.Limit.{Limit}
use Rattle.roff_num.specs.declared.limits.Limits.{Limits}
use Rattle.run_model.specs.Run.{State, ending_as, stopped_by, told_step}
use Rattle.run_model.specs.declared.status.Status.TheVariants.{Limit as Limited}

-- A run that a limit stops at this step tells nothing of what the step would have done, and nothing else of its state changes: it
-- ended with the limit's message, or by a limit of the source's own, without one.
pub record DoesNothing (l : Limits) (limit : Limit) (s t : State) : Type 0 where
  pub tells : t.messages ≡ s.messages
  pub stays : (t ≡ stopped_by l limit s) ⊎ (t ≡ ending_as (Limited limit) s)

-- so it is with each step
abbrev pub RefusedStepsDoNothing : Type 0
RefusedStepsDoNothing =
    (l : Limits) (limit : Limit) (s : State) → s.ended ≡ None → (told_step l s).ended ≡ Some (Limited limit) → DoesNothing l limit s (told_step l s)
