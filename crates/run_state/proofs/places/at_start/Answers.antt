use Rattle.std.proofs.Common.{ap, ◌∙◌}
use Rattle.run_model.specs.Reading.Beginnings.{line_begun_as}
use Rattle.run_model.specs.Reading.TextLines.{on_line}
use Rattle.run_model.specs.Run.{known_at}
use Rattle.run_state.proofs.places.at_start.Goals as goal

pub returns : goal.returns
returns c = λ l h rs i stands.
    c.on_line.ensures l h rs i stands
    ∙ ap (on_line (known_at h rs i)) (c.begun_as.ensures ∙ ap line_begun_as (c.interrupted_line.ensures l h stands.environments))
