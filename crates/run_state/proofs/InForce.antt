-- What the environment in force keeps of the history that it stands for, whether a field is open there or not.
use Rattle.std.proofs.Common.{◌≡◌}
use Rattle.roff_num.specs.declared.limits.Limits.{Limits}
use Rattle.page_model.specs.Behind.{last_width}
use Rattle.page_model.specs.Events.{is_interrupted, settings_after}
use Rattle.roff_lines.proofs.Standing.{is_interrupted-stands, last_width-stands, settings-stands}
use Rattle.run_model.specs.Environments.{PageHistory, text_of}
use Rattle.run_state.specs.Composer.Standing.{StandFor}
use Rattle.run_state.specs.declared.composer.Composer.{Composer as ComposerOf}

module _ (l : Limits) (h : PageHistory) (es : ComposerOf) (stood : StandFor l h es) where
  pub settings-in_force : es.environments.in_force.lines.settings ≡ settings_after (text_of h)
  settings-in_force = settings-stands l.line (text_of h) es.environments.in_force.lines stood.environments.in_force.lines

  pub last_width-in_force : es.environments.in_force.lines.last_width ≡ last_width (text_of h)
  last_width-in_force = last_width-stands l.line (text_of h) es.environments.in_force.lines stood.environments.in_force.lines

  pub is_interrupted-in_force : es.environments.in_force.lines.is_interrupted ≡ is_interrupted (text_of h)
  is_interrupted-in_force = is_interrupted-stands l.line (text_of h) es.environments.in_force.lines stood.environments.in_force.lines
