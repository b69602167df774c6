-- How the code's environments and pages stand for what the definition has of them.
use Rattle.std.specs.Prelude.{◌≡◌, ◌≤◌, false, length}
use Rattle.roff_num.specs.declared.limits.Limits.{Limits}
use Rattle.roff_pages.specs.Pages.Stands.{StandsAs}
use Rattle.run_model.specs.Environments.{PageHistory, environments}
use Rattle.run_model.specs.Output.{layout_of, written}
use Rattle.run_state.specs.Environments.Standing.{StandBy}
use Rattle.run_state.specs.declared.composer.Composer.{Composer as ComposerOf}

-- They stand for those behind a history of a run that goes on, within these limits: its last page hasn't ended. Of what it wrote the
-- bytes are counted.
pub record StandFor (l : Limits) (h : PageHistory) (coded : ComposerOf) : Type 0 where
  pub environments : StandBy l (environments h) coded.environments
  pub pages : StandsAs (layout_of h) coded.pages
  pub written : coded.pages.written ≡ length (written h)
  pub within : coded.pages.written ≤ coded.pages.output
  pub output : coded.pages.output ≡ l.output
  pub traps : coded.pages.most_traps ≡ l.traps
  pub diversions : coded.pages.most_diversions ≡ l.diversions
  pub goes_on : (layout_of h).is_over ≡ false
