use Rattle.run_model.specs.Environments.{environments}
use Rattle.law_runs.proofs.EnvironmentTurns.{environment_of-gone_back, environment_of-switched_to, environments-back, environments-nowhere, number-switched_to, text-environment_of}
use Rattle.law_runs.proofs.environment_laws.switches.Goals as goal

pub returns-clause-texts : goal.returns-clause-texts
returns-clause-texts c = text-environment_of

pub returns-clause-switched : goal.returns-clause-switched
returns-clause-switched c = λ number other h. environment_of-switched_to number other (environments h)

pub returns-clause-in_force : goal.returns-clause-in_force
returns-clause-in_force c = λ number h. number-switched_to number (environments h)

pub returns-clause-gone_back : goal.returns-clause-gone_back
returns-clause-gone_back c = λ number h. environment_of-gone_back (environments h).left number (environments h)

pub returns-clause-there_and_back : goal.returns-clause-there_and_back
returns-clause-there_and_back c = environments-back

pub returns-clause-from_nowhere : goal.returns-clause-from_nowhere
returns-clause-from_nowhere c = environments-nowhere
