use Rattle.std.proofs.Common.{true, false}
use Rattle.input_escapes.proofs.ConditionsRead.{texts_read}
use Rattle.input_escapes.proofs.escape_laws.conditions.Goals as goal

pub returns-clause-same : goal.returns-clause-same
returns-clause-same c = texts_read false

pub returns-clause-other : goal.returns-clause-other
returns-clause-other c = texts_read true
