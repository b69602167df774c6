use Rattle.input_escapes.proofs.Copying.{FindsBytes-copied, copied-doubled, copied-doubled_twice, read-doubled}
use Rattle.input_escapes.proofs.escape_laws.copying.Goals as goal

pub returns-clause-read : goal.returns-clause-read
returns-clause-read c = FindsBytes-copied

pub returns-clause-doubled : goal.returns-clause-doubled
returns-clause-doubled c = copied-doubled

pub returns-clause-again : goal.returns-clause-again
returns-clause-again c = copied-doubled_twice

pub returns-clause-doubled_read : goal.returns-clause-doubled_read
returns-clause-doubled_read c = read-doubled
