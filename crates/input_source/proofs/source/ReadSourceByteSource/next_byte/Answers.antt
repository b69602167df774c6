use Rattle.input_source.specs.Tape.{Ended, Failed}
use Rattle.input_source.proofs.Giving.{told_ending}
use Rattle.input_source.proofs.source.ReadSourceByteSource.next_byte.Goals as goal

pub returns-in-Ended-clause-gives : goal.returns-in-Ended-clause-gives
returns-in-Ended-clause-gives g c = rw c.in-Ended.is (told_ending Ended)

pub returns-in-Failed-clause-gives : goal.returns-in-Failed-clause-gives
returns-in-Failed-clause-gives g c = rw c.in-Failed.is (told_ending Failed)
