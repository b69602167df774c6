use Rattle.law_reading.proofs.EndLaws.{given_registers_read}
use Rattle.law_reading.proofs.end_laws.given_registers.Goals as goal

pub returns : goal.returns
returns c = given_registers_read
