use Rattle.input_escapes.proofs.NamesRead.{long_register_read, short_register_read}
use Rattle.input_escapes.proofs.escape_laws.register_escapes.Goals as goal

pub returns-clause-short : goal.returns-clause-short
returns-clause-short c = λ base names step x are room. short_register_read base names are room step x

pub returns-clause-long : goal.returns-clause-long
returns-clause-long c = λ base names step x y are room. long_register_read base names are room step x y
