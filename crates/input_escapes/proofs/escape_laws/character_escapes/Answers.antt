use Rattle.std.proofs.Common.{[], refl, arith}
use Rattle.input_escapes.specs.declared.escapes.NameUse.TheVariants.{Character}
use Rattle.input_escapes.specs.declared.open_escape.Surroundings.TheVariants.{Text as InText}
use Rattle.input_escapes.proofs.NamesRead.{opened_read}
use Rattle.input_escapes.proofs.escape_laws.character_escapes.Goals as goal

pub returns : goal.returns
returns c place = opened_read (InText place) [] (record { all = refl; few = omega arith }) Character
