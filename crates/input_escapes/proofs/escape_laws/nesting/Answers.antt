use Rattle.std.proofs.Common.{[]}
use Rattle.input_escapes.proofs.NamesRead.{begins, begins_no_more, opened-names}
use Rattle.input_escapes.proofs.Nesting.{IsNested-reading_ended, IsNested-reads_through}
use Rattle.input_escapes.proofs.NestedEscapes.{length-nested}
use Rattle.input_escapes.proofs.escape_laws.nesting.Goals as goal

pub returns-clause-begun : goal.returns-clause-begun
returns-clause-begun c = λ base names b purpose. begins base names b purpose []

pub returns-clause-no_more : goal.returns-clause-no_more
returns-clause-no_more c = λ base names b purpose. begins_no_more base names b purpose []

pub returns-clause-opened : goal.returns-clause-opened
returns-clause-opened c = opened-names

pub returns-clause-always : goal.returns-clause-always
returns-clause-always c = IsNested-reads_through

pub returns-clause-ended : goal.returns-clause-ended
returns-clause-ended c = IsNested-reading_ended

pub returns-clause-few : goal.returns-clause-few
returns-clause-few c = length-nested
