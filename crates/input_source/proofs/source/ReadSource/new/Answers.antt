use Rattle.std.proofs.Common.{arith}
use Rattle.input_source.proofs.Giving.{block_over}
use Rattle.input_source.proofs.source.ReadSource.new.Goals as goal

pub returns-clause-left : goal.returns-clause-left
returns-clause-left g c = block_over c.in_ok-vec.field-0.items 0 0 (omega arith)
