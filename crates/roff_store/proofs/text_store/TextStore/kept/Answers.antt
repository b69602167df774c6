use Rattle.std.proofs.Common.{arith}
use Rattle.roff_store.proofs.Lending.{cap-read, kept-read}
use Rattle.roff_store.proofs.text_store.TextStore.kept.Goals as goal

pub returns-clause-value : goal.returns-clause-value
returns-clause-value c = kept-read c.self.invariant c.self.view_is

pub returns-clause-within : goal.returns-clause-within
returns-clause-within c = omega (arith, cap-read c.self.invariant c.self.view_is, c.self.invariant.kept_within)
