use Rattle.std.proofs.Common.{sym}
use Rattle.roff_store.proofs.Lending.{lease-inside, rest-read}
use Rattle.roff_store.proofs.text_store.TextStore.lease_rest.Goals as goal

pub at-requires : goal.at-requires
at-requires c = lease-inside c.self.invariant c.self.view_is c.args.id.0 c.requires

pub returns-in-Some : goal.returns-in-Some
returns-in-Some c = sym (rest-read c.self.invariant c.self.view_is c.args.id.0 c.at.ensures c.in-Some.is)
