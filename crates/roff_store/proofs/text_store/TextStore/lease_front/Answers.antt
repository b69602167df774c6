use Rattle.roff_store.proofs.Lending.{lease-inside, lease-read, lease-strand, rest-read}
use Rattle.std.proofs.Common.{take, length, sym, ap, ◌∙◌, arith}
use Rattle.roff_store.specs.Texts.{lease_bytes}
use Rattle.roff_store.proofs.text_store.TextStore.lease_front.Goals as goal

pub at-requires : goal.at-requires
at-requires c = lease-inside c.self.invariant c.self.view_is c.args.id.0 c.requires

pub front-requires : goal.front-requires
front-requires c = lease-strand c.self.invariant c.self.view_is c.args.id.0 c.at.ensures c.in-Some.is

pub returns-in-Some-clause-bytes : goal.returns-in-Some-clause-bytes
returns-in-Some-clause-bytes c =
    c.front.ensures.bytes ∙ ap (λ l. take (length c.front.result.now) (lease_bytes l)) (sym (lease-read c.self.invariant c.self.view_is c.args.id.0 c.at.ensures c.in-Some.is))

pub returns-in-Some-clause-some : goal.returns-in-Some-clause-some
returns-in-Some-clause-some c = λ some. c.front.ensures.some (omega (arith, some, rest-read c.self.invariant c.self.view_is c.args.id.0 c.at.ensures c.in-Some.is))
