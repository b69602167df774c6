use Rattle.std.proofs.Common.{Some, None, arith, sym, ap, ◌∙◌}
use Rattle.std.specs.List.{last_or}
use Rattle.roff_store.proofs.Lending.{lent-text}
use Rattle.roff_store.proofs.Naming.{body-length, body-read}
use Rattle.roff_store.proofs.text_store.TextStore.body_end.Goals as goal

pub last_byte-requires : goal.last_byte-requires
last_byte-requires c = lent-text c.self.invariant c.self.view_is c.args.name.now (sym (c.in-Some-Body.is ∙ ap Some c.in-Some-Body.field-0-is) ∙ c.get.ensures)

pub returns-in-Some-Body-clause-len : goal.returns-in-Some-Body-clause-len
returns-in-Some-Body-clause-len c =
    let body = body-length c.self.invariant c.self.view_is c.args.name.now (sym (c.in-Some-Body.is ∙ ap Some c.in-Some-Body.field-0-is) ∙ c.get.ensures) in omega (arith, body)

pub returns-in-Some-Body-clause-last : goal.returns-in-Some-Body-clause-last
returns-in-Some-Body-clause-last c =
    c.last_byte.ensures ∙ sym (ap (last_or None) (body-read c.self.invariant c.self.view_is c.args.name.now (sym (c.in-Some-Body.is ∙ ap Some c.in-Some-Body.field-0-is) ∙ c.get.ensures)))

pub returns-in-Some-Request-clause-len : goal.returns-in-Some-Request-clause-len
returns-in-Some-Request-clause-len c =
    let body = body-length c.self.invariant c.self.view_is c.args.name.now (sym (c.in-Some-Request.is ∙ ap Some c.in-Some-Request.field-0-is) ∙ c.get.ensures) in omega (arith, body)

pub returns-in-Some-Request-clause-last : goal.returns-in-Some-Request-clause-last
returns-in-Some-Request-clause-last c =
    sym (ap (last_or None) (body-read c.self.invariant c.self.view_is c.args.name.now (sym (c.in-Some-Request.is ∙ ap Some c.in-Some-Request.field-0-is) ∙ c.get.ensures)))

pub returns-in-None-clause-len : goal.returns-in-None-clause-len
returns-in-None-clause-len c =
    let body = body-length c.self.invariant c.self.view_is c.args.name.now (sym c.in-None.is ∙ c.get.ensures) in omega (arith, body)

pub returns-in-None-clause-last : goal.returns-in-None-clause-last
returns-in-None-clause-last c =
    sym (ap (last_or None) (body-read c.self.invariant c.self.view_is c.args.name.now (sym c.in-None.is ∙ c.get.ensures)))
