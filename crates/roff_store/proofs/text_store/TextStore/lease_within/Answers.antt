use Rattle.std.proofs.Common.{Some, None, ap, refl, sym, ◌∙◌, arith}
use Rattle.std.specs.List.{last_or}
use Rattle.roff_store.proofs.Lending.{few-lent, free-lent, has-body, kept-fits, lent, lent-shared, lent-text, no-body, room-lent}
use Rattle.roff_store.proofs.Naming.{body-length, body-read}
use Rattle.roff_store.proofs.text_store.TextStore.lease_within.Goals as goal

pub returns-in-Some-Request : goal.returns-in-Some-Request
returns-in-Some-Request c =
    let none = no-body c.self.invariant c.self.view_is c.args.name.now
    (sym (c.in-Some-Request.is ∙ ap Some c.in-Some-Request.field-0-is) ∙ c.get.ensures) refl in
    record { few = λ is. absurd (cc); same = refl }

pub returns-in-None : goal.returns-in-None
returns-in-None c =
    let none = no-body c.self.invariant c.self.view_is c.args.name.now (sym c.in-None.is ∙ c.get.ensures) refl in
    record { few = λ is. absurd (cc); same = refl }

pub returns-then-body-least : goal.returns-then-body-least
returns-then-body-least c =
    let long = body-length c.self.invariant c.self.view_is c.args.name.now (sym (c.in-Some-Body.is ∙ ap Some c.in-Some-Body.field-0-is) ∙ c.get.ensures) in
    record { few = λ is. omega (arith, long, c.if-body-least.true); same = refl }

pub returns-then-body-most : goal.returns-then-body-most
returns-then-body-most c =
    let long = body-length c.self.invariant c.self.view_is c.args.name.now (sym (c.in-Some-Body.is ∙ ap Some c.in-Some-Body.field-0-is) ∙ c.get.ensures) in
    record { long = omega (arith, long, c.if-body-most.true); same = refl }

pub last_byte-last-requires : goal.last_byte-last-requires
last_byte-last-requires c = lent-text c.self.invariant c.self.view_is c.args.name.now (sym (c.in-Some-Body.is ∙ ap Some c.in-Some-Body.field-0-is) ∙ c.get.ensures)

pub share-requires-clause-strand : goal.share-requires-clause-strand
share-requires-clause-strand c = (lent-text c.self.invariant c.self.view_is c.args.name.now (sym (c.in-Some-Body.is ∙ ap Some c.in-Some-Body.field-0-is) ∙ c.get.ensures)).strand

pub share-requires-clause-shared : goal.share-requires-clause-shared
share-requires-clause-shared c = lent-shared c.self.invariant c.self.view_is c.args.name.now (sym (c.in-Some-Body.is ∙ ap Some c.in-Some-Body.field-0-is) ∙ c.get.ensures)

pub share-requires-clause-room : goal.share-requires-clause-room
share-requires-clause-room c = room-lent c.self.invariant c.self.view_is c.args.name.now (sym (c.in-Some-Body.is ∙ ap Some c.in-Some-Body.field-0-is) ∙ c.get.ensures) c.requires.fewer c.if-body-most.false c.requires.room

pub overflow_add-self : goal.overflow_add-self
overflow_add-self c = omega (arith, kept-fits c.self.invariant c.self.view_is c.args.name.now (sym (c.in-Some-Body.is ∙ ap Some c.in-Some-Body.field-0-is) ∙ c.get.ensures) c.requires.fewer c.if-body-most.false c.requires.room, c.self.ranges)

pub begin-requires : goal.begin-requires
begin-requires c = few-lent c.self.invariant c.self.view_is c.args.name.now (sym (c.in-Some-Body.is ∙ ap Some c.in-Some-Body.field-0-is) ∙ c.get.ensures) c.requires.fewer c.if-body-most.false c.requires.room

pub invariant_of-self : goal.invariant_of-self
invariant_of-self c = (lent c.self.invariant c.self.view_is c.args.name.now (sym (c.in-Some-Body.is ∙ ap Some c.in-Some-Body.field-0-is) ∙ c.get.ensures) c.requires.fewer c.if-body-most.false c.requires.room c.share.ensures.shares c.share.ensures.sum c.share.ensures.same c.begin.ensures.known c.begin.ensures.free c.begin.ensures.begun).sound

pub returns : goal.returns
returns c =
    let long = body-length c.self.invariant c.self.view_is c.args.name.now (sym (c.in-Some-Body.is ∙ ap Some c.in-Some-Body.field-0-is) ∙ c.get.ensures) in
    record {
      body = has-body c.self.invariant c.self.view_is c.args.name.now (sym (c.in-Some-Body.is ∙ ap Some c.in-Some-Body.field-0-is) ∙ c.get.ensures);
      long = omega (arith, long, c.if-body-least.false);
      short = omega (arith, long, c.if-body-most.false);
      last_is = c.last_byte-last.ensures ∙ sym (ap (last_or None) (body-read c.self.invariant c.self.view_is c.args.name.now (sym (c.in-Some-Body.is ∙ ap Some c.in-Some-Body.field-0-is) ∙ c.get.ensures)));
      number = free-lent c.self.invariant c.self.view_is c.args.name.now (sym (c.in-Some-Body.is ∙ ap Some c.in-Some-Body.field-0-is) ∙ c.get.ensures) c.requires.fewer c.if-body-most.false c.requires.room c.share.ensures.shares c.share.ensures.sum c.share.ensures.same c.begin.ensures.known c.begin.ensures.free;
      leased = (lent c.self.invariant c.self.view_is c.args.name.now (sym (c.in-Some-Body.is ∙ ap Some c.in-Some-Body.field-0-is) ∙ c.get.ensures) c.requires.fewer c.if-body-most.false c.requires.room c.share.ensures.shares c.share.ensures.sum c.share.ensures.same c.begin.ensures.known c.begin.ensures.free c.begin.ensures.begun).texts;
    }
