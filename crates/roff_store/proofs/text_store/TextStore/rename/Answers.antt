use Rattle.std.proofs.Common.{sym, ap, refl, ◌∙◌}
use Rattle.roff_store.specs.Named.{put_into}
use Rattle.roff_store.proofs.Keeping.{shared-out, strands-out}
use Rattle.roff_store.proofs.Naming.{admitted-renamed, moved, names-apart, nothing-moved}
use Rattle.roff_store.proofs.Putting.{old-within}
use Rattle.roff_store.proofs.text_store.TextStore.rename.Goals as goal

pub overflow_sub-self : goal.overflow_sub-self
overflow_sub-self c = old-within c.self.invariant c.self.view_is c.args.to.now c.get-old.ensures c.body_len.ensures

pub release_body-requires-clause-strands : goal.release_body-requires-clause-strands
release_body-requires-clause-strands c = strands-out c.self.invariant c.args.to.now c.get-old.ensures

pub release_body-requires-clause-shared : goal.release_body-requires-clause-shared
release_body-requires-clause-shared c = shared-out c.self.invariant c.args.to.now c.get-old.ensures

pub unwrap-requires : goal.unwrap-requires
unwrap-requires c =
    let found = sym c.get.ensures ∙ c.in-Some.is in
    let room = admitted-renamed c.args.from.now c.args.to.now c.self.inside.names c.in-Some.meaning c.self.invariant.once found c.self.invariant.few in
    rw (c.put.ensures.answer, c.remove.ensures, room) refl

pub invariant_of-self : goal.invariant_of-self
invariant_of-self c =
    (moved c.self.invariant c.self.view_is c.args.to.now c.get-old.ensures c.body_len.ensures c.release_body.ensures.shares
    c.release_body.ensures.sum c.release_body.ensures.same c.args.from.now
    (names-apart c.args.from.now c.args.to.now c.is_same.result c.is_same.ensures c.if-is_same.false) c.in-Some.meaning
    (sym c.get.ensures ∙ c.in-Some.is) (c.put.ensures.table ∙ ap (put_into c.args.to.now c.in-Some.meaning) c.remove.ensures)).sound

pub returns-in-Some : goal.returns-in-Some
returns-in-Some c =
    (moved c.self.invariant c.self.view_is c.args.to.now c.get-old.ensures c.body_len.ensures c.release_body.ensures.shares
    c.release_body.ensures.sum c.release_body.ensures.same c.args.from.now
    (names-apart c.args.from.now c.args.to.now c.is_same.result c.is_same.ensures c.if-is_same.false) c.in-Some.meaning
    (sym c.get.ensures ∙ c.in-Some.is) (c.put.ensures.table ∙ ap (put_into c.args.to.now c.in-Some.meaning) c.remove.ensures)).texts

pub returns-in_default : goal.returns-in_default
returns-in_default c =
    nothing-moved c.self.invariant c.self.view_is c.args.from.now c.get.ensures c.args.to.now
    (names-apart c.args.from.now c.args.to.now c.is_same.result c.is_same.ensures c.if-is_same.false) c.in_default.is
