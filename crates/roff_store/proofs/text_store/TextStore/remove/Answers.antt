use Rattle.roff_store.proofs.Keeping.{shared-out, strands-out}
use Rattle.roff_store.proofs.Naming.{removed}
use Rattle.roff_store.proofs.Putting.{old-within}
use Rattle.roff_store.proofs.text_store.TextStore.remove.Goals as goal

pub overflow_sub-self : goal.overflow_sub-self
overflow_sub-self c = old-within c.self.invariant c.self.view_is c.args.name.now c.get-old.ensures c.body_len.ensures

pub release_body-requires-clause-strands : goal.release_body-requires-clause-strands
release_body-requires-clause-strands c = strands-out c.self.invariant c.args.name.now c.get-old.ensures

pub release_body-requires-clause-shared : goal.release_body-requires-clause-shared
release_body-requires-clause-shared c = shared-out c.self.invariant c.args.name.now c.get-old.ensures

pub invariant_of-self : goal.invariant_of-self
invariant_of-self c =
    (removed c.self.invariant c.self.view_is c.args.name.now c.get-old.ensures c.body_len.ensures c.release_body.ensures.shares
    c.release_body.ensures.sum c.release_body.ensures.same c.remove.ensures).sound

pub returns : goal.returns
returns c =
    (removed c.self.invariant c.self.view_is c.args.name.now c.get-old.ensures c.body_len.ensures c.release_body.ensures.shares
    c.release_body.ensures.sum c.release_body.ensures.same c.remove.ensures).texts
