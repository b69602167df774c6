use Rattle.roff_store.proofs.Opening.{begun}
use Rattle.roff_store.proofs.text_store.TextStore.open.Goals as goal

pub invariant_of-self : goal.invariant_of-self
invariant_of-self c =
    (begun c.self.invariant c.self.view_is c.requires c.push_reserved.new.self c.empty.result c.empty.ensures.chunks c.empty.ensures.at
    c.empty.ensures.rest c.empty.ensures.last c.push_reserved.ensures.items c.push_reserved.ensures.len c.push_reserved.ensures.capacity).sound

pub returns-clause-texts : goal.returns-clause-texts
returns-clause-texts c =
    (begun c.self.invariant c.self.view_is c.requires c.push_reserved.new.self c.empty.result c.empty.ensures.chunks c.empty.ensures.at
    c.empty.ensures.rest c.empty.ensures.last c.push_reserved.ensures.items c.push_reserved.ensures.len c.push_reserved.ensures.capacity).texts
