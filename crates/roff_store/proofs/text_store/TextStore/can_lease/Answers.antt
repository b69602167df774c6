use Rattle.std.proofs.Common.{sym, ◌∙◌, rules}
use Rattle.roff_store.proofs.Lending.{can-tested, live-tested}
use Rattle.roff_store.proofs.Naming.{body-length}
use Rattle.roff_store.proofs.text_store.TextStore.can_lease.Goals as goal

pub returns-then-has_room : goal.returns-then-has_room
returns-then-has_room c =
    let long = body-length c.self.invariant c.self.view_is c.args.name.now c.get.ensures in
    let lives = live-tested c.self.invariant c.self.view_is c.has_room.result c.has_room.ensures in
    let fewer = lives.0 (rw c.if-has_room.true (search rules)) in
    rw (long ∙ sym c.body_len.ensures) (can-tested c.self.invariant c.self.view_is c.body_len.result fewer)

pub returns-else-has_room : goal.returns-else-has_room
returns-else-has_room c =
    let lives = live-tested c.self.invariant c.self.view_is c.has_room.result c.has_room.ensures in
    (λ yes. absurd (let no = c.if-has_room.false in let it = yes in cc), λ both. lives.1 both.0)
