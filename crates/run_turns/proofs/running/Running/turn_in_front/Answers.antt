use Rattle.std.proofs.Common.{subst, sym}
use Rattle.run_model.specs.Reading.Items.{PageUnread}
use Rattle.run_items.specs.Room.{SeesOn}
use Rattle.run_turns.proofs.Turns.{TurnsBy-same, front_byte}
use Rattle.run_turns.proofs.running.Running.turn_in_front.Goals as goal

pub returns-in-Some : goal.returns-in-Some
returns-in-Some g c =
    let shown = c.in-Some.ensures in
    front_byte c.args.self.now _ _ _ _ _ _ shown.failures shown.notes c.in-Some.byte c.line-line.result c.take.new.self _ _ shown.takes c.line-line.ensures (c.take.ensures _)

pub turn_item-requires : goal.turn_item-requires
turn_item-requires g c = subst (λ (u : PageUnread). SeesOn u.input) (sym (c.take_ready.ensures.unchanged c.in-None.is).0) c.requires

pub returns-in-None : goal.returns-in-None
returns-in-None g c =
    let kept = c.take_ready.ensures.unchanged c.in-None.is in
    let turned = rw kept.1 at c.turn_item.ensures in
    TurnsBy-same _ _ _ _ _ c.args.self.now c.turn_item.new.self c.take_ready.new.self _ _ _ kept.0 turned
