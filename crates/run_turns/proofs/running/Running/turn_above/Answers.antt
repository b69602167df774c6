use Rattle.std.proofs.Common.{arith, subst, sym}
use Rattle.run_model.specs.Reading.Items.{PageUnread}
use Rattle.run_items.specs.Room.{SeesOn}
use Rattle.run_items.proofs.EndsTaken.{takes_end}
use Rattle.run_turns.proofs.Turns.{TurnsBy-same, front_end}
use Rattle.run_turns.proofs.running.Running.turn_above.Goals as goal

pub returns-then-pass_end : goal.returns-then-pass_end
returns-then-pass_end g c =
    let old = c.args.self.now in
    front_end old _ _ _ _ _ _ (omega arith) (omega arith) c.requires (takes_end _ old.unread _ (c.pass_end.ensures.passes c.if-pass_end.true))

pub turn_item-requires : goal.turn_item-requires
turn_item-requires g c = subst (λ (u : PageUnread). SeesOn u.input) (sym (c.pass_end.ensures.unchanged c.if-pass_end.false)) c.requires

pub returns : goal.returns
returns g c =
    TurnsBy-same _ _ _ _ _ c.args.self.now c.turn_item.new.self c.pass_end.new.self _ _ _ (c.pass_end.ensures.unchanged c.if-pass_end.false) c.turn_item.ensures
