use Rattle.run_items.proofs.TextsAdded.{added_all, added_next, added_none, added_refused, none_left}
use Rattle.run_items.proofs.interpreter.diverting.add_pieces.Goals as goal

pub loop-rest-init : goal.loop-rest-init
loop-rest-init c =
    added_none c.args.index c.args.text c.args.unread.now c.stays_within.ensures c.requires.room

pub loop-rest-preserved : goal.loop-rest-preserved
loop-rest-preserved c =
    added_next c.args.index c.args.text c.loop-rest.rest c.args.unread.now c.loop-rest.unread c.loop-rest.invariant c.split_at.result.0.now c.fill-count.new.self c.add_to.new.self
    (rw c.split_at.ensures.front c.fill-count.ensures.whole) c.in-Ok.ensures.change

pub returns-then-count-eq0 : goal.returns-then-count-eq0
returns-then-count-eq0 c =
    added_all c.args.index c.args.text c.loop-rest.rest c.args.unread.now c.loop-rest.unread
    (none_left c.loop-rest.rest c.fill-count.result c.fill-count.ensures.some c.if-count-eq0.true) c.loop-rest.invariant

pub returns-in-Err : goal.returns-in-Err
returns-in-Err c = absurd
    (added_refused c.args.index c.args.text c.loop-rest.rest c.args.unread.now c.loop-rest.unread c.loop-rest.invariant c.split_at.result.0.now c.fill-count.new.self c.add_to.new.self
    (rw c.split_at.ensures.front c.fill-count.ensures.whole) c.in-Err.limit c.stays_within.ensures c.in-Err.ensures.change)
