use Rattle.std.proofs.Common.{◌<◌, Bool, [], sym, subst, ◌∙◌, if◌then◌else◌}
use Rattle.tbl_picture.specs.Walks.{RowSoFar, lent_row, row_steps}
use Rattle.tbl_picture.proofs.RowSteps.{does-stay}
use Rattle.tbl_picture.proofs.StepsJoined.{fewer-steps, goes-further, some-made, under-behind}
use Rattle.tbl_picture.proofs.walk.Walk.steps_in_row.Goals as goal

pub loop-has_ended-smaller : goal.loop-has_ended-smaller
loop-has_ended-smaller c =
    let row = lent_row c.args.row.now in
    let l = c.loop-has_ended in
    let step = c.step_in_row-has_ended in
    let now = step.new.self in
    subst (λ (t : Bool). (if step.result then 0 else row_steps now.next row now) < (if t then 0 else row_steps l.self.next row l.self))
    (sym c.loop-has_ended-test.true)
    (fewer-steps step.result [] row l.self now l.pieces step.new.pieces (l.invariant.under c.loop-has_ended-test.true) (step.ensures.steps []))

pub loop-has_ended-preserved : goal.loop-has_ended-preserved
loop-has_ended-preserved c =
    let row = lent_row c.args.row.now in
    let old = c.args.self.now in
    let before = c.args.pieces.now in
    let l = c.loop-has_ended in
    let step = c.step_in_row-has_ended in
    let now = step.new.self in
    let after = step.new.pieces in
    record {
      steps = λ frame.
          goes-further frame row old l.self now before l.pieces after (c.has_room.ensures.yes c.if-has_room.true)
          (subst (λ (t : Bool). RowSoFar t frame row old l.self before l.pieces) c.loop-has_ended-test.true (l.invariant.steps frame))
          step.result (step.ensures.steps frame);
      under = under-behind step.result [] row l.self now l.pieces after (step.ensures.steps []);
      room = (does-stay step.result [] row l.self now l.pieces after (step.ensures.steps [])).room ∙ l.invariant.room;
      escapes = step.ensures.escapes ∙ l.invariant.escapes;
    }

pub returns-else-has_room-clause-steps : goal.returns-else-has_room-clause-steps
returns-else-has_room-clause-steps c = λ frame.
    let l = c.loop-has_ended in
    some-made l.has_ended frame (lent_row c.args.row.now) c.args.self.now l.self c.args.pieces.now l.pieces c.requires.room
    (c.has_room.ensures.no c.if-has_room.false) (l.invariant.steps frame)
