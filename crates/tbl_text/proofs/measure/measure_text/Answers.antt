use Rattle.std.proofs.Common.{sym, subst, ◌∙◌}
use Rattle.tbl_text.proofs.Measured.{IsMeasured, measured-all, measured-front, measured-item}
use Rattle.tbl_text.proofs.measure.measure_text.Goals as goal

pub loop-measuring-preserved-then-front-gt0 : goal.loop-measuring-preserved-then-front-gt0
loop-measuring-preserved-then-front-gt0 c = record {
  read =
      subst (IsMeasured c.args.text.now) (sym c.take_plain.ensures)
      (measured-front c.args.text.now c.behind-rest.result.now c.loop-measuring.measuring c.plain_in_front-front.result.len c.loop-measuring.invariant.read c.behind-rest.ensures
      c.plain_in_front-front.ensures.plain c.plain_in_front-front.ensures.within);
  room = c.loop-measuring.invariant.room;
}

pub loop-measuring-preserved : goal.loop-measuring-preserved
loop-measuring-preserved c = record {
  read =
      subst (IsMeasured c.args.text.now) (sym c.take.ensures)
      (measured-item c.args.text.now c.behind-rest.result.now c.loop-measuring.measuring c.next_item.result.len c.next_item.result.what c.loop-measuring.invariant.read c.behind-rest.ensures
      c.next_item.ensures.first c.next_item.ensures.some c.next_item.ensures.within c.next_item.ensures.fits);
  room = c.next_item.ensures.room ∙ c.loop-measuring.invariant.room;
}

pub returns-clause-value : goal.returns-clause-value
returns-clause-value c = c.measured.ensures ∙ measured-all c.args.text.now c.loop-measuring.measuring c.loop-measuring.invariant.read c.loop-measuring-test.false
