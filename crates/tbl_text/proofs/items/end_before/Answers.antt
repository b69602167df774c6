use Rattle.std.proofs.Common.{◌<◌, ap, sym, subst, ◌∙◌}
use Rattle.tbl_text.specs.Items.{all_ended}
use Rattle.tbl_text.proofs.Endings.{all_ended-step, endings, endings-step}
use Rattle.tbl_text.proofs.items.end_before.Goals as goal

pub loop-next-smaller : goal.loop-next-smaller
loop-next-smaller c =
    subst (λ half. endings half < endings c.loop-next.escapes.escapes) (sym (ap (λ p. p.1.escapes) c.end_reading.ensures))
    (endings-step c.args.next c.loop-next.escapes.escapes (sym c.is_ended.ensures ∙ c.loop-next-test.true))

pub loop-next-preserved : goal.loop-next-preserved
loop-next-preserved c = record {
  read =
      ap (λ p. all_ended c.args.next (p.0, p.1.escapes)) c.end_reading.ensures
      ∙ sym (all_ended-step c.args.next c.loop-next.found c.loop-next.escapes.escapes (sym c.is_ended.ensures ∙ c.loop-next-test.true))
      ∙ c.loop-next.invariant.read;
  room = ap (λ p. p.1.room) c.end_reading.ensures ∙ c.loop-next.invariant.room;
}
