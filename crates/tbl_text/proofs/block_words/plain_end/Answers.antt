use Rattle.std.proofs.Common.{arith, sym, ◌∙◌}
use Rattle.tbl_text.proofs.WordReading.{plain-more}
use Rattle.tbl_text.proofs.block_words.plain_end.Goals as goal

pub loop-at-preserved : goal.loop-at-preserved
loop-at-preserved c =
    let before = c.loop-at.invariant in record {
      order = omega (arith, before.order);
      within = omega arith;
      plain = plain-more c.args.line.now c.args.from c.loop-at.at before.order c.loop-at-test.true before.plain
          (sym c.is_plain.ensures ∙ c.if-is_plain.true);
    }
