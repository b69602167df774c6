use Rattle.std.proofs.Common.{◌+◌, ℕ, sym, ap, subst, take, arith, length-take-le}
use Rattle.tbl_format.specs.Format.{Format, format_read}
use Rattle.tbl_format.specs.KeyCounts.{Counts, IsCount}
use Rattle.tbl_format.proofs.FormatReading.{read-more}
use Rattle.tbl_format.proofs.key_count.KeyCount.behind_all.Goals as goal

pub loop-at-preserved : goal.loop-at-preserved
loop-at-preserved c =
    let bytes = c.args.bytes.now in
    let at = c.loop-at.at in
    let before = c.loop-at.invariant in
    let len = length-take-le at bytes (omega (arith, c.loop-at-test.true)) in
    let more = ap (λ (n : ℕ). n + 1) len in
    record {
      counts = λ f counts.
          subst (λ (g : Format). Counts g c.behind-count.result) (sym (read-more f bytes at c.loop-at-test.true))
          (c.behind-count.ensures.value (format_read f (take at bytes)) (before.counts f counts));
      is = subst (λ (n : ℕ). IsCount n c.behind-count.result) more c.behind-count.ensures.is;
      few = omega (arith, before.few, c.behind-count.ensures.few);
    }
