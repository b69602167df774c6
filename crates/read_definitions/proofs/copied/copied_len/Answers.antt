use Rattle.std.proofs.Common.{◌≡◌, List, ap, arith, drop, length, subst, take, ℕ, length-drop}
use Rattle.read_definitions.specs.CopiedLines.{Copies, NoneCopied}
use Rattle.read_definitions.proofs.CopiedLines.{copies-more}
use Rattle.read_definitions.proofs.copied.copied_len.Goals as goal

pub loop-count-init : goal.loop-count-init
loop-count-init c = (omega arith, NoneCopied c.args.begins)

pub loop-count-preserved : goal.loop-count-preserved
loop-count-preserved c =
    let at = c.loop-count.count in
    let more = c.part_len-more.result.0 in
    let bytes = c.args.bytes.now in
    let rest : c.split_at.result.1.now ≡ drop at bytes = c.split_at.ensures.back in (
      omega (arith, c.part_len-more.ensures.few, ap length rest, length-drop at bytes, c.loop-count-test.true),
      copies-more c.args.second c.args.begins c.loop-count.last c.part_len-more.result.1 at more bytes c.loop-count.invariant.1
          (subst (λ (xs : List ℕ). Copies c.args.second c.loop-count.last (take more xs) c.part_len-more.result.1) rest c.part_len-more.ensures.copies),
    )
