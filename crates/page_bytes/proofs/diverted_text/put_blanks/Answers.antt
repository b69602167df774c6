use Rattle.std.proofs.Common.{ℕ, ◌+◌, ◌*◌, take, refl, arith}
use Rattle.std.proofs.Math.ListN.{length-set}
use Rattle.page_bytes.proofs.DivertedPieces.{two_written}
use Rattle.page_bytes.proofs.diverted_text.put_blanks.Goals as goal

pub loop-written-preserved : goal.loop-written-preserved
loop-written-preserved c =
    let l = c.loop-written in
    let p : ℕ = c.args.place + 2 * l.written in
    record {
      same = simp length-set l.invariant.same;
      written = two_written c.args.place l.written p (take c.args.place c.args.buffer.now) l.buffer refl
          (omega (arith, c.requires, l.invariant.same, c.loop-written-test.true)) l.invariant.written;
    }
