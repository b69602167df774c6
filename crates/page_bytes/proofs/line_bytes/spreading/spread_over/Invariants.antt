use Rattle.std.proofs.Common.{◌≡◌, ℕ, ◌+◌, ◌-◌, ◌*◌, ◌≤◌, length, ◌%◌}
use Rattle.page_bytes.specs.LineBytes.Fronts.{SpreadsOver}
use Rattle.page_bytes.proofs.line_bytes.spreading.spread_over.Given as goal

abbrev pub invariant-loop-taken : goal.invariant-loop-taken
invariant-loop-taken l =
    let spare : ℕ = l.shares.each * l.shares.gaps + l.shares.rest in record {
      text : l.taken ≤ length l.text;
      same : length l.out ≡ length l.initial.out;
      passed : l.passed ≤ l.shares.passed + l.taken;
      over : l.over ≡ l.passed * spare % l.shares.gaps;
      room : l.end + (length l.text - l.taken) + l.left + 16 ≤ length l.initial.out;
      written : SpreadsOver spare l.shares.gaps l.shares.passed l.passed l.taken l.start l.end l.text l.initial.out l.out;
    }

abbrev pub decreases-loop-taken : goal.decreases-loop-taken
decreases-loop-taken l = length l.text - l.taken
