use Rattle.std.proofs.Common.{◌≡◌, replicate, arith}
use Rattle.page_bytes.specs.LineBytes.Left.{spare_columns}
use Rattle.page_bytes.proofs.SharedColumns.{over-behind, next_gap}
use Rattle.page_bytes.proofs.line_bytes.LineBytes.take_blank.Goals as goal

pub invariant_of-self-then-byte-eq-GAP : goal.invariant_of-self-then-byte-eq-GAP
invariant_of-self-then-byte-eq-GAP c =
    let left = c.self.inside in
    let shared = c.added_to_gap-added in
    record {
      passed = omega (arith, c.self.invariant.passed, c.in-Some.ensures.cases.1);
      spare = c.self.invariant.spare;
      rest = c.self.invariant.rest;
      over = over-behind (spare_columns left) left.gaps left.passed shared.result.0 left.over shared.result.1 c.self.invariant.over shared.ensures.over shared.ensures.added;
    }

pub returns-then-byte-eq-GAP-clause-taken : goal.returns-then-byte-eq-GAP-clause-taken
returns-then-byte-eq-GAP-clause-taken c =
    let left = c.self.inside in
    let shared = c.added_to_gap-added in
    let none : left.blanks ≡ 0 = omega arith in
    let gap : c.in-Some.field-0-0.now ≡ 32 = omega arith in
    rw (← c.self.view_is, c.from-self-inside.ensures)
    (next_gap (spare_columns left) left.gaps left.passed shared.result.0 left.over shared.result.1 c.in-Some.field-0-0.now left.blanks left.text.now c.in-Some.behind.now
    (replicate left.newlines 10) c.self.invariant.over shared.ensures.over shared.ensures.added none c.in-Some.ensures.cases.0 gap)
