use Rattle.std.proofs.Common.{◌≡◌, length}
use Rattle.page_bytes.specs.LineBytes.Fronts.{without_blanks}
use Rattle.page_bytes.proofs.line_bytes.without_trailing_blanks.Given as goal

abbrev pub invariant-loop-last : goal.invariant-loop-last
invariant-loop-last l = without_blanks l.front ≡ without_blanks l.text

abbrev pub decreases-loop-last : goal.decreases-loop-last
decreases-loop-last l = length l.front
