use Rattle.std.proofs.Common.{◌≡◌, ◌+◌, ◌≤◌, length}
use Rattle.input_escapes.specs.EscapeTexts.{widths_among}
use Rattle.input_escapes.proofs.open_escapes.stack.widths_among.Given as goal

abbrev pub invariant-loop-item : goal.invariant-loop-item
invariant-loop-item l = record {
  all : l.count + widths_among l.rest ≡ widths_among l.items;
  few : l.count + length l.rest ≤ length l.items;
}

abbrev pub decreases-loop-item : goal.decreases-loop-item
decreases-loop-item l = length l.rest
