use Rattle.std.proofs.Common.{◌≡◌, length, reverse, vec_capacity}
use Rattle.input_model.specs.Input.{results_below}
use Rattle.roff_scan.proofs.unread.results.drop_results.Given as goal

abbrev pub invariant-loop-last : goal.invariant-loop-last
invariant-loop-last l = record {
  results : results_below l.calls (reverse l.results.items) ≡ results_below l.calls (reverse l.initial.results.items);
  capacity : vec_capacity l.results ≡ vec_capacity l.initial.results;
}

abbrev pub decreases-loop-last : goal.decreases-loop-last
decreases-loop-last l = length l.results.items
