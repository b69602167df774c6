use Rattle.std.proofs.Common.{◌≡◌, length, reverse}
use Rattle.input_ahead.specs.PushedTexts.Standing.{standing, IsStacked}
use Rattle.input_model.specs.Input.{first_but_ends}
use Rattle.input_ahead.proofs.pushed_texts.PushedTexts.seen.Given as goal

abbrev pub invariant-loop-slot : goal.invariant-loop-slot
invariant-loop-slot g l =
    let bytes = l.self-inside.bytes.items in
    record {
      seen : first_but_ends (standing (reverse l.pushed_texts) bytes) ≡ first_but_ends (standing (reverse l.self-inside.pushed_texts.items) bytes);
      stacked : IsStacked (reverse l.pushed_texts) (length bytes);
    }

abbrev pub decreases-loop-slot : goal.decreases-loop-slot
decreases-loop-slot g l = length l.pushed_texts
