use Rattle.std.proofs.Common.{◌≡◌, ◌-◌, ◌≤◌, ◌++◌, length, take}
use Rattle.page_bytes.specs.DivertedText.{first_left}
use Rattle.page_bytes.proofs.diverted_text.FirstLine.fill.Given as goal

abbrev pub invariant-loop-end : goal.invariant-loop-end
invariant-loop-end l = record {
  same : length l.buffer ≡ length l.initial.buffer;
  within : l.end ≤ length l.buffer;
  whole : take l.end l.buffer ++ first_left l.self ≡ first_left l.initial.self;
}

abbrev pub decreases-loop-end : goal.decreases-loop-end
decreases-loop-end l = length l.buffer - l.end
