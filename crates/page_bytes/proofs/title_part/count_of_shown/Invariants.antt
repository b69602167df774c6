use Rattle.std.proofs.Common.{◌≡◌, ◌≤◌, ◌-◌, ◌++◌, length, take, drop}
use Rattle.page_bytes.specs.TitleParts.{shown_in_front}
use Rattle.page_bytes.proofs.title_part.count_of_shown.Given as goal

abbrev pub invariant-loop-count : goal.invariant-loop-count
invariant-loop-count l = record {
  part : l.count ≤ length l.part;
  front : take l.count l.part ++ shown_in_front (drop l.count l.part) ≡ shown_in_front l.part;
}

abbrev pub decreases-loop-count : goal.decreases-loop-count
decreases-loop-count l = length l.part - l.count
