use Rattle.std.proofs.Common.{◌≡◌, IsUtf8, length}
use Rattle.input_source.specs.Bytes.{comma}
use Rattle.cli_words.specs.PagesAsked.{parts_at, ranges_behind, ranges_written}
use Rattle.cli_words.proofs.pages.read_list.Given as goal

-- the rest is text, and behind those read is what it writes
abbrev pub invariant-loop-range : goal.invariant-loop-range
invariant-loop-range l = IsUtf8 l.rest × (ranges_behind l.ranges.items (parts_at comma l.rest) ≡ ranges_written l.text)

abbrev pub decreases-loop-range : goal.decreases-loop-range
decreases-loop-range l = length l.rest
