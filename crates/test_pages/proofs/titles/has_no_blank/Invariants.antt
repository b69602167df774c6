use Rattle.std.proofs.Common.{length}
use Rattle.page_bytes.specs.TitleParts.{HasNoBlank}
use Rattle.test_pages.proofs.titles.has_no_blank.Given as goal

abbrev pub invariant-loop-byte : goal.invariant-loop-byte
invariant-loop-byte l = HasNoBlank l.rest → HasNoBlank l.text

abbrev pub decreases-loop-byte : goal.decreases-loop-byte
decreases-loop-byte l = length l.rest
