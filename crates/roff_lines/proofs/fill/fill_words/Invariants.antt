use Rattle.roff_lines.proofs.FirstLine.{Filled}
use Rattle.roff_lines.proofs.fill.fill_words.Given as goal

abbrev pub invariant-loop-word : goal.invariant-loop-word
invariant-loop-word g l =
    (goal.iterator-loop-word g).can_next l.word-iterator
    × (goal.iterator-loop-word g).is_finite l.word-iterator
    × Filled l.measure l.yielded l.line l.count
