use Rattle.roff_store.proofs.Search.{Reached}
use Rattle.roff_store.proofs.name_table.newer_slot.Given as goal

abbrev pub invariant-loop-last : goal.invariant-loop-last
invariant-loop-last g l = Reached l.slots l.heads l.bucket l.place l.newer l.last

abbrev pub decreases-loop-last : goal.decreases-loop-last
decreases-loop-last g l = l.last
