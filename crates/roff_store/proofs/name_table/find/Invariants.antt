use Rattle.roff_store.proofs.Search.{Searched}
use Rattle.roff_store.proofs.name_table.find.Given as goal

abbrev pub invariant-loop-last : goal.invariant-loop-last
invariant-loop-last g l = Searched l.slots l.name l.last

abbrev pub decreases-loop-last : goal.decreases-loop-last
decreases-loop-last g l = l.last
