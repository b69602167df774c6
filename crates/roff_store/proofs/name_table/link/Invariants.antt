use Rattle.roff_store.specs.NameTable.Slots.{entries_in}
use Rattle.roff_store.proofs.Linking.{Linked}
use Rattle.roff_store.proofs.name_table.link.Given as goal

abbrev pub invariant-loop-place : goal.invariant-loop-place
invariant-loop-place g l = Linked (entries_in l.fn.slots) l.slots l.heads l.place
