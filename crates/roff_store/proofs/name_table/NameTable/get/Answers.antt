use Rattle.std.proofs.Common.{sym}
use Rattle.roff_store.proofs.Tables.{IsFound-read, entry_of-found}
use Rattle.roff_store.proofs.name_table.NameTable.get.Goals as goal

pub returns-in-Some : goal.returns-in-Some
returns-in-Some g c =
    let found = IsFound-read c.as_slice.ensures.value c.in-Some.ensures.found c.index.ensures in
    rw (← c.self.view_is) (sym (entry_of-found found c.self.invariant.once))
