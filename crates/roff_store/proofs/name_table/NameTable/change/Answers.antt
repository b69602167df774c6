use Rattle.std.proofs.Common.{◌∙◌, sym, ap, rules}
use Rattle.roff_store.specs.NameTable.Slots.{entries_in}
use Rattle.roff_store.proofs.Tables.{IsFound-read, IsSound-written, entries_in-written, entry_of-found, put_into-found}
use Rattle.roff_store.proofs.name_table.NameTable.change.Goals as goal

pub invariant_of-self : goal.invariant_of-self
invariant_of-self g c =
    let found = IsFound-read c.as_slice.ensures.value c.in-Some.ensures.found c.index_mut-slot.ensures.value in
    IsSound-written c.self.inside c.self.invariant found c.change-entry.result.0

pub returns-in-Some-clause-changed : goal.returns-in-Some-clause-changed
returns-in-Some-clause-changed g c =
    let found = IsFound-read c.as_slice.ensures.value c.in-Some.ensures.found c.index_mut-slot.ensures.value in
    let had = entry_of-found found c.self.invariant.once in
    record {
      was = c.index_mut-slot.result.now.entry;
      had = rw (← c.self.view_is) had;
      becomes = c.change-entry.result.0;
      made = search rules;
      put = rw (← c.self.view_is) (ap (λ entries. record { entries = entries; cap = c.self.inside.cap })
          (entries_in-written found c.self.invariant.once c.change-entry.result.0)
          ∙ sym (put_into-found c.args.name.now c.change-entry.result.0
          (record { entries = entries_in c.self.inside.slots.items; cap = c.self.inside.cap }) had));
    }
