use Rattle.std.proofs.Common.{◌≡◌, ◌∙◌, sym, ap, arith}
use Rattle.std.proofs.lemmas.List.{with_items_is}
use Rattle.roff_store.specs.Named.{without_entry}
use Rattle.roff_store.specs.NameTable.Slots.{entries_in}
use Rattle.roff_store.proofs.Entries.{without_entry-absent, EachOnce-without_entry}
use Rattle.roff_store.proofs.Tables.{IsFound-stands, count-found, length-unused}
use Rattle.roff_store.proofs.name_table.NameTable.remove.Goals as goal

pub returns-in_default : goal.returns-in_default
returns-in_default g c =
    let absent = rw c.as_slice.ensures.value at c.in_default.ensures.absent in
    rw (← c.self.view_is) (ap (λ entries. record { entries = entries; cap = c.self.inside.cap })
    (sym (without_entry-absent c.args.name.now (entries_in c.self.inside.slots.items) absent)))

pub overflow_sub-self : goal.overflow_sub-self
overflow_sub-self g c =
    let stands = rw c.as_slice.ensures.value at c.in-Some.ensures.found in
    count-found c.self.inside c.self.invariant (IsFound-stands stands)

pub invariant_of-self : goal.invariant_of-self
invariant_of-self g c =
    let stands = rw c.as_slice.ensures.value at c.in-Some.ensures.found in
    let found = IsFound-stands stands in
    let slots = with_items_is c.self.inside.slots c.unlink.new.slots (c.unlink.auto.slots ∙ c.as_mut_slice.ensures.len) in
    let heads = with_items_is c.self.inside.heads c.unlink.new.heads (c.unlink.auto.heads ∙ c.as_mut_slice-in-Some.ensures.len) in
    let entries : entries_in c.unlink.new.slots ≡ without_entry c.args.name.now (entries_in c.self.inside.slots.items) =
    rw (← c.as_mut_slice.ensures.value) c.unlink.ensures.entries in
    record {
      reserved = c.self.invariant.reserved;
      small = c.self.invariant.small;
      cap = c.self.invariant.cap;
      count = rw (slots, entries) (let n = length-unused found c.self.invariant.once in let m = c.self.invariant.count in omega arith);
      within = let n = c.self.invariant.within in omega arith;
      once = rw (slots, entries) (EachOnce-without_entry c.args.name.now (entries_in c.self.inside.slots.items) c.self.invariant.once);
      index = rw (slots, heads) c.unlink.ensures.index;
    }
