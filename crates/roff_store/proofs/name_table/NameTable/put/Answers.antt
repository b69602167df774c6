use Rattle.std.proofs.Common.{◌≡◌, ◌+◌, ◌∙◌, sym, ap, length, arith}
use Rattle.std.specs.Vec.{with_items}
use Rattle.std.proofs.lemmas.List.{with_items_is}
use Rattle.roff_store.specs.Named.{with_entry}
use Rattle.roff_store.specs.NameTable.Slots.{entries_in}
use Rattle.roff_store.proofs.Entries.{EachOnce-with_entry}
use Rattle.roff_store.proofs.Tables.{IsFound-read, IsSound-written, entries_in-written, length-added, entry_of-found, admitted-found, put_into-found}
use Rattle.roff_store.proofs.name_table.NameTable.put.Goals as goal

pub invariant_of-self : goal.invariant_of-self
invariant_of-self g c =
    let found = IsFound-read c.as_slice.ensures.value c.in-Some.ensures.found c.index_mut.ensures.value in
    IsSound-written c.self.inside c.self.invariant found c.args.entry

pub returns-in-Some-clause-answer : goal.returns-in-Some-clause-answer
returns-in-Some-clause-answer g c =
    let found = IsFound-read c.as_slice.ensures.value c.in-Some.ensures.found c.index_mut.ensures.value in
    rw (← c.self.view_is) (sym (admitted-found c.args.name.now
    (record { entries = entries_in c.self.inside.slots.items; cap = c.self.inside.cap }) (entry_of-found found c.self.invariant.once)))

pub returns-in-Some-clause-table : goal.returns-in-Some-clause-table
returns-in-Some-clause-table g c =
    let found = IsFound-read c.as_slice.ensures.value c.in-Some.ensures.found c.index_mut.ensures.value in
    rw (← c.self.view_is) (ap (λ entries. record { entries = entries; cap = c.self.inside.cap })
    (entries_in-written found c.self.invariant.once c.args.entry)
    ∙ sym (put_into-found c.args.name.now c.args.entry
    (record { entries = entries_in c.self.inside.slots.items; cap = c.self.inside.cap }) (entry_of-found found c.self.invariant.once)))

pub invariant_of-self-2 : goal.invariant_of-self-2
invariant_of-self-2 g c =
    let entries : entries_in c.add.new.slots.items ≡ with_entry c.args.name.now c.args.entry (entries_in c.self.inside.slots.items) =
    rw (← c.make_room.ensures.entries) c.add.ensures.entries in
    let absent = rw c.as_slice.ensures.value at c.in_default.ensures.absent in
    let all = c.self.invariant.index.head_count in
    let still = c.add.ensures.index.head_count in
    let long : length c.add.new.heads ≡ c.self.inside.heads.len = omega (arith, c.self.inside.heads.ok.0) in
    record {
      reserved = c.add.ensures.capacity ∙ (c.make_room.ensures.capacity ∙ c.self.invariant.reserved);
      small = let kept = c.make_room.ensures.capacity in let still = c.add.ensures.capacity in let small = c.self.invariant.small in omega arith;
      cap = let kept = c.make_room.ensures.capacity in let still = c.add.ensures.capacity in let cap = c.self.invariant.cap in omega arith;
      count = rw (entries, length-added c.args.name.now c.args.entry (entries_in c.self.inside.slots.items) absent)
          (ap (λ n. n + 1) c.self.invariant.count);
      within = let n = c.self.invariant.within in omega arith;
      once = rw entries (EachOnce-with_entry c.args.name.now c.args.entry (entries_in c.self.inside.slots.items) c.self.invariant.once);
      index = rw (with_items_is (with_items c.self.inside.heads c.make_room.new.heads) c.add.new.heads long) c.add.ensures.index;
    }
