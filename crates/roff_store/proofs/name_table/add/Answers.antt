use Rattle.std.proofs.Common.{◌≡◌, ◌∙◌, sym, ap, refl, length, true, get_or}
use Rattle.roff_store.specs.declared.name_table.Slot.{Slot}
use Rattle.roff_store.specs.Buckets.{bucket_of}
use Rattle.roff_store.specs.NameTable.Slots.{entries_in}
use Rattle.roff_store.proofs.Entries.{with_entry-new, name_of-Some}
use Rattle.roff_store.proofs.Slots.{entries_in-push}
use Rattle.roff_store.proofs.Linking.{IsIndexed-push}
use Rattle.roff_store.proofs.name_table.add.Goals as goal

pub returns-clause-entries : goal.returns-clause-entries
returns-clause-entries g c =
    let named : c.unwrap.result ≡ c.args.name.now =
    name_of-Some c.as_bytes.result.now c.unwrap.result (sym c.new.ensures ∙ c.unwrap.ensures) ∙ c.as_bytes.ensures.value in
    let slot : Slot g.row.E.Denot = record {
      name = c.unwrap.result;
      entry = c.args.entry;
      is_used = true;
      older = get_or c.args.heads.now c.bucket_of.result 0;
    } in
    let pushed = c.push_reserved.ensures.items in
    rw (pushed, entries_in-push c.args.slots.now.items slot refl, named)
    (sym (with_entry-new c.args.name.now c.args.entry (entries_in c.args.slots.now.items) c.requires.absent))

pub returns-clause-index : goal.returns-clause-index
returns-clause-index g c =
    let named : c.unwrap.result ≡ c.args.name.now =
    name_of-Some c.as_bytes.result.now c.unwrap.result (sym c.new.ensures ∙ c.unwrap.ensures) ∙ c.as_bytes.ensures.value in
    let bucket : c.bucket_of.result ≡ bucket_of c.unwrap.result = c.bucket_of.ensures.value ∙ ap bucket_of (sym named) in
    let pushed = c.push_reserved.ensures.items in
    let long : c.len.result ≡ length c.args.slots.now.items = c.len.ensures ∙ c.args.slots.now.ok.0 in
    let slot : Slot g.row.E.Denot = record {
      name = c.unwrap.result;
      entry = c.args.entry;
      is_used = true;
      older = get_or c.args.heads.now (bucket_of c.unwrap.result) 0;
    } in
    rw (pushed, bucket, long) (IsIndexed-push c.args.slots.now.items c.args.heads.now slot c.requires.index
    (rw (← bucket) c.bucket_of.ensures.within) refl refl)

pub returns-clause-len : goal.returns-clause-len
returns-clause-len g c = c.push_reserved.ensures.len
