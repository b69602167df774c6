use Rattle.std.proofs.Common.{◌≡◌, Some, refl, arith, rules}
use Rattle.std.specs.List.{slice_get}
use Rattle.std.proofs.lemmas.Option.{slice_get_read}
use Rattle.roff_store.specs.Buckets.{bucket_of}
use Rattle.roff_store.specs.NameTable.Slots.{entries_in}
use Rattle.roff_store.proofs.Linking.{Linked-step}
use Rattle.roff_store.proofs.name_table.link.Goals as goal

pub loop-place-preserved : goal.loop-place-preserved
loop-place-preserved g c =
    let here : slice_get c.loop-place.slots c.loop-place.place ≡ Some c.index-slots-place.result =
    slice_get_read c.loop-place.slots _ c.loop-place.place c.index-slots-place.result refl (omega arith) c.index-slots-place.is in
    let bucket : c.bucket_of.result ≡ bucket_of c.index-slots-place.result.name = search rules in
    rw (← c.index-slots-place.is, bucket)
    (Linked-step (entries_in c.args.slots.now) c.loop-place.slots c.loop-place.heads c.loop-place.place c.index-slots-place.result
    here (rw (← bucket) c.bucket_of.ensures.within) c.loop-place.invariant)
