use Rattle.std.proofs.Common.{◌≡◌, ◌∙◌, false, set, refl, sym, ap}
use Rattle.std.proofs.lemmas.Option.{get_or_from_slice_get}
use Rattle.roff_store.specs.Buckets.{bucket_of}
use Rattle.roff_store.proofs.Linking.{IsIndexed-unlink_head}
use Rattle.roff_store.proofs.Tables.{IsFound-read, IsUnlinked-newer, entries_in-unused}
use Rattle.roff_store.proofs.name_table.unlink.Goals as goal

pub returns-in-None-clause-entries : goal.returns-in-None-clause-entries
returns-in-None-clause-entries g c =
    let found = IsFound-read refl c.requires.stands c.index-slots-place.is in
    rw (← c.index-slots-place.is) (entries_in-unused found c.requires.once)

pub returns-in-None-clause-index : goal.returns-in-None-clause-index
returns-in-None-clause-index g c =
    let found = IsFound-read refl c.requires.stands c.index-slots-place.is in
    let bucket : c.bucket_of-bucket.result ≡ bucket_of c.index-slots-place.result.name =
    c.bucket_of-bucket.ensures.value ∙ ap bucket_of (sym found.named) in
    rw (← c.index-slots-place.is, bucket) (IsIndexed-unlink_head c.args.slots.now c.args.heads.now c.args.place c.index-slots-place.result
    c.requires.index found.here found.used (rw bucket at c.bucket_of-bucket.ensures.within) (rw bucket at c.in-None.ensures.head))

pub returns-in-Some-clause-entries : goal.returns-in-Some-clause-entries
returns-in-Some-clause-entries g c =
    let found = IsFound-read refl c.requires.stands c.index-slots-place.is in
    let small = rw c.bucket_of-bucket.ensures.value at c.bucket_of-bucket.ensures.within in
    let leads = c.in-Some.ensures.slot in
    let unlinked = IsUnlinked-newer c.requires.index small c.requires.once found c.bucket_of-bucket.ensures.value leads in
    rw (
      ← c.index-slots-place.is,
      get_or_from_slice_get (set c.args.slots.now c.args.place (record c.index-slots-place.result { is_used = false }))
          c.in-Some.newer leads.slot c.index-slots-newer.result unlinked.still,
    )
    unlinked.entries

pub returns-in-Some-clause-index : goal.returns-in-Some-clause-index
returns-in-Some-clause-index g c =
    let found = IsFound-read refl c.requires.stands c.index-slots-place.is in
    let small = rw c.bucket_of-bucket.ensures.value at c.bucket_of-bucket.ensures.within in
    let leads = c.in-Some.ensures.slot in
    let unlinked = IsUnlinked-newer c.requires.index small c.requires.once found c.bucket_of-bucket.ensures.value leads in
    rw (
      ← c.index-slots-place.is,
      get_or_from_slice_get (set c.args.slots.now c.args.place (record c.index-slots-place.result { is_used = false }))
          c.in-Some.newer leads.slot c.index-slots-newer.result unlinked.still,
    )
    unlinked.index
