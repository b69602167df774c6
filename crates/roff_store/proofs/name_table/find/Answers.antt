use Rattle.std.proofs.Common.{◌≡◌, ◌-◌, ◌∙◌, Some, refl, sym, arith}
use Rattle.std.specs.List.{slice_get}
use Rattle.std.proofs.lemmas.Bool.{both_ways}
use Rattle.std.proofs.lemmas.Option.{slice_get_read}
use Rattle.roff_store.specs.Buckets.{bucket_of}
use Rattle.roff_store.specs.NameTable.Slots.{slot_bucket}
use Rattle.roff_store.proofs.Search.{Searched-start, Searched-step, link_at}
use Rattle.roff_store.proofs.Slots.{get_or-map_at, used_in_bucket}
use Rattle.roff_store.proofs.name_table.find.Goals as goal

pub loop-last-init : goal.loop-last-init
loop-last-init g c =
    let small = rw c.bucket_of.ensures.value at c.bucket_of.ensures.within in
    rw c.bucket_of.ensures.value (Searched-start c.args.slots.now c.args.heads.now c.args.name.now c.requires small)

pub returns-then-is_same-clause-found : goal.returns-then-is_same-clause-found
returns-then-is_same-clause-found g c =
    let small = rw c.bucket_of.ensures.value at c.bucket_of.ensures.within in
    let within = c.loop-last.invariant.within in
    let here : slice_get c.args.slots.now (c.loop-last.last - 1) ≡ Some c.index-slots-last.result =
    slice_get_read c.args.slots.now _ (c.loop-last.last - 1) c.index-slots-last.result refl (omega arith) c.index-slots-last.is in
    let lies : slot_bucket c.index-slots-last.result ≡ bucket_of c.args.name.now =
    sym (get_or-map_at slot_bucket c.args.slots.now (c.loop-last.last - 1) c.index-slots-last.result here)
    ∙ c.loop-last.invariant.same (c.loop-last.last - 1) (omega arith) in
    record {
      slot = c.index-slots-last.result;
      here = here;
      used = used_in_bucket c.index-slots-last.result (rw lies small);
      named = c.is_same.ensures.0 c.if-is_same.true;
    }

pub loop-last-smaller : goal.loop-last-smaller
loop-last-smaller g c =
    let small = rw c.bucket_of.ensures.value at c.bucket_of.ensures.within in
    let within = c.loop-last.invariant.within in
    let low = (link_at c.args.slots.now c.args.heads.now (c.loop-last.last - 1) (bucket_of c.args.name.now) c.index-slots-last.result
    c.requires small (c.loop-last.invariant.same (c.loop-last.last - 1) (omega arith))
    (slice_get_read c.args.slots.now _ (c.loop-last.last - 1) c.index-slots-last.result refl (omega arith) c.index-slots-last.is)).within in
    omega arith

pub loop-last-preserved : goal.loop-last-preserved
loop-last-preserved g c =
    let small = rw c.bucket_of.ensures.value at c.bucket_of.ensures.within in
    let within = c.loop-last.invariant.within in
    Searched-step c.args.slots.now c.args.heads.now c.args.name.now c.loop-last.last (c.loop-last.last - 1)
    c.index-slots-last.result c.requires small c.loop-last.invariant (omega arith)
    (slice_get_read c.args.slots.now _ (c.loop-last.last - 1) c.index-slots-last.result refl (omega arith) c.index-slots-last.is)
    (λ same. both_ways c.is_same.result c.if-is_same.false (c.is_same.ensures.1 same))
