use Rattle.std.proofs.Common.{◌-◌, refl, arith}
use Rattle.std.proofs.lemmas.Option.{slice_get_read}
use Rattle.roff_store.proofs.Search.{Reached-step, link_at}
use Rattle.roff_store.proofs.name_table.newer_slot.Goals as goal

pub loop-last-smaller : goal.loop-last-smaller
loop-last-smaller g c =
    let within = c.loop-last.invariant.within in
    let above = c.loop-last.invariant.above in
    let low = (link_at c.args.slots.now c.args.heads.now (c.loop-last.last - 1) c.args.bucket c.index-slots-last.result
    c.requires.index c.requires.within (c.loop-last.invariant.same (c.loop-last.last - 1) (omega arith))
    (slice_get_read c.args.slots.now _ (c.loop-last.last - 1) c.index-slots-last.result refl (omega arith) c.index-slots-last.is)).within in
    rw (← c.index-slots-last.is) (omega arith)

pub loop-last-preserved : goal.loop-last-preserved
loop-last-preserved g c =
    let within = c.loop-last.invariant.within in
    let above = c.loop-last.invariant.above in
    rw (← c.index-slots-last.is) (Reached-step c.args.slots.now c.args.heads.now c.args.bucket c.args.place c.loop-last.newer
    c.loop-last.last (c.loop-last.last - 1) c.index-slots-last.result c.requires.index c.requires.within c.requires.lies
    c.loop-last.invariant (omega arith) c.loop-last-test.true
    (slice_get_read c.args.slots.now _ (c.loop-last.last - 1) c.index-slots-last.result refl (omega arith) c.index-slots-last.is))
