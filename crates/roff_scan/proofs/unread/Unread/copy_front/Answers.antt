use Rattle.std.proofs.Common.{◌≡◌, ◌+◌, ◌≤◌, length, take, ap, sym, subst, ◌∙◌, arith, List, ℕ, length-take}
use Rattle.input_model.specs.Input.Names.{stored}
use Rattle.roff_scan.specs.Unread.Calls.{front_bytes}
use Rattle.roff_scan.specs.Unread.Copied.{CopiesFront}
use Rattle.roff_scan.specs.Unread.Kept.{kept_by}
use Rattle.roff_scan.proofs.AddedFronts.{added-ok}
use Rattle.roff_scan.proofs.CopiedFronts.{copied_in_front, copies_front}
use Rattle.roff_scan.proofs.Fronts.{source}
use Rattle.roff_scan.proofs.unread.Unread.copy_front.Goals as goal

pub pass_front-requires-clause-front : goal.pass_front-requires-clause-front
pass_front-requires-clause-front g c = copied_in_front _ _ _ _ _ _ c.add.ensures.change c.in-Ok.is c.requires.front

pub returns-in-Ok-clause-copies : goal.returns-in-Ok-clause-copies
returns-in-Ok-clause-copies g c =
    let u = c.args.self.now in
    let ready = g.S.ByteSource.ready c.args.source.now in
    let gave = g.S.ByteSource.gives c.args.source.now in
    let gives = g.S.ByteSource.gives c.pass_front.new.source in
    let text : c.at_most.result.now ≡ front_bytes c.args.kept ready u =
    c.at_most.ensures ∙ ap (take c.args.kept) (c.buffered.ensures ∙ sym (source ready u c.args.count c.requires.front c.requires.some c.requires.none_ahead).1.1) in
    subst (λ (bytes : List ℕ). CopiesFront gave gives (front_bytes c.args.count ready u) bytes u c.pass_front.new.self) text
    (copies_front u c.add.new.self ready c.at_most.result.now c.args.count c.add.result c.add.ensures.change c.in-Ok.is gave gives c.pass_front.new.self c.pass_front.ensures.passes)

pub returns-in-Err-clause-copies : goal.returns-in-Err-clause-copies
returns-in-Err-clause-copies g c =
    let kept = kept_by c.self.inside in
    let room : stored kept.input + c.args.kept ≤ kept.limits.store = rw (← c.self.view_is) at c.requires.room in
    let few = ap length c.at_most.ensures ∙ length-take c.args.kept c.buffered.result.now in
    let ok = added-ok kept c.add.new.self c.at_most.result.now c.add.result (rw (← c.self.view_is) at c.add.ensures.change) c.self.invariant.within (omega (arith, room, few)) in
    absurd (let isnt = c.in-Err.is in cc)
