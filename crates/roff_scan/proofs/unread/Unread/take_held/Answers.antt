use Rattle.std.proofs.Common.{◌≡◌, [], ap, rules, sym, ◌∙◌, arith}
use Rattle.input_arguments.specs.ArgumentTexts.Kept.{KeptArguments}
use Rattle.roff_scan.specs.Unread.Kept.{kept_by}
use Rattle.roff_scan.proofs.RunKinds.{run-room}
use Rattle.roff_scan.proofs.Runs.{none-whole, run_in_front, run_no_newline, takes_none, takes_run}
use Rattle.roff_scan.proofs.Sound.{sound-part}
use Rattle.roff_scan.proofs.unread.Unread.take_held.Goals as goal

pub returns-then-is_empty-clause-takes : goal.returns-then-is_empty-clause-takes
returns-then-is_empty-clause-takes g c =
    let kept = kept_by c.self.inside in
    let ready = g.S.ByteSource.ready c.args.source.now in
    let empty : c.front_of-front.result.now ≡ [] = search rules in
    let room = rw (← c.self.view_is) at c.room_for-most.ensures.all in
    rw (← c.self.view_is)
    (takes_none c.args.kind (g.S.ByteSource.gives c.args.source.now) ready kept c.self.invariant.within.charge
    (none-whole c.args.kind ready kept c.front_of-front.result.now c.room_for-most.result empty c.front_of-front.ensures.whole
    (λ goes. run-room c.args.kind kept c.room_for-most.result c.requires goes c.self.invariant.within.charge room)))

pub invariant_of-self : goal.invariant_of-self
invariant_of-self g c =
    sound-part c.self.inside c.self.invariant c.args.kind _ _ _ _ _ c.take_part-count.ensures.takes c.front_of-front.ensures.few (rw (← c.self.view_is) at c.room_for-most.ensures.stack)

pub pass_front-requires-clause-front : goal.pass_front-requires-clause-front
pass_front-requires-clause-front g c =
    let kept = kept_by c.self.inside in
    let bytes = rw (← c.self.view_is) at c.room_for-most.ensures.bytes in
    let stands = run_in_front c.args.kind (g.S.ByteSource.ready c.args.source.now) kept c.front_of-front.result.now c.take_part-count.result c.room_for-most.result
    c.front_of-front.ensures.among c.front_of-front.ensures.bytes c.take_part-count.ensures.takes.few (omega (arith, bytes, c.front_of-front.ensures.few)) in
    record { among = stands.among; within = stands.within }

pub pass_front-requires-clause-plain : goal.pass_front-requires-clause-plain
pass_front-requires-clause-plain g c = λ none.
    run_no_newline c.args.kind (g.S.ByteSource.ready c.args.source.now) (kept_by c.self.inside) c.front_of-front.result.now c.take_part-count.result c.room_for-most.result
    c.front_of-front.ensures.among c.front_of-front.ensures.bytes c.take_part-count.ensures.takes.few _ c.take_part-count.ensures.takes.are_of c.take_part-count.ensures.takes.half_read
    (sym c.has_newlines.ensures ∙ none)

pub returns-clause-takes : goal.returns-clause-takes
returns-clause-takes g c =
    let kept = kept_by c.self.inside in
    let ready = g.S.ByteSource.ready c.args.source.now in
    let gave = g.S.ByteSource.gives c.args.source.now in
    let gives = g.S.ByteSource.gives c.pass_front.new.source in
    let front = c.front_of-front.result.now in
    let part = c.take_part-count.ensures.takes in
    let most = c.room_for-most.result in
    let room = rw (← c.self.view_is) at c.room_for-most.ensures.all in
    rw (← c.self.view_is)
    (takes_run c.args.kind ready kept front c.take_part-count.result most c.front_of-front.ensures.among c.front_of-front.ensures.bytes part.few gave gives
    c.take_part-count.new.escapes.escapes c.take_part-count.new.arguments.arguments c.pass_front.new.self c.requires part.are_of part.fewer
    (ap (λ (k : KeptArguments). k.arguments) part.held) part.half_read part.whole c.front_of-front.ensures.whole
    (λ goes. run-room c.args.kind kept most c.requires goes c.self.invariant.within.charge room) c.pass_front.ensures.passes)
