use Rattle.std.proofs.Common.{◌≡◌, ◌+◌, take, ap, subst}
use Rattle.input_arguments.specs.ArgumentTexts.Kept.{KeptArguments, StopsAt}
use Rattle.input_model.specs.Arguments.{Arguments, bytes_held}
use Rattle.roff_scan.specs.Unread.Calls.{NoNewline, PassesFront, front_bytes}
use Rattle.roff_scan.specs.Unread.Kept.{kept_by}
use Rattle.roff_scan.specs.Unread.Lines.{ended_by, with_held}
use Rattle.roff_scan.specs.declared.run_kind.RunKind.TheVariants.{Arguments as ArgumentsRun}
use Rattle.roff_scan.proofs.LinesHeld.{all_plain, all_within, holds_line}
use Rattle.roff_scan.proofs.RunKinds.{run-begun}
use Rattle.roff_scan.proofs.Sound.{sound-arguments}
use Rattle.roff_scan.proofs.unread.Unread.hold_behind.Goals as goal

pub invariant_of-self : goal.invariant_of-self
invariant_of-self g c =
    let kept = kept_by c.self.inside in
    let rest = c.bytes_behind-rest.result.now in
    let part = c.take_front-count.ensures.takes in
    let stack = rw (← c.self.view_is) at c.line_room-room.ensures.stack in
    sound-arguments c.self.inside c.self.invariant c.take_front-count.new.self _ part.taken
    (run-begun ArgumentsRun (take c.take_front-count.result rest) kept.input.arguments c.self.invariant.begun)
    (all_within c.args.most (g.S.ByteSource.ready c.args.source.now) kept c.front_of-front.result.now rest c.args.skipped c.take_front-count.result c.line_room-room.result
    c.bytes_behind-rest.ensures c.front_of-front.ensures.bytes c.front_of-front.ensures.among c.front_of-front.ensures.few part.few c.self.invariant.within stack)

pub pass_to-requires-clause-plain : goal.pass_to-requires-clause-plain
pass_to-requires-clause-plain g c =
    let kept = kept_by c.self.inside in
    let ready = g.S.ByteSource.ready c.args.source.now in
    let part = c.take_front-count.ensures.takes in
    let plain : NoNewline (front_bytes c.args.skipped ready kept) = rw (← c.self.view_is) at c.requires.plain in
    all_plain c.args.most ready kept c.front_of-front.result.now c.bytes_behind-rest.result.now c.args.skipped c.take_front-count.result c.line_room-room.result
    c.bytes_behind-rest.ensures c.front_of-front.ensures.bytes c.front_of-front.ensures.among c.front_of-front.ensures.few part.few plain part.plain

pub returns-clause-holds : goal.returns-clause-holds
returns-clause-holds g c =
    let kept = kept_by c.self.inside in
    let ready = g.S.ByteSource.ready c.args.source.now in
    let part = c.take_front-count.ensures.takes in
    let stack = rw (← c.self.view_is) at c.line_room-room.ensures.stack in
    let room = rw (← c.self.view_is) at c.line_room-room.ensures.room in
    let there : c.take_front-count.new.self.arguments ≡ bytes_held (take c.take_front-count.result c.bytes_behind-rest.result.now) kept.input.arguments =
    ap (λ (k : KeptArguments). k.arguments) part.taken in
    rw (← c.self.view_is)
    (holds_line c.args.most ready kept c.front_of-front.result.now c.bytes_behind-rest.result.now c.args.skipped c.take_front-count.result c.line_room-room.result
    c.bytes_behind-rest.ensures c.front_of-front.ensures.bytes c.front_of-front.ensures.among c.front_of-front.ensures.few part.few
    (g.S.ByteSource.gives c.args.source.now) (g.S.ByteSource.gives c.pass_to.new.source) c.standing_at-behind.result c.pass_to.new.self part.plain part.fewer c.self.invariant.within stack
    (subst (λ (a : Arguments). PassesFront (g.S.ByteSource.gives c.args.source.now) (g.S.ByteSource.gives c.pass_to.new.source)
    (ended_by c.standing_at-behind.result (front_bytes (c.args.skipped + c.take_front-count.result) ready kept)) (with_held a kept) c.pass_to.new.self) there c.pass_to.ensures.passes)
    c.front_of-front.ensures.whole room
    (subst (λ (a : Arguments). StopsAt c.args.most c.bytes_behind-rest.result.now c.take_front-count.result a) there c.take_front-count.ensures.stops) c.standing_at-behind.ensures)
