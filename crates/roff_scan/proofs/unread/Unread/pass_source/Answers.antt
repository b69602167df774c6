use Rattle.std.proofs.Common.{◌≡◌, true}
use Rattle.input_model.specs.Input.{is_none_ahead}
use Rattle.roff_scan.specs.Unread.Calls.{IsFront, NoNewline, front_bytes}
use Rattle.roff_scan.specs.Unread.Kept.{kept_by}
use Rattle.roff_scan.proofs.Fronts.{among-ready, passes_source}
use Rattle.roff_scan.proofs.unread.Unread.pass_source.Goals as goal

pub pass-requires-clause-within : goal.pass-requires-clause-within
pass-requires-clause-within g c =
    let kept = kept_by c.self.inside in
    let ready = g.S.ByteSource.ready c.args.source.now in
    let front : IsFront c.args.count ready kept = rw (← c.self.view_is) at c.requires.front in
    among-ready ready kept c.args.count front c.requires.some (rw (← c.self.view_is) at c.requires.none_ahead)

pub returns-clause-passes : goal.returns-clause-passes
returns-clause-passes g c =
    let kept = kept_by c.self.inside in
    let ready = g.S.ByteSource.ready c.args.source.now in
    let front : IsFront c.args.count ready kept = rw (← c.self.view_is) at c.requires.front in
    let none : is_none_ahead kept.input.ahead ≡ true = rw (← c.self.view_is) at c.requires.none_ahead in
    let plain : NoNewline (front_bytes c.args.count ready kept) = rw (← c.self.view_is) at c.requires.plain in
    rw (← c.self.view_is) (passes_source ready kept c.args.count front c.requires.some none (g.S.ByteSource.gives c.args.source.now)
    (g.S.ByteSource.gives c.pass.new.self) plain c.pass.ensures.gives)
