use Rattle.std.proofs.Common.{◌≡◌, ◌+◌, true, arith}
use Rattle.input_model.specs.Input.{is_none_ahead}
use Rattle.roff_scan.specs.Unread.Calls.{NoNewline, front_bytes}
use Rattle.roff_scan.specs.Unread.Kept.{kept_by}
use Rattle.roff_scan.specs.Unread.Lines.{StandsNewline}
use Rattle.roff_scan.proofs.Fronts.{among-ready}
use Rattle.roff_scan.proofs.LinesHeld.{passes_ended}
use Rattle.roff_scan.proofs.unread.Unread.end_line_ready.Goals as goal

pub pass-requires-clause-within : goal.pass-requires-clause-within
pass-requires-clause-within g c =
    let kept = kept_by c.self.inside in
    let ready = g.S.ByteSource.ready c.args.source.now in
    let stands : StandsNewline c.args.count ready kept = rw (← c.self.view_is) at c.requires.ended in
    among-ready ready kept (c.args.count + 1) stands.front (omega arith) (rw (← c.self.view_is) at c.requires.none_ahead)

pub returns-clause-passes : goal.returns-clause-passes
returns-clause-passes g c =
    let kept = kept_by c.self.inside in
    let ready = g.S.ByteSource.ready c.args.source.now in
    let stands : StandsNewline c.args.count ready kept = rw (← c.self.view_is) at c.requires.ended in
    let none : is_none_ahead kept.input.ahead ≡ true = rw (← c.self.view_is) at c.requires.none_ahead in
    let plain : NoNewline (front_bytes c.args.count ready kept) = rw (← c.self.view_is) at c.requires.plain in
    rw (← c.self.view_is, c.count.ensures.counts)
    (passes_ended ready kept c.args.count stands none plain (g.S.ByteSource.gives c.args.source.now) (g.S.ByteSource.gives c.pass.new.self) c.pass.ensures.gives)
