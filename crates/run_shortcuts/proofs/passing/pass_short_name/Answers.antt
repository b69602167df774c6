use Rattle.read_shortcuts.specs.ControlFronts.{is_past}
use Rattle.std.proofs.Common.{ap}
use Rattle.run_turns.proofs.ComingFurther.{comes_any}
use Rattle.run_shortcuts.proofs.ControlsRead.{comes_behind, comes_other}
use Rattle.run_shortcuts.proofs.LinesEnded.{comes-line}
use Rattle.run_shortcuts.proofs.PassingOn.{goes_further_begun}
use Rattle.page_bytes.specs.Told.{told_by}
use Rattle.run_shortcuts.proofs.passing.pass_short_name.Goals as goal

pub returns-in-HeldToEnd : goal.returns-in-HeldToEnd
returns-in-HeldToEnd g c =
    let out = g.O.ByteSink.sunk c.args.out.now in
    let err = told_by g.E.MessageSink c.args.err.now in
    let read = c.read_short_front.ensures.read c.args.run.now.interpreter.formatter.composer in
    comes_any _
    (comes-line _ _ _ _ _ _ out err c.args.run.now _ _ (read.line c.in-HeldToEnd.is) _ _ _ read.notes read.failures (c.end_control_line.ensures _))

pub returns-in-Dropped : goal.returns-in-Dropped
returns-in-Dropped g c =
    let out = g.O.ByteSink.sunk c.args.out.now in
    let err = told_by g.E.MessageSink c.args.err.now in
    let read = c.read_short_front.ensures.read c.args.run.now.interpreter.formatter.composer in
    goes_further_begun _ _ _ _ _ _ out err c.args.run.now _ _ (read.past (ap is_past c.in-Dropped.is)) (read.dropped c.in-Dropped.is) read.notes read.failures

pub returns-in-Held : goal.returns-in-Held
returns-in-Held g c =
    let read = c.read_short_front in
    let out = g.O.ByteSink.sunk c.args.out.now in
    let err = told_by g.E.MessageSink c.args.err.now in
    comes_behind g.S.ByteSource c.args.source.now read.new.source out err c.args.run.now read.new.unread read.new.reader _
    (read.ensures.read c.args.run.now.interpreter.formatter.composer) _ _ _ _ _ c.pass_behind.ensures (ap is_past c.in-Held.is)

pub pass_behind-requires : goal.pass_behind-requires
pass_behind-requires g c = (c.read_short_front.ensures.read c.args.run.now.interpreter.formatter.composer).held _ c.in-Held.is

pub pass_behind-requires-in-HeldForCall : goal.pass_behind-requires-in-HeldForCall
pass_behind-requires-in-HeldForCall g c = (c.read_short_front.ensures.read c.args.run.now.interpreter.formatter.composer).call _ c.in-HeldForCall.is

pub returns-in-HeldForCall : goal.returns-in-HeldForCall
returns-in-HeldForCall g c =
    let read = c.read_short_front in
    let out = g.O.ByteSink.sunk c.args.out.now in
    let err = told_by g.E.MessageSink c.args.err.now in
    comes_behind g.S.ByteSource c.args.source.now read.new.source out err c.args.run.now read.new.unread read.new.reader _
    (read.ensures.read c.args.run.now.interpreter.formatter.composer) _ _ _ _ _ c.pass_behind-in-HeldForCall.ensures (ap is_past c.in-HeldForCall.is)

pub returns-in_default : goal.returns-in_default
returns-in_default g c =
    let read = c.read_short_front in
    let out = g.O.ByteSink.sunk c.args.out.now in
    let err = told_by g.E.MessageSink c.args.err.now in
    comes_other g.S.ByteSource c.args.source.now read.new.source out err c.args.run.now read.new.unread read.new.reader _
    (read.ensures.read c.args.run.now.interpreter.formatter.composer) _ _ _ _ _ c.pass_behind_front.ensures c.in_default.not-HeldToEnd
