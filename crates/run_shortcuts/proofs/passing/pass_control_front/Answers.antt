use Rattle.std.proofs.Common.{ap, subst, sym, ◌∙◌}
use Rattle.read_shortcuts.specs.ControlFronts.{BeginsControl, is_past, is_read}
use Rattle.read_lines.specs.Reader.State.{ReaderState}
use Rattle.run_model.specs.Reading.Items.{PageUnread}
use Rattle.run_model.specs.Reading.Ends.{due}
use Rattle.run_model.specs.Reading.Waiting.{line_waits}
use Rattle.run_turns.proofs.ComingFurther.{comes_any}
use Rattle.run_shortcuts.proofs.ConditionsAtOnce.{goes_further_at_once}
use Rattle.run_shortcuts.proofs.ControlsRead.{comes_behind, comes_unread}
use Rattle.run_shortcuts.proofs.LinesEnded.{comes-line}
use Rattle.run_shortcuts.proofs.PassingEnds.{goes_further_returned}
use Rattle.run_shortcuts.proofs.PassingOn.{goes_further_begun}
use Rattle.page_bytes.specs.Told.{told_by}
use Rattle.run_shortcuts.proofs.passing.pass_control_front.Goals as goal

pub returns-in-Front : goal.returns-in-Front
returns-in-Front g c =
    let read = c.read_control_front in
    let out = g.O.ByteSink.sunk c.args.out.now in
    let err = told_by g.E.MessageSink c.args.err.now in
    comes_behind g.S.ByteSource c.args.source.now read.new.source out err c.args.run.now read.new.unread read.new.reader _ read.ensures.read _ _ _ _ _
    c.pass_behind_front.ensures (ap is_past c.in-Front.is)

pub returns-in-Dropped : goal.returns-in-Dropped
returns-in-Dropped g c =
    let out = g.O.ByteSink.sunk c.args.out.now in
    let err = told_by g.E.MessageSink c.args.err.now in
    let read = c.read_control_front.ensures.read in
    goes_further_begun _ _ _ _ _ _ out err c.args.run.now _ _ (read.past (ap is_past c.in-Dropped.is)) (read.dropped c.in-Dropped.is) read.notes read.failures

pub returns-in-Held : goal.returns-in-Held
returns-in-Held g c =
    let read = c.read_control_front in
    let out = g.O.ByteSink.sunk c.args.out.now in
    let err = told_by g.E.MessageSink c.args.err.now in
    comes_behind g.S.ByteSource c.args.source.now read.new.source out err c.args.run.now read.new.unread read.new.reader _ read.ensures.read _ _ _ _ _
    c.pass_behind.ensures (ap is_past c.in-Held.is)

pub pass_behind-requires : goal.pass_behind-requires
pass_behind-requires g c = c.read_control_front.ensures.read.held _ c.in-Held.is

pub pass_behind-requires-in-HeldForCall : goal.pass_behind-requires-in-HeldForCall
pass_behind-requires-in-HeldForCall g c = c.read_control_front.ensures.read.call _ c.in-HeldForCall.is

pub returns-in-HeldForCall : goal.returns-in-HeldForCall
returns-in-HeldForCall g c =
    let read = c.read_control_front in
    let out = g.O.ByteSink.sunk c.args.out.now in
    let err = told_by g.E.MessageSink c.args.err.now in
    comes_behind g.S.ByteSource c.args.source.now read.new.source out err c.args.run.now read.new.unread read.new.reader _ read.ensures.read _ _ _ _ _
    c.pass_behind-in-HeldForCall.ensures (ap is_past c.in-HeldForCall.is)

pub returns-in-HeldToEnd : goal.returns-in-HeldToEnd
returns-in-HeldToEnd g c =
    let out = g.O.ByteSink.sunk c.args.out.now in
    let err = told_by g.E.MessageSink c.args.err.now in
    let read = c.read_control_front.ensures.read in
    comes_any _
    (comes-line _ _ _ _ _ _ out err c.args.run.now _ _ (read.line c.in-HeldToEnd.is) _ _ _ read.notes read.failures (c.end_control_line.ensures _))

pub pass_condition-requires : goal.pass_condition-requires
pass_condition-requires g c = c.read_control_front.ensures.read.condition c.in-Condition.is

pub returns-in-Condition : goal.returns-in-Condition
returns-in-Condition g c =
    let read = c.read_control_front in
    let out = g.O.ByteSink.sunk c.args.out.now in
    let err = told_by g.E.MessageSink c.args.err.now in
    comes_behind g.S.ByteSource c.args.source.now read.new.source out err c.args.run.now read.new.unread read.new.reader _ read.ensures.read _ _ _ _ _
    (c.pass_condition.ensures out err) (ap is_past c.in-Condition.is)

pub returns-in-Decided : goal.returns-in-Decided
returns-in-Decided g c =
    let out = g.O.ByteSink.sunk c.args.out.now in
    let err = told_by g.E.MessageSink c.args.err.now in
    let read = c.read_control_front.ensures.read in
    goes_further_at_once _ _ _ _ _ _ out err c.args.run.now _ _ (read.decides c.in-Decided.is) read.notes read.failures

pub returns-in-Nothing : goal.returns-in-Nothing
returns-in-Nothing g c =
    let read = c.read_control_front in
    let kept = read.ensures.read.unchanged (ap is_read c.in-Nothing.is) in
    let ends = c.pass_return.ensures in
    let out = g.O.ByteSink.sunk c.args.out.now in
    let err = told_by g.E.MessageSink c.args.err.now in
    comes_unread g.S.ByteSource c.args.source.now read.new.source out err c.args.run.now read.new.unread read.new.reader _ read.ensures.read _ _ _ _ _
    (goes_further_returned _ _ _ (ap (λ (r : ReaderState). due r.reading) kept.0 ∙ c.requires.none_due)
    (λ place. ap (λ (r : ReaderState). line_waits r.reading place) kept.0 ∙ c.requires.takes place) (ap (λ (u : PageUnread). u.input.escapes) kept.1 ∙ c.requires.none_half)
    ends.passes ends.within ends.reads ends.unchanged _ _ _) (ap is_read c.in-Nothing.is)

pub returns-in-Escape : goal.returns-in-Escape
returns-in-Escape g c =
    let read = c.read_control_front in
    let out = g.O.ByteSink.sunk c.args.out.now in
    let err = told_by g.E.MessageSink c.args.err.now in
    comes_unread g.S.ByteSource c.args.source.now read.new.source out err c.args.run.now read.new.unread read.new.reader _ read.ensures.read _ _ _ _ _
    (c.put_string.ensures.further out err) (ap is_read c.in-Escape.is)

pub pass_short_name-requires-clause-begins : goal.pass_short_name-requires-clause-begins
pass_short_name-requires-clause-begins g c =
    let kept = c.read_control_front.ensures.read.unchanged (ap is_read c.in-Short.is) in
    subst (λ (r : ReaderState). BeginsControl r.reading) (sym kept.0) c.requires.begins

pub pass_short_name-requires-clause-none_due : goal.pass_short_name-requires-clause-none_due
pass_short_name-requires-clause-none_due g c =
    let kept = c.read_control_front.ensures.read.unchanged (ap is_read c.in-Short.is) in
    ap (λ (r : ReaderState). due r.reading) kept.0 ∙ c.requires.none_due

pub pass_short_name-requires-clause-none_half : goal.pass_short_name-requires-clause-none_half
pass_short_name-requires-clause-none_half g c =
    let kept = c.read_control_front.ensures.read.unchanged (ap is_read c.in-Short.is) in
    ap (λ (u : PageUnread). u.input.escapes) kept.1 ∙ c.requires.none_half

pub returns-in-Short : goal.returns-in-Short
returns-in-Short g c =
    let read = c.read_control_front in
    let out = g.O.ByteSink.sunk c.args.out.now in
    let err = told_by g.E.MessageSink c.args.err.now in
    comes_unread g.S.ByteSource c.args.source.now read.new.source out err c.args.run.now read.new.unread read.new.reader _ read.ensures.read _ _ _ _ _
    c.pass_short_name.ensures (ap is_read c.in-Short.is)
