use Rattle.std.proofs.Common.{sym, ◌∙◌}
use Rattle.run_turns.proofs.ComingFurther.{comes_none}
use Rattle.run_shortcuts.proofs.PassedOver.{comes_line_begun, never-not, never-on}
use Rattle.run_shortcuts.proofs.LinesAtOnce.{comes_line, no_newline_told, stands_newline}
use Rattle.page_bytes.specs.Told.{told_by}
use Rattle.run_shortcuts.proofs.unfilled.end_line_in_front.Goals as goal

pub pass_line-requires-clause-plain : goal.pass_line-requires-clause-plain
pass_line-requires-clause-plain g c =
    let ends = c.end_front-done.ensures in
    no_newline_told _ _ _ ends.told (g.S.ByteSource.ready c.args.source.now) c.args.run.now.unread ends.tells c.front-front.ensures.bytes

pub pass_line-requires-clause-ended : goal.pass_line-requires-clause-ended
pass_line-requires-clause-ended g c = stands_newline _ _ _ _ _ _ c.in-Some.ensures.stands c.front-front.ensures.bytes c.front-front.ensures.front

pub returns-in-Some-clause-ends : goal.returns-in-Some-clause-ends
returns-in-Some-clause-ends g c =
    let passed = c.pass_line.ensures in
    let out = g.O.ByteSink.sunk c.args.out.now in
    let err = told_by g.E.MessageSink c.args.err.now in
    rw c.ended_behind.ensures
    (comes_line_begun c.go_on_behind.result
    (comes_line _ _ _ _ _ _ _ out err c.args.run.now c.pass_line.new.self _ _ c.requires.none_half c.front-front.ensures.bytes passed.passes c.in-Some.ensures.stands.ends.words.some
    passed.notes passed.failures c.end_front-done.new.self _ c.end_front-done.result c.end_front-done.ensures c.go_on_behind.new.run _ c.go_on_behind.result
    (λ told line takes. c.go_on_behind.ensures _ c.args.run.now.interpreter told line _ takes) c.in-Some.ensures.reads))

pub returns-in-None-clause-ends : goal.returns-in-None-clause-ends
returns-in-None-clause-ends g c = comes_none _ _ _ _

pub returns-in-Some-clause-unchanged : goal.returns-in-Some-clause-unchanged
returns-in-Some-clause-unchanged g c = λ is. absurd (never-not c.go_on_behind.result (sym c.ended_behind.ensures ∙ is))

pub returns-in-Some-clause-sinks : goal.returns-in-Some-clause-sinks
returns-in-Some-clause-sinks g c = λ is. absurd (never-not c.go_on_behind.result (sym c.ended_behind.ensures ∙ is))

pub returns-in-Some-clause-all : goal.returns-in-Some-clause-all
returns-in-Some-clause-all g c = λ is. absurd (never-on c.go_on_behind.result (sym c.ended_behind.ensures ∙ is))
